use Rattle.std.proofs.Common.{◌≡◌, ◌≤◌, ◌<◌, ◌∷◌, [], List, ℕ, false, length, map, take, get_or, rules, sym, ◌∙◌, subst, arith}
use Rattle.std.specs.List.{AllByRecursion}
use Rattle.plain_lists.specs.Lists.{picked}
use Rattle.mesh_defs.specs.Tables.{edges_of}
use Rattle.mesh_check.specs.element_points.Parts.{Part, part, edge_parts}
use Rattle.mesh_check.specs.element_points.Flags.{AreSet}
use Rattle.mesh_check.proofs.element_points.Setting.{set-absent, set-append}
use Rattle.mesh_check.proofs.element_points.Reading.{map-more}
use Rattle.mesh_check.proofs.element_points.Cells.{edge_parts-dim, edge-numbers}
use Rattle.mesh_check.proofs.element_points.parts.set_edges.Goals as goal

pub returns-then-not-has_lines : goal.returns-then-not-has_lines
returns-then-not-has_lines c =
    let off : c.args.has_lines ≡ false = search rules in
    set-absent c.args.places.now.elements (edge_parts c.args.poly c.args.nodes.now) 1 c.args.found.now (sym c.requires.lines ∙ off) (edge_parts-dim c.args.poly c.args.nodes.now)

pub set_flag-requires-clause-place : goal.set_flag-requires-clause-place
set_flag-requires-clause-place c =
    let low : c.loop-e.e < length (edges_of c.args.poly) = omega (arith, c.edge_count-e-end.ensures) in
    record {
      few = omega arith;
      numbers = subst (AllByRecursion (λ n. 1 ≤ n)) (sym c.edge.ensures) (edge-numbers c.args.poly c.args.nodes.now c.loop-e.e c.requires.place c.requires.corners low);
    }

pub loop-e-preserved : goal.loop-e-preserved
loop-e-preserved c =
    let es = c.args.places.now.elements in
    let edges = edges_of c.args.poly in
    let make : List ℕ → Part = λ x. part 1 (picked c.args.nodes.now x) in
    let low : c.loop-e.e < length edges = omega (arith, c.edge_count-e-end.ensures) in
    let one : AreSet es (make (get_or edges c.loop-e.e []) ∷ []) c.loop-e.found c.set_flag.new.found = subst (λ own. AreSet es (part 1 own ∷ []) c.loop-e.found c.set_flag.new.found) c.edge.ensures c.set_flag.ensures in
    subst (λ ps. AreSet es ps c.args.found.now c.set_flag.new.found) (sym (map-more make edges c.loop-e.e [] low))
    (set-append es (map make (take c.loop-e.e edges)) (make (get_or edges c.loop-e.e []) ∷ []) c.args.found.now c.loop-e.found c.set_flag.new.found c.loop-e.invariant one)
