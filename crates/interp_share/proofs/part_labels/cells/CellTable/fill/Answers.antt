use Rattle.std.proofs.Common.{◌≡◌, ◌<◌, ℕ, false, [], ◌∷◌, ◌++◌, length, sym, ap, ◌∙◌, arith}
use Rattle.std.specs.List.{list_any}
use Rattle.std.proofs.lemmas.Bool.{cond-false}
use Rattle.std.proofs.lemmas.List.{map_more, length-map}
use Rattle.plain_lists.specs.Lists.{same_list}
use Rattle.plain_lists.proofs.Each.{all_at}
use Rattle.mesh_defs.specs.Mesh.{Cell}
use Rattle.rank_chart_laws.specs.mark_laws.Sets.{filled, IsShort}
use Rattle.dist_state.specs.scatter_state.Parts.{cell_at, number_of}
use Rattle.interp_share.specs.part_labels.Sets.{set_of}
use Rattle.interp_share.proofs.part_labels.Given.{short-cells}
use Rattle.interp_share.proofs.part_labels.Tables.{set-new}
use Rattle.interp_share.proofs.part_labels.cells.CellTable.fill.Goals as goal

pub set_on-requires : goal.set_on-requires
set_on-requires c =
    let g = c.requires.given in
    let cells = c.args.part.now.cells in
    let count = ap length c.cells-i-end.ensures.cells ∙ length-map cells number_of in
    let low : c.loop-i.i < length cells = omega (arith, c.loop-i-test.true, count) in
    let short = all_at (λ (d : ℕ × Cell). IsShort d.1.vertices) cells c.loop-i.i (cell_at [] 0) (short-cells c.args.part.now g.m g.a g.n g.r g.is) low in
    omega (arith, short.few, ap length c.corners.ensures)

pub loop-i-preserved : goal.loop-i-preserved
loop-i-preserved c =
    let g = c.requires.given in
    let part = c.args.part.now in
    let cells = c.args.part.now.cells in
    let i = c.loop-i.i in
    let none = cell_at [] 0 in
    let count = ap length c.cells-i-end.ensures.cells ∙ length-map cells number_of in
    let low : i < length cells = omega (arith, c.loop-i-test.true, count) in
    let keys = c.loop-i.self.sets.keys in
    let set : c.set_on.result ≡ set_of (cell_at cells i) = c.set_on.ensures ∙ ap filled c.corners.ensures in
    let new : list_any (same_list c.set_on.result) keys ≡ false = (λ j. list_any (same_list (set j)) (c.loop-i.invariant j)) ∙ set-new part g.m g.a g.n g.r g.is i none low in
    c.in_ok-insert.ensures.keys ∙ cond-false (list_any (same_list c.set_on.result) keys) keys (keys ++ c.set_on.result ∷ []) new
    ∙ (λ j. c.loop-i.invariant j ++ set j ∷ []) ∙ sym (map_more set_of cells i none low)
