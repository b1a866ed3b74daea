use Rattle.std.proofs.Common.{◌≡◌, ◌<◌, ◌||◌, ℕ, Bool, true, false, length, map, take, sym, ap, ◌∙◌, arith}
use Rattle.std.specs.Prelude.{replicate}
use Rattle.std.proofs.lemmas.Bool.{eq-eqb, ne_eqb}
use Rattle.std.proofs.lemmas.List.{length-map}
use Rattle.input_defs.specs.Content.{Node, Element}
use Rattle.input_defs.specs.Sections.{has_number}
use Rattle.input_defs.specs.RightContent.{node_numbers}
use Rattle.input_defs.specs.Meshes.{is_top}
use Rattle.mesh_check.specs.mesh_vertices.Vertices.{is_used_by}
use Rattle.mesh_check.proofs.mesh_vertices.Listing.{flags-start, written_back}
use Rattle.mesh_check.proofs.mesh_vertices.Using.{used-next, used-skips}
use Rattle.mesh_check.proofs.mesh_vertices.used_nodes.used_nodes.Goals as goal
use Rattle.mesh_check.proofs.mesh_vertices.used_nodes.used_nodes.Goals.{then-dim_of_type-number, else-dim_of_type-number}

pub loop-i-init : goal.loop-i-init
loop-i-init c =
    let count : c.nodes.result ≡ length (node_numbers c.args.text.now) = omega (arith, c.nodes.ensures.nodes, length-map c.args.text.now.nodes (λ (node : Node). node.number)) in
    c.in_ok-used.ensures.items_if_clones_equal (λ y h. h) ∙ ap (λ n. replicate n false) count ∙ flags-start (node_numbers c.args.text.now)

pub loop-i-preserved : goal.loop-i-preserved
loop-i-preserved c =
    let low : c.loop-i.i < length c.args.text.now.elements = omega (arith, c.elements-i-end.ensures) in
    let e : Element = record { number = c.element-element.result.number; kind = c.element-element.result.kind; physical = c.element-element.result.physical; nodes = c.element-element.result.nodes.now } in
    let table : c.in_ok-table.table ≡ node_numbers c.args.text.now = c.in_ok-table.ensures ∙ c.in_ok-node_numbers.ensures in
    let test : ℕ → Bool = is_used_by c.args.text.now (take c.loop-i.i c.args.text.now.elements) in
    elim c.if-dim_of_type-number.branch [
      | then-dim_of_type-number w ↦
          let top : is_top c.args.text.now e ≡ true = eq-eqb _ _ (sym c.dim_of_type.ensures ∙ w.if-dim_of_type-number.true ∙ c.number.ensures ∙ c.requires) in
          let long : length w.set_flags.new.flags ≡ c.loop-i.used.len = omega (arith, w.set_flags.auto.flags, w.deref_mut.ensures.len) in
          ap (λ v. v.items) w.used-is ∙ written_back c.loop-i.used.len w.set_flags.new.flags c.loop-i.used.items long ∙ w.set_flags.ensures test (w.deref_mut.ensures.value ∙ c.loop-i.invariant ∙ ap (map test) (sym table)) ∙ ap (map (λ n. test n || has_number e.nodes n)) table
          ∙ used-next c.args.text.now c.args.text.now.elements c.loop-i.i e low c.element-element.ensures (node_numbers c.args.text.now) top
      | else-dim_of_type-number w ↦
          let other : is_top c.args.text.now e ≡ false = ne_eqb _ _ (λ same. w.if-dim_of_type-number.false (c.dim_of_type.ensures ∙ same ∙ sym (c.number.ensures ∙ c.requires))) in
          ap (λ v. v.items) w.used-is ∙ c.loop-i.invariant ∙ used-skips c.args.text.now c.args.text.now.elements c.loop-i.i e low c.element-element.ensures (node_numbers c.args.text.now) other
    ]
