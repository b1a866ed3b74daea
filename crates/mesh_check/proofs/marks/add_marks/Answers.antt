use Rattle.std.proofs.Common.{◌≡◌, ◌<◌, ℕ, ℤ, List, [], ◌∷◌, ◌++◌, map, length, take, sym, ap, ap₂, ◌∙◌, subst, arith, rules}
use Rattle.std.proofs.lemmas.Bool.{cond-true, cond-false}
use Rattle.std.proofs.lemmas.Int.{to_z-of_z}
use mir.Val.{SFits, to_z, of_z}
use mir.Syntax.{w32}
use Rattle.std.proofs.lemmas.List.{length-map, append-nil}
use Rattle.mesh_defs.specs.Mesh.{Mesh, Mark}
use Rattle.plex_base.specs.Dim.{dim_number}
use Rattle.input_defs.specs.Content.{Element}
use Rattle.input_defs.specs.RightContent.{IsRight}
use Rattle.input_defs.specs.Meshes.{vertex_nodes, vertex_of, cells_of, mark_of}
use Rattle.input_laws.specs.place_laws.Places.{element_at}
use Rattle.mesh_check.proofs.element_places.Steps.{take-whole}
use Rattle.mesh_check.specs.Partly.{coordinates, partly}
use Rattle.mesh_check.proofs.Twists.{element-of}
use Rattle.mesh_check.proofs.Assembled.{marks_up_to, marked-is, next-mark, more-marks, all-marks}
use Rattle.mesh_check.proofs.marks.add_marks.Goals as goal
use Rattle.mesh_check.proofs.marks.add_marks.Goals.{then-is_marked+in_ok-put_positions+in_ok-add_mark, else-is_marked}

abbrev mark_with : ℕ → List ℕ → ℤ → Mark
mark_with d vs v = record { dim = d; vertices = vs; value = v }

made : {d d' : ℕ} {vs vs' : List ℕ} {v v' : ℤ} → d ≡ d' → vs ≡ vs' → v ≡ v' → mark_with d vs v ≡ mark_with d' vs' v'
made {d} {d'} {vs} {vs'} {v} {v'} a b e = ap₂ (λ x ys. mark_with x ys v) a b ∙ ap (λ x. mark_with d' vs' x) e

pub add_mark-requires : goal.add_mark-requires
add_mark-requires c =
    let p = c.args.places.now in
    let right = subst IsRight c.text-text.ensures c.nodes-nodes.ensures.right in
    let count : length c.args.on_points.now ≡ length p.elements = ap (λ bs. length bs) c.requires.on_points ∙ length-map p.elements _ in
    let low : c.loop-i.i < length p.elements = omega arith in
    let e = element-of p c.text-text.result.now c.loop-i.i _ c.text-text.ensures c.element-element.ensures in
    let fits : SFits w32 c.element-element.result.physical = search rules in
    let value = to_z-of_z w32 c.element-element.result.physical fits in
    let marked = marked-is p c.args.on_points.now c.loop-i.i (to_z w32 (of_z w32 c.element-element.result.physical)) c.is_marked.result c.requires.on_points low (value ∙ ap (λ (x : Element). x.physical) (sym e)) c.is_marked.ensures in
    let mark : Mark = record { dim = dim_number c.dim_of_type.result; vertices = c.deref.result.now; value = to_z w32 (of_z w32 c.element-element.result.physical) } in
    let is : mark ≡ mark_of (vertex_nodes p) (element_at p.elements c.loop-i.i) =
    made c.dim_of_type.ensures (c.deref.ensures.value ∙ c.in_ok-put_positions.ensures ∙ ap (λ vs. map (vertex_of vs) c.element-element.result.nodes.now) c.requires.vertices) value ∙ ap (mark_of (vertex_nodes p)) (sym e) in
    let next = next-mark p c.loop-i.i c.loop-i.builder mark right low c.loop-i.invariant is (sym marked ∙ c.if-is_marked.true) in
    record { few = next.0; point = next.1 }

pub loop-i-preserved : goal.loop-i-preserved
loop-i-preserved c =
    let p = c.args.places.now in
    let right = subst IsRight c.text-text.ensures c.nodes-nodes.ensures.right in
    let count : length c.args.on_points.now ≡ length p.elements = ap (λ bs. length bs) c.requires.on_points ∙ length-map p.elements _ in
    let low : c.loop-i.i < length p.elements = omega arith in
    let e = element-of p c.text-text.result.now c.loop-i.i _ c.text-text.ensures c.element-element.ensures in
    let fits : SFits w32 c.element-element.result.physical = search rules in
    let value = to_z-of_z w32 c.element-element.result.physical fits in
    let marked = marked-is p c.args.on_points.now c.loop-i.i (to_z w32 (of_z w32 c.element-element.result.physical)) c.is_marked.result c.requires.on_points low (value ∙ ap (λ (x : Element). x.physical) (sym e)) c.is_marked.ensures in
    elim c.if-is_marked.branch [
      | then-is_marked+in_ok-put_positions+in_ok-add_mark w ↦
          let mark : Mark = record { dim = dim_number w.dim_of_type.result; vertices = w.deref.result.now; value = to_z w32 (of_z w32 c.element-element.result.physical) } in
          let is : mark ≡ mark_of (vertex_nodes p) (element_at p.elements c.loop-i.i) =
          made w.dim_of_type.ensures (w.deref.ensures.value ∙ w.in_ok-put_positions.ensures ∙ ap (λ vs. map (vertex_of vs) c.element-element.result.nodes.now) c.requires.vertices) value ∙ ap (mark_of (vertex_nodes p)) (sym e) in
          w.builder-is ∙ w.in_ok-add_mark.ensures.ok ∙ ap (λ (m : Mesh). record m { marks = m.marks ++ mark ∷ [] }) c.loop-i.invariant
          ∙ ap (λ ms. partly p (coordinates p) (cells_of p) (marks_up_to p c.loop-i.i ++ ms) [] []) (ap (λ x. x ∷ []) is ∙ sym (cond-true c.is_marked.result _ [] w.if-is_marked.true))
          ∙ more-marks p c.loop-i.i c.is_marked.result low marked
      | else-is_marked w ↦
          w.builder-is ∙ c.loop-i.invariant ∙ ap (λ ms. partly p (coordinates p) (cells_of p) ms [] []) (sym (append-nil (marks_up_to p c.loop-i.i)) ∙ ap (λ ms. marks_up_to p c.loop-i.i ++ ms) (sym (cond-false c.is_marked.result _ [] w.if-is_marked.false)))
          ∙ more-marks p c.loop-i.i c.is_marked.result low marked
    ]

pub returns : goal.returns
returns c =
    let p = c.args.places.now in
    let count : length c.args.on_points.now ≡ length p.elements = ap (λ bs. length bs) c.requires.on_points ∙ length-map p.elements _ in
    let all : take c.loop-i.i p.elements ≡ p.elements = take-whole p.elements c.loop-i.i (omega arith) (omega arith) in
    c.loop-i.invariant ∙ ap (λ ms. partly p (coordinates p) (cells_of p) ms [] []) (all-marks p c.loop-i.i all)
