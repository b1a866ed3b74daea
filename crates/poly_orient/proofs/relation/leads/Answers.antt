use Rattle.std.proofs.Common.{◌≡◌, ◌<◌, ◌≤◌, length, get_or, [], ◌∷◌, ◌++◌, sym, ap, ◌∙◌, arith, refl}
use Rattle.std.proofs.lemmas.List.{take_more, take_all, get_or-map, length-map}
use Rattle.plain_lists.specs.Lists.{picked}
use Rattle.mesh_defs.specs.Tables.{corner_count}
use Rattle.poly_orient.specs.Symmetries.{corners_listed}
use Rattle.poly_orient.proofs.Listed.{length_corners}
use Rattle.poly_orient.proofs.relation.leads.Goals as goal

pub loop-k-preserved : goal.loop-k-preserved
loop-k-preserved c =
    let k = c.loop-k.k in
    let corners = corners_listed c.args.p c.args.symmetry in
    let vertices = picked c.args.from.now corners in
    let within : k < length corners = omega (arith, c.loop-k-test.true, c.vertex_count-k-end.ensures, length_corners c.args.p c.args.symmetry c.requires.symmetry) in
    let width : length vertices ≡ length corners = length-map corners (λ i. get_or c.args.from.now i 0) in
    let entry : get_or vertices k 0 ≡ get_or c.args.to.now k 0 =
    get_or-map (λ i. get_or c.args.from.now i 0) corners k 0 0 within ∙ ap (λ i. get_or c.args.from.now i 0) (sym c.corner.ensures.corner) ∙ c.if-from-corner.false in
    take_more vertices k 0 (omega (arith, within, width)) ∙ (λ j. c.loop-k.invariant j ++ entry j ∷ [])
    ∙ sym (take_more c.args.to.now k 0 (omega (arith, c.loop-k-test.true, c.vertex_count-k-end.ensures, c.requires.to_corners)))

pub returns : goal.returns
returns c =
    let k = c.loop-k.k in
    let corners = corners_listed c.args.p c.args.symmetry in
    let vertices = picked c.args.from.now corners in
    let width : length vertices ≡ corner_count c.args.p = length-map corners (λ i. get_or c.args.from.now i 0) ∙ length_corners c.args.p c.args.symmetry c.requires.symmetry in
    let done : corner_count c.args.p ≤ k = omega (arith, c.loop-k-test.false, c.vertex_count-k-end.ensures) in
    (λ _. sym (take_all k vertices (omega (arith, width, done))) ∙ c.loop-k.invariant ∙ take_all k c.args.to.now (omega (arith, c.requires.to_corners, done)), λ _. refl)
