use Rattle.std.proofs.Common.{◌≡◌, ◌+◌, ◌<◌, [], length, get_or, sym, ap, ◌∙◌, subst, arith}
use Rattle.std.specs.List.{AllByRecursion}
use Rattle.std.proofs.lemmas.List.{length-map, get_or-map}
use Rattle.dist_state.specs.scatter_state.Parts.{cell_at, number_of}
use Rattle.interp_share.specs.own_field_laws.Own.{part_points}
use Rattle.interp_share.specs.part_weights.Places.{AreWeights}
use Rattle.interp_share.proofs.part_weights.CellPoints.{here-low}
use Rattle.interp_share.proofs.part_weights.Adding.{weights-more, weights-fit}
use Rattle.interp_share.proofs.part_weights.weights.sum_weights.Goals as goal

pub add_at-requires-clause-places : goal.add_at-requires-clause-places
add_at-requires-clause-places c =
    let h = c.requires.some in
    let part = c.args.part.now in
    let within : c.loop-i.i < length part.cells = omega (arith, c.loop-i-test.true, ap length c.cells-cells.ensures.cells, length-map part.cells number_of) in
    let low = here-low part h.m h.a h.n h.r h.is c.loop-i.i within in
    let places = c.deref.ensures.value ∙ c.in_ok-list_places.ensures in
    let many = c.loop-i.invariant.many in
    subst (λ n. AllByRecursion (λ k. k < n) c.deref.result.now) (sym many) (subst (AllByRecursion (λ k. k < length (part_points part))) (sym places) low)

pub add_at-requires-clause-room : goal.add_at-requires-clause-room
add_at-requires-clause-room c =
    let h = c.requires.some in
    let part = c.args.part.now in
    let within : c.loop-i.i < length part.cells = omega (arith, c.loop-i-test.true, ap length c.cells-cells.ensures.cells, length-map part.cells number_of) in
    let number : c.from.result ≡ (cell_at part.cells c.loop-i.i).0 = c.from.ensures ∙ (ap (λ ns. get_or ns c.loop-i.i 0) c.cells-cells.ensures.cells ∙ get_or-map number_of part.cells c.loop-i.i (cell_at [] 0) 0 within) in
    weights-fit part h.m h.a h.n h.r h.is c.loop-i.i within (c.from.result + 1) c.deref.result.now c.loop-i.weights.items (ap (λ n. n + 1) number) (c.deref.ensures.value ∙ c.in_ok-list_places.ensures) c.loop-i.invariant

pub loop-i-preserved : goal.loop-i-preserved
loop-i-preserved c =
    let h = c.requires.some in
    let part = c.args.part.now in
    let within : c.loop-i.i < length part.cells = omega (arith, c.loop-i-test.true, ap length c.cells-cells.ensures.cells, length-map part.cells number_of) in
    let number : c.from.result ≡ (cell_at part.cells c.loop-i.i).0 = c.from.ensures ∙ (ap (λ ns. get_or ns c.loop-i.i 0) c.cells-cells.ensures.cells ∙ get_or-map number_of part.cells c.loop-i.i (cell_at [] 0) 0 within) in
    weights-more part h.m h.a h.n h.r h.is c.loop-i.i within (c.from.result + 1) c.deref.result.now c.loop-i.weights.items c.add_at.new.weights.items (ap (λ n. n + 1) number) (c.deref.ensures.value ∙ c.in_ok-list_places.ensures) c.loop-i.invariant c.add_at.ensures

pub returns : goal.returns
returns c =
    let part = c.args.part.now in
    let end : c.loop-i.i ≡ length part.cells = omega (arith, c.loop-i-test.false, c.loop-i.auto.i-end, ap length c.cells-cells.ensures.cells, length-map part.cells number_of) in
    subst (λ n. AreWeights part n c.loop-i.weights.items) end c.loop-i.invariant
