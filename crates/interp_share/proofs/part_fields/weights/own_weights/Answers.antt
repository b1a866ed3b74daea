use Rattle.std.proofs.Common.{◌≡◌, ◌<◌, [], map, length, refl, sym, ap, subst, ◌∙◌, arith}
use Rattle.plain_lists.specs.Lists.{below}
use Rattle.plain_lists.proofs.Below.{map-below-length}
use Rattle.dist_state.specs.scatter_state.Whole.{part_at}
use Rattle.interp_share.specs.own_field_laws.Own.{IsSomePart, part_weights}
use Rattle.interp_share.proofs.part_fields.Scatters.{some-part}
use Rattle.interp_share.proofs.part_fields.weights.own_weights.Goals as goal

pub part_weights-requires-clause-part : goal.part_weights-requires-clause-part
part_weights-requires-clause-part g c =
    let s = c.args.scatter.now in
    let low : c.loop-rank.rank < length s.parts = omega (arith, c.loop-rank-test.true, c.ranks-rank-end.ensures.ranks) in
    subst IsSomePart (sym c.part.ensures.part) (some-part s c.requires.scatter c.loop-rank.rank low)

pub returns : goal.returns
returns g c =
    let s = c.args.scatter.now in
    let end : c.loop-rank.rank ≡ length s.parts = omega (arith, c.loop-rank-test.false, c.loop-rank.auto.rank-end, c.ranks-rank-end.ensures.ranks) in
    c.loop-rank.invariant ∙ (ap (λ n. map (λ r. part_weights (part_at s.parts r)) (below n)) end ∙ map-below-length (λ r. part_weights (part_at s.parts r)) part_weights s.parts (part_at [] 0) (λ k low. refl))
