use Rattle.std.proofs.Common.{◌≡◌, ◌<◌, ℕ, List, [], length, slice_index, arith, sym, ◌∙◌}
use Rattle.std.proofs.lemmas.List.{length-map, get_or-map}
use Rattle.std.proofs.lemmas.Grind.{same_number_lists}
use Rattle.rank_defs.specs.Home.{bases_of}
use Rattle.dist_number.proofs.bases.Bases.of.Goals as goal

pub returns : goal.returns
returns c =
    let count = length-map c.args.round.now.got (λ (got : List ℕ). slice_index got 0) in
    let bases : c.loop-rank.bases.items ≡ bases_of c.args.round.now = same_number_lists c.loop-rank.bases.items (bases_of c.args.round.now) (c.loop-rank.invariant.count ∙ sym count)
    (λ k low.
    let in_got : k < length c.args.round.now.got = omega (arith, low, c.loop-rank.invariant.count) in
    c.loop-rank.invariant.drawn k (omega (arith, in_got, c.requires.count, c.len-rank-end.ensures)) ∙ sym (get_or-map (λ (got : List ℕ). slice_index got 0) c.args.round.now.got k [] 0 in_got)) in
    λ i. record { bases = bases i; total = slice_index (c.after.ensures i) 0 }
