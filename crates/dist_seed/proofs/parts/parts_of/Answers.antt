use Rattle.std.proofs.Common.{◌≡◌, ◌+◌, [], ◌∷◌, map, length, drop, ap, sym, ◌∙◌, arith}
use Rattle.std.proofs.lemmas.List.{length_push, nil_from_length}
use Rattle.plain_lists.specs.Lists.{below}
use Rattle.dist_seed.specs.rank_cells.Own.{held_of}
use Rattle.dist_seed.specs.Parts.{part_given}
use Rattle.dist_seed.proofs.Listing.{below-pushed, rest-first, rest-none, image-there}
use Rattle.dist_seed.proofs.parts.parts_of.Goals as goal

pub part_of-requires-clause-held : goal.part_of-requires-clause-held
part_of-requires-clause-held g c κs within =
    let m = c.args.from.now.mesh.now in
    let a = c.args.from.now.ranks.now in
    let held = c.args.held.items in
    let k = length c.loop-own.parts.items in
    let left : drop k held ≡ c.in-Some.own ∷ c.next.new.self.rest.items = sym c.loop-own.invariant.rest ∙ c.in-Some.ensures.steps.0 in
    let first = rest-first held k c.in-Some.own c.next.new.self.rest.items left in
    let rank : c.len-rank.result ≡ k = c.len-rank.ensures ∙ c.loop-own.parts.ok.0 in
    image-there (held_of m a) (length held) k held c.in-Some.own c.requires.held first.0 first.1.0 ∙ ap (held_of m a) (sym rank)

pub loop-own-preserved : goal.loop-own-preserved
loop-own-preserved g c =
    let m = c.args.from.now.mesh.now in
    let a = c.args.from.now.ranks.now in
    let held = c.args.held.items in
    let k = length c.loop-own.parts.items in
    let left : drop k held ≡ c.in-Some.own ∷ c.next.new.self.rest.items = sym c.loop-own.invariant.rest ∙ c.in-Some.ensures.steps.0 in
    let first = rest-first held k c.in-Some.own c.next.new.self.rest.items left in
    let rank : c.len-rank.result ≡ k = c.len-rank.ensures ∙ c.loop-own.parts.ok.0 in
    let count : length c.push.new.self.items ≡ k + 1 = ap length c.in_ok-push.ensures.items ∙ length_push c.loop-own.parts.items c.in_ok-part_of.field-0 in
    record {
      can_next = tt;
      is_finite = tt;
      parts = below-pushed (part_given m a) k c.loop-own.parts.items c.push.new.self.items c.in_ok-part_of.field-0 c.in_ok-push.ensures.items c.loop-own.invariant.parts (c.in_ok-part_of.ensures ∙ ap (part_given m a) rank) ∙ ap (λ n. map (part_given m a) (below n)) (sym count);
      within = let low = first.0 in omega (arith, count, low);
      rest = sym first.1.1 ∙ ap (λ n. drop n held) (sym count);
    }

pub returns : goal.returns
returns g c =
    let m = c.args.from.now.mesh.now in
    let a = c.args.from.now.ranks.now in
    let held = c.args.held.items in
    let k = length c.loop-own.parts.items in
    let rest = c.loop-own.own-iterator.rest in
    let none : rest.items ≡ [] = nil_from_length rest.items (sym rest.ok.0 ∙ c.in-None.ensures.steps.0) in
    let all = rest-none held k (sym c.loop-own.invariant.rest ∙ none) in
    let within = c.loop-own.invariant.within in
    let count : k ≡ length held = omega (arith, all, within) in
    c.loop-own.invariant.parts ∙ ap (λ n. map (part_given m a) (below n)) count
