use Rattle.std.proofs.Common.{◌≡◌, ℕ, ◌+◌, List, [], map, length, get_or, set, drop, Option, sym, ap, ◌∙◌, subst, arith}
use Rattle.std.specs.Prelude.{IfSome}
use Rattle.std.proofs.lemmas.List.{length-map, length-set, length_push, nil_from_length, get_or-map}
use Rattle.plain_lists.specs.Lists.{below}
use Rattle.rank_chart_laws.proofs.meeting_laws.Loops.{pushed_below}
use Rattle.rank_defs.specs.Spread.{ScatterPart}
use Rattle.dist_state.specs.scatter_state.Whole.{part_at}
use Rattle.interp_share.specs.rank_points.Seen.{Seen, seen_of, part_sets}
use Rattle.interp_share.proofs.rank_points.Own.{parts-count}
use Rattle.interp_share.specs.Known.{known}
use Rattle.interp_share.proofs.Stepping.{next-low, next-is, none-left, still-there, left-behind, words-many, words-there}
use Rattle.interp_share.proofs.joining.all_points.Goals as goal

pub index_mut-slot-requires : goal.index_mut-slot-requires
index_mut-slot-requires c =
    let low = next-low c.args.seen.items c.loop-own.own-iterator.rest.items c.next.new.self.rest.items (length c.loop-own.points.items) c.in-Some.own c.loop-own.invariant.rest c.in-Some.ensures.steps.0 in
    let seen = ap length c.requires.seen ∙ length-map c.args.scatter.now.parts (λ (part : ScatterPart). seen_of part.cells) in
    omega (arith, low, seen, c.requires.sets.many, c.loop-own.invariant.many_sets, c.len-rank.ensures, c.loop-own.points.ok.0, c.loop-own.sets.ok.0)

pub index_mut-requires : goal.index_mut-requires
index_mut-requires c =
    let s = c.args.scatter.now in
    let (m, dofs, a, n, is) = c.requires.some in
    let k = length c.loop-own.points.items in
    let low = next-low c.args.seen.items c.loop-own.own-iterator.rest.items c.next.new.self.rest.items k c.in-Some.own c.loop-own.invariant.rest c.in-Some.ensures.steps.0 in
    let seen = ap length c.requires.seen ∙ length-map s.parts (λ (part : ScatterPart). seen_of part.cells) in
    let words = words-many s c.args.fields.items c.requires.fields m dofs a n is in
    omega (arith, low, seen, words, c.loop-own.invariant.many, c.len-rank.ensures, c.loop-own.points.ok.0, c.loop-own.fields.ok.0)

pub points_of-requires-clause-seen : goal.points_of-requires-clause-seen
points_of-requires-clause-seen c =
    let parts = c.args.scatter.now.parts in
    let k = length c.loop-own.points.items in
    let rank : c.len-rank.result ≡ k = c.len-rank.ensures ∙ c.loop-own.points.ok.0 in
    let low = next-low c.args.seen.items c.loop-own.own-iterator.rest.items c.next.new.self.rest.items k c.in-Some.own c.loop-own.invariant.rest c.in-Some.ensures.steps.0 in
    let next = next-is c.args.seen.items c.loop-own.own-iterator.rest.items c.next.new.self.rest.items k c.in-Some.own c.loop-own.invariant.rest c.in-Some.ensures.steps.0 in
    let many = ap length c.requires.seen ∙ length-map parts (λ (part : ScatterPart). seen_of part.cells) in
    next.0
    ∙ ap (λ (l : List Seen). get_or l k c.in-Some.own) c.requires.seen
    ∙ get_or-map (λ (part : ScatterPart). seen_of part.cells) parts k (part_at [] 0) c.in-Some.own (omega (arith, low, many))
    ∙ ap (λ r. seen_of (part_at parts r).cells) (sym rank)

pub points_of-requires-clause-sets : goal.points_of-requires-clause-sets
points_of-requires-clause-sets c =
    let parts = c.args.scatter.now.parts in
    let k = length c.loop-own.points.items in
    let slot = c.index_mut-slot.result.now in
    let rank : c.len-rank.result ≡ k = c.len-rank.ensures ∙ c.loop-own.points.ok.0 in
    let low = next-low c.args.seen.items c.loop-own.own-iterator.rest.items c.next.new.self.rest.items k c.in-Some.own c.loop-own.invariant.rest c.in-Some.ensures.steps.0 in
    let many = ap length c.requires.seen ∙ length-map parts (λ (part : ScatterPart). seen_of part.cells) in
    let there = c.index_mut-slot.ensures.value ∙ ap (λ q. get_or c.loop-own.sets.items q slot) rank ∙ still-there c.loop-own.sets.items c.args.sets.items k slot c.loop-own.invariant.left_sets ∙ ap (λ q. get_or c.args.sets.items q slot) (sym rank) in
    subst (λ (o : Option (List (List ℕ))). IfSome o (λ own. own ≡ part_sets (part_at parts c.len-rank.result))) (sym there ∙ sym c.take.ensures.value ∙ c.in_ok-own_sets.ensures.ok_part)
    (c.requires.sets.are c.len-rank.result slot (omega (arith, low, many, rank)))

pub points_of-requires-clause-fields : goal.points_of-requires-clause-fields
points_of-requires-clause-fields c =
    let parts = c.args.scatter.now.parts in
    let k = length c.loop-own.points.items in
    let rank : c.len-rank.result ≡ k = c.len-rank.ensures ∙ c.loop-own.points.ok.0 in
    let low = next-low c.args.seen.items c.loop-own.own-iterator.rest.items c.next.new.self.rest.items k c.in-Some.own c.loop-own.invariant.rest c.in-Some.ensures.steps.0 in
    let many = ap length c.requires.seen ∙ length-map parts (λ (part : ScatterPart). seen_of part.cells) in
    words-there c.args.scatter.now c.args.fields.items c.requires.fields c.len-rank.result c.replace-words.result c.index_mut.result.now (omega (arith, low, many, rank))
    (c.replace-words.ensures.value ∙ c.index_mut.ensures.value ∙ ap (λ q. get_or c.loop-own.fields.items q c.index_mut.result.now) rank ∙ still-there c.loop-own.fields.items c.args.fields.items k c.index_mut.result.now c.loop-own.invariant.left ∙ ap (λ q. get_or c.args.fields.items q c.index_mut.result.now) (sym rank))

pub loop-own-preserved : goal.loop-own-preserved
loop-own-preserved c =
    let seen = c.args.seen.items in
    let old = c.args.fields.items in
    let now = c.loop-own.fields.items in
    let k = length c.loop-own.points.items in
    let rank : c.len-rank.result ≡ k = c.len-rank.ensures ∙ c.loop-own.points.ok.0 in
    let low = next-low seen c.loop-own.own-iterator.rest.items c.next.new.self.rest.items k c.in-Some.own c.loop-own.invariant.rest c.in-Some.ensures.steps.0 in
    let next = next-is seen c.loop-own.own-iterator.rest.items c.next.new.self.rest.items k c.in-Some.own c.loop-own.invariant.rest c.in-Some.ensures.steps.0 in
    let count : length c.push.new.self.items ≡ k + 1 = ap length c.in_ok-push.ensures.items ∙ length_push c.loop-own.points.items c.in_ok-points_of.field-0 in
    let left = c.replace-words.new.dest in
    let taken = c.take.new.self in
    record {
      can_next = tt;
      is_finite = tt;
      within = omega (arith, count, low);
      rest = next.1 ∙ ap (λ j. drop j seen) (sym count);
      many_sets = length-set c.loop-own.sets.items c.len-rank.result taken ∙ c.loop-own.invariant.many_sets;
      left_sets = ap (λ j. drop j (set c.loop-own.sets.items c.len-rank.result taken)) count ∙ ap (λ q. drop (k + 1) (set c.loop-own.sets.items q taken)) rank ∙ left-behind c.loop-own.sets.items c.args.sets.items k taken c.loop-own.invariant.left_sets ∙ ap (λ j. drop j c.args.sets.items) (sym count);
      many = length-set now c.len-rank.result left ∙ c.loop-own.invariant.many;
      left = ap (λ j. drop j (set now c.len-rank.result left)) count ∙ ap (λ q. drop (k + 1) (set now q left)) rank ∙ left-behind now old k left c.loop-own.invariant.left ∙ ap (λ j. drop j old) (sym count);
      made = λ m dofs a n is.
          pushed_below (known m dofs a) k c.loop-own.points.items c.push.new.self.items c.in_ok-points_of.field-0 (c.loop-own.invariant.made m dofs a n is) (c.in_ok-points_of.ensures.is m dofs a n is ∙ ap (known m dofs a) rank) c.in_ok-push.ensures.items
          ∙ ap (λ j. map (known m dofs a) (below j)) (sym count);
    }

pub returns : goal.returns
returns c =
    let s = c.args.scatter.now in
    let k = length c.loop-own.points.items in
    let rest = c.loop-own.own-iterator.rest in
    let none : rest.items ≡ [] = nil_from_length rest.items (sym rest.ok.0 ∙ c.in-None.ensures.steps.0) in
    let all = none-left c.args.seen.items rest.items k c.loop-own.invariant.rest none in
    let many = ap length c.requires.seen ∙ length-map s.parts (λ (part : ScatterPart). seen_of part.cells) in
    record {
      are = λ m dofs a n is.
          let ranks = parts-count s m dofs a n is in
          let end : k ≡ n = omega (arith, all, many, ranks, c.loop-own.invariant.within) in
          c.loop-own.invariant.made m dofs a n is ∙ ap (λ j. map (known m dofs a) (below j)) end;
    }
