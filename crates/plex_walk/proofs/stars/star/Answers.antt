use Rattle.std.proofs.Common.{◌≡◌, ◌+◌, ℕ, List, ◌++◌, length, drop, sym, ap, ◌∙◌, subst, inl, inr, arith, length-append}
use Rattle.std.specs.Prelude.{flat_map, filter}
use Rattle.std.proofs.lemmas.Bool.{cases_lt}
use Rattle.std.proofs.lemmas.List.Kept.{AllPairs-from_increasing, IsStrictlyIncreasing-filter}
use Rattle.plain_lists.specs.Lists.{below}
use Rattle.plex_defs.specs.Closure.{list_of}
use Rattle.walk_defs.specs.Cones.{reaches, star_by_cones}
use Rattle.plex_walk.specs.Supports.{supports_of}
use Rattle.plex_walk.proofs.Walks.{has, walks, has-same, has-filter, has-filter-past, has-past, rises-from, rising-same, length-supports, supports-below, level-more, below-rises}
use Rattle.plex_walk.proofs.stars.star.Goals as goal

pub add_supports-requires-clause-supports : goal.add_supports-requires-clause-supports
add_supports-requires-clause-supports c = rw c.requires.made (supports-below c.args.x.now)

pub add_supports-requires-clause-points : goal.add_supports-requires-clause-points
add_supports-requires-clause-points c = rw (c.requires.made, length-supports c.args.x.now) c.loop-level.invariant.2

pub loop-level-preserved : goal.loop-level-preserved
loop-level-preserved c =
    let x = c.args.x.now in
    let star : List ℕ = c.loop-level.star.items in
    let size : c.len-next.result ≡ length star = c.len-next.ensures ∙ c.loop-level.star.ok.0 in
    let now : c.add_supports.new.star.items ≡ star ++ flat_map (list_of (supports_of x)) (drop c.loop-level.last star) =
    c.in_ok-add_supports.ensures.value ∙ ap (λ (l : List (List ℕ)). star ++ flat_map (list_of l) (drop c.loop-level.last star)) c.requires.made in
    let more = level-more x c.loop-level.level c.args.p c.loop-level.last star c.loop-level.invariant.0 c.loop-level.invariant.1 c.loop-level.invariant.2 c.add_supports.new.star.items now in (
      subst (λ n. (q : ℕ) → has (drop n c.add_supports.new.star.items) q ≡ walks x (c.loop-level.level + 1) c.args.p q) (sym size) more.0,
      more.1,
      λ k d within. let low = c.in_ok-add_supports.ensures.points k d within in omega (arith, low, length-supports x, ap (λ (l : List (List ℕ)). length l) c.requires.made),
      omega (arith, size, ap (λ (l : List ℕ). length l) now, length-append star (flat_map (list_of (supports_of x)) (drop c.loop-level.last star))),
    )

pub returns : goal.returns
unfolding star_by_cones
returns c =
    let x = c.args.x.now in
    let n : ℕ = length x.points in
    let level : c.loop-level.level ≡ x.dim = omega (arith, c.number-level-end.ensures, c.dim.ensures) in
    let star : List ℕ = c.loop-level.star.items in
    let reached : (q : ℕ) → has star q ≡ reaches x x.dim c.args.p q = λ q. c.loop-level.invariant.1 q ∙ ap (λ l. reaches x l c.args.p q) level in
    rising-same c.sort.new.points.items (filter (reaches x x.dim c.args.p) (below n))
    (rises-from c.sort.new.points.items (AllPairs-from_increasing c.sort.new.points.items c.sort.ensures.rises))
    (rises-from (filter (reaches x x.dim c.args.p) (below n)) (AllPairs-from_increasing (filter (reaches x x.dim c.args.p) (below n)) (IsStrictlyIncreasing-filter (reaches x x.dim c.args.p) (below n) (below-rises n))))
    (λ q. has-same c.sort.new.points.items star q (c.sort.ensures.same q) ∙ elim (cases_lt q n) as (λ _. has star q ≡ has (filter (reaches x x.dim c.args.p) (below n)) q) [
      | inl low ↦ reached q ∙ sym (has-filter (reaches x x.dim c.args.p) n q low)
      | inr past ↦ has-past n star q c.loop-level.invariant.2 past ∙ sym (has-filter-past (reaches x x.dim c.args.p) n q past)
    ])
