use Rattle.std.proofs.Common.{◌≡◌, ◌<◌, ◌^◌, ℕ, List, ◌++◌, length, get_or, take, drop, sym, ap, ap₂, ◌∙◌, subst, arith}
use Rattle.plex_walk.specs.Supports.{supports_of, segments}
use Rattle.plex_walk.specs.Filling.{AreSums}
use Rattle.plex_walk.proofs.Filling.{sizes-small, room-sums}
use Rattle.plex_walk.proofs.Segments.{written}
use Rattle.plex_walk.proofs.Walks.{length-supports}
use Rattle.plex_walk.proofs.support_lists.supports.Goals as goal

-- what is read back after it was written
read_back : (len : ℕ) (seen new old : List ℕ) → seen ≡ take len (new ++ drop (length new) old) → length new ≡ len → seen ≡ new
read_back len seen new old is size = is ∙ written len new old size

pub add_up-total-requires-clause-small : goal.add_up-total-requires-clause-small
add_up-total-requires-clause-small c =
    let n : ℕ = length c.args.x.now.points in
    let low : n < 2 ^ 32 = omega (arith, c.chart.ensures.count, c.chart.type_inv) in
    let size : length c.count.new.counts ≡ c.in_ok-starts.starts.len = omega (arith, c.count.ensures.size, c.in_ok-starts.ensures.len, c.chart.ensures.count) in
    let same : c.deref_mut-2.result.now ≡ c.count.new.counts = read_back c.in_ok-starts.starts.len c.deref_mut-2.result.now c.count.new.counts c.in_ok-starts.starts.items c.deref_mut-2.ensures.value size in
    subst (λ (l : List ℕ). (j : ℕ) → j < length l → get_or l j 0 < 2 ^ 32) (sym same) (sizes-small c.args.x.now n c.count.new.counts (2 ^ 32) c.count.ensures low)

pub fill-requires : goal.fill-requires
fill-requires c =
    let len : ℕ = c.in_ok-starts.starts.len in
    let size : length c.count.new.counts ≡ len = omega (arith, c.count.ensures.size, c.in_ok-starts.ensures.len, c.chart.ensures.count) in
    let first = take len (c.count.new.counts ++ drop (length c.count.new.counts) c.in_ok-starts.starts.items) in
    let counted : c.deref_mut-2.result.now ≡ c.count.new.counts = read_back len c.deref_mut-2.result.now c.count.new.counts c.in_ok-starts.starts.items c.deref_mut-2.ensures.value size in
    let sums : AreSums c.count.new.counts c.add_up-total.new.numbers c.add_up-total.result = subst (λ (l : List ℕ). AreSums l c.add_up-total.new.numbers c.add_up-total.result) counted c.add_up-total.ensures in
    let size_sums : length c.add_up-total.new.numbers ≡ len = sums.size ∙ size in
    let summed : c.deref_mut-3.result.now ≡ c.add_up-total.new.numbers = read_back len c.deref_mut-3.result.now c.add_up-total.new.numbers first c.deref_mut-3.ensures.value size_sums in
    let room : length c.deref_mut-4.result.now ≡ c.add_up-total.result = c.deref_mut-4.ensures.len ∙ c.in_ok-points.ensures.len in
    rw (summed, room) (room-sums c.args.x.now c.count.new.counts c.add_up-total.new.numbers c.add_up-total.result c.count.ensures sums)

-- what is read back after it was filled
ends : (c : goal.After-points-3-1) (old : List ℕ) → take c.in_ok-starts.starts.len (c.fill.new.ends ++ drop (length c.fill.new.ends) old) ≡ c.fill.new.ends
ends c old = written c.in_ok-starts.starts.len c.fill.new.ends old (c.fill.auto.ends ∙ c.deref_mut-3.ensures.len)

points : (c : goal.After-points-3-1) (old : List ℕ) → take c.in_ok-points.points.len (c.fill.new.points ++ drop (length c.fill.new.points) old) ≡ c.fill.new.points
points c old = written c.in_ok-points.points.len c.fill.new.points old (c.fill.auto.points ∙ c.deref_mut-4.ensures.len)

pub invariant_of-result : goal.invariant_of-result
invariant_of-result c = rw (ends c _, points c _) c.fill.ensures.segmented

-- the lists that are answered
lists : (c : goal.After-points-3-1) (old_ends old_points : List ℕ)
    → segments (take c.in_ok-starts.starts.len (c.fill.new.ends ++ drop (length c.fill.new.ends) old_ends)) (take c.in_ok-points.points.len (c.fill.new.points ++ drop (length c.fill.new.points) old_points)) ≡ supports_of c.args.x.now
lists c old_ends old_points = ap₂ segments (ends c old_ends) (points c old_points) ∙ c.fill.ensures.supports

pub returns : goal.returns
returns c = record {
  value = lists c _ _;
  length = ap (λ (l : List (List ℕ)). length l) (lists c _ _) ∙ length-supports c.args.x.now;
}
