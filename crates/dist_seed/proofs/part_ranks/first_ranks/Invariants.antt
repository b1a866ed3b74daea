use Rattle.std.proofs.Common.{◌≡◌, map, length, Some}
use Rattle.plain_lists.specs.Lists.{below}
use Rattle.input_defs.specs.Plans.{Spread, rank_by}
use Rattle.plan_reader.specs.Drafts.{spread_at}
use Rattle.dist_seed.proofs.part_ranks.first_ranks.Given as goal

abbrev pub invariant-loop-c : goal.invariant-loop-c
invariant-loop-c l = (spread : Spread) → spread_at l.plan.plan.moves 0 ≡ Some spread → l.ranks.items ≡ map (λ k. rank_by l.plan.plan.ranks spread k (length l.mesh.cells)) (below l.c)
