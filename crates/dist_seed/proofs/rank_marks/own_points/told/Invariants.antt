use Rattle.std.proofs.Common.{take}
use Rattle.dist_seed.specs.rank_marks.Own.{AreTold}
use Rattle.dist_seed.proofs.rank_marks.own_points.told.Given as goal

abbrev pub invariant-loop-v : goal.invariant-loop-v
invariant-loop-v l = AreTold (take l.v-index l.numbers) l.count l.told.items
