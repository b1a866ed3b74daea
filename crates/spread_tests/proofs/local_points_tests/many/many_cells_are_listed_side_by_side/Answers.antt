use Rattle.std.proofs.Common.{[], ◌∷◌, refl, arith}
use Rattle.spread_tests.proofs.local_points_tests.Stacks.{stack_fit}
use Rattle.spread_tests.proofs.local_points_tests.many.many_cells_are_listed_side_by_side.Goals as goal

pub of-requires-after_bounds : goal.of-requires-after_bounds
of-requires-after_bounds g c κs = stack_fit 20000 (0 ∷ 1 ∷ 2 ∷ 3 ∷ []) (omega arith) refl (omega arith, (omega arith, (omega arith, (omega arith, tt))))
