-- Three points of rank 0 and two of rank 1, which are the third and the first of rank 0.
use Rattle.std.specs.Prelude.{[], ◌∷◌}
use Rattle.sf_defs.specs.Forest.{Forest, leaf}

abbrev pub two_shared : Forest
two_shared = record { roots = 3 ∷ 2 ∷ []; leaves = [] ∷ (leaf 0 (0, 2) ∷ leaf 1 (0, 0) ∷ []) ∷ [] }
