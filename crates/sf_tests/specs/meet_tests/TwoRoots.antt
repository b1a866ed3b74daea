-- A forest of two roots on rank 0: the first has a leaf of rank 0 and three of rank 1, the other one leaf of rank 1.
use Rattle.std.specs.Prelude.{ℕ, [], ◌∷◌}
use Rattle.sf_defs.specs.Forest.{Forest, leaf}

abbrev pub two_roots : Forest
two_roots = record { roots = 2 ∷ 0 ∷ []; leaves = (leaf 0 (0, 0) ∷ []) ∷ (leaf 0 (0, 0) ∷ leaf 2 (0, 0) ∷ leaf 3 (0, 1) ∷ leaf 4 (0, 0) ∷ []) ∷ [] }
