-- The forest of one root with three leaves.
use Rattle.std.specs.Prelude.{ℕ, [], ◌∷◌}
use Rattle.sf_defs.specs.declared.Leaf.{Leaf}
use Rattle.sf_defs.specs.Forest.{Forest}

abbrev pub leaf_at : ℕ → Leaf
leaf_at local = record { local = local; rank = 0; index = 0 }

abbrev pub one_root : Forest
one_root = record { roots = 1 ∷ 0 ∷ []; leaves = (leaf_at 0 ∷ []) ∷ (leaf_at 0 ∷ leaf_at 1 ∷ []) ∷ [] }
