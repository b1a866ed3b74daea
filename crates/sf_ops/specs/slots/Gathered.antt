-- What is gathered at slots.
use Rattle.std.specs.Prelude.{ℕ, List, map}
use Rattle.std.specs.List.{enumerate_from}
use Rattle.plain_lists.specs.Lists.{below}
use Rattle.sf_defs.specs.Forest.{Forest, leaf_of}
use Rattle.sf_ops.specs.Copies.{value_or}

-- for each slot of each rank the word of its leaf
unfoldable pub gathered : Forest → List (List ℕ) → List (List ℕ)
gathered m leaves = map (λ r. map (λ i. value_or leaves 0 (leaf_of m r.0 i)) (below r.1)) (enumerate_from 0 m.roots)
