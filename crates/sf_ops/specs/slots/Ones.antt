-- Ones at leaves, and asks that add one.
use Rattle.std.specs.Prelude.{◌≡◌, ◌<◌, ℕ, List, length, get_or}
use Rattle.std.specs.List.{AllByRecursion}
use Rattle.sf_defs.specs.declared.Leaf.{Leaf}
use Rattle.sf_defs.specs.declared.Op.TheVariants.{Sum}
use Rattle.sf_defs.specs.declared.Ask.{Ask}

-- each of these leaves has a value at its local index, which is 1
abbrev pub AreOnes : List ℕ → List Leaf → Type 0
AreOnes values leaves = AllByRecursion (λ (l : Leaf). (l.local < length values) × (get_or values l.local 0 ≡ 1)) leaves

-- the ask is a Sum of 1
abbrev pub AddsOne : Ask → Type 0
AddsOne a = (a.op ≡ Sum) × (a.value ≡ 1)
