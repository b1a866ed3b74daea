-- The asks of the round that is run.
use Rattle.std.specs.Prelude.{◌≡◌, ◌<◌, ◌≤◌, ◌^◌, ℕ, List, length}
use Rattle.std.specs.List.{AllByRecursion}
use Rattle.sf_defs.specs.declared.Op.TheVariants.{Min}
use Rattle.sf_defs.specs.declared.Ask.{Ask}
use Rattle.sf_count.specs.declared.wanted.Size.{Size}
use Rattle.sf_count.specs.declared.wanted.Wanted.{Wanted}
use Rattle.sf_count.specs.declared.wanted.Wanted.TheVariants.{Round, Threads, Forest, Made, Composed, Inverted}

-- the least of one of so many words and a number
abbrev pub IsMin : ℕ → Ask → Type 0
IsMin words ask = (ask.op ≡ Min) × (ask.word < words)

abbrev pub AreMins : ℕ → List Ask → Type 0
AreMins words asks = (length asks < 2 ^ 32) × AllByRecursion (IsMin words) asks

-- a round that may be asked
abbrev pub IsRunnable : Size → Type 0
IsRunnable size = (1 ≤ size.ranks) × ((size.ranks ≤ 64) × (0 < size.words))

-- numbers in range
abbrev pub IsWanted : Wanted → Type 0
IsWanted (Round size) = IsRunnable size
IsWanted (Threads size) = IsRunnable size
IsWanted (Forest leaves) = leaves ≤ 2 ^ 29
IsWanted (Made leaves) = leaves ≤ 2 ^ 29
IsWanted (Composed leaves) = leaves ≤ 2 ^ 29
IsWanted (Inverted leaves) = leaves ≤ 2 ^ 29
