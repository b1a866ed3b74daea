-- What all ranks are given.
use Rattle.std.specs.Prelude.{◌≡◌, ℕ, ◌^◌, ◌<◌, ◌≤◌, List, [], length, get_or}
use Rattle.std.specs.List.{AllByRecursion}
use Rattle.rank_defs.specs.Spread.{ScatterPart, PlainScatter}

-- the part of a rank; past the last one nothing is given
abbrev pub part_at : List ScatterPart → ℕ → ScatterPart
part_at parts rank = get_or parts rank (record { cells = []; vertices = []; owners = []; at = []; marks = []; rows = [] })

-- 1 to 64 ranks, each with rows of each data section; data sections and dofs that 32 bits can count
pub record IsWholeScatter (s : PlainScatter) : Type 0 where
  pub some_rank : 1 ≤ length s.parts
  pub few_ranks : length s.parts ≤ 64
  pub rows : AllByRecursion (λ (part : ScatterPart). length part.rows ≡ length s.sections) s.parts
  pub few_sections : length s.sections < 2 ^ 32
  pub few_dofs : length s.dofs < 2 ^ 32
