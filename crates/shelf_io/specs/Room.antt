-- A sink in memory, as contracts see it, and what a call makes of it.
use Rattle.std.specs.Prelude.{ℕ, ◌-◌, min, Bool, ◌||◌, nat_eq, nat_lt, if◌then◌else◌, List, [], ◌∷◌, ◌++◌, length, take, Option, Some, None, is_some}
use Rattle.shelf_io.specs.Counting.{count_up}

pub record Room : Type 0 where
  -- the bytes written
  pub bytes : List ℕ
  -- how many more there is room for
  pub left : ℕ
  -- how many of the bytes are flushed
  pub flushed : ℕ
  -- the numbers of the calls that fail, each with how many bytes it takes
  pub fail : List (ℕ × ℕ)
  -- how many calls there were, up to the end of their type
  pub calls : ℕ
  -- how many calls have failed, up to the end of their type
  pub faults : ℕ

-- a sink with nothing written
abbrev pub fresh_room : ℕ → List (ℕ × ℕ) → Room
fresh_room left fail = record { bytes = []; left = left; flushed = 0; fail = fail; calls = 0; faults = 0 }

-- how many bytes the call with this number takes, if it is listed: the first pair counts
abbrev pub listed_at : List (ℕ × ℕ) → ℕ → Option ℕ
listed_at [] call = None
listed_at (pair ∷ pairs) call = if nat_eq pair.0 call then Some pair.1 else listed_at pairs call

-- how many bytes of a piece a call takes, where there is room
abbrev pub most_taken : ℕ → Option ℕ → ℕ
most_taken piece None = piece
most_taken piece (Some bytes) = min piece bytes

-- how many bytes of a piece a write takes
abbrev pub taken : Room → List ℕ → ℕ
taken r piece = min (most_taken (length piece) (listed_at r.fail r.calls)) r.left

-- a write fails exactly at a listed call and at a piece that does not fit
abbrev pub write_fails : Room → List ℕ → Bool
write_fails r piece = is_some (listed_at r.fail r.calls) || nat_lt r.left (length piece)

-- the sink after a write
abbrev pub after_write : Room → List ℕ → Room
after_write r piece = record {
  bytes = r.bytes ++ take (taken r piece) piece;
  left = r.left - taken r piece;
  flushed = r.flushed;
  fail = r.fail;
  calls = count_up r.calls;
  faults = if write_fails r piece then count_up r.faults else r.faults;
}

-- a flush fails exactly at a listed call
abbrev pub flush_fails : Room → Bool
flush_fails r = is_some (listed_at r.fail r.calls)

-- the sink after a flush
abbrev pub after_flush : Room → Room
after_flush r = record {
  bytes = r.bytes;
  left = r.left;
  flushed = if flush_fails r then r.flushed else length r.bytes;
  fail = r.fail;
  calls = count_up r.calls;
  faults = if flush_fails r then count_up r.faults else r.faults;
}
