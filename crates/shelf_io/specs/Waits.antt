-- What a buffered writer was given.
use Rattle.std.specs.Prelude.{ℕ, List, Option, slice_range}
use Rattle.cause_defs.specs.Written.{appended}
use Rattle.shelf_io.specs.declared.waiting.Waiting.{Waiting}

-- the bytes that wait
abbrev pub waits : {W : Type 0} → Waiting W → List ℕ
waits w = slice_range w.room w.start w.end

-- all that the writer was given, where what it holds is known: that, and then what waits
abbrev pub bytes_given : {W : Type 0} → (W → Option (List ℕ)) → Waiting W → Option (List ℕ)
bytes_given contents w = appended (contents w.writer) (waits w)
