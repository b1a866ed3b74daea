-- The line of the points that another rank owns, where there are some.
use Rattle.std.specs.Prelude.{ℕ, not, ◌&&◌, ◌==◌, nat_lt, if◌then◌else◌, List, []}
use Rattle.headline_defs.specs.Lines.{ghost_line}

abbrev pub ghost_text : ℕ → ℕ → ℕ → List ℕ
ghost_text rank owner count = if not (rank == owner) && nat_lt 0 count then ghost_line rank owner count else []
