-- Dimensions as numbers.
use Rattle.std.specs.Prelude.{ℕ}
use Rattle.plex_base.specs.declared.dim.Dim.{Dim}
use Rattle.plex_base.specs.declared.dim.Dim.TheVariants.{Zero, One, Two, Three}

abbrev pub dim_number : Dim → ℕ
dim_number Zero = 0
dim_number One = 1
dim_number Two = 2
dim_number Three = 3
