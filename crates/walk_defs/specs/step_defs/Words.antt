-- Words of 64 bits as signed values, and back.
use Rattle.std.specs.Prelude.{◌≡◌, ℕ, ◌-◌, ◌^◌, if◌then◌else◌, nat_lt, ℤ, pos, negsuc}
use Rattle.std.specs.List.{AllByRecursion}
use Rattle.mesh_defs.specs.Mesh.{Mesh, Row, Section}
use Rattle.plex_defs.specs.Fields.{word_of}

-- the value whose two's complement a word is
unfoldable pub signed_of : ℕ → ℤ
signed_of word = if nat_lt word (2 ^ 63) then pos word else negsuc (2 ^ 64 - 1 - word)

-- a value that its word gives back
abbrev pub FitsWord : ℤ → Type 0
FitsWord value = signed_of (word_of value) ≡ value

-- so does every value of the data sections
abbrev pub FitsWords : Mesh → Type 0
FitsWords m = AllByRecursion (λ (f : Section). AllByRecursion (λ (r : Row). AllByRecursion FitsWord r.values) f.rows) m.fields
