-- The places of numbers, as they are kept.
use Rattle.std.specs.Prelude.{ℕ, nat_lt, nat_eq, if◌then◌else◌, length, get_or, Option, None}
use Rattle.std.specs.HashMap as hash
use Rattle.mesh_check.specs.declared.mesh_vertices.first_places.FirstPlaces.{FirstPlaces}

-- the place that is kept for a number
abbrev pub place_of : FirstPlaces → ℕ → Option ℕ
place_of places n = if nat_lt n (length places.low.items) then get_or places.low.items n None else hash.get nat_eq places.high n
