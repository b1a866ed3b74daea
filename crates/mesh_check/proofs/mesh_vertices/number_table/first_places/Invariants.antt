use Rattle.std.proofs.Common.{◌≡◌, ℕ, ◌==◌, drop}
use Rattle.std.specs.List.{position_from}
use Rattle.mesh_check.specs.mesh_vertices.FirstPlaces.{place_of}
use Rattle.mesh_check.proofs.mesh_vertices.number_table.first_places.Given as goal

-- the places among the numbers from this place on
abbrev pub invariant-loop-place : goal.invariant-loop-place
invariant-loop-place l = (n : ℕ) → place_of l.places n ≡ position_from (λ m. m == n) l.place (drop l.place l.numbers)
