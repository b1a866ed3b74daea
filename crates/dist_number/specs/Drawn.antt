-- What ranks draw in the number round.
use Rattle.std.specs.Prelude.{◌≡◌, ℕ, List, length, slice_index}
use Rattle.std.specs.List.{AllByRecursion}
use Rattle.mesh_defs.specs.Mesh.{Mesh}
use Rattle.sf_defs.specs.Rounds.{Round}
use Rattle.rank_defs.specs.Home.{IsNumberRound, bases_of}
use Rattle.rank_defs.specs.Spread.{PlainDist, IsDist}

-- the base of each rank, and the number of all points
pub record Drawn : Type 0 where
  pub bases : List ℕ
  pub total : ℕ

-- what each rank fetched, and what the word was at last
abbrev pub drawn_in : Round → Drawn
drawn_in r = record { bases = bases_of r; total = slice_index r.after 0 }

-- each rank asked once, and there is one word
pub record HasOneWord (r : Round) : Type 0 where
  pub got : AllByRecursion (λ (got : List ℕ). length got ≡ 1) r.got
  pub after : length r.after ≡ 1

-- the bases are those of a legal number round of a mesh for which the distribution stands
pub record AreDrawn (d : PlainDist) (bases : List ℕ) : Type 0 where
  pub mesh : Mesh
  pub dofs : List (List ℕ)
  pub assignment : List ℕ
  pub ranks : ℕ
  pub layers : ℕ
  pub round : Round
  pub dist : IsDist d mesh dofs assignment ranks layers
  pub drawn : IsNumberRound mesh assignment ranks round
  pub bases_are : bases ≡ bases_of round
