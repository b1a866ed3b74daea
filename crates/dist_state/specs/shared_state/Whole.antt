-- What all ranks have once they have met.
use Rattle.std.specs.Prelude.{◌≡◌, ℕ, ◌+◌, ◌^◌, ◌<◌, List, length, map}
use Rattle.std.specs.List.{AllByRecursion}
use Rattle.plain_lists.specs.Lists.{below}
use Rattle.sf_defs.specs.Forest.{Forest}
use Rattle.local_points.specs.Points.{local_points}
use Rattle.rank_defs.specs.Spread.{ScatterPart, SharedPart, PlainScatter, PlainShared}
use Rattle.dist_state.specs.scatter_state.Whole.{part_at}
use Rattle.dist_state.specs.shared_state.Points.{PointData, joined_part, data_at}

-- rank by rank
unfoldable pub shared_parts : List ScatterPart → List PointData → List SharedPart
shared_parts parts known = map (λ r. joined_part (part_at parts r) (data_at known r)) (below (length parts))

-- from what the ranks were given, what each knows of its points, and which points are the same
abbrev pub shared_of : PlainScatter → List PointData → Forest → PlainShared
shared_of s known forest = record { whole = s.whole; sections = length s.sections; forest = forest; parts = shared_parts s.parts known }

-- each rank knows its points, which are those of its cells and all of which are roots, and has words in each field; 32 bits can count the fields
pub record IsWholeShared (s : PlainScatter) (known : List PointData) (forest : Forest) : Type 0 where
  pub ranks : length known ≡ length s.parts
  pub local : (r : ℕ) → r < length s.parts → (data_at known r).local ≡ local_points (part_at s.parts r).cells
  pub roots : forest.roots ≡ map (λ (d : PointData). length d.sets) known
  pub fields : AllByRecursion (λ (d : PointData). length d.fields ≡ length s.sections + length s.dofs) known
  pub few_fields : length s.sections + length s.dofs < 2 ^ 32

-- the same of the whole: all points are roots
pub record IsShape (s : PlainShared) : Type 0 where
  pub roots : s.forest.roots ≡ map (λ (p : SharedPart). length p.sets) s.parts
