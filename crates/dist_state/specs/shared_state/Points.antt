-- What one rank knows of its points once the ranks have met.
use Rattle.std.specs.Prelude.{◌≡◌, ℕ, ◌^◌, ◌<◌, ℤ, List, [], length, get_or}
use Rattle.std.specs.List.{AllByRecursion}
use Rattle.local_points.specs.Points.{Local, local_points}
use Rattle.rank_defs.specs.Spread.{ScatterPart, SharedPart}

-- the faces and edges as its cells see them; the vertices of each point, the labels by dimension, and the words of the points in each field
pub record PointData : Type 0 where
  pub local : Local
  pub sets : List (List ℕ)
  pub labels : List (List (ℕ × ℤ))
  pub fields : List (List (List ℕ))

-- points that 32 bits can count, a label for each dimension, and words of each point in each field
pub record IsPointData (d : PointData) : Type 0 where
  pub few_points : length d.sets < 2 ^ 32
  pub labels : length d.labels ≡ 4
  pub fields : AllByRecursion (λ (f : List (List ℕ)). length f ≡ length d.sets) d.fields

-- what a rank has, from what it was given and what it knows of its points
abbrev pub joined_part : ScatterPart → PointData → SharedPart
joined_part p d = record { cells = p.cells; vertices = p.vertices; at = p.at; sets = d.sets; labels = d.labels; fields = d.fields }

-- those of a rank; past the last one nothing is known
abbrev pub data_at : List PointData → ℕ → PointData
data_at known rank = get_or known rank (record { local = local_points []; sets = []; labels = []; fields = [] })

abbrev pub shared_at : List SharedPart → ℕ → SharedPart
shared_at parts rank = get_or parts rank (record { cells = []; vertices = []; at = []; sets = []; labels = []; fields = [] })
