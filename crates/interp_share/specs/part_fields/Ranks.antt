-- Fields and weights of the points of all ranks, by what the ranks are given.
use Rattle.std.specs.Prelude.{◌≡◌, ℕ, ◌^◌, ◌<◌, List, [], ◌++◌, length, map, get_or}
use Rattle.std.specs.List.{AllByRecursion}
use Rattle.plain_lists.specs.Lists.{below}
use Rattle.mesh_defs.specs.Mesh.{Mesh}
use Rattle.sf_defs.specs.Forest.{Forest}
use Rattle.rank_defs.specs.Ranks.{assigned}
use Rattle.rank_defs.specs.Spread.{ScatterPart, PlainScatter, IsScatter, own_chart, point_forest}
use Rattle.plex_defs.specs.Fields.{fields}
use Rattle.local_points.specs.Points.{Local, local_points}
use Rattle.rank_laws.specs.share_laws.Charts.{own_charts}
use Rattle.dist_state.specs.scatter_state.Whole.{part_at}
use Rattle.interp_share.specs.own_field_laws.Own.{part_data, part_dofs, part_points, total_weights}

-- a scatter of some mesh, dofs and assignment
pub record IsOfSomeMesh (s : PlainScatter) : Type 0 where
  pub m : Mesh
  pub dofs : List (List ℕ)
  pub a : List ℕ
  pub n : ℕ
  pub is : IsScatter s m dofs a n

-- and the forest of the points that its ranks share
pub record IsForestOf (s : PlainScatter) (f : Forest) : Type 0 where
  pub some : IsOfSomeMesh s
  pub forest : f ≡ point_forest some.m some.a (own_charts some.m some.a some.n)

-- the faces and edges of the cells of each rank
abbrev pub locals_of : List ScatterPart → List Local
locals_of parts = map (λ (part : ScatterPart). local_points part.cells) parts

-- those of one rank; past the last one there are none
abbrev pub local_at : List Local → ℕ → Local
local_at locals rank = get_or locals rank (record { faces = []; edges = []; face_places = []; edge_places = [] })

-- a weight for each point of a part, none too great for its multiples
pub record AreLowWeights (part : ScatterPart) (weights : List ℕ) : Type 0 where
  pub many : length weights ≡ length (part_points part)
  pub low : AllByRecursion (λ w. w < 2 ^ 40) weights

-- the weights are those of all points, where some field asks for them
pub record AreNeeded (s : PlainScatter) (weights : List (List ℕ)) : Type 0 where
  pub many : length weights ≡ length s.parts
  pub totals : 0 < length s.dofs → (m : Mesh) (dofs : List (List ℕ)) (a : List ℕ) (n : ℕ) → IsScatter s m dofs a n → weights ≡ total_weights m a n

-- the fields of one rank's points, which have these weights
abbrev pub fields_with : PlainScatter → ScatterPart → List ℕ → List (List (List ℕ))
fields_with s part weights = part_data s.sections part ++ part_dofs s.dofs part weights

-- those of rank r, where the points of all ranks have these weights
abbrev pub fields_at : PlainScatter → List (List ℕ) → ℕ → List (List (List ℕ))
fields_at s weights r = fields_with s (part_at s.parts r) (get_or weights r [])

-- the fields of the own points of n ranks
abbrev pub mesh_fields : Mesh → List (List ℕ) → List ℕ → ℕ → List (List (List (List ℕ)))
mesh_fields m dofs a n = map (λ r. fields m dofs (own_chart m (assigned m a r))) (below n)
