-- Where the cells of a rank have their faces and edges among those that the rank holds by key.
use Rattle.std.specs.Prelude.{◌≡◌, ℕ, Bool, ◌^◌, List, get_or, Some, is_none}
use Rattle.std.specs.List.{AllByRecursion}
use Rattle.mesh_defs.specs.Tables.{dim_of, corner_count, facets_of}
use Rattle.mesh_defs.specs.Mesh.{Cell}
use Rattle.mesh_defs.specs.Points.{Sight, vertex_sight}
use Rattle.mesh_defs.specs.Sights.{IsEdgeSight}
use Rattle.local_points.specs.Points.{Local, places_in}
use Rattle.rank_cones.specs.held_points.Held.{Held}
use Rattle.rank_laws.specs.diagram_laws.Strata.{turn_among, first_twist}
use Rattle.rank_chart_laws.specs.rank_diagram_laws.Parts.{IsList, HasFacets, IsFacePart}
use Rattle.rank_cones.specs.declared.stop.Stop.{Stop}
use Rattle.rank_cones.specs.declared.stop.Stop.TheVariants.{Twist, NoMemory}

-- own points go to their places; faces are polygons, and edges have two ends
pub record ArePlaced (local : Local) (held : Held) : Type 0 where
  pub face_moves : held.face_moves ≡ places_in held.faces local.faces
  pub edge_moves : held.edge_moves ≡ places_in held.edges local.edges
  pub faces : AllByRecursion IsFacePart held.faces
  pub edges : AllByRecursion (IsEdgeSight (2 ^ 32)) held.edges

-- a cell of this dimension on different vertices, each of whose facets is one of these points
pub record IsOn (dim : ℕ) (points : List Sight) (cell : Cell) : Type 0 where
  pub dim_is : dim_of cell.poly ≡ dim
  pub list : IsList (corner_count cell.poly) cell.vertices
  pub facets : HasFacets points (facets_of cell.poly) cell.vertices

-- point k of a stratum; past the last one there is none, and this is a vertex
abbrev pub sight_at : List Sight → ℕ → Sight
sight_at points k = get_or points k (vertex_sight 0)

-- the sight is under no orientation of its point among these
abbrev pub is_twisted : List Sight → Sight → Bool
is_twisted points s = is_none (turn_among points s.poly s.arrangement)

-- a twist is the first one among these sights of faces; want of memory says nothing of them
abbrev pub IsFirstTwist : List Sight → List Sight → Stop → Type 0
IsFirstTwist points seen (Twist key) = first_twist points seen ≡ Some key.0
IsFirstTwist points seen NoMemory = Unit {0}
