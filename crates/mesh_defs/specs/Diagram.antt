-- The oriented Hasse diagram of a mesh, and of the cells that one rank has: charts, cones and strata of DMPlex.
use Rattle.std.specs.Prelude.{◌≡◌, ℕ, ◌&&◌, ◌==◌, if◌then◌else◌, List, [], ◌∷◌, ◌++◌, map, filter, find, count_by, ℤ, pos, Option, None, option_map, option_and_then, unwrap_or, is_none}
use Rattle.std.specs.List.{list_any, position_or_len}
use Rattle.mesh_defs.specs.declared.Poly.{Poly}
use Rattle.mesh_defs.specs.declared.ConeEntry.{ConeEntry}
use Rattle.plain_lists.specs.Lists.{picked}
use Rattle.mesh_defs.specs.Tables.{Facet, dim_of, facets_of}
use Rattle.mesh_defs.specs.Orientation.{relative}
use Rattle.mesh_defs.specs.Mesh.{Mesh, Cell, placed_cells}
use Rattle.mesh_defs.specs.Points.{Point, Sight, point_on, point_of, shows, sights, vertex_sights, arrangement, contains}

-- the sights of points that neither these earlier sights nor an earlier one of the list show
abbrev pub firsts_after : List Sight → List Sight → List Sight
firsts_after earlier [] = []
firsts_after earlier (s ∷ ss) = if list_any (shows (point_of s)) earlier then firsts_after earlier ss else s ∷ firsts_after (s ∷ earlier) ss

-- the first sight of each point, in order
abbrev pub firsts : List Sight → List Sight
firsts = firsts_after []

-- the points of one dimension, by rising key
unfoldable pub stratum : Mesh → ℕ → List Sight
stratum m dim = if dim == 0 then vertex_sights m else firsts (filter (λ s. dim_of s.poly == dim) (sights (placed_cells m)))

-- all points: cells, vertices, faces where the mesh is solid, edges
unfoldable pub strata : Mesh → List Sight
strata m = stratum m m.dim ++ stratum m 0 ++ (if m.dim == 3 then stratum m 2 else []) ++ stratum m 1

-- the points that some of these cells contain
unfoldable pub chart : Mesh → List (ℕ × Cell) → List Sight
chart m cells = filter (λ s. list_any (λ (c : ℕ × Cell). contains c.1 (point_of s)) cells) (strata m)

-- the place of a point in a chart: its local number
abbrev pub place_in : List Sight → Point → ℕ
place_in points p = position_or_len (shows p) points

-- ---- cones

-- the orientation under which the arrangement of a point becomes this list; none where it becomes it under no one
unfoldable pub seen_under : Mesh → Poly → List ℕ → Option ℤ
seen_under m poly list = option_and_then (λ own. relative poly own list) (arrangement m (point_on poly list))

-- The entry of a facet, where `number` numbers the points. A mesh that is not accepted has no diagram; an orientation
-- that there is not counts as 0.
unfoldable pub entry : Mesh → (Point → ℕ) → List ℕ → Facet → ConeEntry
entry m number list facet =
    let seen = picked list facet.corners in
    record { point = number (point_on facet.poly seen); o = unwrap_or (seen_under m facet.poly seen) (pos 0) }

-- the cone of a point: what it covers, in the order of its table
unfoldable pub cone : Mesh → (Point → ℕ) → Sight → List ConeEntry
cone m number s = map (entry m number s.arrangement) (facets_of s.poly)

-- the least key of a face that its cell sees under no orientation
unfoldable pub twist_key : Mesh → Option ℕ
twist_key m =
    option_map (λ (s : Sight). s.key) (find (λ s. is_none (seen_under m s.poly s.arrangement)) (filter (λ s. (m.dim == 3) && (dim_of s.poly == 2)) (sights (placed_cells m))))

-- every cell sees each of its faces under some orientation
abbrev pub IsAccepted : Mesh → Type 0
IsAccepted m = twist_key m ≡ None

-- ---- the diagram

-- a point of a diagram
pub record Covering : Type 0 where
  pub poly : Poly
  pub covers : List ConeEntry

-- Points are numbered from 0: cells, vertices, faces, edges. `points` has each with its cone.
pub record Diagram : Type 0 where
  pub dim : ℕ
  pub cells : ℕ
  pub vertices : ℕ
  pub faces : ℕ
  pub edges : ℕ
  pub points : List Covering

-- how many points of a dimension there are
abbrev pub count_in : ℕ → List Sight → ℕ
count_in dim points = count_by (λ s. dim_of s.poly == dim) points

-- the diagram of the points that these cells contain
unfoldable pub diagram : Mesh → List (ℕ × Cell) → Diagram
diagram m cells =
    let points = chart m cells in
    record {
      dim = m.dim;
      cells = count_in m.dim points;
      vertices = count_in 0 points;
      faces = if m.dim == 3 then count_in 2 points else 0;
      edges = count_in 1 points;
      points = map (λ s. record { poly = s.poly; covers = cone m (place_in points) s }) points;
    }
