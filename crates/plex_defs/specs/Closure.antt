-- Supports, closures and stars, after DMPlex, in a diagram whose points each have a list of vertices.
use Rattle.std.specs.Prelude.{◌≡◌, ◌≢◌, ℕ, zero, suc, ◌<◌, Bool, ◌==◌, if◌then◌else◌, List, [], ◌∷◌, ◌++◌, length, map, get_or, filter, filter_map, find, flat_map, ℤ, pos, Option, option_map, option_and_then}
use Rattle.std.specs.List.{list_any}
use Rattle.mesh_defs.specs.declared.Poly.TheVariants.{Vertex}
use Rattle.mesh_defs.specs.declared.ConeEntry.{ConeEntry}
use Rattle.plain_lists.specs.Lists.{below, same_set, picked}
use Rattle.mesh_defs.specs.Tables.{Facet, dim_of, corner_count, facets_of, facet_at}
use Rattle.mesh_defs.specs.Orientation.{act, relative}
use Rattle.mesh_defs.specs.Points.{Sight}
use Rattle.mesh_defs.specs.Diagram.{Covering, Diagram}

abbrev pub point_in : Diagram → ℕ → Covering
point_in x p = get_or x.points p (record { poly = Vertex; covers = [] })

abbrev pub cone_entry : ℕ → ℤ → ConeEntry
cone_entry p o = record { point = p; o = o }

-- one of these entries is of this point
abbrev pub covers : List ConeEntry → ℕ → Bool
covers entries p = list_any (λ (e : ConeEntry). e.point == p) entries

-- the points whose cone has p, rising
unfoldable pub support : Diagram → ℕ → List ℕ
support x p = filter (λ q. covers (point_in x q).covers p) (below (length x.points))

-- ---- lists of vertices

-- the list of a point
abbrev pub list_of : List (List ℕ) → ℕ → List ℕ
list_of lists p = get_or lists p []

-- facet k of a point, by the point's list under an orientation
abbrev pub facet_list : Diagram → List (List ℕ) → ConeEntry → Facet → List ℕ
facet_list x lists e f = picked (act (point_in x e.point).poly e.o (list_of lists e.point)) f.corners

-- The lists arrange the diagram: each point has one of different vertices, as many as its polytope has corners, and
-- each entry of a cone carries the list of the point that is covered onto the facet that is seen.
pub record IsArranged (x : Diagram) (lists : List (List ℕ)) : Type 0 where
  pub count : length lists ≡ length x.points
  pub corners : (p : ℕ) → p < length x.points → length (list_of lists p) ≡ corner_count (point_in x p).poly
  pub different : (p i j : ℕ) → p < length x.points → i < j → j < length (list_of lists p) → get_or (list_of lists p) i 0 ≢ get_or (list_of lists p) j 0
  pub cones : (p : ℕ) → p < length x.points → length (point_in x p).covers ≡ length (facets_of (point_in x p).poly)
  pub entries : (p k : ℕ) → p < length x.points → k < length (point_in x p).covers
      → let e = get_or (point_in x p).covers k (cone_entry 0 (pos 0)) in
      act (point_in x e.point).poly e.o (list_of lists e.point) ≡ picked (list_of lists p) (facet_at (point_in x p).poly k).corners

-- ---- closure and star

-- what covers a facet: the point of the cone on the facet's vertices, under the orientation that carries its list onto the facet
abbrev pub seen_at : Diagram → List (List ℕ) → List ConeEntry → List ℕ → Option ConeEntry
seen_at x lists cone facet =
    option_and_then (λ (c : ConeEntry). option_map (cone_entry c.point) (relative (point_in x c.point).poly (list_of lists c.point) facet)) (find (λ (c : ConeEntry). same_set (list_of lists c.point) facet) cone)

-- what an entry of one level adds to the next: its facets, in order
abbrev pub facets_under : Diagram → List (List ℕ) → ConeEntry → List ConeEntry
facets_under x lists e = let p = point_in x e.point in filter_map (λ f. seen_at x lists p.covers (facet_list x lists e f)) (facets_of p.poly)

-- the entries of points that are not there yet, each point once
abbrev pub new_points : List ConeEntry → List ConeEntry → List ConeEntry
new_points there [] = []
new_points there (e ∷ es) = if covers there e.point then new_points there es else e ∷ new_points (e ∷ there) es

-- the closure after n more levels, added to what is there; the last level is given once more
abbrev pub levels : Diagram → List (List ℕ) → ℕ → List ConeEntry → List ConeEntry → List ConeEntry
levels x lists zero there last = there
levels x lists (suc n) there last = let next = new_points there (flat_map (facets_under x lists) last) in levels x lists n (there ++ next) next

-- The closure of a point under an orientation: the point, and level by level the facets of what the last level added.
-- A point has as many levels below it as dimensions.
unfoldable pub closure : Diagram → List (List ℕ) → ℕ → ℤ → List ConeEntry
closure x lists p o = levels x lists (dim_of (point_in x p).poly) (cone_entry p o ∷ []) (cone_entry p o ∷ [])

-- the points whose closure has p, rising
unfoldable pub star : Diagram → List (List ℕ) → ℕ → List ℕ
star x lists p = filter (λ q. covers (closure x lists q (pos 0)) p) (below (length x.points))

-- the arrangements of a chart, which are the lists of the diagram of a mesh
abbrev pub arrangements : List Sight → List (List ℕ)
arrangements points = map (λ (s : Sight). s.arrangement) points
