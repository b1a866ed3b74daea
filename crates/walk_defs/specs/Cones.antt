-- Closures and stars by cones alone, after DMPlexGetTransitiveClosure: orientations are put together as integers, and no
-- list of vertices is looked at.
use Rattle.std.specs.Prelude.{ℕ, zero, suc, ◌<◌, Bool, ◌||◌, ◌==◌, List, [], ◌∷◌, ◌++◌, length, map, get_or, filter, flat_map, ℤ, pos}
use Rattle.std.specs.List.{list_any}
use Rattle.mesh_defs.specs.declared.ConeEntry.{ConeEntry}
use Rattle.plain_lists.specs.Lists.{below}
use Rattle.mesh_defs.specs.Tables.{dim_of, facets_of}
use Rattle.mesh_defs.specs.Diagram.{Diagram}
use Rattle.poly_orient.specs.Group.{IsOrientation, facet_under, composition}
use Rattle.plex_defs.specs.Closure.{point_in, cone_entry, new_points}

-- an entry of a point of the diagram, under one of its orientations
pub record IsEntry (x : Diagram) (e : ConeEntry) : Type 0 where
  pub point : e.point < length x.points
  pub o : IsOrientation (point_in x e.point).poly e.o

-- ---- closure

-- entry j of the cone of a point
abbrev pub cone_at : Diagram → ℕ → ℕ → ConeEntry
cone_at x p j = get_or (point_in x p).covers j (cone_entry 0 (pos 0))

-- an entry of a facet that is seen under one more orientation
abbrev pub turned_by : Diagram → ℤ → ConeEntry → ConeEntry
turned_by x o c = cone_entry c.point (composition (point_in x c.point).poly o c.o)

-- what stands at facet k of an entry: the entry that its cone has there, under the orientation in which it is seen
unfoldable pub facet_by_cone : Diagram → ConeEntry → ℕ → ConeEntry
facet_by_cone x e k = let seen = facet_under (point_in x e.point).poly e.o k in turned_by x seen.1 (cone_at x e.point seen.0)

-- what an entry of one level adds to the next: its facets, in order
abbrev pub facets_by_cone : Diagram → ConeEntry → List ConeEntry
facets_by_cone x e = map (facet_by_cone x e) (below (length (facets_of (point_in x e.point).poly)))

-- the closure after n more levels, added to what is there; the last level is given once more
abbrev pub levels_by_cones : Diagram → ℕ → List ConeEntry → List ConeEntry → List ConeEntry
levels_by_cones x zero there last = there
levels_by_cones x (suc n) there last = let next = new_points there (flat_map (facets_by_cone x) last) in levels_by_cones x n (there ++ next) next

-- The closure of a point under an orientation: the point, and level by level the facets of what the last level added,
-- each point once. A point has as many levels below it as dimensions.
unfoldable pub closure_by_cones : Diagram → ℕ → ℤ → List ConeEntry
closure_by_cones x p o = levels_by_cones x (dim_of (point_in x p).poly) (cone_entry p o ∷ []) (cone_entry p o ∷ [])

-- ---- star

-- point p is reached from point q by at most n entries of cones, one after another
abbrev pub reaches : Diagram → ℕ → ℕ → ℕ → Bool
reaches x zero p q = q == p
reaches x (suc n) p q = (q == p) || list_any (λ (e : ConeEntry). reaches x n p e.point) (point_in x q).covers

-- the points from which p is reached by entries of cones, rising; p is one of them
unfoldable pub star_by_cones : Diagram → ℕ → List ℕ
star_by_cones x p = filter (reaches x x.dim p) (below (length x.points))
