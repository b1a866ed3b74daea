-- The orientations of a polytope as a group, and what they do to its facets, as in the orientation tables of the
-- polytopes of DMPlex.
use Rattle.std.specs.Prelude.{◌≢◌, ℕ, ℤ, pos, List, unwrap_or}
use Rattle.std.specs.List.{AllPairs, Contains, position_or_len}
use Rattle.mesh_defs.specs.declared.Poly.{Poly}
use Rattle.plain_lists.specs.Lists.{below, same_list, sorted, picked}
use Rattle.mesh_defs.specs.Tables.{Facet, corner_count, facets_of, facet_at}
use Rattle.mesh_defs.specs.Orientation.{orientations, corners_under, act, relative}

-- the polytope has this orientation
abbrev pub IsOrientation : Poly → ℤ → Type 0
IsOrientation p o = Contains (orientations p) o

-- no two entries are equal
abbrev pub Differ : List ℕ → Type 0
Differ xs = AllPairs (λ x y. x ≢ y) xs

-- the corners of a polytope in the order of its table
abbrev pub corners_of : Poly → List ℕ
corners_of p = below (corner_count p)

-- a after b: the orientation under which the corners stand as they do under a where they stood under b
unfoldable pub composition : Poly → ℤ → ℤ → ℤ
composition p a b = unwrap_or (relative p (corners_of p) (act p a (act p b (corners_of p)))) (pos 0)

-- the facet on these corners, in any order
unfoldable pub facet_on : Poly → List ℕ → ℕ
facet_on p corners = position_or_len (λ (f : Facet). same_list (sorted f.corners) (sorted corners)) (facets_of p)

-- What stands at facet k where the corners are listed under o: which facet it is, and the orientation under which that
-- facet becomes what stands there.
unfoldable pub facet_under : Poly → ℤ → ℕ → ℕ × ℤ
facet_under p o k =
    let seen = picked (corners_under p o) (facet_at p k).corners in
    let facet = facet_at p (facet_on p seen) in
    (facet_on p seen, unwrap_or (relative facet.poly facet.corners seen) (pos 0))
