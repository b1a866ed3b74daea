-- Orientations: the ways to list the corners of one polytope again, as integers. An orientation of 0 and more keeps
-- the sense of the polytope, one below 0 turns it over.
use Rattle.std.specs.Prelude.{ℕ, zero, suc, ◌+◌, ◌-◌, ◌%◌, Bool, not, ◌&&◌, ◌||◌, ◌==◌, List, [], ◌∷◌, ◌++◌, length, map, reverse, get_or, filter, find, flat_map, ℤ, pos, negsuc, Option}
use Rattle.std.specs.List.{list_any, list_all, enumerate_from}
use Rattle.mesh_defs.specs.declared.Poly.{Poly}
use Rattle.mesh_defs.specs.declared.Poly.TheVariants.{Vertex, Segment, Triangle, Quad, Tet, Hex}
use Rattle.plain_lists.specs.Lists.{below, same_list, picked}
use Rattle.mesh_defs.specs.Tables.{edges_of, facets_of}

-- the corners of an n-gon from corner o on, in its sense
abbrev turned : ℕ → ℕ → List ℕ
turned n o = map (λ k. (k + o) % n) (below n)

-- the corners of an n-gon from corner s on, against its sense
abbrev reversed : ℕ → ℕ → List ℕ
reversed n s = map (λ k. (n + s - k) % n) (below n)

-- ---- the hexahedron: the lists of its corners that keep the set of its edges

-- an edge has these two corners
abbrev pub is_hex_edge : ℕ → ℕ → Bool
is_hex_edge a b = list_any (λ e. same_list e (a ∷ b ∷ []) || same_list e (b ∷ a ∷ [])) (edges_of Hex)

-- c may stand after these corners: it is another one, and has an edge to the earlier ones just where its place has
abbrev may_follow : List ℕ → ℕ → Bool
may_follow corners c = not (list_any (λ d. d == c) corners)
    && list_all (λ at. (is_hex_edge at.0 (length corners) && is_hex_edge at.1 c) || (not (is_hex_edge at.0 (length corners)) && not (is_hex_edge at.1 c))) (enumerate_from 0 corners)

-- the lists of n corners that keep edges and non-edges, in lexicographic order
abbrev edge_keeping : ℕ → List (List ℕ)
edge_keeping zero = [] ∷ []
edge_keeping (suc n) = flat_map (λ corners. map (λ c. corners ++ c ∷ []) (filter (may_follow corners) (below 8))) (edge_keeping n)

-- each facet of the hexahedron becomes a facet with the same sense
abbrev pub keeps_facets : List ℕ → Bool
keeps_facets corners =
    list_all (λ f. list_any (λ g. list_any (λ o. same_list (picked corners f.corners) (picked g.corners (turned 4 o))) (below 4)) (facets_of Hex)) (facets_of Hex)

-- ---- every polytope

-- the corners listed under 0, 1, 2 and so on
unfoldable pub rotations : Poly → List (List ℕ)
rotations Vertex = (0 ∷ []) ∷ []
rotations Segment = (0 ∷ 1 ∷ []) ∷ []
rotations Triangle = map (turned 3) (below 3)
rotations Quad = map (turned 4) (below 4)
rotations Tet = (0 ∷ 1 ∷ 2 ∷ 3 ∷ []) ∷ (0 ∷ 2 ∷ 3 ∷ 1 ∷ []) ∷ (0 ∷ 3 ∷ 1 ∷ 2 ∷ []) ∷ (1 ∷ 0 ∷ 3 ∷ 2 ∷ []) ∷ (1 ∷ 2 ∷ 0 ∷ 3 ∷ []) ∷ (1 ∷ 3 ∷ 2 ∷ 0 ∷ [])
    ∷ (2 ∷ 0 ∷ 1 ∷ 3 ∷ []) ∷ (2 ∷ 1 ∷ 3 ∷ 0 ∷ []) ∷ (2 ∷ 3 ∷ 0 ∷ 1 ∷ []) ∷ (3 ∷ 0 ∷ 2 ∷ 1 ∷ []) ∷ (3 ∷ 1 ∷ 0 ∷ 2 ∷ []) ∷ (3 ∷ 2 ∷ 1 ∷ 0 ∷ []) ∷ []
rotations Hex = filter keeps_facets (edge_keeping 8)

-- the corners listed under -1, -2, -3 and so on
unfoldable pub reflections : Poly → List (List ℕ)
reflections Vertex = []
reflections Segment = (1 ∷ 0 ∷ []) ∷ []
reflections Triangle = map (reversed 3) (below 3)
reflections Quad = map (reversed 4) (below 4)
reflections Tet = (0 ∷ 1 ∷ 3 ∷ 2 ∷ []) ∷ (0 ∷ 2 ∷ 1 ∷ 3 ∷ []) ∷ (0 ∷ 3 ∷ 2 ∷ 1 ∷ []) ∷ (1 ∷ 0 ∷ 2 ∷ 3 ∷ []) ∷ (1 ∷ 2 ∷ 3 ∷ 0 ∷ []) ∷ (1 ∷ 3 ∷ 0 ∷ 2 ∷ [])
    ∷ (2 ∷ 0 ∷ 3 ∷ 1 ∷ []) ∷ (2 ∷ 1 ∷ 0 ∷ 3 ∷ []) ∷ (2 ∷ 3 ∷ 1 ∷ 0 ∷ []) ∷ (3 ∷ 0 ∷ 1 ∷ 2 ∷ []) ∷ (3 ∷ 1 ∷ 2 ∷ 0 ∷ []) ∷ (3 ∷ 2 ∷ 0 ∷ 1 ∷ []) ∷ []
reflections Hex = filter (λ corners. not (keeps_facets corners)) (edge_keeping 8)

-- the orientations of a polytope
unfoldable pub orientations : Poly → List ℤ
orientations p = reverse (map negsuc (below (length (reflections p)))) ++ map pos (below (length (rotations p)))

-- the corner that stands at each place under an orientation
unfoldable pub corners_under : Poly → ℤ → List ℕ
corners_under p (pos o) = get_or (rotations p) o []
corners_under p (negsuc s) = get_or (reflections p) s []

-- the vertices of a polytope listed under an orientation
unfoldable pub act : Poly → ℤ → List ℕ → List ℕ
act p o vertices = picked vertices (corners_under p o)

-- the orientation under which the list `from` becomes the list `to`
unfoldable pub relative : Poly → List ℕ → List ℕ → Option ℤ
relative p from to = find (λ o. same_list (act p o from) to) (orientations p)
