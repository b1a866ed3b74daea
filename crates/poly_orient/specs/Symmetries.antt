-- An orientation by its sense and its place among those of that sense, and what the tables of the code say of it.
use Rattle.std.specs.Prelude.{ℕ, ℤ, pos, negsuc, ◌+◌, ◌-◌, ◌%◌, ◌<◌, ◌==◌, if◌then◌else◌, List, [], length, get_or, slice_index}
use Rattle.mesh_defs.specs.declared.Poly.{Poly}
use Rattle.mesh_defs.specs.declared.Poly.TheVariants.{Vertex, Segment, Triangle, Quad, Tet, Hex}
use Rattle.mesh_defs.specs.Tables.{facet_at}
use Rattle.mesh_defs.specs.Orientation.{rotations, reflections}
use Rattle.poly_orient.specs.declared.tables.TheConstants.{TET_NUMBERS, HEX_NUMBERS, TET_ROTATION_INVERSES, TET_REFLECTION_INVERSES, HEX_ROTATION_INVERSES, HEX_REFLECTION_INVERSES, TET_FACETS_ALONG, TET_PLACES_ALONG, HEX_FACETS_ALONG, HEX_PLACES_ALONG}
use Rattle.poly_orient.specs.declared.symmetry.Symmetry.{Symmetry}
use Rattle.poly_orient.specs.declared.symmetry.Symmetry.TheVariants.{Rotation, Reflection}

unfoldable pub symmetry_of : ℤ → Symmetry
symmetry_of (pos o) = Rotation o
symmetry_of (negsuc s) = Reflection s

unfoldable pub orientation_of : Symmetry → ℤ
orientation_of (Rotation o) = pos o
orientation_of (Reflection s) = negsuc s

abbrev pub symmetry_number : Symmetry → ℕ
symmetry_number (Rotation o) = o
symmetry_number (Reflection s) = s

-- the corners listed under this symmetry
abbrev pub corners_listed : Poly → Symmetry → List ℕ
corners_listed p (Rotation o) = get_or (rotations p) o []
corners_listed p (Reflection s) = get_or (reflections p) s []

-- the polytope has this symmetry
abbrev pub IsSymmetry : Poly → Symmetry → Type 0
IsSymmetry p (Rotation o) = o < length (rotations p)
IsSymmetry p (Reflection s) = s < length (reflections p)

-- ---- one symmetry after another

-- the symmetry at this place whose sense is kept where both symmetries keep it or neither does
unfoldable pub combine_senses : Symmetry → Symmetry → ℕ → Symmetry
combine_senses (Rotation _) (Rotation _) n = Rotation n
combine_senses (Reflection _) (Reflection _) n = Rotation n
combine_senses (Rotation _) (Reflection _) n = Reflection n
combine_senses (Reflection _) (Rotation _) n = Reflection n

-- the place of a list of corners among those of its sense, by its first and second corner
abbrev pub place : Poly → ℕ → ℕ → ℕ
place Vertex first second = 0
place Segment first second = 0
place Triangle first second = first
place Quad first second = first
place Tet first second = slice_index (get_or TET_NUMBERS first []) second
place Hex first second = slice_index (get_or HEX_NUMBERS first []) second

-- the second corner, or the only one
abbrev pub second : Poly → ℕ
second Vertex = 0
second Segment = 1
second Triangle = 1
second Quad = 1
second Tet = 1
second Hex = 1

-- the symmetry that undoes this one
unfoldable pub undo : Poly → Symmetry → Symmetry
undo Vertex t = t
undo Segment t = t
undo Triangle (Rotation o) = Rotation ((3 - o) % 3)
undo Triangle (Reflection s) = Reflection s
undo Quad (Rotation o) = Rotation ((4 - o) % 4)
undo Quad (Reflection s) = Reflection s
undo Tet (Rotation o) = Rotation (slice_index TET_ROTATION_INVERSES o)
undo Tet (Reflection s) = Reflection (slice_index TET_REFLECTION_INVERSES s)
undo Hex (Rotation o) = Rotation (slice_index HEX_ROTATION_INVERSES o)
undo Hex (Reflection s) = Reflection (slice_index HEX_REFLECTION_INVERSES s)

-- ---- the symmetry that leads from one list to another

-- the place whose corner tells the two senses apart, once the first and the second corner are known
abbrev pub telling_place : Poly → ℕ
telling_place Vertex = 0
telling_place Segment = 1
telling_place Triangle = 1
telling_place Quad = 1
telling_place Tet = 2
telling_place Hex = 2

-- the symmetry under which these corners stand first, second and at the telling place
unfoldable pub settle : Poly → ℕ → ℕ → ℕ → Symmetry
settle p first second third =
    if get_or (corners_listed p (Rotation (place p first second))) (telling_place p) 0 == third then Rotation (place p first second) else Reflection (place p first second)

-- ---- facets

-- the facet around which its own sense leads from corner a to corner b
abbrev pub facet_along : Poly → ℕ → ℕ → ℕ
facet_along Vertex a b = a
facet_along Segment a b = a
facet_along Triangle a b = a
facet_along Quad a b = a
facet_along Tet a b = slice_index (get_or TET_FACETS_ALONG a []) b
facet_along Hex a b = slice_index (get_or HEX_FACETS_ALONG a []) b

-- the place of corner a in that facet
abbrev pub place_along : Poly → ℕ → ℕ → ℕ
place_along Vertex a b = 0
place_along Segment a b = 0
place_along Triangle a b = 0
place_along Quad a b = 0
place_along Tet a b = slice_index (get_or TET_PLACES_ALONG a []) b
place_along Hex a b = slice_index (get_or HEX_PLACES_ALONG a []) b

-- the reflection of a facet that begins after this place
abbrev pub start_after : Poly → ℕ → ℕ
start_after Vertex n = 0
start_after Segment n = 0
start_after Triangle n = 0
start_after Quad n = 0
start_after Tet n = (n + 1) % 3
start_after Hex n = (n + 1) % 4

-- the corner at place j of facet k, under a symmetry of the whole
abbrev pub facet_corner_listed : Poly → Symmetry → ℕ → ℕ → ℕ
facet_corner_listed p t k j = get_or (corners_listed p t) (get_or (facet_at p k).corners j 0) 0

-- the place of the second corner of a facet, or of the only one
abbrev pub facet_second : Poly → ℕ
facet_second Vertex = 0
facet_second Segment = 0
facet_second Triangle = 1
facet_second Quad = 1
facet_second Tet = 1
facet_second Hex = 1

-- the facet that stands where two of its corners do, one after the other, and its own symmetry
unfoldable pub facet_from : Poly → Symmetry → ℕ → ℕ → ℕ × Symmetry
facet_from Vertex t a b = (a, Rotation 0)
facet_from Segment t a b = (a, Rotation 0)
facet_from p (Rotation _) a b = (facet_along p a b, Rotation (place_along p a b))
facet_from p (Reflection _) a b = (facet_along p b a, Reflection (start_after p (place_along p b a)))
