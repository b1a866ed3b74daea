-- The lists of corners under each orientation.
use Rattle.std.proofs.Common.{◌≡◌, ◌<◌, lit<, ℤ, pos, negsuc, length, refl}
use Rattle.mesh_defs.specs.declared.Poly.{Poly}
use Rattle.mesh_defs.specs.declared.Poly.TheVariants.{Vertex, Segment, Triangle, Quad, Tet, Hex}
use Rattle.mesh_defs.specs.Tables.{corner_count}
use Rattle.mesh_defs.specs.Orientation.{corners_under, rotations, reflections}
use Rattle.poly_orient.specs.declared.symmetry.Symmetry.{Symmetry}
use Rattle.poly_orient.specs.declared.symmetry.Symmetry.TheVariants.{Rotation, Reflection}
use Rattle.poly_orient.specs.Symmetries.{symmetry_of, corners_listed, IsSymmetry, second, telling_place}
use Rattle.poly_orient.proofs.Entries.{row_length}

-- under each orientation every corner has its place
pub length_corners : (p : Poly) (symmetry : Symmetry) → IsSymmetry p symmetry → length (corners_listed p symmetry) ≡ corner_count p
unfolding rotations reflections
length_corners Vertex (Rotation o) h = row_length (rotations Vertex) 1 o refl h
length_corners Vertex (Reflection s) h = row_length (reflections Vertex) 1 s refl h
length_corners Segment (Rotation o) h = row_length (rotations Segment) 2 o refl h
length_corners Segment (Reflection s) h = row_length (reflections Segment) 2 s refl h
length_corners Triangle (Rotation o) h = row_length (rotations Triangle) 3 o refl h
length_corners Triangle (Reflection s) h = row_length (reflections Triangle) 3 s refl h
length_corners Quad (Rotation o) h = row_length (rotations Quad) 4 o refl h
length_corners Quad (Reflection s) h = row_length (reflections Quad) 4 s refl h
length_corners Tet (Rotation o) h = row_length (rotations Tet) 4 o refl h
length_corners Tet (Reflection s) h = row_length (reflections Tet) 4 s refl h
length_corners Hex (Rotation o) h = row_length (rotations Hex) 8 o refl h
length_corners Hex (Reflection s) h = row_length (reflections Hex) 8 s refl h

-- an integer and its symmetry list the same corners
pub corners_listed-of : (p : Poly) (o : ℤ) → corners_listed p (symmetry_of o) ≡ corners_under p o
unfolding symmetry_of corners_under
corners_listed-of p (pos o) = refl
corners_listed-of p (negsuc s) = refl

-- there is a first corner, a second one or the only one, and one that tells the senses apart
pub places_in : (p : Poly) → (0 < corner_count p) × (second p < corner_count p) × (telling_place p < corner_count p)
places_in Vertex = (lit< tt, lit< tt, lit< tt)
places_in Segment = (lit< tt, lit< tt, lit< tt)
places_in Triangle = (lit< tt, lit< tt, lit< tt)
places_in Quad = (lit< tt, lit< tt, lit< tt)
places_in Tet = (lit< tt, lit< tt, lit< tt)
places_in Hex = (lit< tt, lit< tt, lit< tt)
