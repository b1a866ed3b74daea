use Rattle.std.proofs.Common.{ℤ, pos, negsuc, ◌≤ℤ◌, sym, subst, refl}
use Rattle.mesh_defs.specs.declared.Poly.{Poly}
use Rattle.mesh_defs.specs.declared.Poly.TheVariants.{Vertex, Segment, Triangle, Quad, Tet, Hex}
use Rattle.mesh_defs.specs.Orientation.{rotations, reflections}
use Rattle.poly_orient.specs.Group.{IsOrientation}
use Rattle.poly_orient.proofs.Symmetries.{both_ends}
use Rattle.poly_orient.proofs.listing.orientations.Goals as goal

-- the orientations lie between these two, and all that lie there are orientations
abbrev AreEnds : ℤ → ℤ → Poly → Type 0
AreEnds low high p = (o : ℤ) → (IsOrientation p o → (low ≤ℤ o) × (o ≤ℤ high)) × ((low ≤ℤ o) × (o ≤ℤ high) → IsOrientation p o)

pub returns-in-Vertex : goal.returns-in-Vertex
unfolding rotations reflections
returns-in-Vertex c = subst (AreEnds (pos 0) (pos 0)) (sym c.in-Vertex.is) (both_ends Vertex (pos 0) (pos 0) 0 1 refl refl refl refl)

pub returns-in-Segment : goal.returns-in-Segment
unfolding rotations reflections
returns-in-Segment c = subst (AreEnds (negsuc 0) (pos 0)) (sym c.in-Segment.is) (both_ends Segment (negsuc 0) (pos 0) 1 1 refl refl refl refl)

pub returns-in-Triangle : goal.returns-in-Triangle
unfolding rotations reflections
returns-in-Triangle c = subst (AreEnds (negsuc 2) (pos 2)) (sym c.in-Triangle.is) (both_ends Triangle (negsuc 2) (pos 2) 3 3 refl refl refl refl)

pub returns-in-Quad : goal.returns-in-Quad
unfolding rotations reflections
returns-in-Quad c = subst (AreEnds (negsuc 3) (pos 3)) (sym c.in-Quad.is) (both_ends Quad (negsuc 3) (pos 3) 4 4 refl refl refl refl)

pub returns-in-Tet : goal.returns-in-Tet
unfolding rotations reflections
returns-in-Tet c = subst (AreEnds (negsuc 11) (pos 11)) (sym c.in-Tet.is) (both_ends Tet (negsuc 11) (pos 11) 12 12 refl refl refl refl)

pub returns-in-Hex : goal.returns-in-Hex
unfolding rotations reflections
returns-in-Hex c = subst (AreEnds (negsuc 23) (pos 23)) (sym c.in-Hex.is) (both_ends Hex (negsuc 23) (pos 23) 24 24 refl refl refl refl)
