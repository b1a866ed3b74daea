-- The tables of the code are the lists that the rules define, and a test that passes at all their rows passes at each.
use Rattle.std.proofs.Common.{◌≡◌, ℕ, ◌<◌, true, Bool, ◌&&◌, ltb, List, [], ◌∷◌, length, get_or, refl, sym, ap, subst}
use Rattle.std.specs.List.{list_all}
use Rattle.std.proofs.lemmas.Bool.{and_parts, ltb-true}
use Rattle.plain_lists.specs.Lists.{below}
use Rattle.plain_lists.proofs.Below.{passes-below}
use Rattle.mesh_defs.specs.declared.Poly.{Poly}
use Rattle.mesh_defs.specs.declared.Poly.TheVariants.{Vertex, Segment, Triangle, Quad, Tet, Hex}
use Rattle.mesh_defs.specs.Orientation.{rotations, reflections}
use Rattle.poly_orient.specs.declared.symmetry.Symmetry.{Symmetry}
use Rattle.poly_orient.specs.declared.symmetry.Symmetry.TheVariants.{Rotation, Reflection}
use Rattle.poly_orient.specs.Symmetries.{corners_listed, IsSymmetry}
use Rattle.poly_orient.specs.declared.tables.TheConstants.{TRIANGLE_ROTATIONS, TRIANGLE_REFLECTIONS, QUAD_ROTATIONS, QUAD_REFLECTIONS, TET_ROTATIONS, TET_REFLECTIONS, HEX_ROTATIONS, HEX_REFLECTIONS}

abbrev pub rotation_table : Poly → List (List ℕ)
rotation_table Vertex = (0 ∷ []) ∷ []
rotation_table Segment = (0 ∷ 1 ∷ []) ∷ []
rotation_table Triangle = TRIANGLE_ROTATIONS
rotation_table Quad = QUAD_ROTATIONS
rotation_table Tet = TET_ROTATIONS
rotation_table Hex = HEX_ROTATIONS

abbrev pub reflection_table : Poly → List (List ℕ)
reflection_table Vertex = []
reflection_table Segment = (1 ∷ 0 ∷ []) ∷ []
reflection_table Triangle = TRIANGLE_REFLECTIONS
reflection_table Quad = QUAD_REFLECTIONS
reflection_table Tet = TET_REFLECTIONS
reflection_table Hex = HEX_REFLECTIONS

-- the tables are what the rules define
pub rotations_are : (p : Poly) → rotations p ≡ rotation_table p
unfolding rotations
rotations_are Vertex = refl
rotations_are Segment = refl
rotations_are Triangle = refl
rotations_are Quad = refl
rotations_are Tet = refl
rotations_are Hex = refl

pub reflections_are : (p : Poly) → reflections p ≡ reflection_table p
unfolding reflections
reflections_are Vertex = refl
reflections_are Segment = refl
reflections_are Triangle = refl
reflections_are Quad = refl
reflections_are Tet = refl
reflections_are Hex = refl

-- the corners listed under this symmetry, by the tables
abbrev pub listed : Poly → Symmetry → List ℕ
listed p (Rotation o) = get_or (rotation_table p) o []
listed p (Reflection s) = get_or (reflection_table p) s []

-- the polytope has this symmetry
abbrev pub is_symmetry : Poly → Symmetry → Bool
is_symmetry p (Rotation o) = ltb o (length (rotation_table p))
is_symmetry p (Reflection s) = ltb s (length (reflection_table p))

-- a test passes at all symmetries of a polytope
abbrev pub symmetries_pass : Poly → (Symmetry → Bool) → Bool
symmetries_pass p f = list_all (λ o. f (Rotation o)) (below (length (rotation_table p))) && list_all (λ s. f (Reflection s)) (below (length (reflection_table p)))

-- what passes at all symmetries passes at each
pub at_symmetry : (p : Poly) (f : Symmetry → Bool) → symmetries_pass p f ≡ true → (t : Symmetry) → IsSymmetry p t → f t ≡ true
at_symmetry p f all (Rotation o) h = passes-below (λ o. f (Rotation o)) (length (rotation_table p)) o (and_parts _ _ all).0 (subst (λ (rows : List (List ℕ)). o < length rows) (rotations_are p) h)
at_symmetry p f all (Reflection s) h = passes-below (λ s. f (Reflection s)) (length (reflection_table p)) s (and_parts _ _ all).1 (subst (λ (rows : List (List ℕ)). s < length rows) (reflections_are p) h)

pub listed-is : (p : Poly) (t : Symmetry) → listed p t ≡ corners_listed p t
listed-is p (Rotation o) = ap (λ rows. get_or rows o []) (sym (rotations_are p))
listed-is p (Reflection s) = ap (λ rows. get_or rows s []) (sym (reflections_are p))

pub symmetry_is : (p : Poly) (t : Symmetry) → is_symmetry p t ≡ true → IsSymmetry p t
symmetry_is p (Rotation o) h = subst (λ (rows : List (List ℕ)). o < length rows) (sym (rotations_are p)) (ltb-true _ _ h)
symmetry_is p (Reflection s) h = subst (λ (rows : List (List ℕ)). s < length rows) (sym (reflections_are p)) (ltb-true _ _ h)
