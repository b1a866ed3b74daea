-- Orientations and their symmetries.
use Rattle.std.proofs.Common.{◌≡◌, ℕ, ◌<◌, ℤ, pos, negsuc, neg_ℤ, ◌+ℤ◌, ◌≤ℤ◌, length, true, subst, refl, arith}
use Rattle.std.proofs.lemmas.Int.{ints}
use Rattle.std.specs.List.{list_any, list_all, Contains}
use Rattle.std.specs.Ordering.{int_eq}
use Rattle.std.proofs.lemmas.Bool.Decides.{Decides-int_eq}
use Rattle.std.proofs.lemmas.List.Folds.{Any-from_list_any}
use Rattle.std.proofs.lemmas.List.Sums.{AllPass-from_list_all}
use Rattle.mesh_defs.specs.declared.Poly.{Poly}
use Rattle.mesh_defs.specs.declared.Poly.TheVariants.{Vertex, Segment, Triangle, Quad, Tet, Hex}
use Rattle.mesh_defs.specs.Orientation.{rotations, reflections, orientations}
use Rattle.poly_orient.specs.declared.symmetry.Symmetry.{Symmetry}
use Rattle.poly_orient.specs.declared.symmetry.Symmetry.TheVariants.{Rotation, Reflection}
use Rattle.poly_orient.specs.Group.{IsOrientation}
use Rattle.poly_orient.specs.Symmetries.{symmetry_of, orientation_of, IsSymmetry}
use Rattle.poly_orient.proofs.Rows.{is_symmetry, symmetry_is, symmetries_pass, at_symmetry}

-- every orientation is a symmetry of its polytope
all_orientations : (p : Poly) → list_all (λ o. is_symmetry p (symmetry_of o)) (orientations p) ≡ true
unfolding orientations rotations reflections symmetry_of
all_orientations Vertex = refl
all_orientations Segment = refl
all_orientations Triangle = refl
all_orientations Quad = refl
all_orientations Tet = refl
all_orientations Hex = refl

-- every symmetry has its orientation
all_symmetries : (p : Poly) → symmetries_pass p (λ t. list_any (λ o. int_eq o (orientation_of t)) (orientations p)) ≡ true
unfolding orientations rotations reflections orientation_of
all_symmetries Vertex = refl
all_symmetries Segment = refl
all_symmetries Triangle = refl
all_symmetries Quad = refl
all_symmetries Tet = refl
all_symmetries Hex = refl

pub symmetry-of_orientation : (p : Poly) (o : ℤ) → IsOrientation p o → IsSymmetry p (symmetry_of o)
symmetry-of_orientation p o (k, lt, here) =
    symmetry_is p (symmetry_of o) (subst (λ z. is_symmetry p (symmetry_of z) ≡ true) here (AllPass-from_list_all (λ z. is_symmetry p (symmetry_of z)) (orientations p) (all_orientations p) k o lt))

pub orientation-of_symmetry : (p : Poly) (t : Symmetry) → IsSymmetry p t → IsOrientation p (orientation_of t)
orientation-of_symmetry p t has =
    let found = Any-from_list_any (λ o. int_eq o (orientation_of t)) (orientations p) (at_symmetry p (λ t. list_any (λ o. int_eq o (orientation_of t)) (orientations p)) (all_symmetries p) t has) in
    let same : found.1 ≡ orientation_of t = (Decides-int_eq found.1 (orientation_of t)).0 found.4 in
    subst (Contains (orientations p)) same (found.0, found.2, found.3)

-- an orientation is the number of its symmetry
pub orientation_of-symmetry : (o : ℤ) → orientation_of (symmetry_of o) ≡ o
unfolding orientation_of symmetry_of
orientation_of-symmetry (pos o) = refl
orientation_of-symmetry (negsuc s) = refl

pub symmetry_of-number : (t : Symmetry) → symmetry_of (orientation_of t) ≡ t
unfolding orientation_of symmetry_of
symmetry_of-number (Rotation o) = refl
symmetry_of-number (Reflection s) = refl

-- as many orientations as symmetries: from minus the number of reflections up to one less than that of rotations
pub both_ends : (p : Poly) (low high : ℤ) (r n : ℕ) → length (reflections p) ≡ r → length (rotations p) ≡ n → low ≡ neg_ℤ (pos r) → high +ℤ pos 1 ≡ pos n
    → (o : ℤ) → (IsOrientation p o → (low ≤ℤ o) × (o ≤ℤ high)) × ((low ≤ℤ o) × (o ≤ℤ high) → IsOrientation p o)
unfolding symmetry_of orientation_of
both_ends p low high r n turned_over kept least greatest (pos k) = (
  λ has. let symmetry : k < length (rotations p) = symmetry-of_orientation p (pos k) has in (omega (arith, ints), omega (arith, ints)),
  λ within. orientation-of_symmetry p (Rotation k) (omega (arith, ints, within.0, within.1)),
)
both_ends p low high r n turned_over kept least greatest (negsuc s) = (
  λ has. let symmetry : s < length (reflections p) = symmetry-of_orientation p (negsuc s) has in (omega (arith, ints), omega (arith, ints)),
  λ within. orientation-of_symmetry p (Reflection s) (omega (arith, ints, within.0, within.1)),
)
