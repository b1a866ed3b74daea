-- Acting by a composition is acting twice.
use Rattle.std.proofs.Common.{◌≡◌, ℕ, ℤ, ◌<◌, true, ◌&&◌, ltb, List, [], length, get_or, refl, sym, ap, ◌∙◌, subst, arith}
use Rattle.std.specs.List.{AllByRecursion, list_all}
use Rattle.std.proofs.lemmas.Bool.{and_parts, ltb-true}
use Rattle.std.proofs.lemmas.List.Sums.{AllPass-from_list_all}
use Rattle.plain_lists.specs.Lists.{picked}
use Rattle.plain_lists.proofs.Each.{all_weaker, each_passes}
use Rattle.plain_lists.proofs.Below.{picked-picked}
use Rattle.mesh_defs.specs.declared.Poly.{Poly}
use Rattle.mesh_defs.specs.declared.Poly.TheVariants.{Vertex, Segment, Triangle, Quad, Tet, Hex}
use Rattle.mesh_defs.specs.Tables.{corner_count}
use Rattle.mesh_defs.specs.Orientation.{act, corners_under, rotations, reflections}
use Rattle.poly_orient.specs.declared.symmetry.Symmetry.{Symmetry}
use Rattle.poly_orient.specs.declared.symmetry.Symmetry.TheVariants.{Rotation, Reflection}
use Rattle.poly_orient.specs.Group.{IsOrientation}
use Rattle.poly_orient.specs.Symmetries.{symmetry_of, symmetry_number, corners_listed, IsSymmetry}
use Rattle.poly_orient.proofs.Listed.{length_corners, corners_listed-of}
use Rattle.poly_orient.proofs.Symmetries.{symmetry-of_orientation}
use Rattle.poly_orient.proofs.Rows.{rotation_table, reflection_table, rotations_are, reflections_are}

-- numbers that are tested to be below n are below n
pub below-tested : (n : ℕ) (ks : List ℕ) → list_all (λ k. ltb k n) ks ≡ true → AllByRecursion (λ k. k < n) ks
below-tested n ks all = all_weaker (λ k. ltb k n ≡ true) (λ k. k < n) (λ k h. ltb-true k n h) ks (each_passes (λ k. ltb k n) ks all)

-- every row of the tables lists corners of the polytope
corners_below : (p : Poly) → (list_all (list_all (λ c. ltb c (corner_count p))) (rotation_table p) && list_all (list_all (λ c. ltb c (corner_count p))) (reflection_table p)) ≡ true
corners_below Vertex = refl
corners_below Segment = refl
corners_below Triangle = refl
corners_below Quad = refl
corners_below Tet = refl
corners_below Hex = refl

-- under each orientation stand corners of the polytope
pub turned_below : (p : Poly) (t : Symmetry) → IsSymmetry p t → list_all (λ c. ltb c (corner_count p)) (corners_listed p t) ≡ true
turned_below p (Rotation o) h =
    let all = subst (λ rows. list_all (list_all (λ c. ltb c (corner_count p))) rows ≡ true) (sym (rotations_are p)) (and_parts _ _ (corners_below p)).0 in
    AllPass-from_list_all (list_all (λ c. ltb c (corner_count p))) (rotations p) all o [] h
turned_below p (Reflection s) h =
    let all = subst (λ rows. list_all (list_all (λ c. ltb c (corner_count p))) rows ≡ true) (sym (reflections_are p)) (and_parts _ _ (corners_below p)).1 in
    AllPass-from_list_all (list_all (λ c. ltb c (corner_count p))) (reflections p) all s [] h

-- the corner at a place under an orientation
pub corner_below : (p : Poly) (o : ℤ) (k : ℕ) → IsOrientation p o → k < corner_count p → get_or (corners_under p o) k 0 < corner_count p
corner_below p o k has in_range =
    let symmetry = symmetry-of_orientation p o has in
    let inside : k < length (corners_listed p (symmetry_of o)) = omega (arith, in_range, length_corners p (symmetry_of o) symmetry) in
    subst (λ corners. get_or corners k 0 < corner_count p) (corners_listed-of p o) (ltb-true _ _ (AllPass-from_list_all (λ c. ltb c (corner_count p)) (corners_listed p (symmetry_of o)) (turned_below p (symmetry_of o) symmetry) k 0 inside))

-- a symmetry that lists the corners as a after b does acts so
pub acts_twice : (p : Poly) (o a b : ℤ) (vertices : List ℕ) → IsSymmetry p (symmetry_of a) → IsSymmetry p (symmetry_of b)
    → corners_listed p (symmetry_of o) ≡ picked (corners_listed p (symmetry_of b)) (corners_listed p (symmetry_of a)) → act p o vertices ≡ act p a (act p b vertices)
unfolding act
acts_twice p o a b vertices has_a has_b listed =
    let all = subst (λ n. list_all (λ c. ltb c n) (corners_listed p (symmetry_of a)) ≡ true) (sym (length_corners p (symmetry_of b) has_b)) (turned_below p (symmetry_of a) has_a) in
    ap (picked vertices) (sym (corners_listed-of p o) ∙ listed) ∙ sym (picked-picked vertices (corners_listed p (symmetry_of b)) (corners_listed p (symmetry_of a)) (below-tested _ _ all))
    ∙ (λ j. picked (picked vertices (corners_listed-of p b j)) (corners_listed-of p a j))

-- few symmetries have a sense
few : (p : Poly) → (ltb (length (rotation_table p)) 128 && ltb (length (reflection_table p)) 128) ≡ true
few Vertex = refl
few Segment = refl
few Triangle = refl
few Quad = refl
few Tet = refl
few Hex = refl

pub few_symmetries : (p : Poly) (t : Symmetry) → IsSymmetry p t → symmetry_number t < 128
few_symmetries p (Rotation o) h = omega (arith, h, ap length (rotations_are p), ltb-true _ _ (and_parts (ltb (length (rotation_table p)) 128) _ (few p)).0)
few_symmetries p (Reflection s) h = omega (arith, h, ap length (reflections_are p), ltb-true _ _ (and_parts (ltb (length (rotation_table p)) 128) _ (few p)).1)
