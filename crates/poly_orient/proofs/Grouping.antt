-- The orientations of a polytope are a group, and 0 changes nothing.
use Rattle.std.proofs.Common.{◌≡◌, ℕ, ◌<◌, true, Bool, ◌&&◌, lit<, List, length, ℤ, pos, refl, sym, ap, ◌∙◌, arith}
use Rattle.std.specs.Prelude.{unwrap_or}
use Rattle.std.specs.Cmp.Lexicographic.{same_text}
use Rattle.std.proofs.lemmas.Bool.{and_parts}
use Rattle.std.proofs.lemmas.List.{take_all}
use Rattle.mesh_defs.specs.declared.Poly.{Poly}
use Rattle.mesh_defs.specs.declared.Poly.TheVariants.{Vertex, Segment, Triangle, Quad, Tet, Hex}
use Rattle.plain_lists.specs.Lists.{below, same_list, picked}
use Rattle.plain_lists.proofs.Below.{length-below, get_or-below}
use Rattle.mesh_defs.specs.Tables.{corner_count}
use Rattle.mesh_defs.specs.Orientation.{act, rotations}
use Rattle.poly_orient.specs.declared.symmetry.Symmetry.{Symmetry}
use Rattle.poly_orient.specs.declared.symmetry.Symmetry.TheVariants.{Rotation}
use Rattle.poly_orient.specs.Group.{IsOrientation, Differ, corners_of, composition}
use Rattle.poly_orient.specs.Symmetries.{symmetry_of, orientation_of, corners_listed, IsSymmetry, undo}
use Rattle.poly_orient.proofs.Rows.{listed, listed-is, is_symmetry, symmetry_is, symmetries_pass, at_symmetry}
use Rattle.poly_orient.proofs.Symmetries.{symmetry-of_orientation, orientation-of_symmetry}
use Rattle.poly_orient.proofs.Acting.{acts_twice}
use Rattle.poly_orient.proofs.Relating.{picked-below, relative-leads, act-symmetry_of}

-- ---- the numbers below n

-- the numbers below n differ
pub Differ-below : (n : ℕ) → Differ (below n)
Differ-below n i j d lt in_range same =
    let inside : j < n = omega (arith, in_range, length-below n) in
    absurd (omega (arith, lt, sym (get_or-below n i d (omega (arith, lt, inside))) ∙ same ∙ get_or-below n j d inside))

-- ---- the orientation 0

-- 0 lists the corners as they are
pub corners-kept : (p : Poly) → corners_listed p (symmetry_of (pos 0)) ≡ corners_of p
unfolding symmetry_of rotations
corners-kept Vertex = refl
corners-kept Segment = refl
corners-kept Triangle = refl
corners-kept Quad = refl
corners-kept Tet = refl
corners-kept Hex = refl

has_rotation : (p : Poly) → IsSymmetry p (Rotation 0)
unfolding rotations
has_rotation Vertex = lit< tt
has_rotation Segment = lit< tt
has_rotation Triangle = lit< tt
has_rotation Quad = lit< tt
has_rotation Tet = lit< tt
has_rotation Hex = lit< tt

pub orientation-0 : (p : Poly) → IsOrientation p (pos 0)
unfolding orientation_of
orientation-0 p = orientation-of_symmetry p (Rotation 0) (has_rotation p)

-- acting by 0 changes nothing
pub act-0 : (p : Poly) (vertices : List ℕ) → length vertices ≡ corner_count p → act p (pos 0) vertices ≡ vertices
act-0 p vertices size =
    act-symmetry_of p (pos 0) vertices ∙ ap (picked vertices) (corners-kept p) ∙ picked-below vertices (corner_count p) (omega (arith, size)) ∙ take_all (corner_count p) vertices (omega (arith, size))

-- ---- composition

-- what lists the corners as a after b is their composition
pub composition-is : (p : Poly) (o a b : ℤ) → IsOrientation p o → IsOrientation p a → IsOrientation p b
    → corners_listed p (symmetry_of o) ≡ picked (corners_listed p (symmetry_of b)) (corners_listed p (symmetry_of a)) → composition p a b ≡ o
unfolding composition
composition-is p o a b has has_a has_b listed =
    ap (λ found. unwrap_or found (pos 0))
    (relative-leads p o (corners_of p) _ has (length-below (corner_count p)) (Differ-below (corner_count p))
    (acts_twice p o a b (corners_of p) (symmetry-of_orientation p a has_a) (symmetry-of_orientation p b has_b) listed))

-- ---- the inverse

-- a symmetry and the one that undoes it list the corners as they are, on either side
abbrev undoes : Poly → Symmetry → Bool
undoes p t =
    is_symmetry p (undo p t) && (same_list (picked (listed p t) (listed p (undo p t))) (corners_of p) && same_list (picked (listed p (undo p t)) (listed p t)) (corners_of p))

-- by a look at all symmetries
all_undone : (p : Poly) → symmetries_pass p (undoes p) ≡ true
unfolding undo
all_undone Vertex = refl
all_undone Segment = refl
all_undone Triangle = refl
all_undone Quad = refl
all_undone Tet = refl
all_undone Hex = refl

pub is_symmetry-undo : (p : Poly) (t : Symmetry) → IsSymmetry p t → IsSymmetry p (undo p t)
is_symmetry-undo p t has = symmetry_is p (undo p t) (and_parts (is_symmetry p (undo p t)) _ (at_symmetry p (undoes p) (all_undone p) t has)).0

pub corners-undone : (p : Poly) (t : Symmetry) → IsSymmetry p t
    → (picked (corners_listed p t) (corners_listed p (undo p t)) ≡ corners_of p) × (picked (corners_listed p (undo p t)) (corners_listed p t) ≡ corners_of p)
corners-undone p t has =
    let both = and_parts _ _ (and_parts (is_symmetry p (undo p t)) _ (at_symmetry p (undoes p) (all_undone p) t has)).1 in
    (sym (λ j. picked (listed-is p t j) (listed-is p (undo p t) j)) ∙ same_text _ _ (sym both.0), sym (λ j. picked (listed-is p (undo p t) j) (listed-is p t j)) ∙ same_text _ _ (sym both.1))

-- an orientation r that undoes o: r after o, o after r, and acting by both
pub undo-laws : (p : Poly) (o r : ℤ) → IsOrientation p o → IsOrientation p r → symmetry_of r ≡ undo p (symmetry_of o)
    → (composition p r o ≡ pos 0) × (composition p o r ≡ pos 0) × ((vertices : List ℕ) → length vertices ≡ corner_count p → act p r (act p o vertices) ≡ vertices)
undo-laws p o r has has_r undone =
    let symmetry = symmetry-of_orientation p o has in
    let both = corners-undone p (symmetry_of o) symmetry in
    let after : corners_listed p (symmetry_of (pos 0)) ≡ picked (corners_listed p (symmetry_of o)) (corners_listed p (symmetry_of r)) =
    corners-kept p ∙ sym both.0 ∙ ap (λ t. picked (corners_listed p (symmetry_of o)) (corners_listed p t)) (sym undone) in
    let before : corners_listed p (symmetry_of (pos 0)) ≡ picked (corners_listed p (symmetry_of r)) (corners_listed p (symmetry_of o)) =
    corners-kept p ∙ sym both.1 ∙ ap (λ t. picked (corners_listed p t) (corners_listed p (symmetry_of o))) (sym undone) in (
      composition-is p (pos 0) r o (orientation-0 p) has_r has after,
      composition-is p (pos 0) o r (orientation-0 p) has has_r before,
      λ vertices size. sym (acts_twice p (pos 0) r o vertices (symmetry-of_orientation p r has_r) symmetry after) ∙ act-0 p vertices size,
    )
