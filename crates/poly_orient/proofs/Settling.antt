-- A symmetry is settled by the corners that stand at three places.
use Rattle.std.proofs.Common.{◌≡◌, ◌≢◌, ℕ, ◌<◌, true, get_or, refl, sym, ap, ◌∙◌, subst}
use Rattle.std.specs.Prelude.{◌==◌, if◌then◌else◌}
use Rattle.std.specs.List.{list_all}
use Rattle.std.specs.Ordering.{int_eq}
use Rattle.std.proofs.lemmas.Bool.Decides.{Decides-int_eq}
use Rattle.std.proofs.lemmas.Bool.{eq-eqb, ne_eqb, cond-true, cond-false}
use Rattle.plain_lists.specs.Lists.{below}
use Rattle.plain_lists.proofs.Below.{passes-below}
use Rattle.mesh_defs.specs.Tables.{corner_count}
use Rattle.mesh_defs.specs.declared.Poly.{Poly}
use Rattle.mesh_defs.specs.declared.Poly.TheVariants.{Vertex, Segment, Triangle, Quad, Tet, Hex}
use Rattle.poly_orient.specs.declared.symmetry.Symmetry.{Symmetry}
use Rattle.poly_orient.specs.declared.symmetry.Symmetry.TheVariants.{Rotation, Reflection}
use Rattle.poly_orient.specs.Symmetries.{orientation_of, symmetry_of, corners_listed, IsSymmetry, place, second, telling_place, settle}
use Rattle.poly_orient.proofs.Rows.{listed, listed-is, is_symmetry, symmetry_is, symmetries_pass, at_symmetry}
use Rattle.poly_orient.proofs.Symmetries.{symmetry_of-number}

-- the settled symmetry, by the tables
abbrev settled_listed : Poly → ℕ → ℕ → ℕ → Symmetry
settled_listed p first other third =
    if get_or (listed p (Rotation (place p first other))) (telling_place p) 0 == third then Rotation (place p first other) else Reflection (place p first other)

settled_is : (p : Poly) (first other third : ℕ) → settle p first other third ≡ settled_listed p first other third
unfolding settle
settled_is p first other third =
    ap (λ corners. if get_or corners (telling_place p) 0 == third then Rotation (place p first other) else Reflection (place p first other)) (sym (listed-is p (Rotation (place p first other))))

-- by a look at all symmetries
all_settled : (p : Poly) → symmetries_pass p (λ t. int_eq (orientation_of (settled_listed p (get_or (listed p t) 0 0) (get_or (listed p t) (second p) 0) (get_or (listed p t) (telling_place p) 0))) (orientation_of t)) ≡ true
unfolding orientation_of
all_settled Vertex = refl
all_settled Segment = refl
all_settled Triangle = refl
all_settled Quad = refl
all_settled Tet = refl
all_settled Hex = refl

-- a symmetry is the one that its own corners settle
pub settle-corners : (p : Poly) (t : Symmetry) → IsSymmetry p t → settle p (get_or (corners_listed p t) 0 0) (get_or (corners_listed p t) (second p) 0) (get_or (corners_listed p t) (telling_place p) 0) ≡ t
settle-corners p t has =
    let same = (Decides-int_eq _ _).0 (at_symmetry p (λ t. int_eq (orientation_of (settled_listed p (get_or (listed p t) 0 0) (get_or (listed p t) (second p) 0) (get_or (listed p t) (telling_place p) 0))) (orientation_of t)) (all_settled p) t has) in
    ap (λ corners. settle p (get_or corners 0 0) (get_or corners (second p) 0) (get_or corners (telling_place p) 0)) (sym (listed-is p t)) ∙ settled_is p _ _ _
    ∙ sym (symmetry_of-number _) ∙ ap symmetry_of same ∙ symmetry_of-number t

-- by a look at all corners
all_symmetries : (p : Poly) → list_all (λ a. list_all (λ b. list_all (λ c. is_symmetry p (settled_listed p a b c)) (below (corner_count p))) (below (corner_count p))) (below (corner_count p)) ≡ true
all_symmetries Vertex = refl
all_symmetries Segment = refl
all_symmetries Triangle = refl
all_symmetries Quad = refl
all_symmetries Tet = refl
all_symmetries Hex = refl

-- what three corners settle is a symmetry
pub is_symmetry-settle : (p : Poly) (a b c : ℕ) → a < corner_count p → b < corner_count p → c < corner_count p → IsSymmetry p (settle p a b c)
is_symmetry-settle p a b c in_a in_b in_c =
    let first = passes-below (λ a. list_all (λ b. list_all (λ c. is_symmetry p (settled_listed p a b c)) (below (corner_count p))) (below (corner_count p))) (corner_count p) a (all_symmetries p) in_a in
    let other = passes-below (λ b. list_all (λ c. is_symmetry p (settled_listed p a b c)) (below (corner_count p))) (corner_count p) b first in_b in
    let third = passes-below (λ c. is_symmetry p (settled_listed p a b c)) (corner_count p) c other in_c in
    subst (IsSymmetry p) (sym (settled_is p a b c)) (symmetry_is p (settled_listed p a b c) third)

-- by a look at all pairs of corners
all_rotations : (p : Poly) → list_all (λ a. list_all (λ b. is_symmetry p (Rotation (place p a b))) (below (corner_count p))) (below (corner_count p)) ≡ true
all_rotations Vertex = refl
all_rotations Segment = refl
all_rotations Triangle = refl
all_rotations Quad = refl
all_rotations Tet = refl
all_rotations Hex = refl

-- there is a rotation at the place that two corners have
pub is_symmetry-place : (p : Poly) (a b : ℕ) → a < corner_count p → b < corner_count p → IsSymmetry p (Rotation (place p a b))
is_symmetry-place p a b in_a in_b =
    let first = passes-below (λ a. list_all (λ b. is_symmetry p (Rotation (place p a b))) (below (corner_count p))) (corner_count p) a (all_rotations p) in_a in
    symmetry_is p (Rotation (place p a b)) (passes-below (λ b. is_symmetry p (Rotation (place p a b))) (corner_count p) b first in_b)

-- the settled symmetry, where the rotation has the third corner at the telling place, and where it has not
pub settle-kept : (p : Poly) (a b c : ℕ) → get_or (corners_listed p (Rotation (place p a b))) (telling_place p) 0 ≡ c → settle p a b c ≡ Rotation (place p a b)
unfolding settle
settle-kept p a b c same = cond-true _ _ _ (eq-eqb _ _ same)

pub settle-turned_over : (p : Poly) (a b c : ℕ) → get_or (corners_listed p (Rotation (place p a b))) (telling_place p) 0 ≢ c → settle p a b c ≡ Reflection (place p a b)
unfolding settle
settle-turned_over p a b c other = cond-false _ _ _ (ne_eqb _ _ other)
