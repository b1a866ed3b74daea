-- Compositions of orientations, from a look at all of them.
use Rattle.std.proofs.Common.{◌≡◌, ℕ, ◌<◌, true, Bool, ◌&&◌, get_or, refl, sym, ◌∙◌, arith}
use Rattle.std.specs.Cmp.Lexicographic.{same_text}
use Rattle.std.proofs.lemmas.Bool.{and_parts}
use Rattle.std.proofs.lemmas.List.{get_or-map}
use Rattle.mesh_defs.specs.Tables.{corner_count}
use Rattle.plain_lists.specs.Lists.{same_list, picked}
use Rattle.mesh_defs.specs.declared.Poly.{Poly}
use Rattle.mesh_defs.specs.declared.Poly.TheVariants.{Vertex, Segment, Triangle, Quad, Tet, Hex}
use Rattle.poly_orient.specs.declared.symmetry.Symmetry.{Symmetry}
use Rattle.poly_orient.specs.Symmetries.{corners_listed, IsSymmetry, combine_senses, place, second}
use Rattle.poly_orient.proofs.Rows.{listed, listed-is, is_symmetry, symmetry_is, symmetries_pass, at_symmetry}
use Rattle.poly_orient.proofs.Listed.{length_corners, places_in}

-- the symmetry that is a applied after b
abbrev pub composed_symmetry : Poly → Symmetry → Symmetry → Symmetry
composed_symmetry p a b =
    let corners = picked (listed p b) (listed p a) in
    combine_senses a b (place p (get_or corners 0 0) (get_or corners (second p) 0))

-- the composition is a symmetry, and lists the corners that one list has at the places of the other
abbrev pub composes : Poly → Symmetry → Symmetry → Bool
composes p a b = is_symmetry p (composed_symmetry p a b) && same_list (listed p (composed_symmetry p a b)) (picked (listed p b) (listed p a))

-- by a look at all pairs
all_compose : (p : Poly) → symmetries_pass p (λ a. symmetries_pass p (composes p a)) ≡ true
unfolding combine_senses
all_compose Vertex = refl
all_compose Segment = refl
all_compose Triangle = refl
all_compose Quad = refl
all_compose Tet = refl
all_compose Hex = refl

-- the composition of two symmetries lists the corners as one after the other does
pub corners-composed_symmetry : (p : Poly) (a b : Symmetry) → IsSymmetry p a → IsSymmetry p b → corners_listed p (composed_symmetry p a b) ≡ picked (corners_listed p b) (corners_listed p a)
corners-composed_symmetry p a b has_a has_b =
    let passes = at_symmetry p (composes p a) (at_symmetry p (λ a. symmetries_pass p (composes p a)) (all_compose p) a has_a) b has_b in
    let same = same_text _ _ (sym (and_parts (is_symmetry p (composed_symmetry p a b)) _ passes).1) in
    sym (listed-is p (composed_symmetry p a b)) ∙ same ∙ (λ j. picked (listed-is p b j) (listed-is p a j))

pub is_symmetry-composed_symmetry : (p : Poly) (a b : Symmetry) → IsSymmetry p a → IsSymmetry p b → IsSymmetry p (composed_symmetry p a b)
is_symmetry-composed_symmetry p a b has_a has_b =
    let passes = at_symmetry p (composes p a) (at_symmetry p (λ a. symmetries_pass p (composes p a)) (all_compose p) a has_a) b has_b in
    symmetry_is p (composed_symmetry p a b) (and_parts (is_symmetry p (composed_symmetry p a b)) _ passes).0

-- the composition by the corners that stand first and second
pub composed_symmetry-by_corners : (p : Poly) (a b : Symmetry) (x y : ℕ) → IsSymmetry p a → x ≡ get_or (corners_listed p b) (get_or (corners_listed p a) 0 0) 0
    → y ≡ get_or (corners_listed p b) (get_or (corners_listed p a) (second p) 0) 0 → combine_senses a b (place p x y) ≡ composed_symmetry p a b
composed_symmetry-by_corners p a b x y has first other =
    let at : (k : ℕ) → k < corner_count p → get_or (picked (listed p b) (listed p a)) k 0 ≡ get_or (corners_listed p b) (get_or (corners_listed p a) k 0) 0 =
    λ k lt. (λ j. get_or (picked (listed-is p b j) (listed-is p a j)) k 0) ∙ get_or-map (λ i. get_or (corners_listed p b) i 0) (corners_listed p a) k 0 0 (omega (arith, lt, length_corners p a has)) in
    let firsts = first ∙ sym (at 0 (places_in p).0) in
    let others = other ∙ sym (at (second p) (places_in p).1) in
    λ j. combine_senses a b (place p (firsts j) (others j))
