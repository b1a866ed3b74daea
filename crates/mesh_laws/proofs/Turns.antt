-- Orientations of vertices and segments, the order of two numbers, and what an orientation does.
use Rattle.std.proofs.Common.{◌∙◌, ◌≤◌, ◌<◌, min, max, ◌≡◌, ◌≢◌, ℕ, ◌⊎◌, Bool, true, false, cond, ◌&&◌, ◌==◌, nat_le, List, [], ◌∷◌, pos, negsuc, ⊎_elim, ℤ, Some, None, refl, sym, inl, inr, arith}
use Rattle.std.specs.Prelude.{if◌then◌else◌}
use Rattle.std.proofs.lemmas.Bool.{cases_lt, le-leb, lt-leb, eq-eqb, ne_eqb, cond-true, cond-false}
use Rattle.mesh_defs.specs.declared.Poly.{Poly}
use Rattle.mesh_defs.specs.declared.Poly.TheVariants.{Vertex, Segment}
use Rattle.plain_lists.specs.Lists.{same_list, sorted}
use Rattle.plain_lists.proofs.Finding.{find-passes}
use Rattle.mesh_defs.specs.Orientation.{rotations, reflections, orientations, corners_under, act, relative}
use Rattle.std.specs.Cmp.Lexicographic.{same_text}

-- ---- two numbers in order

-- two numbers, sorted
pub sorted-two : (a b : ℕ) → sorted (a ∷ b ∷ []) ≡ (if nat_le a b then a ∷ b ∷ [] else b ∷ a ∷ [])
unfolding sorted
sorted-two a b = refl

-- one number, sorted
pub sorted-one : (a : ℕ) → sorted (a ∷ []) ≡ a ∷ []
unfolding sorted
sorted-one a = refl

-- two numbers, the smaller one first
pub sorted-min_max : (a b : ℕ) → sorted (a ∷ b ∷ []) ≡ min a b ∷ max a b ∷ []
sorted-min_max a b = sorted-two a b ∙ ⊎_elim
    (λ (h : a ≤ b). let lower : a ≡ min a b = omega arith in let upper : b ≡ max a b = omega arith in cond-true _ _ _ (le-leb a b h) ∙ (λ i. lower i ∷ upper i ∷ []))
    (λ (h : b < a). let lower : b ≡ min a b = omega arith in let upper : a ≡ max a b = omega arith in cond-false _ _ _ (lt-leb a b h) ∙ (λ i. lower i ∷ upper i ∷ []))
    (le-or-lt a b)
  where
    le-or-lt : (x y : ℕ) → (x ≤ y) ⊎ (y < x)
    le-or-lt x y = ⊎_elim (λ h. inr h) (λ h. inl h) (cases_lt y x)

-- ---- orientations

-- a vertex is listed one way
pub relative-vertex : (a : ℕ) → relative Vertex (a ∷ []) (a ∷ []) ≡ Some (pos 0)
unfolding rotations reflections orientations corners_under act relative
relative-vertex a = cond-true ((a == a) && true) (Some (pos 0)) None (rw (eq-eqb a a refl))

-- a segment under one of its two orientations, or none
pub relative-segment : (a b c d : ℕ) → relative Segment (a ∷ b ∷ []) (c ∷ d ∷ []) ≡ (if same_list (b ∷ a ∷ []) (c ∷ d ∷ []) then Some (negsuc 0) else if same_list (a ∷ b ∷ []) (c ∷ d ∷ []) then Some (pos 0) else None)
unfolding rotations reflections orientations corners_under act relative
relative-segment a b c d = refl

-- a segment as it is
pub relative-segment_same : (a b : ℕ) → a ≢ b → relative Segment (a ∷ b ∷ []) (a ∷ b ∷ []) ≡ Some (pos 0)
relative-segment_same a b h = rw (relative-segment a b a b, eq-eqb a a refl, eq-eqb b b refl, ne_eqb b a (λ e. h (sym e)))

-- a segment turned over
pub relative-segment_turned : (a b : ℕ) → relative Segment (a ∷ b ∷ []) (b ∷ a ∷ []) ≡ Some (negsuc 0)
relative-segment_turned a b = rw (relative-segment a b b a, eq-eqb a a refl, eq-eqb b b refl)

-- an orientation of a segment is 0 or -1
pub relative-segment_cases : (from to : List ℕ) → (relative Segment from to ≡ Some (negsuc 0)) ⊎ ((relative Segment from to ≡ Some (pos 0)) ⊎ (relative Segment from to ≡ None))
unfolding rotations reflections orientations corners_under act relative
relative-segment_cases from to = go (same_list (act Segment (negsuc 0) from) to) (same_list (act Segment (pos 0) from) to)
  where
    go : (b c : Bool) → (cond b (Some (negsuc 0)) (cond c (Some (pos 0)) None) ≡ Some (negsuc 0)) ⊎ ((cond b (Some (negsuc 0)) (cond c (Some (pos 0)) None) ≡ Some (pos 0)) ⊎ (cond b (Some (negsuc 0)) (cond c (Some (pos 0)) None) ≡ None))
    go true c = inl refl
    go false true = inr (inl refl)
    go false false = inr (inr refl)

-- the relative orientation carries the one list to the other
pub relative-carries : (poly : Poly) (from to : List ℕ) (o : ℤ) → relative poly from to ≡ Some o → act poly o from ≡ to
unfolding relative
relative-carries poly from to o h = same_text (act poly o from) to (sym (find-passes (λ o'. same_list (act poly o' from) to) (orientations poly) o h))
