-- Which orientation leads from one list to another, where the entries of the first differ.
use Rattle.std.proofs.Common.{◌≡◌, ◌≢◌, ℕ, zero, suc, ◌<◌, ◌≤◌, true, false, Bool, cond, ltb, List, [], ◌∷◌, ◌++◌, length, take, get_or, add-one, ℤ, Some, None, refl, sym, ap, ◌∙◌, inl, inr, arith}
use Rattle.std.specs.Prelude.{◌==◌, find}
use Rattle.std.specs.List.{All, Contains, position}
use Rattle.std.specs.Cmp.Lexicographic.{same_text, bytes_decides}
use Rattle.std.proofs.lemmas.Bool.{cases_lt, cases_Bool, eq-eqb, ne_eqb, lt-ltb, cond-true, cond-false, false≢true}
use Rattle.std.proofs.lemmas.List.{get_or-map, map-append, take_more}
use Rattle.std.proofs.lemmas.List.Elements.{All-head, All-tail, Contains-get_or}
use Rattle.std.proofs.lemmas.List.Sums.{position_or_len_is}
use Rattle.std.proofs.lemmas.List.Folds.{list_any_none}
use Rattle.mesh_defs.specs.declared.Poly.{Poly}
use Rattle.plain_lists.specs.Lists.{below, same_list, picked}
use Rattle.plain_lists.proofs.Finding.{find-none}
use Rattle.mesh_defs.specs.Tables.{corner_count}
use Rattle.mesh_defs.specs.Orientation.{orientations, corners_under, act, relative}
use Rattle.poly_orient.specs.declared.symmetry.Symmetry.{Symmetry}
use Rattle.poly_orient.specs.Group.{IsOrientation, Differ}
use Rattle.poly_orient.specs.Symmetries.{symmetry_of, orientation_of, corners_listed, second, telling_place, settle}
use Rattle.poly_orient.proofs.Listed.{length_corners, corners_listed-of, places_in}
use Rattle.poly_orient.proofs.Symmetries.{symmetry-of_orientation, orientation_of-symmetry, symmetry_of-number}
use Rattle.std.proofs.lemmas.Option.{same_Some, none-some}
use Rattle.poly_orient.proofs.Settling.{settle-corners}
use Rattle.poly_orient.proofs.Acting.{corner_below}

-- ---- lists whose entries differ

-- equal entries stand at one place
pub one_place : (xs : List ℕ) (i j : ℕ) → Differ xs → i < length xs → j < length xs → get_or xs i 0 ≡ get_or xs j 0 → i ≡ j
one_place xs i j differ in_i in_j same = elim (cases_lt i j) [
  | inl lt ↦ absurd (differ i j 0 lt in_j same)
  | inr ge ↦ elim (cases_lt j i) [
    | inl lt ↦ absurd (differ j i 0 lt in_i (sym same))
    | inr le ↦ omega arith
  ]
]

-- an entry is found at its place
pub position-entry : (xs : List ℕ) (i : ℕ) → Differ xs → i < length xs → position (λ v. v == get_or xs i 0) xs ≡ Some i
position-entry xs i differ in_i =
    let earlier : (k : ℕ) → k < i → (get_or xs k 0 == get_or xs i 0) ≡ false = λ k lt. ne_eqb _ _ (differ k i 0 lt in_i) in
    let here = position_or_len_is (λ v. v == get_or xs i 0) xs i 0 (omega arith) earlier (λ _. eq-eqb _ _ refl) in
    ap (λ n. cond (ltb n (length xs)) (Some n) None) here ∙ cond-true _ _ _ (lt-ltb _ _ in_i)

-- all entries in order
pub picked-below : (xs : List ℕ) (n : ℕ) → n ≤ length xs → picked xs (below n) ≡ take n xs
picked-below xs zero h = refl
picked-below xs (suc n) h =
    map-append (λ k. get_or xs k 0) (below n) (n ∷ []) ∙ (λ j. picked-below xs n (omega (arith, h)) j ++ get_or xs n 0 ∷ [])
    ∙ sym (take_more xs n 0 (omega (arith, h))) ∙ (λ j. take (add-one n j) xs)

-- ---- what a search finds

-- the only element that passes is the one that is found
find-only : {X : Type 0} (test : X → Bool) (xs : List X) (x : X) → Contains xs x → test x ≡ true → All (λ y. test y ≡ true → y ≡ x) xs → find test xs ≡ Some x
find-only test [] x (k, lt, here) passes only = absurd (omega (arith, lt))
find-only {X} test (y ∷ ys) x has passes only = elim (cases_Bool (test y)) [
  | inl passed ↦ cond-true (test y) (Some y) (find test ys) passed ∙ ap Some (All-head (λ y. test y ≡ true → y ≡ x) y ys only passed)
  | inr failed ↦ cond-false (test y) (Some y) (find test ys) failed ∙ find-only test ys x (later has failed) passes (All-tail (λ y. test y ≡ true → y ≡ x) y ys only)
]
  where
    later : Contains (y ∷ ys) x → test y ≡ false → Contains ys x
    later (zero, lt, here) failed = absurd (false≢true (sym failed ∙ ap test here ∙ passes))
    later (suc k, lt, here) failed = (k, omega (arith, lt), here)

-- ---- acting

-- the entry at a place under an orientation
act-entry : (p : Poly) (o : ℤ) (from : List ℕ) (k : ℕ) → IsOrientation p o → k < corner_count p → get_or (act p o from) k 0 ≡ get_or from (get_or (corners_under p o) k 0) 0
unfolding act
act-entry p o from k has in_range =
    get_or-map (λ i. get_or from i 0) (corners_under p o) k 0 0 (omega (arith, in_range, ap length (sym (corners_listed-of p o)), length_corners p (symmetry_of o) (symmetry-of_orientation p o has)))

-- a vertex that stands at a place under an orientation is found at the corner that the orientation has there
pub found-under : (p : Poly) (o : ℤ) (from to : List ℕ) (k : ℕ) → IsOrientation p o → length from ≡ corner_count p → Differ from → act p o from ≡ to → k < corner_count p
    → position (λ v. v == get_or to k 0) from ≡ Some (get_or (corners_listed p (symmetry_of o)) k 0)
found-under p o from to k has size differ leads in_range =
    let corner = get_or (corners_under p o) k 0 in
    let entry : get_or from corner 0 ≡ get_or to k 0 = sym (act-entry p o from k has in_range) ∙ ap (λ list. get_or list k 0) leads in
    let inside : corner < length from = omega (arith, size, corner_below p o k has in_range) in
    ap (λ w. position (λ v. v == w) from) (sym entry) ∙ position-entry from corner differ inside ∙ ap (λ corners. Some (get_or corners k 0)) (sym (corners_listed-of p o))

-- different orientations list differing entries differently
pub act-apart : (p : Poly) (o other : ℤ) (from : List ℕ) → IsOrientation p o → IsOrientation p other → length from ≡ corner_count p → Differ from → act p o from ≡ act p other from → o ≡ other
act-apart p o other from has has_other size differ same =
    let one : (k : ℕ) → k < corner_count p → get_or (corners_listed p (symmetry_of o)) k 0 ≡ get_or (corners_listed p (symmetry_of other)) k 0 =
    λ k lt. same_Some _ _ (sym (found-under p o from (act p other from) k has size differ same lt) ∙ found-under p other from (act p other from) k has_other size differ refl lt) in
    let at = places_in p in
    let symmetries : symmetry_of o ≡ symmetry_of other =
    sym (settle-corners p (symmetry_of o) (symmetry-of_orientation p o has)) ∙ (λ j. settle p (one 0 at.0 j) (one (second p) at.1 j) (one (telling_place p) at.2 j)) ∙ settle-corners p (symmetry_of other) (symmetry-of_orientation p other has_other) in
    sym (orientation_of-symmetry o) ∙ ap orientation_of symmetries ∙ orientation_of-symmetry other

-- ---- the orientation that leads from one list to another

-- one that leads there is the one that is found
pub relative-leads : (p : Poly) (o : ℤ) (from to : List ℕ) → IsOrientation p o → length from ≡ corner_count p → Differ from → act p o from ≡ to → relative p from to ≡ Some o
unfolding relative
relative-leads p o from to has size differ leads =
    find-only (λ z. same_list (act p z from) to) (orientations p) o has ((bytes_decides (act p o from) to).1 leads)
    (λ k d lt passes. act-apart p _ o from (Contains-get_or (orientations p) k d lt) has size differ (same_text _ _ (sym passes) ∙ sym leads))

-- none is found where none leads there
pub relative-none : (p : Poly) (from to : List ℕ) → ((o : ℤ) → IsOrientation p o → act p o from ≢ to) → relative p from to ≡ None
unfolding relative
relative-none p from to none =
    find-none leads_there (orientations p) (list_any_none leads_there (orientations p)
    (λ k d lt. elim (cases_Bool (same_list (act p (get_or (orientations p) k d) from) to)) [
      | inl passed ↦ absurd (none _ (Contains-get_or (orientations p) k d lt) (same_text _ _ (sym passed)))
      | inr failed ↦ failed
    ]))
  where
    leads_there : ℤ → Bool
    leads_there z = same_list (act p z from) to

-- acting by the number of a symmetry
pub act-orientation_of : (p : Poly) (t : Symmetry) (from : List ℕ) → act p (orientation_of t) from ≡ picked from (corners_listed p t)
unfolding act
act-orientation_of p t from = ap (picked from) (sym (corners_listed-of p (orientation_of t)) ∙ ap (corners_listed p) (symmetry_of-number t))

-- where a vertex of the one list is not found in the other, no orientation leads there
pub none-lost : (p : Poly) (from to : List ℕ) (k : ℕ) → length from ≡ corner_count p → Differ from → k < corner_count p → position (λ v. v == get_or to k 0) from ≡ None
    → (o : ℤ) → IsOrientation p o → act p o from ≢ to
none-lost p from to k size differ in_range lost o has leads = none-some _ (sym lost ∙ found-under p o from to k has size differ leads in_range)

-- an orientation that leads there is the one that three found places settle
pub settle-found : (p : Poly) (o : ℤ) (from to : List ℕ) (a b c : ℕ) → IsOrientation p o → length from ≡ corner_count p → Differ from → act p o from ≡ to
    → position (λ v. v == get_or to 0 0) from ≡ Some a → position (λ v. v == get_or to (second p) 0) from ≡ Some b → position (λ v. v == get_or to (telling_place p) 0) from ≡ Some c
    → settle p a b c ≡ symmetry_of o
settle-found p o from to a b c has size differ leads at_first at_second at_telling =
    let corner : (k i : ℕ) → k < corner_count p → position (λ v. v == get_or to k 0) from ≡ Some i → i ≡ get_or (corners_listed p (symmetry_of o)) k 0 =
    λ k i lt at. same_Some _ _ (sym at ∙ found-under p o from to k has size differ leads lt) in
    let at = places_in p in
    (λ j. settle p (corner 0 a at.0 at_first j) (corner (second p) b at.1 at_second j) (corner (telling_place p) c at.2 at_telling j)) ∙ settle-corners p (symmetry_of o) (symmetry-of_orientation p o has)

-- acting lists the corners of the symmetry
pub act-symmetry_of : (p : Poly) (o : ℤ) (from : List ℕ) → act p o from ≡ picked from (corners_listed p (symmetry_of o))
unfolding act
act-symmetry_of p o from = ap (picked from) (sym (corners_listed-of p o))
