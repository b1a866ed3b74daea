-- The permutations that the orientations of the solids are, found by a search over all lists of corners.
use Rattle.std.proofs.Common.{◌≡◌, ℕ, ◌<◌, true, false, Bool, not, cond, ◌&&◌, ◌==◌, ltb, List, [], ◌∷◌, length, take, get_or, refl, sym, ap, ◌∙◌, subst, arith, Ordering}
use Rattle.std.specs.List.{Contains, list_any, list_all}
use Rattle.std.specs.List.Sorted.{IsStrictlySortedBy}
use Rattle.std.specs.Ordering.{nat_cmp, is_lt}
use Rattle.std.specs.Cmp.Lexicographic.{slice_cmp, same_text}
use Rattle.std.specs.declared.cmp.Ordering.TheVariants.{Less, Equal, Greater}
use Rattle.std.proofs.lemmas.Bool.{and_parts, ltb-true, eqb-true, eq-eqb, ne_eqb, not-true, false≢true, cond-true, cond-false}
use Rattle.std.proofs.lemmas.List.{get_or_default, get_or-take, length-take}
use Rattle.std.proofs.lemmas.List.Sums.{AllPass-from_list_all}
use Rattle.std.proofs.lemmas.List.Folds.{Any-from_list_any, list_any_none}
use Rattle.std.proofs.lemmas.List.Elements.{All-contains, All-from_get_or, recursion_from_All}
use Rattle.plain_lists.specs.Lists.{below, same_list}
use Rattle.plain_lists.proofs.Below.{passes-below}
use Rattle.poly_orient.specs.Rules.{IsOrder, AreRising}

-- ---- tests of lists, and what they mean

-- a test that passes at all rows passes at each
pub passes_at : (test : List ℕ → Bool) (rows : List (List ℕ)) (corners : List ℕ) → list_all test rows ≡ true → Contains rows corners → test corners ≡ true
passes_at test rows corners all has = All-contains (λ row. test row ≡ true) rows corners (AllPass-from_list_all test rows all) has

-- the numbers below n in some order
abbrev pub is_order : ℕ → List ℕ → Bool
is_order n corners =
    (length corners == n) && (list_all (λ c. ltb c n) corners && list_all (λ j. list_all (λ i. not (get_or corners i 0 == get_or corners j 0)) (below j)) (below n))

pub IsOrder-tested : (n : ℕ) (corners : List ℕ) → is_order n corners ≡ true → IsOrder n corners
IsOrder-tested n corners tested =
    let size = and_parts (length corners == n) (list_all (λ c. ltb c n) corners && list_all (λ j. list_all (λ i. not (get_or corners i 0 == get_or corners j 0)) (below j)) (below n)) tested in
    let parts = and_parts (list_all (λ c. ltb c n) corners) (list_all (λ j. list_all (λ i. not (get_or corners i 0 == get_or corners j 0)) (below j)) (below n)) size.1 in
    let length_is : length corners ≡ n = eqb-true _ _ size.0 in
    record {
      all = length_is;
      in_range = λ k d lt. ltb-true _ _ (AllPass-from_list_all (λ c. ltb c n) corners parts.0 k d lt);
      differ = λ i j d lt inside same.
          let row = passes-below (λ j. list_all (λ i. not (get_or corners i 0 == get_or corners j 0)) (below j)) n j parts.1 (omega (arith, inside, length_is)) in
          let apart = not-true _ (passes-below (λ i. not (get_or corners i 0 == get_or corners j 0)) j i row lt) in
          false≢true (sym apart ∙ eq-eqb _ _ (get_or_default corners i 0 d (omega (arith, lt, inside)) ∙ same ∙ get_or_default corners j d 0 inside));
    }

-- the lists rise
abbrev pub are_rising : List (List ℕ) → Bool
are_rising [] = true
are_rising (x ∷ xs) = list_all (λ y. is_lt (slice_cmp nat_cmp x y)) xs && are_rising xs

is_less : (o : Ordering) → is_lt o ≡ true → o ≡ Less
is_less Less h = refl
is_less Equal h = absurd (false≢true h)
is_less Greater h = absurd (false≢true h)

pub AreRising-tested : (lists : List (List ℕ)) → are_rising lists ≡ true → AreRising lists
unfolding IsStrictlySortedBy
AreRising-tested [] tested = tt
AreRising-tested (x ∷ xs) tested =
    let parts = and_parts (list_all (λ y. is_lt (slice_cmp nat_cmp x y)) xs) (are_rising xs) tested in
    (recursion_from_All (λ y. slice_cmp nat_cmp x y ≡ Less) xs (λ k d lt. is_less _ (AllPass-from_list_all (λ y. is_lt (slice_cmp nat_cmp x y)) xs parts.0 k d lt)), AreRising-tested xs parts.1)

-- ---- the lists of a search by their sense

-- each list is among those of its sense
abbrev pub is_sorted_out : (List ℕ → Bool) → List (List ℕ) → List (List ℕ) → List ℕ → Bool
is_sorted_out sense kept turned_over corners = cond (sense corners) (list_any (same_list corners) kept) (list_any (same_list corners) turned_over)

Contains-tested : (rows : List (List ℕ)) (corners : List ℕ) → list_any (same_list corners) rows ≡ true → Contains rows corners
Contains-tested rows corners found =
    let any = Any-from_list_any (same_list corners) rows found in
    subst (Contains rows) (sym (same_text corners any.1 (sym any.4))) (any.0, any.2, any.3)

pub kept_found : (sense : List ℕ → Bool) (kept turned_over all : List (List ℕ)) (corners : List ℕ) → list_all (is_sorted_out sense kept turned_over) all ≡ true → Contains all corners → sense corners ≡ true → Contains kept corners
kept_found sense kept turned_over all corners sorted_out has passed =
    Contains-tested kept corners (sym (cond-true (sense corners) _ _ passed) ∙ passes_at (is_sorted_out sense kept turned_over) all corners sorted_out has)

pub turned_over_found : (sense : List ℕ → Bool) (kept turned_over all : List (List ℕ)) (corners : List ℕ) → list_all (is_sorted_out sense kept turned_over) all ≡ true → Contains all corners → sense corners ≡ false → Contains turned_over corners
turned_over_found sense kept turned_over all corners sorted_out has failed =
    Contains-tested turned_over corners (sym (cond-false (sense corners) _ _ failed) ∙ passes_at (is_sorted_out sense kept turned_over) all corners sorted_out has)

-- ---- lists that are found

-- an entry of the numbers in some order is not among those before it
pub is_new : (n : ℕ) (corners : List ℕ) (k : ℕ) → IsOrder n corners → k < n → list_any (λ d. d == get_or corners k 0) (take k corners) ≡ false
is_new n corners k order lt =
    let size = order.all in
    list_any_none (λ d. d == get_or corners k 0) (take k corners)
    (All-from_get_or (λ d. (d == get_or corners k 0) ≡ false) (take k corners) 0
    (λ i inside.
    let earlier : i < k = omega (arith, inside, length-take k corners) in
    ap (λ d. d == get_or corners k 0) (get_or-take k corners i 0 earlier) ∙ ne_eqb _ _ (order.differ i k 0 earlier (omega (arith, lt, size)))))
