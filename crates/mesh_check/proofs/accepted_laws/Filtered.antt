-- What does not change where some elements are taken out of a list: those of the greatest number stay, and either all or
-- none at one place.
use Rattle.std.proofs.Common.{◌≡◌, ℕ, ◌+◌, ◌-◌, ◌<◌, ◌≤◌, max, Bool, true, false, cond, ◌&&◌, ◌==◌, List, [], ◌∷◌, map, Some, refl, sym, ap, ◌∙◌, inl, inr, ◌⊎◌, ⊎_elim, arith}
use Rattle.std.specs.Prelude.{filter, find, fold}
use Rattle.std.specs.List.{AllByRecursion, list_any}
use Rattle.std.proofs.lemmas.Bool.{cases_lt, or_left, or_right, or_cases, and_parts, and_from, eqb-true, eq-eqb, cond-true, cond-false}
use Rattle.std.specs.Cmp.Lexicographic.{same_text}
use Rattle.plain_lists.specs.Lists.{sorted, same_list}
use Rattle.plain_lists.proofs.Each.{all_weaker, all_both, all_map, all_mapped, all_filter}
use Rattle.plain_lists.proofs.Filters.{filter_filter, filter_agree, and_implied}
use Rattle.plain_lists.proofs.Finding.{any_filter, any_agree, any_weaker, any_same}
use Rattle.input_defs.specs.Content.{Element}
use Rattle.input_defs.specs.Meshes.{dim, same_nodes, same_place, kept_after}

-- ---- tests that imply what is kept

module _ {X : Type 0} (p q : X → Bool) where
  -- each that passes p is kept
  abbrev pub Within : List X → Type 0
  Within xs = AllByRecursion (λ x. p x ≡ true → q x ≡ true) xs

  narrowed : (xs : List X) → Within xs → AllByRecursion (λ x. (q x && p x) ≡ p x) xs
  narrowed xs h = all_weaker (λ x. p x ≡ true → q x ≡ true) (λ x. (q x && p x) ≡ p x) (λ x f. and_implied (q x) (p x) f) xs h

  pub any-within : (xs : List X) → Within xs → list_any p (filter q xs) ≡ list_any p xs
  any-within xs h = any_filter p q xs ∙ any_agree (λ x. q x && p x) p xs (narrowed xs h)

  pub filter-within : (xs : List X) → Within xs → filter p (filter q xs) ≡ filter p xs
  filter-within xs h = filter_filter p q xs ∙ filter_agree (λ x. q x && p x) p xs (narrowed xs h)

  pub find-within : (xs : List X) → Within xs → find p (filter q xs) ≡ find p xs
  find-within [] h = refl
  find-within (x ∷ xs) h = go (q x) (p x) refl refl (find-within xs h.1)
    where
      go : (a b : Bool) → q x ≡ a → p x ≡ b → find p (filter q xs) ≡ find p xs → find p (cond a (x ∷ filter q xs) (filter q xs)) ≡ cond b (Some x) (find p xs)
      go true true ha hb r = cond-true (p x) (Some x) (find p (filter q xs)) hb
      go true false ha hb r = cond-false (p x) (Some x) (find p (filter q xs)) hb ∙ r
      go false true ha hb r = absurd (cc (sym ha ∙ h.0 hb))
      go false false ha hb r = r

-- what all that are kept have
from-filter : {X : Type 0} (P : X → Type 0) (q : X → Bool) (xs : List X) → AllByRecursion P (filter q xs) → AllByRecursion (λ x. q x ≡ true → P x) xs
from-filter P q [] h = tt
from-filter {X} P q (x ∷ xs) h = go (q x) refl h (from-filter P q xs)
  where
    go : (b : Bool) → q x ≡ b → AllByRecursion P (cond b (x ∷ filter q xs) (filter q xs)) → (AllByRecursion P (filter q xs) → AllByRecursion (λ y. q y ≡ true → P y) xs) → (q x ≡ true → P x) × AllByRecursion (λ y. q y ≡ true → P y) xs
    go true e all r = ((λ _. all.0), r all.1)
    go false e all r = ((λ t. absurd (cc (sym e ∙ t))), r all)

-- ---- the greatest number

fold-least : (b a : ℕ) (xs : List ℕ) → a ≤ b → AllByRecursion (λ x. x ≤ b) xs → fold max a xs ≤ b
fold-least b a [] low all = low
fold-least b a (x ∷ xs) low all = fold-least b (max a x) xs (omega (arith, low, all.0)) all.1

fold-start : (a : ℕ) (xs : List ℕ) → a ≤ fold max a xs
fold-start a [] = omega arith
fold-start a (x ∷ xs) = let rest = fold-start (max a x) xs in omega (arith, rest)

fold-all : (a : ℕ) (xs : List ℕ) → AllByRecursion (λ x. x ≤ fold max a xs) xs
fold-all a [] = tt
fold-all a (x ∷ xs) = let rest = fold-start (max a x) xs in (omega (arith, rest), fold-all (max a x) xs)

-- it stays where each element that has it is kept
pub greatest-within : {X : Type 0} (f : X → ℕ) (q : X → Bool) (xs : List X) → AllByRecursion (λ x. (f x == fold max 0 (map f xs)) ≡ true → q x ≡ true) xs → fold max 0 (map f (filter q xs)) ≡ fold max 0 (map f xs)
greatest-within {X} f q xs h = ⊎_elim (λ (less : G' < G). absurd (omega (arith, less, too_low less))) (λ (ge : G ≤ G'). omega (arith, ge, not_more)) (cases_lt G' G)
  where
    G : ℕ
    G = fold max 0 (map f xs)

    G' : ℕ
    G' = fold max 0 (map f (filter q xs))

    each : AllByRecursion (λ x. f x ≤ G) xs
    each = all_mapped (λ n. n ≤ G) f xs (fold-all 0 (map f xs))

    not_more : G' ≤ G
    not_more = fold-least G 0 (map f (filter q xs)) (omega arith) (all_map (λ n. n ≤ G) f (filter q xs) (all_filter (λ x. f x ≤ G) q xs each))

    kept_low : AllByRecursion (λ x. q x ≡ true → f x ≤ G') xs
    kept_low = from-filter (λ x. f x ≤ G') q xs (all_mapped (λ n. n ≤ G') f (filter q xs) (fold-all 0 (map f (filter q xs))))

    too_low : G' < G → G < G
    too_low less =
        let lower : AllByRecursion (λ x. f x + 1 ≤ G) xs = all_both (λ x. f x ≤ G) (λ x. (q x ≡ true → f x ≤ G') × ((f x == G) ≡ true → q x ≡ true)) (λ x. f x + 1 ≤ G)
        (λ x le both. ⊎_elim (λ (lt : f x < G). omega arith) (λ (ge : G ≤ f x). let low = both.0 (both.1 (eq-eqb (f x) G (omega arith))) in omega arith) (cases_lt (f x) G)) xs each
        (all_both (λ x. q x ≡ true → f x ≤ G') (λ x. (f x == G) ≡ true → q x ≡ true) (λ x. (q x ≡ true → f x ≤ G') × ((f x == G) ≡ true → q x ≡ true)) (λ x a b. (a, b)) xs kept_low h) in
        let top : ℕ = fold max 0 (map f xs) in
        let bound = fold-least (top - 1) 0 (map f xs) (omega arith) (all_map (λ n. n ≤ top - 1) f xs (all_weaker (λ x. f x + 1 ≤ top) (λ x. f x ≤ top - 1) (λ x g. omega arith) xs lower)) in
        omega (arith, bound, less)

-- ---- elements at one place

pub place-trans : (e f g : Element) → same_place e f ≡ true → same_place f g ≡ true → same_place e g ≡ true
place-trans e f g a b =
    let x = and_parts (dim e == dim f) (same_nodes e f) a in
    let y = and_parts (dim f == dim g) (same_nodes f g) b in
    and_from (dim e == dim g) (same_nodes e g) (eq-eqb (dim e) (dim g) (eqb-true (dim e) (dim f) x.0 ∙ eqb-true (dim f) (dim g) y.0))
    (ap (λ l. same_list l (sorted g.nodes)) (same_text (sorted e.nodes) (sorted f.nodes) (sym x.1)) ∙ y.1)

-- where an element stands, one is kept or stood before
kept-stands : (e : Element) (earlier es : List Element) → list_any (same_place e) es ≡ true → (list_any (same_place e) earlier ≡ true) ⊎ (list_any (same_place e) (kept_after earlier es) ≡ true)
kept-stands e earlier [] h = absurd (cc h)
kept-stands e earlier (x ∷ es) h = go (list_any (same_place x) earlier) refl (kept-stands e earlier es) (kept-stands e (x ∷ earlier) es)
  where
    Stands : List Element → Type 0
    Stands before = list_any (same_place e) es ≡ true → (list_any (same_place e) before ≡ true) ⊎ (list_any (same_place e) (kept_after before es) ≡ true)

    go : (b : Bool) → list_any (same_place x) earlier ≡ b → Stands earlier → Stands (x ∷ earlier) → (list_any (same_place e) earlier ≡ true) ⊎ (list_any (same_place e) (cond b (kept_after earlier es) (x ∷ kept_after (x ∷ earlier) es)) ≡ true)
    go true there r s = ⊎_elim (λ here. inl (any_weaker (same_place x) (same_place e) (λ f k. place-trans e x f here k) earlier there)) (λ later. r later) (or_cases (same_place e x) (list_any (same_place e) es) h)
    go false fresh r s = ⊎_elim
        (λ here. inr (or_left (same_place e x) (list_any (same_place e) (kept_after (x ∷ earlier) es)) here))
        (λ later. ⊎_elim
        (λ before. ⊎_elim (λ here. inr (or_left (same_place e x) (list_any (same_place e) (kept_after (x ∷ earlier) es)) here)) (λ t. inl t) (or_cases (same_place e x) (list_any (same_place e) earlier) before))
        (λ t. inr (or_right (same_place e x) (list_any (same_place e) (kept_after (x ∷ earlier) es)) t))
        (s later))
        (or_cases (same_place e x) (list_any (same_place e) es) h)

pub kept-there : (e : Element) (es : List Element) → list_any (same_place e) es ≡ true → list_any (same_place e) (kept_after [] es) ≡ true
kept-there e es h = ⊎_elim (λ none. absurd (cc none)) (λ t. t) (kept-stands e [] es h)

-- elements that are taken out at whole places do not change which others are kept
pub kept-filter : (q : Element → Bool) → ((e f : Element) → same_place e f ≡ true → q e ≡ q f) → (earlier es : List Element) → kept_after (filter q earlier) (filter q es) ≡ filter q (kept_after earlier es)
kept-filter q whole earlier [] = refl
kept-filter q whole earlier (e ∷ es) = go (q e) (list_any (same_place e) earlier) refl refl (kept-filter q whole earlier es) (kept-filter q whole (e ∷ earlier) es)
  where
    Same : List Element → Type 0
    Same before = kept_after (filter q before) (filter q es) ≡ filter q (kept_after before es)

    go : (a b : Bool) → q e ≡ a → list_any (same_place e) earlier ≡ b → Same earlier → Same (e ∷ earlier)
        → kept_after (filter q earlier) (cond a (e ∷ filter q es) (filter q es)) ≡ filter q (cond b (kept_after earlier es) (e ∷ kept_after (e ∷ earlier) es))
    go false true ha hb r s = r
    go false false ha hb r s = ap (λ l. kept_after l (filter q es)) (sym (cond-false (q e) (e ∷ filter q earlier) (filter q earlier) ha)) ∙ s ∙ sym (cond-false (q e) (e ∷ filter q (kept_after (e ∷ earlier) es)) (filter q (kept_after (e ∷ earlier) es)) ha)
    go true b ha hb r s = ap (λ t. cond t (kept_after (filter q earlier) (filter q es)) (e ∷ kept_after (e ∷ filter q earlier) (filter q es))) (seen ∙ hb) ∙ after b
      where
        seen : list_any (same_place e) (filter q earlier) ≡ list_any (same_place e) earlier
        seen = any_filter (same_place e) q earlier ∙ any_same (λ f. q f && same_place e f) (same_place e) (λ f. and_implied (q f) (same_place e f) (λ k. sym (whole e f k) ∙ ha)) earlier

        after : (t : Bool) → cond t (kept_after (filter q earlier) (filter q es)) (e ∷ kept_after (e ∷ filter q earlier) (filter q es)) ≡ filter q (cond t (kept_after earlier es) (e ∷ kept_after (e ∷ earlier) es))
        after true = r
        after false = ap (λ l. e ∷ l) (ap (λ l. kept_after l (filter q es)) (sym (cond-true (q e) (e ∷ filter q earlier) (filter q earlier) ha)) ∙ s) ∙ sym (cond-true (q e) (e ∷ filter q (kept_after (e ∷ earlier) es)) (filter q (kept_after (e ∷ earlier) es)) ha)
