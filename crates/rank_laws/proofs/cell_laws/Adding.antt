-- A value that is added at places, one after another.
use Rattle.std.proofs.Common.{◌≡◌, ◌≢◌, ℕ, ◌+◌, ◌*◌, ◌<◌, ◌≤◌, ◌==◌, List, [], ◌∷◌, length, get_or, take, set, slice_index, sym, ap, ◌∙◌, ⊎_elim, arith}
use Rattle.std.specs.Prelude.{count_by}
use Rattle.std.specs.List.{AllByRecursion}
use Rattle.std.proofs.lemmas.Bool.{cases_eq, eq-eqb, ne_eqb}
use Rattle.std.proofs.lemmas.List.{take_more, length-take-le, get_or-set_other, get_or_default, length-set}
use Rattle.std.proofs.lemmas.List.Sums.{count_by-le-length}
use Rattle.std.proofs.lemmas.Nat.{mul-le}
use Rattle.std.proofs.lemmas.Grind.{get_or-set_at}
use Rattle.plain_lists.proofs.Each.{all_at}
use Rattle.plain_lists.proofs.Filters.{count-append}
use Rattle.rank_laws.specs.cell_laws.Cells.{once, IsAdded}
use Rattle.rank_laws.proofs.cell_laws.Once.{count-cons}

step-times : (value n : ℕ) → value * (n + 1) ≡ value * n + value
step-times value n = grind arith

-- a count over one place more
count-more : (p : ℕ) (places : List ℕ) (i : ℕ) → i < length places → count_by (λ k. k == p) (take (i + 1) places) ≡ count_by (λ k. k == p) (take i places) + once (get_or places i 0 == p)
count-more p places i low =
    let one : count_by (λ k. k == p) (get_or places i 0 ∷ []) ≡ once (get_or places i 0 == p) = count-cons (λ k. k == p) (get_or places i 0) [] ∙ (let none : once (get_or places i 0 == p) + count_by (λ k. k == p) [] ≡ once (get_or places i 0 == p) = omega arith in none) in
    ap (count_by (λ k. k == p)) (take_more places i 0 low) ∙ count-append (λ k. k == p) (take i places) (get_or places i 0 ∷ []) ∙ ap (λ n. count_by (λ k. k == p) (take i places) + n) one

-- the value at one place more
pub added-more : (value : ℕ) (places before now : List ℕ) (i x : ℕ) → i < length places → AllByRecursion (λ k. k < length before) places → x ≡ get_or now (get_or places i 0) x
    → IsAdded value (take i places) before now → IsAdded value (take (i + 1) places) before (set now (get_or places i 0) (x + value))
added-more value places before now i x low within is h = record { many = length-set now k (x + value) ∙ h.many; each = each }
  where
    k : ℕ
    k = get_or places i 0

    k-low : k < length now
    k-low = let there : k < length before = all_at (λ k. k < length before) places i 0 within low in omega (arith, h.many)

    each : (p : ℕ) → p < length before → slice_index (set now k (x + value)) p ≡ slice_index before p + value * count_by (λ k. k == p) (take (i + 1) places)
    each p p-low = ⊎_elim
        (λ (same : k ≡ p).
        let here : slice_index (set now k (x + value)) p ≡ x + value = get_or-set_at now k p (x + value) 0 (sym same) k-low in
        let old : x ≡ slice_index before p + value * count_by (λ k. k == p) (take i places) = is ∙ get_or_default now k x 0 k-low ∙ ap (λ j. get_or now j 0) same ∙ h.each p p-low in
        let more : count_by (λ k. k == p) (take (i + 1) places) ≡ count_by (λ k. k == p) (take i places) + 1 = count-more p places i low ∙ ap (λ b. count_by (λ k. k == p) (take i places) + once b) (eq-eqb k p same) in
        let times = ap (λ n. value * n) more ∙ step-times value (count_by (λ k. k == p) (take i places)) in
        omega (arith, here, old, times))
        (λ (other : k ≢ p).
        let here : slice_index (set now k (x + value)) p ≡ slice_index now p = get_or-set_other now k p (x + value) 0 (λ e. other (sym e)) in
        let more : count_by (λ k. k == p) (take (i + 1) places) ≡ count_by (λ k. k == p) (take i places) = count-more p places i low ∙ ap (λ b. count_by (λ k. k == p) (take i places) + once b) (ne_eqb k p other) ∙ (let none : count_by (λ k. k == p) (take i places) + 0 ≡ count_by (λ k. k == p) (take i places) = omega arith in none) in
        here ∙ h.each p p-low ∙ ap (λ n. slice_index before p + value * n) (sym more))
        (cases_eq k p)

-- the next sum is no larger than all places allow
pub added-fits : (value : ℕ) (places before now : List ℕ) (i x bound : ℕ) → i < length places → AllByRecursion (λ k. k < length before) places → x ≡ get_or now (get_or places i 0) x
    → IsAdded value (take i places) before now → ((p : ℕ) → p < length before → slice_index before p + value * length places < bound) → x + value < bound
added-fits value places before now i x bound low within is h room =
    let k = get_or places i 0 in
    let k-low : k < length before = all_at (λ k. k < length before) places i 0 within low in
    let old : x ≡ slice_index before k + value * count_by (λ j. j == k) (take i places) = is ∙ get_or_default now k x 0 (omega (arith, h.many)) ∙ h.each k k-low in
    let count : count_by (λ j. j == k) (take i places) ≤ i = omega (arith, count_by-le-length (λ j. j == k) (take i places), length-take-le i places (omega arith)) in
    let next : value * (count_by (λ j. j == k) (take i places) + 1) ≤ value * length places = mul-le value (count_by (λ j. j == k) (take i places) + 1) value (length places) (omega arith) (omega arith) in
    omega (arith, old, next, step-times value (count_by (λ j. j == k) (take i places)), room k k-low)
