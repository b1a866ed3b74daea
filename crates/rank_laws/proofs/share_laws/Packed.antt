-- Sets of vertices packed into two words.
use Rattle.std.proofs.Common.{◌≡◌, ℕ, zero, suc, ◌+◌, ◌*◌, ◌^◌, ◌<◌, ◌≤◌, List, [], ◌∷◌, length, get_or, refl, ap, ap₂, arith}
use Rattle.std.specs.List.{AllByRecursion}
use Rattle.rank_laws.specs.share_laws.Packed.{no_vertex, packed, IsPackable}

-- two numbers below a base, from their sum
apart : (a b c d : ℕ) → b < 2 ^ 32 → d < 2 ^ 32 → a * 2 ^ 32 + b ≡ c * 2 ^ 32 + d → (a ≡ c) × (b ≡ d)
apart a b c d p q e = (omega arith, omega arith)

-- what stands at a place, also where there is no vertex, has 32 bits
place-below : (xs : List ℕ) (k : ℕ) → AllByRecursion (λ v. v < no_vertex) xs → get_or xs k no_vertex < 2 ^ 32
place-below [] k h = omega arith
place-below (x ∷ xs) zero h = omega (arith, h.0)
place-below (x ∷ xs) (suc k) h = place-below xs k h.1

-- lists that agree at each place, also past the end, are one
same-places : (n : ℕ) (xs ys : List ℕ) → length xs ≤ n → length ys ≤ n → AllByRecursion (λ v. v < no_vertex) xs → AllByRecursion (λ v. v < no_vertex) ys → ((k : ℕ) → k < n → get_or xs k no_vertex ≡ get_or ys k no_vertex) → xs ≡ ys
same-places n [] [] p q h i e = refl
same-places zero [] (y ∷ ys) p q h i e = absurd (omega arith)
same-places (suc n) [] (y ∷ ys) p q h i e = absurd (let same : no_vertex ≡ y = e 0 (omega arith) in omega (arith, i.0))
same-places zero (x ∷ xs) ys p q h i e = absurd (omega arith)
same-places (suc n) (x ∷ xs) [] p q h i e = absurd (let same : x ≡ no_vertex = e 0 (omega arith) in omega (arith, h.0))
same-places (suc n) (x ∷ xs) (y ∷ ys) p q h i e = ap₂ (λ v vs. v ∷ vs) (e 0 (omega arith)) (same-places n xs ys (omega arith) (omega arith) h.1 i.1 (λ k low. e (suc k) (omega arith)))

-- sets that are packed alike are one
pub packed-once : (xs ys : List ℕ) → IsPackable xs → IsPackable ys → packed xs ≡ packed ys → xs ≡ ys
unfolding packed
packed-once xs ys p q e = same-places 4 xs ys p.few q.few p.numbers q.numbers each
  where
    first : (get_or xs 0 no_vertex ≡ get_or ys 0 no_vertex) × (get_or xs 1 no_vertex ≡ get_or ys 1 no_vertex)
    first = apart (get_or xs 0 no_vertex) (get_or xs 1 no_vertex) (get_or ys 0 no_vertex) (get_or ys 1 no_vertex) (place-below xs 1 p.numbers) (place-below ys 1 q.numbers) (ap (λ l. get_or l 0 0) e)

    second : (get_or xs 2 no_vertex ≡ get_or ys 2 no_vertex) × (get_or xs 3 no_vertex ≡ get_or ys 3 no_vertex)
    second = apart (get_or xs 2 no_vertex) (get_or xs 3 no_vertex) (get_or ys 2 no_vertex) (get_or ys 3 no_vertex) (place-below xs 3 p.numbers) (place-below ys 3 q.numbers) (ap (λ l. get_or l 1 0) e)

    each : (k : ℕ) → k < 4 → get_or xs k no_vertex ≡ get_or ys k no_vertex
    each zero low = first.0
    each (suc zero) low = first.1
    each (suc (suc zero)) low = second.0
    each (suc (suc (suc zero))) low = second.1
    each (suc (suc (suc (suc k)))) low = absurd (omega arith)
