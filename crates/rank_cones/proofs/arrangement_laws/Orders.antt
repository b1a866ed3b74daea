-- Vertices told by the rising vertices of their point and the number of their order.
use Rattle.std.proofs.Common.{◌≡◌, ℕ, ◌+◌, ◌*◌, ◌/◌, ◌%◌, ◌<◌, ◌≤◌, Bool, true, false, cond, ◌||◌, ◌==◌, List, [], ◌∷◌, length, get_or, refl, sym, ap, ◌∙◌, subst, ⊎_elim, arith}
use Rattle.std.specs.Prelude.{nat_le}
use Rattle.std.specs.List.{list_any}
use Rattle.std.proofs.lemmas.Bool.{eqb-true, eq-eqb, cases_lt}
use Rattle.std.proofs.lemmas.List.{get_or_past}
use Rattle.plain_lists.specs.Lists.{inserted, sorted}
use Rattle.plain_lists.proofs.Each.{all_at}
use Rattle.plain_lists.proofs.Finding.{stands}
use Rattle.rank_laws.proofs.Found.{length-sorted}
use Rattle.rank_laws.specs.share_laws.Packed.{no_vertex}
use Rattle.rank_chart_laws.specs.meeting_laws.Sets.{filled}
use Rattle.rank_cones.specs.arrangement_laws.Orders.{place_of, order_number, in_order}

-- ---- members

-- sorting keeps the members
any-inserted : (p : ℕ → Bool) (x : ℕ) (ys : List ℕ) → list_any p (inserted x ys) ≡ (p x || list_any p ys)
any-inserted p x [] = refl
any-inserted p x (y ∷ ys) = go (nat_le x y) (any-inserted p x ys)
  where
    swapped : (a b c : Bool) → (a || (b || c)) ≡ (b || (a || c))
    swapped true true c = refl
    swapped true false c = refl
    swapped false true c = refl
    swapped false false c = refl

    go : (b : Bool) → list_any p (inserted x ys) ≡ (p x || list_any p ys) → list_any p (cond b (x ∷ y ∷ ys) (y ∷ inserted x ys)) ≡ (p x || (p y || list_any p ys))
    go true r = refl
    go false r = ap (λ c. p y || c) r ∙ swapped (p y) (p x) (list_any p ys)

any-sorted : (p : ℕ → Bool) (xs : List ℕ) → list_any p (sorted xs) ≡ list_any p xs
unfolding sorted
any-sorted p [] = refl
any-sorted p (x ∷ xs) = any-inserted p x (sorted xs) ∙ ap (λ b. p x || b) (any-sorted p xs)

-- filling keeps the members
any-filled : (p : ℕ → Bool) (xs : List ℕ) → length xs ≤ 4 → list_any p xs ≡ true → list_any p (filled xs) ≡ true
any-filled p [] few h = absurd (cc h)
any-filled p (a ∷ []) few h = first (p a) h
  where
    first : (b : Bool) → (b || false) ≡ true → (b || (p no_vertex || (p no_vertex || (p no_vertex || false)))) ≡ true
    first true e = refl
    first false e = absurd (cc e)
any-filled p (a ∷ b ∷ []) few h = first (p a) (p b) h
  where
    first : (x y : Bool) → (x || (y || false)) ≡ true → (x || (y || (p no_vertex || (p no_vertex || false)))) ≡ true
    first true y e = refl
    first false true e = refl
    first false false e = absurd (cc e)
any-filled p (a ∷ b ∷ c ∷ []) few h = first (p a) (p b) (p c) h
  where
    first : (x y z : Bool) → (x || (y || (z || false))) ≡ true → (x || (y || (z || (p no_vertex || false)))) ≡ true
    first true y z e = refl
    first false true z e = refl
    first false false true e = refl
    first false false false e = absurd (cc e)
any-filled p (a ∷ b ∷ c ∷ d ∷ []) few h = h
any-filled p (a ∷ b ∷ c ∷ d ∷ e ∷ xs) few h = absurd (omega (arith, few))

-- and ends with what stands for no vertex
end-filled : (xs : List ℕ) → length xs ≤ 3 → list_any (λ w. w == no_vertex) (filled xs) ≡ true
end-filled [] few = refl
end-filled (a ∷ []) few = last (a == no_vertex)
  where
    last : (b : Bool) → (b || true) ≡ true
    last true = refl
    last false = refl
end-filled (a ∷ b ∷ []) few = last (a == no_vertex) (b == no_vertex)
  where
    last : (x y : Bool) → (x || (y || true)) ≡ true
    last true y = refl
    last false true = refl
    last false false = refl
end-filled (a ∷ b ∷ c ∷ []) few = last (a == no_vertex) (b == no_vertex) (c == no_vertex)
  where
    last : (x y z : Bool) → (x || (y || (z || true))) ≡ true
    last true y z = refl
    last false true z = refl
    last false false true = refl
    last false false false = refl
end-filled (a ∷ b ∷ c ∷ d ∷ xs) few = absurd (omega (arith, few))

-- a list of up to four, filled, has among its sorted and filled numbers what it has at each place
member : (xs : List ℕ) (k : ℕ) → length xs ≤ 4 → k < 4 → list_any (λ w. w == get_or xs k no_vertex) (filled (sorted xs)) ≡ true
member xs k few low = ⊎_elim
    (λ (lt : k < length xs). any-filled (λ w. w == get_or xs k no_vertex) (sorted xs) (omega (arith, few, length-sorted xs))
    (any-sorted (λ w. w == get_or xs k no_vertex) xs ∙ all_at (λ x. (p : ℕ → Bool) → p x ≡ true → list_any p xs ≡ true) xs k no_vertex (stands xs) lt (λ w. w == get_or xs k no_vertex) (eq-eqb (get_or xs k no_vertex) (get_or xs k no_vertex) refl)))
    (λ (ge : length xs ≤ k). subst (λ v. list_any (λ w. w == v) (filled (sorted xs)) ≡ true) (sym (get_or_past xs k no_vertex ge)) (end-filled (sorted xs) (omega (arith, ge, low, length-sorted xs))))
    (cases_lt k (length xs))

-- ---- places

pub place-low : (v : ℕ) (four : List ℕ) → place_of v four < 4
place-low v four = go (get_or four 0 0 == v) (get_or four 1 0 == v) (get_or four 2 0 == v)
  where
    go : (a b c : Bool) → cond a 0 (cond b 1 (cond c 2 3)) < 4
    go true b c = omega arith
    go false true c = omega arith
    go false false true = omega arith
    go false false false = omega arith

-- a number among four stands at its place
place-there : (v a b c d : ℕ) → list_any (λ w. w == v) (a ∷ b ∷ c ∷ d ∷ []) ≡ true → get_or (a ∷ b ∷ c ∷ d ∷ []) (place_of v (a ∷ b ∷ c ∷ d ∷ [])) 0 ≡ v
place-there v a b c d h = go (a == v) refl (b == v) refl (c == v) refl (d == v) refl h
  where
    go : (x : Bool) → (a == v) ≡ x → (y : Bool) → (b == v) ≡ y → (z : Bool) → (c == v) ≡ z → (t : Bool) → (d == v) ≡ t → (x || (y || (z || (t || false)))) ≡ true
        → get_or (a ∷ b ∷ c ∷ d ∷ []) (cond x 0 (cond y 1 (cond z 2 3))) 0 ≡ v
    go true e y f z g t i s = eqb-true a v e
    go false e true f z g t i s = eqb-true b v f
    go false e false f true g t i s = eqb-true c v g
    go false e false f false g true i s = eqb-true d v i
    go false e false f false g false i s = absurd (cc s)

-- ---- numbers

-- four digits with base 4
digits : (a b c d : ℕ) → a < 4 → b < 4 → c < 4 → d < 4
    → (n : ℕ) → n ≡ ((a * 4 + b) * 4 + c) * 4 + d → (n / 64 % 4 ≡ a) × (n / 16 % 4 ≡ b) × (n / 4 % 4 ≡ c) × (n % 4 ≡ d)
digits a b c d la lb lc ld n e = (omega (arith, la, lb, lc, ld, e), omega (arith, la, lb, lc, ld, e), omega (arith, la, lb, lc, ld, e), omega (arith, la, lb, lc, ld, e))

-- the order of vertices gives the vertices back
pub order-back : (list : List ℕ) → length list ≤ 4 → in_order (filled (sorted list)) (order_number (filled (sorted list)) (filled list)) ≡ filled list
unfolding order_number
order-back list few =
    let four : List ℕ = filled (sorted list) in
    let place : ℕ → ℕ = λ k. place_of (get_or list k no_vertex) four in
    let at : (k : ℕ) → k < 4 → get_or four (place k) 0 ≡ get_or list k no_vertex = λ k low. place-there (get_or list k no_vertex) (get_or (sorted list) 0 no_vertex) (get_or (sorted list) 1 no_vertex) (get_or (sorted list) 2 no_vertex) (get_or (sorted list) 3 no_vertex) (member list k few low) in
    let (first, second, third, last) = digits (place 0) (place 1) (place 2) (place 3) (place-low (get_or list 0 no_vertex) four) (place-low (get_or list 1 no_vertex) four) (place-low (get_or list 2 no_vertex) four) (place-low (get_or list 3 no_vertex) four) (order_number four (filled list)) refl in
    (λ i. get_or four (first i) 0 ∷ get_or four (second i) 0 ∷ get_or four (third i) 0 ∷ get_or four (last i) 0 ∷ [])
    ∙ (λ i. at 0 (omega arith) i ∷ at 1 (omega arith) i ∷ at 2 (omega arith) i ∷ at 3 (omega arith) i ∷ [])

-- the number of an order has eight bits
pub order-low : (four list : List ℕ) → order_number four list < 256
unfolding order_number
order-low four list =
    let a = place-low (get_or list 0 0) four in
    let b = place-low (get_or list 1 0) four in
    let c = place-low (get_or list 2 0) four in
    let d = place-low (get_or list 3 0) four in
    omega (arith, a, b, c, d)
