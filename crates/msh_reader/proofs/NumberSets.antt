-- What is in a set of numbers.
use Rattle.std.proofs.Common.{◌≡◌, ℕ, zero, suc, ◌<◌, ◌≤◌, ◌==◌, ◌||◌, Bool, true, false, cond, List, [], ◌∷◌, ◌++◌, map, refl, sym, ap, ap₂, ◌∙◌, nat_eq, arith, true≢false}
use Rattle.std.specs.Prelude.{nat_le}
use Rattle.std.specs.List.{list_any}
use Rattle.std.proofs.lemmas.Bool.{eq-eqb, ne_eqb, eqb-true, eqb-false, leb-true, le-leb}
use Rattle.std.proofs.lemmas.List.Folds.{list_any-append}
use Rattle.std.proofs.Math.Path.{fun_ext}
use Rattle.plain_lists.specs.Lists.{below}
use Rattle.input_defs.specs.Sections.{has_number}

pub has-append : (xs ys : List ℕ) (n : ℕ) → has_number (xs ++ ys) n ≡ (has_number xs n || has_number ys n)
has-append xs ys n = list_any-append (λ m. m == n) xs ys

-- which way round two numbers are compared
turn : (a b : ℕ) → (a == b) ≡ (b == a)
turn a b = go (a == b) refl
  where
    go : (t : Bool) → (a == b) ≡ t → t ≡ (b == a)
    go true e = sym (eq-eqb b a (sym (eqb-true a b e)))
    go false e = sym (ne_eqb b a (λ is. eqb-false a b e (sym is)))

pub has-turned : (xs : List ℕ) (n : ℕ) → list_any (nat_eq n) xs ≡ has_number xs n
has-turned [] n = refl
has-turned (x ∷ xs) n = ap₂ (λ a b. a || b) (turn n x) (has-turned xs n)

or-false : (b : Bool) → (b || false) ≡ b
or-false true = refl
or-false false = refl

or-swap : (a b : Bool) → (a || b) ≡ (b || a)
or-swap true true = refl
or-swap true false = refl
or-swap false true = refl
or-swap false false = refl

or-assoc : (a b c : Bool) → ((a || b) || c) ≡ (a || (b || c))
or-assoc true b c = refl
or-assoc false b c = refl

map-append : (xs ys : List ℕ) → map suc (xs ++ ys) ≡ map suc xs ++ map suc ys
map-append [] ys = refl
map-append (x ∷ xs) ys = ap (λ zs. suc x ∷ zs) (map-append xs ys)

-- one more number in order
pub order-more : (k n : ℕ) → has_number (map suc (below (suc k))) n ≡ ((suc k == n) || has_number (map suc (below k)) n)
order-more k n =
    ap (λ xs. has_number xs n) (map-append (below k) (k ∷ []))
    ∙ has-append (map suc (below k)) (suc k ∷ []) n
    ∙ ap (λ b. has_number (map suc (below k)) n || b) (or-false (suc k == n))
    ∙ or-swap (has_number (map suc (below k)) n) (suc k == n)

pub order-in : (k n : ℕ) → 1 ≤ n → n ≤ k → has_number (map suc (below k)) n ≡ true
order-in zero n low high = absurd (omega arith)
order-in (suc k) n low high = order-more k n ∙ go (suc k == n) refl (λ le. order-in k n low le)
  where
    go : (t : Bool) → (suc k == n) ≡ t → (n ≤ k → has_number (map suc (below k)) n ≡ true) → (t || has_number (map suc (below k)) n) ≡ true
    go true e rest = refl
    go false e rest = let ne = eqb-false (suc k) n e in rest (omega arith)

pub order-out : (k n : ℕ) → ((1 ≤ n) → (n ≤ k) → ⊥) → has_number (map suc (below k)) n ≡ false
order-out zero n out = refl
order-out (suc k) n out =
    order-more k n
    ∙ ap₂ (λ a b. a || b) (ne_eqb (suc k) n (λ is. out (omega arith) (omega arith))) (order-out k n (λ low high. out low (omega arith)))

pub order-test : (k n : ℕ) → 1 ≤ n → nat_le n k ≡ has_number (map suc (below k)) n
order-test k n low = go (nat_le n k) refl
  where
    go : (t : Bool) → nat_le n k ≡ t → t ≡ has_number (map suc (below k)) n
    go true e = let high = leb-true n k e in sym (order-in k n low high)
    go false e = sym (order-out k n (λ low high. true≢false (sym (le-leb n k high) ∙ e)))

pub not-one : (n : ℕ) → n < 1 → nat_le 1 n ≡ false
not-one n below = go (nat_le 1 n) refl
  where
    go : (t : Bool) → nat_le 1 n ≡ t → t ≡ false
    go true e = let le = leb-true 1 n e in absurd (omega arith)
    go false e = refl

-- ---- the same numbers in two lists

pub tested-same : {A : Type 0} (k : (ℕ → Bool) → A) (a b : List ℕ) → ((n : ℕ) → has_number a n ≡ has_number b n) → k (has_number a) ≡ k (has_number b)
tested-same k a b each = ap k (fun_ext each)

-- one number more, at the end or at the beginning
pub has-more : (a b : List ℕ) (x : ℕ) → ((n : ℕ) → has_number a n ≡ has_number b n) → (n : ℕ) → has_number (x ∷ a) n ≡ has_number (b ++ x ∷ []) n
has-more a b x each n = or-swap (x == n) (has_number a n) ∙ ap₂ (λ s t. s || t) (each n) (sym (or-false (x == n))) ∙ sym (has-append b (x ∷ []) n)

-- ---- a number is put in

pub put-order : (k : ℕ) (keys : List ℕ) (n : ℕ) → has_number (map suc (below (suc k)) ++ keys) n ≡ ((suc k == n) || has_number (map suc (below k) ++ keys) n)
put-order k keys n =
    has-append (map suc (below (suc k))) keys n
    ∙ ap (λ b. b || has_number keys n) (order-more k n)
    ∙ or-assoc (suc k == n) (has_number (map suc (below k)) n) (has_number keys n)
    ∙ ap (λ b. (suc k == n) || b) (sym (has-append (map suc (below k)) keys n))

or-cond : (a b : Bool) → cond a true b ≡ (a || b)
or-cond true b = refl
or-cond false b = refl

pub put-other : (order keys keys' : List ℕ) (number : ℕ) → ((q : ℕ) → list_any (nat_eq q) keys' ≡ cond (nat_eq number q) true (list_any (nat_eq q) keys)) → (n : ℕ) → has_number (order ++ keys') n ≡ ((number == n) || has_number (order ++ keys) n)
put-other order keys keys' number updates n =
    has-append order keys' n
    ∙ ap (λ b. has_number order n || b) (sym (has-turned keys' n) ∙ updates n ∙ or-cond (number == n) _ ∙ ap (λ b. (number == n) || b) (has-turned keys n))
    ∙ sym (or-assoc (has_number order n) (number == n) (has_number keys n))
    ∙ ap (λ b. b || has_number keys n) (or-swap (has_number order n) (number == n))
    ∙ or-assoc (number == n) (has_number order n) (has_number keys n)
    ∙ ap (λ b. (number == n) || b) (sym (has-append order keys n))

-- the next number in order
pub put-next : (k number : ℕ) (keys : List ℕ) → number ≡ suc k → (n : ℕ) → has_number (map suc (below number) ++ keys) n ≡ ((number == n) || has_number (map suc (below k) ++ keys) n)
put-next k number keys is n = rw is (put-order k keys n)
