-- Numbers of sets rise along the order of sets.
use Rattle.std.proofs.Common.{◌≡◌, ◌⊎◌, ℕ, zero, suc, ◌+◌, ◌*◌, ◌^◌, ◌<◌, ◌≤◌, Bool, true, false, ◌&&◌, ◌||◌, List, [], ◌∷◌, length, refl, sym, ap, ◌∙◌, subst, inl, inr, ⊎_elim, arith}
use Rattle.std.specs.List.{AllByRecursion}
use Rattle.std.proofs.lemmas.Bool.{both_ways, cases_lt, eq-eqb, ne_eqb, le-ltb}
use Rattle.rank_laws.specs.share_laws.Packed.{no_vertex, IsPackable}
use Rattle.rank_defs.specs.Home.{precedes}
use Rattle.rank_chart_laws.specs.key_laws.Places.{set_number}

-- ---- digits, one after another

-- the number after k more digits: of the vertices that are left, and 0 behind the last one
abbrev numbered : ℕ → ℕ → List ℕ → ℕ
numbered zero before vs = before
numbered (suc k) before [] = numbered k (before * 2 ^ 32) []
numbered (suc k) before (v ∷ vs) = numbered k (before * 2 ^ 32 + (v + 1)) vs

abbrev Small : List ℕ → Type 0
Small vs = AllByRecursion (λ v. v < no_vertex) vs

-- a lower number before stays lower
stays-lower : (k b c : ℕ) (vs ws : List ℕ) → Small vs → b < c → numbered k b vs < numbered k c ws
stays-lower zero b c vs ws s h = h
stays-lower (suc k) b c [] [] s h = stays-lower k (b * 2 ^ 32) (c * 2 ^ 32) [] [] tt (omega arith)
stays-lower (suc k) b c [] (w ∷ ws) s h = stays-lower k (b * 2 ^ 32) (c * 2 ^ 32 + (w + 1)) [] ws tt (omega arith)
stays-lower (suc k) b c (v ∷ vs) [] s h = stays-lower k (b * 2 ^ 32 + (v + 1)) (c * 2 ^ 32) vs [] s.1 (omega (arith, s.0))
stays-lower (suc k) b c (v ∷ vs) (w ∷ ws) s h = stays-lower k (b * 2 ^ 32 + (v + 1)) (c * 2 ^ 32 + (w + 1)) vs ws s.1 (omega (arith, s.0))

-- no vertices have the least number
none-least : (k b : ℕ) (ws : List ℕ) → numbered k b [] ≤ numbered k b ws
none-least zero b ws = omega arith
none-least (suc k) b [] = none-least k (b * 2 ^ 32) []
none-least (suc k) b (w ∷ ws) = let lower = stays-lower k (b * 2 ^ 32) (b * 2 ^ 32 + (w + 1)) [] ws tt (omega arith) in omega (arith, lower)

-- the order of two lists with first numbers
head-order : (v w : ℕ) (vs ws : List ℕ) → precedes (v ∷ vs) (w ∷ ws) ≡ true → (v < w) ⊎ ((v ≡ w) × (precedes vs ws ≡ true))
head-order v w vs ws h = ⊎_elim
    (λ lt. inl lt)
    (λ ge. ⊎_elim
    (λ lt. absurd (both_ways (precedes (v ∷ vs) (w ∷ ws)) (λ i. le-ltb v w ge i || (ne_eqb v w (λ e. absurd (omega (arith, e, lt))) i && precedes vs ws)) h))
    (λ le. let same : v ≡ w = omega (arith, ge, le) in inr (same, sym (λ i. le-ltb v w ge i || (eq-eqb v w same i && precedes vs ws)) ∙ h))
    (cases_lt w v))
    (cases_lt v w)

-- a list that stands before another one has no greater number
order-kept : (k b : ℕ) (vs ws : List ℕ) → length vs ≤ k → Small vs → precedes vs ws ≡ true → numbered k b vs ≤ numbered k b ws
order-kept k b [] ws few s h = none-least k b ws
order-kept k b (v ∷ vs) [] few s h = absurd (cc h)
order-kept zero b (v ∷ vs) (w ∷ ws) few s h = absurd (omega arith)
order-kept (suc k) b (v ∷ vs) (w ∷ ws) few s h = ⊎_elim
    (λ (lt : v < w). let lower = stays-lower k (b * 2 ^ 32 + (v + 1)) (b * 2 ^ 32 + (w + 1)) vs ws s.1 (omega (arith, lt)) in omega (arith, lower))
    (λ (e : (v ≡ w) × (precedes vs ws ≡ true)). subst (λ d. numbered k (b * 2 ^ 32 + (v + 1)) vs ≤ numbered k (b * 2 ^ 32 + (d + 1)) ws) e.0 (order-kept k (b * 2 ^ 32 + (v + 1)) vs ws (omega (arith, few)) s.1 e.1))
    (head-order v w vs ws h)

-- lists with one number are one
number-once : (k b : ℕ) (vs ws : List ℕ) → length vs ≤ k → length ws ≤ k → Small vs → Small ws → numbered k b vs ≡ numbered k b ws → vs ≡ ws
number-once k b [] [] p q s t e = refl
number-once zero b [] (w ∷ ws) p q s t e = absurd (omega (arith, q))
number-once (suc k) b [] (w ∷ ws) p q s t e = absurd (let lower = stays-lower k (b * 2 ^ 32) (b * 2 ^ 32 + (w + 1)) [] ws tt (omega arith) in omega (arith, lower, e))
number-once zero b (v ∷ vs) ws p q s t e = absurd (omega (arith, p))
number-once (suc k) b (v ∷ vs) [] p q s t e = absurd (let lower = stays-lower k (b * 2 ^ 32) (b * 2 ^ 32 + (v + 1)) [] vs tt (omega arith) in omega (arith, lower, e))
number-once (suc k) b (v ∷ vs) (w ∷ ws) p q s t e = ⊎_elim
    (λ (lt : v < w). absurd (let lower = stays-lower k (b * 2 ^ 32 + (v + 1)) (b * 2 ^ 32 + (w + 1)) vs ws s.1 (omega (arith, lt)) in omega (arith, lower, e)))
    (λ (ge : w ≤ v). ⊎_elim
    (λ (lt : w < v). absurd (let lower = stays-lower k (b * 2 ^ 32 + (w + 1)) (b * 2 ^ 32 + (v + 1)) ws vs t.1 (omega (arith, lt)) in omega (arith, lower, e)))
    (λ (le : v ≤ w).
    let same : v ≡ w = omega (arith, ge, le) in
    λ i. same i ∷ number-once k (b * 2 ^ 32 + (v + 1)) vs ws (omega (arith, p)) (omega (arith, q)) s.1 t.1 (e ∙ ap (λ d. numbered k (b * 2 ^ 32 + (d + 1)) ws) (sym same)) i)
    (cases_lt w v))
    (cases_lt v w)

-- ---- sets

number-is : (set : List ℕ) → set_number set ≡ numbered 4 0 set
unfolding set_number
number-is [] = omega arith
number-is (a ∷ []) = omega arith
number-is (a ∷ b ∷ []) = omega arith
number-is (a ∷ b ∷ c ∷ []) = omega arith
number-is (a ∷ b ∷ c ∷ d ∷ more) = omega arith

-- a set with a lower number stands before the other one
pub number-orders : (s t : List ℕ) → IsPackable s → IsPackable t → set_number s < set_number t → precedes t s ≡ false
number-orders s t p q h = go (precedes t s) refl
  where
    go : (b : Bool) → precedes t s ≡ b → precedes t s ≡ false
    go true e = absurd (let kept = order-kept 4 0 t s q.few q.numbers e in omega (arith, kept, h, number-is s, number-is t))
    go false e = e

-- sets with one number are one
pub number-names : (s t : List ℕ) → IsPackable s → IsPackable t → set_number s ≡ set_number t → s ≡ t
number-names s t p q e = number-once 4 0 s t p.few q.few p.numbers q.numbers (sym (number-is s) ∙ (e ∙ number-is t))
