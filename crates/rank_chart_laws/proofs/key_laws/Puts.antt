-- What lists have after values are put at places.
use Rattle.std.proofs.Common.{◌≡◌, ◌≢◌, ℕ, zero, suc, ◌<◌, ◌≤◌, false, ◌||◌, ◌==◌, List, [], ◌∷◌, length, get_or, set, refl, sym, ◌∙◌, subst, arith, get_or-set_other, get_or-set_same}
use Rattle.std.specs.List.{AllByRecursion, list_any}
use Rattle.std.proofs.lemmas.Bool.{both_ways, eq-eqb, ne_eqb, or_parts}
use Rattle.std.proofs.Math.ListN.{length-set}
use Rattle.rank_chart_laws.specs.key_laws.Places.{put}

-- a list keeps its length
pub length-put : (own ps vs : List ℕ) → length (put own ps vs) ≡ length own
length-put own [] vs = refl
length-put own (p ∷ ps) [] = refl
length-put own (p ∷ ps) (v ∷ vs) = length-put (set own p v) ps vs ∙ length-set own p v

-- a place that is not among those keeps what it has
pub put-elsewhere : (own ps vs : List ℕ) (i : ℕ) → list_any (λ p. p == i) ps ≡ false → get_or (put own ps vs) i 0 ≡ get_or own i 0
put-elsewhere own [] vs i h = refl
put-elsewhere own (p ∷ ps) [] i h = refl
put-elsewhere own (p ∷ ps) (v ∷ vs) i h =
    let both = or_parts (p == i) (list_any (λ q. q == i) ps) h in
    let other : i ≢ p = λ e. both_ways (p == i) both.0 (eq-eqb p i (sym e)) in
    put-elsewhere (set own p v) ps vs i both.1 ∙ get_or-set_other own p i v 0 other

-- each of different places has its value
pub put-there : (own ps vs : List ℕ) (k : ℕ) → AllByRecursion (λ p. p < length own) ps → ((i j : ℕ) → i < j → j < length ps → get_or ps i 0 ≢ get_or ps j 0) → k < length ps → length ps ≤ length vs → get_or (put own ps vs) (get_or ps k 0) 0 ≡ get_or vs k 0
put-there own [] vs k inside apart low few = absurd (omega (arith, low))
put-there own (p ∷ ps) [] k inside apart low few = absurd (omega (arith, few))
put-there own (p ∷ ps) (v ∷ vs) zero inside apart low few = put-elsewhere (set own p v) ps vs p none ∙ get_or-set_same own p v 0 inside.0
  where
    fails : (qs : List ℕ) → ((j : ℕ) → j < length qs → p ≢ get_or qs j 0) → list_any (λ q. q == p) qs ≡ false
    fails [] h = refl
    fails (q ∷ qs) h = (λ i. ne_eqb q p (λ e. h 0 (omega arith) (sym e)) i || fails qs (λ j low. h (suc j) (omega (arith, low))) i)

    none : list_any (λ q. q == p) ps ≡ false
    none = fails ps (λ j low. apart 0 (suc j) (omega arith) (omega (arith, low)))
put-there own (p ∷ ps) (v ∷ vs) (suc k) inside apart low few =
    put-there (set own p v) ps vs k (subst (λ n. AllByRecursion (λ q. q < n) ps) (sym (length-set own p v)) inside.1) (λ i j lt high. apart (suc i) (suc j) (omega (arith, lt)) (omega (arith, high))) (omega (arith, low)) (omega (arith, few))
