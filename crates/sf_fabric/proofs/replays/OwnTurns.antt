-- Turns whose places are not below the next ones of their ranks: each rank's places rise.
use Rattle.std.proofs.Common.{◌≡◌, ◌⊎◌, ◌≢◌, ℕ, zero, suc, ◌+◌, ◌<◌, ◌≤◌, Bool, true, false, cond, ◌==◌, List, [], ◌∷◌, map, length, get_or, set, refl, sym, ap, subst, ◌∙◌, ⊎_elim, arith}
use Rattle.std.specs.Prelude.{filter}
use Rattle.std.specs.List.{AllByRecursion}
use Rattle.std.proofs.lemmas.Bool.{eq-eqb, ne_eqb, cond-true, cond-false}
use Rattle.std.proofs.lemmas.List.{length-set, get_or-set_same, get_or-set_other}
use Rattle.plain_lists.proofs.Each.{all_weaker}
use Rattle.sf_defs.specs.declared.Turn.{Turn}
use Rattle.sf_defs.specs.Asks.{IsRising}
use Rattle.sf_defs.specs.Rounds.{places_of}
use Rattle.round_laws.proofs.Shuffles.{same_rank}

-- no place is below its rank's next one
abbrev pub OwnFrom : List ℕ → List Turn → Type 0
OwnFrom next [] = Unit {0}
OwnFrom next (t ∷ ts) = (get_or next t.rank 0 ≤ t.index) × OwnFrom (set next t.rank (t.index + 1)) ts

pub places-own : (rank : ℕ) (t : Turn) (ts : List Turn) → t.rank ≡ rank → places_of rank (t ∷ ts) ≡ t.index ∷ places_of rank ts
places-own rank t ts h = ap (map (λ (t : Turn). t.index)) (cond-true (t.rank == rank) _ _ (eq-eqb t.rank rank h))

pub places-other : (rank : ℕ) (t : Turn) (ts : List Turn) → t.rank ≢ rank → places_of rank (t ∷ ts) ≡ places_of rank ts
places-other rank t ts h = ap (map (λ (t : Turn). t.index)) (cond-false (t.rank == rank) _ _ (ne_eqb t.rank rank h))

-- then each rank's places rise from its next one on
pub own-rises : (next : List ℕ) (ts : List Turn) → AllByRecursion (λ (t : Turn). t.rank < length next) ts → OwnFrom next ts → (rank : ℕ) → IsRising (places_of rank ts) × AllByRecursion (λ k. get_or next rank 0 ≤ k) (places_of rank ts)
own-rises next [] h own rank = (tt, tt)
own-rises next (t ∷ ts) h own rank =
    let rest = own-rises (set next t.rank (t.index + 1)) ts (all_weaker (λ (u : Turn). u.rank < length next) (λ (u : Turn). u.rank < length (set next t.rank (t.index + 1))) (λ u lt. subst (λ n. u.rank < n) (sym (length-set next t.rank (t.index + 1))) lt) ts h.1) own.1 rank in
    ⊎_elim
    (λ same.
    let bound : AllByRecursion (λ k. t.index + 1 ≤ k) (places_of rank ts) = subst (λ n. AllByRecursion (λ k. n ≤ k) (places_of rank ts)) (ap (λ r. get_or (set next t.rank (t.index + 1)) r 0) (sym same) ∙ get_or-set_same next t.rank (t.index + 1) 0 h.0) rest.1 in
    let low : get_or next rank 0 ≤ t.index = subst (λ r. get_or next r 0 ≤ t.index) same own.0 in
    subst (λ ks. IsRising ks × AllByRecursion (λ k. get_or next rank 0 ≤ k) ks) (sym (places-own rank t ts same))
    ((all_weaker (λ k. t.index + 1 ≤ k) (λ k. t.index < k) (λ k le. omega arith) (places_of rank ts) bound, rest.0), (low, all_weaker (λ k. t.index + 1 ≤ k) (λ k. get_or next rank 0 ≤ k) (λ k le. omega arith) (places_of rank ts) bound)))
    (λ other.
    subst (λ ks. IsRising ks × AllByRecursion (λ k. get_or next rank 0 ≤ k) ks) (sym (places-other rank t ts other))
    (rest.0, subst (λ n. AllByRecursion (λ k. n ≤ k) (places_of rank ts)) (get_or-set_other next t.rank rank (t.index + 1) 0 (λ e. other (sym e))) rest.1))
    (same_rank t.rank rank)

-- and where they do, no place is below its rank's next one
pub rises-own : (next : List ℕ) (ts : List Turn) → AllByRecursion (λ (t : Turn). t.rank < length next) ts → ((rank : ℕ) → IsRising (places_of rank ts) × AllByRecursion (λ k. get_or next rank 0 ≤ k) (places_of rank ts)) → OwnFrom next ts
rises-own next [] h rises = tt
rises-own next (t ∷ ts) h rises =
    let mine : IsRising (t.index ∷ places_of t.rank ts) × AllByRecursion (λ k. get_or next t.rank 0 ≤ k) (t.index ∷ places_of t.rank ts) = subst (λ ks. IsRising ks × AllByRecursion (λ k. get_or next t.rank 0 ≤ k) ks) (places-own t.rank t ts refl) (rises t.rank) in (
      mine.1.0,
      rises-own (set next t.rank (t.index + 1)) ts (all_weaker (λ (u : Turn). u.rank < length next) (λ (u : Turn). u.rank < length (set next t.rank (t.index + 1))) (λ u lt. subst (λ n. u.rank < n) (sym (length-set next t.rank (t.index + 1))) lt) ts h.1) (λ rank. ⊎_elim
          (λ same. subst (λ r. IsRising (places_of r ts) × AllByRecursion (λ k. get_or (set next t.rank (t.index + 1)) r 0 ≤ k) (places_of r ts)) same
          (mine.0.1, subst (λ n. AllByRecursion (λ k. n ≤ k) (places_of t.rank ts)) (sym (get_or-set_same next t.rank (t.index + 1) 0 h.0)) (all_weaker (λ k. t.index < k) (λ k. t.index + 1 ≤ k) (λ k lt. omega arith) (places_of t.rank ts) mine.0.0)))
          (λ other.
          let theirs : IsRising (places_of rank ts) × AllByRecursion (λ k. get_or next rank 0 ≤ k) (places_of rank ts) = subst (λ ks. IsRising ks × AllByRecursion (λ k. get_or next rank 0 ≤ k) ks) (places-other rank t ts other) (rises rank) in
          (theirs.0, subst (λ n. AllByRecursion (λ k. n ≤ k) (places_of rank ts)) (sym (get_or-set_other next t.rank rank (t.index + 1) 0 (λ e. other (sym e)))) theirs.1))
          (same_rank t.rank rank)),
    )
