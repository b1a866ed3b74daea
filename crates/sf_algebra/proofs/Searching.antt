-- The search for the first root with two leaves.
use Rattle.std.proofs.Common.{◌≡◌, ℕ, zero, suc, ◌+◌, ◌<◌, ◌≤◌, Bool, true, false, List, [], ◌∷◌, ◌++◌, length, map, get_or, drop, nat_lt, Option, Some, None, option_map, arith, refl, ap, sym, ◌∙◌, ⊎_elim, add-one}
use Rattle.std.specs.Prelude.{find, flat_map}
use Rattle.std.specs.List.{enumerate_from}
use Rattle.std.specs.Option.{option_or}
use Rattle.std.proofs.lemmas.Bool.{cases_lt, cond-true, cond-false}
use Rattle.std.proofs.lemmas.List.Folds.{find-append}
use Rattle.plain_lists.specs.Lists.{below}
use Rattle.plain_lists.proofs.Finding.{find-map}
use Rattle.sf_defs.specs.Forest.{Forest, degree, roots_on, shared_root}

-- root i of a rank has two leaves
abbrev pub is_shared_at : Forest → ℕ → ℕ → Bool
is_shared_at f rank i = nat_lt 1 (degree f rank i)

-- the first number below n at which something holds
pub below-found : (q : ℕ → Bool) (n k : ℕ) → k < n → find q (below k) ≡ None → q k ≡ true → find q (below n) ≡ Some k
below-found q zero k h before here = absurd (omega arith)
below-found q (suc n) k h before here = find-append q (below n) (n ∷ []) ∙ ⊎_elim
    (λ lt. ap (λ o. option_or o (find q (n ∷ []))) (below-found q n k lt before here))
    (λ ge. let same : n ≡ k = omega arith in ap (λ m. option_or (find q (below m)) (find q (m ∷ []))) same ∙ (ap (λ o. option_or o (find q (k ∷ []))) before ∙ cond-true (q k) (Some k) None here))
    (cases_lt k n)

-- none so far, and not at the next either
pub below-more : (q : ℕ → Bool) (k : ℕ) → find q (below k) ≡ None → q k ≡ false → find q (below (k + 1)) ≡ None
below-more q k before here = ap (λ n. find q (below n)) (add-one k) ∙ (find-append q (below k) (k ∷ []) ∙ (ap (λ o. option_or o (find q (k ∷ []))) before ∙ cond-false (q k) (Some k) None here))

-- the roots of a numbered rank
abbrev roots_at : ℕ × ℕ → List (ℕ × ℕ)
roots_at r = map (λ i. (r.0, i)) (below r.1)

-- the first root with two leaves from rank k on
abbrev pub shared_from : Forest → ℕ → Option (ℕ × ℕ)
shared_from f k = find (λ root. nat_lt 1 (degree f root.0 root.1)) (flat_map roots_at (drop k (enumerate_from 0 f.roots)))

pub shared-start : (f : Forest) → shared_root f ≡ shared_from f 0
unfolding shared_root
shared-start f = refl

-- numbered elements from place k on
enumerated-from : {X : Type 0} (n k : ℕ) (xs : List X) (d : X) → k < length xs → drop k (enumerate_from n xs) ≡ (n + k, get_or xs k d) ∷ drop (suc k) (enumerate_from n xs)
enumerated-from n k [] d h = absurd (omega arith)
enumerated-from n zero (x ∷ xs) d h = λ i. (same i, x) ∷ enumerate_from (n + 1) xs
  where
    same : n ≡ n + 0
    same = omega arith
enumerated-from n (suc k) (x ∷ xs) d h = enumerated-from (n + 1) k xs d (omega arith) ∙ (λ i. (same i, get_or xs k d) ∷ drop (suc k) (enumerate_from (n + 1) xs))
  where
    same : n + 1 + k ≡ n + suc k
    same = omega arith

-- of this rank, or of later ones
pub shared-step : (f : Forest) (k : ℕ) → k < length f.roots → shared_from f k ≡ option_or (option_map (λ i. (k, i)) (find (is_shared_at f k) (below (roots_on f k)))) (shared_from f (k + 1))
shared-step f k h = stepped ∙ ap (λ n. option_or (option_map (λ i. (k, i)) (find (is_shared_at f k) (below (roots_on f k)))) (shared_from f n)) (sym (add-one k))
  where
    two : ℕ × ℕ → Bool
    two root = nat_lt 1 (degree f root.0 root.1)

    zeros : 0 + k ≡ k
    zeros = omega arith

    later : List (ℕ × ℕ)
    later = flat_map roots_at (drop (suc k) (enumerate_from 0 f.roots))

    here : flat_map roots_at (drop k (enumerate_from 0 f.roots)) ≡ roots_at (k, roots_on f k) ++ later
    here = ap (flat_map roots_at) (enumerated-from 0 k f.roots 0 h) ∙ ap (λ n. roots_at (n, roots_on f k) ++ later) zeros

    stepped : shared_from f k ≡ option_or (option_map (λ i. (k, i)) (find (is_shared_at f k) (below (roots_on f k)))) (find two later)
    stepped = ap (find two) here ∙ (find-append two (roots_at (k, roots_on f k)) later ∙ ap (λ o. option_or o (find two later)) (find-map two (λ i. (k, i)) (below (roots_on f k))))

-- behind the last rank there is none
pub shared-end : (f : Forest) (k : ℕ) → length f.roots ≤ k → shared_from f k ≡ None
shared-end f k h = ap (λ rs. find (λ root. nat_lt 1 (degree f root.0 root.1)) (flat_map roots_at rs)) (nothing 0 k f.roots h)
  where
    nothing : (n k : ℕ) (xs : List ℕ) → length xs ≤ k → drop k (enumerate_from n xs) ≡ []
    nothing n zero [] h = refl
    nothing n (suc k) [] h = refl
    nothing n zero (x ∷ xs) h = absurd (omega arith)
    nothing n (suc k) (x ∷ xs) h = nothing (n + 1) k xs (omega arith)
