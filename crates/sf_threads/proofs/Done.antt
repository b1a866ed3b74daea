-- What a rank has done after one more ask.
use Rattle.std.proofs.Common.{◌≡◌, ℕ, zero, suc, ◌+◌, ◌<◌, List, [], ◌∷◌, ◌++◌, map, length, take, zip, set, get_or, refl, ap, ◌∙◌, arith}
use Rattle.std.specs.List.{enumerate_from}
use Rattle.sf_defs.specs.declared.Ask.{Ask}
use Rattle.sf_threads.specs.declared.thread_rule.view.Done.{Done}
use Rattle.sf_threads.specs.Doing.{dones}

abbrev done_at : ℕ → ℕ × (Ask × ℕ) → Done
done_at rank x = record { rank = rank; index = x.0; ask = x.1.0; got = x.1.1 }

-- from a place on
abbrev dones_from : ℕ → ℕ → List Ask → List ℕ → List Done
dones_from rank n asks got = map (done_at rank) (enumerate_from n (zip asks got))

more-from : (rank n k i x : ℕ) (asks : List Ask) (got : List ℕ) (a : Ask) → i < length asks → length got ≡ length asks → k ≡ n + i
    → dones_from rank n (take (suc i) asks) (take (suc i) (set got i x)) ≡ dones_from rank n (take i asks) (take i got) ++ record { rank = rank; index = k; ask = get_or asks i a; got = x } ∷ []
more-from rank n k i x [] got a h s p = absurd (omega (arith, h))
more-from rank n k i x (b ∷ asks) [] a h s p = absurd (omega (arith, s))
more-from rank n k zero x (b ∷ asks) (g ∷ got) a h s p = let same : n ≡ k = omega (arith, p) in ap (λ j. record { rank = rank; index = j; ask = b; got = x } ∷ []) same
more-from rank n k (suc i) x (b ∷ asks) (g ∷ got) a h s p = ap (λ l. record { rank = rank; index = n; ask = b; got = g } ∷ l) (more-from rank (n + 1) k i x asks got a (omega (arith, h)) (omega (arith, s)) (omega (arith, p)))

count-from : (rank n i : ℕ) (asks : List Ask) (got : List ℕ) → i < length asks → length got ≡ length asks → length (dones_from rank n (take i asks) (take i got)) ≡ i
count-from rank n i [] got h s = absurd (omega (arith, h))
count-from rank n i (b ∷ asks) [] h s = absurd (omega (arith, s))
count-from rank n zero (b ∷ asks) (g ∷ got) h s = refl
count-from rank n (suc i) (b ∷ asks) (g ∷ got) h s = ap suc (count-from rank (n + 1) i asks got (omega (arith, h)) (omega (arith, s)))

pub dones-more : (rank i x : ℕ) (asks : List Ask) (got : List ℕ) (a : Ask) → i < length asks → length got ≡ length asks
    → dones rank (take (i + 1) asks) (take (i + 1) (set got i x)) ≡ dones rank (take i asks) (take i got) ++ record { rank = rank; index = length (dones rank (take i asks) (take i got)); ask = get_or asks i a; got = x } ∷ []
unfolding dones
dones-more rank i x asks got a h s =
    let next : i + 1 ≡ suc i = omega arith in
    ap (λ n. dones_from rank 0 (take n asks) (take n (set got i x))) next ∙ more-from rank 0 (length (dones rank (take i asks) (take i got))) i x asks got a h s (count-from rank 0 i asks got h s ∙ omega arith)

pub dones-none : (rank : ℕ) → dones rank [] [] ≡ []
unfolding dones
dones-none rank = refl
