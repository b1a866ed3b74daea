-- After the home round the roots of its forest have the keys of their points.
use Rattle.std.proofs.Common.{◌≡◌, ℕ, zero, suc, ◌+◌, ◌<◌, List, [], ◌∷◌, ◌++◌, map, length, get_or, slice_index, take, Some, refl, sym, ap, ◌∙◌, subst, arith}
use Rattle.std.specs.List.{AllByRecursion, enumerate_from}
use Rattle.std.proofs.lemmas.Grind.{common_steps}
use Rattle.std.proofs.lemmas.List.Sums.{sum_by-cons}
use Rattle.plain_lists.specs.Lists.{below}
use Rattle.plain_lists.proofs.Below.{below-all, get_or-map-below}
use Rattle.plain_lists.proofs.Each.{all_weaker, all_both, all_map, all_mapped, all_flat_map}
use Rattle.mesh_defs.specs.Mesh.{Mesh}
use Rattle.mesh_defs.specs.Points.{Point, key}
use Rattle.sf_defs.specs.Rounds.{Round}
use Rattle.sf_ops.specs.Asked.{first_word, words_of}
use Rattle.rank_defs.specs.Ranks.{IsAssignment}
use Rattle.rank_defs.specs.Home.{home_points, IsHomeRound}
use Rattle.rank_laws.proofs.HomeRound.{last-key}
use Rattle.rank_chart_laws.specs.home_laws.HomeForest.{home_of, home_counts, home_roots}
use Rattle.rank_chart_laws.proofs.home_laws.OneRound.{points-numbered}

-- the word of a root has its value
word-value : (roots : List (List ℕ)) (rank index : ℕ) → index < length (get_or roots rank []) → get_or (words_of roots) (first_word (map length roots) rank + index) 0 ≡ get_or (get_or roots rank []) index 0
word-value [] rank index h = absurd (omega arith)
word-value (v ∷ vs) zero index h = in_first v (words_of vs) index h
  where
    in_first : (xs ys : List ℕ) (i : ℕ) → i < length xs → get_or (xs ++ ys) (0 + i) 0 ≡ get_or xs i 0
    in_first xs ys i h = grind (arith, common_steps)
word-value (v ∷ vs) (suc rank) index h = ap (λ (n : ℕ). get_or (v ++ words_of vs) (n + index) 0) (sum_by-cons (λ (x : ℕ). x) (length v) (take rank (map length vs))) ∙ after v (words_of vs) (first_word (map length vs) rank) index ∙ word-value vs rank index h
  where
    after : (xs ys : List ℕ) (n i : ℕ) → get_or (xs ++ ys) (length xs + n + i) 0 ≡ get_or ys (n + i) 0
    after xs ys n i = grind (arith, common_steps)

length-at : (xss : List (List ℕ)) (k : ℕ) → length (get_or xss k []) ≡ get_or (map length xss) k 0
length-at [] k = refl
length-at (xs ∷ xss) zero = refl
length-at (xs ∷ xss) (suc k) = length-at xss k

-- each number with its place
each-numbered : {X : Type 0} (P : ℕ × X → Type 0) (n : ℕ) (xs : List X) (d : X) → ((k : ℕ) → k < length xs → P (n + k, get_or xs k d)) → AllByRecursion P (enumerate_from n xs)
each-numbered P n [] d h = tt
each-numbered P n (x ∷ xs) d h = (
  subst (λ k. P (k, x)) (let z : n + 0 ≡ n = omega arith in z) (h 0 (omega arith)),
  each-numbered P (n + 1) xs d (λ k low. subst (λ j. P (j, get_or xs k d)) (let z : n + suc k ≡ n + 1 + k = omega arith in z) (h (suc k) (omega (arith, low)))),
)

module _ (m : Mesh) (n : ℕ) (a : List ℕ) (parts : IsAssignment m n a) (r : Round) (home : IsHomeRound m a n r) (roots : List (List ℕ)) (shape : map length roots ≡ home_counts m a n) (words : words_of roots ≡ r.after) where
  -- a root stands among those of its rank
  roots-within : AllByRecursion (λ (w : (ℕ × ℕ) × Point). w.0.1 < length (get_or roots w.0.0 [])) (home_roots m a n)
  unfolding home_roots home_counts
  roots-within = all_flat_map (λ (w : (ℕ × ℕ) × Point). w.0.1 < length (get_or roots w.0.0 [])) (λ q. map (λ (w : ℕ × Point). ((q, w.0), w.1)) (enumerate_from 0 (home_of m a q))) (below n)
      (all_weaker (λ q. q < n) (λ q. AllByRecursion (λ (w : (ℕ × ℕ) × Point). w.0.1 < length (get_or roots w.0.0 [])) (map (λ (w : ℕ × Point). ((q, w.0), w.1)) (enumerate_from 0 (home_of m a q)))) of_rank (below n) (below-all n))
    where
      of_rank : (q : ℕ) → q < n → AllByRecursion (λ (w : (ℕ × ℕ) × Point). w.0.1 < length (get_or roots w.0.0 [])) (map (λ (w : ℕ × Point). ((q, w.0), w.1)) (enumerate_from 0 (home_of m a q)))
      of_rank q low =
          let size : length (get_or roots q []) ≡ length (home_of m a q) = length-at roots q ∙ (ap (λ ns. get_or ns q 0) shape ∙ get_or-map-below (λ j. length (home_of m a j)) n q 0 low) in
          all_map (λ (w : (ℕ × ℕ) × Point). w.0.1 < length (get_or roots w.0.0 [])) (λ (w : ℕ × Point). ((q, w.0), w.1)) (enumerate_from 0 (home_of m a q))
          (each-numbered (λ (w : ℕ × Point). w.0 < length (get_or roots q [])) 0 (home_of m a q) (record { dim = 0; vertices = [] }) (λ k l. omega (arith, l, size)))

  -- the values of the roots are the keys of their points
  pub keys-back : AllByRecursion (λ (w : (ℕ × ℕ) × Point). key m w.1 ≡ Some (get_or (get_or roots w.0.0 []) w.0.1 0)) (home_roots m a n)
  keys-back =
      all_both (λ (w : (ℕ × ℕ) × Point). w.0.1 < length (get_or roots w.0.0 [])) (λ (w : (ℕ × ℕ) × Point). key m w.1 ≡ Some (slice_index r.after (first_word (home_counts m a n) w.0.0 + w.0.1))) (λ (w : (ℕ × ℕ) × Point). key m w.1 ≡ Some (get_or (get_or roots w.0.0 []) w.0.1 0))
      (λ w low e. e ∙ ap Some (ap (λ ws. slice_index ws (first_word (home_counts m a n) w.0.0 + w.0.1)) (sym words) ∙ (ap (λ ns. get_or (words_of roots) (first_word ns w.0.0 + w.0.1) 0) (sym shape) ∙ word-value roots w.0.0 w.0.1 low)))
      (home_roots m a n) roots-within
      (all_mapped (λ (x : ℕ × Point). key m x.1 ≡ Some (slice_index r.after x.0)) (λ (w : (ℕ × ℕ) × Point). (first_word (home_counts m a n) w.0.0 + w.0.1, w.1)) (home_roots m a n)
      (subst (AllByRecursion (λ (x : ℕ × Point). key m x.1 ≡ Some (slice_index r.after x.0))) (points-numbered m a n) last))
    where
      nowhere : Point
      nowhere = record { dim = 0; vertices = [] }

      last : AllByRecursion (λ (x : ℕ × Point). key m x.1 ≡ Some (slice_index r.after x.0)) (enumerate_from 0 (home_points m a n))
      last = each-numbered (λ (x : ℕ × Point). key m x.1 ≡ Some (slice_index r.after x.0)) 0 (home_points m a n) nowhere
          (λ k low. last-key m n a parts r home k nowhere low ∙ ap (λ j. Some (slice_index r.after j)) (let z : k ≡ 0 + k = omega arith in z))
