-- Rising places among those of a rank's asks on a word: as many as these are all of them.
use Rattle.std.proofs.Common.{◌≡◌, ◌⊎◌, ℕ, zero, suc, ◌+◌, ◌<◌, ◌≤◌, Bool, true, false, cond, ◌==◌, List, [], ◌∷◌, map, length, get_or, refl, sym, ap, subst, ◌∙◌, ⊎_elim, arith}
use Rattle.std.specs.Prelude.{filter}
use Rattle.std.specs.List.{AllByRecursion, enumerate_from}
use Rattle.std.proofs.lemmas.Bool.{false≢true, cases_lt}
use Rattle.plain_lists.proofs.Each.{all_weaker, all_both}
use Rattle.sf_defs.specs.Asks.{IsRising}

-- the places from n on of those that pass
abbrev pub passing_places : {X : Type 0} → (X → Bool) → ℕ → List X → List ℕ
passing_places {X = X} p n xs = map (λ x. x.0) (filter (λ (x : ℕ × X). p x.1) (enumerate_from n xs))

module _ {X : Type 0} (p : X → Bool) (d : X) where
  -- k is the place of one that passes, where the first has place n
  pub record Passes (n : ℕ) (xs : List X) (k : ℕ) : Type 0 where
    pub place : ℕ
    pub at : k ≡ n + place
    pub within : place < length xs
    pub passes : p (get_or xs place d) ≡ true

  -- where a place is past the first, it is one among the rest
  past_first : (n : ℕ) (x : X) (xs : List X) (k : ℕ) → Passes n (x ∷ xs) k → n < k → Passes (n + 1) xs k
  past_first n x xs k h lt = go h.place h.at h.within h.passes
    where
      go : (j : ℕ) → k ≡ n + j → j < length (x ∷ xs) → p (get_or (x ∷ xs) j d) ≡ true → Passes (n + 1) xs k
      go zero at within passes = absurd (omega arith)
      go (suc j) at within passes = record { place = j; at = omega arith; within = omega arith; passes = passes }

  at_first : (n : ℕ) (x : X) (xs : List X) (k : ℕ) → Passes n (x ∷ xs) k → k ≤ n → (k ≡ n) × (p x ≡ true)
  at_first n x xs k h le = go h.place h.at h.passes
    where
      go : (j : ℕ) → k ≡ n + j → p (get_or (x ∷ xs) j d) ≡ true → (k ≡ n) × (p x ≡ true)
      go zero at passes = (omega arith, passes)
      go (suc j) at passes = absurd (omega arith)

  -- a place among the rest is one of all
  from_rest : (n : ℕ) (x : X) (xs : List X) (k : ℕ) → Passes (n + 1) xs k → Passes n (x ∷ xs) k
  from_rest n x xs k q = let at = q.at in let within = q.within in record { place = suc q.place; at = omega arith; within = omega arith; passes = q.passes }

  all_past : (n : ℕ) (x : X) (xs : List X) (ks : List ℕ) → AllByRecursion (Passes n (x ∷ xs)) ks → AllByRecursion (λ k. n < k) ks → AllByRecursion (Passes (n + 1) xs) ks
  all_past n x xs ks h l = all_both (Passes n (x ∷ xs)) (λ k. n < k) (Passes (n + 1) xs) (λ k a b. past_first n x xs k a b) ks h l

  no_more : (b : Bool) (n : ℕ) (ks : List ℕ) (m : ℕ) → m ≤ length ks → m ≤ length (cond b (n ∷ ks) ks)
  no_more true n ks m h = omega arith
  no_more false n ks m h = h

  passing-cons : (n : ℕ) (x : X) (xs : List X) → passing_places p n (x ∷ xs) ≡ cond (p x) (n ∷ passing_places p (n + 1) xs) (passing_places p (n + 1) xs)
  passing-cons n x xs = go (p x)
    where
      go : (b : Bool) → map (λ x. x.0) (cond b ((n, x) ∷ filter (λ (x : ℕ × X). p x.1) (enumerate_from (n + 1) xs)) (filter (λ (x : ℕ × X). p x.1) (enumerate_from (n + 1) xs))) ≡ cond b (n ∷ passing_places p (n + 1) xs) (passing_places p (n + 1) xs)
      go true = refl
      go false = refl

  -- rising places of some that pass are no more than all such places, and all where they are as many
  pub rising_places : (n : ℕ) (xs : List X) (ks : List ℕ) → IsRising ks → AllByRecursion (Passes n xs) ks → (length ks ≤ length (passing_places p n xs)) × (length ks ≡ length (passing_places p n xs) → ks ≡ passing_places p n xs)
  rising_places n [] [] up h = (omega arith, λ e. refl)
  rising_places n [] (k ∷ ks) up h = let past = h.0.within in absurd (omega arith)
  rising_places n (x ∷ xs) [] up h = (omega arith, λ e. none (passing_places p n (x ∷ xs)) e)
    where
      none : (l : List ℕ) → 0 ≡ length l → [] ≡ l
      none [] e = refl
      none (y ∷ ys) e = absurd (omega arith)
  rising_places n (x ∷ xs) (k ∷ ks) up h = ⊎_elim
      (λ past.
      let rest = rising_places (n + 1) xs (k ∷ ks) up (all_past n x xs (k ∷ ks) h (past, all_weaker (λ m. k < m) (λ m. n < m) (λ m lt. omega arith) ks up.0)) in
      let more = no_more (p x) n (passing_places p (n + 1) xs) (length (k ∷ ks)) rest.0 in
      later (p x) (passing-cons n x xs) rest.0 rest.1)
      (λ here.
      let first = at_first n x xs k h.0 here in
      let rest = rising_places (n + 1) xs ks up.1 (all_past n x xs ks h.1 (all_weaker (λ m. k < m) (λ m. n < m) (λ m lt. omega arith) ks up.0)) in
      let is : passing_places p n (x ∷ xs) ≡ n ∷ passing_places p (n + 1) xs = passing-cons n x xs ∙ ap (λ b. cond b (n ∷ passing_places p (n + 1) xs) (passing_places p (n + 1) xs)) first.1 in
      let size : length (passing_places p n (x ∷ xs)) ≡ suc (length (passing_places p (n + 1) xs)) = ap length is in
      (omega (arith, rest.0), λ e. (λ i. first.0 i ∷ rest.1 (omega arith) i) ∙ sym is))
      (cases_lt n k)
    where
      later : (b : Bool) → passing_places p n (x ∷ xs) ≡ cond b (n ∷ passing_places p (n + 1) xs) (passing_places p (n + 1) xs)
          → length (k ∷ ks) ≤ length (passing_places p (n + 1) xs) → (length (k ∷ ks) ≡ length (passing_places p (n + 1) xs) → k ∷ ks ≡ passing_places p (n + 1) xs)
          → (length (k ∷ ks) ≤ length (passing_places p n (x ∷ xs))) × (length (k ∷ ks) ≡ length (passing_places p n (x ∷ xs)) → k ∷ ks ≡ passing_places p n (x ∷ xs))
      later true is le eq = let size : length (passing_places p n (x ∷ xs)) ≡ suc (length (passing_places p (n + 1) xs)) = ap length is in (omega arith, λ e. absurd (omega arith))
      later false is le eq = let size : length (passing_places p n (x ∷ xs)) ≡ length (passing_places p (n + 1) xs) = ap length is in (omega arith, λ e. eq (omega arith) ∙ sym is)

  -- the places of those that pass rise
  places-low : (n m : ℕ) (xs : List X) → n ≤ m → AllByRecursion (λ k. n ≤ k) (passing_places p m xs)
  places-low n m [] h = tt
  places-low n m (x ∷ xs) h = subst (AllByRecursion (λ k. n ≤ k)) (sym (passing-cons m x xs)) (go (p x) (places-low n (m + 1) xs (omega arith)))
    where
      go : (b : Bool) → AllByRecursion (λ k. n ≤ k) (passing_places p (m + 1) xs) → AllByRecursion (λ k. n ≤ k) (cond b (m ∷ passing_places p (m + 1) xs) (passing_places p (m + 1) xs))
      go true r = (h, r)
      go false r = r

  pub places-rise : (n : ℕ) (xs : List X) → IsRising (passing_places p n xs)
  places-rise n [] = tt
  places-rise n (x ∷ xs) = subst IsRising (sym (passing-cons n x xs)) (go (p x) (places-rise (n + 1) xs))
    where
      go : (b : Bool) → IsRising (passing_places p (n + 1) xs) → IsRising (cond b (n ∷ passing_places p (n + 1) xs) (passing_places p (n + 1) xs))
      go true r = (all_weaker (λ k. n + 1 ≤ k) (λ k. n < k) (λ k h. omega arith) (passing_places p (n + 1) xs) (places-low (n + 1) (n + 1) xs (omega arith)), r)
      go false r = r

  -- and they are places of some that pass
  pub places-pass : (n : ℕ) (xs : List X) → AllByRecursion (Passes n xs) (passing_places p n xs)
  places-pass n [] = tt
  places-pass n (x ∷ xs) = subst (AllByRecursion (Passes n (x ∷ xs))) (sym (passing-cons n x xs)) (go (p x) refl (all_weaker (Passes (n + 1) xs) (Passes n (x ∷ xs)) (from_rest n x xs) (passing_places p (n + 1) xs) (places-pass (n + 1) xs)))
    where
      go : (b : Bool) → p x ≡ b → AllByRecursion (Passes n (x ∷ xs)) (passing_places p (n + 1) xs) → AllByRecursion (Passes n (x ∷ xs)) (cond b (n ∷ passing_places p (n + 1) xs) (passing_places p (n + 1) xs))
      go true h r = (record { place = 0; at = omega arith; within = omega arith; passes = h }, r)
      go false h r = r

  pub length-places : (n : ℕ) (xs : List X) → length (passing_places p n xs) ≡ length (filter p xs)
  length-places n [] = refl
  length-places n (x ∷ xs) = ap length (passing-cons n x xs) ∙ go (p x) (length-places (n + 1) xs)
    where
      go : (b : Bool) → length (passing_places p (n + 1) xs) ≡ length (filter p xs) → length (cond b (n ∷ passing_places p (n + 1) xs) (passing_places p (n + 1) xs)) ≡ length (cond b (x ∷ filter p xs) (filter p xs))
      go true r = ap suc r
      go false r = r
