-- Two lists with the same entries of each rank in the same order: what does not depend on how the ranks are mixed.
use Rattle.std.proofs.Common.{◌≡◌, ◌≢◌, ◌⊎◌, ℕ, ◌+◌, Bool, true, false, cond, ◌==◌, List, [], ◌∷◌, map, drop, sum_by, count_by, refl, sym, ap, subst, ◌∙◌, inl, inr, ⊎_elim, arith}
use Rattle.std.specs.List.{AllByRecursion}
use Rattle.std.proofs.lemmas.Bool.{true≢false, eqb-true, eq-eqb, ne_eqb, cond-true, cond-false, cases_Bool, both_ways}
use Rattle.std.proofs.lemmas.List.Sums.{sum_by-cons}
use Rattle.sf_defs.specs.declared.Ask.{Ask}
use Rattle.sf_defs.specs.Asks.{Entry, of_rank, IsOrderOf}

-- an entry's own rank has it
pub of_rank-same : (rank : ℕ) (e : Entry) (es : List Entry) → e.rank ≡ rank → of_rank rank (e ∷ es) ≡ e ∷ of_rank rank es
of_rank-same rank e es h = cond-true (e.rank == rank) _ _ (eq-eqb e.rank rank h)

-- another rank has it not
pub of_rank-other : (rank : ℕ) (e : Entry) (es : List Entry) → e.rank ≢ rank → of_rank rank (e ∷ es) ≡ of_rank rank es
of_rank-other rank e es h = cond-false (e.rank == rank) _ _ (ne_eqb e.rank rank h)

-- one rank or another
pub same_rank : (m n : ℕ) → (m ≡ n) ⊎ (m ≢ n)
same_rank m n = ⊎_elim (λ h. inl (eqb-true m n h)) (λ h. inr (λ e. true≢false (sym (eq-eqb m n e) ∙ h))) (cases_Bool (m == n))

-- what holds of each rank's entries holds of all
pub all_by_rank : (P : Entry → Type 0) (es : List Entry) → ((rank : ℕ) → AllByRecursion P (of_rank rank es)) → AllByRecursion P es
all_by_rank P [] h = tt
all_by_rank P (e ∷ es) h = (
  (subst (AllByRecursion P) (of_rank-same e.rank e es refl) (h e.rank)).0,
  all_by_rank P es (λ rank. ⊎_elim (λ same. (subst (AllByRecursion P) (of_rank-same rank e es same) (h rank)).1) (λ other. subst (AllByRecursion P) (of_rank-other rank e es other) (h rank)) (same_rank e.rank rank)),
)

-- what holds of a rank's entries holds of all that are of this rank
pub all_of_rank : (P : Entry → Type 0) (rank : ℕ) (es : List Entry) → AllByRecursion P (of_rank rank es) → AllByRecursion (λ (e : Entry). e.rank ≡ rank → P e) es
all_of_rank P rank [] h = tt
all_of_rank P rank (e ∷ es) h = (
  λ same. (subst (AllByRecursion P) (of_rank-same rank e es same) h).0,
  all_of_rank P rank es (⊎_elim (λ same. (subst (AllByRecursion P) (of_rank-same rank e es same) h).1) (λ other. subst (AllByRecursion P) (of_rank-other rank e es other) h) (same_rank e.rank rank)),
)

-- what holds of all entries holds of each rank's
pub rank_of_all : (P : Entry → Type 0) (rank : ℕ) (es : List Entry) → AllByRecursion P es → AllByRecursion P (of_rank rank es)
rank_of_all P rank [] h = tt
rank_of_all P rank (e ∷ es) h = go (e.rank == rank) (rank_of_all P rank es h.1)
  where
    go : (b : Bool) → AllByRecursion P (of_rank rank es) → AllByRecursion P (cond b (e ∷ of_rank rank es) (of_rank rank es))
    go true r = (h.0, r)
    go false r = r

-- what holds of all entries holds of all in another order
pub all_shuffled : (P : Entry → Type 0) (es fs : List Entry) → IsOrderOf es fs → AllByRecursion P es → AllByRecursion P fs
all_shuffled P es fs s h = all_by_rank P fs (λ rank. subst (AllByRecursion P) (sym (s rank)) (rank_of_all P rank es h))

-- nothing is the only order of nothing
only_nothing : (fs : List Entry) → IsOrderOf [] fs → fs ≡ []
only_nothing [] s = refl
only_nothing (f ∷ fs) s = absurd (cons_nil f (of_rank f.rank fs) (sym (of_rank-same f.rank f fs refl) ∙ s f.rank))
  where
    cons_nil : (x : Entry) (xs : List Entry) → x ∷ xs ≡ [] → ⊥
    cons_nil x xs e = cc e

-- the first entry of a rank, taken out
without : ℕ → List Entry → List Entry
without rank [] = []
without rank (e ∷ es) = cond (e.rank == rank) es (e ∷ without rank es)

without-same : (rank : ℕ) (e : Entry) (es : List Entry) → e.rank ≡ rank → without rank (e ∷ es) ≡ es
unfolding without
without-same rank e es h = cond-true (e.rank == rank) _ _ (eq-eqb e.rank rank h)

without-other : (rank : ℕ) (e : Entry) (es : List Entry) → e.rank ≢ rank → without rank (e ∷ es) ≡ e ∷ without rank es
unfolding without
without-other rank e es h = cond-false (e.rank == rank) _ _ (ne_eqb e.rank rank h)

-- the rank itself has one entry less
without-own : (rank : ℕ) (es : List Entry) → of_rank rank (without rank es) ≡ drop 1 (of_rank rank es)
unfolding without
without-own rank [] = refl
without-own rank (e ∷ es) = go (e.rank == rank) refl (without-own rank es)
  where
    go : (b : Bool) → (e.rank == rank) ≡ b → of_rank rank (without rank es) ≡ drop 1 (of_rank rank es) → of_rank rank (cond b es (e ∷ without rank es)) ≡ drop 1 (cond b (e ∷ of_rank rank es) (of_rank rank es))
    go true h r = refl
    go false h r = cond-false (e.rank == rank) _ _ h ∙ r

-- the other ranks keep theirs
without-others : (rank other : ℕ) (es : List Entry) → other ≢ rank → of_rank other (without rank es) ≡ of_rank other es
unfolding without
without-others rank other [] h = refl
without-others rank other (e ∷ es) h = go (e.rank == rank) refl (without-others rank other es h)
  where
    go : (b : Bool) → (e.rank == rank) ≡ b → of_rank other (without rank es) ≡ of_rank other es → of_rank other (cond b es (e ∷ without rank es)) ≡ of_rank other (e ∷ es)
    go true k r = sym (of_rank-other other e es (λ same. h (sym same ∙ eqb-true e.rank rank k)))
    go false k r = ap (λ l. cond (e.rank == other) (e ∷ l) l) r

-- f and what comes after it, from the last entry to the first
abbrev pub folded : {A : Type 0} → (Entry → A → A) → A → List Entry → A
folded f end [] = end
folded f end (e ∷ es) = f e (folded f end es)

module _ {A : Type 0} (f : Entry → A → A) (end : A) (swaps : (d e : Entry) (a : A) → d.rank ≢ e.rank → f d (f e a) ≡ f e (f d a)) where
  -- the first entry of a rank may as well come first of all
  first_of_rank : (rank : ℕ) (x : Entry) (rest es : List Entry) → x.rank ≡ rank → of_rank rank es ≡ x ∷ rest → folded f end es ≡ f x (folded f end (without rank es))
  unfolding without
  first_of_rank rank x rest [] h is = absurd (cc is)
  first_of_rank rank x rest (e ∷ es) h is = go (e.rank == rank) refl is (λ i. first_of_rank rank x rest es h i)
    where
      go : (b : Bool) → (e.rank == rank) ≡ b → cond b (e ∷ of_rank rank es) (of_rank rank es) ≡ x ∷ rest → (of_rank rank es ≡ x ∷ rest → folded f end es ≡ f x (folded f end (without rank es))) → f e (folded f end es) ≡ f x (folded f end (cond b es (e ∷ without rank es)))
      go true k i r = let same : e ≡ x = cc i in ap (λ y. f y (folded f end es)) same
      go false k i r = ap (f e) (r i) ∙ swaps e x (folded f end (without rank es)) (λ same. both_ways (e.rank == rank) k (eq-eqb e.rank rank (same ∙ h)))

  -- a fold whose steps may be exchanged between ranks does not depend on how the ranks are mixed
  pub folded-shuffled : (es fs : List Entry) → IsOrderOf es fs → folded f end es ≡ folded f end fs
  folded-shuffled [] fs s = ap (folded f end) (sym (only_nothing fs s))
  folded-shuffled (e ∷ es) fs s =
      let here : of_rank e.rank fs ≡ e ∷ of_rank e.rank es = s e.rank ∙ of_rank-same e.rank e es refl in
      ap (f e) (folded-shuffled es (without e.rank fs) (λ rank. ⊎_elim
      (λ same. subst (λ r. of_rank r (without e.rank fs) ≡ of_rank r es) same (without-own e.rank fs ∙ ap (drop 1) here))
      (λ other. without-others e.rank rank fs (λ k. other (sym k)) ∙ s rank ∙ of_rank-other rank e es other) (same_rank e.rank rank)))
      ∙ sym (first_of_rank e.rank e (of_rank e.rank es) fs refl here)

-- a sum over all entries is the same in each order
pub total-shuffled : (f : Entry → ℕ) (es fs : List Entry) → IsOrderOf es fs → sum_by f es ≡ sum_by f fs
total-shuffled f es fs s = total es ∙ folded-shuffled (λ e n. f e + n) 0 (λ d e n apart. omega arith) es fs s ∙ sym (total fs)
  where
    total : (xs : List Entry) → sum_by f xs ≡ folded (λ e n. f e + n) 0 xs
    total [] = refl
    total (x ∷ xs) = sum_by-cons f x xs ∙ ap (λ n. f x + n) (total xs)

-- so is a count
pub count-shuffled : (p : Entry → Bool) (es fs : List Entry) → IsOrderOf es fs → count_by p es ≡ count_by p fs
count-shuffled p = total-shuffled (λ e. cond (p e) 1 0)

-- so is a sum over all asks
pub sum_by-shuffled : (g : Ask → ℕ) (es fs : List Entry) → IsOrderOf es fs → sum_by g (map (λ (e : Entry). e.ask) es) ≡ sum_by g (map (λ (e : Entry). e.ask) fs)
sum_by-shuffled g es fs s = over es ∙ total-shuffled (λ e. g e.ask) es fs s ∙ sym (over fs)
  where
    over : (xs : List Entry) → sum_by g (map (λ (e : Entry). e.ask) xs) ≡ sum_by (λ (e : Entry). g e.ask) xs
    over [] = refl
    over (x ∷ xs) = sum_by-cons g x.ask (map (λ (e : Entry). e.ask) xs) ∙ ap (λ n. g x.ask + n) (over xs) ∙ sym (sum_by-cons (λ (e : Entry). g e.ask) x xs)
