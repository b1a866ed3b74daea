-- Sorting by a total order that is strict between ranks: how the ranks are mixed makes no difference.
use Rattle.std.proofs.Common.{◌≡◌, ◌≢◌, ℕ, Bool, true, false, cond, ◌==◌, List, [], ◌∷◌, refl, sym, ap, ◌∙◌}
use Rattle.std.specs.List.{AllByRecursion}
use Rattle.std.proofs.lemmas.Bool.{eqb-true, cond-true, cond-false, both_ways}
use Rattle.sf_defs.specs.Asks.{Entry, of_rank, IsOrderOf}
use Rattle.sf_defs.specs.PrintedOrder.{placed, sorted_by}
use Rattle.round_laws.proofs.Comparison.{IsTotal}
use Rattle.round_laws.proofs.Shuffles.{folded, folded-shuffled}

-- what holds of all holds of all after an insertion
pub all_placed : (P : Entry → Type 0) (before : Entry → Entry → Bool) (e : Entry) (es : List Entry) → P e → AllByRecursion P es → AllByRecursion P (placed before e es)
all_placed P before e [] p h = (p, tt)
all_placed P before e (x ∷ xs) p h = go (before e x) (all_placed P before e xs p h.1)
  where
    go : (b : Bool) → AllByRecursion P (placed before e xs) → AllByRecursion P (cond b (e ∷ x ∷ xs) (x ∷ placed before e xs))
    go true r = (p, h)
    go false r = (h.0, r)

-- what holds of all holds of all sorted
pub all_sorted_by : (P : Entry → Type 0) (before : Entry → Entry → Bool) (es : List Entry) → AllByRecursion P es → AllByRecursion P (sorted_by before es)
all_sorted_by P before [] h = tt
all_sorted_by P before (e ∷ es) h = all_placed P before e (sorted_by before es) h.0 (all_sorted_by P before es h.1)

module _ (before : Entry → Entry → Bool) where
  pub placed-before : (e x : Entry) (xs : List Entry) → before e x ≡ true → placed before e (x ∷ xs) ≡ e ∷ x ∷ xs
  placed-before e x xs h = cond-true (before e x) _ _ h

  pub placed-after : (e x : Entry) (xs : List Entry) → before e x ≡ false → placed before e (x ∷ xs) ≡ x ∷ placed before e xs
  placed-after e x xs h = cond-false (before e x) _ _ h

  module _ (order : IsTotal before) (strict : (d e : Entry) → d.rank ≢ e.rank → before d e ≡ true → before e d ≡ false) where
    -- u stands before y and t does not, so t does not stand before u
    not_between : (t u y : Entry) → before u y ≡ true → before t y ≡ false → before t u ≡ false
    not_between t u y m n = which (before t u) refl
      where
        which : (c : Bool) → before t u ≡ c → c ≡ false
        which true o = absurd (both_ways (before t y) n (order.trans t u y o m))
        which false o = refl

    -- of two entries of different ranks, either may be inserted first
    placed-swap : (d e : Entry) (xs : List Entry) → d.rank ≢ e.rank → placed before d (placed before e xs) ≡ placed before e (placed before d xs)
    placed-swap d e [] apart = go (before d e) refl
      where
        go : (b : Bool) → before d e ≡ b → placed before d (e ∷ []) ≡ placed before e (d ∷ [])
        go true h = placed-before d e [] h ∙ sym (placed-after e d [] (strict d e apart h))
        go false h = placed-after d e [] h ∙ sym (placed-before e d [] (order.total d e h))
    placed-swap d e (x ∷ xs) apart = go (before d x) (before e x) (before d e) refl refl refl (placed-swap d e xs apart)
      where
        go : (p q b : Bool) → before d x ≡ p → before e x ≡ q → before d e ≡ b → placed before d (placed before e xs) ≡ placed before e (placed before d xs) → placed before d (placed before e (x ∷ xs)) ≡ placed before e (placed before d (x ∷ xs))
        go true true true h k l r =
            ap (placed before d) (placed-before e x xs k) ∙ placed-before d e (x ∷ xs) l
            ∙ sym (ap (placed before e) (placed-before d x xs h) ∙ placed-after e d (x ∷ xs) (strict d e apart l) ∙ ap (λ t. d ∷ t) (placed-before e x xs k))
        go true true false h k l r =
            ap (placed before d) (placed-before e x xs k) ∙ placed-after d e (x ∷ xs) l ∙ ap (λ t. e ∷ t) (placed-before d x xs h)
            ∙ sym (ap (placed before e) (placed-before d x xs h) ∙ placed-before e d (x ∷ xs) (order.total d e l))
        go true false b h k l r =
            let later : before e d ≡ false = not_between e d x h k in
            ap (placed before d) (placed-after e x xs k) ∙ placed-before d x (placed before e xs) h
            ∙ sym (ap (placed before e) (placed-before d x xs h) ∙ placed-after e d (x ∷ xs) later ∙ ap (λ t. d ∷ t) (placed-after e x xs k))
        go false true b h k l r =
            let later : before d e ≡ false = not_between d e x k h in
            ap (placed before d) (placed-before e x xs k) ∙ placed-after d e (x ∷ xs) later ∙ ap (λ t. e ∷ t) (placed-after d x xs h)
            ∙ sym (ap (placed before e) (placed-after d x xs h) ∙ placed-before e x (placed before d xs) k)
        go false false b h k l r =
            ap (placed before d) (placed-after e x xs k) ∙ placed-after d x (placed before e xs) h
            ∙ ap (λ t. x ∷ t) r
            ∙ sym (ap (placed before e) (placed-after d x xs h) ∙ placed-after e x (placed before d xs) k)

    -- a sorted list does not depend on how the ranks were mixed
    pub sorted_by-shuffled : (es fs : List Entry) → IsOrderOf es fs → sorted_by before es ≡ sorted_by before fs
    sorted_by-shuffled es fs s = fold es ∙ folded-shuffled (placed before) [] placed-swap es fs s ∙ sym (fold fs)
      where
        fold : (xs : List Entry) → sorted_by before xs ≡ folded (placed before) [] xs
        fold [] = refl
        fold (x ∷ xs) = ap (placed before x) (fold xs)

  -- inserted before all later entries of its rank, e leaves each rank's own order
  placed-of_rank : (rank : ℕ) (e : Entry) (es : List Entry) → AllByRecursion (λ (x : Entry). x.rank ≡ e.rank → before e x ≡ true) es → of_rank rank (placed before e es) ≡ of_rank rank (e ∷ es)
  placed-of_rank rank e [] h = refl
  placed-of_rank rank e (x ∷ xs) h = go (before e x) refl (placed-of_rank rank e xs h.1)
    where
      turn : (a b : Bool) (r : List Entry) → (a ≡ true → b ≡ true → ⊥) → cond a (x ∷ cond b (e ∷ r) r) (cond b (e ∷ r) r) ≡ cond b (e ∷ cond a (x ∷ r) r) (cond a (x ∷ r) r)
      turn true true r apart = absurd (apart refl refl)
      turn true false r apart = refl
      turn false b r apart = refl

      go : (b : Bool) → before e x ≡ b → of_rank rank (placed before e xs) ≡ of_rank rank (e ∷ xs) → of_rank rank (placed before e (x ∷ xs)) ≡ of_rank rank (e ∷ x ∷ xs)
      go true k r = ap (of_rank rank) (placed-before e x xs k)
      go false k r =
          ap (of_rank rank) (placed-after e x xs k) ∙ ap (λ l. cond (x.rank == rank) (x ∷ l) l) r
          ∙ turn (x.rank == rank) (e.rank == rank) (of_rank rank xs) (λ a b. both_ways (before e x) k (h.0 (eqb-true x.rank rank a ∙ sym (eqb-true e.rank rank b))))

  -- each entry stands before all later ones of its rank
  abbrev pub OwnFirst : List Entry → Type 0
  OwnFirst [] = Unit {0}
  OwnFirst (e ∷ es) = AllByRecursion (λ (x : Entry). x.rank ≡ e.rank → before e x ≡ true) es × OwnFirst es

  -- then sorting keeps each rank's own order
  pub sorted_by-of_rank : (es : List Entry) → OwnFirst es → IsOrderOf es (sorted_by before es)
  sorted_by-of_rank [] h rank = refl
  sorted_by-of_rank (e ∷ es) h rank =
      placed-of_rank rank e (sorted_by before es) (all_sorted_by (λ (x : Entry). x.rank ≡ e.rank → before e x ≡ true) before es h.0)
      ∙ ap (λ l. cond (e.rank == rank) (e ∷ l) l) (sorted_by-of_rank es h.1 rank)
