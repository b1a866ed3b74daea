-- Steps, splits and joins of seats keep the rule.
use Rattle.std.proofs.Common.{◌≡◌, ◌≢◌, ◌⊎◌, ℕ, zero, suc, ◌<◌, ◌≤◌, Bool, true, false, cond, ◌==◌, nat_lt, List, [], ◌∷◌, ◌++◌, length, map, set, refl, sym, ap, subst, ◌∙◌, inl, inr, ⊎_elim, arith}
use Rattle.std.specs.List.{AllByRecursion}
use Rattle.std.proofs.lemmas.Bool.{eqb-true, ltb-true, ltb-false}
use Rattle.std.proofs.lemmas.List.{append-nil, map-append}
use Rattle.std.proofs.lemmas.List.Elements.{filter-append}
use mathlib.Core.Option.{some, some-injective, some-ne-none}
use lib.ListN.{get_elem?}
use Rattle.atomic_table.proofs.Lists.{at_set}
use Rattle.sf_defs.specs.Asks.{Entry, of_rank}
use Rattle.sf_threads.specs.declared.thread_rule.view.Done.{Done}
use Rattle.sf_threads.specs.declared.thread_rule.view.View.{View}
use Rattle.sf_threads.specs.thread_rule.Rule.{entry_of, entries_of, view, HasRank, nobody, first_of, others_of, joined, Knows, AreSeats}

-- ---- entries of a rank

pub of_rank-append : (rank : ℕ) (xs ys : List Entry) → of_rank rank (xs ++ ys) ≡ of_rank rank xs ++ of_rank rank ys
of_rank-append rank xs ys = filter-append (λ (e : Entry). e.rank == rank) xs ys

-- an entry is of no other rank
pub of_rank-other : (rank : ℕ) (e : Entry) → e.rank ≢ rank → of_rank rank (e ∷ []) ≡ []
of_rank-other rank e n = go (e.rank == rank) refl
  where
    go : (b : Bool) → (e.rank == rank) ≡ b → cond b (e ∷ []) [] ≡ []
    go true h = absurd (n (eqb-true e.rank rank h))
    go false h = refl

-- a list of other ranks has none of this one
pub none-outside : (v : View) (rank : ℕ) (done : List Done) → AllByRecursion (λ (d : Done). HasRank v d.rank) done → (HasRank v rank → ⊥) → of_rank rank (map entry_of done) ≡ []
none-outside v rank [] all n = refl
none-outside v rank (d ∷ ds) all n = go (d.rank == rank) refl (none-outside v rank ds all.1 n)
  where
    go : (b : Bool) → (d.rank == rank) ≡ b → of_rank rank (map entry_of ds) ≡ [] → cond b (entry_of d ∷ of_rank rank (map entry_of ds)) (of_rank rank (map entry_of ds)) ≡ []
    go true h rest = absurd (n (subst (HasRank v) (eqb-true d.rank rank h) all.0))
    go false h rest = rest

all-append : {X : Type 0} (p : X → Type 0) (xs ys : List X) → AllByRecursion p xs → AllByRecursion p ys → AllByRecursion p (xs ++ ys)
all-append p [] ys a b = b
all-append p (x ∷ xs) ys a b = (a.0, all-append p xs ys a.1 b)

all-weaker : {X : Type 0} (p q : X → Type 0) (xs : List X) → ((x : X) → p x → q x) → AllByRecursion p xs → AllByRecursion q xs
all-weaker p q [] f a = tt
all-weaker p q (x ∷ xs) f a = (f x a.0, all-weaker p q xs f a.1)

-- what stands in a list with one more
at-end : {A : Type 0} (l : List A) (a b : A) (j : ℕ) → get_elem? (l ++ a ∷ []) j ≡ some b → (get_elem? l j ≡ some b) ⊎ ((j ≡ length l) × (a ≡ b))
at-end [] a b zero e = inr (refl, some-injective a b e)
at-end [] a b (suc j) e = absurd (some-ne-none b (sym e))
at-end (x ∷ xs) a b zero e = inl e
at-end (x ∷ xs) a b (suc j) e = ⊎_elim (λ h. inl h) (λ h. inr (ap suc h.0, h.1)) (at-end xs a b j e)

there : {A : Type 0} (l : List A) (j : ℕ) (b : A) → get_elem? l j ≡ some b → j < length l
there [] j b e = absurd (some-ne-none b (sym e))
there (x ∷ xs) zero b e = omega arith
there (x ∷ xs) (suc j) b e = omega (arith, there xs j b e)

pub nat-split : (a b : ℕ) → (a < b) ⊎ (b ≤ a)
nat-split a b = go (nat_lt a b) refl
  where
    go : (c : Bool) → nat_lt a b ≡ c → (a < b) ⊎ (b ≤ a)
    go true h = inl (ltb-true a b h)
    go false h = inr (ltb-false a b h)

-- ---- one more ask of a seat

module _ (log : List Entry) (ranks : ℕ) (views : List View) (seats : AreSeats log ranks views) (id : ℕ) (v : View) (at : get_elem? views id ≡ some v) where
  module _ (d : Done) (mine : HasRank v d.rank) where
    abbrev after : View
    after = view v.first v.end (v.done ++ d ∷ [])

    -- who stood at a seat before, with the same ranks
    before : (seat : ℕ) (u : View) → get_elem? (set views id after) seat ≡ some u → (t : View) × (get_elem? views seat ≡ some t) × ((rank : ℕ) → HasRank u rank → HasRank t rank)
    before seat u e = ⊎_elim
        (λ (h : (seat ≡ id) × (after ≡ u)). (v, ap (get_elem? views) h.0 ∙ at, λ rank r. subst (λ (t : View). HasRank t rank → HasRank v rank) h.1 (λ (x : HasRank after rank). record { from = x.from; below = x.below }) r))
        (λ h. (u, h.1, λ rank r. r)) (at_set views id seat after u e)

    mine-more : (rank : ℕ) → of_rank rank (log ++ entry_of d ∷ []) ≡ of_rank rank log ++ of_rank rank (entry_of d ∷ [])
    mine-more rank = of_rank-append rank log (entry_of d ∷ [])

    others-same : (rank : ℕ) → d.rank ≢ rank → of_rank rank (log ++ entry_of d ∷ []) ≡ of_rank rank log
    others-same rank n = mine-more rank ∙ ap (λ l. of_rank rank log ++ l) (of_rank-other rank (entry_of d) n) ∙ append-nil (of_rank rank log)

    knows-mine : Knows (log ++ entry_of d ∷ []) ranks after
    knows-mine =
        let known : Knows log ranks v = seats.know id v at in
        record {
          own = λ rank r. mine-more rank ∙ ap (λ l. l ++ of_rank rank (entry_of d ∷ [])) (known.own rank (record { from = r.from; below = r.below }))
              ∙ sym (of_rank-append rank (entries_of v) (entry_of d ∷ [])) ∙ ap (of_rank rank) (sym (map-append entry_of v.done (d ∷ [])));
          inside = all-append (λ (x : Done). HasRank after x.rank) v.done (d ∷ [])
              (all-weaker (λ (x : Done). HasRank v x.rank) (λ (x : Done). HasRank after x.rank) v.done (λ x r. record { from = r.from; below = r.below }) known.inside) (record { from = mine.from; below = mine.below }, tt);
          within = known.within;
        }

    knows-other : (seat : ℕ) (u : View) → seat ≢ id → get_elem? views seat ≡ some u → Knows (log ++ entry_of d ∷ []) ranks u
    knows-other seat u n e =
        let known : Knows log ranks u = seats.know seat u e in
        record { own = λ rank r. others-same rank (λ h. n (seats.apart seat id u v rank e at r (subst (HasRank v) h mine))) ∙ known.own rank r; inside = known.inside; within = known.within }

    pub seats-do : AreSeats (log ++ entry_of d ∷ []) ranks (set views id (view v.first v.end (v.done ++ d ∷ [])))
    seats-do = record {
      know = λ seat u e. ⊎_elim (λ (h : (seat ≡ id) × (after ≡ u)). subst (Knows (log ++ entry_of d ∷ []) ranks) h.1 knows-mine) (λ h. knows-other seat u h.0 h.1) (at_set views id seat after u e);
      apart = λ seat other u w rank e f r s. let t = before seat u e in let q = before other w f in seats.apart seat other t.0 q.0 rank t.1 q.1 (t.2 rank r) (q.2 rank s);
      no_others = λ rank h. others-same rank (λ same. absurd (omega (arith, h, same, mine.below, (seats.know id v at).within))) ∙ seats.no_others rank h;
    }

  -- ---- a seat is split, before it has done anything

  module _ (idle : v.done ≡ []) (some-rank : v.first < v.end) where
    abbrev halves : List View
    halves = set views id (first_of v) ++ others_of v ∷ []

    -- who stands at a seat: one of before, with no more ranks, or the new one
    origin : (seat : ℕ) (u : View) → get_elem? halves seat ≡ some u
        → ((t : View) × (get_elem? views seat ≡ some t) × ((rank : ℕ) → HasRank u rank → HasRank t rank) × (seat ≡ id → u ≡ first_of v)) ⊎ ((seat ≡ length (set views id (first_of v))) × (others_of v ≡ u))
    origin seat u e = ⊎_elim (λ old. inl (of_old old)) (λ new. inr new) (at-end (set views id (first_of v)) (others_of v) u seat e)
      where
        of-first : (rank : ℕ) → HasRank (first_of v) rank → HasRank v rank
        of-first rank r = record { from = r.from; below = omega (arith, r.below, some-rank) }

        of_old : get_elem? (set views id (first_of v)) seat ≡ some u → (t : View) × (get_elem? views seat ≡ some t) × ((rank : ℕ) → HasRank u rank → HasRank t rank) × (seat ≡ id → u ≡ first_of v)
        of_old h = ⊎_elim
            (λ (k : (seat ≡ id) × (first_of v ≡ u)). (
              v,
              ap (get_elem? views) k.0 ∙ at,
              (λ rank r. of-first rank (subst (λ t. HasRank t rank) (sym k.1) r)),
              λ i. sym k.1,
            ))
            (λ k. (u, k.1, (λ rank r. r), λ i. absurd (k.0 i))) (at_set views id seat (first_of v) u h)

    knows-first : Knows log ranks (first_of v)
    knows-first =
        let known : Knows log ranks v = seats.know id v at in
        record {
          own = λ rank r. known.own rank (record { from = r.from; below = omega (arith, r.below, some-rank) });
          inside = subst (AllByRecursion (λ (d : Done). HasRank (first_of v) d.rank)) (sym idle) tt;
          within = omega (arith, some-rank, known.within);
        }

    knows-others : Knows log ranks (others_of v)
    knows-others =
        let known : Knows log ranks v = seats.know id v at in
        record { own = λ rank r. known.own rank (record { from = omega (arith, r.from); below = r.below }) ∙ ap (λ done. of_rank rank (map entry_of done)) idle; inside = tt; within = known.within }

    pub seats-split : AreSeats log ranks (set views id (first_of v) ++ others_of v ∷ [])
    seats-split = record { know = know; apart = apart; no_others = seats.no_others }
      where
        know : (seat : ℕ) (u : View) → get_elem? halves seat ≡ some u → Knows log ranks u
        know seat u e = ⊎_elim
            (λ h. ⊎_elim (λ (k : (seat ≡ id) × (first_of v ≡ u)). subst (Knows log ranks) k.1 knows-first) (λ k. seats.know seat u k.1) (at_set views id seat (first_of v) u h))
            (λ (h : (seat ≡ length (set views id (first_of v))) × (others_of v ≡ u)). subst (Knows log ranks) h.1 knows-others) (at-end (set views id (first_of v)) (others_of v) u seat e)

        -- a rank of the new seat is of no other one
        new-apart : (seat : ℕ) (u t : View) (rank : ℕ) → get_elem? views seat ≡ some t → (HasRank u rank → HasRank t rank) → (seat ≡ id → u ≡ first_of v) → HasRank u rank → HasRank (others_of v) rank → ⊥
        new-apart seat u t rank e f g r s =
            let same : seat ≡ id = seats.apart seat id t v rank e at (f r) (record { from = omega (arith, s.from); below = s.below }) in
            let first : HasRank (first_of v) rank = subst (λ x. HasRank x rank) (g same) r in
            omega (arith, first.below, s.from)

        apart : (seat other : ℕ) (u w : View) (rank : ℕ) → get_elem? halves seat ≡ some u → get_elem? halves other ≡ some w → HasRank u rank → HasRank w rank → seat ≡ other
        apart seat other u w rank e f r s = ⊎_elim
            (λ a. ⊎_elim (λ b. seats.apart seat other a.0 b.0 rank a.1 b.1 (a.2 rank r) (b.2 rank s))
            (λ (b : (other ≡ length (set views id (first_of v))) × (others_of v ≡ w)). absurd (new-apart seat u a.0 rank a.1 (a.2 rank) a.3 r (subst (λ x. HasRank x rank) (sym b.1) s))) (origin other w f))
            (λ (a : (seat ≡ length (set views id (first_of v))) × (others_of v ≡ u)). ⊎_elim
            (λ b. absurd (new-apart other w b.0 rank b.1 (b.2 rank) b.3 s (subst (λ x. HasRank x rank) (sym a.1) r)))
            (λ (b : (other ≡ length (set views id (first_of v))) × (others_of v ≡ w)). a.0 ∙ sym b.0) (origin other w f))
            (origin seat u e)

  -- ---- a seat takes in the one whose ranks follow

  module _ (from : ℕ) (w : View) (else : from ≢ id) (found : get_elem? views from ≡ some w) (follows : w.first ≡ v.end) (ordered : v.first ≤ v.end) (more : w.first ≤ w.end) where
    abbrev both : List View
    both = set (set views id (joined v w)) from nobody

    -- where a rank of a seat stood before
    stood : (seat : ℕ) (u : View) (rank : ℕ) → get_elem? both seat ≡ some u → HasRank u rank → (seat ≢ from) × ((t : View) × (old : ℕ) × (get_elem? views old ≡ some t) × HasRank t rank × (((old ≡ seat) × (seat ≢ id)) ⊎ ((seat ≡ id) × ((old ≡ id) ⊎ (old ≡ from)))))
    stood seat u rank e r = ⊎_elim
        (λ (h : (seat ≡ from) × (nobody ≡ u)). absurd (no-rank rank (subst (λ x. HasRank x rank) (sym h.1) r)))
        (λ h. (
          h.0,
          ⊎_elim
              (λ (k : (seat ≡ id) × (joined v w ≡ u)). of-joined k.0 (subst (λ x. HasRank x rank) (sym k.1) r))
              (λ k. (u, seat, k.1, r, inl (refl, k.0))) (at_set views id seat (joined v w) u h.1),
        ))
        (at_set (set views id (joined v w)) from seat nobody u e)
      where
        no-rank : (rank : ℕ) → HasRank nobody rank → ⊥
        no-rank rank r = omega (arith, r.below)

        of-joined : seat ≡ id → HasRank (joined v w) rank → (t : View) × (old : ℕ) × (get_elem? views old ≡ some t) × HasRank t rank × (((old ≡ seat) × (seat ≢ id)) ⊎ ((seat ≡ id) × ((old ≡ id) ⊎ (old ≡ from))))
        of-joined i j = ⊎_elim
            (λ h. (v, id, at, record { from = j.from; below = h }, inr (i, inl refl)))
            (λ h. (w, from, found, record { from = omega (arith, h, follows); below = j.below }, inr (i, inr refl))) (nat-split rank v.end)

    knows-both : Knows log ranks (joined v w)
    knows-both =
        let one : Knows log ranks v = seats.know id v at in
        let two : Knows log ranks w = seats.know from w found in
        record {
          own = λ rank r. ⊎_elim (λ h. of-one rank (record { from = r.from; below = h })) (λ h. of-two rank (record { from = omega (arith, h, follows); below = r.below })) (nat-split rank v.end);
          inside = all-append (λ (d : Done). HasRank (joined v w) d.rank) v.done w.done
              (all-weaker (λ (d : Done). HasRank v d.rank) (λ (d : Done). HasRank (joined v w) d.rank) v.done (λ d r. record { from = r.from; below = omega (arith, r.below, follows, more) }) one.inside)
              (all-weaker (λ (d : Done). HasRank w d.rank) (λ (d : Done). HasRank (joined v w) d.rank) w.done (λ d r. record { from = omega (arith, r.from, follows, ordered); below = r.below }) two.inside);
          within = two.within;
        }
      where
        parts : (rank : ℕ) → of_rank rank (entries_of (joined v w)) ≡ of_rank rank (entries_of v) ++ of_rank rank (entries_of w)
        parts rank = ap (of_rank rank) (map-append entry_of v.done w.done) ∙ of_rank-append rank (entries_of v) (entries_of w)

        of-one : (rank : ℕ) → HasRank v rank → of_rank rank log ≡ of_rank rank (entries_of (joined v w))
        of-one rank r =
            let none : of_rank rank (entries_of w) ≡ [] = none-outside w rank w.done (seats.know from w found).inside (λ s. omega (arith, r.below, s.from, follows)) in
            (seats.know id v at).own rank r ∙ sym (append-nil (of_rank rank (entries_of v))) ∙ ap (λ l. of_rank rank (entries_of v) ++ l) (sym none) ∙ sym (parts rank)

        of-two : (rank : ℕ) → HasRank w rank → of_rank rank log ≡ of_rank rank (entries_of (joined v w))
        of-two rank r =
            let none : of_rank rank (entries_of v) ≡ [] = none-outside v rank v.done (seats.know id v at).inside (λ s. omega (arith, s.below, r.from, follows)) in
            (seats.know from w found).own rank r ∙ ap (λ l. l ++ of_rank rank (entries_of w)) (sym none) ∙ sym (parts rank)

    pub seats-join : AreSeats log ranks (set (set views id (joined v w)) from nobody)
    seats-join = record { know = know; apart = apart; no_others = seats.no_others }
      where
        knows-nobody : Knows log ranks nobody
        knows-nobody = record { own = λ rank r. absurd (omega (arith, r.below)); inside = tt; within = omega arith }

        know : (seat : ℕ) (u : View) → get_elem? both seat ≡ some u → Knows log ranks u
        know seat u e = ⊎_elim
            (λ (h : (seat ≡ from) × (nobody ≡ u)). subst (Knows log ranks) h.1 knows-nobody)
            (λ h. ⊎_elim (λ (k : (seat ≡ id) × (joined v w ≡ u)). subst (Knows log ranks) k.1 knows-both) (λ k. seats.know seat u k.1) (at_set views id seat (joined v w) u h.1))
            (at_set (set views id (joined v w)) from seat nobody u e)

        -- two places before that are one give one seat
        one-seat : (seat other old then : ℕ) → seat ≢ from → other ≢ from → old ≡ then → ((old ≡ seat) × (seat ≢ id)) ⊎ ((seat ≡ id) × ((old ≡ id) ⊎ (old ≡ from)))
            → ((then ≡ other) × (other ≢ id)) ⊎ ((other ≡ id) × ((then ≡ id) ⊎ (then ≡ from))) → seat ≡ other
        one-seat seat other old then n o same a b = ⊎_elim
            (λ (p : (old ≡ seat) × (seat ≢ id)). ⊎_elim (λ (q : (then ≡ other) × (other ≢ id)). sym p.0 ∙ same ∙ q.0)
            (λ (q : (other ≡ id) × ((then ≡ id) ⊎ (then ≡ from))). ⊎_elim (λ h. absurd (p.1 (sym p.0 ∙ same ∙ h))) (λ h. absurd (n (sym p.0 ∙ same ∙ h))) q.1) b)
            (λ (p : (seat ≡ id) × ((old ≡ id) ⊎ (old ≡ from))). ⊎_elim
            (λ (q : (then ≡ other) × (other ≢ id)). ⊎_elim (λ h. absurd (q.1 (sym q.0 ∙ sym same ∙ h))) (λ h. absurd (o (sym q.0 ∙ sym same ∙ h))) p.1)
            (λ (q : (other ≡ id) × ((then ≡ id) ⊎ (then ≡ from))). p.0 ∙ sym q.0) b) a

        apart : (seat other : ℕ) (u x : View) (rank : ℕ) → get_elem? both seat ≡ some u → get_elem? both other ≡ some x → HasRank u rank → HasRank x rank → seat ≡ other
        apart seat other u x rank e f r s =
            let a = stood seat u rank e r in
            let b = stood other x rank f s in
            one-seat seat other a.1.1 b.1.1 a.0 b.0 (seats.apart a.1.1 b.1.1 a.1.0 b.1.0 rank a.1.2 b.1.2 a.1.3 b.1.3) a.1.4 b.1.4
