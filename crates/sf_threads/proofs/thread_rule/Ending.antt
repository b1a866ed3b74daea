-- Where one seat has all ranks again, what was done gives each word an order that replays.
use Rattle.std.proofs.Common.{◌≡◌, ℕ, Bool, true, false, cond, ◌==◌, List, [], ◌∷◌, filter, get_or, refl, sym, ap, subst, ◌∙◌, ⊎_elim, arith}
use mathlib.Core.Option.{some}
use lib.ListN.{get_elem?}
use Rattle.atomic_table.specs.Table.{State}
use Rattle.sf_defs.specs.Asks.{Entry, Replays, of_rank, on_word, IsOrderOf}
use Rattle.sf_defs.specs.Rounds.{Round, entries}
use Rattle.round_laws.specs.ReplayingOrders.{HasReplayingOrders}
use Rattle.sf_threads.specs.declared.thread_rule.view.View.{View}
use Rattle.sf_threads.specs.declared.thread_rule.view.Key.{Key}
use Rattle.sf_threads.specs.thread_rule.Rule.{entries_of, Kept}
use Rattle.sf_threads.proofs.thread_rule.Playing.{plays-on}
use Rattle.sf_threads.proofs.thread_rule.Seats.{none-outside, nat-split}

-- tests in either order
filter-swap : {X : Type 0} (p q : X → Bool) (xs : List X) → filter p (filter q xs) ≡ filter q (filter p xs)
filter-swap p q [] = refl
filter-swap p q (x ∷ xs) = go (p x) (q x) refl refl (filter-swap p q xs)
  where
    go : (a b : Bool) → p x ≡ a → q x ≡ b → filter p (filter q xs) ≡ filter q (filter p xs) → filter p (cond b (x ∷ filter q xs) (filter q xs)) ≡ filter q (cond a (x ∷ filter p xs) (filter p xs))
    go true true h k r = ap (λ c. cond c (x ∷ filter p (filter q xs)) (filter p (filter q xs))) h ∙ ap (λ l. x ∷ l) r ∙ sym (ap (λ c. cond c (x ∷ filter q (filter p xs)) (filter q (filter p xs))) k)
    go true false h k r = r ∙ sym (ap (λ c. cond c (x ∷ filter q (filter p xs)) (filter q (filter p xs))) k)
    go false true h k r = ap (λ c. cond c (x ∷ filter p (filter q xs)) (filter p (filter q xs))) h ∙ r
    go false false h k r = r

-- a seat that has all ranks knows all that was done
knows-all : (k : Key) (s : State (Unit {0}) View) (kept : Kept k s) (id : ℕ) (v : View) → get_elem? s.views id ≡ some v → v.first ≡ 0 → v.end ≡ k.ranks → (rank : ℕ) → of_rank rank kept.log ≡ of_rank rank (entries_of v)
knows-all k s kept id v at first end rank = ⊎_elim
    (λ h. (kept.seats.know id v at).own rank (record { from = omega (arith, first); below = omega (arith, h, end) }))
    (λ h. kept.seats.no_others rank h ∙ sym (none-outside v rank v.done (kept.seats.know id v at).inside (λ r. omega (arith, r.below, h, end)))) (nat-split rank k.ranks)

pub ends : (k : Key) (s : State (Unit {0}) View) → Kept k s → (id : ℕ) (v : View) → get_elem? s.views id ≡ some v → v.first ≡ 0 → v.end ≡ k.ranks
    → (r : Round) → r.before ≡ k.words.items → r.after ≡ s.words → entries_of v ≡ entries r.asks r.got → HasReplayingOrders r
ends k s kept id v at first end r before after done w within = (on_word w kept.log, orders, replays)
  where
    orders : IsOrderOf (on_word w (entries r.asks r.got)) (on_word w kept.log)
    orders rank =
        filter-swap (λ (e : Entry). e.rank == rank) (λ (e : Entry). e.ask.word == w) kept.log
        ∙ ap (on_word w) (knows-all k s kept id v at first end rank ∙ ap (of_rank rank) done)
        ∙ sym (filter-swap (λ (e : Entry). e.rank == rank) (λ (e : Entry). e.ask.word == w) (entries r.asks r.got))

    replays : Replays (get_or r.before w 0) (on_word w kept.log) (get_or r.after w 0)
    replays = subst (λ n. Replays n (on_word w kept.log) (get_or r.after w 0)) (ap (λ l. get_or l w 0) (sym before))
        (subst (λ n. Replays (get_or k.words.items w 0) (on_word w kept.log) n) (ap (λ l. get_or l w 0) (sym after)) (plays-on k.words.items kept.log s.words w kept.plays))
