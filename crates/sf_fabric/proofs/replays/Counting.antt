-- Where the orders have as many turns as there are asks, each has each ask on its word once.
use Rattle.std.proofs.Common.{◌≡◌, ◌⊎◌, ℕ, zero, suc, ◌+◌, ◌<◌, ◌≤◌, Bool, true, false, ◌==◌, List, [], ◌∷◌, map, length, get_or, refl, sym, ap, subst, ◌∙◌, ⊎_elim, arith}
use Rattle.std.specs.Prelude.{filter}
use Rattle.std.specs.List.{AllByRecursion}
use Rattle.std.proofs.lemmas.Bool.{cases_lt}
use Rattle.std.proofs.lemmas.List.{length-map, get_or_past}
use Rattle.plain_lists.proofs.Each.{all_weaker}
use Rattle.sf_defs.specs.declared.Ask.{Ask}
use Rattle.sf_defs.specs.declared.Turn.{Turn}
use Rattle.sf_defs.specs.Asks.{IsRising}
use Rattle.sf_defs.specs.Rounds.{Round, places_of, places_on}
use Rattle.sf_fabric.specs.replays.Walks.{names}
use Rattle.sf_fabric.specs.replays.Right.{total, ask_count}
use Rattle.sf_fabric.proofs.replays.Totals.{total-same, total-le, total-tight, total-turned, total-split}
use Rattle.sf_fabric.proofs.replays.Places.{rising_places, length-places}
use Rattle.sf_fabric.proofs.replays.NamedTurns.{none, is_on, named-parts, places-named}

-- how many turns of a rank an order has
turns_of : List (List Turn) → ℕ → ℕ → ℕ
turns_of orders w rank = length (places_of rank (get_or orders w []))

-- how many asks a rank has on a word
asks_there : List (List Ask) → ℕ → ℕ → ℕ
asks_there asks w rank = length (places_on w (get_or asks rank []))

module _ (asks : List (List Ask)) (orders : List (List Turn)) (words : ℕ) where
  -- asks counted by word and rank
  asks-counted : ((rank : ℕ) → rank < length asks → AllByRecursion (λ (a : Ask). a.word < words) (get_or asks rank [])) → total (λ rank. length (get_or asks rank [])) (length asks) ≡ total (λ w. total (asks_there asks w) (length asks)) words
  unfolding asks_there
  asks-counted within =
      total-same (λ rank. length (get_or asks rank [])) (λ rank. total (λ w. asks_there asks w rank) words) (length asks) (λ rank lt.
      sym (total-same (λ w. asks_there asks w rank) (λ w. length (filter (is_on w) (get_or asks rank []))) words (λ w h. length-places (is_on w) none 0 (get_or asks rank []))
      ∙ total-split (λ (a : Ask). a.word) (get_or asks rank []) words (within rank lt)))
      ∙ sym (total-turned (λ w rank. asks_there asks w rank) words (length asks))

  -- turns counted by word and rank
  turns-counted : ((w : ℕ) → w < words → AllByRecursion (λ (t : Turn). t.rank < length asks) (get_or orders w [])) → total (λ w. length (get_or orders w [])) words ≡ total (λ w. total (turns_of orders w) (length asks)) words
  unfolding turns_of
  turns-counted ranks = total-same (λ w. length (get_or orders w [])) (λ w. total (turns_of orders w) (length asks)) words (λ w lt.
      sym (total-same (turns_of orders w) (λ rank. length (filter (λ (t : Turn). t.rank == rank) (get_or orders w []))) (length asks) (λ rank h. length-map (filter (λ (t : Turn). t.rank == rank) (get_or orders w [])) (λ (t : Turn). t.index))
      ∙ total-split (λ (t : Turn). t.rank) (get_or orders w []) (length asks) (ranks w lt)))

  ranks-of : (w : ℕ) → AllByRecursion (λ t. names asks w t ≡ true) (get_or orders w []) → AllByRecursion (λ (t : Turn). t.rank < length asks) (get_or orders w [])
  ranks-of w named = all_weaker (λ t. names asks w t ≡ true) (λ (t : Turn). t.rank < length asks) (λ t h. (named-parts asks w t h).0) (get_or orders w []) named

  -- turns that name asks, each rank's rising, as many as there are asks: each ask once
  pub each_once-counted : ((rank : ℕ) → rank < length asks → AllByRecursion (λ (a : Ask). a.word < words) (get_or asks rank []))
      → ((w : ℕ) → w < words → AllByRecursion (λ t. names asks w t ≡ true) (get_or orders w []) × ((rank : ℕ) → IsRising (places_of rank (get_or orders w []))))
      → total (λ w. length (get_or orders w [])) words ≡ total (λ rank. length (get_or asks rank [])) (length asks)
      → (w rank : ℕ) → w < words → places_of rank (get_or orders w []) ≡ places_on w (get_or asks rank [])
  unfolding turns_of asks_there
  each_once-counted within own counts w rank lt = ⊎_elim
      (λ there. (fits w lt rank).1 (total-tight (turns_of orders w) (asks_there asks w) (length asks) (λ r h. (fits w lt r).0) same rank there))
      (λ gone.
      let none_there : places_on w (get_or asks rank []) ≡ [] = ap (places_on w) (get_or_past asks rank [] gone) in
      let size : length (places_on w (get_or asks rank [])) ≡ 0 = ap length none_there in
      (fits w lt rank).1 (let few = (fits w lt rank).0 in omega arith))
      (cases_lt rank (length asks))
    where
      fits : (v : ℕ) → v < words → (r : ℕ) → (length (places_of r (get_or orders v [])) ≤ length (places_on v (get_or asks r []))) × (length (places_of r (get_or orders v [])) ≡ length (places_on v (get_or asks r [])) → places_of r (get_or orders v []) ≡ places_on v (get_or asks r []))
      fits v h r = rising_places (is_on v) none 0 (get_or asks r []) (places_of r (get_or orders v [])) ((own v h).1 r) (places-named asks v r (get_or orders v []) (own v h).0)

      same : total (turns_of orders w) (length asks) ≡ total (asks_there asks w) (length asks)
      same = total-tight (λ v. total (turns_of orders v) (length asks)) (λ v. total (asks_there asks v) (length asks)) words
          (λ v h. total-le (turns_of orders v) (asks_there asks v) (length asks) (λ r k. (fits v h r).0))
          (sym (turns-counted (λ v h. ranks-of v (own v h).0)) ∙ counts ∙ asks-counted within) w lt

  -- and where each ask stands once, there are as many turns as asks
  pub counted-each_once : ((rank : ℕ) → rank < length asks → AllByRecursion (λ (a : Ask). a.word < words) (get_or asks rank []))
      → ((w : ℕ) → w < words → AllByRecursion (λ t. names asks w t ≡ true) (get_or orders w []))
      → ((w rank : ℕ) → w < words → places_of rank (get_or orders w []) ≡ places_on w (get_or asks rank []))
      → total (λ w. length (get_or orders w [])) words ≡ total (λ rank. length (get_or asks rank [])) (length asks)
  unfolding turns_of asks_there
  counted-each_once within named each =
      turns-counted (λ w h. ranks-of w (named w h))
      ∙ total-same (λ w. total (turns_of orders w) (length asks)) (λ w. total (asks_there asks w) (length asks)) words (λ w h. total-same (turns_of orders w) (asks_there asks w) (length asks) (λ rank k. ap length (each w rank h)))
      ∙ sym (asks-counted within)
