-- The law of the printed order, for one word.
use Rattle.std.proofs.Common.{◌≡◌, ◌⊎◌, ℕ, ◌+◌, ◌^◌, ◌<◌, ◌≤◌, Bool, true, false, cond, List, [], ◌∷◌, map, refl, sym, ap, subst, ◌∙◌, inl, inr, ⊎_elim}
use Rattle.std.specs.List.{AllByRecursion}
use Rattle.std.proofs.lemmas.Bool.{false≢true}
use Rattle.plain_lists.proofs.Each.{all_map, all_mapped}
use Rattle.sf_defs.specs.declared.Op.{Op}
use Rattle.sf_defs.specs.declared.Op.TheVariants.{Load, Sum, Min, Max, Or, And, Replace}
use Rattle.sf_defs.specs.declared.Ask.{Ask}
use Rattle.sf_defs.specs.Asks.{Entry, Replays, of_rank, IsOrderOf, HasOwnOrder, IsRising}
use Rattle.sf_defs.specs.PrintedOrder.{is_load, kind_of, stands_before, sorted_by, printed_order}
use Rattle.sf_defs.specs.Rounds.{same_op, added, SuitsWord}
use Rattle.round_laws.proofs.Comparison.{total_printed, strict_by_rank}
use Rattle.round_laws.proofs.Shuffles.{all_shuffled, sum_by-shuffled}
use Rattle.round_laws.proofs.Sorting.{sorted_by-shuffled, sorted_by-of_rank}
use Rattle.round_laws.proofs.Replay.{MovesOn, sorted-replays, own_first}
use Rattle.round_laws.proofs.Directions.{IsOfKind, all-move}

-- the asks of entries
abbrev pub asks_of : List Entry → List Ask
asks_of es = map (λ (e : Entry). e.ask) es

pub load-is : (op : Op) → is_load op ≡ true → op ≡ Load
load-is Load h = refl
load-is Sum h = absurd (false≢true h)
load-is Min h = absurd (false≢true h)
load-is Max h = absurd (false≢true h)
load-is Or h = absurd (false≢true h)
load-is And h = absurd (false≢true h)
load-is Replace h = absurd (false≢true h)

-- asks of one kind besides Load have that kind, or are Loads
kind_cases : (kind : Op) (asks : List Ask) → AllByRecursion (λ (a : Ask). (a.op ≡ Load) ⊎ (a.op ≡ kind)) asks → (kind_of asks ≡ kind) ⊎ AllByRecursion (λ (a : Ask). a.op ≡ Load) asks
kind_cases kind [] h = inr tt
kind_cases kind (a ∷ asks) h = go (is_load a.op) refl (kind_cases kind asks h.1)
  where
    go : (b : Bool) → is_load a.op ≡ b → (kind_of asks ≡ kind) ⊎ AllByRecursion (λ (a : Ask). a.op ≡ Load) asks → (cond b (kind_of asks) a.op ≡ kind) ⊎ AllByRecursion (λ (a : Ask). a.op ≡ Load) (a ∷ asks)
    go true k r = ⊎_elim (λ e. inl e) (λ e. inr (load-is a.op k, e)) r
    go false k r = ⊎_elim (λ e. absurd (false≢true (sym k ∙ ap is_load e))) (λ e. inl e) h.0

loads-kind : (asks : List Ask) → AllByRecursion (λ (a : Ask). a.op ≡ Load) asks → kind_of asks ≡ Load
loads-kind [] h = refl
loads-kind (a ∷ asks) h = ap (λ b. cond b (kind_of asks) a.op) (ap is_load h.0) ∙ loads-kind asks h.1

module _ (first : ℕ) (all es : List Entry) (suits : SuitsWord first (asks_of all)) (order : IsOrderOf all es) where
  of_kind : AllByRecursion (IsOfKind (kind_of (asks_of all))) es
  of_kind = all_shuffled (IsOfKind (kind_of (asks_of all))) all es order (all_mapped (λ (a : Ask). (a.op ≡ Load) ⊎ (a.op ≡ kind_of (asks_of all))) (λ (e : Entry). e.ask) all suits.one_kind)

  -- an order of entries has their kind
  pub same_kind : kind_of (asks_of es) ≡ kind_of (asks_of all)
  same_kind = ⊎_elim (λ e. e)
      (λ loads. loads-kind (asks_of es) loads ∙ sym (loads-kind (asks_of all) (all_map (λ (a : Ask). a.op ≡ Load) (λ (e : Entry). e.ask) all (all_shuffled (λ e. e.ask.op ≡ Load) es all (λ rank. sym (order rank)) (all_mapped (λ (a : Ask). a.op ≡ Load) (λ (e : Entry). e.ask) es loads)))))
      (kind_cases (kind_of (asks_of all)) (asks_of es) (all_map (λ (a : Ask). (a.op ≡ Load) ⊎ (a.op ≡ kind_of (asks_of all))) (λ (e : Entry). e.ask) es of_kind))

  -- the printed order is one, however the entries are mixed
  pub printed-shuffled : printed_order first es ≡ printed_order first all
  unfolding printed_order
  printed-shuffled =
      ap (λ kind. sorted_by (stands_before kind first) es) same_kind
      ∙ sym (sorted_by-shuffled (stands_before (kind_of (asks_of all)) first) (total_printed (kind_of (asks_of all)) first) (strict_by_rank (kind_of (asks_of all)) first) all es (λ rank. order rank))

  -- the entries in the order that replays, sorted
  sorted-is : printed_order first all ≡ sorted_by (stands_before (kind_of (asks_of all)) first) es
  unfolding printed_order
  sorted-is = sorted_by-shuffled (stands_before (kind_of (asks_of all)) first) (total_printed (kind_of (asks_of all)) first) (strict_by_rank (kind_of (asks_of all)) first) all es order

  module _ (last : ℕ) (replays : Replays first es last) where
    moving : AllByRecursion (MovesOn (kind_of (asks_of all)) first) es
    moving = all-move (kind_of (asks_of all)) first es last of_kind
        (subst (λ n. n ≤ 1) (sum_by-shuffled (λ (a : Ask). cond (same_op a.op Replace) 1 0) all es order) suits.one_replace)
        (subst (λ n. first + n < 2 ^ 64) (sum_by-shuffled added all es order) suits.sums_fit)
        replays

    -- it replays to the same last value
    pub printed-replays : Replays first (printed_order first all) last
    printed-replays = subst (λ l. Replays first l last) (sym sorted-is) (sorted-replays (kind_of (asks_of all)) first es first last moving replays)

    -- each rank's own stand in their order
    pub printed-is_order : HasOwnOrder all → IsOrderOf all (printed_order first all)
    printed-is_order own rank =
        ap (of_rank rank) sorted-is
        ∙ sorted_by-of_rank (stands_before (kind_of (asks_of all)) first) es (own_first (kind_of (asks_of all)) first es first last moving replays (λ r. subst (λ l. IsRising (map (λ (e : Entry). e.index) l)) (sym (order r)) (own r))) rank
        ∙ order rank
