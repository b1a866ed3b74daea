-- A list of entries that replays still replays when it is sorted, where each change of the word goes in the direction of its kind.
use Rattle.std.proofs.Common.{◌≡◌, ◌⊎◌, ℕ, ◌<◌, Bool, true, false, cond, not, ◌&&◌, ◌||◌, ◌==◌, nat_lt, nat_le, List, [], ◌∷◌, map, refl, sym, ap, subst, ◌∙◌, inl, inr, ⊎_elim, arith}
use Rattle.std.specs.List.{AllByRecursion}
use Rattle.std.proofs.lemmas.Bool.{true≢false, le-ltb, le-leb, eqb-true, cases_Bool}
use Rattle.plain_lists.proofs.Each.{all_weaker, all_both, all_mapped}
use Rattle.sf_defs.specs.declared.Op.{Op}
use Rattle.sf_defs.specs.Asks.{Entry, after_ask, Replays, of_rank, IsRising, HasOwnOrder}
use Rattle.sf_defs.specs.PrintedOrder.{fetched_before, changes, then_by, stands_before, placed, sorted_by}
use Rattle.round_laws.proofs.Comparison.{strict_fetched, strict_irreflexive, strict_trans}
use Rattle.round_laws.proofs.Shuffles.{of_rank-same, all_of_rank}
use Rattle.round_laws.proofs.Sorting.{OwnFirst}

-- an ask that changes nothing leaves what it fetched
unchanged : (e : Entry) → changes e ≡ false → after_ask e.ask e.got ≡ e.got
unchanged e h = go (after_ask e.ask e.got == e.got) refl h
  where
    go : (b : Bool) → (after_ask e.ask e.got == e.got) ≡ b → not b ≡ false → after_ask e.ask e.got ≡ e.got
    go true k i = eqb-true (after_ask e.ask e.got) e.got k
    go false k i = absurd (true≢false i)

module _ (kind : Op) (first : ℕ) where
  -- where the entry changes the word, it moves the fetched value in the direction of the kind
  abbrev pub MovesOn : Entry → Type 0
  MovesOn e = changes e ≡ true → fetched_before kind first e.got (after_ask e.ask e.got) ≡ true

  -- ---- how two entries compare

  -- by fetched values
  before_by_fetched : (d e : Entry) → fetched_before kind first d.got e.got ≡ true → stands_before kind first d e ≡ true
  unfolding stands_before
  before_by_fetched d e h = ap (λ t. t || (not (fetched_before kind first e.got d.got) && then_by (not (changes d) && changes e) (not (changes e) && changes d) (then_by (nat_lt d.rank e.rank) (nat_lt e.rank d.rank) (nat_le d.index e.index)))) h

  -- at equal fetched values, by what changes the word and then by rank and index
  compared : (d e : Entry) → d.got ≡ e.got → stands_before kind first d e ≡ then_by (not (changes d) && changes e) (not (changes e) && changes d) (then_by (nat_lt d.rank e.rank) (nat_lt e.rank d.rank) (nat_le d.index e.index))
  unfolding stands_before
  compared d e same =
      let here : fetched_before kind first d.got e.got ≡ false = ap (λ g. fetched_before kind first d.got g) (sym same) ∙ strict_irreflexive (fetched_before kind first) (strict_fetched kind first) d.got in
      let there : fetched_before kind first e.got d.got ≡ false = ap (λ g. fetched_before kind first e.got g) same ∙ strict_irreflexive (fetched_before kind first) (strict_fetched kind first) e.got in
      (λ i. then_by (here i) (there i) (then_by (not (changes d) && changes e) (not (changes e) && changes d) (then_by (nat_lt d.rank e.rank) (nat_lt e.rank d.rank) (nat_le d.index e.index))))

  -- e fetched v, the next entry fetched what e left, and yet e stands after it: neither changes the word
  idle_after : (e x : Entry) → MovesOn e → x.got ≡ after_ask e.ask e.got → stands_before kind first e x ≡ false → (changes e ≡ false) × (changes x ≡ false)
  idle_after e x moves next later = go (changes e) refl
    where
      second : changes e ≡ false → (b : Bool) → changes x ≡ b → b ≡ false
      second still true k = absurd (true≢false (sym (compared e x (sym (unchanged e still) ∙ sym next) ∙ (λ i. then_by (not (still i) && k i) (not (k i) && still i) (then_by (nat_lt e.rank x.rank) (nat_lt x.rank e.rank) (nat_le e.index x.index)))) ∙ later))
      second still false k = refl

      go : (b : Bool) → changes e ≡ b → (changes e ≡ false) × (changes x ≡ false)
      go true k = absurd (true≢false (sym (before_by_fetched e x (ap (λ g. fetched_before kind first e.got g) next ∙ moves k)) ∙ later))
      go false k = (k, second k (changes x) refl)

  -- ---- sorting keeps replay

  -- an entry put at its place in a list that replays after it
  placed-replays : (e : Entry) (es : List Entry) (word last : ℕ) → MovesOn e → e.got ≡ word → Replays (after_ask e.ask word) es last → Replays word (placed (stands_before kind first) e es) last
  placed-replays e [] word last moves at h = (at, h)
  placed-replays e (x ∷ xs) word last moves at h = go (stands_before kind first e x) refl (λ k. placed-replays e xs word last moves at k)
    where
      go : (b : Bool) → stands_before kind first e x ≡ b → (Replays (after_ask e.ask word) xs last → Replays word (placed (stands_before kind first) e xs) last)
          → Replays word (cond b (e ∷ x ∷ xs) (x ∷ placed (stands_before kind first) e xs)) last
      go true k r = (at, h)
      go false k r =
          let idle = idle_after e x moves (h.0 ∙ ap (after_ask e.ask) (sym at)) k in
          let left : after_ask e.ask word ≡ word = ap (after_ask e.ask) (sym at) ∙ unchanged e idle.0 ∙ at in
          let got : x.got ≡ word = h.0 ∙ left in
          let passed : after_ask x.ask word ≡ word = ap (after_ask x.ask) (sym got) ∙ unchanged x idle.1 ∙ got in
          let rest : Replays word xs last = subst (λ w. Replays w xs last) (ap (after_ask x.ask) left ∙ passed) h.1 in
          (got, subst (λ w. Replays w (placed (stands_before kind first) e xs) last) (sym passed) (r (subst (λ w. Replays w xs last) (sym left) rest)))

  -- a list that replays, sorted
  pub sorted-replays : (es : List Entry) (word last : ℕ) → AllByRecursion MovesOn es → Replays word es last → Replays word (sorted_by (stands_before kind first) es) last
  sorted-replays [] word last moves h = h
  sorted-replays (e ∷ es) word last moves h = placed-replays e (sorted_by (stands_before kind first) es) word last moves.0 h.0 (sorted-replays es (after_ask e.ask word) last moves.1 h.1)

  -- ---- sorting keeps each rank's own order

  -- the value is this one, or is fetched after it
  abbrev Reaches : ℕ → ℕ → Type 0
  Reaches m n = (m ≡ n) ⊎ (fetched_before kind first m n ≡ true)

  reaches-trans : (l m n : ℕ) → Reaches l m → Reaches m n → Reaches l n
  reaches-trans l m n p q = ⊎_elim
      (λ same. subst (λ t. Reaches t n) (sym same) q)
      (λ less. ⊎_elim (λ same. inr (subst (λ t. fetched_before kind first l t ≡ true) same less)) (λ more. inr (strict_trans (fetched_before kind first) (strict_fetched kind first) l m n less more)) q) p

  -- an entry leaves what it fetched, or a value further on
  moves-reaches : (e : Entry) → MovesOn e → Reaches e.got (after_ask e.ask e.got)
  moves-reaches e moves = ⊎_elim (λ k. inr (moves k)) (λ k. inl (sym (unchanged e k))) (cases_Bool (changes e))

  -- along a list that replays, fetched values move on
  all_reached : (es : List Entry) (word last : ℕ) → AllByRecursion MovesOn es → Replays word es last → AllByRecursion (λ (e : Entry). Reaches word e.got) es
  all_reached [] word last moves h = tt
  all_reached (e ∷ es) word last moves h = (
    inl (sym h.0),
    all_weaker (λ (x : Entry). Reaches (after_ask e.ask word) x.got) (λ (x : Entry). Reaches word x.got)
        (λ x r. reaches-trans word (after_ask e.ask word) x.got (subst (λ w. Reaches w (after_ask e.ask w)) h.0 (moves-reaches e moves.0)) r) es (all_reached es (after_ask e.ask word) last moves.1 h.1),
  )

  -- an entry stands before a later one of its rank
  stands_first : (e x : Entry) → MovesOn e → Reaches (after_ask e.ask e.got) x.got → e.rank ≡ x.rank → e.index < x.index → stands_before kind first e x ≡ true
  stands_first e x moves reached rank lower = ⊎_elim
      (λ k. before_by_fetched e x (further (moves k)))
      (λ k. ⊎_elim (λ same. compared e x same ∙ tie (changes x) (changes e) k) (λ less. before_by_fetched e x less) (subst (λ w. Reaches w x.got) (unchanged e k) reached))
      (cases_Bool (changes e))
    where
      further : fetched_before kind first e.got (after_ask e.ask e.got) ≡ true → fetched_before kind first e.got x.got ≡ true
      further less = ⊎_elim (λ same. subst (λ w. fetched_before kind first e.got w ≡ true) same less) (λ more. strict_trans (fetched_before kind first) (strict_fetched kind first) e.got (after_ask e.ask e.got) x.got less more) reached

      own : then_by (nat_lt e.rank x.rank) (nat_lt x.rank e.rank) (nat_le e.index x.index) ≡ true
      own = (λ i. then_by (le-ltb e.rank x.rank (omega (arith, rank)) i) (le-ltb x.rank e.rank (omega (arith, rank)) i) (le-leb e.index x.index (omega arith) i))

      tie : (b c : Bool) → c ≡ false → then_by (not c && b) (not b && c) (then_by (nat_lt e.rank x.rank) (nat_lt x.rank e.rank) (nat_le e.index x.index)) ≡ true
      tie true c k = ap (λ t. then_by (not t && true) (not true && t) (then_by (nat_lt e.rank x.rank) (nat_lt x.rank e.rank) (nat_le e.index x.index))) k
      tie false c k = ap (λ t. then_by (not t && false) (not false && t) (then_by (nat_lt e.rank x.rank) (nat_lt x.rank e.rank) (nat_le e.index x.index))) k ∙ own

  -- in a list that replays, each rank's own in its order, each entry stands before the later ones of its rank
  pub own_first : (es : List Entry) (word last : ℕ) → AllByRecursion MovesOn es → Replays word es last → HasOwnOrder es → OwnFirst (stands_before kind first) es
  own_first [] word last moves h own = tt
  own_first (e ∷ es) word last moves h own = (
    all_both (λ (x : Entry). Reaches (after_ask e.ask word) x.got) (λ (x : Entry). x.rank ≡ e.rank → e.index < x.index) (λ (x : Entry). x.rank ≡ e.rank → stands_before kind first e x ≡ true)
        (λ x reached lower rank. stands_first e x moves.0 (subst (λ w. Reaches (after_ask e.ask w) x.got) (sym h.0) reached) (sym rank) (lower rank)) es (all_reached es (after_ask e.ask word) last moves.1 h.1) lower,
    own_first es (after_ask e.ask word) last moves.1 h.1 (λ rank. rest rank (e.rank == rank) (own rank)),
  )
    where
      rest : (rank : ℕ) (b : Bool) → IsRising (map (λ (x : Entry). x.index) (cond b (e ∷ of_rank rank es) (of_rank rank es))) → IsRising (map (λ (x : Entry). x.index) (of_rank rank es))
      rest rank true r = r.1
      rest rank false r = r

      own_lower : AllByRecursion (λ (x : Entry). e.index < x.index) (of_rank e.rank es)
      own_lower = all_mapped (λ i. e.index < i) (λ (x : Entry). x.index) (of_rank e.rank es) (subst (λ l. IsRising (map (λ (x : Entry). x.index) l)) (of_rank-same e.rank e es refl) (own e.rank)).0

      lower : AllByRecursion (λ (x : Entry). x.rank ≡ e.rank → e.index < x.index) es
      lower = all_of_rank (λ x. e.index < x.index) e.rank es own_lower
