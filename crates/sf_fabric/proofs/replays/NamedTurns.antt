-- Turns that name asks on a word: their places are places of asks on it, and where they are as many, these.
use Rattle.std.proofs.Common.{◌≡◌, ◌⊎◌, ◌≢◌, ℕ, zero, suc, ◌+◌, ◌<◌, ◌≤◌, Bool, true, false, ◌&&◌, ◌==◌, nat_lt, List, [], ◌∷◌, map, length, get_or, refl, sym, ap, subst, ◌∙◌, ⊎_elim, arith}
use Rattle.std.specs.Prelude.{filter}
use Rattle.std.specs.List.{AllByRecursion}
use Rattle.std.proofs.lemmas.Bool.{false≢true, ltb-true, lt-ltb, cases_lt}
use Rattle.std.proofs.lemmas.List.{length-map, get_or_past}
use Rattle.plain_lists.proofs.Each.{all_weaker}
use Rattle.sf_defs.specs.declared.Op.TheVariants.{Load}
use Rattle.sf_defs.specs.declared.Ask.{Ask}
use Rattle.sf_defs.specs.declared.Turn.{Turn}
use Rattle.sf_defs.specs.Rounds.{places_of, places_on}
use Rattle.round_laws.proofs.Shuffles.{same_rank}
use Rattle.sf_fabric.specs.replays.Walks.{ask_of, names}
use Rattle.sf_fabric.specs.replays.Right.{total}
use Rattle.sf_fabric.proofs.replays.OwnTurns.{places-own, places-other}
use Rattle.sf_fabric.proofs.replays.Places.{Passes}

-- no ask
abbrev pub none : Ask
none = record { word = 0; op = Load; value = 0 }

-- it is on word w
abbrev pub is_on : ℕ → Ask → Bool
is_on w a = a.word == w

-- k is the place of a rank's ask on word w
abbrev pub IsPlace : List (List Ask) → ℕ → ℕ → ℕ → Type 0
IsPlace asks w rank k = Passes (is_on w) none 0 (get_or asks rank []) k

split_and : (b c : Bool) → (b && c) ≡ true → (b ≡ true) × (c ≡ true)
split_and true c h = (refl, h)
split_and false c h = absurd (false≢true h)

-- the parts of a name
pub named-parts : (asks : List (List Ask)) (w : ℕ) (t : Turn) → names asks w t ≡ true → (t.rank < length asks) × ((t.index < length (get_or asks t.rank [])) × (is_on w (ask_of asks t) ≡ true))
named-parts asks w t h =
    let a = split_and (nat_lt t.rank (length asks)) _ h in
    let b = split_and (nat_lt t.index (length (get_or asks t.rank []))) _ a.1 in
    (ltb-true t.rank (length asks) a.0, (ltb-true t.index (length (get_or asks t.rank [])) b.0, b.1))

-- turns that name asks have places of asks
pub places-named : (asks : List (List Ask)) (w rank : ℕ) (ts : List Turn) → AllByRecursion (λ t. names asks w t ≡ true) ts → AllByRecursion (IsPlace asks w rank) (places_of rank ts)
places-named asks w rank [] h = tt
places-named asks w rank (t ∷ ts) h = ⊎_elim
    (λ same.
    let parts = named-parts asks w t h.0 in
    subst (AllByRecursion (IsPlace asks w rank)) (sym (places-own rank t ts same))
    (subst (λ r. IsPlace asks w r t.index) same (record { place = t.index; at = omega arith; within = parts.1.0; passes = parts.1.1 }), places-named asks w rank ts h.1))
    (λ other. subst (AllByRecursion (IsPlace asks w rank)) (sym (places-other rank t ts other)) (places-named asks w rank ts h.1))
    (same_rank t.rank rank)

-- a place of a rank's ask is named by the rank
is_named : (asks : List (List Ask)) (w : ℕ) (t : Turn) → IsPlace asks w t.rank t.index → names asks w t ≡ true
is_named asks w t h =
    let at : h.place ≡ t.index = sym (h.at ∙ (omega arith)) in
    let within : t.index < length (get_or asks t.rank []) = subst (λ k. k < length (get_or asks t.rank [])) at h.within in
    let on : is_on w (ask_of asks t) ≡ true = subst (λ k. is_on w (get_or (get_or asks t.rank []) k none) ≡ true) at h.passes in
    let there : t.rank < length asks = ⊎_elim (λ lt. lt) (λ ge. absurd (let gone = ap (length {A = Ask}) (get_or_past asks t.rank [] ge) in omega arith)) (cases_lt t.rank (length asks)) in
    ap (λ b. b && (nat_lt t.index (length (get_or asks t.rank [])) && is_on w (ask_of asks t))) (lt-ltb t.rank (length asks) there)
    ∙ ap (λ b. b && is_on w (ask_of asks t)) (lt-ltb t.index (length (get_or asks t.rank [])) within) ∙ on

-- turns whose places are places of asks name them
pub named-places : (asks : List (List Ask)) (w : ℕ) (ts : List Turn) → ((rank : ℕ) → AllByRecursion (IsPlace asks w rank) (places_of rank ts)) → AllByRecursion (λ t. names asks w t ≡ true) ts
named-places asks w [] h = tt
named-places asks w (t ∷ ts) h = (
  is_named asks w t (subst (AllByRecursion (IsPlace asks w t.rank)) (places-own t.rank t ts refl) (h t.rank)).0,
  named-places asks w ts (λ rank. ⊎_elim
      (λ same. (subst (AllByRecursion (IsPlace asks w rank)) (places-own rank t ts same) (h rank)).1)
      (λ other. subst (AllByRecursion (IsPlace asks w rank)) (places-other rank t ts other) (h rank))
      (same_rank t.rank rank)),
)
