-- The turns of a legal round name asks and what they fetched.
use Rattle.std.proofs.Common.{◌≡◌, ℕ, zero, suc, ◌+◌, ◌<◌, Bool, true, false, cond, ◌==◌, List, [], ◌∷◌, length, map, get_or, refl, sym, ◌∙◌, subst, arith}
use Rattle.std.specs.Prelude.{filter, flat_map}
use Rattle.std.specs.List.{AllByRecursion, enumerate_from}
use Rattle.std.proofs.lemmas.Bool.{eq-eqb}
use Rattle.plain_lists.specs.Lists.{below}
use Rattle.plain_lists.proofs.Each.{all_weaker, all_map, all_filter}
use Rattle.sf_defs.specs.declared.Tag.TheVariants.{Free}
use Rattle.sf_defs.specs.declared.Ask.{Ask}
use Rattle.sf_defs.specs.declared.Turn.{Turn}
use Rattle.sf_defs.specs.Rounds.{Round, IsLegal, places_of, places_on}
use Rattle.walk_defs.specs.step_defs.Steps.{plain_round}
use Rattle.report.specs.report_lines.Windows.{HasEntry, HasEntries}
use Rattle.step_report.proofs.Going.{texts-by_places}
use Rattle.step_report.proofs.Placing.{enumerate-unplaced}

-- ---- lists of rounds

abbrev pub no_round : Round
no_round = record { tag = Free; before = []; asks = []; got = []; after = []; order = [] }

abbrev pub round_at : List Round → ℕ → Round
round_at rounds i = get_or rounds i no_round

pub rounds-by_places : (rounds : List Round) → flat_map plain_round rounds ≡ flat_map (λ k. plain_round (round_at rounds k)) (below (length rounds))
rounds-by_places rounds = sym (enumerate-unplaced plain_round 0 rounds) ∙ texts-by_places (λ (x : ℕ × Round). plain_round x.1) rounds no_round

-- what is found does not depend on what stands where nothing is
pub at-any : (rounds : List Round) (i : ℕ) (d e : Round) → i < length rounds → get_or rounds i d ≡ get_or rounds i e
at-any [] i d e lt = absurd (omega (arith, lt))
at-any (r ∷ rounds) zero d e lt = refl
at-any (r ∷ rounds) (suc i) d e lt = let low : i < length rounds = omega (arith, lt) in at-any rounds i d e low

-- ---- turns

places-below : (n : ℕ) (xs : List Ask) → AllByRecursion (λ (x : ℕ × Ask). x.0 < n + length xs) (enumerate_from n xs)
places-below n [] = tt
places-below n (x ∷ xs) = (omega arith, all_weaker (λ (c : ℕ × Ask). c.0 < n + 1 + length xs) (λ c. c.0 < n + length (x ∷ xs)) (λ c h. omega (arith, h)) (enumerate_from (n + 1) xs) (places-below (n + 1) xs))

places_on-below : (w : ℕ) (own : List Ask) → AllByRecursion (λ i. i < length own) (places_on w own)
places_on-below w own =
    all_map (λ i. i < length own) (λ (x : ℕ × Ask). x.0) (filter (λ (x : ℕ × Ask). x.1.word == w) (enumerate_from 0 own))
    (all_filter (λ (x : ℕ × Ask). x.0 < length own) (λ (x : ℕ × Ask). x.1.word == w) (enumerate_from 0 own)
    (all_weaker (λ (x : ℕ × Ask). x.0 < 0 + length own) (λ x. x.0 < length own) (λ x h. omega (arith, h)) (enumerate_from 0 own) (places-below 0 own)))

-- what holds of the places of each rank holds of each turn
turns-from : (P : ℕ → ℕ → Type 0) (turns : List Turn) → ((rank : ℕ) → AllByRecursion (P rank) (places_of rank turns)) → AllByRecursion (λ (t : Turn). P t.rank t.index) turns
turns-from P [] h = tt
turns-from P (t ∷ ts) h = (first (t.rank == t.rank) (eq-eqb t.rank t.rank refl) (h t.rank), turns-from P ts (λ rank. others rank (t.rank == rank) (h rank)))
  where
    first : (b : Bool) → b ≡ true → AllByRecursion (P t.rank) (map (λ (x : Turn). x.index) (cond b (t ∷ filter (λ (x : Turn). x.rank == t.rank) ts) (filter (λ (x : Turn). x.rank == t.rank) ts))) → P t.rank t.index
    first true e a = a.0
    first false e a = absurd (cc e)

    others : (rank : ℕ) (b : Bool) → AllByRecursion (P rank) (map (λ (x : Turn). x.index) (cond b (t ∷ filter (λ (x : Turn). x.rank == rank) ts) (filter (λ (x : Turn). x.rank == rank) ts))) → AllByRecursion (P rank) (places_of rank ts)
    others rank true a = a.1
    others rank false a = a

-- a list that has an item is there
there-is : {X : Type 0} (xs : List (List X)) (r i : ℕ) → i < length (get_or xs r []) → r < length xs
there-is [] zero i lt = absurd (omega (arith, lt))
there-is [] (suc r) i lt = absurd (omega (arith, lt))
there-is (x ∷ xs) zero i lt = omega arith
there-is (x ∷ xs) (suc r) i lt = let h = there-is xs r i lt in omega (arith, h)

same-length : {X Y : Type 0} (xs : List (List X)) (ys : List (List Y)) (r : ℕ) → map length xs ≡ map length ys → length (get_or xs r []) ≡ length (get_or ys r [])
same-length [] [] zero e = refl
same-length [] [] (suc r) e = refl
same-length [] (y ∷ ys) r e = absurd (cc e)
same-length (x ∷ xs) [] r e = absurd (cc e)
same-length (x ∷ xs) (y ∷ ys) zero e = cc e
same-length (x ∷ xs) (y ∷ ys) (suc r) e = let rest : map length xs ≡ map length ys = cc e in same-length xs ys r rest

pub legal-entries : (r : Round) → IsLegal r → HasEntries r
legal-entries r h = record {
  few = h.conditions.few_words;
  lasts = h.lasts;
  orders = h.orders;
  turns = λ w lt.
      let places = λ (rank : ℕ). subst (AllByRecursion (λ i. i < length (get_or r.asks rank []))) (sym (h.each_once w rank lt)) (places_on-below w (get_or r.asks rank [])) in
      all_weaker (λ (t : Turn). t.index < length (get_or r.asks t.rank [])) (HasEntry r)
      (λ t low.
      let got : t.index < length (get_or r.got t.rank []) = omega (arith, low, same-length r.got r.asks t.rank h.fetched) in
      record { rank = there-is r.asks t.rank t.index low; ask = low; got_rank = there-is r.got t.rank t.index got; got = got })
      (get_or r.order w []) (turns-from (λ rank i. i < length (get_or r.asks rank [])) (get_or r.order w []) places);
}
