-- The numbers that a rank has from its base on fit words.
use Rattle.std.proofs.Common.{◌≡◌, ◌⊎◌, ℕ, zero, suc, ◌+◌, ◌^◌, ◌<◌, ◌≤◌, List, [], ◌∷◌, map, length, get_or, sum_by, sym, ap, ◌∙◌, subst, arith}
use Rattle.std.specs.Prelude.{slice_index}
use Rattle.std.specs.List.{AllByRecursion}
use Rattle.std.proofs.lemmas.List.Sums.{sum_by-cons}
use Rattle.std.proofs.lemmas.List.{length-map}
use Rattle.plain_lists.proofs.Each.{all_mapped}
use Rattle.sf_defs.specs.declared.Op.TheVariants.{Sum, Load}
use Rattle.sf_defs.specs.declared.Ask.{Ask}
use Rattle.sf_defs.specs.Asks.{Entry, after_ask, Replays, on_word}
use Rattle.sf_defs.specs.PrintedOrder.{kind_of}
use Rattle.sf_defs.specs.Rounds.{Round, IsLegal, added, entries, asks_on, in_order}
use Rattle.round_laws.proofs.Directions.{IsOfKind, after-sum}
use Rattle.round_laws.proofs.Shuffles.{all_shuffled, sum_by-shuffled}
use Rattle.round_laws.proofs.Word.{asks_of}
use Rattle.round_laws.proofs.Entries.{asks_on-entries, entries_from}
use Rattle.round_laws.proofs.Legal.{legal-is-order}
use Rattle.rank_defs.specs.Spread.{PlainDist}
use Rattle.dist_number.specs.Asked.{own_counts, sum_of, sums_of}
use Rattle.dist_number.specs.Drawn.{AreDrawn}
use Rattle.dist_number.specs.Places.{HaveRoom}
use Rattle.dist_number.proofs.Listed.{length-own_counts}
use Rattle.dist_number.proofs.Meets.{asks_on-sums, kind-sums, count-got}
use Rattle.dist_number.proofs.Counted.{own_counts-are, asks-are}

-- what an entry fetched and added fits a word
abbrev Fits : Entry → Type 0
Fits e = e.got + added e.ask < 2 ^ 64

-- Sums that fit together fit one after another
each-fits : (es : List Entry) (word last : ℕ) → AllByRecursion (IsOfKind Sum) es → word + sum_by added (asks_of es) < 2 ^ 64 → Replays word es last → AllByRecursion Fits es
each-fits [] word last kinds fits h = tt
each-fits (e ∷ es) word last kinds fits h =
    let more = sum_by-cons added e.ask (asks_of es) in
    let next : after_ask e.ask word ≡ word + added e.ask = after-sum e word kinds.0 (omega (arith, more)) in
    (omega (arith, more, h.0), each-fits es (after_ask e.ask word) last kinds.1 (omega (arith, more, next)) h.1)

-- in a legal round this is so of the entries of a word of Sums
legal-fits : (r : Round) → IsLegal r → 0 < length r.before → kind_of (asks_on 0 r.asks) ≡ Sum → AllByRecursion Fits (on_word 0 (entries r.asks r.got))
legal-fits r legal within kind =
    let all = on_word 0 (entries r.asks r.got) in
    let order = legal-is-order r legal 0 within in
    let same = asks_on-entries 0 r.asks r.got legal.fetched in
    let suits = legal.conditions.words_suit 0 within in
    let own : AllByRecursion (IsOfKind Sum) all = all_mapped (λ (a : Ask). (a.op ≡ Load) ⊎ (a.op ≡ Sum)) (λ (e : Entry). e.ask) all (subst (λ k. AllByRecursion (λ (a : Ask). (a.op ≡ Load) ⊎ (a.op ≡ k)) (asks_of all)) kind (subst (λ l. AllByRecursion (λ (a : Ask). (a.op ≡ Load) ⊎ (a.op ≡ kind_of (asks_on 0 r.asks))) l) (sym same) suits.one_kind)) in
    all_shuffled Fits (in_order r 0) all (λ rank. sym (order rank))
    (each-fits (in_order r 0) (get_or r.before 0 0) (get_or r.after 0 0) (all_shuffled (IsOfKind Sum) all (in_order r 0) order own)
    (subst (λ n. get_or r.before 0 0 + n < 2 ^ 64) (ap (sum_by added) (sym same) ∙ sum_by-shuffled added all (in_order r 0) order) suits.sums_fit) (legal.replays 0 within))

-- of one Sum of each rank, so of each rank's
rank-fits : (i : ℕ) (values : List ℕ) (got : List (List ℕ)) → map length got ≡ map length (map (λ v. sum_of v ∷ []) values) → AllByRecursion Fits (on_word 0 (entries_from i (map (λ v. sum_of v ∷ []) values) got))
    → (rank : ℕ) → rank < length values → slice_index (map (λ own. slice_index own 0) got) rank + get_or values rank 0 < 2 ^ 64
rank-fits i [] got e h rank low = absurd (omega (arith, low))
rank-fits i (v ∷ vs) [] e h rank low = absurd (cc e)
rank-fits i (v ∷ vs) ([] ∷ got) e h rank low = absurd (cc e)
rank-fits i (v ∷ vs) ((base ∷ []) ∷ got) e h zero low = h.0
rank-fits i (v ∷ vs) ((base ∷ []) ∷ got) e h (suc rank) low = rank-fits (i + 1) vs got (cc e) h.1 rank (omega (arith, low))
rank-fits i (v ∷ vs) ((base ∷ other ∷ more) ∷ got) e h rank low = let one : length (base ∷ other ∷ more) ≡ 1 = cc e in absurd (omega (arith, one))

-- Drawn bases leave room for the numbers of each rank.
pub drawn_bases_fit : (d : PlainDist) (bases : List ℕ) → AreDrawn d bases → HaveRoom d bases
unfolding sums_of
drawn_bases_fit d bases drawn =
    let counts = own_counts-are d drawn.mesh drawn.dofs drawn.assignment drawn.ranks drawn.layers drawn.dist in
    let asks : drawn.round.asks ≡ sums_of (own_counts d) = drawn.drawn.asks ∙ (sym (asks-are drawn.mesh drawn.assignment drawn.ranks) ∙ ap sums_of (sym counts)) in
    let length-counts = length-own_counts d in
    let length-got = count-got drawn.round (own_counts d) drawn.drawn.legal asks in
    let length-bases = ap length drawn.bases_are in
    let images = length-map drawn.round.got (λ (own : List ℕ). slice_index own 0) in
    let one-word = ap length drawn.drawn.words in
    record {
      count = omega (arith, length-counts, length-got, length-bases, images);
      fits = λ rank low.
          let some : 1 ≤ length (own_counts d) = omega (arith, low, length-counts) in
          let kind : kind_of (asks_on 0 drawn.round.asks) ≡ Sum = ap (λ l. kind_of (asks_on 0 l)) asks ∙ (ap kind_of (asks_on-sums (own_counts d)) ∙ kind-sums (own_counts d) some) in
          let all = subst (λ l. AllByRecursion Fits (on_word 0 (entries l drawn.round.got))) asks (legal-fits drawn.round drawn.drawn.legal (omega (arith, one-word)) kind) in
          subst (λ (bs : List ℕ). slice_index bs rank + slice_index (own_counts d) rank < 2 ^ 64) (sym drawn.bases_are)
          (rank-fits 0 (own_counts d) drawn.round.got (drawn.drawn.legal.fetched ∙ ap (map length) asks) all rank (omega (arith, low, length-counts)));
    }
