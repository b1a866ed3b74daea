use Rattle.std.proofs.Common.{◌≡◌, ℕ, ◌+◌, ◌-◌, ◌<◌, ◌≤◌, [], List, length, get_or, map, IsPermutation, arith, sym, ap, subst, ◌∙◌, ⊎_elim}
use Rattle.std.proofs.lemmas.Bool.{cases_lt}
use Rattle.std.proofs.lemmas.List.{length-map, get_or_past}
use Rattle.std.proofs.lemmas.List.Elements.{All-from_recursion, recursion_from_All}
use Rattle.std.proofs.lemmas.List.Sorted.{All-permutation}
use Rattle.std.specs.List.{AllByRecursion}
use Rattle.sf_fabric.specs.declared.orders.place.Place.{Place}
use Rattle.sf_fabric.specs.orders.Places.{IsByWord, below_word, places_of, turn_at}
use Rattle.sf_fabric.proofs.orders.ByWord.{below-zero, below-rises, below-whole}
use Rattle.sf_fabric.proofs.orders.Entered.{places-all}
use Rattle.sf_fabric.proofs.orders.Sorted.{sorted-by_word}
use Rattle.sf_fabric.proofs.orders.PrintedWords.{cut-printed}
use Rattle.sf_fabric.proofs.orders.orders.printed_orders.Goals as goal

pub firsts_of-requires-clause-sorted : goal.firsts_of-requires-clause-sorted
firsts_of-requires-clause-sorted c = subst IsByWord (sym c.deref.ensures.value) (sorted-by_word c.sort_unstable.new.self.items c.sort_unstable.ensures.sorted)

pub new-requires : goal.new-requires
new-requires c =
    let ps : List Place = c.sort_unstable.new.self.items in
    let names : c.in_ok-turns.turns.items ≡ map turn_at ps = c.in_ok-turns.ensures ∙ ap (map turn_at) c.deref-2.ensures.value in
    let size : length c.in_ok-turns.turns.items ≡ length ps = ap length names ∙ length-map ps turn_at in
    let count : length c.in_ok-firsts.firsts.items ≡ length c.args.words.now + 1 = c.in_ok-firsts.ensures.length in
    let firsts : (w : ℕ) → w ≤ length c.args.words.now → get_or c.in_ok-firsts.firsts.items w 0 ≡ below_word w ps = λ w le. c.in_ok-firsts.ensures.firsts w le ∙ ap (below_word w) c.deref.ensures.value in
    let moved : IsPermutation (places_of c.args.words.now c.args.asks.now c.args.got.now) ps = subst (λ l. IsPermutation l ps) c.in_ok-places.ensures.places c.sort_unstable.ensures.permutation in
    let words : AllByRecursion (λ (p : Place). p.word < length c.args.words.now) ps =
    recursion_from_All (λ (p : Place). p.word < length c.args.words.now) ps
    (All-permutation (λ (p : Place). p.word < length c.args.words.now) (places_of c.args.words.now c.args.asks.now c.args.got.now) ps moved
    (All-from_recursion (λ (p : Place). p.word < length c.args.words.now) (places_of c.args.words.now c.args.asks.now c.args.got.now)
    (places-all (λ w. w < length c.args.words.now) c.args.words.now c.args.asks.now c.args.got.now c.requires.fetched c.requires.in_range))) in
    let last : length c.in_ok-firsts.firsts.items - 1 ≡ length c.args.words.now = omega arith in
    record {
      some = omega arith;
      begins = firsts 0 (omega arith) ∙ below-zero ps;
      rising = λ k lt. let rises = below-rises k ps in let here = firsts k (omega arith) in let next = firsts (k + 1) (omega arith) in omega arith;
      ends = ap (λ n. get_or c.in_ok-firsts.firsts.items n 0) last ∙ firsts (length c.args.words.now) (omega arith) ∙ below-whole (length c.args.words.now) ps words ∙ sym size;
    }

pub returns : goal.returns
returns c =
    let ps : List Place = c.sort_unstable.new.self.items in
    let names : c.in_ok-turns.turns.items ≡ map turn_at ps = c.in_ok-turns.ensures ∙ ap (map turn_at) c.deref-2.ensures.value in
    let firsts : (w : ℕ) → w ≤ length c.args.words.now → get_or c.in_ok-firsts.firsts.items w 0 ≡ below_word w ps = λ w le. c.in_ok-firsts.ensures.firsts w le ∙ ap (below_word w) c.deref.ensures.value in
    let moved : IsPermutation (places_of c.args.words.now c.args.asks.now c.args.got.now) ps = subst (λ l. IsPermutation l ps) c.in_ok-places.ensures.places c.sort_unstable.ensures.permutation in
    let small : (rank k : ℕ) → get_or (get_or c.args.got.now rank []) k 0 ≤ 18446744073709551615 = λ rank k. ⊎_elim
    (λ lt. let less = c.in_ok-places.ensures.small rank k lt in omega arith)
    (λ ge. let none : get_or (get_or c.args.got.now rank []) k 0 ≡ 0 = ap (λ (l : List ℕ). get_or l k 0) (get_or_past c.args.got.now rank [] (omega arith)) in omega arith)
    (cases_lt rank (length c.args.got.now)) in
    c.new.ensures ∙ cut-printed c.args.words.now c.args.asks.now c.args.got.now ps c.requires.fetched small moved c.sort_unstable.ensures.sorted c.in_ok-turns.turns.items c.in_ok-firsts.firsts.items names c.in_ok-firsts.ensures.length firsts
