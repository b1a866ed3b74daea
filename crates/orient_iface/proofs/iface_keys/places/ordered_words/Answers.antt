use Rattle.std.proofs.Common.{◌≡◌, ℕ, List, [], map, length, get_or, sym, subst, arith, rules}
use Rattle.std.specs.Prelude.{IsPermutation}
use Rattle.std.specs.List.Sorted.{IsNonDecreasingBy}
use Rattle.std.proofs.lemmas.List.Sorted.{IsNonDecreasingBy-from_sort_by_key}
use Rattle.rank_chart_laws.proofs.meeting_laws.Loops.{mapped_all}
use Rattle.rank_chart_laws.specs.key_laws.Places.{set_number, words_among, AreInOrder}
use Rattle.rank_chart_laws.specs.key_laws.Words.{part}
use Rattle.orient_iface.proofs.iface_keys.Steps.{ordered}
use Rattle.orient_iface.proofs.iface_keys.places.ordered_words.Goals as goal

pub returns : goal.returns
returns c =
    let sets : List (List ℕ) = (part c.args.shared.now c.args.rank).sets in
    let among : List ℕ = words_among c.args.shared.now.forest c.args.rank c.args.first c.args.count in
    let sorted : List (ℕ × ℕ) = c.deref-word-items.result.now in
    let same : IsPermutation (map {B = ℕ × ℕ} (λ i. (set_number (get_or sets i []), i)) among) sorted = subst (IsPermutation (map {B = ℕ × ℕ} (λ i. (set_number (get_or sets i []), i)) among)) (sym c.deref-word-items.ensures.value) (subst (λ l. IsPermutation l c.sort_unstable_by_key.new.self.items) c.in_ok-words.ensures c.sort_unstable_by_key.ensures.permutation) in
    let up : IsNonDecreasingBy (λ (w : ℕ × ℕ). w.0) sorted = subst (IsNonDecreasingBy (λ (w : ℕ × ℕ). w.0)) (sym c.deref-word-items.ensures.value) (IsNonDecreasingBy-from_sort_by_key (λ (w : ℕ × ℕ). w.0) _ c.sort_unstable_by_key.ensures.sorted (λ a r q k. search rules)) in
    let end : c.loop-word.word-index ≡ length sorted = omega arith in
    subst (AreInOrder sets among) (sym (mapped_all (λ (w : ℕ × ℕ). w.1) sorted c.loop-word.word-index c.loop-word.places.items c.loop-word.invariant end)) (ordered sets among sorted same up)
