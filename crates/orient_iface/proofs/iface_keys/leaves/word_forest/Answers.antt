use Rattle.std.proofs.Common.{◌≡◌, ℕ, ◌+◌, ◌^◌, ◌<◌, List, [], ◌∷◌, length, get_or, Vec, Global, ap, sym, subst, ◌∙◌, arith}
use Rattle.std.specs.Prelude.{IsPermutation}
use Rattle.std.specs.List.{AllByRecursion}
use Rattle.std.specs.List.Sorted.{IsNonDecreasingBy}
use Rattle.std.proofs.lemmas.List.{length-append}
use Rattle.plain_lists.specs.Vectors.{lists_of}
use Rattle.plain_lists.proofs.Each.{all_at}
use Rattle.rank_chart_laws.proofs.meeting_laws.Loops.{list_at}
use Rattle.sf_defs.specs.declared.Leaf.{Leaf}
use Rattle.sf_defs.specs.Forest.{Forest}
use Rattle.sf_graph.specs.Parts.{forest_of, IsForRanks}
use Rattle.sf_ops.proofs.Words.{length-lists_of}
use Rattle.rank_chart_laws.specs.key_laws.Words.{leaf_number, leaves_found, IsWordForest}
use Rattle.rank_chart_laws.proofs.key_laws.Rising.{all-places}
use Rattle.orient_iface.proofs.iface_keys.Bounds.{count-is, entry-long, points-low, words-short, fits}
use Rattle.orient_iface.proofs.iface_keys.Steps.{if-ok, next-list}
use Rattle.orient_iface.proofs.iface_keys.leaves.word_forest.Goals as goal

pub lengths-requires : goal.lengths-requires
lengths-requires c = all-places (λ (list : List ℕ). length list < 2 ^ 32) (lists_of c.args.places.now) [] (λ r low.
    let here : r < length c.args.shared.now.parts = omega (arith, low, c.requires.words.ranks) in
    let short = words-short c.args.shared.now c.requires.laid_out r here (get_or (lists_of c.args.places.now) r []) (c.requires.words.each r here) in
    let few = points-low c.args.shared.now c.requires.laid_out c.for_ranks.ensures r here in
    omega (arith, short, few))

pub word_leaves-requires-clause-shape : goal.word_leaves-requires-clause-shape
word_leaves-requires-clause-shape c =
    let rank : ℕ = c.loop-rank.rank in
    let here : rank < length c.args.shared.now.parts = omega (arith, c.loop-rank-test.true, c.ranks-rank-end.ensures.ranks) in
    let count = count-is c.args.shared.now c.requires.laid_out (lists_of c.args.numbers.now) c.requires.shape in
    let own = list_at c.args.numbers.now rank c.index-numbers-rank.result (omega (arith, here, count, length-lists_of c.args.numbers.now)) in
    ap length (c.deref.ensures.value ∙ (ap (λ (v : Vec ℕ Global). v.items) c.index-numbers-rank.is ∙ sym own)) ∙ entry-long c.args.shared.now c.requires.laid_out (lists_of c.args.numbers.now) c.requires.shape rank here

pub word_leaves-requires-clause-small : goal.word_leaves-requires-clause-small
word_leaves-requires-clause-small c =
    let rank : ℕ = c.loop-rank.rank in
    let here : rank < length c.args.shared.now.parts = omega (arith, c.loop-rank-test.true, c.ranks-rank-end.ensures.ranks) in
    let count = count-is c.args.shared.now c.requires.laid_out (lists_of c.args.numbers.now) c.requires.shape in
    let own = list_at c.args.numbers.now rank c.index-numbers-rank.result (omega (arith, here, count, length-lists_of c.args.numbers.now)) in
    subst (AllByRecursion (λ w. w < 2 ^ 32)) (sym (c.deref.ensures.value ∙ (ap (λ (v : Vec ℕ Global). v.items) c.index-numbers-rank.is ∙ sym own))) (all_at (AllByRecursion (λ w. w < 2 ^ 32)) (lists_of c.args.numbers.now) rank [] c.requires.small (omega (arith, here, count)))

pub loop-rank-preserved : goal.loop-rank-preserved
loop-rank-preserved c =
    let rank : ℕ = c.loop-rank.rank in
    let here : rank < length c.args.shared.now.parts = omega (arith, c.loop-rank-test.true, c.ranks-rank-end.ensures.ranks) in
    let count = count-is c.args.shared.now c.requires.laid_out (lists_of c.args.numbers.now) c.requires.shape in
    let own = list_at c.args.numbers.now rank c.index-numbers-rank.result (omega (arith, here, count, length-lists_of c.args.numbers.now)) in
    let numbers : c.deref.result.now ≡ get_or (lists_of c.args.numbers.now) rank [] = c.deref.ensures.value ∙ (ap (λ (v : Vec ℕ Global). v.items) c.index-numbers-rank.is ∙ sym own) in
    record {
      ranks = ap length c.in_ok-push.ensures.items ∙ (length-append c.loop-rank.leaves.items (c.in_ok-word_leaves.field-0 ∷ []) ∙ ap (λ k. k + 1) c.loop-rank.invariant.ranks);
      same = next-list (λ r ls. IsPermutation (leaves_found c.args.shared.now r (get_or (lists_of c.args.numbers.now) r [])) ls) c.loop-rank.leaves.items c.in_ok-word_leaves.field-0 c.push.new.self.items rank c.in_ok-push.ensures.items c.loop-rank.invariant.ranks c.loop-rank.invariant.same (subst (λ ns. IsPermutation (leaves_found c.args.shared.now rank ns) c.in_ok-word_leaves.field-0.items) numbers c.in_ok-word_leaves.ensures.same);
      rising = next-list (λ r ls. IsNonDecreasingBy leaf_number ls) c.loop-rank.leaves.items c.in_ok-word_leaves.field-0 c.push.new.self.items rank c.in_ok-push.ensures.items c.loop-rank.invariant.ranks c.loop-rank.invariant.rising c.in_ok-word_leaves.ensures.rising;
    }

pub made_of-requires : goal.made_of-requires
made_of-requires c =
    let end : c.loop-rank.rank ≡ length c.args.shared.now.parts = omega (arith, c.ranks-rank-end.ensures.ranks, c.loop-rank-test.false, c.loop-rank.auto.rank-end) in
    let leaves : List (List Leaf) = lists_of c.loop-rank.leaves.items in
    subst (λ roots. IsForRanks (record { roots = roots; leaves = leaves })) (sym c.in_ok-roots.ensures)
    (fits c.args.shared.now c.requires.laid_out c.for_ranks.ensures (lists_of c.args.places.now) (lists_of c.args.numbers.now) c.requires.words leaves (length-lists_of c.loop-rank.leaves.items ∙ (c.loop-rank.invariant.ranks ∙ end)) (λ r low. c.loop-rank.invariant.same r (omega (arith, low, end))))

pub returns : goal.returns
returns c =
    let end : c.loop-rank.rank ≡ length c.args.shared.now.parts = omega (arith, c.ranks-rank-end.ensures.ranks, c.loop-rank-test.false, c.loop-rank.auto.rank-end) in
    let places : List (List ℕ) = lists_of c.args.places.now in
    let numbers : List (List ℕ) = lists_of c.args.numbers.now in
    let f : Forest = forest_of c.in_ok-roots.roots.items (lists_of c.loop-rank.leaves.items) in
    let made : IsWordForest c.args.shared.now places numbers f = record {
      roots = c.in_ok-roots.ensures;
      ranks = length-lists_of c.loop-rank.leaves.items ∙ (c.loop-rank.invariant.ranks ∙ end);
      same = λ r low. c.loop-rank.invariant.same r (omega (arith, low, end));
      rising = λ r low. c.loop-rank.invariant.rising r (omega (arith, low, end));
    } in
    if-ok (λ t. t ≡ f) (IsWordForest c.args.shared.now places numbers) c.made_of.result (λ t is. subst (IsWordForest c.args.shared.now places numbers) (sym is) made) c.made_of.ensures
