use Rattle.std.proofs.Common.{◌≡◌, ℕ, ◌<◌, ◌==◌, List, [], map, length, get_or, sym, refl, ap, ◌∙◌, subst, arith}
use Rattle.std.specs.Prelude.{IfOk}
use Rattle.std.specs.List.{AllByRecursion, position_or_len}
use Rattle.std.proofs.lemmas.List.{take_all}
use Rattle.plain_lists.specs.Lists.{below}
use Rattle.plain_lists.proofs.Below.{below-all}
use Rattle.plain_lists.proofs.Each.{all_weaker, all_from, all_at, all_map}
use Rattle.plain_lists.proofs.Filters.{map_map_same}
use Rattle.plain_lists.proofs.Finding.{position-within}
use Rattle.rank_chart_laws.specs.moved_laws.Moves.{IsReordering, moved_list}
use Rattle.orient_iface.proofs.moved_points.field.moved_field.Goals as goal

-- each place came from one of the places
sources-low : (moves : List ℕ) → IsReordering moves → AllByRecursion (λ i. i < length moves) (map (λ j. position_or_len (λ k. k == j) moves) (below (length moves)))
sources-low moves order = all_map (λ i. i < length moves) (λ j. position_or_len (λ k. k == j) moves) (below (length moves))
    (all_weaker (λ j. j < length moves) (λ j. position_or_len (λ k. k == j) moves < length moves) (λ j low. position-within (λ k. k == j) moves (order.onto j low)) (below (length moves)) (below-all (length moves)))

sources-move : (moves : List ℕ) (field : List (List ℕ)) → map (λ i. get_or field i []) (map (λ j. position_or_len (λ k. k == j) moves) (below (length moves))) ≡ moved_list [] moves field
unfolding moved_list
sources-move moves field = map_map_same (λ i. get_or field i []) (λ j. position_or_len (λ k. k == j) moves) (λ j. get_or field (position_or_len (λ k. k == j) moves) []) (below (length moves))
    (all_from (λ j. get_or field (position_or_len (λ k. k == j) moves) [] ≡ get_or field (position_or_len (λ k. k == j) moves) []) (λ j. refl) (below (length moves)))

pub at-requires : goal.at-requires
at-requires c =
    let moves = c.args.moves.now in
    let items : c.deref-from-items.result.now ≡ map (λ j. position_or_len (λ k. k == j) moves) (below (length moves)) = c.deref-from-items.ensures.value ∙ c.in_ok-sources.ensures in
    let low = all_at (λ i. i < length moves) c.deref-from-items.result.now c.loop-from.from-index 0 (subst (AllByRecursion (λ i. i < length moves)) (sym items) (sources-low moves c.requires.order)) c.loop-from-test.true in
    omega (arith, low, c.requires.points)

pub returns : goal.returns
returns c =
    let moves = c.args.moves.now in
    let field = c.args.field.now in
    let items : c.deref-from-items.result.now ≡ map (λ j. position_or_len (λ k. k == j) moves) (below (length moves)) = c.deref-from-items.ensures.value ∙ c.in_ok-sources.ensures in
    let all : c.loop-from.moved ≡ moved_list [] moves field =
    c.loop-from.invariant ∙ ap (map (λ i. get_or field i [])) (take_all c.loop-from.from-index c.deref-from-items.result.now (omega (arith, c.loop-from-test.false)) ∙ items) ∙ sources-move moves field in
    subst (λ (x : List (List ℕ)). IfOk c.finish.result (λ f. f ≡ x)) all c.finish.ensures
