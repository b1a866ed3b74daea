use Rattle.std.proofs.Common.{◌≡◌, ◌≤◌, List, ◌++◌, ℕ, length, drop, replicate, ap₂, ◌∙◌}
use Rattle.std.proofs.lemmas.List.{drop-replicate}
use Rattle.plain_lists.specs.Lists.{sorted}
use Rattle.input_laws.proofs.place_laws.Sorting.{sorted-unique}
use Rattle.rank_chart_laws.specs.mark_laws.Sets.{no_vertex, filled}
use Rattle.interp_share.proofs.part_labels.cells.set_on.Goals as goal

-- vertices put over the first of eight numbers
filled-put : (vs new : List ℕ) → length vs ≤ 8 → new ≡ vs → sorted (new ++ drop (length vs) (replicate 8 no_vertex)) ≡ filled vs
unfolding filled
filled-put vs new few same = ap₂ (λ a b. sorted (a ++ b)) same (drop-replicate (length vs) 8 no_vertex)

pub returns : goal.returns
returns c = sorted-unique _ c.sort_unstable.new.self c.sort_unstable.ensures.permutation c.sort_unstable.ensures.sorted ∙ filled-put c.args.vertices.now c.copy_from_slice.new.self c.requires c.copy_from_slice.ensures.after
