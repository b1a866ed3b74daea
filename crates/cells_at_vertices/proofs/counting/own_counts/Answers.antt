use Rattle.std.proofs.Common.{ℕ, ◌+◌, List, ◌∷◌, [], Vec, Global, ap, sym, subst, ◌∙◌}
use Rattle.std.proofs.lemmas.List.{map-append}
use Rattle.plain_lists.specs.Vectors.{lists_of}
use Rattle.plex_chart.specs.Chart.{IsPlex}
use Rattle.cells_at_vertices.specs.Own.{closure_counts, AreOwnCounts}
use Rattle.cells_at_vertices.proofs.Ranks.{own-more}
use Rattle.cells_at_vertices.proofs.counting.own_counts.Goals as goal

pub loop-rank-preserved : goal.loop-rank-preserved
loop-rank-preserved c =
    let locals = c.args.dist.now.locals in
    let r = c.loop-rank.rank in
    let own = c.in_ok-count_cells.field-0 in
    let same = c.plex.ensures.plex in
    let more = own-more locals r c.local.result.now own.items (lists_of c.loop-rank.counts.items) c.local.ensures (subst IsPlex same c.count_cells.ensures.whole) (c.in_ok-count_cells.ensures.counts ∙ ap closure_counts same) c.loop-rank.invariant in
    subst (λ (l : List (List ℕ)). AreOwnCounts locals (r + 1) l) (sym (ap (λ l. lists_of l) c.in_ok-push.ensures.items ∙ map-append (λ (v : Vec ℕ Global). v.items) c.loop-rank.counts.items (own ∷ []))) more
