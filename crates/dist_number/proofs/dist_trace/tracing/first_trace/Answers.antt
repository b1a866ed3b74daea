use Rattle.std.proofs.Common.{◌<◌, ◌≤◌, ◌^◌, length, subst, sym, ap, ◌∙◌}
use Rattle.std.specs.Prelude.{sum}
use Rattle.std.specs.List.{enumerate_from}
use Rattle.std.proofs.lemmas.List.{length-map}
use Rattle.std.proofs.lemmas.List.FromFn.{length-enumerate_from}
use Rattle.sf_defs.specs.Forest.{Forest}
use Rattle.sf_graph.specs.Parts.{forest_of}
use Rattle.dist_number.specs.dist_trace.Own.{own_list}
use Rattle.dist_number.proofs.dist_trace.Traces.{trace-is}
use Rattle.dist_number.proofs.dist_trace.tracing.first_trace.Goals as goal

pub new-requires : goal.new-requires
new-requires c =
    let locals = c.args.d.now.locals in
    let roots = c.in_ok-roots.ensures.roots ∙ ap (λ (f : Forest). f.roots) c.points.ensures in
    let for_ranks = c.ranks-ranks.ensures.for_ranks in
    record {
      ranks = ap length c.in_ok-leaves.ensures.lists ∙ length-map (enumerate_from 0 locals) own_list ∙ length-enumerate_from 0 locals ∙ c.ranks-ranks.ensures.whole.ranks ∙ ap length (sym roots);
      some_rank = subst (λ l. 1 ≤ length l) (sym roots) for_ranks.some_rank;
      few_ranks = subst (λ l. length l ≤ 64) (sym roots) for_ranks.few_ranks;
      few_roots = subst (λ l. sum l < 2 ^ 32) (sym roots) for_ranks.few_roots;
      few_leaves = c.in_ok-leaves.ensures.few;
    }

pub returns-in-Ok : goal.returns-in-Ok
returns-in-Ok c m dofs a n h =
    let roots = c.in_ok-roots.ensures.roots ∙ ap (λ (f : Forest). f.roots) c.points.ensures in
    let lists = c.in_ok-leaves.ensures.lists in
    c.in-Ok.ensures.ok ∙ (λ i. forest_of (roots i) (lists i)) ∙ trace-is c.args.d.now m dofs a n h
