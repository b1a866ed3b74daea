use Rattle.std.proofs.Common.{◌≡◌, List, map, length, sym, ap, ◌∙◌, subst}
use Rattle.plain_lists.specs.Vectors.{lists_of}
use Rattle.sf_defs.specs.Forest.{Forest}
use Rattle.std.specs.Prelude.{IfOk}
use Rattle.rank_chart_laws.specs.meeting_laws.Sets.{RankChart}
use Rattle.rank_chart_laws.specs.meeting_laws.Steps.{joined_forest}
use Rattle.rank_chart_laws.proofs.meeting_laws.Bounds.{ids-shape}
use Rattle.rank_chart_laws.proofs.meeting_laws.Joined.{joined-forest}
use Rattle.shared_forest.proofs.forest.shared_forest.Goals as goal

pub joined_forest-requires-clause-shape : goal.joined_forest-requires-clause-shape
joined_forest-requires-clause-shape g c = ap (λ l. map length (lists_of l)) c.deref-3.ensures.value ∙ c.in_ok-met.ensures.met.shape ∙ ids-shape (g.C.RankCharts.charts c.args.charts.now) ∙ sym (ap (map length) (ap (λ l. lists_of l) c.deref-2.ensures.value ∙ c.in_ok-places.ensures))

pub returns-clause-forest : goal.returns-clause-forest
returns-clause-forest g c = let charts : List RankChart = g.C.RankCharts.charts c.args.charts.now in
    subst (λ (x : Forest). IfOk c.joined_forest.result (λ f. f ≡ x)) (ap (λ l. joined_forest charts (lists_of l)) c.deref-3.ensures.value ∙ joined-forest charts (lists_of c.in_ok-met.met.items) c.requires c.in_ok-met.ensures.met) c.joined_forest.ensures
