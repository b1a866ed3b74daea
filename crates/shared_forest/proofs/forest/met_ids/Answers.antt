use Rattle.std.proofs.Common.{ℕ, List, sym, ap, ◌∙◌, subst}
use Rattle.plain_lists.specs.Vectors.{lists_of}
use Rattle.sf_defs.specs.Forest.{Forest}
use Rattle.sf_defs.specs.meeting.Meeting.{HaveKeys}
use Rattle.sf_ops.specs.Asked.{CoverLeaves}
use Rattle.rank_chart_laws.specs.meeting_laws.Sets.{RankChart}
use Rattle.rank_chart_laws.specs.meeting_laws.Steps.{meeting_forest}
use Rattle.rank_chart_laws.proofs.meeting_laws.Bounds.{keys-there, ids-there}
use Rattle.shared_forest.proofs.forest.met_ids.Goals as goal

pub meet-requires-clause-keys : goal.meet-requires-clause-keys
meet-requires-clause-keys g c = let charts : List RankChart = g.C.RankCharts.charts c.args.charts.now in
    subst (λ (f : Forest). HaveKeys f (lists_of c.deref.result.now)) (sym c.in_ok-forest.ensures) (subst (λ (k : List (List (List ℕ))). HaveKeys (meeting_forest charts) k) (sym (ap (λ l. lists_of l) c.deref.ensures.value ∙ c.in_ok-keys.ensures)) (keys-there charts c.requires.right))

pub meet-requires-clause-ids : goal.meet-requires-clause-ids
meet-requires-clause-ids g c = let charts : List RankChart = g.C.RankCharts.charts c.args.charts.now in
    subst (λ (f : Forest). CoverLeaves f (lists_of c.deref-2.result.now)) (sym c.in_ok-forest.ensures) (subst (λ (k : List (List ℕ)). CoverLeaves (meeting_forest charts) k) (sym (ap (λ l. lists_of l) c.deref-2.ensures.value ∙ c.in_ok-ids.ensures)) (ids-there charts c.requires.right))
