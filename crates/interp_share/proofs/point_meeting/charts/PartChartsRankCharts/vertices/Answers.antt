use Rattle.std.proofs.Common.{ap, ◌∙◌}
use Rattle.rank_chart_laws.specs.meeting_laws.Sets.{RankChart}
use Rattle.interp_share.proofs.point_meeting.Told.{rank-low, chart-seen}
use Rattle.interp_share.proofs.point_meeting.charts.PartChartsRankCharts.vertices.Goals as goal

pub vertices-requires : goal.vertices-requires
vertices-requires c = rank-low c.self.inside.scatter.now.parts c.args.self.now c.self.view_is c.args.rank c.requires

pub returns : goal.returns
returns c = c.vertices.ensures ∙ ap (λ (d : RankChart). d.vertices) (chart-seen c.self.inside.scatter.now.parts c.args.self.now c.self.view_is c.args.rank c.requires)
