use Rattle.std.proofs.Common.{◌∙◌}
use Rattle.interp_share.proofs.point_meeting.Told.{ranks-same}
use Rattle.interp_share.proofs.point_meeting.charts.PartChartsRankCharts.ranks.Goals as goal

pub returns : goal.returns
returns c = c.ranks.ensures.ranks ∙ ranks-same c.self.inside.scatter.now.parts c.args.self.now c.self.view_is
