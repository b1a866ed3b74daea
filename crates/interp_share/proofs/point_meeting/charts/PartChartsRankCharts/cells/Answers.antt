use Rattle.std.proofs.Common.{◌≡◌, ◌^◌, ◌<◌, [], length, ap, ◌∙◌}
use Rattle.std.proofs.lemmas.List.{length-map}
use Rattle.plain_lists.proofs.Each.{all_at}
use Rattle.rank_defs.specs.Spread.{ScatterPart}
use Rattle.rank_chart_laws.specs.meeting_laws.Sets.{RankChart}
use Rattle.dist_state.specs.scatter_state.Parts.{number_of}
use Rattle.dist_state.specs.scatter_state.Whole.{part_at}
use Rattle.interp_share.proofs.point_meeting.Told.{rank-low, chart-seen}
use Rattle.interp_share.proofs.point_meeting.charts.PartChartsRankCharts.cells.Goals as goal

pub cells-requires : goal.cells-requires
cells-requires c = rank-low c.self.inside.scatter.now.parts c.args.self.now c.self.view_is c.args.rank c.requires

pub returns : goal.returns
returns c =
    let parts = c.self.inside.scatter.now.parts in
    let low = rank-low parts c.args.self.now c.self.view_is c.args.rank c.requires in
    let few = all_at (λ (part : ScatterPart). length part.cells < 2 ^ 32) parts c.args.rank (part_at [] 0) c.self.invariant.few low in
    let many : length c.cells.result.now ≡ length (part_at parts c.args.rank).cells = ap length c.cells.ensures.cells ∙ length-map (part_at parts c.args.rank).cells number_of in
    many ∙ ap (λ (d : RankChart). d.cells) (chart-seen parts c.args.self.now c.self.view_is c.args.rank c.requires)
