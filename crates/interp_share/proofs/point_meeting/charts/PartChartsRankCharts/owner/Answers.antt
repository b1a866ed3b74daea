use Rattle.std.proofs.Common.{◌<◌, length, get_or, sym, ap, ◌∙◌, subst}
use Rattle.rank_defs.specs.Spread.{ScatterPart}
use Rattle.rank_chart_laws.specs.meeting_laws.Sets.{RankChart}
use Rattle.interp_share.proofs.point_meeting.Told.{rank-low, chart-seen}
use Rattle.interp_share.proofs.point_meeting.charts.PartChartsRankCharts.owner.Goals as goal

pub part-requires : goal.part-requires
part-requires c = rank-low c.self.inside.scatter.now.parts c.args.self.now c.self.view_is c.args.rank c.requires.rank

pub owner-requires : goal.owner-requires
owner-requires c =
    let same = ap (λ (d : RankChart). d.vertices) (chart-seen c.self.inside.scatter.now.parts c.args.self.now c.self.view_is c.args.rank c.requires.rank) in
    subst (λ vs. c.args.i < length vs) (sym same ∙ ap (λ (p : ScatterPart). p.vertices) (sym c.part.ensures.part)) c.requires.place

pub returns : goal.returns
returns c =
    c.owner.ensures
    ∙ ap (λ (p : ScatterPart). get_or p.owners c.args.i 0) c.part.ensures.part
    ∙ ap (λ (d : RankChart). get_or d.owners c.args.i 0) (chart-seen c.self.inside.scatter.now.parts c.args.self.now c.self.view_is c.args.rank c.requires.rank)
