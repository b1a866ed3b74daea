use Rattle.std.proofs.Common.{◌≡◌, ◌<◌, [], length, get_or, ap, ◌∙◌, arith}
use Rattle.std.proofs.lemmas.List.{length-map, get_or_default}
use Rattle.rank_defs.specs.Spread.{ScatterPart}
use Rattle.interp_share.specs.rank_points.Seen.{Seen, seen_of}
use Rattle.interp_share.proofs.point_meeting.Told.{rank-low, sets-seen}
use Rattle.interp_share.proofs.point_meeting.charts.PartChartsRankCharts.sets.Goals as goal

pub bounds-self-inside-rank : goal.bounds-self-inside-rank
bounds-self-inside-rank c =
    let parts = c.self.inside.scatter.now.parts in
    let low = rank-low parts c.args.self.now c.self.view_is c.args.rank c.requires in
    let count = ap length c.self.invariant.told ∙ length-map parts (λ (part : ScatterPart). seen_of part.cells) in
    omega (arith, low, count)

pub returns : goal.returns
returns c =
    let parts = c.self.inside.scatter.now.parts in
    let seen = c.self.inside.seen.now in
    let count = ap length c.self.invariant.told ∙ length-map parts (λ (part : ScatterPart). seen_of part.cells) in
    let low : c.args.rank < length seen = omega (arith, rank-low parts c.args.self.now c.self.view_is c.args.rank c.requires, count) in
    let same : get_or seen c.args.rank c.index-self-rank.result ≡ get_or seen c.args.rank (seen_of []) = get_or_default seen c.args.rank c.index-self-rank.result (seen_of []) low in
    c.sets.ensures ∙ ap (λ (x : Seen). x.sets) same ∙ sets-seen parts c.args.self.now c.self.view_is seen c.self.invariant.told c.args.rank c.requires
