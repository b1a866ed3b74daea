use Rattle.std.proofs.Common.{◌≡◌, ◌<◌, List, length, nat_lt, sym, ap, ap₂, ◌∙◌, subst, arith}
use Rattle.rank_chart_laws.specs.meeting_laws.Sets.{RankChart, chart_at}
use Rattle.rank_chart_laws.specs.meeting_laws.Steps.{vertex_place, vertex_at, owner_at}
use Rattle.sf_defs.specs.Forest.{Forest, degree, roots_on}
use Rattle.rank_chart_laws.proofs.meeting_laws.Homes.{chart-right}
use Rattle.rank_chart_laws.proofs.meeting_laws.Copies.{copied-then, copied-else}
use Rattle.rank_chart_laws.proofs.meeting_laws.Bounds.{vertex-roots, vertex-roots_on}
use Rattle.shared_forest.proofs.Flags.{place-back}
use Rattle.shared_forest.proofs.copied.is_copied.Goals as goal

pub degree-requires-clause-rank : goal.degree-requires-clause-rank
degree-requires-clause-rank g c = let charts : List RankChart = g.C.RankCharts.charts c.args.charts.now in omega (arith, c.requires.rank, vertex-roots charts c.requires.right, ap (λ (f : Forest). length f.roots) c.requires.copies)

pub degree-requires-clause-place : goal.degree-requires-clause-place
degree-requires-clause-place g c = let charts : List RankChart = g.C.RankCharts.charts c.args.charts.now in
    subst (λ (f : Forest). c.args.place < roots_on f c.args.rank) (sym c.requires.copies) (subst (λ n. c.args.place < n) (sym (vertex-roots_on charts c.requires.right c.args.rank c.requires.rank)) c.requires.place)

pub returns-then-owner-rank : goal.returns-then-owner-rank
returns-then-owner-rank g c = let charts : List RankChart = g.C.RankCharts.charts c.args.charts.now in
    let chart : RankChart = chart_at charts c.args.rank in
    let place : c.args.place ≡ vertex_place (vertex_at chart c.args.place) chart = sym (place-back chart c.args.place (chart-right charts c.requires.right c.args.rank c.requires.rank).rising c.requires.place) in
    copied-then charts c.args.rank (vertex_at chart c.args.place) c.owner.result (sym (c.owner.ensures ∙ ap (owner_at chart) place)) c.if-owner-rank.true

pub returns-else-owner-rank : goal.returns-else-owner-rank
returns-else-owner-rank g c = let charts : List RankChart = g.C.RankCharts.charts c.args.charts.now in
    let chart : RankChart = chart_at charts c.args.rank in
    let place : c.args.place ≡ vertex_place (vertex_at chart c.args.place) chart = sym (place-back chart c.args.place (chart-right charts c.requires.right c.args.rank c.requires.rank).rising c.requires.place) in
    ap (nat_lt 0) (c.degree.ensures ∙ ap₂ (λ (f : Forest) n. degree f c.args.rank n) c.requires.copies place)
    ∙ copied-else charts c.args.rank (vertex_at chart c.args.place) c.owner.result (sym (c.owner.ensures ∙ ap (owner_at chart) place)) c.if-owner-rank.false
