use Rattle.std.proofs.Common.{◌≡◌, ℕ, ◌<◌, ◌==◌, List, length, get_or, refl, sym, ap, ◌∙◌, subst, arith}
use Rattle.std.specs.List.{position_or_len}
use Rattle.rank_laws.specs.share_laws.Packed.{no_vertex}
use Rattle.rank_chart_laws.specs.meeting_laws.Sets.{RankChart, chart_at}
use Rattle.rank_chart_laws.specs.meeting_laws.Steps.{vertex_place, owner_at}
use Rattle.rank_chart_laws.proofs.meeting_laws.Homes.{placed-vertex}
use Rattle.rank_chart_laws.proofs.meeting_laws.Loops.{same_within, moved_there}
use Rattle.rank_chart_laws.proofs.meeting_laws.Bounds.{first-vertex, owner-of, place-from}
use Rattle.shared_forest.proofs.meeting.meeting_place.Goals as goal

pub owner-owner-requires-clause-place : goal.owner-owner-requires-clause-place
owner-owner-requires-clause-place g c = let charts : List RankChart = g.C.RankCharts.charts c.args.charts.now in
    let v : ℕ = get_or c.args.set.now 0 0 in
    let first : v ≡ get_or c.args.set.now 0 no_vertex = same_within c.args.set.now 0 0 no_vertex (omega (arith, c.requires.set.four)) in
    let has = first-vertex charts c.requires.right c.args.rank c.args.set.now v c.requires.rank c.requires.set first in
    let place : c.place_of-place.result ≡ vertex_place v (chart_at charts c.args.rank) = c.place_of-place.ensures ∙ ap (position_or_len (λ w. w == v)) c.vertices.ensures in
    subst (λ n. n < length (chart_at charts c.args.rank).vertices) (sym place) (placed-vertex (chart_at charts c.args.rank) v has).0

pub vertices-requires-2 : goal.vertices-requires-2
vertices-requires-2 g c = let charts : List RankChart = g.C.RankCharts.charts c.args.charts.now in
    let v : ℕ = get_or c.args.set.now 0 0 in
    let first : v ≡ get_or c.args.set.now 0 no_vertex = same_within c.args.set.now 0 0 no_vertex (omega (arith, c.requires.set.four)) in
    let has = first-vertex charts c.requires.right c.args.rank c.args.set.now v c.requires.rank c.requires.set first in
    let place : c.place_of-place.result ≡ vertex_place v (chart_at charts c.args.rank) = c.place_of-place.ensures ∙ ap (position_or_len (λ w. w == v)) c.vertices.ensures in
    let owner : c.owner-owner.result ≡ owner_at (chart_at charts c.args.rank) (vertex_place v (chart_at charts c.args.rank)) = c.owner-owner.ensures ∙ ap (owner_at (chart_at charts c.args.rank)) place in
    let there = owner-of charts c.requires.right c.args.rank v c.requires.rank has in
    subst (λ n. n < length charts) (sym owner) there.0

pub place_of-requires-clause-there : goal.place_of-requires-clause-there
place_of-requires-clause-there g c = let charts : List RankChart = g.C.RankCharts.charts c.args.charts.now in
    let v : ℕ = get_or c.args.set.now 0 0 in
    let first : v ≡ get_or c.args.set.now 0 no_vertex = same_within c.args.set.now 0 0 no_vertex (omega (arith, c.requires.set.four)) in
    let has = first-vertex charts c.requires.right c.args.rank c.args.set.now v c.requires.rank c.requires.set first in
    let place : c.place_of-place.result ≡ vertex_place v (chart_at charts c.args.rank) = c.place_of-place.ensures ∙ ap (position_or_len (λ w. w == v)) c.vertices.ensures in
    let owner : c.owner-owner.result ≡ owner_at (chart_at charts c.args.rank) (vertex_place v (chart_at charts c.args.rank)) = c.owner-owner.ensures ∙ ap (owner_at (chart_at charts c.args.rank)) place in
    let there = owner-of charts c.requires.right c.args.rank v c.requires.rank has in
    moved_there v v (chart_at charts (owner_at (chart_at charts c.args.rank) (vertex_place v (chart_at charts c.args.rank)))).vertices c.vertices-2.result.now refl (ap (λ q. (chart_at charts q).vertices) (sym owner) ∙ sym c.vertices-2.ensures) there.1

pub returns : goal.returns
returns g c = let charts : List RankChart = g.C.RankCharts.charts c.args.charts.now in
    let v : ℕ = get_or c.args.set.now 0 0 in
    let first : v ≡ get_or c.args.set.now 0 no_vertex = same_within c.args.set.now 0 0 no_vertex (omega (arith, c.requires.set.four)) in
    let has = first-vertex charts c.requires.right c.args.rank c.args.set.now v c.requires.rank c.requires.set first in
    let place : c.place_of-place.result ≡ vertex_place v (chart_at charts c.args.rank) = c.place_of-place.ensures ∙ ap (position_or_len (λ w. w == v)) c.vertices.ensures in
    let owner : c.owner-owner.result ≡ owner_at (chart_at charts c.args.rank) (vertex_place v (chart_at charts c.args.rank)) = c.owner-owner.ensures ∙ ap (owner_at (chart_at charts c.args.rank)) place in
    let there = owner-of charts c.requires.right c.args.rank v c.requires.rank has in
    place-from charts c.requires.right c.args.rank c.args.set.now v c.owner-owner.result c.place_of.result c.requires.rank c.requires.set first owner (c.place_of.ensures ∙ ap (position_or_len (λ w. w == v)) c.vertices-2.ensures)
