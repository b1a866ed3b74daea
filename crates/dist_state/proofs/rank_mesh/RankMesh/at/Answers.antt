use Rattle.std.proofs.Common.{◌≡◌, ◌-◌, ◌<◌, ℕ, [], length, get_or, arith, ap, ◌∙◌}
use Rattle.std.proofs.lemmas.List.{get_or_read}
use Rattle.rank_defs.specs.Spread.{LocalMesh}
use Rattle.plex_chart.specs.Chart.{stratum_range}
use Rattle.dist_state.proofs.Strata.{cells_end}
use Rattle.dist_state.proofs.rank_mesh.RankMesh.at.Goals as goal

pub index-requires : goal.index-requires
index-requires c =
    let end : c.stratum.result.end ≡ c.self.inside.parts.plex.cells = c.stratum.ensures.end ∙ (ap (λ (n : ℕ). (stratum_range c.self.inside.parts.plex n).1) c.dim.ensures ∙ cells_end c.self.inside.parts.plex) in
    let cells = ap (λ (l : LocalMesh). l.diagram.cells) c.self.view_is in
    let count = ap (λ (l : LocalMesh). length l.at) c.self.view_is in
    omega (arith, end, cells, count, c.requires.from, c.requires.to)

pub returns : goal.returns
returns c =
    let end : c.stratum.result.end ≡ c.self.inside.parts.plex.cells = c.stratum.ensures.end ∙ (ap (λ (n : ℕ). (stratum_range c.self.inside.parts.plex n).1) c.dim.ensures ∙ cells_end c.self.inside.parts.plex) in
    let cells = ap (λ (l : LocalMesh). l.diagram.cells) c.self.view_is in
    let count = ap (λ (l : LocalMesh). length l.at) c.self.view_is in
    let place : c.args.p - c.stratum.result.end ≡ c.args.p - c.args.self.now.diagram.cells = omega (arith, end, cells) in
    let within : c.args.p - c.stratum.result.end < length c.self.inside.parts.at.items = omega (arith, end, cells, count, c.requires.from, c.requires.to) in
    get_or_read c.self.inside.parts.at.items (c.args.p - c.stratum.result.end) c.index.result.now within c.index.ensures []
    ∙ (ap (λ (l : LocalMesh). get_or l.at (c.args.p - c.stratum.result.end) []) c.self.view_is
    ∙ ap (λ (n : ℕ). get_or c.args.self.now.at n []) place)
