use Rattle.std.proofs.Common.{◌≡◌, length, [], get_or, pos, ap, sym, ◌∙◌, ◌<◌, arith, rules, w32}
use Rattle.std.proofs.lemmas.List.{get_or_read}
use Rattle.std.proofs.lemmas.Int.{to_z-of_z}
use Rattle.plex_base.specs.Dim.{dim_number}
use Rattle.rank_defs.specs.Spread.{ScatterPart}
use Rattle.mesh_defs.specs.Mesh.{Mark}
use Rattle.dist_state.specs.scatter_state.Parts.{mark_at}
use Rattle.dist_state.proofs.scatter_state.Given.{length-marks_of, marks_of-at}
use Rattle.dist_state.proofs.scatter_state.rank_part.RankPart.mark.Goals as goal

pub index-head-requires : goal.index-head-requires
index-head-requires c =
    let lists = c.self.inside.lists in
    let count = length-marks_of lists.marks.items lists.mark_vertices c.self.invariant.mark_vertices in
    let view = ap (λ (p : ScatterPart). length p.marks) c.self.view_is in
    omega (arith, count, view, c.requires, lists.marks.ok.0)

pub list-requires : goal.list-requires
list-requires c =
    let lists = c.self.inside.lists in
    let count = length-marks_of lists.marks.items lists.mark_vertices c.self.invariant.mark_vertices in
    let view = ap (λ (p : ScatterPart). length p.marks) c.self.view_is in
    omega (arith, count, view, c.requires, c.self.invariant.mark_vertices)

pub returns : goal.returns
returns c =
    let lists = c.self.inside.lists in
    let count = length-marks_of lists.marks.items lists.mark_vertices c.self.invariant.mark_vertices in
    let view = ap (λ (p : ScatterPart). length p.marks) c.self.view_is in
    let head = c.index-head.result.now in
    let low : c.args.i < length lists.marks.items = omega (arith, count, view, c.requires) in
    sym (ap (λ (p : ScatterPart). mark_at p.marks c.args.i) c.self.view_is)
    ∙ marks_of-at lists.marks.items lists.mark_vertices c.args.i head (record { dim = 0; vertices = []; value = pos 0 }) c.self.invariant.mark_vertices low
    ∙ (λ j. record { dim = dim_number (sym c.index-head.ensures j).dim; vertices = sym c.list.ensures j; value = (sym c.index-head.ensures j).value })
    ∙ ap (λ v. record { dim = dim_number head.dim; vertices = c.list.result.now; value = v }) (sym (to_z-of_z w32 head.value (search rules)))
