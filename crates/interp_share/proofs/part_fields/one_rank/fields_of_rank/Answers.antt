use Rattle.std.proofs.Common.{◌≤◌, length, sym, ap, subst, arith}
use Rattle.mesh_laws.proofs.Firsts.{firsts-length}
use Rattle.rank_defs.specs.Spread.{ScatterPart}
use Rattle.local_points.specs.Cells.{faces_seen, edges_seen}
use Rattle.local_points.proofs.Ends.{length-edges_seen}
use Rattle.local_points.proofs.Solids.{length-faces_seen}
use Rattle.dist_state.specs.scatter_state.Whole.{part_at}
use Rattle.interp_share.specs.declared.rank_fields.sizes.ChartSizes.{ChartSizes}
use Rattle.interp_share.proofs.own_field_laws.Given.{cells-few, vertices-few-here}
use Rattle.interp_share.proofs.part_fields.Scatters.{part-of}
use Rattle.interp_share.proofs.part_fields.one_rank.fields_of_rank.Goals as goal

pub sizes_of-sizes-requires-clause-cells : goal.sizes_of-sizes-requires-clause-cells
sizes_of-sizes-requires-clause-cells c =
    let h = c.requires.scatter in
    let s = c.args.scatter.now in
    let r = c.args.rank in
    subst (λ (p : ScatterPart). length p.cells ≤ 250000) (sym c.part-part.ensures.part) (cells-few (part_at s.parts r) h.m h.a h.n r (part-of s h.m h.dofs h.a h.n h.is r c.requires.rank))

pub sizes_of-sizes-requires-clause-vertices : goal.sizes_of-sizes-requires-clause-vertices
sizes_of-sizes-requires-clause-vertices c =
    let h = c.requires.scatter in
    let s = c.args.scatter.now in
    let r = c.args.rank in
    subst (λ (p : ScatterPart). length p.vertices ≤ 2000000) (sym c.part-part.ensures.part) (vertices-few-here (part_at s.parts r) h.m h.a h.n r (part-of s h.m h.dofs h.a h.n h.is r c.requires.rank))

pub push_data-requires-clause-few : goal.push_data-requires-clause-few
push_data-requires-clause-few c =
    let h = c.requires.scatter in
    let s = c.args.scatter.now in
    let r = c.args.rank in
    let part = c.part-part.result.now in
    let is = part-of s h.m h.dofs h.a h.n h.is r c.requires.rank in
    let cells : length part.cells ≤ 250000 = subst (λ (p : ScatterPart). length p.cells ≤ 250000) (sym c.part-part.ensures.part) (cells-few (part_at s.parts r) h.m h.a h.n r is) in
    let vertices : length part.vertices ≤ 2000000 = subst (λ (p : ScatterPart). length p.vertices ≤ 2000000) (sym c.part-part.ensures.part) (vertices-few-here (part_at s.parts r) h.m h.a h.n r is) in
    omega (
      arith,
      cells,
      vertices,
      ap (λ (z : ChartSizes). z.cells) c.sizes_of-sizes.ensures,
      ap (λ (z : ChartSizes). z.vertices) c.sizes_of-sizes.ensures,
      ap (λ (z : ChartSizes). z.faces) c.sizes_of-sizes.ensures,
      ap (λ (z : ChartSizes). z.edges) c.sizes_of-sizes.ensures,
      firsts-length (faces_seen part.cells),
      length-faces_seen part.cells,
      firsts-length (edges_seen part.cells),
      length-edges_seen part.cells,
    )
