use Rattle.std.proofs.Common.{◌≡◌, ◌<◌, map, length, slice_index, ap, sym, subst, ◌∙◌}
use Rattle.std.specs.List.{AllByRecursion}
use Rattle.mesh_defs.specs.Mesh.{Section}
use Rattle.plex_defs.specs.Fields.{row_values}
use Rattle.rank_defs.specs.Ranks.{assigned}
use Rattle.rank_defs.specs.Spread.{ScatterPart, coordinates_of}
use Rattle.dist_state.specs.scatter_state.Parts.{cells_of, marks_of, given_rows}
use Rattle.dist_seed.proofs.rank_cells.Placed.{cells-placed}
use Rattle.dist_seed.specs.section_rows.Last.{numbers_on}
use Rattle.headline_laws.specs.seed_laws.Given.{marks_on_cells}
use Rattle.dist_seed.proofs.Assembled.{are-cells, few-cells, own-vertices, low-vertices, cells-held, vertices-held, owners-there, length-owners, numbers-of_cells, assembled}
use Rattle.dist_seed.proofs.parts.part_of.Goals as goal

pub rank_marks-requires-clause-cells : goal.rank_marks-requires-clause-cells
rank_marks-requires-clause-cells g c κs within = are-cells c.args.from.now.mesh.now c.args.from.now.ranks.now c.args.rank c.args.own c.requires.held

pub rank_marks-requires-clause-vertices : goal.rank_marks-requires-clause-vertices
rank_marks-requires-clause-vertices g c κs within = own-vertices c.args.from.now.mesh.now c.args.from.now.ranks.now c.args.rank c.args.own c.requires.held

pub rank_marks-requires-clause-few : goal.rank_marks-requires-clause-few
rank_marks-requires-clause-few g c κs within = few-cells c.args.from.now.mesh.now c.args.from.now.ranks.now c.args.rank c.args.own c.requires.held c.dim-dim.ensures.right

pub owners_at-requires : goal.owners_at-requires
owners_at-requires g c =
    let m = c.args.from.now.mesh.now in
    let a = c.args.from.now.ranks.now in
    let own = c.args.own in
    let low = low-vertices m a c.args.rank own c.requires.held in
    let are : c.deref.result.now ≡ own.vertices = c.deref.ensures.value ∙ c.into_lists-lists.ensures.vertices in
    subst (λ n. AllByRecursion (λ v. v < n) c.deref.result.now) (sym (length-owners m a c.args.from.now.owners.now c.requires.owners)) (subst (AllByRecursion (λ v. v < length m.at)) (sym are) low)

pub coordinates_of-requires : goal.coordinates_of-requires
coordinates_of-requires g c =
    let m = c.args.from.now.mesh.now in
    subst (AllByRecursion (λ v. v < length m.at)) (sym (c.deref-2.ensures.value ∙ c.into_lists-lists.ensures.vertices)) (low-vertices m c.args.from.now.ranks.now c.args.rank c.args.own c.requires.held)

pub rows_of-requires-clause-vertices : goal.rows_of-requires-clause-vertices
rows_of-requires-clause-vertices g c =
    let m = c.args.from.now.mesh.now in
    subst (AllByRecursion (λ v. v < length m.at)) (sym (c.deref-4.ensures.value ∙ c.into_lists-lists.ensures.vertices)) (low-vertices m c.args.from.now.ranks.now c.args.rank c.args.own c.requires.held)

pub rows_of-requires-clause-cells : goal.rows_of-requires-clause-cells
rows_of-requires-clause-cells g c =
    let m = c.args.from.now.mesh.now in
    let a = c.args.from.now.ranks.now in
    let r = c.args.rank in
    let lists = c.into_lists-lists.result in
    let numbers = numbers-of_cells (assigned m a r) lists.cells.items lists.polys.items lists.corners c.into_lists-lists.ensures.full (c.into_lists-lists.ensures.cells ∙ cells-held m a r c.args.own c.requires.held) in
    subst (AllByRecursion (λ n. n < length m.cells)) (sym (c.deref-3.ensures.value ∙ numbers)) (cells-placed m a r)

pub returns : goal.returns
returns g c =
    let m = c.args.from.now.mesh.now in
    let a = c.args.from.now.ranks.now in
    let r = c.args.rank in
    let own = c.args.own in
    let lists = c.into_lists-lists.result in
    let kept = c.in_ok-marks.marks in
    let p : ScatterPart = record {
      cells = cells_of lists.cells.items lists.polys.items lists.corners;
      vertices = lists.vertices.items;
      owners = c.in_ok-owners.owners.items;
      at = c.in_ok-at.at.items;
      marks = marks_of kept.heads.items kept.vertices;
      rows = map given_rows c.in_ok-rows.rows.items;
    } in
    let cells : p.cells ≡ assigned m a r = c.into_lists-lists.ensures.cells ∙ cells-held m a r own c.requires.held in
    let numbers = numbers-of_cells (assigned m a r) lists.cells.items lists.polys.items lists.corners c.into_lists-lists.ensures.full cells in
    let vertices = c.into_lists-lists.ensures.vertices ∙ vertices-held m a r own c.requires.held in
    let low : AllByRecursion (λ v. v < length m.at) lists.vertices.items = subst (AllByRecursion (λ v. v < length m.at)) (sym c.into_lists-lists.ensures.vertices) (low-vertices m a r own c.requires.held) in
    c.of.ensures
    ∙ assembled m a r p lists.cells.items c.dim-dim.ensures.right cells numbers vertices
    (c.in_ok-owners.ensures ∙ ap (map (slice_index c.args.from.now.owners.now)) c.deref.ensures.value ∙ owners-there m a c.args.from.now.owners.now lists.vertices.items c.requires.owners low)
    (c.in_ok-at.ensures ∙ ap (coordinates_of m) c.deref-2.ensures.value)
    (c.in_ok-marks.ensures.marks ∙ ap (marks_on_cells m) (sym c.into_lists-lists.ensures.cells))
    (c.in_ok-rows.ensures ∙ (λ i. map (λ (f : Section). map (row_values f) (numbers_on f.on (c.deref-3.ensures.value i) (c.deref-4.ensures.value i))) m.fields))
