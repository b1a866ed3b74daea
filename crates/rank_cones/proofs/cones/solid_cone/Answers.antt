use Rattle.std.proofs.Common.{◌≡◌, ℕ, ◌<◌, false, List, [], ◌∷◌, ◌++◌, length, get_or, Some, sym, ap, ◌∙◌, subst, arith}
use Rattle.std.specs.Prelude.{find, is_none, option_map, Result, Err, IfErr}
use Rattle.std.proofs.lemmas.List.{map_more}
use Rattle.std.proofs.lemmas.Result.{err_from_is_err_and}
use Rattle.plain_lists.specs.Lists.{picked}
use Rattle.mesh_defs.specs.declared.Poly.TheVariants.{Vertex}
use Rattle.mesh_defs.specs.Tables.{Facet, facets_of, facet_at}
use Rattle.mesh_defs.specs.Mesh.{Cell}
use Rattle.mesh_defs.specs.Points.{Sight, cell_face, cell_faces, vertex_sight}
use Rattle.plex_base.specs.declared.key.PointKey.{PointKey}
use Rattle.rank_laws.specs.diagram_laws.Strata.{entry_from, first_twist}
use Rattle.local_points.specs.Cells.{cell_at}
use Rattle.rank_cones.specs.Placed.{is_twisted, IsFirstTwist}
use Rattle.rank_cones.specs.declared.stop.Stop.{Stop}
use Rattle.rank_cones.proofs.Rows.{face-is_at, length-faces}
use Rattle.rank_cones.proofs.Loops.{none-more, found-next}
use Rattle.rank_cones.proofs.cones.solid_cone.Goals as goal

pub returns-in_err-entry-clause-stop : goal.returns-in_err-entry-clause-stop
returns-in_err-entry-clause-stop g c =
    let faces : List Sight = c.args.held.now.faces in
    let placed : ℕ × Cell = cell_at (g.C.CellList.cells c.args.cells.now) c.args.i in
    let cell : Cell = placed.1 in
    let solid = c.requires.solid.dim_is in
    let f = c.loop-f.f in
    let within : f < length (facets_of cell.poly) = omega (arith, c.loop-f-test.true, c.facet_count-f-end.ensures, ap (λ p. length (facets_of p)) c.poly.ensures) in
    let facet = facet_at cell.poly f in
    let list : List ℕ = picked cell.vertices facet.corners in
    let seen : List Sight = cell_faces placed.0 cell in
    let key : PointKey = c.in_err-entry.field-0.0 in
    let at : get_or seen f (vertex_sight 0) ≡ cell_face placed.0 cell (f, facet) = face-is_at placed.0 cell solid f within in
    let found : find (is_twisted faces) seen ≡ Some (cell_face placed.0 cell (f, facet)) =
    found-next (is_twisted faces) seen f (vertex_sight 0) (omega (arith, within, length-faces placed.0 cell solid)) c.loop-f.invariant.untwisted (ap (is_twisted faces) at ∙ ap is_none c.in_err-entry.ensures.1) ∙ ap Some at in
    let first : first_twist faces seen ≡ Some key.0 = ap (option_map (λ (s : Sight). s.key)) found ∙ ap Some (sym c.in_err-entry.ensures.0) in
    let p = err_from_is_err_and c.from_residual.result c.from_residual.ensures.1 in
    subst (λ (r : Result (Unit {0}) Stop). IfErr r (IsFirstTwist faces seen)) (sym (p.1 ∙ ap Err p.2)) first

pub loop-f-preserved : goal.loop-f-preserved
loop-f-preserved g c =
    let faces : List Sight = c.args.held.now.faces in
    let placed : ℕ × Cell = cell_at (g.C.CellList.cells c.args.cells.now) c.args.i in
    let cell : Cell = placed.1 in
    let solid = c.requires.solid.dim_is in
    let f = c.loop-f.f in
    let within : f < length (facets_of cell.poly) = omega (arith, c.loop-f-test.true, c.facet_count-f-end.ensures, ap (λ p. length (facets_of p)) c.poly.ensures) in
    let facet = facet_at cell.poly f in
    let list : List ℕ = picked cell.vertices facet.corners in
    let seen : List Sight = cell_faces placed.0 cell in
    let entry-of = λ (f : Facet). entry_from c.args.base faces f.poly (picked cell.vertices f.corners) in
    let here : is_twisted faces (get_or seen f (vertex_sight 0)) ≡ false = ap (is_twisted faces) (face-is_at placed.0 cell solid f within) ∙ ap is_none c.in_ok-entry.ensures.1 in
    record {
      cone = c.in_ok-push.ensures.items ∙ (λ i. c.loop-f.invariant.cone i ++ c.in_ok-entry.ensures.0 i ∷ []) ∙ sym (map_more entry-of (facets_of cell.poly) f (record { poly = Vertex; corners = [] }) within);
      untwisted = none-more (is_twisted faces) seen f (vertex_sight 0) (omega (arith, within, length-faces placed.0 cell solid)) c.loop-f.invariant.untwisted here;
    }
