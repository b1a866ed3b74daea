use Rattle.std.proofs.Common.{ℕ, ◌<◌, [], map, length, ap, sym, ◌∙◌, subst}
use Rattle.std.specs.List.{AllByRecursion}
use Rattle.rayon.proofs.ListFacts.{AllZip-weaken}
use Rattle.rayon.proofs.ToStd.{nat_range-All}
use Rattle.plain_lists.proofs.Each.{all_at}
use Rattle.mesh_defs.specs.Mesh.{Cell}
use Rattle.mesh_defs.specs.Points.{cell_faces}
use Rattle.local_points.specs.Cells.{IsFit, cell_at}
use Rattle.local_points.specs.Stored.{IsFace, face_sight_of}
use Rattle.local_points.proofs.Parts.{drained, parts-all, AreParts, parts-of_all}
use Rattle.local_points.proofs.seen_faces.see_faces.Goals as goal

pub collect-requires-clause-ready : goal.collect-requires-clause-ready
collect-requires-clause-ready g c κs within =
    let cells = g.C.CellList.cells c.args.cells.now in
    let ends = c.into_par_iter.ensures in
    let fit = nat_range-All (λ i. (i < length cells) × IsFit (cell_at cells i)) 0 (length cells) (λ i low high. (high, all_at IsFit cells i (cell_at [] 0) c.requires.each high)) in
    rw (c.flat_map_iter.ensures.base, c.flat_map_iter.ensures.f, ends.0, ends.1, c.len.ensures) (λ k d low. (fit k d low, λ v seen rest gives. (tt, tt, λ xs more y i e lower. tt)))

pub returns : goal.returns
returns g c =
    let cells = g.C.CellList.cells c.args.cells.now in
    let has = λ (d : ℕ × Cell). cell_faces d.0 d.1 in
    let ends = c.into_par_iter.ensures in
    let made = rw (c.flat_map_iter.ensures.base, c.flat_map_iter.ensures.f, ends.0, ends.1, c.len.ensures) at c.in_ok-seen.ensures in
    let each = subst (λ places. AreParts face_sight_of has cells places made.1.1) made.1.2
    (AllZip-weaken _ _ (λ i part h. ap (map face_sight_of) (drained h.2 h.0.items part h.3.0 h.3.1 h.4) ∙ h.1.1) made.1.0 made.1.1 made.1.3) in
    let sound = parts-all IsFace made.1.0 made.1.1
    (AllZip-weaken _ _ (λ i part h. subst (AllByRecursion IsFace) (sym (drained h.2 h.0.items part h.3.0 h.3.1 h.4)) h.1.0) made.1.0 made.1.1 made.1.3) in
    record {
      sound = subst (AllByRecursion IsFace) (sym (made.2 ∙ made.1.4)) sound;
      faces = ap (map face_sight_of) (made.2 ∙ made.1.4) ∙ parts-of_all face_sight_of has cells made.1.1 each;
    }
