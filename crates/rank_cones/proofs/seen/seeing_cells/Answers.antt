use Rattle.std.proofs.Common.{◌≡◌, ℕ, ◌+◌, ◌<◌, List, ◌++◌, length, take, drop, sym, ap, ◌∙◌, subst, ⊎_elim, arith}
use Rattle.std.specs.Prelude.{slice_index}
use Rattle.std.proofs.lemmas.Bool.{cases_lt}
use Rattle.std.proofs.lemmas.List.{take_at}
use Rattle.mesh_defs.specs.Mesh.{Cell}
use Rattle.mesh_defs.specs.Points.{Sight}
use Rattle.rank_cones.specs.Seen.{HasFace}
use Rattle.rank_cones.proofs.seen.seeing_cells.Goals as goal

pub loop-i-preserved : goal.loop-i-preserved
loop-i-preserved g c =
    let cells : List (ℕ × Cell) = g.C.CellList.cells c.args.cells.now in
    let faces : List Sight = c.args.held.now.faces in
    let before : List ℕ = c.loop-i.seeing.items in
    let after : List ℕ = c.note_faces.new.seeing in
    let same : length after ≡ length before = c.note_faces.ensures.count ∙ ap length c.deref_mut.ensures.value in
    let written : take c.loop-i.seeing.len (after ++ drop (length after) before) ≡ after = take_at after (drop (length after) before) c.loop-i.seeing.len (same ∙ sym c.loop-i.seeing.ok.0) in
    let noted : (k j : ℕ) → j < c.loop-i.i + 1 → HasFace cells faces k j → HasFace cells faces k (slice_index after k) =
    λ k j low has. ⊎_elim
    (λ (earlier : j < c.loop-i.i). c.note_faces.ensures.kept k (subst (λ l. HasFace cells faces k (slice_index l k)) (sym c.deref_mut.ensures.value) (c.loop-i.invariant.noted k j earlier has)))
    (λ here. let now : j ≡ c.loop-i.i = omega (arith, low, here) in c.note_faces.ensures.noted k (subst (HasFace cells faces k) now has))
    (cases_lt j c.loop-i.i) in
    record {
      noted = λ k j low has. subst (λ l. HasFace cells faces k (slice_index l k)) (sym written) (noted k j low has);
      count = ap length written ∙ same ∙ c.loop-i.invariant.count;
    }

pub returns : goal.returns
returns g c = record {
  count = c.loop-i.invariant.count;
  each = λ k i has. c.loop-i.invariant.noted k i (omega (arith, c.loop-i-test.false, c.len-i-end.ensures, has.cell)) has;
}
