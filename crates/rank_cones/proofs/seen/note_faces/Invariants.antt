use Rattle.std.proofs.Common.{◌≡◌, ℕ, ◌<◌, length}
use Rattle.std.specs.Prelude.{slice_index}
use Rattle.rank_cones.specs.Seen.{HasFace}
use Rattle.rank_cones.proofs.seen.note_faces.Given as goal

-- the faces so far are noted, and what was right before is still right
abbrev pub invariant-loop-f : goal.invariant-loop-f
invariant-loop-f g l = record {
  noted : (k : ℕ) (has : HasFace (g.C.CellList.cells l.cells) l.held.faces k l.i) → has.facet < l.f → HasFace (g.C.CellList.cells l.cells) l.held.faces k (slice_index l.seeing k);
  kept : (k : ℕ) → HasFace (g.C.CellList.cells l.cells) l.held.faces k (slice_index l.initial.seeing k) → HasFace (g.C.CellList.cells l.cells) l.held.faces k (slice_index l.seeing k);
  count : length l.seeing ≡ length l.held.faces;
}
