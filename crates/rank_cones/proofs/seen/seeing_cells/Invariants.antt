use Rattle.std.proofs.Common.{◌≡◌, ℕ, ◌<◌, length}
use Rattle.std.specs.Prelude.{slice_index}
use Rattle.rank_cones.specs.Seen.{HasFace}
use Rattle.rank_cones.proofs.seen.seeing_cells.Given as goal

-- the faces of the cells so far are noted
abbrev pub invariant-loop-i : goal.invariant-loop-i
invariant-loop-i g l = record {
  noted : (k j : ℕ) → j < l.i → HasFace (g.C.CellList.cells l.cells) l.held.faces k j → HasFace (g.C.CellList.cells l.cells) l.held.faces k (slice_index l.seeing.items k);
  count : length l.seeing.items ≡ length l.held.faces;
}
