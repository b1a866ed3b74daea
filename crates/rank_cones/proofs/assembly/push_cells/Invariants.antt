use Rattle.std.proofs.Common.{◌≡◌, false, map, take}
use Rattle.std.specs.List.{list_any}
use Rattle.rank_laws.specs.diagram_laws.Strata.{face_sights}
use Rattle.rank_chart_laws.specs.rank_diagram_laws.Parts.{cell_part}
use Rattle.rank_cones.specs.Placed.{is_twisted}
use Rattle.rank_cones.specs.Assembly.{rank_parts}
use Rattle.rank_cones.proofs.assembly.push_cells.Given as goal

abbrev pub invariant-loop-i : goal.invariant-loop-i
invariant-loop-i g l = record {
  plex : l.plex ≡ record l.initial.plex { points = map (cell_part (rank_parts l.initial.plex.dim (g.C.CellList.cells l.cells) l.vertices l.held)) (take l.i (g.C.CellList.cells l.cells)) };
  untwisted : list_any (is_twisted l.held.faces) (face_sights (take l.i (g.C.CellList.cells l.cells))) ≡ false;
}
