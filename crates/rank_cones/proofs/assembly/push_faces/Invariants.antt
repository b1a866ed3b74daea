use Rattle.std.proofs.Common.{◌≡◌, ◌++◌, map, take}
use Rattle.rank_chart_laws.specs.rank_diagram_laws.Parts.{face_part}
use Rattle.rank_cones.specs.Assembly.{rank_parts}
use Rattle.rank_cones.proofs.assembly.push_faces.Given as goal

abbrev pub invariant-loop-k : goal.invariant-loop-k
invariant-loop-k g l = l.plex ≡ record l.initial.plex { points = l.initial.plex.points ++ map (face_part (rank_parts l.initial.plex.dim (g.C.CellList.cells l.cells) l.vertices l.held)) (take l.k l.held.faces) }
