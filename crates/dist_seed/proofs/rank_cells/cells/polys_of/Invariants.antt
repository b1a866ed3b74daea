use Rattle.std.proofs.Common.{◌≡◌, map, take}
use Rattle.plex_mesh.specs.Right.{cell_at}
use Rattle.dist_seed.proofs.rank_cells.cells.polys_of.Given as goal

abbrev pub invariant-loop-c : goal.invariant-loop-c
invariant-loop-c l = l.polys.items ≡ map (λ c. (cell_at l.mesh.cells c).poly) (take l.c-index l.cells)
