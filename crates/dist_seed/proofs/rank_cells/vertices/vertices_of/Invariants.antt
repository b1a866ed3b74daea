use Rattle.std.proofs.Common.{◌≡◌, ℕ, ◌<◌, false, length, get_or, take}
use Rattle.dist_seed.specs.rank_cells.Seen.{some_has}
use Rattle.dist_seed.proofs.rank_cells.vertices.vertices_of.Given as goal

abbrev pub invariant-loop-c : goal.invariant-loop-c
invariant-loop-c l = record {
  many : length l.seen.items ≡ length l.mesh.at;
  each : (v : ℕ) → v < length l.mesh.at → get_or l.seen.items v false ≡ some_has l.mesh (take l.c-index l.cells) v;
}
