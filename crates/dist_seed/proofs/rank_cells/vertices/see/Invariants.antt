use Rattle.std.proofs.Common.{◌≡◌, ℕ, ◌<◌, ◌==◌, ◌||◌, false, length, get_or, take}
use Rattle.std.specs.List.{list_any}
use Rattle.dist_seed.proofs.rank_cells.vertices.see.Given as goal

abbrev pub invariant-loop-v : goal.invariant-loop-v
invariant-loop-v l = record {
  many : length l.seen.items ≡ length l.initial.seen.items;
  each : (v : ℕ) → v < length l.initial.seen.items → get_or l.seen.items v false ≡ (get_or l.initial.seen.items v false || list_any (λ w. w == v) (take l.v-index l.vertices));
}
