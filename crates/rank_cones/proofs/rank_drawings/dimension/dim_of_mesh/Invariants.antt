use Rattle.std.proofs.Common.{◌≡◌, ℕ, ◌<◌, []}
use Rattle.dist_state.specs.shared_state.Points.{shared_at}
use Rattle.rank_cones.proofs.rank_drawings.dimension.dim_of_mesh.Given as goal

-- the ranks so far have no cell
abbrev pub invariant-loop-rank : goal.invariant-loop-rank
invariant-loop-rank l = (r : ℕ) → r < l.rank → (shared_at l.shared.parts r).cells ≡ []
