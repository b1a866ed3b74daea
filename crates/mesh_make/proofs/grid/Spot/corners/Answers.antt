use Rattle.std.proofs.Common.{[], ◌∷◌}
use Rattle.input_defs.specs.Generated.{corners_at}
use Rattle.mesh_make.proofs.grid.Spot.corners.Goals as goal

pub returns : goal.returns
unfolding corners_at
returns c = λ i. c.vertex.ensures i ∷ c.vertex-2.ensures i ∷ c.vertex-3.ensures i ∷ c.vertex-4.ensures i ∷ c.vertex-5.ensures i ∷ c.vertex-6.ensures i ∷ c.vertex-7.ensures i ∷ c.vertex-8.ensures i ∷ []
