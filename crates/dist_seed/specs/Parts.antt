-- What a rank is given.
use Rattle.std.specs.Prelude.{ℕ, List}
use Rattle.mesh_defs.specs.Mesh.{Mesh}
use Rattle.rank_defs.specs.Ranks.{assigned}
use Rattle.rank_defs.specs.Spread.{ScatterPart, scatter_part}

-- by the cells that are assigned to it
unfoldable pub part_given : Mesh → List ℕ → ℕ → ScatterPart
part_given m a r = scatter_part m a (assigned m a r)
