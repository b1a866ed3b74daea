-- The round in which vertices find their owners: one word for each vertex, and each rank asks the minimum with its own
-- number at each vertex that it holds.
use Rattle.std.specs.Prelude.{ℕ, List, length, map, replicate}
use Rattle.plain_lists.specs.Lists.{below}
use Rattle.mesh_defs.specs.Mesh.{Mesh}
use Rattle.sf_defs.specs.declared.Op.TheVariants.{Min}
use Rattle.sf_defs.specs.declared.Ask.{Ask}
use Rattle.rank_defs.specs.Ranks.{assigned}
use Rattle.headline_laws.specs.seed_laws.Given.{vertices_of}

-- no rank has this number, and none a greater one
abbrev pub no_rank : ℕ
no_rank = 64

-- the words before the round
unfoldable pub before_owners : Mesh → List ℕ
before_owners m = replicate (length m.at) no_rank

-- what a rank asks at a vertex
abbrev pub holder_ask : ℕ → ℕ → Ask
holder_ask r v = record { word = v; op = Min; value = r }

-- at each of these vertices
abbrev pub asks_at : ℕ → List ℕ → List Ask
asks_at r vertices = map (holder_ask r) vertices

-- the vertices of a rank's cells
unfoldable pub rank_vertices : Mesh → List ℕ → ℕ → List ℕ
rank_vertices m a r = vertices_of (length m.at) (assigned m a r)

-- what all ranks ask
unfoldable pub holder_asks : Mesh → List ℕ → ℕ → List (List Ask)
holder_asks m a n = map (λ r. asks_at r (rank_vertices m a r)) (below n)
