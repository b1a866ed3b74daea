-- What ranks hold and ask.
use Rattle.std.specs.Prelude.{◌≡◌, ℕ, List, length, map}
use Rattle.plain_lists.specs.Lists.{below}
use Rattle.mesh_defs.specs.Mesh.{Mesh}
use Rattle.sf_defs.specs.declared.Ask.{Ask}
use Rattle.dist_seed.specs.rank_cells.Own.{Held, held_of}
use Rattle.headline_laws.specs.seed_laws.Asked.{asks_at}

-- what a rank asks that holds this
abbrev pub own_asks : ℕ × Held → List Ask
own_asks r = asks_at r.0 r.1.vertices

-- these ranks hold what is assigned to them
pub record AreHeld (m : Mesh) (a : List ℕ) (held : List Held) : Type 0 where
  pub each : held ≡ map (held_of m a) (below (length held))
