-- What ranks know of their points once they have met, for each mesh that a scatter stands for.
use Rattle.std.specs.Prelude.{◌≡◌, ℕ, ◌<◌, List, map, length, get_or, Option, IfSome}
use Rattle.plain_lists.specs.Lists.{below}
use Rattle.mesh_defs.specs.Mesh.{Mesh}
use Rattle.plex_defs.specs.Fields.{fields}
use Rattle.rank_defs.specs.Ranks.{assigned}
use Rattle.rank_defs.specs.Spread.{PlainScatter, IsScatter, own_chart, labels}
use Rattle.local_points.specs.Points.{local_points}
use Rattle.dist_state.specs.scatter_state.Whole.{part_at}
use Rattle.interp_share.specs.rank_points.Seen.{sets_on, part_sets}
use Rattle.dist_state.specs.shared_state.Points.{PointData}

-- what rank r knows: its faces and edges, and the sets, labels and words of the points of its own chart
unfoldable pub known : Mesh → List (List ℕ) → List ℕ → ℕ → PointData
known m dofs a r =
    let points = own_chart m (assigned m a r) in
    record { local = local_points (assigned m a r); sets = sets_on points; labels = labels m points; fields = fields m dofs points }

-- this is what rank r knows of each mesh that the scatter stands for
pub record IsKnown (s : PlainScatter) (r : ℕ) (d : PointData) : Type 0 where
  pub is : (m : Mesh) (dofs : List (List ℕ)) (a : List ℕ) (n : ℕ) → IsScatter s m dofs a n → d ≡ known m dofs a r

-- so do all ranks
pub record AreKnown (s : PlainScatter) (all : List PointData) : Type 0 where
  pub are : (m : Mesh) (dofs : List (List ℕ)) (a : List ℕ) (n : ℕ) → IsScatter s m dofs a n → all ≡ map (known m dofs a) (below n)

-- the words of rank r's points
pub record AreFields (s : PlainScatter) (r : ℕ) (words : List (List (List ℕ))) : Type 0 where
  pub are : (m : Mesh) (dofs : List (List ℕ)) (a : List ℕ) (n : ℕ) → IsScatter s m dofs a n → words ≡ fields m dofs (own_chart m (assigned m a r))

-- of the points of all ranks
pub record AreAllFields (s : PlainScatter) (words : List (List (List (List ℕ)))) : Type 0 where
  pub are : (m : Mesh) (dofs : List (List ℕ)) (a : List ℕ) (n : ℕ) → IsScatter s m dofs a n → words ≡ map (λ r. fields m dofs (own_chart m (assigned m a r))) (below n)

-- the vertices of each rank's points, where the rank found memory for them
pub record AreListed (s : PlainScatter) (sets : List (Option (List (List ℕ)))) : Type 0 where
  pub many : length sets ≡ length s.parts
  pub are : (r : ℕ) (d : Option (List (List ℕ))) → r < length s.parts → IfSome (get_or sets r d) (λ own. own ≡ part_sets (part_at s.parts r))
