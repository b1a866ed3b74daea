use Rattle.std.proofs.Common.{◌≡◌, ℕ, List, map, sym}
use Rattle.plain_lists.specs.Lists.{below}
use Rattle.plain_lists.proofs.Each.{all_from}
use Rattle.plain_lists.proofs.Filters.{map_map_same}
use Rattle.mesh_defs.specs.Mesh.{Mesh}
use Rattle.mesh_defs.specs.RightMesh.{IsRightMesh}
use Rattle.plex_defs.specs.Labels.{mesh_label}
use Rattle.rank_defs.specs.Ranks.{assigned, held, owner}
use Rattle.rank_defs.specs.Spread.{own_chart}
use Rattle.rank_chart_laws.specs.moved_laws.Moves.{moved_label}
use Rattle.rank_chart_laws.specs.moved_laws.Sames.{rank_moves}
use Rattle.rank_chart_laws.proofs.moved_laws.Labels.{moved-label}
use Rattle.rank_chart_laws.proofs.moved_laws.Moved.{moved-points, moved-keys, moved-fields}
use Rattle.rank_chart_laws.proofs.moved_laws.Ranks.{same-points, same-numbers, held-first}
use Rattle.rank_chart_laws.proofs.moved_laws.what_a_rank_has_moves.Goals as goal

-- one label
label-moved : (m : Mesh) (a : List ℕ) (r dim : ℕ) → IsRightMesh m → mesh_label m dim (held m a r 0) ≡ moved_label (rank_moves m a r) (mesh_label m dim (own_chart m (assigned m a r)))
unfolding rank_moves
label-moved m a r dim right = moved-label (own_chart m (assigned m a r)) (held m a r 0) (same-points m right a r) m dim

pub returns-clause-label : goal.returns-clause-label
returns-clause-label c = label-moved

pub returns-clause-labels : goal.returns-clause-labels
returns-clause-labels c = λ m a r right. sym (map_map_same (moved_label (rank_moves m a r)) (λ dim. mesh_label m dim (own_chart m (assigned m a r))) (λ dim. mesh_label m dim (held m a r 0)) (below 4)
    (all_from (λ dim. moved_label (rank_moves m a r) (mesh_label m dim (own_chart m (assigned m a r))) ≡ mesh_label m dim (held m a r 0)) (λ dim. sym (label-moved m a r dim right)) (below 4)))

pub returns-clause-fields : goal.returns-clause-fields
unfolding rank_moves
returns-clause-fields c = λ m dofs a r right. moved-fields (own_chart m (assigned m a r)) (held m a r 0) (same-points m right a r) m (same-numbers m right a r) dofs

pub returns-clause-owners : goal.returns-clause-owners
unfolding rank_moves
returns-clause-owners c = λ m a r right. moved-points (own_chart m (assigned m a r)) (held m a r 0) (same-points m right a r) 0 (owner m a)

pub returns-clause-keys : goal.returns-clause-keys
unfolding rank_moves
returns-clause-keys c = λ m a r right. moved-keys (own_chart m (assigned m a r)) (held m a r 0) (same-points m right a r) m (held-first m right a r)
