-- What one rank holds.
use Rattle.std.specs.Prelude.{◌≡◌, ℕ, List, map, length}
use Rattle.std.specs.List.{AllByRecursion}
use Rattle.plex_base.specs.declared.key.PointKey.{PointKey}
use Rattle.rank_defs.specs.Spread.{LocalMesh}
use Rattle.dist_state.specs.declared.rank_mesh.RankParts.{RankParts}

-- a rank's mesh from its parts
abbrev pub local_of : RankParts → LocalMesh
local_of parts = record {
  diagram = parts.plex;
  keys = map (λ (key : PointKey). key.0) parts.keys.items;
  owners = parts.owners.items;
  labels = parts.labels.items;
  fields = parts.fields.items;
  at = parts.at.items;
}

-- a key and an owner for each point, coordinates for each vertex, a label for each dimension, and words of each point
pub record IsLocalMesh (l : LocalMesh) : Type 0 where
  pub keys : length l.keys ≡ length l.diagram.points
  pub owners : length l.owners ≡ length l.diagram.points
  pub labels : length l.labels ≡ 4
  pub fields : AllByRecursion (λ (f : List (List ℕ)). length f ≡ length l.diagram.points) l.fields
  pub at : length l.at ≡ l.diagram.vertices
