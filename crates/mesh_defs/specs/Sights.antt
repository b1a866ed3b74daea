-- Sights of edges by name, lists of sights that show different points, and the entries of cones that edges have.
use Rattle.std.specs.Prelude.{◌≡◌, ◌≢◌, ◌⊎◌, ℕ, ◌+◌, ◌<◌, ◌≤◌, Bool, true, not, ◌&&◌, List, [], ◌∷◌, find, slice_index, pos, negsuc, option_and_then, unwrap_or}
use Rattle.std.specs.List.{list_any, position_or_len}
use Rattle.plain_lists.specs.Lists.{sorted}
use Rattle.mesh_defs.specs.declared.Poly.TheVariants.{Segment}
use Rattle.mesh_defs.specs.declared.ConeEntry.{ConeEntry}
use Rattle.mesh_defs.specs.Orientation.{relative}
use Rattle.mesh_defs.specs.Points.{Sight, point_of, shows}

-- an edge from one vertex to another, under a key
abbrev pub edge_sight : ℕ → ℕ → ℕ → Sight
edge_sight k a b = record { key = k; poly = Segment; arrangement = a ∷ b ∷ [] }

-- a sight of a segment between two different vertices of n
pub record IsEdgeSight (n : ℕ) (s : Sight) : Type 0 where
  pub poly : s.poly ≡ Segment
  pub ends : s.arrangement ≡ slice_index s.arrangement 0 ∷ slice_index s.arrangement 1 ∷ []
  pub first : slice_index s.arrangement 0 < n
  pub second : slice_index s.arrangement 1 < n
  pub apart : slice_index s.arrangement 0 ≢ slice_index s.arrangement 1

-- no two sights show one point
abbrev pub points_differ : List Sight → Bool
points_differ [] = true
points_differ (s ∷ ss) = not (list_any (shows (point_of s)) ss) && points_differ ss

-- the entry of an edge, where these edges are numbered from a base and each has its own arrangement
unfoldable pub entry_among : ℕ → List Sight → Sight → ConeEntry
entry_among base edges s = record {
  point = base + position_or_len (shows (point_of s)) edges;
  o = unwrap_or (option_and_then (λ (own : Sight). relative Segment own.arrangement s.arrangement) (find (shows (point_of s)) edges)) (pos 0);
}

-- the vertices of an edge, rising
abbrev pub edge_key : Sight → List ℕ
edge_key s = sorted s.arrangement

-- an entry of one of these many edges, numbered from a base, as it is or turned over
pub record IsEdgeEntry (base count : ℕ) (e : ConeEntry) : Type 0 where
  pub low : base ≤ e.point
  pub high : e.point < base + count
  pub turn : (e.o ≡ pos 0) ⊎ (e.o ≡ negsuc 0)
