-- Points of one rank in the order of their keys.
use Rattle.std.specs.Prelude.{◌≡◌, ℕ, ◌<◌, ◌==◌, if◌then◌else◌, List, [], length, map, get_or, take, slice_index, IsPermutation}
use Rattle.std.specs.List.Sorted.{IsNonDecreasingBy}
use Rattle.plain_lists.specs.Lists.{below}
use Rattle.mesh_defs.specs.declared.Poly.TheVariants.{Vertex, Segment, Triangle, Quad}
use Rattle.mesh_defs.specs.Mesh.{Mesh, Cell}
use Rattle.mesh_defs.specs.Points.{Sight}
use Rattle.rank_laws.specs.orient_laws.Named.{chart_stratum}
use Rattle.local_points.specs.Points.{places_in, faces_among, edges_among}
use Rattle.rank_chart_laws.specs.rank_diagram_laws.Parts.{held_faces}

-- faces and edges by key, and for each own face and edge its place there
pub record Held : Type 0 where
  pub faces : List Sight
  pub edges : List Sight
  pub face_moves : List ℕ
  pub edge_moves : List ℕ

-- what stands in the place of the fourth vertex of a triangle
abbrev pub no_vertex : ℕ
no_vertex = 4294967295

-- a face under a key, by four numbers
abbrev pub face_on : ℕ → List ℕ → Sight
face_on key four =
    if slice_index four 3 == no_vertex then record { key = key; poly = Triangle; arrangement = take 3 four }
    else record { key = key; poly = Quad; arrangement = four }

-- an edge under a key, by the first two of four numbers
abbrev pub edge_on : ℕ → List ℕ → Sight
edge_on key four = record { key = key; poly = Segment; arrangement = take 2 four }

-- the points under these keys, by these lists of four numbers
abbrev pub given_point : (ℕ → List ℕ → Sight) → List ℕ → List (List ℕ) → ℕ → Sight
given_point on keys lists k = on (get_or keys k 0) (get_or lists k [])

abbrev pub given : (ℕ → List ℕ → Sight) → List ℕ → List (List ℕ) → List Sight
given on keys lists = map (given_point on keys lists) (below (length keys))

-- point k; past the last one there is none, and this is a sight of no vertices
abbrev pub sight_at : List Sight → ℕ → Sight
sight_at points k = get_or points k (record { key = 0; poly = Vertex; arrangement = [] })

-- these are the given points by rising key, and the move of each given point is its place among them
pub record AreByKey (own points : List Sight) (moves : List ℕ) : Type 0 where
  pub same : IsPermutation own points
  pub rising : IsNonDecreasingBy (λ (s : Sight). s.key) points
  pub count : length moves ≡ length own
  pub within : (k : ℕ) → k < length own → slice_index moves k < length points
  pub places : (k : ℕ) → k < length own → sight_at points (slice_index moves k) ≡ sight_at own k

-- what a rank holds of a mesh that has these cells
abbrev pub held_of : Mesh → List (ℕ × Cell) → Held
held_of m cells = record {
  faces = held_faces m cells;
  edges = chart_stratum m cells 1;
  face_moves = places_in (held_faces m cells) (faces_among cells);
  edge_moves = places_in (chart_stratum m cells 1) (edges_among cells);
}
