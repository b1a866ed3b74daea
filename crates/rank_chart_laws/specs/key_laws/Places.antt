-- Points of a rank by their places, and lists that have values at places.
use Rattle.std.specs.Prelude.{◌≡◌, ℕ, ◌+◌, ◌*◌, ◌^◌, ◌<◌, ◌&&◌, Bool, nat_lt, is_none, List, [], ◌∷◌, ◌++◌, length, map, filter, get_or, set, IsPermutation}
use Rattle.std.specs.List.{AllByRecursion}
use Rattle.std.specs.List.Sorted.{IsNonDecreasingBy}
use Rattle.plain_lists.specs.Lists.{below}
use Rattle.mesh_defs.specs.Mesh.{Cell}
use Rattle.mesh_defs.specs.Points.{Sight}
use Rattle.sf_defs.specs.Forest.{Forest, root_of, degree}
use Rattle.rank_defs.specs.Spread.{SharedPart}
use Rattle.local_points.specs.Points.{faces_among, edges_among}

-- ---- values at places

-- these values put at these places of a list, one after another
abbrev pub put : List ℕ → List ℕ → List ℕ → List ℕ
put own [] values = own
put own (p ∷ ps) [] = own
put own (p ∷ ps) (v ∷ vs) = put (set own p v) ps vs

-- so many numbers from the first one on
abbrev pub run : ℕ → ℕ → List ℕ
run first count = map (λ k. first + k) (below count)

-- ---- the points of a rank

-- where its faces begin, behind its cells and its vertices, and where its edges begin
abbrev pub first_face : SharedPart → ℕ
first_face p = length p.cells + length p.vertices

abbrev pub face_count : SharedPart → ℕ
face_count p = length (faces_among p.cells)

abbrev pub first_edge : SharedPart → ℕ
first_edge p = first_face p + face_count p

abbrev pub edge_count : SharedPart → ℕ
edge_count p = length (edges_among p.cells)

abbrev pub point_count : SharedPart → ℕ
point_count p = first_edge p + edge_count p

-- the keys under which the rank sees its points
unfoldable pub part_keys : SharedPart → List ℕ
part_keys p = map (λ (c : ℕ × Cell). 64 * c.0) p.cells ++ p.vertices ++ map (λ (s : Sight). s.key) (faces_among p.cells) ++ map (λ (s : Sight). s.key) (edges_among p.cells)

-- ---- its words

-- the root is no leaf, and has one
abbrev pub is_word : Forest → ℕ → ℕ → Bool
is_word f r i = is_none (root_of f r i) && nat_lt 0 (degree f r i)

-- the places of the words among so many points of a rank
unfoldable pub words_among : Forest → ℕ → ℕ → ℕ → List ℕ
words_among f r first count = filter (is_word f r) (run first count)

-- a vertex of a set as a digit that is not 0, or 0 behind the last one
abbrev pub digit : List ℕ → ℕ → ℕ
digit set k = get_or (map (λ v. v + 1) set) k 0

-- a number that rises along the order of sets of at most four vertices
unfoldable pub set_number : List ℕ → ℕ
set_number set = ((digit set 0 * 2 ^ 32 + digit set 1) * 2 ^ 32 + digit set 2) * 2 ^ 32 + digit set 3

-- the same places, in the order of these sets
pub record AreInOrder (sets : List (List ℕ)) (chosen places : List ℕ) : Type 0 where
  pub same : IsPermutation chosen places
  pub rising : IsNonDecreasingBy (λ i. set_number (get_or sets i [])) places

-- the places of each rank are places of its values
pub record AreInside (places values : List (List ℕ)) : Type 0 where
  pub ranks : length values ≡ length places
  pub each : (r : ℕ) → AllByRecursion (λ p. p < length (get_or values r [])) (get_or places r [])
