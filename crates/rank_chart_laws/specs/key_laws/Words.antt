-- How ranks learn the keys of what they share, step by step, over what they have.
use Rattle.std.specs.Prelude.{◌≡◌, ℕ, ◌+◌, ◌*◌, ◌^◌, ◌<◌, ◌≤◌, List, [], ◌++◌, length, map, filter_map, get_or, Option, option_map, replicate, IsPermutation}
use Rattle.std.specs.List.{AllByRecursion}
use Rattle.std.specs.List.Sorted.{IsNonDecreasingBy}
use Rattle.plain_lists.specs.Lists.{below, picked}
use Rattle.sf_defs.specs.declared.Leaf.{Leaf}
use Rattle.sf_defs.specs.declared.Op.TheVariants.{Min}
use Rattle.sf_defs.specs.declared.Tag.TheVariants.{Home}
use Rattle.sf_defs.specs.Rounds.{Round, IsLegal}
use Rattle.sf_defs.specs.Forest.{Forest, leaf, leaves_on, root_of}
use Rattle.sf_ops.specs.Asked.{asks_of, words_of}
use Rattle.rank_defs.specs.Spread.{SharedPart, PlainShared}
use Rattle.rank_laws.specs.share_laws.Packed.{IsPackable}
use Rattle.dist_state.specs.shared_state.Points.{shared_at}
use Rattle.rank_chart_laws.specs.key_laws.Places.{put, run, first_face, face_count, first_edge, edge_count, point_count, part_keys, words_among, AreInOrder}

abbrev pub part : PlainShared → ℕ → SharedPart
part s r = shared_at s.parts r

-- What a rank has is as many points as its cells see, and faces and edges on at most four vertices. All points are roots, and
-- leaves are points.
pub record IsLaidOut (s : PlainShared) : Type 0 where
  pub points : (r : ℕ) → r < length s.parts → length (part s r).sets ≡ point_count (part s r)
  pub sets : (r i : ℕ) → r < length s.parts → first_face (part s r) ≤ i → i < length (part s r).sets → IsPackable (get_or (part s r).sets i [])
  pub roots : s.forest.roots ≡ map (λ (p : SharedPart). length p.sets) s.parts
  pub locals : (r : ℕ) → r < length s.parts → AllByRecursion (λ (l : Leaf). l.local < length (part s r).sets) (leaves_on s.forest r)

-- the keys under which each rank sees its points
unfoldable pub seen_keys : PlainShared → List (List ℕ)
seen_keys s = map part_keys s.parts

-- ---- words

-- the places of the words of a rank: faces, then edges, each in the order of vertices
pub record AreWordPlaces (s : PlainShared) (r : ℕ) (places : List ℕ) : Type 0 where
  pub faces : List ℕ
  pub edges : List ℕ
  pub all : places ≡ faces ++ edges
  pub of_faces : AreInOrder (part s r).sets (words_among s.forest r (first_face (part s r)) (face_count (part s r))) faces
  pub of_edges : AreInOrder (part s r).sets (words_among s.forest r (first_edge (part s r)) (edge_count (part s r))) edges

-- the same of all ranks
pub record AreAllWords (s : PlainShared) (places : List (List ℕ)) : Type 0 where
  pub ranks : length places ≡ length s.parts
  pub each : (r : ℕ) → r < length s.parts → AreWordPlaces s r (get_or places r [])

-- each word's number at its place, and 0 elsewhere
abbrev pub numbered : PlainShared → List (List ℕ) → ℕ → List ℕ
numbered s places r = put (replicate (length (part s r).sets) 0) (get_or places r []) (below (length (get_or places r [])))

unfoldable pub word_numbers : PlainShared → List (List ℕ) → List (List ℕ)
word_numbers s places = map (numbered s places) (below (length s.parts))

-- ---- the forest of the words

-- the leaf at a place that another rank owns, on the word with the number that the place was told
abbrev pub leaf_found : Forest → ℕ → List ℕ → ℕ → Option Leaf
leaf_found f r numbers i = option_map (λ (root : ℕ × ℕ). leaf i (root.0, get_or numbers i 0)) (root_of f r i)

-- the leaves of a rank on words, by place
unfoldable pub leaves_found : PlainShared → ℕ → List ℕ → List Leaf
leaves_found s r numbers = filter_map (leaf_found s.forest r numbers) (run (first_face (part s r)) (face_count (part s r) + edge_count (part s r)))

-- a number that rises by rank and then by index
abbrev pub leaf_number : Leaf → ℕ
leaf_number l = l.rank * 2 ^ 32 + l.index

-- the words as roots, and the leaves of each rank by word
pub record IsWordForest (s : PlainShared) (places numbers : List (List ℕ)) (f : Forest) : Type 0 where
  pub roots : f.roots ≡ map length places
  pub ranks : length f.leaves ≡ length s.parts
  pub same : (r : ℕ) → r < length s.parts → IsPermutation (leaves_found s r (get_or numbers r [])) (leaves_on f r)
  pub rising : (r : ℕ) → r < length s.parts → IsNonDecreasingBy leaf_number (leaves_on f r)

-- the keys of the words as their ranks see them
abbrev pub word_keys : List (List ℕ) → List (List ℕ) → List (List ℕ)
word_keys places keys = map (λ r. picked (get_or keys r []) (get_or places r [])) (below (length places))

-- ---- the round, and the keys that come of it

-- a legal round of Min with the words' keys as roots and the keys that ranks see as leaves
pub record IsKeyRound (s : PlainShared) (places numbers : List (List ℕ)) (r : Round) : Type 0 where
  pub forest : Forest
  pub of_words : IsWordForest s places numbers forest
  pub tag : r.tag ≡ Home
  pub before : r.before ≡ words_of (word_keys places (seen_keys s))
  pub asks : r.asks ≡ asks_of forest Min (seen_keys s)
  pub legal : IsLegal r

-- the keys of the words, put at their places
unfoldable pub told_keys : PlainShared → List (List ℕ) → List (List ℕ) → List (List ℕ)
told_keys s places least = map (λ r. put (part_keys (part s r)) (get_or places r []) (get_or least r [])) (below (length s.parts))
