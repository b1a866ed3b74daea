-- The home round, in which the ranks learn the keys of the faces and edges that they share; the number round, in which each
-- rank draws the base of its numbers.
use Rattle.std.specs.Prelude.{◌≡◌, ℕ, ◌+◌, Bool, true, false, ◌&&◌, ◌||◌, ◌==◌, if◌then◌else◌, nat_lt, List, [], ◌∷◌, length, map, filter, filter_map, flat_map, slice_index, None, option_map, unwrap_or}
use Rattle.std.specs.List.{enumerate_from}
use Rattle.plain_lists.specs.Lists.{below}
use Rattle.mesh_defs.specs.Tables.{dim_of}
use Rattle.mesh_defs.specs.Mesh.{Mesh}
use Rattle.mesh_defs.specs.Points.{Point, point_of}
use Rattle.mesh_defs.specs.Diagram.{strata, place_in}
use Rattle.sf_defs.specs.declared.Op.TheVariants.{Sum, Min}
use Rattle.sf_defs.specs.declared.Tag.TheVariants.{Home, Number}
use Rattle.sf_defs.specs.declared.Ask.{Ask}
use Rattle.sf_defs.specs.Rounds.{Round, IsLegal}
use Rattle.rank_defs.specs.Ranks.{owner, is_shared, owned, own_key}

-- ---- points in the order of their vertices

-- a list stands before another one, or is it; a list that begins another stands before it
abbrev pub precedes : List ℕ → List ℕ → Bool
precedes [] ys = true
precedes (x ∷ xs) [] = false
precedes (x ∷ xs) (y ∷ ys) = nat_lt x y || ((x == y) && precedes xs ys)

abbrev pub put_in_order : Point → List Point → List Point
put_in_order p [] = p ∷ []
put_in_order p (q ∷ qs) = if precedes p.vertices q.vertices then p ∷ q ∷ qs else q ∷ put_in_order p qs

-- the same points, by their rising vertices
unfoldable pub by_vertices : List Point → List Point
by_vertices [] = []
by_vertices (p ∷ ps) = put_in_order p (by_vertices ps)

-- ---- the home round

-- the faces of a solid mesh and the edges that cells of two or more ranks contain
unfoldable pub shared_points : Mesh → List ℕ → List Point
shared_points m a = filter (is_shared m a) (map point_of (filter (λ s. nat_lt 0 (dim_of s.poly) && nat_lt (dim_of s.poly) m.dim) (strata m)))

-- the points of the words: by owner, then faces before edges, then by their vertices
unfoldable pub home_points : Mesh → List ℕ → ℕ → List Point
home_points m a n =
    let shared = shared_points m a in
    flat_map (λ r. flat_map (λ dim. by_vertices (filter (λ p. (owner m a p == r) && (p.dim == dim)) shared)) (2 ∷ 1 ∷ [])) (below n)

-- the first value of each word: the least key of the owner
unfoldable pub home_words : Mesh → List ℕ → List Point → List ℕ
home_words m a points = map (λ p. unwrap_or (own_key m a (owner m a p) p) 0) points

-- what a rank asks: for each word whose point it has and does not own, the least with its own least key
unfoldable pub home_asks : Mesh → List ℕ → List Point → ℕ → List Ask
home_asks m a points r =
    filter_map (λ (w : ℕ × Point). if owner m a w.1 == r then None else option_map (λ k. record { word = w.0; op = Min; value = k }) (own_key m a r w.1)) (enumerate_from 0 points)

-- A legal round with these words and asks. The last value of a word is the key of its point.
pub record IsHomeRound (m : Mesh) (a : List ℕ) (n : ℕ) (r : Round) : Type 0 where
  pub tag : r.tag ≡ Home
  pub words : r.before ≡ home_words m a (home_points m a n)
  pub asks : r.asks ≡ map (home_asks m a (home_points m a n)) (below n)
  pub legal : IsLegal r

-- ---- the number round and the numbering

-- each rank adds the number of points that it owns to the one word
unfoldable pub number_asks : Mesh → List ℕ → ℕ → List (List Ask)
number_asks m a n = map (λ r. record { word = 0; op = Sum; value = length (owned m a r) } ∷ []) (below n)

-- a legal round with one word, 0 at first, and these asks
pub record IsNumberRound (m : Mesh) (a : List ℕ) (n : ℕ) (r : Round) : Type 0 where
  pub tag : r.tag ≡ Number
  pub words : r.before ≡ 0 ∷ []
  pub asks : r.asks ≡ number_asks m a n
  pub legal : IsLegal r

-- what each rank drew
abbrev pub bases_of : Round → List ℕ
bases_of r = map (λ got. slice_index got 0) r.got

-- The number of a point under the bases that the ranks drew: the base of its owner, and its place among the points that
-- its owner owns.
unfoldable pub point_number : Mesh → List ℕ → List ℕ → Point → ℕ
point_number m a bases p = slice_index bases (owner m a p) + place_in (owned m a (owner m a p)) p
