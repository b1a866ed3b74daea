-- What ranks drew, and where their points go by it.
use Rattle.std.specs.Prelude.{◌≡◌, ℕ, ◌+◌, ◌^◌, ◌<◌, List, [], ◌++◌, length, map, get_or, Option, Some, None}
use Rattle.std.specs.List.{AllByRecursion}
use Rattle.plain_lists.specs.Lists.{below}
use Rattle.plex_base.specs.declared.key.PointKey.{PointKey}
use Rattle.sf_defs.specs.Forest.{Forest, root_of}
use Rattle.rank_defs.specs.Spread.{SharedPart, PlainShared}
use Rattle.local_points.specs.Points.{faces_among, edges_among}
use Rattle.dist_state.specs.shared_state.Points.{shared_at}
use Rattle.rank_cones.specs.held_points.Held.{Held}
use Rattle.rank_cones.specs.declared.drawn.Drawn.{Drawn}
use Rattle.rank_cones.specs.declared.drawn.Drawn.TheVariants.{Whole, Twisted}
use Rattle.rank_cones.specs.rank_drawings.Told.{PlainDrawing}

-- the twist that stopped a rank, if one did
abbrev pub drawn_twist : Drawn → Option PointKey
drawn_twist (Whole plex) = None
drawn_twist (Twisted key) = Some key

abbrev pub twist_in : PlainDrawing → Option PointKey
twist_in d = drawn_twist d.drawn

-- the drawing of rank r
abbrev pub no_held : Held
no_held = record { faces = []; edges = []; face_moves = []; edge_moves = [] }

abbrev pub held_on : List PlainDrawing → ℕ → Held
held_on ds r = get_or (map (λ (d : PlainDrawing). d.held) ds) r no_held

-- ---- moves

-- how many cells and vertices a rank has
abbrev pub low_count : SharedPart → ℕ
low_count p = length p.cells + length p.vertices

-- cells and vertices stay; faces go to their places by key behind them, and edges behind the faces
unfoldable pub held_moves : SharedPart → Held → List ℕ
held_moves p h = below (low_count p) ++ map (λ k. low_count p + k) h.face_moves ++ map (λ k. low_count p + length h.faces + k) h.edge_moves

abbrev pub drawn_moves : PlainShared → List PlainDrawing → ℕ → List ℕ
drawn_moves s ds r = held_moves (shared_at s.parts r) (held_on ds r)

-- the faces and edges are the part's, and go to places that 32 bits can name
pub record FitHeld (p : SharedPart) (h : Held) : Type 0 where
  pub few : low_count p + length h.faces + length h.edges < 2 ^ 32
  pub faces : length h.face_moves ≡ length (faces_among p.cells)
  pub edges : length h.edge_moves ≡ length (edges_among p.cells)
  pub faces_low : AllByRecursion (λ k. k < length h.faces) h.face_moves
  pub edges_low : AllByRecursion (λ k. k < length h.edges) h.edge_moves

-- the same of all ranks
pub record FitDrawings (s : PlainShared) (ds : List PlainDrawing) : Type 0 where
  pub ranks : length ds ≡ length s.parts
  pub each : (r : ℕ) → r < length s.parts → FitHeld (shared_at s.parts r) (held_on ds r)

-- ---- owners

-- the rank of the root of a point, where it has one, and the point's own rank otherwise
abbrev pub root_rank : ℕ → Option (ℕ × ℕ) → ℕ
root_rank r None = r
root_rank r (Some root) = root.0

-- the owner of a rank's point at a place, by the forest
abbrev pub told_owner : Forest → ℕ → ℕ → ℕ
told_owner f r i = root_rank r (root_of f r i)
