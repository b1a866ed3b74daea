-- What a rank that is told keys and arrangements has at hand, and what it draws of it.
use Rattle.std.proofs.Common.{◌≡◌, ℕ, ◌+◌, ◌^◌, ◌<◌, ◌≤◌, List, [], ◌++◌, map, take, drop, length, get_or, Vec, Global, sym, ap, ap₂, ◌∙◌, arith}
use Rattle.std.proofs.lemmas.List.{length-map}
use Rattle.plain_lists.specs.Vectors.{lists_of}
use Rattle.mesh_defs.specs.Mesh.{Mesh}
use Rattle.rank_chart_laws.proofs.meeting_laws.Loops.{list_at}
use Rattle.rank_defs.specs.Ranks.{assigned}
use Rattle.rank_defs.specs.Spread.{PlainShared}
use Rattle.dist_state.specs.shared_state.Points.{shared_at}
use Rattle.dist_state.specs.scatter_state.Parts.{number_of}
use Rattle.local_points.specs.Points.{Local, local_points}
use Rattle.rank_chart_laws.specs.OwnRanks.{own_vertices}
use Rattle.rank_cones.specs.held_points.Held.{Held, AreByKey, given, face_on, edge_on, held_of}
use Rattle.rank_cones.specs.Ranks.{IsRank}
use Rattle.interp_share.proofs.rank_points.Fitting.{rank-few}
use Rattle.rank_chart_laws.specs.key_laws.Keys.{keys_on}
use Rattle.rank_cones.specs.rank_drawings.Told.{IsTold}
use Rattle.rank_cones.proofs.rank_drawings.Known as known
use Rattle.rank_cones.proofs.rank_drawings.AllRanks as ranks

-- what one of some vectors has
row-is : {X : Type 0} (vectors : List (Vec X Global)) (i : ℕ) (v : Vec X Global) (now : List X) → i < length vectors → now ≡ v.items → v ≡ get_or vectors i v → now ≡ get_or (lists_of vectors) i []
row-is vectors i v now low value there = value ∙ ap (λ w. w.items) there ∙ sym (list_at vectors i v low)

-- rank r of n, with the keys of all ranks as the code has them
module _ {s : PlainShared} (keys : List (Vec ℕ Global)) {lists : List (List ℕ)} {m : Mesh} {dofs : List (List ℕ)} {a : List ℕ} {n r : ℕ} (told : IsTold s (lists_of keys) lists m dofs a n r) where
  pub part-there : r < length s.parts
  part-there = omega (arith, told.inside, ranks.ranks-are s m dofs a n told.shared)

  pub keys-there : r < length keys
  keys-there = omega (arith, told.inside, length-map keys (λ (v : Vec ℕ Global). v.items), ranks.keys-many (lists_of keys) m a n told.keys_are)

  -- 32 bits can count the cells of a rank
  pub cells-few : length (shared_at s.parts r).cells < 2 ^ 32
  cells-few = omega (arith, ap length (ranks.cells-are s m dofs a n told.shared r told.inside), rank-few m told.shared.mesh a r)

  local-is : (local : Local) → local ≡ local_points (shared_at s.parts r).cells → local ≡ local_points (assigned m a r)
  local-is local is = is ∙ ap local_points (ranks.cells-are s m dofs a n told.shared r told.inside)

  -- its cells and vertices, and the keys of all its points
  module _ {cells vertices own : List ℕ} {row : Vec ℕ Global} (cells-are : cells ≡ map number_of (shared_at s.parts r).cells) (vertices-are : vertices ≡ (shared_at s.parts r).vertices) (value : own ≡ row.items) (there : row ≡ get_or keys r row) where
    first-are : length cells + length vertices ≡ length (assigned m a r) + length (own_vertices m (assigned m a r))
    first-are = ap₂ (λ x y. x + y)
        (ap length cells-are ∙ length-map (shared_at s.parts r).cells number_of ∙ ap length (ranks.cells-are s m dofs a n told.shared r told.inside))
        (ap length (vertices-are ∙ ranks.vertices-are s m dofs a n told.shared r told.inside))

    own-are : own ≡ keys_on m a r
    own-are = row-is keys r row own keys-there value there ∙ ranks.keys-at (lists_of keys) m a n told.keys_are r told.inside

    pub tops-within : length cells + length vertices ≤ length own
    tops-within = omega (arith, first-are, ap length own-are, known.tops-within m told.shared.mesh a r)

    -- the keys of its faces and edges behind the others, and their arrangements
    module _ {local : Local} {lower : List ℕ} {given-lists : List (List ℕ)} (here : local ≡ local_points (shared_at s.parts r).cells) (behind : lower ≡ drop (length cells + length vertices) own) (lists-given : given-lists ≡ lists) where
      lower-are : lower ≡ map (known.key_at m) (known.faces m told.shared.mesh a r) ++ map (known.key_at m) (known.edges m told.shared.mesh a r)
      lower-are = behind ∙ ap₂ drop first-are own-are ∙ known.keys-behind m told.shared.mesh a r

      lists-are : given-lists ≡ map (known.four_at m) (known.faces m told.shared.mesh a r ++ known.edges m told.shared.mesh a r)
      lists-are = lists-given ∙ told.own_are

      pub keys-long : length lower ≡ length local.faces + length local.edges
      keys-long = known.keys-long m told.shared.mesh a r lower given-lists local lower-are lists-are (local-is local here)

      pub lists-long : length given-lists ≡ length lower
      lists-long = known.lists-long m told.shared.mesh a r lower given-lists local lower-are lists-are (local-is local here)

      -- what stands by these keys is what the rank holds
      pub held-is : {held : Held} → AreByKey (given face_on (take (length local.faces) lower) (take (length local.faces) given-lists)) held.faces held.face_moves → AreByKey (given edge_on (drop (length local.faces) lower) (drop (length local.faces) given-lists)) held.edges held.edge_moves → held ≡ held_of m (assigned m a r)
      held-is {held} = known.held-here m told.shared.mesh a r lower given-lists local lower-are lists-are (local-is local here) held

  -- so the rank is one of which a diagram is drawn
  pub is-rank : {dim : ℕ} {vertices : List ℕ} {local : Local} {held : Held} → dim ≡ m.dim → vertices ≡ (shared_at s.parts r).vertices → local ≡ local_points (shared_at s.parts r).cells → held ≡ held_of m (assigned m a r) → IsRank m n a r dim (shared_at s.parts r).cells vertices local held
  is-rank {dim} {vertices} {local} {held} dim_is vertices_are here held_is = record {
    right = told.shared.mesh;
    ranks = told.shared.assignment;
    rank = told.inside;
    dim_is = dim_is;
    cells_are = ranks.cells-are s m dofs a n told.shared r told.inside;
    vertices_are = vertices_are ∙ ranks.vertices-are s m dofs a n told.shared r told.inside;
    local_is = local-is local here;
    held_is = held_is;
  }
