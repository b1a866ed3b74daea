-- All ranks: their moves fit the forest of shared points, and what they hold is the distributed mesh.
use Rattle.std.proofs.Common.{Vec, Global, ◌≡◌, ℕ, zero, suc, ◌+◌, ◌<◌, ◌≤◌, true, List, [], ◌∷◌, ◌++◌, map, length, get_or, None, sym, ap, ap₂, ◌∙◌, subst, arith, length-append}
use Rattle.std.proofs.lemmas.List.{length-map, get_or-map}
use Rattle.std.specs.List.{AllByRecursion}
use Rattle.std.proofs.lemmas.Bool.{ltb-true}
use Rattle.plain_lists.specs.Vectors.{lists_of}
use Rattle.plain_lists.specs.Lists.{below}
use Rattle.plain_lists.proofs.Below.{below-all, length-below, get_or-map-below}
use Rattle.plain_lists.proofs.Each.{all_at, all_from, all_map, all_weaker}
use Rattle.plain_lists.proofs.Filters.{map_same}
use Rattle.mesh_defs.specs.Mesh.{Mesh}
use Rattle.mesh_defs.specs.Points.{Sight}
use Rattle.mesh_defs.specs.Diagram.{chart, diagram}
use Rattle.plex_defs.specs.Fields.{data_words, dof_words, fields}
use Rattle.sf_defs.specs.declared.Leaf.{Leaf}
use Rattle.sf_defs.specs.Forest.{Forest, leaves_on, roots_on, has_root, IsForest}
use Rattle.rank_defs.specs.Ranks.{assigned, held_cells, held}
use Rattle.rank_defs.specs.Spread.{PlainShared, LocalMesh, IsShared, IsDist, own_chart, point_forest, charts, local_mesh, plain_dist, plain_shared}
use Rattle.rank_laws.proofs.Forests.{sound}
use Rattle.rank_chart_laws.proofs.meeting_laws.Loops.{lists_count}
use Rattle.rank_cones.specs.rank_drawings.Told.{IsDrawing, PlainDrawing}
use Rattle.rank_laws.specs.share_laws.Charts.{own_charts}
use Rattle.dist_state.specs.shared_state.Points.{shared_at}
use Rattle.rank_cones.specs.held_points.Held.{held_of}
use Rattle.rank_cones.specs.declared.drawn.Drawn.TheVariants.{Whole}
use Rattle.dist_state.specs.Whole.{IsWholeDist}
use Rattle.rank_chart_laws.specs.key_laws.Keys.{keys_on, own_point_keys}
use Rattle.rank_chart_laws.proofs.key_laws.Stands as stands
use Rattle.rank_chart_laws.proofs.key_laws.Charts as charts
use Rattle.rank_chart_laws.specs.moved_laws.Moves.{IsReordering, moves_on, moved_forest}
use Rattle.rank_chart_laws.specs.moved_laws.Sames.{rank_moves, all_moves}
use Rattle.rank_chart_laws.proofs.moved_laws.Places.{is-reordering, length-moves}
use Rattle.rank_chart_laws.proofs.moved_laws.Ranks.{same-points, forest-by_keys}
use Rattle.orient_iface.specs.moved_points.Fitting.{FitMoves}
use Rattle.orient_iface.specs.dist_assembly.Drawn.{held_on, no_held, twist_in, drawn_moves, held_moves, FitHeld, FitDrawings}
use Rattle.orient_iface.specs.dist_assembly.Ranks.{AreDrawn, IsRankDrawn}
use Rattle.orient_iface.proofs.dist_assembly.Stepping.{AtHand}
use Rattle.orient_iface.proofs.dist_assembly.Places.{moves-are, held-fits}
use Rattle.orient_iface.proofs.dist_assembly.OneRank.{cells-here, vertices-here}

-- a list has something only at its places
within-list : (xs : List ℕ) (k i : ℕ) → i < get_or xs k 0 → k < length xs
within-list [] k i h = absurd (omega (arith, h))
within-list (x ∷ xs) zero i h = omega arith
within-list (x ∷ xs) (suc k) i h = omega (arith, within-list xs k i h)

-- ---- the moves of all ranks fit

module _ (s : PlainShared) (m : Mesh) (dofs : List (List ℕ)) (a : List ℕ) (n : ℕ) (is : IsShared s m dofs a n) where
  roots-are : (r : ℕ) → r < n → roots_on s.forest r ≡ length (own_chart m (assigned m a r))
  unfolding point_forest own_charts
  roots-are r low = ap (λ f. roots_on f r) (stands.forest-is s m dofs a n is)
      ∙ get_or-map length (map (λ q. own_chart m (assigned m a q)) (below n)) r [] 0 (omega (arith, low, length-map (below n) (λ q. own_chart m (assigned m a q)), length-below n))
      ∙ ap length (get_or-map-below (λ q. own_chart m (assigned m a q)) n r [] low)

  pub roots-many : length s.forest.roots ≡ n
  unfolding point_forest own_charts
  roots-many = ap (λ (f : Forest). length f.roots) (stands.forest-is s m dofs a n is)
      ∙ length-map (map (λ q. own_chart m (assigned m a q)) (below n)) length ∙ length-map (below n) (λ q. own_chart m (assigned m a q)) ∙ length-below n

  moves-many : length (all_moves m a n) ≡ n
  unfolding all_moves
  moves-many = length-map (below n) (rank_moves m a) ∙ length-below n

  pub moves-at : (r : ℕ) → r < n → moves_on (all_moves m a n) r ≡ rank_moves m a r
  unfolding all_moves
  moves-at r low = get_or-map-below (rank_moves m a) n r [] low

  rank-long : (r : ℕ) → r < n → length (moves_on (all_moves m a n) r) ≡ roots_on s.forest r
  unfolding rank_moves
  rank-long r low = ap length (moves-at r low) ∙ length-moves (own_chart m (assigned m a r)) (held m a r 0) (same-points m is.mesh a r) ∙ sym (roots-are r low)

  order-at : (r : ℕ) → r < n → IsReordering (moves_on (all_moves m a n) r)
  unfolding rank_moves
  order-at r low = subst IsReordering (sym (moves-at r low)) (is-reordering (own_chart m (assigned m a r)) (held m a r 0) (same-points m is.mesh a r))

  -- leaves are at points of their rank, on points of theirs
  pub moves-fit : IsForest s.forest → FitMoves (all_moves m a n) s.forest
  moves-fit forest = record {
    ranks = moves-many ∙ sym roots-many;
    as_many = λ r low. rank-long r (inside r low);
    low = λ r low. (order-at r (inside r low)).low;
    locals = λ r low. subst (λ k. AllByRecursion (λ (l : Leaf). l.local < k) (leaves_on s.forest r)) (sym (roots-are r (inside r low)))
        (subst (λ f. AllByRecursion (λ (l : Leaf). l.local < length (own_chart m (assigned m a r))) (leaves_on f r)) (sym (stands.forest-is s m dofs a n is)) (charts.leaves-local m n a is.mesh is.assignment.each r (inside r low)));
    on = λ r low. all_weaker (λ l. has_root s.forest.roots l ≡ true) (λ (l : Leaf). (l.rank < length (all_moves m a n)) × (l.index < length (moves_on (all_moves m a n) l.rank))) rooted (leaves_on s.forest r) (sound s.forest forest r).rooted;
  }
    where
      inside : (r : ℕ) → r < length s.forest.roots → r < n
      inside r low = omega (arith, low, roots-many)

      rooted : (l : Leaf) → has_root s.forest.roots l ≡ true → (l.rank < length (all_moves m a n)) × (l.index < length (moves_on (all_moves m a n) l.rank))
      rooted l e =
          let index = ltb-true l.index (roots_on s.forest l.rank) e in
          let rank = within-list s.forest.roots l.rank l.index index in
          (omega (arith, rank, roots-many, moves-many), omega (arith, index, rank-long l.rank (inside l.rank rank)))

-- ---- what the ranks drew

module _ (s : PlainShared) (ds : List PlainDrawing) (keys : List (List ℕ)) (m : Mesh) (dofs : List (List ℕ)) (a : List ℕ) (n : ℕ) (are : AreDrawn s ds keys m dofs a n) where
  held-at : (r : ℕ) → r < n → held_on ds r ≡ held_of m (assigned m a r)
  held-at r low = get_or-map (λ (e : PlainDrawing). e.held) ds r nothing no_held (omega (arith, low, are.drawings.count)) ∙ (are.drawings.each r nothing low).held
    where
      nothing : PlainDrawing
      nothing = record { held = no_held; drawn = Whole (diagram m []) }

  pub ranks-many : length s.parts ≡ n
  ranks-many = stands.ranks-are s m dofs a n are.shared

  pub drawings-fit : FitDrawings s ds
  drawings-fit = record {
    ranks = are.drawings.count ∙ sym ranks-many;
    each = λ r low. let inside : r < n = omega (arith, low, ranks-many) in
        subst (FitHeld (shared_at s.parts r)) (sym (held-at r inside)) (held-fits m are.shared.mesh a r (shared_at s.parts r) (cells-here s m dofs a n are.shared r inside) (vertices-here s m dofs a n are.shared r inside));
  }

  pub moves-all : map (drawn_moves s ds) (below (length s.parts)) ≡ all_moves m a n
  unfolding all_moves
  moves-all = ap (λ k. map (drawn_moves s ds) (below k)) ranks-many
      ∙ map_same (drawn_moves s ds) (rank_moves m a) (below n) (all_weaker (λ r. r < n) (λ r. drawn_moves s ds r ≡ rank_moves m a r)
      (λ r low. ap (held_moves (shared_at s.parts r)) (held-at r low) ∙ moves-are m are.shared.mesh a r (shared_at s.parts r) (cells-here s m dofs a n are.shared r low) (vertices-here s m dofs a n are.shared r low)) (below n) (below-all n))

  pub keys-at : (r : ℕ) → r < n → get_or keys r [] ≡ keys_on m a r
  unfolding own_point_keys
  keys-at r low = ap (λ ks. get_or ks r []) are.keys_are ∙ get_or-map-below (keys_on m a) n r [] low

  pub keys-many : length keys ≡ n
  unfolding own_point_keys
  keys-many = ap length are.keys_are ∙ length-map (below n) (keys_on m a) ∙ length-below n

  -- what is at hand of a rank is its drawing, its keys and its moves
  pub rank-drawn : (moves : List (List ℕ)) → moves ≡ map (drawn_moves s ds) (below (length s.parts)) → (r : ℕ) (d : PlainDrawing) (own_keys own_moves : List ℕ) → AtHand ds keys moves r d own_keys own_moves → IsRankDrawn s r d own_keys own_moves m dofs a n
  rank-drawn moves told r d own_keys own_moves at =
      let low : r < n = omega (arith, at.low, are.drawings.count) in
      let same = at.drawing in
      record {
        shared = are.shared;
        rank = low;
        keys_are = at.keys_are ∙ keys-at r low;
        moves_are = at.moves_are ∙ ap (λ l. get_or l r []) (told ∙ moves-all) ∙ moves-at s m dofs a n are.shared r low;
        drawing = subst (IsDrawing m a r) (sym same) (are.drawings.each r d low);
        whole = ap twist_in same ∙ all_at (λ e. twist_in e ≡ None) ds r d are.whole at.low;
      }

-- as many keys and moves as drawings, where they lie in vectors
pub keys-long : (s : PlainShared) (ds : List PlainDrawing) (vs : List (Vec ℕ Global)) (m : Mesh) (dofs : List (List ℕ)) (a : List ℕ) (n : ℕ) → AreDrawn s ds (lists_of vs) m dofs a n → length vs ≡ length ds
keys-long s ds vs m dofs a n are = sym (length-map vs (λ (v : Vec ℕ Global). v.items)) ∙ keys-many s ds (lists_of vs) m dofs a n are ∙ sym are.drawings.count

pub moves-long : (s : PlainShared) (ds : List PlainDrawing) (keys : List (List ℕ)) (m : Mesh) (dofs : List (List ℕ)) (a : List ℕ) (n : ℕ) → AreDrawn s ds keys m dofs a n → (ws : List (Vec ℕ Global)) → lists_of ws ≡ map (drawn_moves s ds) (below (length s.parts)) → length ws ≡ length ds
moves-long s ds keys m dofs a n are ws told = lists_count ws (drawn_moves s ds) (length s.parts) told ∙ ranks-many s ds keys m dofs a n are ∙ sym are.drawings.count

-- ---- the distributed mesh

module _ (s : PlainShared) (m : Mesh) (dofs : List (List ℕ)) (a : List ℕ) (n : ℕ) (is : IsShared s m dofs a n) (points : Forest) (locals : List LocalMesh) (moved : points ≡ moved_forest (all_moves m a n) s.forest) (locals-are : locals ≡ map (λ r. local_mesh m dofs a (assigned m a r)) (below n)) where
  whole-is : s.whole ≡ length m.cells
  unfolding plain_shared
  whole-is = ap (λ (v : PlainShared). v.whole) is.value

  sections-are : s.sections ≡ length m.fields
  unfolding plain_shared
  sections-are = ap (λ (v : PlainShared). v.sections) is.value

  points-are : points ≡ point_forest m a (charts m a n 0)
  points-are = moved ∙ ap (moved_forest (all_moves m a n)) (stands.forest-is s m dofs a n is) ∙ sym (forest-by_keys m is.mesh n a is.assignment)

  -- it is the distribution
  pub dist-is : IsDist (record { cells = s.whole; overlap = 0; sections = s.sections; points = points; locals = locals }) m dofs a n 0
  unfolding plain_dist held_cells
  dist-is = record {
    mesh = is.mesh;
    counts = is.counts;
    assignment = is.assignment;
    value = λ i. record { cells = whole-is i; overlap = 0; sections = sections-are i; points = points-are i; locals = locals-are i };
  }

  locals-fields : AllByRecursion (λ (l : LocalMesh). length l.fields ≡ length m.fields + length dofs) locals
  unfolding local_mesh fields
  locals-fields = subst (AllByRecursion (λ (l : LocalMesh). length l.fields ≡ length m.fields + length dofs)) (sym locals-are)
      (all_map (λ (l : LocalMesh). length l.fields ≡ length m.fields + length dofs) (λ r. local_mesh m dofs a (assigned m a r)) (below n)
      (all_from (λ r. length (local_mesh m dofs a (assigned m a r)).fields ≡ length m.fields + length dofs) (λ r. long (chart m (assigned m a r))) (below n)))
    where
      long : (ps : List Sight) → length (map (λ f. map (data_words m f) ps) m.fields ++ map (λ counts. map (dof_words m counts) ps) dofs) ≡ length m.fields + length dofs
      long ps = length-append (map (λ f. map (data_words m f) ps) m.fields) (map (λ counts. map (dof_words m counts) ps) dofs) ∙ ap₂ (λ x y. x + y) (length-map m.fields (λ f. map (data_words m f) ps)) (length-map dofs (λ counts. map (dof_words m counts) ps))

  pub dist-whole : IsWholeDist (record { cells = s.whole; overlap = 0; sections = s.sections; points = points; locals = locals })
  unfolding moved_forest
  dist-whole = record {
    ranks = ap length locals-are ∙ length-map (below n) (λ r. local_mesh m dofs a (assigned m a r)) ∙ length-below n ∙ sym (roots-many s m dofs a n is) ∙ sym (ap (λ (f : Forest). length f.roots) moved);
    sections = all_weaker (λ (l : LocalMesh). length l.fields ≡ length m.fields + length dofs) (λ (l : LocalMesh). s.sections ≤ length l.fields) (λ l e. omega (arith, e, sections-are)) locals locals-fields;
    fields = all_weaker (λ (l : LocalMesh). length l.fields ≡ length m.fields + length dofs) (λ (l : LocalMesh). AllByRecursion (λ (k : LocalMesh). length l.fields ≡ length k.fields) locals)
        (λ l e. all_weaker (λ (k : LocalMesh). length k.fields ≡ length m.fields + length dofs) (λ (k : LocalMesh). length l.fields ≡ length k.fields) (λ k f. e ∙ sym f) locals locals-fields) locals locals-fields;
  }
