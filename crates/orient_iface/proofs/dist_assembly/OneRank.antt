-- What a rank holds, by what it has on its own points and where these go.
use Rattle.std.specs.Prelude.{unwrap_or, ℤ}
use Rattle.std.proofs.Common.{◌≡◌, ◌≢◌, ℕ, ◌^◌, ◌<◌, List, [], ◌==◌, map, length, get_or, refl, sym, ap, ap₂, ◌∙◌, subst, ⊎_elim, arith}
use Rattle.std.specs.List.{position_or_len, AllByRecursion}
use Rattle.std.proofs.lemmas.Bool.{cases_eq}
use Rattle.std.proofs.lemmas.List.{length-map, get_or-map}
use Rattle.plain_lists.specs.Lists.{below}
use Rattle.plain_lists.proofs.Below.{below-all, length-below}
use Rattle.plain_lists.proofs.Each.{all_from, all_map, all_weaker}
use Rattle.plain_lists.proofs.Filters.{map_map_same, map_same}
use Rattle.plain_lists.proofs.Finding.{position-within}
use Rattle.mesh_defs.specs.Points.{key, Sight, point_of}
use Rattle.mesh_defs.specs.Mesh.{Mesh}
use Rattle.mesh_defs.specs.Diagram.{chart, diagram}
use Rattle.plex_defs.specs.Labels.{mesh_label}
use Rattle.plex_defs.specs.Fields.{fields}
use Rattle.sf_defs.specs.Forest.{Forest}
use Rattle.rank_defs.specs.Spread.{point_forest, SharedPart, PlainShared, LocalMesh, IsShared, own_chart, shared_part, local_mesh, labels, coordinates_of}
use Rattle.rank_defs.specs.Ranks.{assigned, held_cells, held, owner}
use Rattle.rank_laws.specs.share_laws.Charts.{own_charts}
use Rattle.rank_cones.specs.rank_drawings.Told.{PlainDrawing}
use Rattle.dist_state.specs.shared_state.Points.{shared_at}
use Rattle.rank_chart_laws.specs.OwnRanks.{own_vertices}
use Rattle.rank_chart_laws.proofs.Given.{given-vertices, shared-vertices}
use Rattle.interp_share.proofs.rank_points.Own.{own-points, points-few}
use Rattle.rank_chart_laws.specs.key_laws.Keys.{keys_on}
use Rattle.rank_chart_laws.proofs.key_laws.Stands as stands
use Rattle.rank_chart_laws.proofs.key_laws.Charts as charts
use Rattle.rank_chart_laws.specs.moved_laws.Moves.{IsReordering, moved_list, moved_label}
use Rattle.rank_chart_laws.specs.moved_laws.Sames.{rank_moves}
use Rattle.rank_chart_laws.proofs.moved_laws.Places.{no_sight, is-reordering, length-moves}
use Rattle.rank_chart_laws.proofs.moved_laws.Ranks.{same-points, same-numbers, held-first}
use Rattle.rank_chart_laws.proofs.moved_laws.Moved.{moved-points, moved-keys, moved-fields}
use Rattle.rank_chart_laws.proofs.moved_laws.Labels.{moved-label}
use Rattle.orient_iface.specs.dist_assembly.Ranks.{MayAssemble, IsRankDrawn}
use Rattle.orient_iface.proofs.dist_assembly.Places.{held-fits}
use Rattle.orient_iface.specs.dist_assembly.Drawn.{root_rank, told_owner}
use Rattle.orient_iface.proofs.dist_assembly.Marks.{labels-low, fields-long}

-- from where the point at each place came
abbrev pub sources : List ℕ → List ℕ
sources moves = map (λ j. position_or_len (λ k. k == j) moves) (below (length moves))

pub sources-low : (moves : List ℕ) → IsReordering moves → AllByRecursion (λ i. i < length moves) (sources moves)
sources-low moves order = all_map (λ i. i < length moves) (λ j. position_or_len (λ k. k == j) moves) (below (length moves))
    (all_weaker (λ j. j < length moves) (λ j. position_or_len (λ k. k == j) moves < length moves) (λ j low. position-within (λ k. k == j) moves (order.onto j low)) (below (length moves)) (below-all (length moves)))

-- what is read at the sources is the list, moved
pub sources-move : {X : Type 0} (none : X) (moves : List ℕ) (xs : List X) → map (λ i. get_or xs i none) (sources moves) ≡ moved_list none moves xs
unfolding moved_list
sources-move none moves xs = map_map_same (λ i. get_or xs i none) (λ j. position_or_len (λ k. k == j) moves) (λ j. get_or xs (position_or_len (λ k. k == j) moves) none) (below (length moves))
    (all_from (λ j. get_or xs (position_or_len (λ k. k == j) moves) none ≡ get_or xs (position_or_len (λ k. k == j) moves) none) (λ j. refl) (below (length moves)))

module _ (s : PlainShared) (m : Mesh) (dofs : List (List ℕ)) (a : List ℕ) (n : ℕ) (is : IsShared s m dofs a n) (r : ℕ) (low : r < n) where
  -- ---- what the rank has of its own points

  pub ranks-are : length s.parts ≡ n
  ranks-are = stands.ranks-are s m dofs a n is

  pub cells-here : (shared_at s.parts r).cells ≡ assigned m a r
  unfolding shared_part
  cells-here = ap (λ (p : SharedPart). p.cells) (stands.part-is s m dofs a n is r low)

  pub vertices-here : (shared_at s.parts r).vertices ≡ own_vertices m (assigned m a r)
  unfolding shared_part
  vertices-here = ap (λ (p : SharedPart). p.vertices) (stands.part-is s m dofs a n is r low) ∙ shared-vertices m is.mesh.sound.dim (assigned m a r)

  pub labels-here : (shared_at s.parts r).labels ≡ labels m (own_chart m (assigned m a r))
  unfolding shared_part
  labels-here = ap (λ (p : SharedPart). p.labels) (stands.part-is s m dofs a n is r low)

  pub fields-here : (shared_at s.parts r).fields ≡ fields m dofs (own_chart m (assigned m a r))
  unfolding shared_part
  fields-here = ap (λ (p : SharedPart). p.fields) (stands.part-is s m dofs a n is r low)

  pub at-here : (shared_at s.parts r).at ≡ coordinates_of m (own_vertices m (assigned m a r))
  unfolding shared_part
  at-here = ap (λ (p : SharedPart). p.at) (stands.part-is s m dofs a n is r low) ∙ ap (coordinates_of m) (shared-vertices m is.mesh.sound.dim (assigned m a r))

  pub at-long : length (shared_at s.parts r).at ≡ length (shared_at s.parts r).vertices
  at-long = ap length at-here ∙ length-map (own_vertices m (assigned m a r)) (λ v. get_or m.at v []) ∙ sym (ap length vertices-here)

  pub few-vertices : length (shared_at s.parts r).vertices < 2 ^ 32
  few-vertices = omega (arith, (held-fits m is.mesh a r (shared_at s.parts r) cells-here vertices-here).few)

  pub roots-here : r < length s.forest.roots
  unfolding point_forest own_charts
  roots-here = omega (arith, low, ap (λ (f : Forest). length f.roots) (stands.forest-is s m dofs a n is), length-map (map (λ q. own_chart m (assigned m a q)) (below n)) length, length-map (below n) (λ q. own_chart m (assigned m a q)), length-below n)

  pub own-few : length (own_chart m (assigned m a r)) < 2 ^ 32
  own-few = omega (arith, ap length (own-points m is.mesh a r), points-few m is.mesh a r)

  -- the owner of a point by the forest
  owner-told : (i : ℕ) → i < length (own_chart m (assigned m a r)) → told_owner s.forest r i ≡ owner m a (point_of (get_or (own_chart m (assigned m a r)) i no_sight))
  owner-told i inside =
      ap (λ f. told_owner f r i) (stands.forest-is s m dofs a n is)
      ∙ ⊎_elim
      (λ (same : owner m a (charts.pt m n a is.mesh is.assignment.each r i) ≡ r). ap (root_rank r) (charts.root-own m n a is.mesh is.assignment.each r i low inside same) ∙ sym same)
      (λ (other : owner m a (charts.pt m n a is.mesh is.assignment.each r i) ≢ r). ap (root_rank r) (charts.root-ghost m n a is.mesh is.assignment.each r i low inside other))
      (cases_eq (owner m a (charts.pt m n a is.mesh is.assignment.each r i)) r)

  -- ---- moved

  module _ (moves : List ℕ) (moves-are : moves ≡ rank_moves m a r) where
    pub moves-order : IsReordering moves
    unfolding rank_moves
    moves-order = subst IsReordering (sym moves-are) (is-reordering (own_chart m (assigned m a r)) (held m a r 0) (same-points m is.mesh a r))

    pub moves-long : length moves ≡ length (own_chart m (assigned m a r))
    unfolding rank_moves
    moves-long = ap length moves-are ∙ length-moves (own_chart m (assigned m a r)) (held m a r 0) (same-points m is.mesh a r)

    pub labels-fit : AllByRecursion (AllByRecursion (λ (pair : ℕ × ℤ). pair.0 < length moves)) (shared_at s.parts r).labels
    labels-fit = subst (λ k. AllByRecursion (AllByRecursion (λ (pair : ℕ × ℤ). pair.0 < k)) (shared_at s.parts r).labels) (sym moves-long)
        (subst (AllByRecursion (AllByRecursion (λ (pair : ℕ × ℤ). pair.0 < length (own_chart m (assigned m a r))))) (sym labels-here) (labels-low m (own_chart m (assigned m a r))))

    pub fields-fit : AllByRecursion (λ (f : List (List ℕ)). length f ≡ length moves) (shared_at s.parts r).fields
    fields-fit = subst (λ k. AllByRecursion (λ (f : List (List ℕ)). length f ≡ k) (shared_at s.parts r).fields) (sym moves-long)
        (subst (AllByRecursion (λ (f : List (List ℕ)). length f ≡ length (own_chart m (assigned m a r)))) (sym fields-here) (fields-long m dofs (own_chart m (assigned m a r))))

    -- labels, fields, keys and owners are those of the chart by keys
    pub labels-moved : map (moved_label moves) (shared_at s.parts r).labels ≡ labels m (chart m (assigned m a r))
    unfolding rank_moves held held_cells
    labels-moved = ap₂ (λ mv ls. map (moved_label mv) ls) moves-are labels-here
        ∙ map_map_same (moved_label (rank_moves m a r)) (λ dim. mesh_label m dim (own_chart m (assigned m a r))) (λ dim. mesh_label m dim (chart m (assigned m a r))) (below 4)
        (all_from (λ dim. moved_label (rank_moves m a r) (mesh_label m dim (own_chart m (assigned m a r))) ≡ mesh_label m dim (chart m (assigned m a r))) (λ dim. sym (moved-label (own_chart m (assigned m a r)) (held m a r 0) (same-points m is.mesh a r) m dim)) (below 4))

    pub fields-moved : map (moved_list [] moves) (shared_at s.parts r).fields ≡ fields m dofs (chart m (assigned m a r))
    unfolding rank_moves held held_cells
    fields-moved = ap₂ (λ mv fs. map (moved_list [] mv) fs) moves-are fields-here
        ∙ sym (moved-fields (own_chart m (assigned m a r)) (held m a r 0) (same-points m is.mesh a r) m (same-numbers m is.mesh a r) dofs)

    pub keys-moved : (keys : List ℕ) → keys ≡ keys_on m a r → map (λ i. get_or keys i 0) (sources moves) ≡ map (λ (t : Sight). t.key) (chart m (assigned m a r))
    unfolding rank_moves held held_cells
    keys-moved keys are = sources-move 0 moves keys ∙ ap₂ (moved_list 0) moves-are are
        ∙ sym (moved-keys (own_chart m (assigned m a r)) (held m a r 0) (same-points m is.mesh a r) m (held-first m is.mesh a r))

    pub owners-moved : map (told_owner s.forest r) (sources moves) ≡ map (λ t. owner m a (point_of t)) (chart m (assigned m a r))
    unfolding rank_moves held held_cells
    owners-moved =
        map_same (told_owner s.forest r) (λ i. get_or (map (λ t. owner m a (point_of t)) (own_chart m (assigned m a r))) i 0) (sources moves)
        (all_weaker (λ i. i < length moves) (λ i. told_owner s.forest r i ≡ get_or (map (λ t. owner m a (point_of t)) (own_chart m (assigned m a r))) i 0)
        (λ i inside. let within : i < length (own_chart m (assigned m a r)) = omega (arith, inside, moves-long) in owner-told i within ∙ sym (get_or-map (λ t. owner m a (point_of t)) (own_chart m (assigned m a r)) i no_sight 0 within)) (sources moves) (sources-low moves moves-order))
        ∙ sources-move 0 moves (map (λ t. owner m a (point_of t)) (own_chart m (assigned m a r)))
        ∙ ap (λ mv. moved_list 0 mv (map (λ t. owner m a (point_of t)) (own_chart m (assigned m a r)))) moves-are
        ∙ sym (moved-points (own_chart m (assigned m a r)) (held m a r 0) (same-points m is.mesh a r) 0 (owner m a))

    -- what is put together is what the rank holds
    pub local-is : (keys : List ℕ) → keys ≡ keys_on m a r → (l : LocalMesh) → l.diagram ≡ diagram m (assigned m a r) → l.keys ≡ map (λ i. get_or keys i 0) (sources moves) → l.owners ≡ map (told_owner s.forest r) (sources moves) → l.labels ≡ map (moved_label moves) (shared_at s.parts r).labels → l.fields ≡ map (moved_list [] moves) (shared_at s.parts r).fields → l.at ≡ (shared_at s.parts r).at → l ≡ local_mesh m dofs a (assigned m a r)
    unfolding local_mesh
    local-is keys are l drawn named owned marked filled placed =
        let its_keys = named ∙ keys-moved keys are in
        let its_owners = owned ∙ owners-moved in
        let its_labels = marked ∙ labels-moved in
        let its_fields = filled ∙ fields-moved in
        let its_at = placed ∙ at-here ∙ sym (ap (coordinates_of m) (given-vertices m is.mesh.sound.dim (assigned m a r))) in
        λ i. record { diagram = drawn i; keys = its_keys i; owners = its_owners i; labels = its_labels i; fields = its_fields i; at = its_at i }

-- ---- what is asked of the parts

-- the moves and the keys of a rank fit what it has
pub record RankFits (s : PlainShared) (r : ℕ) (keys moves : List ℕ) : Type 0 where
  pub rank : r < length s.parts
  pub roots : r < length s.forest.roots
  pub order : IsReordering moves
  pub few : length moves < 2 ^ 32
  pub read : AllByRecursion (λ i. i < length keys) (sources moves)
  pub four : length (shared_at s.parts r).labels ≡ 4
  pub marks : AllByRecursion (AllByRecursion (λ (pair : ℕ × ℤ). pair.0 < length moves)) (shared_at s.parts r).labels
  pub fields : AllByRecursion (λ (f : List (List ℕ)). length f ≡ length moves) (shared_at s.parts r).fields
  pub few_vertices : length (shared_at s.parts r).vertices < 2 ^ 32
  pub at : length (shared_at s.parts r).at ≡ length (shared_at s.parts r).vertices

-- of a rank that has drawn what it holds of a mesh
drawn-fits : (s : PlainShared) (r : ℕ) (d : PlainDrawing) (keys moves : List ℕ) (m : Mesh) (dofs : List (List ℕ)) (a : List ℕ) (n : ℕ) → IsRankDrawn s r d keys moves m dofs a n → RankFits s r keys moves
drawn-fits s r d keys moves m dofs a n is =
    let order = moves-order s m dofs a n is.shared r is.rank moves is.moves_are in
    let long = moves-long s m dofs a n is.shared r is.rank moves is.moves_are in
    let keyed : length keys ≡ length moves = ap length is.keys_are ∙ length-map (own_chart m (assigned m a r)) (λ (t : Sight). unwrap_or (key m (point_of t)) 0) ∙ sym long in
    record {
      rank = omega (arith, is.rank, ranks-are s m dofs a n is.shared r is.rank);
      roots = roots-here s m dofs a n is.shared r is.rank;
      order = order;
      few = omega (arith, long, own-few s m dofs a n is.shared r is.rank);
      read = subst (λ k. AllByRecursion (λ i. i < k) (sources moves)) (sym keyed) (sources-low moves order);
      four = ap length (labels-here s m dofs a n is.shared r is.rank);
      marks = labels-fit s m dofs a n is.shared r is.rank moves is.moves_are;
      fields = fields-fit s m dofs a n is.shared r is.rank moves is.moves_are;
      few_vertices = few-vertices s m dofs a n is.shared r is.rank;
      at = at-long s m dofs a n is.shared r is.rank;
    }

-- of some mesh
pub rank-fits : (s : PlainShared) (r : ℕ) (d : PlainDrawing) (keys moves : List ℕ) → MayAssemble s r d keys moves → RankFits s r keys moves
rank-fits s r d keys moves may = drawn-fits s r d keys moves may.m may.dofs may.a may.n may.is
