-- Vertices of charts, and layers by vertices.
use Rattle.std.proofs.Common.{◌≡◌, ◌≢◌, ℕ, suc, ◌<◌, Bool, true, false, ◌&&◌, ◌||◌, ◌==◌, List, [], ◌∷◌, ◌++◌, map, length, get_or, Contains, refl, sym, ap, ap₂, ◌∙◌, subst, inl, inr, ⊎_elim, arith, append-nil}
use Rattle.std.specs.Prelude.{flat_map}
use Rattle.std.specs.List.{list_any, AllByRecursion, filter}
use Rattle.std.proofs.lemmas.Bool.{and_parts, and_from, and_left, eqb-true, eq-eqb, ne_eqb, or_right, or_cases}
use Rattle.std.proofs.lemmas.List.{map-id}
use Rattle.std.proofs.lemmas.List.Folds.{list_any-append}
use Rattle.std.proofs.lemmas.List.Elements.{All-contains_itself, recursion_from_All, filter-append}
use Rattle.mesh_defs.specs.declared.Poly.{Poly}
use Rattle.mesh_defs.specs.declared.Poly.TheVariants.{Vertex, Segment, Triangle, Quad, Tet, Hex}
use Rattle.plain_lists.specs.Lists.{below, same_list}
use Rattle.plain_lists.proofs.Each.{all_weaker, all_both, all_from, all_at, all_contained, all_mapped, all_enumerated}
use Rattle.plain_lists.proofs.Filters.{filter_whole, filter_none, filter_agree, filter-mapped, map_map_same}
use Rattle.plain_lists.proofs.Finding.{same_tests, any_map, any_same, any_filter, any_weaker, any_implied, among, none_passes, stands}
use Rattle.mesh_defs.specs.Tables.{dim_of, corner_count}
use Rattle.mesh_defs.specs.Mesh.{Mesh, Cell, placed_cells}
use Rattle.mesh_defs.specs.Points.{Sight, point_of, shows, sights_of, vertex_sight, contains}
use Rattle.mesh_defs.specs.Diagram.{stratum, chart}
use Rattle.mesh_defs.specs.RightMesh.{IsFlatOrSolid, IsSoundCell, IsSoundMesh, AreCells, in_some}
use Rattle.mesh_laws.proofs.Containing.{eqb-sym, shows-vertex}
use Rattle.rank_laws.proofs.diagram_laws.Edges.{OfDim}
use Rattle.sf_defs.specs.Asks.{IsRising}
use Rattle.rank_defs.specs.Ranks.{IsAssignment, assigned, touches, layer, held_cells, held}
use Rattle.rank_defs.specs.Spread.{vertices_among}
use Rattle.rank_laws.proofs.ChartsClosed.{held-cells}
use Rattle.rank_laws.specs.share_laws.Charts.{vertex_point}
use Rattle.rank_laws.proofs.share_laws.Own.{HasDim, sight-dims, sound-cells}
use Rattle.rank_laws.specs.orient_laws.Named.{keys_of, chart_stratum}
use Rattle.rank_laws.proofs.orient_laws.ByKey.{chart-strata, placed-order}
use Rattle.rank_laws.proofs.reach_laws.Charts.{chart-members}
use Rattle.rank_laws.proofs.keyed_laws.Strata.{part, face_part, part-of_dim, faces-of_dim}
use Rattle.rank_laws.proofs.keyed_laws.Unions.{any-flat_map, any-swap, any-and, any-below, any-by_ranks, given-key, given-keys}
use Rattle.rank_laws.specs.layer_laws.Around.{cells_at}

-- ---- the vertices of a chart

module _ (m : Mesh) (cells : List (ℕ × Cell)) (dims : IsFlatOrSolid m) where
  is_vertex : Sight → Bool
  is_vertex s = dim_of s.poly == 0

  others-out : (d : ℕ) (ss : List Sight) → d ≢ 0 → AllByRecursion (OfDim d) ss → filter is_vertex ss ≡ []
  unfolding is_vertex
  others-out d ss ne h = filter_none is_vertex ss (all_weaker (OfDim d) (λ s. is_vertex s ≡ false) (λ s e. ne_eqb (dim_of s.poly) 0 (λ z. ne (sym e ∙ z))) ss h)

  not_vertices : m.dim ≢ 0
  not_vertices e = go dims
    where
      go : IsFlatOrSolid m → ⊥
      go (inl flat) = absurd (omega (arith, flat, e))
      go (inr solid) = absurd (omega (arith, solid, e))

  vertex-part : filter is_vertex (chart m cells) ≡ part m cells 0
  unfolding is_vertex
  vertex-part =
      ap (filter is_vertex) (chart-strata m cells)
      ∙ (filter-append is_vertex (part m cells m.dim ++ part m cells 0 ++ face_part m cells) (part m cells 1)
      ∙ (ap₂ (λ k l. k ++ l) (filter-append is_vertex (part m cells m.dim ++ part m cells 0) (face_part m cells)
      ∙ ap₂ (λ k l. k ++ l) (filter-append is_vertex (part m cells m.dim) (part m cells 0)
      ∙ ap₂ (λ k l. k ++ l) (others-out m.dim (part m cells m.dim) not_vertices (part-of_dim m cells m.dim))
      (filter_whole is_vertex (part m cells 0) (all_weaker (OfDim 0) (λ s. is_vertex s ≡ true) (λ s e. eq-eqb (dim_of s.poly) 0 e) (part m cells 0) (part-of_dim m cells 0))))
      (others-out 2 (face_part m cells) (λ e. absurd (omega (arith, e))) (faces-of_dim m cells)))
      (others-out 1 (part m cells 1) (λ e. absurd (omega (arith, e))) (part-of_dim m cells 1))
      ∙ (append-nil (part m cells 0 ++ []) ∙ append-nil (part m cells 0))))

  pub vertices-here : vertices_among (chart m cells) ≡ filter (λ v. in_some (vertex_point v) cells) (below (length m.at))
  unfolding is_vertex chart_stratum stratum
  vertices-here =
      ap (map (λ (s : Sight). s.key)) (vertex-part ∙ sym (filter-mapped vertex_sight (λ s. in_some (point_of s) cells) (below (length m.at))))
      ∙ (map_map_same (λ (s : Sight). s.key) vertex_sight (λ v. v) (filter (λ v. in_some (vertex_point v) cells) (below (length m.at))) (all_from (λ v. (vertex_sight v).key ≡ v) (λ v. refl) (filter (λ v. in_some (vertex_point v) cells) (below (length m.at))))
      ∙ map-id (filter (λ v. in_some (vertex_point v) cells) (below (length m.at))))

  -- some vertex of the chart passes a test
  any-vertex : (test : ℕ → Bool) → list_any test (vertices_among (chart m cells)) ≡ list_any (λ v. in_some (vertex_point v) cells && test v) (below (length m.at))
  any-vertex test = ap (list_any test) vertices-here ∙ any_filter test (λ v. in_some (vertex_point v) cells) (below (length m.at))

-- ---- the vertices of a cell

-- a sound cell contains a vertex where it is one of its own
contains-vertex : (m : Mesh) (cell : Cell) (v : ℕ) → IsFlatOrSolid m → IsSoundCell m cell → contains cell (vertex_point v) ≡ list_any (λ w. w == v) cell.vertices
unfolding contains
contains-vertex m cell v dims good =
    list_any-append (shows (vertex_point v)) (map vertex_sight cell.vertices) (sights_of (0, cell))
    ∙ (ap₂ (λ s t. s || t) (any_map (shows (vertex_point v)) vertex_sight cell.vertices ∙ any_same (λ w. shows (vertex_point v) (vertex_sight w)) (λ w. w == v) (λ w. shows-vertex v w ∙ eqb-sym v w) cell.vertices)
    (none_passes (shows (vertex_point v)) (sights_of (0, cell)) (all_weaker (λ (s : Sight). HasDim m (dim_of s.poly)) (λ s. shows (vertex_point v) s ≡ false) (λ s h. and_left (0 == dim_of s.poly) (same_list (vertex_point v).vertices (point_of s).vertices) (ne_eqb 0 (dim_of s.poly) (positive (dim_of s.poly) h))) (sights_of (0, cell)) (sight-dims m 0 cell good)))
    ∙ last (list_any (λ w. w == v) cell.vertices))
  where
    last : (b : Bool) → (b || false) ≡ b
    last true = refl
    last false = refl

    positive : (d : ℕ) → HasDim m d → 0 ≢ d
    positive d (inl top) e = go dims
      where
        go : IsFlatOrSolid m → ⊥
        go (inl flat) = absurd (omega (arith, flat, e, top))
        go (inr solid) = absurd (omega (arith, solid, e, top))
    positive d (inr (inl one)) e = absurd (omega (arith, one, e))
    positive d (inr (inr two)) e = absurd (omega (arith, two.0, e))

-- polytopes have corners
some-corner : (p : Poly) → 0 < corner_count p
some-corner Vertex = omega arith
some-corner Segment = omega arith
some-corner Triangle = omega arith
some-corner Quad = omega arith
some-corner Tet = omega arith
some-corner Hex = omega arith

-- a test that passes at a number below n passes at some of them
any-at : (test : ℕ → Bool) (n v : ℕ) → v < n → test v ≡ true → list_any test (below n) ≡ true
any-at test n v low h = any_weaker (λ q. v == q) test (λ q e. subst (λ k. test k ≡ true) (eqb-true v q e) h) (below n) (any-below n v low)

-- things whose numbers rise are told by their numbers
pub rising-once : {X : Type 0} (key : X → ℕ) (xs : List X) → IsRising (map key xs) → AllByRecursion (λ x. AllByRecursion (λ y. key x ≡ key y → x ≡ y) xs) xs
rising-once key [] h = tt
rising-once key (x ∷ xs) h =
    let above = all_mapped (λ k. key x < k) key xs h.0 in (
      ((λ e. refl), all_weaker (λ y. key x < key y) (λ y. key x ≡ key y → x ≡ y) (λ y l e. absurd (omega (arith, l, e))) xs above),
      all_both (λ y. key x < key y) (λ y. AllByRecursion (λ z. key y ≡ key z → y ≡ z) xs) (λ y. AllByRecursion (λ z. key y ≡ key z → y ≡ z) (x ∷ xs)) (λ y l f. ((λ e. absurd (omega (arith, l, e))), f)) xs above (rising-once key xs h.1),
    )

-- cells of the mesh at one place are one
pub placed-once : (m : Mesh) (c d : ℕ × Cell) → Contains (placed_cells m) c → Contains (placed_cells m) d → c.0 ≡ d.0 → c ≡ d
placed-once m c d here there = all_contained (λ (e : ℕ × Cell). c.0 ≡ e.0 → c ≡ e) (placed_cells m) d
    (all_contained (λ (b : ℕ × Cell). AllByRecursion (λ (e : ℕ × Cell). b.0 ≡ e.0 → b ≡ e) (placed_cells m)) (placed_cells m) c (rising-once (λ (b : ℕ × Cell). b.0) (placed_cells m) (placed-order 0 m.cells)) here) there

-- ---- layers

module _ (m : Mesh) (cells : List (ℕ × Cell)) (sound : IsSoundMesh m) (are : AreCells m cells) where
  -- what is known of one of the cells
  record IsOne (d : ℕ × Cell) : Type 0 where
    pub good : IsSoundCell m d.1
    pub placed : Contains (placed_cells m) d
    pub there : (q : ℕ × Cell → Bool) → q d ≡ true → list_any q cells ≡ true

  all-ones : AllByRecursion IsOne cells
  all-ones = all_both (λ (d : ℕ × Cell). IsSoundCell m d.1 × Contains (placed_cells m) d) (λ (d : ℕ × Cell). (q : ℕ × Cell → Bool) → q d ≡ true → list_any q cells ≡ true) IsOne (λ d g s. record { good = g.0; placed = g.1; there = s }) cells
      (all_both (λ (d : ℕ × Cell). IsSoundCell m d.1) (Contains (placed_cells m)) _ (λ d a b. (a, b)) cells (sound-cells m sound cells are) are) (stands cells)

  -- the vertex is in the chart of the cells, and in the cell
  Meets : ℕ × Cell → ℕ → Bool
  Meets c v = in_some (vertex_point v) cells && contains c.1 (vertex_point v)

  module _ (c : ℕ × Cell) (good : IsSoundCell m c.1) (placed : Contains (placed_cells m) c) where
    -- a vertex that it has together with one of the cells
    meets-at : (d : ℕ × Cell) (v : ℕ) → IsOne d → v < length m.at → list_any (λ w. w == v) c.1.vertices ≡ true → list_any (λ w. w == v) d.1.vertices ≡ true → list_any (Meets c) (below (length m.at)) ≡ true
    unfolding Meets
    meets-at d v one low mine its = any-at (Meets c) (length m.at) v low
        (and_from (in_some (vertex_point v) cells) (contains c.1 (vertex_point v)) (one.there (λ (e : ℕ × Cell). contains e.1 (vertex_point v)) (contains-vertex m d.1 v sound.dim one.good ∙ its)) (contains-vertex m c.1 v sound.dim good ∙ mine))

    near-meets : list_any (λ (d : ℕ × Cell). (c.0 == d.0) || touches c.1 d.1) cells ≡ true → list_any (Meets c) (below (length m.at)) ≡ true
    near-meets h =
        let (d, one, near) = among IsOne (λ (d : ℕ × Cell). (c.0 == d.0) || touches c.1 d.1) cells all-ones h in
        ⊎_elim (same d one) (touched d one) (or_cases (c.0 == d.0) (touches c.1 d.1) near)
      where
        own : AllByRecursion (λ v. list_any (λ w. w == v) c.1.vertices ≡ true) c.1.vertices
        own = all_weaker (λ v. (p : ℕ → Bool) → p v ≡ true → list_any p c.1.vertices ≡ true) (λ v. list_any (λ w. w == v) c.1.vertices ≡ true) (λ v s. s (λ w. w == v) (eq-eqb v v refl)) c.1.vertices (stands c.1.vertices)

        same : (d : ℕ × Cell) → IsOne d → (c.0 == d.0) ≡ true → list_any (Meets c) (below (length m.at)) ≡ true
        same d one e =
            let is : c ≡ d = placed-once m c d placed one.placed (eqb-true c.0 d.0 e) in
            let some : 0 < length c.1.vertices = let k = some-corner c.1.poly in omega (arith, good.corners, k) in
            let mine = all_at (λ v. list_any (λ w. w == v) c.1.vertices ≡ true) c.1.vertices 0 0 own some in
            meets-at d (get_or c.1.vertices 0 0) one (all_at (λ v. v < length m.at) c.1.vertices 0 0 good.in_range some) mine (subst (λ (e : ℕ × Cell). list_any (λ w. w == get_or c.1.vertices 0 0) e.1.vertices ≡ true) is mine)

        touched : (d : ℕ × Cell) → IsOne d → touches c.1 d.1 ≡ true → list_any (Meets c) (below (length m.at)) ≡ true
        touched d one e =
            let (v, both, its) = among (λ v. (v < length m.at) × (list_any (λ w. w == v) c.1.vertices ≡ true)) (λ v. list_any (λ w. v == w) d.1.vertices) c.1.vertices (all_both (λ v. v < length m.at) (λ v. list_any (λ w. w == v) c.1.vertices ≡ true) _ (λ v a b. (a, b)) c.1.vertices good.in_range own) e in
            meets-at d v one both.0 both.1 (any_same (λ w. w == v) (λ w. v == w) (λ w. eqb-sym w v) d.1.vertices ∙ its)

    meets-near : list_any (Meets c) (below (length m.at)) ≡ true → list_any (λ (d : ℕ × Cell). (c.0 == d.0) || touches c.1 d.1) cells ≡ true
    unfolding Meets
    meets-near h =
        let (v, low, meets) = among (λ v. Unit {0}) (Meets c) (below (length m.at)) (all_from (λ v. Unit {0}) (λ v. tt) (below (length m.at))) h in
        let both = and_parts (in_some (vertex_point v) cells) (contains c.1 (vertex_point v)) meets in
        any_implied (λ (d : ℕ × Cell). contains d.1 (vertex_point v)) (λ (d : ℕ × Cell). (c.0 == d.0) || touches c.1 d.1) cells
        (all_weaker IsOne (λ (d : ℕ × Cell). contains d.1 (vertex_point v) ≡ true → ((c.0 == d.0) || touches c.1 d.1) ≡ true)
        (λ d one its. or_right (c.0 == d.0) (touches c.1 d.1) (touch d v (sym (contains-vertex m d.1 v sound.dim one.good) ∙ its) (sym (contains-vertex m c.1 v sound.dim good) ∙ both.1))) cells all-ones) both.0
      where
        touch : (d : ℕ × Cell) (v : ℕ) → list_any (λ w. w == v) d.1.vertices ≡ true → list_any (λ w. w == v) c.1.vertices ≡ true → touches c.1 d.1 ≡ true
        touch d v its mine = any_weaker (λ w. w == v) (λ u. list_any (λ w. u == w) d.1.vertices)
            (λ u e. any_same (λ w. u == w) (λ w. w == v) (λ w. ap (λ k. k == w) (eqb-true u v e) ∙ eqb-sym v w) d.1.vertices ∙ its) c.1.vertices mine

  pub layer-around : layer m cells ≡ filter (λ c. list_any (λ v. contains c.1 (vertex_point v)) (vertices_among (chart m cells))) (placed_cells m)
  unfolding layer Meets
  layer-around = filter_agree (λ (c : ℕ × Cell). list_any (λ (d : ℕ × Cell). (c.0 == d.0) || touches c.1 d.1) cells) (λ (c : ℕ × Cell). list_any (λ v. contains c.1 (vertex_point v)) (vertices_among (chart m cells))) (placed_cells m)
      (all_both (λ (c : ℕ × Cell). IsSoundCell m c.1) (Contains (placed_cells m)) (λ (c : ℕ × Cell). list_any (λ (d : ℕ × Cell). (c.0 == d.0) || touches c.1 d.1) cells ≡ list_any (λ v. contains c.1 (vertex_point v)) (vertices_among (chart m cells)))
      (λ c good placed. same_tests (list_any (λ (d : ℕ × Cell). (c.0 == d.0) || touches c.1 d.1) cells) (list_any (Meets c) (below (length m.at))) (near-meets c good placed) (meets-near c good placed) ∙ sym (any-vertex m cells sound.dim (λ v. contains c.1 (vertex_point v))))
      (placed_cells m) (all_enumerated (IsSoundCell m) 0 m.cells sound.cells) (recursion_from_All (Contains (placed_cells m)) (placed_cells m) (All-contains_itself (placed_cells m))))

-- the cells of the next layer, as the ranks know them at the vertices that are held
pub layer-told : (m : Mesh) (n : ℕ) (a : List ℕ) (r k : ℕ) (test : ℕ × Cell → Bool) → IsSoundMesh m → IsAssignment m n a
    → list_any test (held_cells m a r (suc k)) ≡ list_any (λ v. list_any (λ q. list_any test (cells_at m a q v)) (below n)) (vertices_among (held m a r k))
unfolding held_cells held cells_at
layer-told m n a r k test sound each =
    ap (list_any test) (layer-around m (held_cells m a r k) sound (held-cells m a r k))
    ∙ (any_filter test (λ c. list_any (λ v. contains c.1 (vertex_point v)) (vertices_among (chart m (held_cells m a r k)))) (placed_cells m)
    ∙ (any_same (λ c. list_any (λ v. contains c.1 (vertex_point v)) (vertices_among (chart m (held_cells m a r k))) && test c) (λ c. list_any (λ v. contains c.1 (vertex_point v) && test c) (vertices_among (chart m (held_cells m a r k))))
    (λ c. sym (any-and (λ v. contains c.1 (vertex_point v)) (test c) (vertices_among (chart m (held_cells m a r k))))) (placed_cells m)
    ∙ (any-swap (λ (c : ℕ × Cell) v. contains c.1 (vertex_point v) && test c) (placed_cells m) (vertices_among (chart m (held_cells m a r k)))
    ∙ any_same (λ v. list_any (λ (c : ℕ × Cell). contains c.1 (vertex_point v) && test c) (placed_cells m)) (λ v. list_any (λ q. list_any test (filter (λ (c : ℕ × Cell). contains c.1 (vertex_point v)) (assigned m a q))) (below n))
    (λ v. any-by_ranks m n a each (λ (c : ℕ × Cell). contains c.1 (vertex_point v) && test c)
    ∙ any_same (λ q. list_any (λ (c : ℕ × Cell). contains c.1 (vertex_point v) && test c) (assigned m a q)) (λ q. list_any test (filter (λ (c : ℕ × Cell). contains c.1 (vertex_point v)) (assigned m a q))) (λ q. sym (any_filter test (λ (c : ℕ × Cell). contains c.1 (vertex_point v)) (assigned m a q))) (below n))
    (vertices_among (chart m (held_cells m a r k))))))

-- a rank knows cells at a vertex just where it holds it without overlap
pub cells-held : (m : Mesh) (a : List ℕ) (r v : ℕ) → IsSoundMesh m → list_any (λ c. true) (cells_at m a r v) ≡ list_any (shows (vertex_point v)) (held m a r 0)
unfolding cells_at held held_cells
cells-held m a r v sound =
    any_filter (λ c. true) (λ (c : ℕ × Cell). contains c.1 (vertex_point v)) (assigned m a r)
    ∙ (any_same (λ (c : ℕ × Cell). contains c.1 (vertex_point v) && true) (λ (c : ℕ × Cell). contains c.1 (vertex_point v)) (λ c. alone (contains c.1 (vertex_point v))) (assigned m a r)
    ∙ sym (chart-members m (assigned m a r) sound (held-cells m a r 0) (vertex_point v)))
  where
    alone : (b : Bool) → (b && true) ≡ b
    alone true = refl
    alone false = refl

-- the cells at a vertex, by ranks
around : Mesh → List ℕ → ℕ → ℕ → List (ℕ × Cell)
around m a n v = flat_map (λ q. cells_at m a q v) (below n)

-- the keys of the next layer, as the ranks know them there
pub layer-keys : (m : Mesh) (n : ℕ) (a : List ℕ) (r k dim : ℕ) (keys : List ℕ) → IsSoundMesh m → IsAssignment m n a → IsRising keys
    → ((j : ℕ) → list_any (λ i. j == i) keys ≡ list_any (λ v. list_any (λ q. list_any (λ i. j == i) (keys_of (chart_stratum m (cells_at m a q v) dim))) (below n)) (vertices_among (held m a r k)))
    → keys ≡ keys_of (chart_stratum m (held_cells m a r (suc k)) dim)
unfolding around
layer-keys m n a r k dim keys sound each rises h = given-keys m (held_cells m a r (suc k)) (around m a n) (vertices_among (held m a r k))
    (λ test. layer-told m n a r k test sound each ∙ any_same (λ v. list_any (λ q. list_any test (cells_at m a q v)) (below n)) (λ v. list_any test (around m a n v)) (λ v. sym (any-flat_map test (λ q. cells_at m a q v) (below n))) (vertices_among (held m a r k)))
    dim keys rises
    (λ j. h j ∙ any_same (λ v. list_any (λ q. list_any (λ i. j == i) (keys_of (chart_stratum m (cells_at m a q v) dim))) (below n)) (λ v. list_any (λ i. j == i) (keys_of (chart_stratum m (around m a n v) dim)))
    (λ v. sym (given-key m (around m a n v) (λ q. cells_at m a q v) (below n) (λ test. any-flat_map test (λ q. cells_at m a q v) (below n)) dim j)) (vertices_among (held m a r k)))
