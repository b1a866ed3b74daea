-- A rank owns as many cells as are assigned to it.
use Rattle.std.proofs.Common.{◌≡◌, ◌≢◌, ℕ, Bool, true, false, ◌&&◌, ◌||◌, ◌==◌, List, [], ◌∷◌, ◌++◌, map, length, get_or, refl, sym, ap, ap₂, ◌∙◌, ⊎_elim, arith, append-nil, zero-add}
use Rattle.std.specs.Prelude.{filter}
use Rattle.std.specs.List.{AllByRecursion, list_any}
use Rattle.std.proofs.lemmas.Bool.{eq-eqb, eqb-true, ne_eqb, and_parts, or_cases}
use Rattle.std.proofs.lemmas.List.{length-map, get_or-map}
use Rattle.std.proofs.lemmas.List.Elements.{All-from_get_or, recursion_from_All}
use Rattle.std.proofs.lemmas.List.Folds.{list_any-append}
use Rattle.std.proofs.lemmas.List.FromFn.{length-enumerate_from, get_or-enumerate_from}
use Rattle.std.proofs.lemmas.List.Sums.{length-filter}
use Rattle.plain_lists.specs.Lists.{same_list}
use Rattle.plain_lists.proofs.Each.{all_from, all_weaker, all_both, all_map, all_mapped, all_filter, all_enumerated}
use Rattle.plain_lists.proofs.Filters.{filter_whole, filter_none, filter_passing, filter_agree, filter-swap, filter-mapped}
use Rattle.plain_lists.proofs.Finding.{any_map, any_same, any_filter}
use Rattle.mesh_defs.specs.declared.Poly.TheVariants.{Vertex}
use Rattle.mesh_defs.specs.Tables.{dim_of}
use Rattle.mesh_defs.specs.Mesh.{Mesh, Cell, placed_cells}
use Rattle.mesh_defs.specs.Points.{Point, Sight, point_of, shows, cell_sight, vertex_sight, sights_of, contains}
use Rattle.mesh_defs.specs.Diagram.{stratum, strata, place_in, count_in}
use Rattle.mesh_defs.specs.Sights.{points_differ}
use Rattle.mesh_defs.specs.RightMesh.{IsSoundCell, IsRightMesh, in_some}
use Rattle.mesh_laws.proofs.Firsts.{shows-true}
use Rattle.rank_laws.specs.diagram_laws.Strata.{whole_sights}
use Rattle.rank_laws.proofs.diagram_laws.Parts.{of_dim, wholes-filtered, stratum-cells, cell-dims}
use Rattle.rank_defs.specs.Ranks.{rank_of, assigned, ranks_at, owner, owned}
use Rattle.rank_laws.proofs.Strata.{strata-differ}
use Rattle.rank_laws.proofs.Owning.{owner-at, points-in_cells, owned-of_all}
use Rattle.headline_laws.proofs.Charted.{each_tells}
use Rattle.headline_laws.proofs.Cones.{differ-filter}
use Rattle.headline_laws.proofs.step_laws.Tails.{of-dim, others, others-between, part-split, whole-dim}
use Rattle.headline_laws.proofs.step_laws.Roots.{own-place}

module _ (m : Mesh) (right : IsRightMesh m) where
  -- a cell as it sees itself
  abbrev itself : ℕ × Cell → Sight
  itself c = cell_sight c.0 c.1

  abbrev wholes : List Sight
  wholes = whole_sights (placed_cells m)

  -- ---- the points of the mesh's dimension

  wholes-are : filter (of_dim m.dim) (strata m) ≡ wholes
  wholes-are =
      part-split m right.sound.dim (of_dim m.dim)
      ∙ ap₂ (λ xs ys. xs ++ ys) (filter_whole (of_dim m.dim) (stratum m m.dim) (all_weaker (λ (s : Sight). dim_of s.poly ≡ m.dim) (λ s. of_dim m.dim s ≡ true) (λ s h. eq-eqb (dim_of s.poly) m.dim h) (stratum m m.dim) (of-dim m m.dim)))
      (ap₂ (λ xs ys. xs ++ ys)
      (filter_none (of_dim m.dim) (stratum m 0) (all_weaker (λ (s : Sight). dim_of s.poly ≡ 0) (λ s. of_dim m.dim s ≡ false) (λ s h. ne_eqb (dim_of s.poly) m.dim (λ e. whole-dim m right.sound.dim (of_dim m.dim) (sym e ∙ h))) (stratum m 0) (of-dim m 0)))
      (filter_none (of_dim m.dim) (others m right.sound.dim (of_dim m.dim)) (all_weaker (λ (s : Sight). (dim_of s.poly ≢ 0) × (dim_of s.poly ≢ m.dim)) (λ s. of_dim m.dim s ≡ false) (λ s h. ne_eqb (dim_of s.poly) m.dim h.1) (others m right.sound.dim (of_dim m.dim)) (others-between m right.sound.dim (of_dim m.dim)))))
      ∙ append-nil (stratum m m.dim) ∙ stratum-cells m right.sound.dim (cell-dims m right.sound) right.differ

  wholes-differ : points_differ wholes ≡ true
  wholes-differ = sym (ap points_differ wholes-are) ∙ differ-filter (of_dim m.dim) (strata m) (strata-differ m right.sound.dim)

  wholes-in_cells : AllByRecursion (λ c. in_some (point_of (itself c)) (placed_cells m) ≡ true) (placed_cells m)
  wholes-in_cells = all_mapped (λ s. in_some (point_of s) (placed_cells m) ≡ true) itself (placed_cells m)
      (coe 0 1 (i. AllByRecursion (λ s. in_some (point_of s) (placed_cells m) ≡ true) (wholes-are i)) (all_filter (λ s. in_some (point_of s) (placed_cells m) ≡ true) (of_dim m.dim) (strata m) (points-in_cells m right.sound.used)))

  -- ---- cells that contain a cell

  no_cell : ℕ × Cell
  no_cell = (0, record { poly = Vertex; vertices = [] })

  -- a cell stands at its place among the cells
  own-index : AllByRecursion (λ c. place_in wholes (point_of (itself c)) ≡ c.0) (placed_cells m)
  own-index = recursion_from_All (λ c. place_in wholes (point_of (itself c)) ≡ c.0) (placed_cells m)
      (All-from_get_or (λ c. place_in wholes (point_of (itself c)) ≡ c.0) (placed_cells m) no_cell (λ i lt.
      let many : length wholes ≡ length (placed_cells m) = length-map (placed_cells m) itself in
      let index : (get_or (placed_cells m) i no_cell).0 ≡ i = ap (λ (c : ℕ × Cell). c.0) (get_or-enumerate_from 0 m.cells i no_cell (omega (arith, lt, length-enumerate_from 0 m.cells))) ∙ zero-add i in
      ap (λ s. place_in wholes (point_of s)) (sym (get_or-map itself (placed_cells m) i no_cell (itself no_cell) lt))
      ∙ own-place wholes wholes-differ i (itself no_cell) (omega (arith, lt, many)) ∙ sym index))

  -- a cell that contains a point of its dimension shows it as itself
  shows-itself : (d : ℕ × Cell) → IsSoundCell m d.1 → (p : Point) → p.dim ≡ m.dim → contains d.1 p ≡ true → shows p (itself d) ≡ true
  unfolding contains
  shows-itself d good p dim h = ⊎_elim
      (λ v. each_tells (λ v. shows p (vertex_sight v)) (shows p (itself d)) d.1.vertices (all_from _ (λ v e. absurd (no_vertex (eqb-true p.dim 0 (and_parts (p.dim == 0) (same_list p.vertices (point_of (vertex_sight v)).vertices) e).0))) d.1.vertices) (sym (any_map (shows p) vertex_sight d.1.vertices) ∙ v))
      (λ s. alone (any_filter (shows p) (of_dim m.dim) (sights_of (0, d.1)) ∙ any_same (λ t. of_dim m.dim t && shows p t) (shows p) same (sights_of (0, d.1)) ∙ s))
      (or_cases (list_any (shows p) (map vertex_sight d.1.vertices)) (list_any (shows p) (sights_of (0, d.1))) (sym (list_any-append (shows p) (map vertex_sight d.1.vertices) (sights_of (0, d.1))) ∙ h))
    where
      no_vertex : p.dim ≡ 0 → ⊥
      no_vertex e = whole-dim m right.sound.dim (of_dim m.dim) (sym dim ∙ e)

      -- what shows it has its dimension
      implied : (a b : Bool) → (b ≡ true → a ≡ true) → (a && b) ≡ b
      implied true b f = refl
      implied false true f = absurd (cc (f refl))
      implied false false f = refl

      same : (t : Sight) → (of_dim m.dim t && shows p t) ≡ shows p t
      same t = implied (of_dim m.dim t) (shows p t) (λ e. eq-eqb (dim_of t.poly) m.dim (sym (eqb-true p.dim (dim_of t.poly) (and_parts (p.dim == dim_of t.poly) (same_list p.vertices (point_of t).vertices) e).0) ∙ dim))

      -- the cell alone
      lone : Mesh
      lone = record m { cells = d.1 ∷ [] }

      only : filter (of_dim m.dim) (sights_of (0, d.1)) ≡ cell_sight 0 d.1 ∷ []
      only = ap (filter (of_dim m.dim)) (sym (append-nil (sights_of (0, d.1)))) ∙ wholes-filtered lone right.sound.dim (good.dim, tt)

      either : (b : Bool) → (b || false) ≡ true → b ≡ true
      either true e = refl
      either false e = absurd (cc e)

      alone : list_any (shows p) (filter (of_dim m.dim) (sights_of (0, d.1))) ≡ true → shows p (itself d) ≡ true
      alone e = either (shows p (itself d)) (sym (ap (list_any (shows p)) only) ∙ e)

  -- no other cell contains it
  only-itself : AllByRecursion (λ c. AllByRecursion (λ d. contains d.1 (point_of (itself c)) ≡ true → d.0 ≡ c.0) (placed_cells m)) (placed_cells m)
  only-itself = all_both (λ c. place_in wholes (point_of (itself c)) ≡ c.0) (λ (c : ℕ × Cell). IsSoundCell m c.1) _ (λ c place sound.
      all_both (λ d. place_in wholes (point_of (itself d)) ≡ d.0) (λ (d : ℕ × Cell). IsSoundCell m d.1) (λ d. contains d.1 (point_of (itself c)) ≡ true → d.0 ≡ c.0)
      (λ d other good h. sym other ∙ ap (place_in wholes) (sym (shows-true (point_of (itself c)) (itself d) (shows-itself d good (point_of (itself c)) sound.dim h))) ∙ place)
      (placed_cells m) own-index sounds) (placed_cells m) own-index sounds
    where
      sounds : AllByRecursion (λ (c : ℕ × Cell). IsSoundCell m c.1) (placed_cells m)
      sounds = all_enumerated (IsSoundCell m) 0 m.cells right.sound.cells

  module _ (a : List ℕ) where
    -- a cell is owned by the rank to which it is assigned
    cell-owner : AllByRecursion (λ c. owner m a (point_of (itself c)) ≡ rank_of a c) (placed_cells m)
    unfolding ranks_at
    cell-owner = all_both (λ c. in_some (point_of (itself c)) (placed_cells m) ≡ true) (λ c. AllByRecursion (λ d. contains d.1 (point_of (itself c)) ≡ true → d.0 ≡ c.0) (placed_cells m)) _ one (placed_cells m) wholes-in_cells only-itself
      where
        one : (c : ℕ × Cell) → in_some (point_of (itself c)) (placed_cells m) ≡ true → AllByRecursion (λ d. contains d.1 (point_of (itself c)) ≡ true → d.0 ≡ c.0) (placed_cells m) → owner m a (point_of (itself c)) ≡ rank_of a c
        one c inside alone =
            let p = point_of (itself c) in
            let among = filter (λ (d : ℕ × Cell). contains d.1 p) (placed_cells m) in
            sym (eqb-true (rank_of a c) (owner m a p) (each_tells (λ q. q == owner m a p) (rank_of a c == owner m a p) (map (rank_of a) among)
            (all_map (λ q. (q == owner m a p) ≡ true → (rank_of a c == owner m a p) ≡ true) (rank_of a) among
            (all_both (λ (d : ℕ × Cell). contains d.1 p ≡ true → d.0 ≡ c.0) (λ (d : ℕ × Cell). contains d.1 p ≡ true) (λ d. (rank_of a d == owner m a p) ≡ true → (rank_of a c == owner m a p) ≡ true)
            (λ d own h e. ap (λ j. get_or a j 0 == owner m a p) (sym (own h)) ∙ e) among (all_filter (λ (d : ℕ × Cell). contains d.1 p ≡ true → d.0 ≡ c.0) (λ (d : ℕ × Cell). contains d.1 p) (placed_cells m) alone) (filter_passing (λ (d : ℕ × Cell). contains d.1 p) (placed_cells m))))
            (owner-at m a p inside)))

    pub cells-owned : (r : ℕ) → count_in m.dim (owned m a r) ≡ length (assigned m a r)
    unfolding assigned
    cells-owned r =
        ap (count_in m.dim) (owned-of_all m right.sound.used a r)
        ∙ sym (length-filter (of_dim m.dim) (filter mine (strata m)))
        ∙ ap length (filter-swap (of_dim m.dim) mine (strata m) ∙ ap (filter mine) wholes-are ∙ sym (filter-mapped itself mine (placed_cells m)))
        ∙ length-map (filter (λ c. mine (itself c)) (placed_cells m)) itself
        ∙ ap length (filter_agree (λ c. mine (itself c)) (λ c. rank_of a c == r) (placed_cells m) (all_weaker (λ c. owner m a (point_of (itself c)) ≡ rank_of a c) (λ c. mine (itself c) ≡ (rank_of a c == r)) (λ c e. ap (λ j. j == r) e) (placed_cells m) cell-owner))
      where
        mine : Sight → Bool
        mine s = owner m a (point_of s) == r
