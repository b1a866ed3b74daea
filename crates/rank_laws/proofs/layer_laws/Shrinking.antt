-- Back to no overlap: which points stay, and which cells are a rank's own.
use Rattle.std.proofs.Common.{◌≡◌, ◌≢◌, ℕ, ◌+◌, ◌*◌, true, ◌&&◌, ◌==◌, ◌-◌, List, ◌++◌, Some, Contains, refl, sym, ap, ◌∙◌, subst, inl, inr, arith}
use Rattle.std.specs.List.{list_any, AllByRecursion, filter, enumerate_from}
use Rattle.std.proofs.lemmas.Bool.{and_parts, and_from, eqb-true, eq-eqb, or_left}
use Rattle.std.proofs.lemmas.List.Elements.{All-contains_itself, recursion_from_All}
use Rattle.plain_lists.proofs.Each.{all_weaker, all_from, all_map, all_mapped, all_contained, all_append_first, all_enumerated}
use Rattle.plain_lists.proofs.Filters.{filter_filter, filter_agree, filter_within}
use Rattle.plain_lists.proofs.Finding.{same_tests, any_map, any_filter, among}
use Rattle.mesh_defs.specs.Tables.{Facet, dim_of, facets_of, edges_of}
use Rattle.mesh_defs.specs.Mesh.{Mesh, Cell, placed_cells}
use Rattle.mesh_defs.specs.Points.{Point, Sight, point_on, point_of, shows, sights_of, first_sight, cell_sight, cell_face, cell_faces, cell_edges, contains}
use Rattle.mesh_defs.specs.Diagram.{stratum, strata, chart}
use Rattle.mesh_defs.specs.RightMesh.{IsFlatOrSolid, IsSoundCell, IsSoundMesh, CellsDiffer, in_some}
use Rattle.mesh_laws.proofs.Firsts.{shows-own, shows-true}
use Rattle.mesh_laws.proofs.Containing.{all_sights_of}
use Rattle.rank_laws.proofs.diagram_laws.Parts.{stratum-cells, cell-dims}
use Rattle.rank_laws.proofs.diagram_laws.Cones.{facets-lower}
use Rattle.rank_defs.specs.Ranks.{rank_of, assigned, held_cells, held, ranks_at, owner}
use Rattle.rank_laws.proofs.Strata.{strata-first}
use Rattle.rank_laws.proofs.Owning.{in_assigned, owner-at, owner-assigned, layers-have, held-are_cells}
use Rattle.rank_laws.specs.orient_laws.Named.{chart_stratum}
use Rattle.rank_laws.proofs.orient_laws.Seen.{cell-seen}
use Rattle.rank_laws.proofs.reach_laws.Charts.{some-contains}
use Rattle.rank_laws.proofs.layer_laws.Around.{placed-once}

-- ---- charts

-- without overlap a rank has the points of its assigned cells
pub chart-shrinks : (m : Mesh) (a : List ℕ) (r k : ℕ) → filter (λ s. in_some (point_of s) (assigned m a r)) (held m a r k) ≡ held m a r 0
unfolding held chart held_cells
chart-shrinks m a r k = filter_within (λ s. in_some (point_of s) (assigned m a r)) (λ s. in_some (point_of s) (held_cells m a r k)) (λ s h. layers-have m a r k (λ (c : ℕ × Cell). contains c.1 (point_of s)) h) (strata m)

-- ---- cells

-- the point of a cell
abbrev pub whole : ℕ × Cell → Point
whole c = point_on c.1.poly c.1.vertices

module _ (m : Mesh) (sound : IsSoundMesh m) (differ : CellsDiffer m) where
  not_vertices : m.dim ≢ 0
  not_vertices e = go sound.dim
    where
      go : IsFlatOrSolid m → ⊥
      go (inl flat) = absurd (omega (arith, flat, e))
      go (inr solid) = absurd (omega (arith, solid, e))

  -- in the dimension of the mesh a cell sees itself alone
  sees-itself : (c : ℕ) (cell : Cell) → IsSoundCell m cell → AllByRecursion (λ (s : Sight). dim_of s.poly ≡ m.dim → point_of s ≡ point_on cell.poly cell.vertices) (sights_of (c, cell))
  sees-itself c cell good = all_sights_of (λ (s : Sight). dim_of s.poly ≡ m.dim → point_of s ≡ point_on cell.poly cell.vertices) c cell (λ e. refl)
      (λ solid. all_weaker (λ (f : ℕ × Facet). 1 + dim_of f.1.poly ≡ dim_of cell.poly) (λ f. dim_of (cell_face c cell f).poly ≡ m.dim → point_of (cell_face c cell f) ≡ point_on cell.poly cell.vertices) (λ f low e. absurd (omega (arith, low, e, good.dim)))
      (enumerate_from 0 (facets_of cell.poly)) (all_enumerated (λ (f : Facet). 1 + dim_of f.poly ≡ dim_of cell.poly) 0 (facets_of cell.poly) (all_weaker (λ (f : Facet). dim_of f.poly ≡ dim_of cell.poly - 1) (λ (f : Facet). 1 + dim_of f.poly ≡ dim_of cell.poly) (λ f low. omega (arith, low, solid)) (facets_of cell.poly) (facets-lower cell.poly))))
      (all_from _ (λ e same. absurd (no_edge same)) (enumerate_from 0 (edges_of cell.poly)))
    where
      no_edge : 1 ≡ m.dim → ⊥
      no_edge e = go sound.dim
        where
          go : IsFlatOrSolid m → ⊥
          go (inl flat) = absurd (omega (arith, flat, e))
          go (inr solid) = absurd (omega (arith, solid, e))

  good-at : (c : ℕ × Cell) → Contains (placed_cells m) c → IsSoundCell m c.1
  good-at c placed = all_contained (λ (d : ℕ × Cell). IsSoundCell m d.1) (placed_cells m) c (all_enumerated (IsSoundCell m) 0 m.cells sound.cells) placed

  -- each cell is first seen by itself
  first-itself : (c : ℕ × Cell) → Contains (placed_cells m) c → first_sight m (whole c) ≡ Some (cell_sight c.0 c.1)
  unfolding strata
  first-itself c placed = all_contained (λ (d : ℕ × Cell). first_sight m (whole d) ≡ Some (cell_sight d.0 d.1)) (placed_cells m) c
      (all_mapped (λ s. first_sight m (point_of s) ≡ Some s) (λ (d : ℕ × Cell). cell_sight d.0 d.1) (placed_cells m)
      (subst (AllByRecursion (λ s. first_sight m (point_of s) ≡ Some s)) (stratum-cells m sound.dim (cell-dims m sound) differ)
      (all_append_first (λ s. first_sight m (point_of s) ≡ Some s) (stratum m m.dim) (stratum m 0) (all_append_first (λ s. first_sight m (point_of s) ≡ Some s) (stratum m m.dim ++ stratum m 0) _ (all_append_first (λ s. first_sight m (point_of s) ≡ Some s) (stratum m m.dim ++ stratum m 0 ++ _) (stratum m 1) (strata-first m)))))) placed

  -- no other cell contains a cell's own point
  pub cell-alone : (c d : ℕ × Cell) → Contains (placed_cells m) c → Contains (placed_cells m) d → contains d.1 (whole c) ≡ true → d ≡ c
  cell-alone c d here there h =
      let top : dim_of c.1.poly ≡ m.dim = (good-at c here).dim in
      let (s, alone, shown) = among (λ (s : Sight). dim_of s.poly ≡ m.dim → point_of s ≡ point_on d.1.poly d.1.vertices) (shows (whole c)) (sights_of d) (sees-itself d.0 d.1 (good-at d there)) (sym (cell-seen (whole c) (λ e. not_vertices (sym top ∙ e)) d) ∙ h) in
      let same : whole c ≡ whole d = shows-true (whole c) s shown ∙ alone (ap (λ (p : Point). p.dim) (sym (shows-true (whole c) s shown)) ∙ top) in
      let sights : cell_sight c.0 c.1 ≡ cell_sight d.0 d.1 = cc (sym (first-itself c here) ∙ (ap (first_sight m) same ∙ first-itself d there)) in
      let keys : 64 * c.0 ≡ 64 * d.0 = ap (λ (t : Sight). t.key) sights in
      placed-once m d c there here (omega (arith, keys))

  -- a cell contains its own point
  own-contained : (c : ℕ × Cell) → Contains (placed_cells m) c → contains c.1 (whole c) ≡ true
  unfolding sights_of
  own-contained c here = cell-seen (whole c) (λ e. not_vertices (sym (good-at c here).dim ∙ e)) c ∙ or_left (shows (whole c) (cell_sight c.0 c.1)) (list_any (shows (whole c)) (cell_faces c.0 c.1 ++ cell_edges c.0 c.1)) (shows-own (cell_sight c.0 c.1))

  -- a rank at a cell's own point is the cell's
  rank-there : (a : List ℕ) (c : ℕ × Cell) (r : ℕ) → Contains (placed_cells m) c → list_any (λ q. q == r) (ranks_at m a (whole c)) ≡ true → r ≡ rank_of a c
  unfolding ranks_at
  rank-there a c r here h =
      let (d, there, both) = among (Contains (placed_cells m)) (λ (d : ℕ × Cell). contains d.1 (whole c) && (rank_of a d == r)) (placed_cells m) (recursion_from_All (Contains (placed_cells m)) (placed_cells m) (All-contains_itself (placed_cells m)))
      (sym (any_map (λ q. q == r) (rank_of a) (filter (λ (d : ℕ × Cell). contains d.1 (whole c)) (placed_cells m)) ∙ any_filter (λ d. rank_of a d == r) (λ (d : ℕ × Cell). contains d.1 (whole c)) (placed_cells m)) ∙ h) in
      let parts = and_parts (contains d.1 (whole c)) (rank_of a d == r) both in
      sym (ap (rank_of a) (sym (cell-alone c d here there parts.0)) ∙ eqb-true (rank_of a d) r parts.1)

  pub cell-owner : (a : List ℕ) (c : ℕ × Cell) → Contains (placed_cells m) c → owner m a (whole c) ≡ rank_of a c
  cell-owner a c here = rank-there a c (owner m a (whole c)) here (owner-at m a (whole c) (some-contains (placed_cells m) c (whole c) here (own-contained c here)))

  -- of the cells that it holds a rank owns its assigned ones
  pub owned-cells : (a : List ℕ) (r k : ℕ) → filter (λ s. owner m a (point_of s) == r) (chart_stratum m (held_cells m a r k) m.dim) ≡ chart_stratum m (assigned m a r) m.dim
  unfolding chart_stratum
  owned-cells a r k =
      filter_filter (λ s. owner m a (point_of s) == r) (λ s. in_some (point_of s) (held_cells m a r k)) (stratum m m.dim)
      ∙ filter_agree (λ s. in_some (point_of s) (held_cells m a r k) && (owner m a (point_of s) == r)) (λ s. in_some (point_of s) (assigned m a r)) (stratum m m.dim)
      (subst (AllByRecursion (λ s. (in_some (point_of s) (held_cells m a r k) && (owner m a (point_of s) == r)) ≡ in_some (point_of s) (assigned m a r))) (sym (stratum-cells m sound.dim (cell-dims m sound) differ))
      (all_map (λ s. (in_some (point_of s) (held_cells m a r k) && (owner m a (point_of s) == r)) ≡ in_some (point_of s) (assigned m a r)) (λ (c : ℕ × Cell). cell_sight c.0 c.1) (placed_cells m)
      (all_weaker (Contains (placed_cells m)) (λ (c : ℕ × Cell). (in_some (whole c) (held_cells m a r k) && (owner m a (whole c) == r)) ≡ in_some (whole c) (assigned m a r)) one (placed_cells m) (recursion_from_All (Contains (placed_cells m)) (placed_cells m) (All-contains_itself (placed_cells m))))))
    where
      one : (c : ℕ × Cell) → Contains (placed_cells m) c → (in_some (whole c) (held_cells m a r k) && (owner m a (whole c) == r)) ≡ in_some (whole c) (assigned m a r)
      one c here = same_tests (in_some (whole c) (held_cells m a r k) && (owner m a (whole c) == r)) (in_some (whole c) (assigned m a r))
          (λ h. let both = and_parts (in_some (whole c) (held_cells m a r k)) (owner m a (whole c) == r) h in
          subst (λ q. in_some (whole c) (assigned m a q) ≡ true) (eqb-true (owner m a (whole c)) r both.1) (owner-assigned m a (whole c) (held-are_cells m a r k (λ (d : ℕ × Cell). contains d.1 (whole c)) both.0)))
          (λ h. and_from (in_some (whole c) (held_cells m a r k)) (owner m a (whole c) == r) (layers-have m a r k (λ (d : ℕ × Cell). contains d.1 (whole c)) h)
          (eq-eqb (owner m a (whole c)) r (cell-owner a c here ∙ sym (rank-there a c r here (sym (in_assigned m a r (whole c)) ∙ h)))))
