-- Cells stand in their chart as they see themselves, keys rise along every stratum, and a key names one point of a dimension.
use Rattle.std.proofs.Common.{◌≡◌, ◌≢◌, ℕ, zero, suc, ◌<◌, Bool, true, false, cond, ◌==◌, List, [], ◌∷◌, map, length, Contains, refl, sym, ap, ◌∙◌, subst, inl, inr, arith}
use Rattle.std.specs.Prelude.{IsPermutation, unwrap_or}
use Rattle.std.specs.List.{AllByRecursion, filter}
use Rattle.std.proofs.lemmas.List.{map-append}
use Rattle.std.proofs.lemmas.List.Sorted.{IsPermutation-refl}
use Rattle.plain_lists.specs.Lists.{below}
use Rattle.plain_lists.proofs.Below.{below-all}
use Rattle.plain_lists.proofs.Each.{all_weaker, all_both, all_map, all_filter, all_contained}
use Rattle.plain_lists.proofs.Filters.{filter_passing}
use Rattle.mesh_defs.specs.Tables.{dim_of}
use Rattle.mesh_defs.specs.Mesh.{Mesh, Cell, placed_cells}
use Rattle.mesh_defs.specs.Points.{Sight, point_of, sights, vertex_sight, vertex_sights}
use Rattle.mesh_defs.specs.Diagram.{stratum}
use Rattle.mesh_defs.specs.RightMesh.{IsFlatOrSolid, IsSoundMesh, CellsDiffer, AreCells, in_some}
use Rattle.mesh_laws.proofs.Firsts.{firsts-all}
use Rattle.rank_laws.proofs.diagram_laws.Parts.{wholes-filtered, stratum-cells, cell-dims}
use Rattle.sf_defs.specs.Asks.{IsRising}
use Rattle.rank_laws.proofs.ChartsClosed.{held-cells}
use Rattle.rank_defs.specs.Ranks.{rank_of, assigned, held_cells}
use Rattle.rank_defs.specs.Spread.{own_stratum}
use Rattle.rank_laws.specs.orient_laws.Named.{keys_of, chart_stratum, seen_first}
use Rattle.rank_laws.proofs.orient_laws.Rising.{rising-filter, rising-append}
use Rattle.rank_laws.proofs.orient_laws.Seen.{stratum-first, IsFirst}
use Rattle.rank_laws.proofs.orient_laws.ByKey.{own-rising, placed-order, by-key, AreInOrder}
use Rattle.rank_laws.proofs.orient_laws.OwnSights.{all-chosen, of_chosen, key-once}

-- ---- keys

vertices-rising : (n : ℕ) → IsRising (keys_of (map vertex_sight (below n)))
vertices-rising zero = tt
vertices-rising (suc n) = subst (λ ss. IsRising (keys_of ss)) (sym (map-append vertex_sight (below n) (n ∷ [])))
    (rising-append (λ (s : Sight). s.key) n (map vertex_sight (below n)) (vertex_sight n ∷ []) (vertices-rising n) (all_map (λ (s : Sight). s.key < n) vertex_sight (below n) (below-all n)) (tt, tt) (omega arith, tt))

-- the keys of a stratum rise
pub stratum-rising : (m : Mesh) (d : ℕ) → IsRising (keys_of (stratum m d))
unfolding stratum
stratum-rising m d = go (d == 0)
  where
    go : (b : Bool) → IsRising (keys_of (cond b (vertex_sights m) (own_stratum (placed_cells m) d)))
    go true = vertices-rising (length m.at)
    go false = own-rising d (placed_cells m) (placed-order 0 m.cells)

-- those of a stratum of a chart too
pub chart_stratum-rising : (m : Mesh) (cells : List (ℕ × Cell)) (d : ℕ) → IsRising (keys_of (chart_stratum m cells d))
unfolding chart_stratum
chart_stratum-rising m cells d = rising-filter (λ (s : Sight). s.key) (λ s. in_some (point_of s) cells) (stratum m d) (stratum-rising m d)

-- a key names one point of a stratum
pub key-names : (m : Mesh) (d : ℕ) (s t : Sight) → Contains (stratum m d) s → Contains (stratum m d) t → s.key ≡ t.key → s ≡ t
key-names m d s t here there = all_contained (λ (u : Sight). s.key ≡ u.key → s ≡ u) (stratum m d) t (all_contained (λ (v : Sight). AllByRecursion (λ (u : Sight). v.key ≡ u.key → v ≡ u) (stratum m d)) (stratum m d) s (key-once (stratum m d) (stratum-rising m d)) here) there

-- ---- cells and vertices

-- what each of some things is mapped to itself by
map-stays : {X : Type 0} (f : X → X) (xs : List X) → AllByRecursion (λ x. f x ≡ x) xs → map f xs ≡ xs
map-stays f [] h = refl
map-stays f (x ∷ xs) h = λ i. h.0 i ∷ map-stays f xs h.1 i

-- a first sight is named by itself
seen_first-stays : (m : Mesh) (s : Sight) → IsFirst m s → seen_first m s ≡ s
unfolding seen_first
seen_first-stays m s e = ap (λ o. unwrap_or o s) e

-- the cells of a rank are in order
pub assigned-order : (m : Mesh) (a : List ℕ) (r : ℕ) → AreInOrder (assigned m a r)
unfolding assigned
assigned-order m a r = rising-filter (λ (c : ℕ × Cell). c.0) (λ c. rank_of a c == r) (placed_cells m) (placed-order 0 m.cells)

-- and cells of the mesh
pub assigned-cells : (m : Mesh) (a : List ℕ) (r : ℕ) → AreCells m (assigned m a r)
unfolding held_cells
assigned-cells m a r = held-cells m a r 0

module _ (m : Mesh) (sound : IsSoundMesh m) (differ : CellsDiffer m) (a : List ℕ) (r : ℕ) where
  not_vertices : m.dim ≢ 0
  not_vertices = go sound.dim
    where
      go : IsFlatOrSolid m → m.dim ≢ 0
      go (inl flat) e = absurd (omega (arith, flat, e))
      go (inr solid) e = absurd (omega (arith, solid, e))

  -- of the sights of all cells those of cells are first ones
  cells-first : AllByRecursion (λ (s : Sight). (dim_of s.poly == m.dim) ≡ true → IsFirst m s) (sights (placed_cells m))
  cells-first = all-chosen (IsFirst m) (λ s. dim_of s.poly == m.dim) (sights (placed_cells m))
      (subst (AllByRecursion (IsFirst m)) (stratum-cells m sound.dim (cell-dims m sound) differ ∙ sym (wholes-filtered m sound.dim (cell-dims m sound))) (stratum-first m m.dim not_vertices))

  own-first : AllByRecursion (IsFirst m) (own_stratum (assigned m a r) m.dim)
  unfolding assigned
  own-first =
      let mine : List Sight = sights (filter (λ c. rank_of a c == r) (placed_cells m)) in
      let Wise : Sight → Type 0 = λ s. (dim_of s.poly == m.dim) ≡ true → IsFirst m s in
      firsts-all (IsFirst m) (filter (λ s. dim_of s.poly == m.dim) mine)
      (all_both Wise (λ s. (dim_of s.poly == m.dim) ≡ true) (IsFirst m) (λ s f e. f e) (filter (λ s. dim_of s.poly == m.dim) mine)
      (all_filter Wise (λ s. dim_of s.poly == m.dim) mine (of_chosen Wise (λ c. rank_of a c == r) (placed_cells m) cells-first))
      (filter_passing (λ s. dim_of s.poly == m.dim) mine))

  -- the cells of a rank stand in its chart as it sees them itself
  pub top-stratum : own_stratum (assigned m a r) m.dim ≡ chart_stratum m (assigned m a r) m.dim
  top-stratum =
      let own : List Sight = own_stratum (assigned m a r) m.dim in
      by-key m (assigned m a r) m.dim not_vertices (assigned-cells m a r) own
      (subst (λ l. IsPermutation l own) (sym (map-stays (seen_first m) own (all_weaker (IsFirst m) (λ s. seen_first m s ≡ s) (seen_first-stays m) own own-first))) (IsPermutation-refl own))
      (own-rising m.dim (assigned m a r) (assigned-order m a r))
