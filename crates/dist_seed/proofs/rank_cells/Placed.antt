-- The cells of a rank by their places.
use Rattle.std.proofs.Common.{◌≡◌, ℕ, suc, ◌+◌, ◌<◌, Bool, ◌==◌, List, [], ◌∷◌, map, length, get_or, slice_index, refl, sym, ap, ◌∙◌, subst, arith, zero-add}
use Rattle.std.specs.List.{list_any, AllByRecursion, filter, enumerate_from}
use Rattle.std.proofs.lemmas.List.{same_lists, length-map, get_or-map}
use Rattle.std.proofs.lemmas.List.FromFn.{length-enumerate_from, get_or-enumerate_from}
use Rattle.plain_lists.specs.Lists.{below}
use Rattle.plain_lists.proofs.Below.{length-below, get_or-below, below-all}
use Rattle.plain_lists.proofs.Each.{all_weaker, all_from, all_filter, all_map}
use Rattle.plain_lists.proofs.Filters.{filter-mapped, filter_agree, map_map_same}
use Rattle.plain_lists.proofs.Finding.{any_map, any_agree}
use Rattle.mesh_defs.specs.declared.Poly.TheVariants.{Vertex}
use Rattle.mesh_defs.specs.Mesh.{Mesh, Cell, placed_cells}
use Rattle.plex_mesh.specs.Right.{cell_at}
use Rattle.rank_defs.specs.Ranks.{assigned, rank_of}
use Rattle.dist_state.specs.scatter_state.Parts.{number_of}
use Rattle.headline_laws.specs.seed_laws.Given.{has_vertex, vertices_of}
use Rattle.headline_laws.specs.seed_laws.Asked.{rank_vertices}
use Rattle.dist_seed.specs.rank_cells.Seen.{some_has}

-- the places of all cells are the numbers below their count
numbers-placed : (cells : List Cell) → map number_of (enumerate_from 0 cells) ≡ below (length cells)
numbers-placed cells =
    let count = length-map (enumerate_from 0 cells) number_of in
    let all = length-enumerate_from 0 cells in
    let size = length-below (length cells) in
    same_lists (map number_of (enumerate_from 0 cells)) (below (length cells)) (omega (arith, count, all, size))
    (λ k d low.
    let within : k < length cells = omega (arith, low, count, all) in
    let other : Cell = cell_at cells k in
    get_or-map number_of (enumerate_from 0 cells) k (0, other) d (omega (arith, within, all))
    ∙ ap number_of (get_or-enumerate_from 0 cells k (0, other) within)
    ∙ number-at k
    ∙ sym (get_or-below (length cells) k d within))
  where
    number-at : (k : ℕ) → 0 + k ≡ k
    number-at k = omega arith

module _ (m : Mesh) (a : List ℕ) (count : length a ≡ length m.cells) (r : ℕ) where
  -- the places of a rank's cells are those with its number
  pub numbers-assigned : filter (λ c. slice_index a c == r) (below (length a)) ≡ map number_of (assigned m a r)
  unfolding assigned
  numbers-assigned =
      ap (λ n. filter (λ c. slice_index a c == r) (below n)) count
      ∙ ap (filter (λ c. slice_index a c == r)) (sym (numbers-placed m.cells))
      ∙ sym (filter-mapped number_of (λ c. slice_index a c == r) (placed_cells m))

-- each of the cells is the one at its place
IsPlaced : Mesh → ℕ × Cell → Type 0
IsPlaced m c = (c.0 < length m.cells) × (cell_at m.cells c.0 ≡ c.1)

all-by_place : {X : Type 0} (P : X → Type 0) (xs : List X) (d : X) → ((k : ℕ) → k < length xs → P (get_or xs k d)) → AllByRecursion P xs
all-by_place P [] d h = tt
all-by_place P (x ∷ xs) d h = (h 0 (omega arith), all-by_place P xs d (λ k low. h (suc k) (omega (arith, low))))

no_cell : Cell
no_cell = record { poly = Vertex; vertices = [] }

placed-each : (m : Mesh) → AllByRecursion (IsPlaced m) (placed_cells m)
unfolding IsPlaced no_cell
placed-each m = all-by_place (IsPlaced m) (placed_cells m) (0, no_cell) (λ k low.
    let within : k < length m.cells = let count = length-enumerate_from 0 m.cells in omega (arith, low, count) in
    let is : get_or (placed_cells m) k (0, no_cell) ≡ (k, cell_at m.cells k) = get_or-enumerate_from 0 m.cells k (0, no_cell) within ∙ (λ i. (zero-add k i, cell_at m.cells k)) in
    subst (IsPlaced m) (sym is) (within, refl))

-- what a rank holds of its cells
pub cells-placed : (m : Mesh) (a : List ℕ) (r : ℕ) → AllByRecursion (λ c. c < length m.cells) (map number_of (assigned m a r))
unfolding assigned IsPlaced
cells-placed m a r = all_map (λ c. c < length m.cells) number_of (assigned m a r) (all_weaker (IsPlaced m) (λ (c : ℕ × Cell). c.0 < length m.cells) (λ c is. is.0) (assigned m a r) (all_filter (IsPlaced m) (λ (c : ℕ × Cell). rank_of a c == r) (placed_cells m) (placed-each m)))

pub made-of_cells : {Y : Type 0} (f : Cell → Y) (m : Mesh) (a : List ℕ) (r : ℕ) → map (λ c. f (cell_at m.cells c)) (map number_of (assigned m a r)) ≡ map (λ (c : ℕ × Cell). f c.1) (assigned m a r)
unfolding assigned IsPlaced
made-of_cells f m a r = map_map_same (λ c. f (cell_at m.cells c)) number_of (λ (c : ℕ × Cell). f c.1) (assigned m a r)
    (all_weaker (IsPlaced m) (λ (c : ℕ × Cell). f (cell_at m.cells c.0) ≡ f c.1) (λ c is. ap f is.1) (assigned m a r) (all_filter (IsPlaced m) (λ (c : ℕ × Cell). rank_of a c == r) (placed_cells m) (placed-each m)))

-- and the vertices that these have
pub vertices-placed : (m : Mesh) (a : List ℕ) (r : ℕ) → filter (some_has m (map number_of (assigned m a r))) (below (length m.at)) ≡ rank_vertices m a r
unfolding rank_vertices vertices_of assigned IsPlaced
vertices-placed m a r = filter_agree (some_has m (map number_of (assigned m a r))) (has_vertex (assigned m a r)) (below (length m.at))
    (all_from (λ v. some_has m (map number_of (assigned m a r)) v ≡ has_vertex (assigned m a r) v)
    (λ v. any_map (λ c. list_any (λ w. w == v) (cell_at m.cells c).vertices) number_of (assigned m a r)
    ∙ any_agree (λ (c : ℕ × Cell). list_any (λ w. w == v) (cell_at m.cells c.0).vertices) (λ (c : ℕ × Cell). list_any (λ w. w == v) c.1.vertices) (assigned m a r)
    (all_weaker (IsPlaced m) (λ (c : ℕ × Cell). list_any (λ w. w == v) (cell_at m.cells c.0).vertices ≡ list_any (λ w. w == v) c.1.vertices) (λ c is. ap (λ (cell : Cell). list_any (λ w. w == v) cell.vertices) is.1) (assigned m a r) (all_filter (IsPlaced m) (λ (c : ℕ × Cell). rank_of a c == r) (placed_cells m) (placed-each m))))
    (below (length m.at)))

-- ---- from what was chosen

module _ (m : Mesh) (a : List ℕ) (r : ℕ) (count : length a ≡ length m.cells) (numbers : List ℕ) (are : numbers ≡ filter (λ c. slice_index a c == r) (below (length a))) where
  pub numbers-are : numbers ≡ map number_of (assigned m a r)
  numbers-are = are ∙ numbers-assigned m a count r

  -- they are places of cells
  pub numbers-low : AllByRecursion (λ c. c < length m.cells) numbers
  numbers-low = subst (AllByRecursion (λ c. c < length m.cells)) (sym numbers-are) (cells-placed m a r)

  pub made-are : {Y : Type 0} (f : Cell → Y) → map (λ c. f (cell_at m.cells c)) numbers ≡ map (λ (c : ℕ × Cell). f c.1) (assigned m a r)
  made-are f = ap (map (λ c. f (cell_at m.cells c))) numbers-are ∙ made-of_cells f m a r

  pub vertices-are : filter (some_has m numbers) (below (length m.at)) ≡ rank_vertices m a r
  vertices-are = ap (λ ns. filter (some_has m ns) (below (length m.at))) numbers-are ∙ vertices-placed m a r

-- what is seen of each vertex tells them
pub seen-filter : (seen : ℕ → Bool) (has : ℕ → Bool) (size n : ℕ) → size ≡ n → ((v : ℕ) → v < n → seen v ≡ has v) → filter seen (below size) ≡ filter has (below n)
seen-filter seen has size n same each = ap (λ k. filter seen (below k)) same ∙ filter_agree seen has (below n) (all_weaker (λ v. v < n) (λ v. seen v ≡ has v) each (below n) (below-all n))
