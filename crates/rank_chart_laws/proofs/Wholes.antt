-- Cells among the points of ranks: each is seen by itself once, and on one rank alone.
use Rattle.std.proofs.Common.{◌≡◌, ◌≢◌, ℕ, ◌+◌, ◌*◌, ◌<◌, Bool, true, false, cond, not, ◌&&◌, ◌||◌, ◌==◌, List, [], ◌∷◌, ◌++◌, map, refl, sym, ap, ap₂, ◌∙◌, subst, inl, inr, ⊎_elim, arith, get_or}
use Rattle.std.specs.List.{list_any, AllByRecursion, filter, enumerate_from}
use Rattle.std.proofs.lemmas.Bool.{and_parts, and_from, eqb-true, eq-eqb, or_cases, not-true, both_ways}
use Rattle.std.proofs.lemmas.List.Elements.{filter-append}
use Rattle.plain_lists.specs.Lists.{below, same_list, same_set, sorted, differ_as_sets}
use Rattle.plain_lists.proofs.Each.{all_weaker, all_both, all_map, all_mapped, all_filter, all_enumerated}
use Rattle.plain_lists.proofs.Filters.{filter_passing}
use Rattle.plain_lists.proofs.Finding.{any_map, any_filter, any_weaker, among, none_passes, each_fails, position_map}
use Rattle.mesh_defs.specs.declared.Poly.{Poly}
use Rattle.mesh_defs.specs.declared.Poly.TheVariants.{Vertex, Segment, Triangle, Quad, Tet, Hex}
use Rattle.mesh_defs.specs.Tables.{dim_of}
use Rattle.mesh_defs.specs.Mesh.{Mesh, Cell, placed_cells}
use Rattle.mesh_defs.specs.Points.{Point, Sight, point_on, point_of, shows, cell_sight, sights_of, sights, contains}
use Rattle.mesh_defs.specs.Diagram.{firsts}
use Rattle.mesh_defs.specs.Sights.{points_differ}
use Rattle.mesh_defs.specs.RightMesh.{IsFlatOrSolid, IsSoundCell, IsSoundMesh, CellsDiffer, in_some}
use Rattle.mesh_laws.proofs.Firsts.{firsts-fresh, shows-true, firsts-all}
use Rattle.mesh_laws.proofs.Containing.{sights-contained}
use Rattle.rank_laws.proofs.diagram_laws.Parts.{FlatOrSolid, of_dim, cell-dims, stratum-cells}
use Rattle.rank_defs.specs.Ranks.{IsAssignment, rank_of, assigned}
use Rattle.rank_defs.specs.Spread.{own_stratum, own_chart}
use Rattle.rank_laws.proofs.orient_laws.Seen.{IsFirst, cell-seen, shown-dim, first-one, stratum-first}
use Rattle.rank_laws.specs.share_laws.Charts.{own_charts, points_of, first_holder}
use Rattle.rank_laws.proofs.share_laws.Owners.{least-first, shown-by, first-shown}

-- cells as they see themselves
abbrev pub cells_seen : List (ℕ × Cell) → List Sight
cells_seen cells = map (λ (c : ℕ × Cell). cell_sight c.0 c.1) cells

-- a cell sees one point of its own dimension, itself
whole-of : (p : Poly) (c : ℕ) (vs : List ℕ) → FlatOrSolid (dim_of p) → filter (of_dim (dim_of p)) (sights_of (c, record { poly = p; vertices = vs })) ≡ cell_sight c (record { poly = p; vertices = vs }) ∷ []
unfolding sights_of
whole-of Vertex c vs (inl h) = absurd (omega arith)
whole-of Vertex c vs (inr h) = absurd (omega arith)
whole-of Segment c vs (inl h) = absurd (omega arith)
whole-of Segment c vs (inr h) = absurd (omega arith)
whole-of Triangle c vs h = refl
whole-of Quad c vs h = refl
whole-of Tet c vs h = refl
whole-of Hex c vs h = refl

whole-one : (m : Mesh) (c : ℕ × Cell) → IsFlatOrSolid m → IsSoundCell m c.1 → filter (of_dim m.dim) (sights_of c) ≡ cell_sight c.0 c.1 ∷ []
whole-one m c dims sound = ap (λ d. filter (of_dim d) (sights_of c)) (sym sound.dim) ∙ whole-of c.1.poly c.0 c.1.vertices (subst FlatOrSolid (sym sound.dim) dims)

wholes : (m : Mesh) → IsFlatOrSolid m → (cells : List (ℕ × Cell)) → AllByRecursion (λ (c : ℕ × Cell). IsSoundCell m c.1) cells → filter (of_dim m.dim) (sights cells) ≡ cells_seen cells
wholes m dims [] s = refl
wholes m dims (c ∷ cells) s = filter-append (of_dim m.dim) (sights_of c) (sights cells) ∙ ap₂ (λ x y. x ++ y) (whole-one m c dims s.0) (wholes m dims cells s.1)

-- cells on different sets of vertices are different points
wholes-shown : (p : Poly) (x : List ℕ) (n : ℕ) (cells : List Cell) → AllByRecursion (λ (cell : Cell). dim_of cell.poly ≡ dim_of p) cells → list_any (shows (point_on p x)) (cells_seen (enumerate_from n cells)) ≡ list_any (same_set x) (map (λ (cell : Cell). cell.vertices) cells)
wholes-shown p x n [] h = refl
wholes-shown p x n (cell ∷ cells) h = ap₂ (λ (s t : Bool). s || t) (ap (λ b. b && same_list (sorted x) (sorted cell.vertices)) (eq-eqb (dim_of p) (dim_of cell.poly) (sym h.0))) (wholes-shown p x (n + 1) cells h.1)

wholes-differ : (d n : ℕ) (cells : List Cell) → AllByRecursion (λ (cell : Cell). dim_of cell.poly ≡ d) cells → points_differ (cells_seen (enumerate_from n cells)) ≡ differ_as_sets (map (λ (cell : Cell). cell.vertices) cells)
wholes-differ d n [] h = refl
wholes-differ d n (cell ∷ cells) h =
    ap₂ (λ s t. not s && t) (wholes-shown cell.poly cell.vertices (n + 1) cells (all_weaker (λ (e : Cell). dim_of e.poly ≡ d) (λ (e : Cell). dim_of e.poly ≡ dim_of cell.poly) (λ e k. k ∙ sym h.0) cells h.1)) (wholes-differ d (n + 1) cells h.1)

-- so are some of them
differ-some : {X : Type 0} (f : X → Sight) (p : X → Bool) (xs : List X) → points_differ (map f xs) ≡ true → points_differ (map f (filter p xs)) ≡ true
differ-some f p [] d = refl
differ-some {X} f p (x ∷ xs) d = let both = and_parts (not (list_any (shows (point_of (f x))) (map f xs))) (points_differ (map f xs)) d in go both (p x) (differ-some f p xs both.1)
  where
    fewer : (ys : List X) → list_any (shows (point_of (f x))) (map f ys) ≡ false → list_any (shows (point_of (f x))) (map f (filter p ys)) ≡ false
    fewer ys h = any_map (shows (point_of (f x))) f (filter p ys) ∙ any_filter (λ y. shows (point_of (f x)) (f y)) p ys
        ∙ none_passes (λ y. p y && shows (point_of (f x)) (f y)) ys (all_weaker (λ y. shows (point_of (f x)) (f y) ≡ false) (λ y. (p y && shows (point_of (f x)) (f y)) ≡ false) (λ y e. ap (λ b. p y && b) e ∙ none (p y)) ys (each_fails (λ y. shows (point_of (f x)) (f y)) ys (sym (any_map (shows (point_of (f x))) f ys) ∙ h)))
      where
        none : (b : Bool) → (b && false) ≡ false
        none true = refl
        none false = refl

    go : (not (list_any (shows (point_of (f x))) (map f xs)) ≡ true) × (points_differ (map f xs) ≡ true) → (b : Bool) → points_differ (map f (filter p xs)) ≡ true → points_differ (map f (cond b (x ∷ filter p xs) (filter p xs))) ≡ true
    go both false r = r
    go both true r = and_from (not (list_any (shows (point_of (f x))) (map f (filter p xs)))) (points_differ (map f (filter p xs))) (ap not (fewer xs (not-true _ both.0))) r

module _ (m : Mesh) (sound : IsSoundMesh m) (differ : CellsDiffer m) (a : List ℕ) where
  placed-sound : AllByRecursion (λ (c : ℕ × Cell). IsSoundCell m c.1) (placed_cells m)
  placed-sound = all_enumerated (IsSoundCell m) 0 m.cells sound.cells

  -- the cells of a rank are sound, and theirs is the rank
  pub own-sound : (r : ℕ) → AllByRecursion (λ (c : ℕ × Cell). IsSoundCell m c.1) (assigned m a r)
  unfolding assigned
  own-sound r = all_filter (λ (c : ℕ × Cell). IsSoundCell m c.1) (λ c. rank_of a c == r) (placed_cells m) placed-sound

  own-ranks : (r : ℕ) → AllByRecursion (λ c. (rank_of a c == r) ≡ true) (assigned m a r)
  unfolding assigned
  own-ranks r = filter_passing (λ c. rank_of a c == r) (placed_cells m)

  -- the points of the mesh's dimension that a rank sees are its cells
  pub top-cells : (r : ℕ) → own_stratum (assigned m a r) m.dim ≡ cells_seen (assigned m a r)
  unfolding assigned
  top-cells r = ap firsts (wholes m sound.dim (assigned m a r) (own-sound r))
      ∙ firsts-fresh (cells_seen (assigned m a r)) (differ-some (λ (c : ℕ × Cell). cell_sight c.0 c.1) (λ c. rank_of a c == r) (placed_cells m) (wholes-differ m.dim 0 m.cells (cell-dims m sound) ∙ differ))

  dim-not_zero : m.dim ≢ 0
  dim-not_zero e = ⊎_elim (λ (f : m.dim ≡ 2). omega arith) (λ (f : m.dim ≡ 3). omega arith) sound.dim

  placed-first : AllByRecursion (λ (c : ℕ × Cell). IsFirst m (cell_sight c.0 c.1)) (placed_cells m)
  placed-first = all_mapped (IsFirst m) (λ (c : ℕ × Cell). cell_sight c.0 c.1) (placed_cells m) (subst (AllByRecursion (IsFirst m)) (stratum-cells m sound.dim (cell-dims m sound) differ) (stratum-first m m.dim dim-not_zero))

  own-first : (r : ℕ) → AllByRecursion (λ (c : ℕ × Cell). IsFirst m (cell_sight c.0 c.1)) (assigned m a r)
  unfolding assigned
  own-first r = all_filter (λ (c : ℕ × Cell). IsFirst m (cell_sight c.0 c.1)) (λ c. rank_of a c == r) (placed_cells m) placed-first

  -- a cell that contains another one as a point is that one
  same-cell : (c d : ℕ × Cell) → IsSoundCell m c.1 → IsSoundCell m d.1 → IsFirst m (cell_sight c.0 c.1) → IsFirst m (cell_sight d.0 d.1) → contains d.1 (point_of (cell_sight c.0 c.1)) ≡ true → c.0 ≡ d.0
  same-cell c d sc sd fc fd h =
      let one = first-one m (cell_sight c.0 c.1) (cell_sight d.0 d.1) fc fd (shows-true (point_of (cell_sight c.0 c.1)) (cell_sight d.0 d.1) shown) in
      let keys : 64 * c.0 ≡ 64 * d.0 = ap (λ (s : Sight). s.key) one in
      omega arith
    where
      p : Point
      p = point_of (cell_sight c.0 c.1)

      ne : p.dim ≢ 0
      ne e = dim-not_zero (sym sc.dim ∙ e)

      in_dim : list_any (shows p) (filter (of_dim m.dim) (sights_of d)) ≡ true
      in_dim = any_filter (shows p) (of_dim m.dim) (sights_of d)
          ∙ any_weaker (shows p) (λ s. of_dim m.dim s && shows p s) (λ s e. and_from (of_dim m.dim s) (shows p s) (eq-eqb (dim_of s.poly) m.dim (sym (shown-dim p s e) ∙ sc.dim)) e) (sights_of d) (sym (cell-seen p ne d) ∙ h)

      shown : shows p (cell_sight d.0 d.1) ≡ true
      shown = ⊎_elim (λ t. t) (λ t. absurd (both_ways _ refl t)) (or_cases (shows p (cell_sight d.0 d.1)) false (ap (list_any (shows p)) (sym (whole-one m d sound.dim sd)) ∙ in_dim))

  -- a rank that has a cell as a point is the one to which it is assigned
  module _ (n : ℕ) (parts : IsAssignment m n a) (r : ℕ) (low : r < n) where
    Known : ℕ → ℕ × Cell → Type 0
    Known q c = ((rank_of a c == q) ≡ true) × (IsSoundCell m c.1 × IsFirst m (cell_sight c.0 c.1))

    known : (q : ℕ) → AllByRecursion (Known q) (assigned m a q)
    unfolding Known
    known q = all_both (λ c. (rank_of a c == q) ≡ true) (λ (c : ℕ × Cell). IsSoundCell m c.1 × IsFirst m (cell_sight c.0 c.1)) (Known q) (λ c x y. (x, y)) (assigned m a q) (own-ranks q)
        (all_both (λ (c : ℕ × Cell). IsSoundCell m c.1) (λ (c : ℕ × Cell). IsFirst m (cell_sight c.0 c.1)) (λ (c : ℕ × Cell). IsSoundCell m c.1 × IsFirst m (cell_sight c.0 c.1)) (λ c x y. (x, y)) (assigned m a q) (own-sound q) (own-first q))

    one-rank : (c : ℕ × Cell) → Known r c → (q : ℕ) → in_some (point_of (cell_sight c.0 c.1)) (assigned m a q) ≡ true → q ≡ r
    unfolding Known
    one-rank c (rc, (sc, fc)) q h =
        let (d, (rd, (sd, fd)), e) = among (Known q) (λ (d : ℕ × Cell). contains d.1 (point_of (cell_sight c.0 c.1))) (assigned m a q) (known q) h in
        let same = same-cell c d sc sd fc fd e in
        let ranks : rank_of a c ≡ rank_of a d = ap (λ k. get_or a k 0) same in
        sym (eqb-true (rank_of a d) q rd) ∙ sym ranks ∙ eqb-true (rank_of a c) r rc

    there : (c : ℕ × Cell) → Known r c → in_some (point_of (cell_sight c.0 c.1)) (assigned m a r) ≡ true → first_holder (points_of (own_charts m a n)) (point_of (cell_sight c.0 c.1)) ≡ r
    unfolding own_charts
    there c k h = first-shown (own_charts m a n) (point_of (cell_sight c.0 c.1)) ∙ position_map (list_any (shows (point_of (cell_sight c.0 c.1)))) (λ q. own_chart m (assigned m a q)) (below n)
        ∙ least-first n r (λ q. list_any (shows (point_of (cell_sight c.0 c.1))) (own_chart m (assigned m a q))) low (shown-by m n a sound parts r (point_of (cell_sight c.0 c.1)) ∙ h) (λ j less. shown-by m n a sound parts j (point_of (cell_sight c.0 c.1)) ∙ go j less (in_some (point_of (cell_sight c.0 c.1)) (assigned m a j)) refl)
      where
        go : (j : ℕ) → j < r → (b : Bool) → in_some (point_of (cell_sight c.0 c.1)) (assigned m a j) ≡ b → b ≡ false
        go j less false e = refl
        go j less true e = let same = one-rank c k j e in absurd (omega arith)

    -- the first rank that has a cell
    pub tops-first : AllByRecursion (λ (s : Sight). first_holder (points_of (own_charts m a n)) (point_of s) ≡ r) (own_stratum (assigned m a r) m.dim)
    tops-first = all_both (λ (s : Sight). in_some (point_of s) (assigned m a r) ≡ true) (λ (s : Sight). in_some (point_of s) (assigned m a r) ≡ true → first_holder (points_of (own_charts m a n)) (point_of s) ≡ r) (λ (s : Sight). first_holder (points_of (own_charts m a n)) (point_of s) ≡ r) (λ s x f. f x) (own_stratum (assigned m a r) m.dim)
        inside
        (subst (AllByRecursion (λ (s : Sight). in_some (point_of s) (assigned m a r) ≡ true → first_holder (points_of (own_charts m a n)) (point_of s) ≡ r)) (sym (top-cells r))
        (all_map (λ (s : Sight). in_some (point_of s) (assigned m a r) ≡ true → first_holder (points_of (own_charts m a n)) (point_of s) ≡ r) (λ (c : ℕ × Cell). cell_sight c.0 c.1) (assigned m a r) (all_weaker (Known r) (λ (c : ℕ × Cell). in_some (point_of (cell_sight c.0 c.1)) (assigned m a r) ≡ true → first_holder (points_of (own_charts m a n)) (point_of (cell_sight c.0 c.1)) ≡ r) there (assigned m a r) (known r))))
      where
        inside : AllByRecursion (λ (s : Sight). in_some (point_of s) (assigned m a r) ≡ true) (own_stratum (assigned m a r) m.dim)
        inside = firsts-all (λ (s : Sight). in_some (point_of s) (assigned m a r) ≡ true) (filter (λ s. dim_of s.poly == m.dim) (sights (assigned m a r))) (all_filter (λ (s : Sight). in_some (point_of s) (assigned m a r) ≡ true) (λ s. dim_of s.poly == m.dim) (sights (assigned m a r)) (sights-contained (assigned m a r)))
