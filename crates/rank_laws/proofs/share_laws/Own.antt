-- What the own chart of some cells shows: the points that the cells contain, each once.
use Rattle.std.proofs.Common.{◌≡◌, ◌≢◌, ◌⊎◌, ℕ, zero, suc, ◌<◌, ◌-◌, Bool, true, false, cond, not, ◌&&◌, ◌||◌, ◌==◌, List, [], ◌∷◌, ◌++◌, map, length, Contains, refl, sym, ap, ap₂, ◌∙◌, subst, inl, inr, ⊎_elim, arith}
use Rattle.std.specs.List.{list_any, AllByRecursion, filter, enumerate_from}
use Rattle.std.proofs.lemmas.Bool.{and_parts, and_from, and_left, eqb-true, eq-eqb, ne_eqb, or_left, or_right, or_cases, or_parts, not-true}
use Rattle.std.proofs.lemmas.List.{map-append}
use Rattle.std.proofs.lemmas.List.Folds.{list_any-append}
use Rattle.plain_lists.specs.Lists.{below, same_list}
use Rattle.plain_lists.proofs.Each.{all_weaker, all_from, all_append, all_map, all_filter, all_enumerated, all_contained}
use Rattle.plain_lists.proofs.Filters.{filter_passing}
use Rattle.plain_lists.proofs.Below.{below-all}
use Rattle.plain_lists.proofs.Finding.{same_tests, any_map, any_weaker, any_filter, among, none_passes}
use Rattle.mesh_defs.specs.Tables.{Facet, dim_of, facets_of, edges_of}
use Rattle.mesh_defs.specs.Mesh.{Mesh, Cell, placed_cells}
use Rattle.mesh_defs.specs.Points.{Point, Sight, point_of, shows, sights_of, sights, vertex_sight, vertex_sights, cell_face, contains}
use Rattle.mesh_defs.specs.Diagram.{firsts_after}
use Rattle.mesh_defs.specs.Sights.{points_differ}
use Rattle.mesh_defs.specs.RightMesh.{IsFlatOrSolid, IsSoundCell, IsSoundMesh, AreCells, in_some}
use Rattle.mesh_laws.proofs.Firsts.{same_point-sym, shows-true, list_any-firsts, firsts-all}
use Rattle.mesh_laws.proofs.Containing.{all_sights_of, sights_of-any_place, sights-contained, shows-vertex}
use Rattle.mesh_laws.proofs.Vertices.{vertex_below}
use Rattle.rank_laws.proofs.diagram_laws.Cones.{facets-lower}
use Rattle.rank_defs.specs.Spread.{own_stratum, own_chart}

-- ---- sound cells

-- cells of a sound mesh are sound
pub sound-cells : (m : Mesh) → IsSoundMesh m → (cells : List (ℕ × Cell)) → AreCells m cells → AllByRecursion (λ (c : ℕ × Cell). IsSoundCell m c.1) cells
sound-cells m sound cells are =
    all_weaker (Contains (placed_cells m)) (λ (c : ℕ × Cell). IsSoundCell m c.1) (λ c inside. all_contained (λ (d : ℕ × Cell). IsSoundCell m d.1) (placed_cells m) c (all_enumerated (IsSoundCell m) 0 m.cells sound.cells) inside) cells are

-- the dimensions of what a sound cell sees
abbrev pub HasDim : Mesh → ℕ → Type 0
HasDim m d = (d ≡ m.dim) ⊎ ((d ≡ 1) ⊎ ((d ≡ 2) × (m.dim ≡ 3)))

pub sight-dims : (m : Mesh) (c : ℕ) (cell : Cell) → IsSoundCell m cell → AllByRecursion (λ (s : Sight). HasDim m (dim_of s.poly)) (sights_of (c, cell))
sight-dims m c cell sound = all_sights_of (λ (s : Sight). HasDim m (dim_of s.poly)) c cell (inl sound.dim)
    (λ solid. all_weaker (λ (f : ℕ × Facet). dim_of f.1.poly ≡ dim_of cell.poly - 1) (λ f. HasDim m (dim_of (cell_face c cell f).poly)) (λ f low. inr (inr (omega arith, sym sound.dim ∙ solid))) (enumerate_from 0 (facets_of cell.poly)) (all_enumerated (λ (f : Facet). dim_of f.poly ≡ dim_of cell.poly - 1) 0 (facets_of cell.poly) (facets-lower cell.poly)))
    (all_from (λ e. HasDim m 1) (λ e. inr (inl refl)) (enumerate_from 0 (edges_of cell.poly)))

-- ---- the points that are shown

module _ (m : Mesh) (cells : List (ℕ × Cell)) where
  -- a vertex of these cells
  abbrev is_vertex_here : Sight → Bool
  is_vertex_here s = in_some (point_of s) cells

  abbrev faces_here : Bool → List Sight
  faces_here b = cond b (own_stratum cells 2) []

  -- what each part shows, the whole shows
  by-cells : (p : Point) → list_any (shows p) (own_stratum cells m.dim) ≡ true → list_any (shows p) (own_chart m cells) ≡ true
  unfolding own_chart
  by-cells p h = list_any-append (shows p) (own_stratum cells m.dim ++ filter is_vertex_here (vertex_sights m) ++ faces_here (m.dim == 3)) (own_stratum cells 1)
      ∙ or_left _ _ (list_any-append (shows p) (own_stratum cells m.dim ++ filter is_vertex_here (vertex_sights m)) (faces_here (m.dim == 3)) ∙ or_left _ _ (list_any-append (shows p) (own_stratum cells m.dim) (filter is_vertex_here (vertex_sights m)) ∙ or_left _ _ h))

  by-vertices : (p : Point) → list_any (shows p) (filter is_vertex_here (vertex_sights m)) ≡ true → list_any (shows p) (own_chart m cells) ≡ true
  unfolding own_chart
  by-vertices p h = list_any-append (shows p) (own_stratum cells m.dim ++ filter is_vertex_here (vertex_sights m) ++ faces_here (m.dim == 3)) (own_stratum cells 1)
      ∙ or_left _ _ (list_any-append (shows p) (own_stratum cells m.dim ++ filter is_vertex_here (vertex_sights m)) (faces_here (m.dim == 3)) ∙ or_left _ _ (list_any-append (shows p) (own_stratum cells m.dim) (filter is_vertex_here (vertex_sights m)) ∙ or_right (list_any (shows p) (own_stratum cells m.dim)) _ h))

  by-faces : (p : Point) → m.dim ≡ 3 → list_any (shows p) (own_stratum cells 2) ≡ true → list_any (shows p) (own_chart m cells) ≡ true
  unfolding own_chart
  by-faces p solid h = list_any-append (shows p) (own_stratum cells m.dim ++ filter is_vertex_here (vertex_sights m) ++ faces_here (m.dim == 3)) (own_stratum cells 1)
      ∙ or_left _ _ (list_any-append (shows p) (own_stratum cells m.dim ++ filter is_vertex_here (vertex_sights m)) (faces_here (m.dim == 3)) ∙ or_right (list_any (shows p) (own_stratum cells m.dim ++ filter is_vertex_here (vertex_sights m))) _ (ap (λ b. list_any (shows p) (faces_here b)) (eq-eqb m.dim 3 solid) ∙ h))

  by-edges : (p : Point) → list_any (shows p) (own_stratum cells 1) ≡ true → list_any (shows p) (own_chart m cells) ≡ true
  unfolding own_chart
  by-edges p h = list_any-append (shows p) (own_stratum cells m.dim ++ filter is_vertex_here (vertex_sights m) ++ faces_here (m.dim == 3)) (own_stratum cells 1) ∙ or_right (list_any (shows p) (own_stratum cells m.dim ++ filter is_vertex_here (vertex_sights m) ++ faces_here (m.dim == 3))) _ h

  -- what the cells see, the stratum of its dimension shows
  stratum-shows : (p : Point) (d : ℕ) → p.dim ≡ d → list_any (shows p) (sights cells) ≡ true → list_any (shows p) (own_stratum cells d) ≡ true
  stratum-shows p d same h = list_any-firsts p (filter (λ s. dim_of s.poly == d) (sights cells))
      ∙ any_filter (shows p) (λ s. dim_of s.poly == d) (sights cells)
      ∙ any_weaker (shows p) (λ s. (dim_of s.poly == d) && shows p s) (λ s e. and_from (dim_of s.poly == d) (shows p s) (eq-eqb (dim_of s.poly) d (sym (eqb-true p.dim (dim_of s.poly) (and_parts (p.dim == dim_of s.poly) (same_list p.vertices (point_of s).vertices) e).0) ∙ same)) e) (sights cells) h

  -- a point that a sound cell sees has such a dimension
  seen-dim : (p : Point) (c : ℕ) (cell : Cell) → IsSoundCell m cell → list_any (shows p) (sights_of (c, cell)) ≡ true → HasDim m p.dim
  seen-dim p c cell sound h =
      let (s, dim, e) = among (λ (s : Sight). HasDim m (dim_of s.poly)) (shows p) (sights_of (c, cell)) (sight-dims m c cell sound) h in
      subst (HasDim m) (sym (eqb-true p.dim (dim_of s.poly) (and_parts (p.dim == dim_of s.poly) (same_list p.vertices (point_of s).vertices) e).0)) dim

  -- what one of the cells sees, the cells see
  sights-have : (p : Point) (ds : List (ℕ × Cell)) → list_any (λ (c : ℕ × Cell). list_any (shows p) (sights_of c)) ds ≡ list_any (shows p) (sights ds)
  sights-have p [] = refl
  sights-have p (d ∷ ds) = ap (λ t. list_any (shows p) (sights_of d) || t) (sights-have p ds) ∙ sym (list_any-append (shows p) (sights_of d) (sights ds))

  -- each point of the own chart is in some cell
  pub own-inside : AllByRecursion (λ s. in_some (point_of s) cells ≡ true) (own_chart m cells)
  unfolding own_chart
  own-inside = all_append In (own_stratum cells m.dim ++ filter is_vertex_here (vertex_sights m) ++ faces_here (m.dim == 3)) (own_stratum cells 1)
      (all_append In (own_stratum cells m.dim ++ filter is_vertex_here (vertex_sights m)) (faces_here (m.dim == 3)) (all_append In (own_stratum cells m.dim) (filter is_vertex_here (vertex_sights m)) (of_dim m.dim) (filter_passing is_vertex_here (vertex_sights m))) (of_faces (m.dim == 3)))
      (of_dim 1)
    where
      In : Sight → Type 0
      In s = in_some (point_of s) cells ≡ true

      of_dim : (d : ℕ) → AllByRecursion In (own_stratum cells d)
      of_dim d = firsts-all In (filter (λ s. dim_of s.poly == d) (sights cells)) (all_filter In (λ s. dim_of s.poly == d) (sights cells) (sights-contained cells))

      of_faces : (b : Bool) → AllByRecursion In (faces_here b)
      of_faces true = of_dim 2
      of_faces false = tt

  module _ (sound : AllByRecursion (λ (c : ℕ × Cell). IsSoundCell m c.1) cells) (p : Point) where
    -- what a cell contains, the own chart shows
    contained-shown : in_some p cells ≡ true → list_any (shows p) (own_chart m cells) ≡ true
    unfolding contains
    contained-shown h = ⊎_elim by_vertex by_sight (or_cases in_vertices in_sights (sym (any-or (λ (c : ℕ × Cell). list_any (shows p) (map vertex_sight c.1.vertices)) (λ (c : ℕ × Cell). list_any (shows p) (sights_of (0, c.1))) (λ (c : ℕ × Cell). contains c.1 p) (λ c. list_any-append (shows p) (map vertex_sight c.1.vertices) (sights_of (0, c.1))) cells) ∙ h))
      where
        in_vertices : Bool
        in_vertices = list_any (λ (c : ℕ × Cell). list_any (shows p) (map vertex_sight c.1.vertices)) cells

        in_sights : Bool
        in_sights = list_any (λ (c : ℕ × Cell). list_any (shows p) (sights_of (0, c.1))) cells

        any-or : (f g q : ℕ × Cell → Bool) → ((c : ℕ × Cell) → q c ≡ (f c || g c)) → (ds : List (ℕ × Cell)) → list_any q ds ≡ (list_any f ds || list_any g ds)
        any-or f g q e [] = refl
        any-or f g q e (d ∷ ds) = ap₂ (λ s t. s || t) (e d) (any-or f g q e ds) ∙ mixed (f d) (g d) (list_any f ds) (list_any g ds)
          where
            mixed : (a b c d : Bool) → ((a || b) || (c || d)) ≡ ((a || c) || (b || d))
            mixed true b c d = refl
            mixed false true true d = refl
            mixed false true false d = refl
            mixed false false c d = refl

        by_vertex : in_vertices ≡ true → list_any (shows p) (own_chart m cells) ≡ true
        by_vertex e =
            let (c, s, f) = among (λ (c : ℕ × Cell). IsSoundCell m c.1) (λ (c : ℕ × Cell). list_any (shows p) (map vertex_sight c.1.vertices)) cells sound e in
            let (v, low, g) = among (λ v. v < length m.at) (λ v. shows p (vertex_sight v)) c.1.vertices s.in_range (sym (any_map (shows p) vertex_sight c.1.vertices) ∙ f) in
            by-vertices p (any_filter (shows p) is_vertex_here (vertex_sights m)
            ∙ any_weaker (shows p) (λ t. is_vertex_here t && shows p t) (λ t k. and_from (is_vertex_here t) (shows p t) (subst (λ q. in_some q cells ≡ true) (shows-true p t k) h) k) (vertex_sights m)
            (ap (λ q. list_any (shows q) (vertex_sights m)) (shows-true p (vertex_sight v) g) ∙ vertex_below (length m.at) v low))

        by_sight : in_sights ≡ true → list_any (shows p) (own_chart m cells) ≡ true
        by_sight e =
            let (c, s, f) = among (λ (c : ℕ × Cell). IsSoundCell m c.1) (λ (c : ℕ × Cell). list_any (shows p) (sights_of (0, c.1))) cells sound e in
            let seen : list_any (shows p) (sights cells) ≡ true = sym (sights-have p cells) ∙ any_weaker (λ (d : ℕ × Cell). list_any (shows p) (sights_of (0, d.1))) (λ (d : ℕ × Cell). list_any (shows p) (sights_of d)) (λ d k. sights_of-any_place p d.0 0 d.1 ∙ k) cells e in
            placed seen (seen-dim p 0 c.1 s f)
          where
            placed : list_any (shows p) (sights cells) ≡ true → HasDim m p.dim → list_any (shows p) (own_chart m cells) ≡ true
            placed seen (inl top) = by-cells p (stratum-shows p m.dim top seen)
            placed seen (inr (inl edge)) = by-edges p (stratum-shows p 1 edge seen)
            placed seen (inr (inr face)) = by-faces p face.1 (stratum-shows p 2 face.0 seen)

    -- and nothing else
    shown-contained : list_any (shows p) (own_chart m cells) ≡ true → in_some p cells ≡ true
    shown-contained h =
        let (s, inside, e) = among (λ s. in_some (point_of s) cells ≡ true) (shows p) (own_chart m cells) own-inside h in
        subst (λ q. in_some q cells ≡ true) (sym (shows-true p s e)) inside

-- the own chart of cells of a sound mesh shows what the cells contain
pub own-members : (m : Mesh) (cells : List (ℕ × Cell)) → IsSoundMesh m → AreCells m cells → (p : Point) → list_any (shows p) (own_chart m cells) ≡ in_some p cells
own-members m cells sound are p = same_tests (list_any (shows p) (own_chart m cells)) (in_some p cells)
    (shown-contained m cells (sound-cells m sound cells are) p) (contained-shown m cells (sound-cells m sound cells are) p)

-- ---- points that differ

-- first sights differ, and show no earlier point
firsts-differ : (earlier ss : List Sight) → (points_differ (firsts_after earlier ss) ≡ true) × AllByRecursion (λ s. list_any (shows (point_of s)) earlier ≡ false) (firsts_after earlier ss)
firsts-differ earlier [] = (refl, tt)
firsts-differ earlier (x ∷ xs) = go (list_any (shows (point_of x)) earlier) refl (firsts-differ earlier xs) (firsts-differ (x ∷ earlier) xs)
  where
    Differ : List Sight → List Sight → Type 0
    Differ before ss = (points_differ ss ≡ true) × AllByRecursion (λ s. list_any (shows (point_of s)) before ≡ false) ss

    go : (b : Bool) → list_any (shows (point_of x)) earlier ≡ b → Differ earlier (firsts_after earlier xs) → Differ (x ∷ earlier) (firsts_after (x ∷ earlier) xs) → Differ earlier (cond b (firsts_after earlier xs) (x ∷ firsts_after (x ∷ earlier) xs))
    go true e r s = r
    go false e r s = (
      and_from (not (list_any (shows (point_of x)) rest)) (points_differ rest)
          (ap not (none_passes (shows (point_of x)) rest (all_weaker (λ t. list_any (shows (point_of t)) (x ∷ earlier) ≡ false) (λ t. shows (point_of x) t ≡ false) (λ t f. same_point-sym (point_of x) (point_of t) ∙ (or_parts (shows (point_of t) x) (list_any (shows (point_of t)) earlier) f).0) rest s.1))) s.0,
      (e, all_weaker (λ t. list_any (shows (point_of t)) (x ∷ earlier) ≡ false) (λ t. list_any (shows (point_of t)) earlier ≡ false) (λ t f. (or_parts (shows (point_of t) x) (list_any (shows (point_of t)) earlier) f).1) rest s.1),
    )
      where
        rest : List Sight
        rest = firsts_after (x ∷ earlier) xs

-- two lists end to end, where no sight of the first shows a point of the second
differ-append : (xs ys : List Sight) → points_differ xs ≡ true → points_differ ys ≡ true → AllByRecursion (λ s. list_any (shows (point_of s)) ys ≡ false) xs → points_differ (xs ++ ys) ≡ true
differ-append [] ys p q h = q
differ-append (x ∷ xs) ys p q h =
    let both = and_parts (not (list_any (shows (point_of x)) xs)) (points_differ xs) p in
    and_from (not (list_any (shows (point_of x)) (xs ++ ys))) (points_differ (xs ++ ys))
    (ap not (list_any-append (shows (point_of x)) xs ys ∙ neither (list_any (shows (point_of x)) xs) (list_any (shows (point_of x)) ys) (not-true _ both.0) h.0))
    (differ-append xs ys both.1 q h.1)
  where
    neither : (a b : Bool) → a ≡ false → b ≡ false → (a || b) ≡ false
    neither a b e f = ap (λ t. t || b) e ∙ f

-- a choice of sights that differ
differ-filter : (test : Sight → Bool) (ss : List Sight) → points_differ ss ≡ true → points_differ (filter test ss) ≡ true
differ-filter test [] d = refl
differ-filter test (s ∷ ss) d = let both = and_parts (not (list_any (shows (point_of s)) ss)) (points_differ ss) d in go both (test s) (differ-filter test ss both.1)
  where
    go : (not (list_any (shows (point_of s)) ss) ≡ true) × (points_differ ss ≡ true) → (b : Bool) → points_differ (filter test ss) ≡ true → points_differ (cond b (s ∷ filter test ss) (filter test ss)) ≡ true
    go both false r = r
    go both true r = and_from (not (list_any (shows (point_of s)) (filter test ss))) (points_differ (filter test ss)) (ap not (fewer ss (not-true _ both.0))) r
      where
        fewer : (ts : List Sight) → list_any (shows (point_of s)) ts ≡ false → list_any (shows (point_of s)) (filter test ts) ≡ false
        fewer ts h = any_filter (shows (point_of s)) test ts ∙ none_passes (λ t. test t && shows (point_of s) t) ts (all_weaker (λ t. shows (point_of s) t ≡ false) (λ t. (test t && shows (point_of s) t) ≡ false) (λ t e. ap (λ b. test t && b) e ∙ none (test t)) ts (each ts h))
          where
            none : (b : Bool) → (b && false) ≡ false
            none true = refl
            none false = refl

            each : (us : List Sight) → list_any (shows (point_of s)) us ≡ false → AllByRecursion (λ t. shows (point_of s) t ≡ false) us
            each [] h = tt
            each (u ∷ us) h = let parts = or_parts (shows (point_of s) u) (list_any (shows (point_of s)) us) h in (parts.0, each us parts.1)

-- the vertices differ
vertices-differ : (n : ℕ) → points_differ (map vertex_sight (below n)) ≡ true
vertices-differ zero = refl
vertices-differ (suc n) = ap points_differ (map-append vertex_sight (below n) (n ∷ [])) ∙ differ-append (map vertex_sight (below n)) (vertex_sight n ∷ []) (vertices-differ n) refl
    (all_map (λ s. list_any (shows (point_of s)) (vertex_sight n ∷ []) ≡ false) vertex_sight (below n)
    (all_weaker (λ v. v < n) (λ v. list_any (shows (point_of (vertex_sight v))) (vertex_sight n ∷ []) ≡ false) (λ v low. ap (λ b. b || false) (shows-vertex v n ∙ ne_eqb v n (λ e. absurd (omega arith)))) (below n) (below-all n)))

-- sights of different dimensions show different points
apart : (d e : ℕ) → d ≢ e → (xs ys : List Sight) → AllByRecursion (λ (s : Sight). dim_of s.poly ≡ d) xs → AllByRecursion (λ (s : Sight). dim_of s.poly ≡ e) ys → AllByRecursion (λ s. list_any (shows (point_of s)) ys ≡ false) xs
apart d e ne xs ys p q = all_weaker (λ (s : Sight). dim_of s.poly ≡ d) (λ s. list_any (shows (point_of s)) ys ≡ false)
    (λ s h. none_passes (shows (point_of s)) ys (all_weaker (λ (t : Sight). dim_of t.poly ≡ e) (λ t. shows (point_of s) t ≡ false) (λ t k. and_left (dim_of s.poly == dim_of t.poly) (same_list (point_of s).vertices (point_of t).vertices) (ne_eqb (dim_of s.poly) (dim_of t.poly) (λ same. ne (sym h ∙ same ∙ k)))) ys q)) xs p

module _ (m : Mesh) (cells : List (ℕ × Cell)) where
  -- the points of a part have its dimension
  pub own-of_dim : (d : ℕ) → AllByRecursion (λ (s : Sight). dim_of s.poly ≡ d) (own_stratum cells d)
  own-of_dim d = firsts-all (λ (s : Sight). dim_of s.poly ≡ d) (filter (λ s. dim_of s.poly == d) (sights cells))
      (all_weaker (λ (s : Sight). (dim_of s.poly == d) ≡ true) (λ (s : Sight). dim_of s.poly ≡ d) (λ s h. eqb-true (dim_of s.poly) d h) (filter (λ s. dim_of s.poly == d) (sights cells)) (filter_passing (λ s. dim_of s.poly == d) (sights cells)))

  pub own-vertices_of_dim : AllByRecursion (λ (s : Sight). dim_of s.poly ≡ 0) (filter (λ s. in_some (point_of s) cells) (vertex_sights m))
  own-vertices_of_dim = all_filter (λ (s : Sight). dim_of s.poly ≡ 0) (λ s. in_some (point_of s) cells) (vertex_sights m) (all_map (λ (s : Sight). dim_of s.poly ≡ 0) vertex_sight (below (length m.at)) (all_from (λ v. 0 ≡ 0) (λ v. refl) (below (length m.at))))

  stratum-differs : (d : ℕ) → points_differ (own_stratum cells d) ≡ true
  stratum-differs d = (firsts-differ [] (filter (λ s. dim_of s.poly == d) (sights cells))).0

  module _ (not_vertices : m.dim ≢ 0) (not_edges : m.dim ≢ 1) where
    abbrev vertices : List Sight
    vertices = filter (λ s. in_some (point_of s) cells) (vertex_sights m)

    -- neither cells nor vertices stand in another part
    cells-apart : (e : ℕ) → m.dim ≢ e → 0 ≢ e → AllByRecursion (λ s. list_any (shows (point_of s)) (own_stratum cells e) ≡ false) (own_stratum cells m.dim ++ vertices)
    cells-apart e p q = all_append (λ s. list_any (shows (point_of s)) (own_stratum cells e) ≡ false) (own_stratum cells m.dim) vertices
        (apart m.dim e p (own_stratum cells m.dim) (own_stratum cells e) (own-of_dim m.dim) (own-of_dim e)) (apart 0 e q vertices (own_stratum cells e) own-vertices_of_dim (own-of_dim e))

    -- with faces that differ and stand apart, all points differ
    all-differ : (faces : List Sight) → points_differ faces ≡ true → AllByRecursion (λ s. list_any (shows (point_of s)) faces ≡ false) (own_stratum cells m.dim ++ vertices) → AllByRecursion (λ s. list_any (shows (point_of s)) (own_stratum cells 1) ≡ false) faces
        → points_differ (own_stratum cells m.dim ++ vertices ++ faces ++ own_stratum cells 1) ≡ true
    all-differ faces d before after =
        differ-append (own_stratum cells m.dim ++ vertices ++ faces) (own_stratum cells 1)
        (differ-append (own_stratum cells m.dim ++ vertices) faces
        (differ-append (own_stratum cells m.dim) vertices (stratum-differs m.dim) (differ-filter (λ s. in_some (point_of s) cells) (vertex_sights m) (vertices-differ (length m.at))) (apart m.dim 0 not_vertices (own_stratum cells m.dim) vertices (own-of_dim m.dim) own-vertices_of_dim))
        d before)
        (stratum-differs 1)
        (all_append (λ s. list_any (shows (point_of s)) (own_stratum cells 1) ≡ false) (own_stratum cells m.dim ++ vertices) faces (cells-apart 1 not_edges (λ e. absurd (omega arith))) after)

-- the points of an own chart differ
pub own-differ : (m : Mesh) (cells : List (ℕ × Cell)) → IsFlatOrSolid m → points_differ (own_chart m cells) ≡ true
unfolding own_chart
own-differ m cells (inl flat) = ap (λ b. points_differ (own_stratum cells m.dim ++ filter (λ s. in_some (point_of s) cells) (vertex_sights m) ++ cond b (own_stratum cells 2) [] ++ own_stratum cells 1)) (ne_eqb m.dim 3 (λ e. absurd (omega arith)))
    ∙ all-differ m cells (λ e. absurd (omega arith)) (λ e. absurd (omega arith)) [] refl (all_from (λ s. list_any (shows (point_of s)) [] ≡ false) (λ s. refl) (own_stratum cells m.dim ++ filter (λ s. in_some (point_of s) cells) (vertex_sights m))) tt
own-differ m cells (inr solid) = ap (λ b. points_differ (own_stratum cells m.dim ++ filter (λ s. in_some (point_of s) cells) (vertex_sights m) ++ cond b (own_stratum cells 2) [] ++ own_stratum cells 1)) (eq-eqb m.dim 3 solid)
    ∙ all-differ m cells (λ e. absurd (omega arith)) (λ e. absurd (omega arith)) (own_stratum cells 2) (stratum-differs m cells 2) (cells-apart m cells (λ e. absurd (omega arith)) (λ e. absurd (omega arith)) 2 (λ e. absurd (omega arith)) (λ e. absurd (omega arith)))
    (apart 2 1 (λ e. absurd (omega arith)) (own_stratum cells 2) (own_stratum cells 1) (own-of_dim m cells 2) (own-of_dim m cells 1))
