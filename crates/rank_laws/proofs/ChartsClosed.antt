-- Every chart of a rank has the facets of its points.
use Rattle.std.proofs.Common.{◌≡◌, ℕ, min, max, Bool, true, false, not, ◌&&◌, ◌==◌, List, [], ◌∷◌, map, length, slice_index, ℤ, Some, refl, sym, ap, ◌∙◌, subst, subst₂, inl, inr, ◌⊎◌, ⊎_elim, arith}
use Rattle.std.specs.Prelude.{Contains, option_map, option_and_then, is_none}
use Rattle.std.specs.List.{list_any, AllByRecursion, filter}
use Rattle.std.specs.Cmp.Lexicographic.{same_text}
use Rattle.std.proofs.lemmas.Bool.{and_parts, and_from, eqb-true, eq-eqb, ne_eqb, or_cases, both_ways, not-true, cases_eq, and_left}
use Rattle.std.proofs.lemmas.List.Folds.{list_any-append}
use Rattle.std.proofs.lemmas.List.Elements.{All-contains, All-contains_itself, All-from_recursion, recursion_from_All}
use Rattle.mesh_defs.specs.declared.Poly.{Poly}
use Rattle.mesh_defs.specs.declared.Poly.TheVariants.{Vertex, Segment}
use Rattle.plain_lists.specs.Lists.{below, same_list, sorted, picked, differ_as_sets}
use Rattle.plain_lists.proofs.Filters.{filter_passing}
use Rattle.plain_lists.proofs.Finding.{none_passes, any_weaker, any_map, among, any_filter, stands, found-any}
use Rattle.plain_lists.proofs.Each.{all_weaker, all_both, all_from, all_map, all_filter, all_enumerated, all_in_flat_map, all_mapped, each_passes}
use Rattle.plain_lists.proofs.Sorted.{same_list-self}
use Rattle.mesh_defs.specs.Tables.{Facet, dim_of, corner_count, facets_of, edges_of}
use Rattle.mesh_defs.specs.Orientation.{relative}
use Rattle.mesh_defs.specs.Mesh.{Mesh, Cell, placed_cells}
use Rattle.mesh_defs.specs.Points.{Point, Sight, point_on, point_of, shows, sights_of, vertex_sight, first_sight, arrangement, contains}
use Rattle.mesh_defs.specs.Diagram.{strata, chart, seen_under, IsAccepted}
use Rattle.mesh_laws.proofs.Firsts.{shows-true}
use Rattle.mesh_laws.proofs.Turns.{sorted-min_max}
use Rattle.mesh_laws.proofs.Containing.{sights_of-any_place}
use Rattle.rank_defs.specs.Ranks.{held_cells, held}
use Rattle.mesh_defs.specs.RightMesh.{IsSoundCell, IsSoundMesh, CellsDiffer, in_some, AreCells}
use Rattle.rank_laws.proofs.Strata.{strata-first}
use Rattle.rank_laws.proofs.Owning.{is_held}
use Rattle.rank_laws.proofs.Shapes.{HasShape, sights_of-shape, strata-shape, all-of_strata, all-of_cells, is_face_of, facets-are_faces}
use Rattle.rank_laws.proofs.Found.{IsSeen, two-entries, poly-zero, poly-told, length-sorted}
use Rattle.rank_laws.proofs.Facets.{untwisted, some-answer, Covers, strata-cover}
use Rattle.rank_laws.proofs.TurnedEdges.{polygon-facets, turned-edges}
use Rattle.rank_laws.proofs.Inherited.{all-of_sights, cell-keeps, sights-keep}

-- ---- cells by their sets

-- of lists that differ as sets, two with the same set are one
one-set : (xss : List (List ℕ)) (vs ws : List ℕ) → differ_as_sets xss ≡ true → list_any (same_list vs) xss ≡ true → list_any (same_list ws) xss ≡ true → sorted vs ≡ sorted ws → vs ≡ ws
one-set [] vs ws d a b e = absurd (cc a)
one-set (xs ∷ xss) vs ws d a b e =
    let both = and_parts (not (list_any (λ ys. same_list (sorted xs) (sorted ys)) xss)) (differ_as_sets xss) d in
    ⊎_elim
    (λ x. ⊎_elim
    (λ y. same_text vs xs (sym x) ∙ sym (same_text ws xs (sym y)))
    (λ y. absurd (both_ways _ (not-true _ both.0) (there ws (ap sorted (sym (same_text vs xs (sym x))) ∙ e) y)))
    (or_cases (same_list ws xs) (list_any (same_list ws) xss) b))
    (λ x. ⊎_elim
    (λ y. absurd (both_ways _ (not-true _ both.0) (there vs (ap sorted (sym (same_text ws xs (sym y))) ∙ sym e) x)))
    (λ y. one-set xss vs ws both.1 x y e)
    (or_cases (same_list ws xs) (list_any (same_list ws) xss) b))
    (or_cases (same_list vs xs) (list_any (same_list vs) xss) a)
  where
    there : (us : List ℕ) → sorted xs ≡ sorted us → list_any (same_list us) xss ≡ true → list_any (λ ys. same_list (sorted xs) (sorted ys)) xss ≡ true
    there us s h = any_weaker (same_list us) (λ ys. same_list (sorted xs) (sorted ys)) (λ ys k. ap (λ l. same_list l (sorted ys)) (s ∙ ap sorted (same_text us ys (sym k))) ∙ same_list-self (sorted ys)) xss h

-- the sight is that of a whole cell of the mesh
pub record IsWhole (m : Mesh) (s : Sight) : Type 0 where
  pub cell : Cell
  pub member : list_any (same_list cell.vertices) (map (λ (d : Cell). d.vertices) m.cells) ≡ true
  pub poly : s.poly ≡ cell.poly
  pub vertices : s.arrangement ≡ cell.vertices

-- what a cell sees in the mesh's dimension, a face that is seen, or an edge
data Kind (m : Mesh) (cell : Cell) (u : Sight) : Type 0 where
  whole : u.poly ≡ cell.poly → u.arrangement ≡ cell.vertices → Kind m cell u
  face : dim_of u.poly ≡ 2 → (o : ℤ) → seen_under m u.poly u.arrangement ≡ Some o → Kind m cell u
  edge : u.poly ≡ Segment → Kind m cell u

module _ (m : Mesh) (sound : IsSoundMesh m) (accepted : IsAccepted m) (differ : CellsDiffer m) where
  -- what is known of a sight in the mesh's dimension: it is that of a whole cell
  abbrev MaybeWhole : Sight → Type 0
  MaybeWhole s = dim_of s.poly ≡ m.dim → IsWhole m s

  -- neither an edge nor a face of a solid is of the mesh's dimension
  lower : (d : ℕ) → d ≡ 1 → d ≡ m.dim → ⊥
  lower d e f = ⊎_elim (λ x. absurd (omega arith)) (λ x. absurd (omega arith)) sound.dim

  -- all sights of a sound cell of the mesh
  sights-whole : (c : ℕ) (cell : Cell) → IsSoundCell m cell → list_any (same_list cell.vertices) (map (λ (d : Cell). d.vertices) m.cells) ≡ true → AllByRecursion MaybeWhole (sights_of (c, cell))
  sights-whole c cell good there = all-of_sights MaybeWhole c cell (λ e. record { cell = cell; member = there; poly = refl; vertices = refl })
      (λ solid k. all_weaker (λ f. is_face_of cell.poly f ≡ true) (λ (f : Facet). (k : ℕ) → MaybeWhole (record { key = k; poly = f.poly; arrangement = picked cell.vertices f.corners }))
      (λ f h k e. absurd (omega (arith, eqb-true (dim_of f.poly) 2 (and_parts (length f.corners == corner_count f.poly) (dim_of f.poly == 2) (and_parts _ _ h).0).1, good.dim))) (facets_of cell.poly) (each_passes (is_face_of cell.poly) (facets_of cell.poly) (facets-are_faces cell.poly solid)))
      (all_from _ (λ e k x. absurd (lower 1 refl x)) (edges_of cell.poly))

  -- a cell of the mesh, with its place
  pub record IsPlaced (c : ℕ × Cell) : Type 0 where
    pub good : IsSoundCell m c.1
    pub member : list_any (same_list c.1.vertices) (map (λ (d : Cell). d.vertices) m.cells) ≡ true
    pub some : AllByRecursion (λ (s : Sight). ((m.dim == 3) && (dim_of s.poly == 2)) ≡ true → is_none (seen_under m s.poly s.arrangement) ≡ false) (sights_of c)

  -- all cells with their places are such
  cells-placed : AllByRecursion IsPlaced (placed_cells m)
  cells-placed = all_both (λ (c : ℕ × Cell). IsSoundCell m c.1 × (list_any (same_list c.1.vertices) (map (λ (d : Cell). d.vertices) m.cells) ≡ true)) (λ c. AllByRecursion (λ (s : Sight). ((m.dim == 3) && (dim_of s.poly == 2)) ≡ true → is_none (seen_under m s.poly s.arrangement) ≡ false) (sights_of c)) IsPlaced
      (λ c g u. record { good = g.0; member = g.1; some = u }) (placed_cells m)
      (all_enumerated (λ (cell : Cell). IsSoundCell m cell × (list_any (same_list cell.vertices) (map (λ (d : Cell). d.vertices) m.cells) ≡ true)) 0 m.cells
      (all_both (IsSoundCell m) (λ (cell : Cell). (q : Cell → Bool) → q cell ≡ true → list_any q m.cells ≡ true) _ (λ cell g s. (g, any_map (same_list cell.vertices) (λ (d : Cell). d.vertices) m.cells ∙ s (λ d. same_list cell.vertices d.vertices) (same_list-self cell.vertices))) m.cells sound.cells (stands m.cells)))
      (all_in_flat_map (λ (s : Sight). ((m.dim == 3) && (dim_of s.poly == 2)) ≡ true → is_none (seen_under m s.poly s.arrangement) ≡ false) sights_of (placed_cells m) (untwisted m sound accepted))

  -- all points of the mesh's dimension are whole cells
  strata-whole : AllByRecursion MaybeWhole (strata m)
  strata-whole = all-of_strata MaybeWhole m (all_map MaybeWhole vertex_sight (below (length m.at)) (all_from _ (λ v e. absurd (no_vertex e)) (below (length m.at))))
      (all-of_cells MaybeWhole m (all_weaker IsPlaced (λ c. AllByRecursion MaybeWhole (sights_of c)) (λ c p. sights-whole c.0 c.1 p.good p.member) (placed_cells m) cells-placed))
    where
      no_vertex : 0 ≡ m.dim → ⊥
      no_vertex e = ⊎_elim (λ x. absurd (omega arith)) (λ x. absurd (omega arith)) sound.dim

  -- what is known of each point of the chart of all points
  pub record IsKnown (s : Sight) : Type 0 where
    pub shape : HasShape s
    pub is_whole : MaybeWhole s
    pub arranged : arrangement m (point_of s) ≡ Some s.arrangement
    pub covers : Covers m sound accepted s

  strata-known : AllByRecursion IsKnown (strata m)
  unfolding arrangement
  strata-known = all_both (λ s. HasShape s × MaybeWhole s) (λ s. (first_sight m (point_of s) ≡ Some s) × Covers m sound accepted s) IsKnown (λ s a b. record { shape = a.0; is_whole = a.1; arranged = ap (option_map (λ (t : Sight). t.arrangement)) b.0; covers = b.1 }) (strata m)
      (all_both HasShape MaybeWhole _ (λ s a b. (a, b)) (strata m) (strata-shape m sound) strata-whole)
      (all_both (λ s. first_sight m (point_of s) ≡ Some s) (Covers m sound accepted) _ (λ s a b. (a, b)) (strata m) (strata-first m) (strata-cover m sound accepted))

  -- ---- one cell that contains a point

  module _ (c : ℕ) (cell : Cell) (placed : IsPlaced (c, cell)) where
    -- of what kind the sights of the cell are
    sights-kind : AllByRecursion (Kind m cell) (sights_of (c, cell))
    sights-kind = all-of_kinds (sights_of (c, cell)) placed.some (all-of_sights Rough c cell (inl (refl, refl))
        (λ solid k. all_weaker (λ f. is_face_of cell.poly f ≡ true) (λ (f : Facet). (k : ℕ) → Rough (record { key = k; poly = f.poly; arrangement = picked cell.vertices f.corners }))
        (λ f h k. inr (inl (eqb-true (dim_of f.poly) 2 (and_parts (length f.corners == corner_count f.poly) (dim_of f.poly == 2) (and_parts _ _ h).0).1, sym placed.good.dim ∙ solid))) (facets_of cell.poly) (each_passes (is_face_of cell.poly) (facets_of cell.poly) (facets-are_faces cell.poly solid)))
        (all_from _ (λ e k. inr (inr refl)) (edges_of cell.poly)))
      where
        Rough : Sight → Type 0
        Rough u = ((u.poly ≡ cell.poly) × (u.arrangement ≡ cell.vertices)) ⊎ (((dim_of u.poly ≡ 2) × (m.dim ≡ 3)) ⊎ (u.poly ≡ Segment))

        kind-of : (u : Sight) → (((m.dim == 3) && (dim_of u.poly == 2)) ≡ true → is_none (seen_under m u.poly u.arrangement) ≡ false) → Rough u → Kind m cell u
        kind-of u some (inl w) = Kind.whole w.0 w.1
        kind-of u some (inr (inl f)) = let (o, e) = some-answer m sound (seen_under m u.poly u.arrangement) (some (and_from (m.dim == 3) (dim_of u.poly == 2) (eq-eqb m.dim 3 f.1) (eq-eqb (dim_of u.poly) 2 f.0))) in Kind.face f.0 o e
        kind-of u some (inr (inr e)) = Kind.edge e

        all-of_kinds : (us : List Sight) → AllByRecursion (λ (s : Sight). ((m.dim == 3) && (dim_of s.poly == 2)) ≡ true → is_none (seen_under m s.poly s.arrangement) ≡ false) us → AllByRecursion Rough us → AllByRecursion (Kind m cell) us
        all-of_kinds us a b = all_both (λ (s : Sight). ((m.dim == 3) && (dim_of s.poly == 2)) ≡ true → is_none (seen_under m s.poly s.arrangement) ≡ false) Rough (Kind m cell) kind-of us a b

    -- each facet of a sight is contained in the cell
    abbrev Kept : Sight → Type 0
    Kept s = AllByRecursion (λ (f : Facet). contains cell (point_on f.poly (picked s.arrangement f.corners)) ≡ true) (facets_of s.poly)

    -- the facets of a list under a polytope are contained in the cell
    abbrev KeptAs : Poly → List ℕ → Type 0
    KeptAs poly vs = AllByRecursion (λ (f : Facet). contains cell (point_on f.poly (picked vs f.corners)) ≡ true) (facets_of poly)

    -- of two pairs with one set, each of the one is one of the other
    one-of : (a b x y : ℕ) → sorted (a ∷ b ∷ []) ≡ sorted (x ∷ y ∷ []) → ((a ≡ x) ⊎ (a ≡ y)) × ((b ≡ x) ⊎ (b ≡ y))
    one-of a b x y e =
        let pairs : min a b ∷ max a b ∷ [] ≡ min x y ∷ max x y ∷ [] = sym (sorted-min_max a b) ∙ e ∙ sorted-min_max x y in
        let low : min a b ≡ min x y = cc pairs in
        let high : max a b ≡ max x y = cc pairs in
        ⊎_elim (λ (same : a ≡ x). (inl same, inr (omega arith))) (λ (ne : a ≡ x → ⊥). let other : a ≡ y = omega arith in (inr other, inl (omega arith))) (cases_eq a x)

    -- a point that one of the cell's sights shows
    kept-by : (s u : Sight) → IsKnown s → HasShape u → Kind m cell u → Kept u → shows (point_of s) u ≡ true → Kept s
    unfolding seen_under
    kept-by s u known shape kind keeps shown = by-kind kind
      where
        both : ((dim_of s.poly == dim_of u.poly) ≡ true) × (same_list (sorted s.arrangement) (sorted u.arrangement) ≡ true)
        both = and_parts (dim_of s.poly == dim_of u.poly) (same_list (sorted s.arrangement) (sorted u.arrangement)) shown

        sets : sorted s.arrangement ≡ sorted u.arrangement
        sets = same_text (sorted s.arrangement) (sorted u.arrangement) (sym both.1)

        poly : s.poly ≡ u.poly
        poly = poly-told s.poly u.poly (eqb-true (dim_of s.poly) (dim_of u.poly) both.0) (sym known.shape.corners ∙ sym (length-sorted s.arrangement) ∙ ap length sets ∙ length-sorted u.arrangement ∙ shape.corners)

        -- the cell itself
        as-whole : u.poly ≡ cell.poly → u.arrangement ≡ cell.vertices → Kept s
        as-whole p v =
            let w = known.is_whole (ap dim_of poly ∙ ap dim_of p ∙ placed.good.dim) in
            let same = one-set (map (λ (d : Cell). d.vertices) m.cells) w.cell.vertices cell.vertices differ w.member placed.member (ap sorted (sym w.vertices) ∙ sets ∙ ap sorted v) in
            subst₂ KeptAs (sym (poly ∙ p)) (sym (w.vertices ∙ same)) (cell-keeps m sound.dim c cell placed.good)

        -- a set of two vertices that the cell contains as an edge
        Edge : List ℕ → Type 0
        Edge l = contains cell (record { dim = 1; vertices = l }) ≡ true

        -- a face, turned
        as-face : dim_of u.poly ≡ 2 → (o : ℤ) → seen_under m u.poly u.arrangement ≡ Some o → Kept s
        as-face flat o e =
            let turned : relative u.poly s.arrangement u.arrangement ≡ Some o = sym (ap (option_and_then (λ own. relative u.poly own u.arrangement)) (ap (arrangement m) (sym (shows-true (point_of s) u shown)) ∙ known.arranged)) ∙ e in
            let sides : AllByRecursion (λ x. Edge (sorted (picked u.arrangement x))) (edges_of u.poly) = all_mapped (λ (f : Facet). contains cell (point_on f.poly (picked u.arrangement f.corners)) ≡ true) (λ x. record { poly = Segment; corners = x }) (edges_of u.poly) (subst (AllByRecursion (λ (f : Facet). contains cell (point_on f.poly (picked u.arrangement f.corners)) ≡ true)) (polygon-facets u.poly flat) keeps) in
            subst (λ p. KeptAs p s.arrangement) (sym poly)
            (subst (AllByRecursion (λ (f : Facet). contains cell (point_on f.poly (picked s.arrangement f.corners)) ≡ true)) (sym (polygon-facets u.poly flat))
            (all_map (λ (f : Facet). contains cell (point_on f.poly (picked s.arrangement f.corners)) ≡ true) (λ x. record { poly = Segment; corners = x }) (edges_of u.poly) (turned-edges Edge u.poly s.arrangement u.arrangement o flat shape.corners turned sides)))

        -- an edge, by its ends
        as-edge : u.poly ≡ Segment → Kept s
        as-edge e =
            let ends : KeptAs Segment u.arrangement = subst (λ p. KeptAs p u.arrangement) e keeps in
            let mine = two-entries s.arrangement (known.shape.corners ∙ ap corner_count (poly ∙ e)) in
            let its = two-entries u.arrangement (shape.corners ∙ ap corner_count e) in
            let ones = one-of (slice_index s.arrangement 0) (slice_index s.arrangement 1) (slice_index u.arrangement 0) (slice_index u.arrangement 1) (ap sorted (sym mine) ∙ sets ∙ ap sorted its) in
            subst (λ p. KeptAs p s.arrangement) (sym (poly ∙ e)) (end ends (slice_index s.arrangement 0) ones.0, (end ends (slice_index s.arrangement 1) ones.1, tt))
          where
            end : KeptAs Segment u.arrangement → (v : ℕ) → (v ≡ slice_index u.arrangement 0) ⊎ (v ≡ slice_index u.arrangement 1) → contains cell (point_on Vertex (v ∷ [])) ≡ true
            end ends v (inl x) = ap (λ w. contains cell (point_on Vertex (w ∷ []))) x ∙ ends.0
            end ends v (inr x) = ap (λ w. contains cell (point_on Vertex (w ∷ []))) x ∙ ends.1.0

        by-kind : Kind m cell u → Kept s
        by-kind (Kind.whole p v) = as-whole p v
        by-kind (Kind.face flat o e) = as-face flat o e
        by-kind (Kind.edge e) = as-edge e

    -- a point that the cell contains, it contains with its facets
    kept : (s : Sight) → IsKnown s → contains cell (point_of s) ≡ true → Kept s
    unfolding contains
    kept s known h = ⊎_elim (λ (vertex : dim_of s.poly ≡ 0). subst (λ p. KeptAs p s.arrangement) (sym (poly-zero s.poly vertex)) tt) higher (cases_eq (dim_of s.poly) 0)
      where
        known-sights : AllByRecursion (λ u. (HasShape u × Kind m cell u) × Kept u) (sights_of (c, cell))
        known-sights = all_both (λ u. HasShape u × Kind m cell u) Kept _ (λ u a b. (a, b)) (sights_of (c, cell)) (all_both HasShape (Kind m cell) _ (λ u a b. (a, b)) (sights_of (c, cell)) (sights_of-shape m c cell placed.good) sights-kind) (sights-keep m sound.dim c cell placed.good)

        higher : (dim_of s.poly ≡ 0 → ⊥) → Kept s
        higher ne =
            let no_vertex : list_any (shows (point_of s)) (map vertex_sight cell.vertices) ≡ false = none_passes (shows (point_of s)) (map vertex_sight cell.vertices) (all_map (λ t. shows (point_of s) t ≡ false) vertex_sight cell.vertices (all_from (λ v. shows (point_of s) (vertex_sight v) ≡ false) (λ v. and_left (dim_of s.poly == 0) (same_list (point_of s).vertices (sorted (v ∷ []))) (ne_eqb (dim_of s.poly) 0 ne)) cell.vertices)) in
            let seen : list_any (shows (point_of s)) (sights_of (c, cell)) ≡ true = ⊎_elim (λ v. absurd (both_ways _ no_vertex v)) (λ x. sights_of-any_place (point_of s) c 0 cell ∙ x) (or_cases (list_any (shows (point_of s)) (map vertex_sight cell.vertices)) (list_any (shows (point_of s)) (sights_of (0, cell))) (sym (list_any-append (shows (point_of s)) (map vertex_sight cell.vertices) (sights_of (0, cell))) ∙ h)) in
            let (u, known_u, shown) = among (λ u. (HasShape u × Kind m cell u) × Kept u) (shows (point_of s)) (sights_of (c, cell)) known-sights seen in
            kept-by s u known known_u.0.0 known_u.0.1 known_u.1 shown

  -- ---- charts

  -- the facets of a point are points of these cells
  abbrev pub Inside : List (ℕ × Cell) → Sight → Type 0
  Inside cells s = AllByRecursion (λ (f : Facet). in_some (point_on f.poly (picked s.arrangement f.corners)) cells ≡ true) (facets_of s.poly)

  module _ (cells : List (ℕ × Cell)) (are : AreCells m cells) where
    has : Sight → Bool
    has s = in_some (point_of s) cells

    -- what is known of one of the cells
    Known : ℕ × Cell → Type 0
    Known d = IsPlaced d × ((q : ℕ × Cell → Bool) → q d ≡ true → list_any q cells ≡ true)

    known-cells : AllByRecursion Known cells
    unfolding Known
    known-cells = all_both IsPlaced (λ (d : ℕ × Cell). (q : ℕ × Cell → Bool) → q d ≡ true → list_any q cells ≡ true) Known (λ d g s. (g, s)) cells
        (all_weaker (Contains (placed_cells m)) IsPlaced (λ d in_mesh. All-contains IsPlaced (placed_cells m) d (All-from_recursion IsPlaced (placed_cells m) cells-placed) in_mesh) cells are) (stands cells)

    inside-point : (s : Sight) → IsKnown s → has s ≡ true → Inside cells s
    unfolding has Known
    inside-point s known h =
        let (d, (placed, there), holds) = among Known (λ (d : ℕ × Cell). contains d.1 (point_of s)) cells known-cells h in
        all_weaker (λ (f : Facet). contains d.1 (point_on f.poly (picked s.arrangement f.corners)) ≡ true) (λ (f : Facet). in_some (point_on f.poly (picked s.arrangement f.corners)) cells ≡ true)
        (λ f inside. there (λ (e : ℕ × Cell). contains e.1 (point_on f.poly (picked s.arrangement f.corners))) inside) (facets_of s.poly) (kept d.0 d.1 placed s known holds)

    -- the facets of the points of a chart are points of its cells
    pub chart-inside : AllByRecursion (Inside cells) (chart m cells)
    unfolding chart has
    chart-inside = all_both IsKnown (λ s. has s ≡ true) (Inside cells) inside-point (filter has (strata m)) (all_filter IsKnown has (strata m) strata-known) (filter_passing has (strata m))

    -- each facet of each point of a chart is shown by the chart
    pub chart-closed : AllByRecursion (λ s. AllByRecursion (λ (f : Facet). list_any (shows (point_on f.poly (picked s.arrangement f.corners))) (chart m cells) ≡ true) (facets_of s.poly)) (chart m cells)
    unfolding chart has
    chart-closed = all_both (Covers m sound accepted) (Inside cells) (λ s. AllByRecursion (λ (f : Facet). list_any (shows (point_on f.poly (picked s.arrangement f.corners))) (filter has (strata m)) ≡ true) (facets_of s.poly))
        (λ s covers inside. all_both (λ (f : Facet). IsSeen m f.poly (picked s.arrangement f.corners)) (λ (f : Facet). in_some (point_on f.poly (picked s.arrangement f.corners)) cells ≡ true) (λ (f : Facet). list_any (shows (point_on f.poly (picked s.arrangement f.corners))) (filter has (strata m)) ≡ true)
        (λ f seen there. shown (point_on f.poly (picked s.arrangement f.corners)) (found-any (shows (point_on f.poly (picked s.arrangement f.corners))) (strata m) seen.point seen.found) there) (facets_of s.poly) covers inside)
        (filter has (strata m)) (all_filter (Covers m sound accepted) has (strata m) (strata-cover m sound accepted)) chart-inside
      where
        shown : (q : Point) → list_any (shows q) (strata m) ≡ true → in_some q cells ≡ true → list_any (shows q) (filter has (strata m)) ≡ true
        shown q x y = any_filter (shows q) has (strata m) ∙ any_weaker (shows q) (λ t. has t && shows q t) (λ t e. and_from (has t) (shows q t) (subst (λ p. in_some p cells ≡ true) (shows-true q t e) y) e) (strata m) x

-- the cells that a rank holds are cells of the mesh
pub held-cells : (m : Mesh) (a : List ℕ) (r k : ℕ) → AreCells m (held_cells m a r k)
held-cells m a r k = subst (AreCells m) (sym (is_held m a r k).1) (all_filter (Contains (placed_cells m)) (is_held m a r k).0 (placed_cells m) (recursion_from_All (Contains (placed_cells m)) (placed_cells m) (All-contains_itself (placed_cells m))))

-- the chart of a rank is that of the cells that it holds
pub held-chart : (m : Mesh) (a : List ℕ) (r k : ℕ) → chart m (held_cells m a r k) ≡ held m a r k
unfolding held
held-chart m a r k = refl
