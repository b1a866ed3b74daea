-- What a part of a right mesh has.
use Rattle.std.proofs.Common.{◌≡◌, ℕ, ◌<◌, ◌≤◌, Bool, true, false, cond, not, ◌==◌, List, [], ◌∷◌, ◌++◌, map, length, Contains, refl, sym, ap, ap₂, ◌∙◌, subst, ⊎_elim, arith}
use Rattle.std.specs.List.{list_any, AllByRecursion, filter, enumerate_from}
use Rattle.std.proofs.lemmas.Bool.{eq-eqb, ne_eqb, cond-false}
use Rattle.std.proofs.lemmas.List.Filters.{length-filter_both}
use Rattle.std.proofs.lemmas.List.FromFn.{length-enumerate_from}
use Rattle.plain_lists.specs.Lists.{below}
use Rattle.plain_lists.proofs.Below.{length-below}
use Rattle.plain_lists.proofs.Each.{all_weaker, all_at, all_from, all_contained, all_enumerated}
use Rattle.plain_lists.proofs.Filters.{filter_passing, filter-mapped, map_same}
use Rattle.mesh_defs.specs.Tables.{dim_of, facets_of}
use Rattle.mesh_defs.specs.Mesh.{Mesh, Cell, Mark, placed_cells}
use Rattle.mesh_defs.specs.Points.{Sight, point_of, shows, cell_face, vertex_sight, vertex_sights, marked_point}
use Rattle.mesh_defs.specs.Diagram.{firsts}
use Rattle.mesh_defs.specs.Sights.{points_differ}
use Rattle.mesh_defs.specs.RightMesh.{IsRightMesh, IsSoundCell, AreCells, in_some}
use Rattle.plex_defs.specs.Labels.{label_of, mesh_label}
use Rattle.rank_chart_laws.specs.mark_laws.Sets.{IsShort}
use Rattle.rank_chart_laws.proofs.mark_laws.Filled.{cells-short}
use Rattle.rank_chart_laws.specs.label_laws.Marks.{marked_pairs}
use Rattle.rank_chart_laws.specs.field_laws.Kept.{kept_marks}
use Rattle.rank_chart_laws.proofs.field_laws.Marks.{own-label}
use Rattle.rank_defs.specs.Ranks.{rank_of, assigned}
use Rattle.rank_defs.specs.Spread.{ScatterPart, scatter_part, own_stratum, own_chart, labels}
use Rattle.headline_laws.specs.seed_laws.Given.{marks_on_cells}
use Rattle.headline_laws.proofs.seed_laws.Parts.{part-of_cells}
use Rattle.rank_laws.proofs.share_laws.Own.{own-members, own-differ, own-of_dim}
use Rattle.rank_laws.proofs.orient_laws.Seen.{placed-some}
use Rattle.rank_laws.proofs.orient_laws.Tops.{assigned-cells}
use Rattle.rank_chart_laws.specs.meeting_laws.Sets.{Rising}
use Rattle.rank_chart_laws.specs.OwnRanks.{own_vertices, own_rank_chart}
use Rattle.rank_chart_laws.proofs.Given.{rank-vertices}
use Rattle.rank_chart_laws.proofs.Right.{own-rising}
use Rattle.rank_chart_laws.proofs.Few.{vertices-few}
use Rattle.rank_chart_laws.proofs.Wholes.{own-sound, top-cells}
use Rattle.local_points.specs.Cells.{faces_seen, edges_seen}
use Rattle.local_points.specs.Points.{faces_among, edges_among}
use Rattle.local_points.proofs.Strata.{edges-stratum, faces-stratum}
use Rattle.local_points.proofs.Ends.{length-edges_seen}
use Rattle.local_points.proofs.Solids.{length-faces_seen}
use Rattle.mesh_laws.proofs.Firsts.{firsts-length}
use Rattle.dist_state.specs.scatter_state.Parts.{cell_at, mark_at}
use Rattle.interp_share.specs.part_labels.Parts.{IsPartOf, cells_among, points_of_part, labels_from}

-- a choice is no longer than the list
chosen-few : {X : Type 0} (p : X → Bool) (xs : List X) → length (filter p xs) ≤ length xs
chosen-few p xs = let both = length-filter_both p (λ x. not (p x)) (λ x. refl) xs in omega (arith, both)

-- polygons have no faces beside themselves
flat-faces : (cells : List (ℕ × Cell)) → AllByRecursion (λ (c : ℕ × Cell). dim_of c.1.poly ≡ 2) cells → faces_seen cells ≡ []
flat-faces [] h = refl
flat-faces (c ∷ cells) h = ap₂ (λ (x y : List Sight). x ++ y) (cond-false (dim_of c.1.poly == 3) (map (cell_face c.0 c.1) (enumerate_from 0 (facets_of c.1.poly))) [] (ne_eqb (dim_of c.1.poly) 3 (λ e. absurd (omega (arith, e, h.0))))) (flat-faces cells h.1)

module _ (part : ScatterPart) (m : Mesh) (a : List ℕ) (n r : ℕ) (is : IsPartOf part m a n r) where
  right : IsRightMesh m
  right = is.mesh

  -- its cells are those that are assigned to the rank
  pub cells-are : part.cells ≡ assigned m a r
  unfolding scatter_part
  cells-are = ap (λ (p : ScatterPart). p.cells) is.value

  pub are-cells : AreCells m part.cells
  are-cells = subst (AreCells m) (sym cells-are) (assigned-cells m a r)

  own : AllByRecursion (λ (c : ℕ × Cell). IsSoundCell m c.1) part.cells
  own = subst (AllByRecursion (λ (c : ℕ × Cell). IsSoundCell m c.1)) (sym cells-are) (own-sound m right.sound right.differ a r)

  pub dims : AllByRecursion (λ (c : ℕ × Cell). dim_of c.1.poly ≡ m.dim) part.cells
  dims = all_weaker (λ (c : ℕ × Cell). IsSoundCell m c.1) (λ (c : ℕ × Cell). dim_of c.1.poly ≡ m.dim) (λ c s. s.dim) part.cells own

  -- they have few vertices
  pub short-cells : AllByRecursion (λ (c : ℕ × Cell). IsShort c.1.vertices) part.cells
  short-cells = all_weaker (Contains (placed_cells m)) (λ (c : ℕ × Cell). IsShort c.1.vertices) (λ c here. all_contained (λ (d : ℕ × Cell). IsShort d.1.vertices) (placed_cells m) c (all_enumerated (λ (cell : Cell). IsShort cell.vertices) 0 m.cells (cells-short m right)) here) part.cells are-cells

  pub few-cells : length part.cells ≤ 250000
  unfolding assigned
  few-cells = let count = ap length cells-are in
      let few = chosen-few (λ c. rank_of a c == r) (placed_cells m) in
      omega (arith, count, few, length-enumerate_from 0 m.cells, right.few_cells)

  -- its vertices are those of the cells
  pub vertices-are : part.vertices ≡ own_vertices m (assigned m a r)
  unfolding own_rank_chart
  vertices-are = ap (λ (p : ScatterPart). p.vertices) is.value ∙ sym (rank-vertices m a r right.sound)

  pub vertices-rise : Rising part.vertices
  vertices-rise = subst Rising (sym vertices-are) (own-rising m (assigned m a r))

  pub few-vertices : length part.vertices ≤ 2000000
  few-vertices = let count = ap length vertices-are in
      let few = chosen-few (λ v. in_some (point_of (vertex_sight v)) (assigned m a r)) (below (length m.at)) in
      omega (arith, count, few, length-below (length m.at), vertices-few m right)

  -- its marks are on points of the cells
  pub marks-are : part.marks ≡ kept_marks m part.cells
  unfolding marks_on_cells
  marks-are = ap (λ (p : ScatterPart). p.marks) (is.value ∙ part-of_cells m a (assigned m a r) right (assigned-cells m a r)) ∙ ap (marks_on_cells m) (sym cells-are)

  pub mark-on : (i : ℕ) → i < length part.marks → in_some (marked_point (mark_at part.marks i)) part.cells ≡ true
  mark-on i low = all_at (λ (k : Mark). in_some (marked_point k) part.cells ≡ true) part.marks i (mark_at [] 0)
      (subst (AllByRecursion (λ (k : Mark). in_some (marked_point k) part.cells ≡ true)) (sym marks-are) (filter_passing (λ (k : Mark). in_some (marked_point k) part.cells) m.marks)) low

  -- a rank with marks has cells
  pub mark-cell : (i : ℕ) → i < length part.marks → 0 < length part.cells
  mark-cell i low = some part.cells (mark-on i low)
    where
      some : (cells : List (ℕ × Cell)) → in_some (marked_point (mark_at part.marks i)) cells ≡ true → 0 < length cells
      some [] h = absurd (cc h)
      some (c ∷ cells) h = omega arith

  -- all of the mesh's dimension
  pub first-dim : 0 < length part.cells → dim_of (cell_at part.cells 0).1.poly ≡ m.dim
  first-dim low = all_at (λ (c : ℕ × Cell). dim_of c.1.poly ≡ m.dim) part.cells 0 (cell_at [] 0) dims low

  -- it sees few faces and edges
  pub few-faces : length (faces_among part.cells) ≤ 1500000
  few-faces = omega (arith, firsts-length (faces_seen part.cells), length-faces_seen part.cells, few-cells)

  pub few-edges : length (edges_among part.cells) ≤ 3000000
  few-edges = omega (arith, firsts-length (edges_seen part.cells), length-edges_seen part.cells, few-cells)

  -- they are on points of the mesh
  pub mark-placed : (i : ℕ) → i < length part.marks → in_some (marked_point (mark_at part.marks i)) (placed_cells m) ≡ true
  mark-placed i low = placed-some m part.cells (marked_point (mark_at part.marks i)) are-cells (mark-on i low)

  -- ---- the own chart

  high : AllByRecursion (λ (c : ℕ × Cell). 2 ≤ dim_of c.1.poly) part.cells
  high = all_weaker (λ (c : ℕ × Cell). dim_of c.1.poly ≡ m.dim) (λ (c : ℕ × Cell). 2 ≤ dim_of c.1.poly) (λ c d. ⊎_elim (λ flat. omega (arith, d, flat)) (λ solid. omega (arith, d, solid)) right.sound.dim) part.cells dims

  of-dim : (d : ℕ) → m.dim ≡ d → AllByRecursion (λ (c : ℕ × Cell). dim_of c.1.poly ≡ d) part.cells
  of-dim d e = all_weaker (λ (c : ℕ × Cell). dim_of c.1.poly ≡ m.dim) (λ (c : ℕ × Cell). dim_of c.1.poly ≡ d) (λ c h. h ∙ e) part.cells dims

  own-faces : cond (m.dim == 3) (own_stratum part.cells 2) [] ≡ faces_among part.cells
  own-faces = ⊎_elim
      (λ (flat : m.dim ≡ 2). ap (λ b. cond b (own_stratum part.cells 2) []) (ne_eqb m.dim 3 (λ e. absurd (omega (arith, e, flat)))) ∙ sym (ap firsts (flat-faces part.cells (of-dim 2 flat))))
      (λ (solid : m.dim ≡ 3). ap (λ b. cond b (own_stratum part.cells 2) []) (eq-eqb m.dim 3 solid) ∙ sym (faces-stratum part.cells (of-dim 3 solid)))
      right.sound.dim

  -- polygons have no faces beside themselves
  pub no-face : m.dim ≡ 2 → faces_among part.cells ≡ []
  no-face flat = ap firsts (flat-faces part.cells (of-dim 2 flat))

  pub faces-of_dim : AllByRecursion (λ (s : Sight). dim_of s.poly ≡ 2) (faces_among part.cells)
  faces-of_dim = subst (AllByRecursion (λ (s : Sight). dim_of s.poly ≡ 2)) own-faces (each (m.dim == 3))
    where
      each : (b : Bool) → AllByRecursion (λ (s : Sight). dim_of s.poly ≡ 2) (cond b (own_stratum part.cells 2) [])
      each true = own-of_dim m part.cells 2
      each false = tt

  pub edges-of_dim : AllByRecursion (λ (s : Sight). dim_of s.poly ≡ 1) (edges_among part.cells)
  edges-of_dim = subst (AllByRecursion (λ (s : Sight). dim_of s.poly ≡ 1)) (sym (edges-stratum part.cells high)) (own-of_dim m part.cells 1)

  own-vertices : filter (λ s. in_some (point_of s) (assigned m a r)) (vertex_sights m) ≡ map vertex_sight part.vertices
  own-vertices = sym (filter-mapped vertex_sight (λ s. in_some (point_of s) (assigned m a r)) (below (length m.at))) ∙ ap (map vertex_sight) (sym vertices-are)

  own-tops : own_stratum (assigned m a r) m.dim ≡ cells_among part.cells
  own-tops = top-cells m right.sound right.differ a r ∙ ap cells_among (sym cells-are)

  -- the points of the part are those that the rank sees by itself
  pub points-are : own_chart m (assigned m a r) ≡ points_of_part part
  unfolding own_chart points_of_part
  points-are = λ i. own-tops i ++ own-vertices i ++ (ap (λ cells. cond (m.dim == 3) (own_stratum cells 2) []) (sym cells-are) ∙ own-faces) i ++ (ap (λ cells. own_stratum cells 1) (sym cells-are) ∙ sym (edges-stratum part.cells high)) i

  -- no two of them are one
  pub points-differ : points_differ (points_of_part part) ≡ true
  points-differ = ap points_differ (sym points-are) ∙ own-differ m (assigned m a r) right.sound.dim

  -- they show what the cells contain
  pub points-show : (i : ℕ) → i < length part.marks → list_any (shows (marked_point (mark_at part.marks i))) (points_of_part part) ≡ true
  points-show i low =
      let p = marked_point (mark_at part.marks i) in
      ap (list_any (shows p)) (sym points-are) ∙ own-members m (assigned m a r) right.sound (assigned-cells m a r) p ∙ ap (in_some p) (sym cells-are) ∙ mark-on i low

  -- their labels come from the marks of the part
  pub labels-are : labels_from (points_of_part part) part.marks ≡ labels m (own_chart m (assigned m a r))
  labels-are = map_same (λ dim. label_of (marked_pairs (points_of_part part) dim part.marks)) (λ dim. mesh_label m dim (own_chart m (assigned m a r))) (below 4)
      (all_from (λ dim. label_of (marked_pairs (points_of_part part) dim part.marks) ≡ mesh_label m dim (own_chart m (assigned m a r))) one (below 4))
    where
      one : (dim : ℕ) → label_of (marked_pairs (points_of_part part) dim part.marks) ≡ mesh_label m dim (own_chart m (assigned m a r))
      one dim = ap₂ (λ ps ms. label_of (marked_pairs ps dim ms)) (sym points-are) (marks-are ∙ ap (kept_marks m) cells-are) ∙ sym (own-label m (assigned m a r) right.sound.dim right.sound (assigned-cells m a r) dim)
