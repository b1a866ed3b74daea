-- What a rank is given of a right mesh: its cells are sound, its vertices rise, and its points are those of its own chart.
use Rattle.std.proofs.Common.{◌≡◌, ℕ, ◌<◌, ◌≤◌, ◌+◌, Bool, true, ◌==◌, List, [], length, refl, sym, ap, ◌∙◌, subst, inl, inr, arith}
use Rattle.std.specs.List.{list_any, AllByRecursion}
use Rattle.std.proofs.lemmas.Bool.{eq-eqb}
use Rattle.std.proofs.lemmas.List.Sums.{length-filter, count_by-le-length}
use Rattle.std.proofs.lemmas.List.FromFn.{length-enumerate_from}
use Rattle.plain_lists.specs.Lists.{below}
use Rattle.plain_lists.proofs.Below.{length-below}
use Rattle.plain_lists.proofs.Each.{all_at, all_both, all_filter, all_weaker}
use Rattle.plain_lists.proofs.Finding.{stands}
use Rattle.mesh_defs.specs.Tables.{dim_of}
use Rattle.mesh_defs.specs.Mesh.{Mesh, Cell, placed_cells}
use Rattle.mesh_defs.specs.Points.{Point, shows, contains}
use Rattle.mesh_defs.specs.Sights.{points_differ}
use Rattle.mesh_defs.specs.RightMesh.{IsFlatOrSolid, IsSoundCell, in_some}
use Rattle.rank_defs.specs.Ranks.{assigned, rank_of}
use Rattle.rank_defs.specs.Spread.{ScatterPart, scatter_part, own_chart}
use Rattle.headline_laws.proofs.seed_laws.Vertices.{contains-vertex}
use Rattle.rank_laws.specs.share_laws.Charts.{vertex_point}
use Rattle.rank_laws.proofs.share_laws.Own.{own-differ}
use Rattle.rank_laws.proofs.share_laws.Owners.{shown-by}
use Rattle.rank_chart_laws.specs.meeting_laws.Sets.{Rising}
use Rattle.rank_chart_laws.specs.OwnRanks.{own_vertices}
use Rattle.rank_chart_laws.proofs.Wholes.{own-sound}
use Rattle.rank_chart_laws.proofs.Given.{given-vertices, rank-vertices}
use Rattle.rank_chart_laws.proofs.Right.{own-rising, vertex-had}
use Rattle.rank_chart_laws.proofs.Few.{vertices-few}
use Rattle.dist_state.specs.scatter_state.Parts.{cell_at}
use Rattle.rank_chart_laws.proofs.field_laws.Sums.{enumerated-low}
use Rattle.interp_share.specs.own_field_laws.Own.{IsPartOf, part_points}
use Rattle.interp_share.proofs.own_field_laws.Points.{own-points}

module _ (part : ScatterPart) (m : Mesh) (a : List ℕ) (n r : ℕ) (is : IsPartOf part m a n r) where
  pub cells-are : part.cells ≡ assigned m a r
  unfolding scatter_part
  cells-are = ap (λ (p : ScatterPart). p.cells) is.value

  given-are : part.vertices ≡ (scatter_part m a (assigned m a r)).vertices
  given-are = ap (λ (p : ScatterPart). p.vertices) is.value

  vertices-are : part.vertices ≡ own_vertices m (assigned m a r)
  unfolding scatter_part
  vertices-are = given-are ∙ given-vertices m is.mesh.sound.dim (assigned m a r)

  pub points-are : part_points part ≡ own_chart m (assigned m a r)
  points-are = ap (λ (p : ScatterPart). part_points p) is.value ∙ sym (own-points m is.mesh a r)

  -- ---- counts

  low-in_mesh : AllByRecursion (λ (c : ℕ × Cell). c.0 + 1 ≤ length m.cells) (assigned m a r)
  unfolding assigned
  low-in_mesh = all_filter (λ (c : ℕ × Cell). c.0 + 1 ≤ length m.cells) (λ c. rank_of a c == r) (placed_cells m) (enumerated-low 0 m.cells (length m.cells) (omega arith))

  -- the cells' numbers
  pub numbers-low : AllByRecursion (λ (c : ℕ × Cell). c.0 + 1 ≤ 250000) part.cells
  numbers-low = all_weaker (λ (c : ℕ × Cell). c.0 + 1 ≤ length m.cells) (λ (c : ℕ × Cell). c.0 + 1 ≤ 250000) (λ c h. omega (arith, h, is.mesh.few_cells)) part.cells (subst (AllByRecursion (λ (c : ℕ × Cell). c.0 + 1 ≤ length m.cells)) (sym cells-are) low-in_mesh)

  pub cells-few : length part.cells ≤ 250000
  unfolding assigned
  cells-few = omega (arith, ap length cells-are, length-filter (λ c. rank_of a c == r) (placed_cells m), count_by-le-length (λ c. rank_of a c == r) (placed_cells m), length-enumerate_from 0 m.cells, is.mesh.few_cells)

  pub vertices-few-here : length part.vertices ≤ 2000000
  vertices-few-here = omega (arith, ap length vertices-are, length-filter (λ v. in_some (vertex_point v) (assigned m a r)) (below (length m.at)), count_by-le-length (λ v. in_some (vertex_point v) (assigned m a r)) (below (length m.at)), length-below (length m.at), vertices-few m is.mesh)

  pub vertices-rise : Rising part.vertices
  vertices-rise = subst Rising (sym vertices-are) (own-rising m (assigned m a r))

  -- ---- points

  pub points-apart : points_differ (part_points part) ≡ true
  points-apart = ap points_differ points-are ∙ own-differ m (assigned m a r) is.mesh.sound.dim

  pub points-shown : (p : Point) → in_some p part.cells ≡ true → list_any (shows p) (part_points part) ≡ true
  points-shown p h = ap (list_any (shows p)) points-are ∙ (shown-by m n a is.mesh.sound is.assignment.each r p ∙ (ap (in_some p) (sym cells-are) ∙ h))

  -- ---- cells

  all-sound : AllByRecursion (λ (c : ℕ × Cell). IsSoundCell m c.1) part.cells
  all-sound = subst (AllByRecursion (λ (c : ℕ × Cell). IsSoundCell m c.1)) (sym cells-are) (own-sound m is.mesh.sound is.mesh.differ a r)

  pub dims-high : (c : ℕ × Cell) → IsSoundCell m c.1 → 2 ≤ dim_of c.1.poly
  dims-high c sound = go (dim_of c.1.poly) sound.dim is.mesh.sound.dim
    where
      go : (d : ℕ) → d ≡ m.dim → IsFlatOrSolid m → 2 ≤ d
      go d e (inl flat) = omega arith
      go d e (inr solid) = omega arith

  module _ (i : ℕ) (low : i < length part.cells) where
    abbrev c : ℕ × Cell
    c = cell_at part.cells i

    pub cell-sound : IsSoundCell m (cell_at part.cells i).1
    cell-sound = all_at (λ (d : ℕ × Cell). IsSoundCell m d.1) part.cells i (cell_at [] 0) all-sound low

    pub number-low : (cell_at part.cells i).0 + 1 ≤ 250000
    number-low = all_at (λ (d : ℕ × Cell). d.0 + 1 ≤ 250000) part.cells i (cell_at [] 0) numbers-low low

    -- what a cell contains, the part's cells contain
    pub cell-inside : (p : Point) → contains (cell_at part.cells i).1 p ≡ true → in_some p part.cells ≡ true
    cell-inside p h = all_at (λ (d : ℕ × Cell). (q : ℕ × Cell → Bool) → q d ≡ true → list_any q part.cells ≡ true) part.cells i (cell_at [] 0) (stands part.cells) low (λ (d : ℕ × Cell). contains d.1 p) h

    -- the vertices at its corners are the part's
    pub corners-there : AllByRecursion (λ v. list_any (λ w. w == v) part.vertices ≡ true) (cell_at part.cells i).1.vertices
    corners-there = all_both (λ v. v < length m.at) (λ v. (q : ℕ → Bool) → q v ≡ true → list_any q c.1.vertices ≡ true) (λ v. list_any (λ w. w == v) part.vertices ≡ true)
        (λ v within here.
        let inside : in_some (vertex_point v) (assigned m a r) ≡ true = ap (in_some (vertex_point v)) (sym cells-are) ∙ cell-inside (vertex_point v) (contains-vertex v c.1 (dims-high c cell-sound) ∙ here (λ w. w == v) (eq-eqb v v refl)) in
        ap (list_any (λ w. w == v)) (given-are ∙ sym (rank-vertices m a r is.mesh.sound)) ∙ (vertex-had m is.mesh.sound n a is.assignment.each r v within ∙ inside))
        c.1.vertices cell-sound.in_range (stands c.1.vertices)
