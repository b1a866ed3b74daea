-- What a rank has of a right mesh fits together.
use Rattle.std.proofs.Common.{◌≡◌, ◌≢◌, ℕ, ◌*◌, ◌≤◌, ◌-◌, Bool, true, false, cond, ◌==◌, List, [], ◌∷◌, length, None, sym, ap, ◌∙◌, subst, ⊎_elim, arith}
use Rattle.std.specs.Prelude.{if◌then◌else◌}
use Rattle.std.specs.List.{list_any, AllByRecursion, filter}
use Rattle.std.proofs.lemmas.Bool.{eq-eqb, ne_eqb}
use Rattle.std.proofs.lemmas.List.FromFn.{length-enumerate_from}
use Rattle.plain_lists.specs.Lists.{below, picked}
use Rattle.plain_lists.proofs.Below.{length-below}
use Rattle.plain_lists.proofs.Each.{all_weaker, all_both}
use Rattle.mesh_defs.specs.Tables.{Facet, dim_of, facets_of}
use Rattle.mesh_defs.specs.Mesh.{Mesh, Cell, placed_cells}
use Rattle.mesh_defs.specs.Points.{Sight, point_on, point_of, shows, sights}
use Rattle.mesh_defs.specs.Diagram.{stratum, diagram}
use Rattle.mesh_laws.proofs.Firsts.{firsts-length}
use Rattle.mesh_defs.specs.Sights.{IsEdgeSight}
use Rattle.mesh_defs.specs.RightMesh.{IsSoundCell, IsRightMesh, in_some}
use Rattle.rank_laws.specs.diagram_laws.Strata.{face_sights, first_twist}
use Rattle.rank_laws.proofs.diagram_laws.Edges.{OfDim}
use Rattle.rank_laws.proofs.diagram_laws.Cones.{facets-lower}
use Rattle.rank_laws.specs.share_laws.Charts.{vertex_point}
use Rattle.rank_laws.proofs.share_laws.Own.{sound-cells}
use Rattle.rank_laws.proofs.Shapes.{HasShape}
use Rattle.rank_defs.specs.Ranks.{rank_of, assigned}
use Rattle.rank_laws.specs.orient_laws.Named.{chart_stratum, own_twist}
use Rattle.rank_laws.proofs.orient_laws.Seen.{stratum-own}
use Rattle.rank_laws.proofs.orient_laws.Tops.{assigned-cells}
use Rattle.rank_chart_laws.specs.OwnRanks.{own_vertices}
use Rattle.rank_chart_laws.proofs.Right.{own-rising}
use Rattle.rank_chart_laws.proofs.Few.{vertices-few, sights-few}
use Rattle.rank_chart_laws.specs.rank_diagram_laws.Parts.{Parts, held_faces, parts_of, sides, parts_diagram, HasFacets, IsCellPart, IsFacePart, IsEdgePart, AreParts}
use Rattle.rank_chart_laws.proofs.rank_diagram_laws.Charted.{stratum-shown, stratum-of_dim, solid-faces, flat-faces, assigned-tops}
use Rattle.rank_chart_laws.proofs.rank_diagram_laws.Inside.{cells-inside, edges-sound, stratum-inside, ends-inside, twist-by, sides-inside, shapes}
use Rattle.rank_chart_laws.proofs.rank_diagram_laws.Coned.{diagram-by_places}

-- ---- sizes

-- a choice is no longer than the list
filter-short : {X : Type 0} (p : X → Bool) (xs : List X) → length (filter p xs) ≤ length xs
filter-short p [] = omega arith
filter-short {X} p (x ∷ xs) = go (p x) (filter-short p xs)
  where
    go : (b : Bool) → length (filter p xs) ≤ length xs → length (cond b (x ∷ filter p xs) (filter p xs)) ≤ length (x ∷ xs)
    go true r = omega arith
    go false r = omega arith

-- the points of a dimension that some cells have in their chart are few
stratum-few : (m : Mesh) (cells : List (ℕ × Cell)) (d : ℕ) → d ≢ 0 → length (chart_stratum m cells d) ≤ 19 * length m.cells
unfolding chart_stratum
stratum-few m cells d ne =
    let seen : List Sight = filter (λ s. dim_of s.poly == d) (sights (placed_cells m)) in
    omega (
      arith,
      filter-short (λ s. in_some (point_of s) cells) (stratum m d),
      ap length (stratum-own m d ne),
      firsts-length (filter (λ s. dim_of s.poly == d) (sights (placed_cells m))),
      filter-short (λ (s : Sight). dim_of s.poly == d) (sights (placed_cells m)),
      sights-few (placed_cells m),
      length-enumerate_from 0 m.cells,
    )

module _ (m : Mesh) (right : IsRightMesh m) (a : List ℕ) (r : ℕ) where
  abbrev cells : List (ℕ × Cell)
  cells = assigned m a r

  abbrev parts : Parts
  parts = parts_of m (assigned m a r)

  cells-few : length (assigned m a r) ≤ 250000
  unfolding assigned
  cells-few = omega (arith, filter-short (λ c. rank_of a c == r) (placed_cells m), length-enumerate_from 0 m.cells, right.few_cells)

  vertices-short : length (own_vertices m (assigned m a r)) ≤ 2000000
  vertices-short = omega (arith, filter-short (λ v. in_some (vertex_point v) (assigned m a r)) (below (length m.at)), length-below (length m.at), vertices-few m right)

  faces-short : length (held_faces m (assigned m a r)) ≤ 4750000
  faces-short = ⊎_elim
      (λ flat. omega (arith, ap length (flat-faces m (assigned m a r) flat)))
      (λ solid. omega (arith, ap length (solid-faces m (assigned m a r) solid), stratum-few m (assigned m a r) 2 (λ e. absurd (omega arith)), right.few_cells)) right.sound.dim

  edges-short : length (chart_stratum m (assigned m a r) 1) ≤ 4750000
  edges-short = omega (arith, stratum-few m (assigned m a r) 1 (λ e. absurd (omega arith)), right.few_cells)

  -- ---- the points

  -- facets that the cells have are shown by the stratum of their dimension
  shown-facets : (d : ℕ) → d ≢ 0 → (fs : List Facet) (list : List ℕ) → AllByRecursion (λ (f : Facet). dim_of f.poly ≡ d) fs → AllByRecursion (λ (f : Facet). in_some (point_on f.poly (picked list f.corners)) (assigned m a r) ≡ true) fs → HasFacets (chart_stratum m (assigned m a r) d) fs list
  shown-facets d ne fs list = all_both (λ (f : Facet). dim_of f.poly ≡ d) (λ (f : Facet). in_some (point_on f.poly (picked list f.corners)) (assigned m a r) ≡ true) (λ (f : Facet). list_any (shows (point_on f.poly (picked list f.corners))) (chart_stratum m (assigned m a r) d) ≡ true)
      (λ f dim here. ap (λ e. list_any (shows (point_on f.poly (picked list f.corners))) (chart_stratum m (assigned m a r) e)) (sym dim) ∙ stratum-shown m (assigned m a r) (assigned-cells m a r) (point_on f.poly (picked list f.corners)) (λ e. ne (sym dim ∙ e)) ∙ here) fs

  cell-parts : AllByRecursion (IsCellPart parts) (assigned m a r)
  cell-parts = all_both (λ (c : ℕ × Cell). IsSoundCell m c.1) (λ (c : ℕ × Cell). AllByRecursion (λ (f : Facet). in_some (point_on f.poly (picked c.1.vertices f.corners)) (assigned m a r) ≡ true) (facets_of c.1.poly)) (IsCellPart parts)
      (λ c s inside. record { dim = s.dim; list = record { long = s.corners; different = s.different }; facets = facets c s inside }) (assigned m a r)
      (sound-cells m right.sound (assigned m a r) (assigned-cells m a r)) (cells-inside m right.sound (assigned m a r) (assigned-cells m a r))
    where
      facets : (c : ℕ × Cell) → IsSoundCell m c.1 → AllByRecursion (λ (f : Facet). in_some (point_on f.poly (picked c.1.vertices f.corners)) (assigned m a r) ≡ true) (facets_of c.1.poly) → HasFacets (sides (parts_of m (assigned m a r))) (facets_of c.1.poly) c.1.vertices
      facets c s inside = ⊎_elim
          (λ (flat : m.dim ≡ 2). subst (λ ss. HasFacets ss (facets_of c.1.poly) c.1.vertices) (sym (ap (λ b. if b then held_faces m (assigned m a r) else chart_stratum m (assigned m a r) 1) (ne_eqb m.dim 3 (λ e. absurd (omega arith)))))
          (shown-facets 1 (λ e. absurd (omega arith)) (facets_of c.1.poly) c.1.vertices (all_weaker (λ (f : Facet). dim_of f.poly ≡ dim_of c.1.poly - 1) (λ (f : Facet). dim_of f.poly ≡ 1) (λ f h. omega (arith, h, s.dim)) (facets_of c.1.poly) (facets-lower c.1.poly)) inside))
          (λ (solid : m.dim ≡ 3). subst (λ ss. HasFacets ss (facets_of c.1.poly) c.1.vertices) (sym (solid-faces m (assigned m a r) solid) ∙ sym (ap (λ b. if b then held_faces m (assigned m a r) else chart_stratum m (assigned m a r) 1) (eq-eqb m.dim 3 solid)))
          (shown-facets 2 (λ e. absurd (omega arith)) (facets_of c.1.poly) c.1.vertices (all_weaker (λ (f : Facet). dim_of f.poly ≡ dim_of c.1.poly - 1) (λ (f : Facet). dim_of f.poly ≡ 2) (λ f h. omega (arith, h, s.dim)) (facets_of c.1.poly) (facets-lower c.1.poly)) inside))
          right.sound.dim

  -- what the stratum has, the faces have
  of-faces : (P : Sight → Type 0) → (m.dim ≡ 3 → AllByRecursion P (chart_stratum m (assigned m a r) 2)) → AllByRecursion P (held_faces m (assigned m a r))
  of-faces P h = ⊎_elim (λ flat. subst (AllByRecursion P) (sym (flat-faces m (assigned m a r) flat)) tt) (λ solid. subst (AllByRecursion P) (sym (solid-faces m (assigned m a r) solid)) (h solid)) right.sound.dim

  face-parts : AllByRecursion IsFacePart (held_faces m (assigned m a r))
  face-parts = of-faces IsFacePart (λ solid. all_both HasShape (OfDim 2) IsFacePart (λ s shape two. record { dim = two; list = record { long = shape.corners; different = shape.different } }) (chart_stratum m (assigned m a r) 2)
      (shapes m right.sound (assigned m a r) (assigned-cells m a r) 2 (λ e. absurd (omega arith))) (stratum-of_dim m (assigned m a r) 2 (λ e. absurd (omega arith))))

  edge-parts : AllByRecursion (IsEdgePart parts) (chart_stratum m (assigned m a r) 1)
  edge-parts = all_both (IsEdgeSight (length m.at)) (λ s. in_some (point_of s) (assigned m a r) ≡ true) (IsEdgePart parts)
      (λ s h here. let ends = ends-inside m right.sound (assigned m a r) (assigned-cells m a r) s h here in let few = vertices-few m right in
      record { edge = record { poly = h.poly; ends = h.ends; first = omega (arith, h.first, few); second = omega (arith, h.second, few); apart = h.apart }; first = ends.0; second = ends.1 })
      (chart_stratum m (assigned m a r) 1) (edges-sound m right.sound (assigned m a r) (assigned-cells m a r)) (stratum-inside m right.sound (assigned m a r) (assigned-cells m a r) 1)

  side-parts : first_twist (held_faces m (assigned m a r)) (face_sights (assigned m a r)) ≡ None → AllByRecursion (λ (s : Sight). HasFacets (chart_stratum m (assigned m a r) 1) (facets_of s.poly) s.arrangement) (held_faces m (assigned m a r))
  side-parts none = of-faces (λ (s : Sight). HasFacets (chart_stratum m (assigned m a r) 1) (facets_of s.poly) s.arrangement)
      (λ solid. all_both (OfDim 2) (λ (s : Sight). AllByRecursion (λ (f : Facet). in_some (point_on f.poly (picked s.arrangement f.corners)) (assigned m a r) ≡ true) (facets_of s.poly)) (λ (s : Sight). HasFacets (chart_stratum m (assigned m a r) 1) (facets_of s.poly) s.arrangement)
      (λ s two inside. shown-facets 1 (λ e. absurd (omega arith)) (facets_of s.poly) s.arrangement (all_weaker (λ (f : Facet). dim_of f.poly ≡ dim_of s.poly - 1) (λ (f : Facet). dim_of f.poly ≡ 1) (λ f h. omega (arith, h, two)) (facets_of s.poly) (facets-lower s.poly)) inside)
      (chart_stratum m (assigned m a r) 2) (stratum-of_dim m (assigned m a r) 2 (λ e. absurd (omega arith))) (sides-inside m right.sound (assigned m a r) (assigned-cells m a r) solid none))

  -- all parts
  pub parts-fit : AreParts (parts_of m (assigned m a r))
  parts-fit = record {
    dim = right.sound.dim;
    flat = flat-faces m (assigned m a r);
    fits = omega (arith, cells-few, vertices-short, faces-short, edges-short);
    rising = own-rising m (assigned m a r);
    cells = cell-parts;
    faces = face-parts;
    sides = side-parts;
    edges = edge-parts;
  }

  -- the own twist
  pub own-twist-by : own_twist m a r ≡ first_twist (held_faces m (assigned m a r)) (face_sights (assigned m a r))
  unfolding own_twist
  own-twist-by = twist-by m right.sound (assigned m a r) (assigned-cells m a r)

  -- the diagram, where there is no twist
  pub rank-diagram : own_twist m a r ≡ None → diagram m (assigned m a r) ≡ parts_diagram (parts_of m (assigned m a r))
  rank-diagram none = diagram-by_places m right.sound (assigned m a r) (assigned-cells m a r) (assigned-tops m right.sound right.differ a r) (sym own-twist-by ∙ none)
