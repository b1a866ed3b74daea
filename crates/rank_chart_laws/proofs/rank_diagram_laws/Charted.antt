-- The chart of some cells by strata, and what stands in it: each point as the whole mesh sees it first.
use Rattle.std.proofs.Common.{◌≡◌, ◌≢◌, ℕ, ◌+◌, ◌<◌, Bool, true, false, ◌||◌, ◌==◌, List, [], ◌∷◌, ◌++◌, map, length, Option, Some, None, refl, sym, ap, ap₂, ◌∙◌, subst, ⊎_elim, length-append, arith}
use Rattle.std.specs.Prelude.{find, option_map, option_and_then, if◌then◌else◌}
use Rattle.std.specs.List.{list_any, position_or_len, AllByRecursion, filter}
use Rattle.std.proofs.lemmas.Bool.{eq-eqb, ne_eqb, or_left, or_right}
use Rattle.std.proofs.lemmas.List.{length-map}
use Rattle.std.proofs.lemmas.List.Folds.{list_any-append}
use Rattle.plain_lists.specs.Lists.{below}
use Rattle.plain_lists.proofs.Each.{all_map, all_weaker, all_from, all_filter}
use Rattle.plain_lists.proofs.Filters.{filter-mapped}
use Rattle.plain_lists.proofs.Finding.{find-filter, any_map, any_same, position-append_found, position-append_none, position_map, position_agree}
use Rattle.mesh_defs.specs.declared.Poly.{Poly}
use Rattle.mesh_defs.specs.declared.Poly.TheVariants.{Vertex}
use Rattle.mesh_defs.specs.Tables.{dim_of}
use Rattle.mesh_defs.specs.Orientation.{relative}
use Rattle.mesh_defs.specs.Mesh.{Mesh, Cell, placed_cells}
use Rattle.mesh_defs.specs.Points.{Point, Sight, point_on, point_of, shows, cell_sight, sights, vertex_sight, first_sight, arrangement}
use Rattle.mesh_defs.specs.Diagram.{stratum, chart, place_in, seen_under}
use Rattle.mesh_defs.specs.RightMesh.{IsSoundCell, IsSoundMesh, CellsDiffer, AreCells, in_some}
use Rattle.mesh_laws.proofs.Firsts.{shows-true}
use Rattle.mesh_laws.proofs.Containing.{shows-vertex, eqb-sym}
use Rattle.rank_laws.specs.diagram_laws.Strata.{whole_sights, turn_among}
use Rattle.rank_laws.proofs.diagram_laws.Parts.{of_dim}
use Rattle.rank_laws.proofs.diagram_laws.Edges.{OfDim, none-of_dim}
use Rattle.rank_laws.proofs.diagram_laws.Cones.{first-of_dim}
use Rattle.rank_laws.proofs.share_laws.Own.{own-of_dim}
use Rattle.rank_defs.specs.Ranks.{assigned}
use Rattle.rank_laws.specs.orient_laws.Named.{chart_stratum}
use Rattle.rank_laws.proofs.orient_laws.Seen.{own-shown, stratum-own, same_points}
use Rattle.rank_laws.proofs.orient_laws.ByKey.{chart-strata}
use Rattle.rank_laws.proofs.orient_laws.Tops.{top-stratum}
use Rattle.rank_chart_laws.specs.OwnRanks.{own_vertices}
use Rattle.rank_chart_laws.proofs.Wholes.{top-cells}
use Rattle.rank_chart_laws.specs.rank_diagram_laws.Parts.{held_faces}

-- a choice after an image
then-mapped : {X Y Z : Type 0} (f : Y → Option Z) (g : X → Y) (o : Option X) → option_and_then f (option_map g o) ≡ option_and_then (λ x. f (g x)) o
then-mapped f g None = refl
then-mapped f g (Some x) = refl

-- none of two lists
neither : (p : Point) (xs ys : List Sight) → list_any (shows p) xs ≡ false → list_any (shows p) ys ≡ false → list_any (shows p) (xs ++ ys) ≡ false
neither p xs ys a b = list_any-append (shows p) xs ys ∙ ap₂ (λ s t. s || t) a b

module _ (m : Mesh) (cells : List (ℕ × Cell)) where
  -- ---- first sights

  -- a point of the cells that is no vertex is found among the points of its dimension as the whole mesh sees it first
  pub held-first : (p : Point) → p.dim ≢ 0 → in_some p cells ≡ true → find (shows p) (chart_stratum m cells p.dim) ≡ first_sight m p
  unfolding chart_stratum
  held-first p ne here =
      find-filter (shows p) (λ s. in_some (point_of s) cells) (λ s e. ap (λ q. in_some q cells) (sym (shows-true p s e)) ∙ here) (stratum m p.dim)
      ∙ ap (find (shows p)) (stratum-own m p.dim ne)
      ∙ sym (first-of_dim m p (filter (of_dim p.dim) (sights (placed_cells m))) ne refl)

  -- so the orientation under which it is seen is the one by what is found there
  pub held-turn : (poly : Poly) (list : List ℕ) → dim_of poly ≢ 0 → in_some (point_on poly list) cells ≡ true → seen_under m poly list ≡ turn_among (chart_stratum m cells (dim_of poly)) poly list
  unfolding seen_under arrangement turn_among
  held-turn poly list ne here =
      ap (λ s. option_and_then (λ own. relative poly own list) (option_map (λ (s : Sight). s.arrangement) s)) (sym (held-first (point_on poly list) ne here))
      ∙ then-mapped (λ own. relative poly own list) (λ (s : Sight). s.arrangement) (find (shows (point_on poly list)) (chart_stratum m cells (dim_of poly)))

  -- ---- strata

  -- the points of a dimension
  pub stratum-of_dim : (d : ℕ) → d ≢ 0 → AllByRecursion (OfDim d) (chart_stratum m cells d)
  unfolding chart_stratum
  stratum-of_dim d ne = all_filter (OfDim d) (λ s. in_some (point_of s) cells) (stratum m d) (subst (AllByRecursion (OfDim d)) (sym (stratum-own m d ne)) (own-of_dim m (placed_cells m) d))

  -- they are those that the cells contain
  pub stratum-shown : AreCells m cells → (p : Point) → p.dim ≢ 0 → list_any (shows p) (chart_stratum m cells p.dim) ≡ in_some p cells
  stratum-shown are p ne = sym (same_points m cells p.dim ne are p) ∙ own-shown p p.dim cells ne refl

  -- the vertices, by position
  pub stratum-vertices : chart_stratum m cells 0 ≡ map vertex_sight (own_vertices m cells)
  unfolding chart_stratum stratum
  stratum-vertices = sym (filter-mapped vertex_sight (λ s. in_some (point_of s) cells) (below (length m.at)))

  -- in a solid mesh the faces are the stratum, in a flat one there are none
  pub solid-faces : m.dim ≡ 3 → held_faces m cells ≡ chart_stratum m cells 2
  solid-faces solid = ap (λ b. if b then chart_stratum m cells 2 else []) (eq-eqb m.dim 3 solid)

  pub flat-faces : m.dim ≡ 2 → held_faces m cells ≡ []
  flat-faces flat = ap (λ b. if b then chart_stratum m cells 2 else []) (ne_eqb m.dim 3 (λ e. absurd (omega arith)))

  pub faces-of_dim : AllByRecursion (OfDim 2) (held_faces m cells)
  faces-of_dim = go (m.dim == 3)
    where
      go : (b : Bool) → AllByRecursion (OfDim 2) (if b then chart_stratum m cells 2 else [])
      go true = stratum-of_dim 2 (λ e. absurd (omega arith))
      go false = tt

  pub edges-of_dim : AllByRecursion (OfDim 1) (chart_stratum m cells 1)
  edges-of_dim = stratum-of_dim 1 (λ e. absurd (omega arith))

  pub vertices-of_dim : (vs : List ℕ) → AllByRecursion (OfDim 0) (map vertex_sight vs)
  vertices-of_dim vs = all_map (OfDim 0) vertex_sight vs (all_from (λ v. OfDim 0 (vertex_sight v)) (λ v. refl) vs)

  -- a vertex is shown where it stands
  pub vertex-shown : (v : ℕ) (vs : List ℕ) → list_any (shows (point_on Vertex (v ∷ []))) (map vertex_sight vs) ≡ list_any (λ w. w == v) vs
  vertex-shown v vs = any_map (shows (point_of (vertex_sight v))) vertex_sight vs ∙ any_same (λ w. shows (point_of (vertex_sight v)) (vertex_sight w)) (λ w. w == v) (λ w. shows-vertex v w ∙ eqb-sym v w) vs

  vertex-place : (v : ℕ) (vs : List ℕ) → position_or_len (shows (point_on Vertex (v ∷ []))) (map vertex_sight vs) ≡ position_or_len (λ w. w == v) vs
  vertex-place v vs = position_map (shows (point_of (vertex_sight v))) vertex_sight vs
      ∙ position_agree (λ w. shows (point_of (vertex_sight v)) (vertex_sight w)) (λ w. w == v) vs (all_from (λ w. shows (point_of (vertex_sight v)) (vertex_sight w) ≡ (w == v)) (λ w. shows-vertex v w ∙ eqb-sym v w) vs)

  -- ---- places, where the cells stand as they see themselves

  module _ (sound : IsSoundMesh m) (sounds : AllByRecursion (λ (c : ℕ × Cell). IsSoundCell m c.1) cells) (tops : chart_stratum m cells m.dim ≡ whole_sights cells) where
    abbrev vertices : List Sight
    vertices = map vertex_sight (own_vertices m cells)

    -- the number of a point
    abbrev pub number : Point → ℕ
    number = place_in (chart m cells)

    pub chart-parts : chart m cells ≡ whole_sights cells ++ vertices ++ held_faces m cells ++ chart_stratum m cells 1
    chart-parts = chart-strata m cells ∙ (λ i. tops i ++ stratum-vertices i ++ held_faces m cells ++ chart_stratum m cells 1)

    pub wholes-of_dim : AllByRecursion (OfDim m.dim) (whole_sights cells)
    wholes-of_dim = all_map (OfDim m.dim) (λ (c : ℕ × Cell). cell_sight c.0 c.1) cells (all_weaker (λ (c : ℕ × Cell). IsSoundCell m c.1) (λ (c : ℕ × Cell). OfDim m.dim (cell_sight c.0 c.1)) (λ c s. s.dim) cells sounds)

    pub length-wholes : length (whole_sights cells) ≡ length cells
    length-wholes = length-map cells (λ (c : ℕ × Cell). cell_sight c.0 c.1)

    pub length-vertices : length vertices ≡ length (own_vertices m cells)
    length-vertices = length-map (own_vertices m cells) vertex_sight

    dim-is_not : (d : ℕ) → d < 2 → d ≢ m.dim
    dim-is_not d low e = ⊎_elim (λ (f : m.dim ≡ 2). absurd (omega arith)) (λ (f : m.dim ≡ 3). absurd (omega arith)) sound.dim

    -- a vertex stands behind the cells
    pub place-vertex : (v : ℕ) → list_any (λ w. w == v) (own_vertices m cells) ≡ true → number (point_on Vertex (v ∷ [])) ≡ length cells + position_or_len (λ w. w == v) (own_vertices m cells)
    place-vertex v here =
        let p = point_on Vertex (v ∷ []) in
        let wholes = whole_sights cells in
        let shown : list_any (shows p) (wholes ++ vertices) ≡ true = list_any-append (shows p) wholes vertices ∙ or_right (list_any (shows p) wholes) _ (vertex-shown v (own_vertices m cells) ∙ here) in
        ap (position_or_len (shows p)) chart-parts
        ∙ position-append_found (shows p) (wholes ++ vertices ++ held_faces m cells) (chart_stratum m cells 1) (list_any-append (shows p) (wholes ++ vertices) (held_faces m cells) ∙ or_left _ _ shown)
        ∙ position-append_found (shows p) (wholes ++ vertices) (held_faces m cells) shown
        ∙ position-append_none (shows p) wholes vertices (none-of_dim p m.dim wholes (dim-is_not 0 (omega arith)) wholes-of_dim)
        ∙ ap₂ (λ a b. a + b) length-wholes (vertex-place v (own_vertices m cells))

    -- a face stands behind the vertices, in a solid mesh
    pub place-face : m.dim ≡ 3 → (p : Point) → p.dim ≡ 2 → list_any (shows p) (held_faces m cells) ≡ true → number p ≡ length cells + length (own_vertices m cells) + position_or_len (shows p) (held_faces m cells)
    place-face solid p two shown =
        let wholes = whole_sights cells in
        ap (position_or_len (shows p)) chart-parts
        ∙ position-append_found (shows p) (wholes ++ vertices ++ held_faces m cells) (chart_stratum m cells 1) (list_any-append (shows p) (wholes ++ vertices) (held_faces m cells) ∙ or_right (list_any (shows p) (wholes ++ vertices)) _ shown)
        ∙ position-append_none (shows p) (wholes ++ vertices) (held_faces m cells) (neither p wholes vertices (none-of_dim p m.dim wholes (λ e. absurd (omega arith)) wholes-of_dim) (none-of_dim p 0 vertices (λ e. absurd (omega arith)) (vertices-of_dim (own_vertices m cells))))
        ∙ ap (λ n. n + position_or_len (shows p) (held_faces m cells)) (length-append wholes vertices ∙ ap₂ (λ a b. a + b) length-wholes length-vertices)

    -- an edge stands behind the faces
    pub place-edge : (p : Point) → p.dim ≡ 1 → number p ≡ length cells + length (own_vertices m cells) + length (held_faces m cells) + position_or_len (shows p) (chart_stratum m cells 1)
    place-edge p one =
        let wholes = whole_sights cells in
        ap (position_or_len (shows p)) chart-parts
        ∙ position-append_none (shows p) (wholes ++ vertices ++ held_faces m cells) (chart_stratum m cells 1)
        (neither p (wholes ++ vertices) (held_faces m cells)
        (neither p wholes vertices (none-of_dim p m.dim wholes (λ e. dim-is_not 1 (omega arith) (sym one ∙ e)) wholes-of_dim) (none-of_dim p 0 vertices (λ e. absurd (omega arith)) (vertices-of_dim (own_vertices m cells))))
        (none-of_dim p 2 (held_faces m cells) (λ e. absurd (omega arith)) faces-of_dim))
        ∙ ap (λ n. n + position_or_len (shows p) (chart_stratum m cells 1))
        (length-append (wholes ++ vertices) (held_faces m cells) ∙ ap (λ n. n + length (held_faces m cells)) (length-append wholes vertices ∙ ap₂ (λ a b. a + b) length-wholes length-vertices))

-- the cells of a rank stand in its chart as they see themselves
pub assigned-tops : (m : Mesh) → IsSoundMesh m → CellsDiffer m → (a : List ℕ) (r : ℕ) → chart_stratum m (assigned m a r) m.dim ≡ whole_sights (assigned m a r)
assigned-tops m sound differ a r = sym (top-stratum m sound differ a r) ∙ top-cells m sound differ a r
