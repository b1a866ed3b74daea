-- A cell of an accepted mesh leads, by cone entries, to the points that it contains.
use Rattle.std.proofs.Common.{◌≡◌, ℕ, zero, suc, ◌-◌, ◌<◌, true, ◌==◌, List, [], ◌∷◌, ◌++◌, length, get_or, Some, Contains, sym, ap, ◌∙◌, subst, inl, inr, arith}
use Rattle.std.specs.Prelude.{find}
use Rattle.std.specs.List.{list_any, list_all, AllByRecursion}
use Rattle.std.proofs.lemmas.Bool.{and_parts, eqb-true}
use Rattle.std.proofs.lemmas.List.{length-map}
use Rattle.mesh_defs.specs.declared.Poly.{Poly}
use Rattle.plain_lists.specs.Lists.{picked}
use Rattle.plain_lists.proofs.Each.{all_weaker, all_both, all_mapped, all_contained, all_append_first, all_in_flat_map, all_enumerated, each_passes}
use Rattle.plain_lists.proofs.Finding.{find-passes, find-has}
use Rattle.mesh_defs.specs.Tables.{Facet, dim_of, corner_count, facets_of}
use Rattle.mesh_defs.specs.Mesh.{Mesh, Cell, placed_cells}
use Rattle.mesh_defs.specs.Points.{Point, Sight, same_point, point_on, point_of, shows, first_sight, cell_sight, vertex_sight, contains}
use Rattle.mesh_defs.specs.Diagram.{stratum, strata, chart, place_in, diagram, IsAccepted}
use Rattle.mesh_defs.specs.RightMesh.{IsFlatOrSolid, IsSoundCell, IsSoundMesh, CellsDiffer, AreCells, in_some}
use Rattle.mesh_laws.proofs.Firsts.{shows-true}
use Rattle.rank_laws.proofs.diagram_laws.Parts.{stratum-cells, cell-dims}
use Rattle.rank_laws.proofs.diagram_laws.Cones.{facets-lower}
use Rattle.walk_defs.specs.Cones.{reaches}
use Rattle.rank_defs.specs.Ranks.{held_cells, held}
use Rattle.rank_laws.proofs.ChartsClosed.{held-cells}
use Rattle.rank_laws.proofs.Strata.{strata-first}
use Rattle.rank_laws.proofs.Shapes.{HasShape, strata-shape}
use Rattle.rank_laws.proofs.Found.{IsSeen}
use Rattle.rank_laws.proofs.Facets.{Covers, strata-cover}
use Rattle.rank_laws.specs.reach_laws.Reached.{reached}
use Rattle.rank_laws.proofs.reach_laws.Tables.{fits, facets-fit, contained-reached}
use Rattle.rank_laws.proofs.reach_laws.Charts.{some-contains, chart-members, chart-found, chart-differs, own-place}
use Rattle.rank_laws.proofs.reach_laws.Descents.{facet_points, own-members, Agrees, Descends, sight_at, descent-reaches}
use Rattle.rank_laws.proofs.reach_laws.Agreements.{edge-agrees, face-agrees}

-- what all points have, cells of the mesh have as they see themselves
of-cells : (P : Sight → Type 0) (m : Mesh) → IsSoundMesh m → CellsDiffer m → AllByRecursion P (strata m) → AllByRecursion (λ (c : ℕ × Cell). P (cell_sight c.0 c.1)) (placed_cells m)
unfolding strata
of-cells P m sound differ h = all_mapped P (λ (c : ℕ × Cell). cell_sight c.0 c.1) (placed_cells m)
    (subst (AllByRecursion P) (stratum-cells m sound.dim (cell-dims m sound) differ)
    (all_append_first P (stratum m m.dim) (stratum m 0) (all_append_first P (stratum m m.dim ++ stratum m 0) _ (all_append_first P (stratum m m.dim ++ stratum m 0 ++ _) (stratum m 1) h))))

module _ (m : Mesh) (cells : List (ℕ × Cell)) (sound : IsSoundMesh m) (accepted : IsAccepted m) (differ : CellsDiffer m) (are : AreCells m cells) where
  abbrev Inside : ℕ → Poly → List ℕ → Type 0
  Inside n poly vs = AllByRecursion (λ q. in_some q cells ≡ true) (reached n poly vs)

  abbrev Down : ℕ → Poly → List ℕ → Type 0
  Down n poly vs = Descends (chart m cells) n poly vs

  found-here : (q : Point) → in_some q cells ≡ true → list_any (shows q) (chart m cells) ≡ true
  found-here q h = chart-members m cells sound are q ∙ h

  -- a facet is one dimension lower, and has its corners
  IsFacet : ℕ → Facet → Type 0
  IsFacet d f = (dim_of f.poly ≡ d) × (length f.corners ≡ corner_count f.poly)

  facets-are : (poly : Poly) (d : ℕ) → dim_of poly ≡ suc d → AllByRecursion (IsFacet d) (facets_of poly)
  unfolding IsFacet
  facets-are poly d e = all_both (λ (f : Facet). dim_of f.poly ≡ dim_of poly - 1) (λ f. fits poly f ≡ true) (IsFacet d)
      (λ f low fit. (omega (arith, low, e), eqb-true (length f.corners) (corner_count f.poly) (and_parts (length f.corners == corner_count f.poly) (list_all _ f.corners) fit).0))
      (facets_of poly) (facets-lower poly) (each_passes (fits poly) (facets_of poly) (facets-fit poly))

  picked-long : (vs : List ℕ) (f : Facet) → length f.corners ≡ corner_count f.poly → length (picked vs f.corners) ≡ corner_count f.poly
  picked-long vs f h = length-map f.corners (λ k. get_or vs k 0) ∙ h

  -- what stands in the chart has a shape
  shape-found : (q : Point) (s : Sight) → in_some q cells ≡ true → find (shows q) (chart m cells) ≡ Some s → HasShape s
  shape-found q s h e = find-has HasShape (shows q) (strata m) s (strata-shape m sound) (sym (chart-found m cells q h) ∙ e)

  down-edge : (poly : Poly) (vs : List ℕ) → dim_of poly ≡ 1 → length vs ≡ corner_count poly → Inside 1 poly vs → Down 1 poly vs
  down-edge poly vs one long inside = (
    found-here (point_on poly vs) inside.0,
    (
      (λ s e. edge-agrees s poly vs (shape-found (point_on poly vs) s inside.0 e) one long (find-passes (shows (point_on poly vs)) (chart m cells) s e)),
      all_weaker (λ (f : Facet). Inside 0 f.poly (picked vs f.corners)) (λ (f : Facet). Down 0 f.poly (picked vs f.corners)) (λ f h. found-here (point_on f.poly (picked vs f.corners)) h.0) (facets_of poly)
          (all_in_flat_map (λ q. in_some q cells ≡ true) (λ (f : Facet). reached 0 f.poly (picked vs f.corners)) (facets_of poly) inside.1),
    ),
  )

  down-face : (poly : Poly) (vs : List ℕ) → dim_of poly ≡ 2 → Agrees (chart m cells) poly vs → Inside 2 poly vs → Down 2 poly vs
  unfolding IsFacet
  down-face poly vs two agrees inside = (
    found-here (point_on poly vs) inside.0,
    (
      agrees,
      all_both (IsFacet 1) (λ (f : Facet). Inside 1 f.poly (picked vs f.corners)) (λ (f : Facet). Down 1 f.poly (picked vs f.corners)) (λ f is h. down-edge f.poly (picked vs f.corners) is.0 (picked-long vs f is.1) h) (facets_of poly) (facets-are poly 1 two)
          (all_in_flat_map (λ q. in_some q cells ≡ true) (λ (f : Facet). reached 1 f.poly (picked vs f.corners)) (facets_of poly) inside.1),
    ),
  )

  -- a face that a cell sees
  seen-agrees : (poly : Poly) (vs : List ℕ) → dim_of poly ≡ 2 → length vs ≡ corner_count poly → in_some (point_on poly vs) cells ≡ true → IsSeen m poly vs → Agrees (chart m cells) poly vs
  seen-agrees poly vs two long h seen s e =
      let same : seen.point ≡ s = cc (sym seen.found ∙ (sym (chart-found m cells (point_on poly vs) h) ∙ e)) in
      face-agrees m s poly vs seen.turn (ap (λ (t : Sight). t.poly) (sym same) ∙ seen.same_poly) two long (seen.arranged ∙ ap (λ (t : Sight). Some t.arrangement) same) seen.under

  down-solid : (poly : Poly) (vs : List ℕ) → dim_of poly ≡ 3 → Agrees (chart m cells) poly vs → AllByRecursion (λ (f : Facet). IsSeen m f.poly (picked vs f.corners)) (facets_of poly) → Inside 3 poly vs → Down 3 poly vs
  unfolding IsFacet
  down-solid poly vs three agrees seen inside = (
    found-here (point_on poly vs) inside.0,
    (
      agrees,
      all_both (λ (f : Facet). IsFacet 2 f × IsSeen m f.poly (picked vs f.corners)) (λ (f : Facet). Inside 2 f.poly (picked vs f.corners)) (λ (f : Facet). Down 2 f.poly (picked vs f.corners))
          (λ f is h. down-face f.poly (picked vs f.corners) is.0.0 (seen-agrees f.poly (picked vs f.corners) is.0.0 (picked-long vs f is.0.1) h.0 is.1) h) (facets_of poly)
          (all_both (IsFacet 2) (λ (f : Facet). IsSeen m f.poly (picked vs f.corners)) _ (λ f a b. (a, b)) (facets_of poly) (facets-are poly 2 three) seen)
          (all_in_flat_map (λ q. in_some q cells ≡ true) (λ (f : Facet). reached 2 f.poly (picked vs f.corners)) (facets_of poly) inside.1),
    ),
  )

  -- ---- one of the cells

  module _ (c : ℕ × Cell) (here : Contains cells c) where
    placed : Contains (placed_cells m) c
    placed = all_contained (Contains (placed_cells m)) cells c are here

    good : IsSoundCell m c.1
    good = all_contained (λ (d : ℕ × Cell). IsSoundCell m d.1) (placed_cells m) c (all_enumerated (IsSoundCell m) 0 m.cells sound.cells) placed

    -- what is reached from it, the cells contain
    inside : Inside (dim_of c.1.poly) c.1.poly c.1.vertices
    inside = all_weaker (λ q. list_any (same_point q) (reached (dim_of c.1.poly) c.1.poly c.1.vertices) ≡ true) (λ q. in_some q cells ≡ true)
        (λ q h. some-contains cells c q here (contained-reached c.1 q good.corners ∙ h)) (reached (dim_of c.1.poly) c.1.poly c.1.vertices) (own-members (reached (dim_of c.1.poly) c.1.poly c.1.vertices))

    -- the cell stands in the chart as it sees itself
    itself : Agrees (chart m cells) c.1.poly c.1.vertices
    itself s e =
        let q : Point = point_on c.1.poly c.1.vertices in
        let own = all_contained (λ (d : ℕ × Cell). first_sight m (point_of (cell_sight d.0 d.1)) ≡ Some (cell_sight d.0 d.1)) (placed_cells m) c (of-cells (λ s. first_sight m (point_of s) ≡ Some s) m sound differ (strata-first m)) placed in
        let first = find-has (λ s. first_sight m (point_of s) ≡ Some s) (shows q) (strata m) s (strata-first m) (sym (chart-found m cells q (root (dim_of c.1.poly) inside)) ∙ e) in
        let same : cell_sight c.0 c.1 ≡ s = cc (sym own ∙ (ap (first_sight m) (shows-true q s (find-passes (shows q) (chart m cells) s e)) ∙ first)) in
        λ x. ap (λ (t : Sight). list_any (same_point x) (facet_points t.poly t.arrangement)) (sym same)
      where
        root : (n : ℕ) → Inside n c.1.poly c.1.vertices → in_some (point_on c.1.poly c.1.vertices) cells ≡ true
        root zero h = h.0
        root (suc n) h = h.0

    descends : Down (dim_of c.1.poly) c.1.poly c.1.vertices
    descends = go sound.dim
      where
        go : IsFlatOrSolid m → Down (dim_of c.1.poly) c.1.poly c.1.vertices
        go (inl flat) = let two = good.dim ∙ flat in subst (λ n. Down n c.1.poly c.1.vertices) (sym two) (down-face c.1.poly c.1.vertices two itself (subst (λ n. Inside n c.1.poly c.1.vertices) two inside))
        go (inr solid) =
            let three = good.dim ∙ solid in
            subst (λ n. Down n c.1.poly c.1.vertices) (sym three)
            (down-solid c.1.poly c.1.vertices three itself (all_contained (λ (d : ℕ × Cell). Covers m sound accepted (cell_sight d.0 d.1)) (placed_cells m) c (of-cells (Covers m sound accepted) m sound differ (strata-cover m sound accepted)) placed)
            (subst (λ n. Inside n c.1.poly c.1.vertices) three inside))

    pub cell-reaches : (p : ℕ) → p < length (chart m cells) → reaches (diagram m cells) m.dim p (place_in (chart m cells) (point_on c.1.poly c.1.vertices)) ≡ contains c.1 (point_of (sight_at (chart m cells) p))
    cell-reaches p low =
        ap (λ n. reaches (diagram m cells) n p (place_in (chart m cells) (point_on c.1.poly c.1.vertices))) (sym good.dim)
        ∙ (descent-reaches m cells (chart-differs m cells sound.dim) (dim_of c.1.poly) c.1.poly c.1.vertices p low descends
        ∙ sym (contained-reached c.1 (point_of (sight_at (chart m cells) p)) good.corners))

    -- so to each point of the chart
    pub cell-reaches_points : (s : Sight) → Contains (chart m cells) s → reaches (diagram m cells) m.dim (place_in (chart m cells) (point_of s)) (place_in (chart m cells) (point_on c.1.poly c.1.vertices)) ≡ contains c.1 (point_of s)
    cell-reaches_points s inside = all_contained Told (chart m cells) s (each (chart m cells) (λ p low. subst (λ k. reaches (diagram m cells) m.dim k (place_in (chart m cells) (point_on c.1.poly c.1.vertices)) ≡ contains c.1 (point_of (sight_at (chart m cells) p)))
        (sym (own-place (chart m cells) (chart-differs m cells sound.dim) p (vertex_sight 0) low)) (cell-reaches p low))) inside
      where
        Told : Sight → Type 0
        Told t = reaches (diagram m cells) m.dim (place_in (chart m cells) (point_of t)) (place_in (chart m cells) (point_on c.1.poly c.1.vertices)) ≡ contains c.1 (point_of t)

        each : (ts : List Sight) → ((p : ℕ) → p < length ts → Told (get_or ts p (vertex_sight 0))) → AllByRecursion Told ts
        each [] h = tt
        each (t ∷ ts) h = (h 0 (omega arith), each ts (λ p low. h (suc p) (omega (arith, low))))

-- so in what a rank holds
pub rank-reaches : (m : Mesh) (a : List ℕ) (r k : ℕ) → IsSoundMesh m → IsAccepted m → CellsDiffer m → (c : ℕ × Cell) (s : Sight) → Contains (held_cells m a r k) c → Contains (held m a r k) s
    → reaches (diagram m (held_cells m a r k)) m.dim (place_in (held m a r k) (point_of s)) (place_in (held m a r k) (point_on c.1.poly c.1.vertices)) ≡ contains c.1 (point_of s)
unfolding held
rank-reaches m a r k sound accepted differ c s here there = cell-reaches_points m (held_cells m a r k) sound accepted differ (held-cells m a r k) c here s there
