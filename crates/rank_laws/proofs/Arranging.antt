-- The arrangements of an accepted mesh arrange its diagram.
use Rattle.std.proofs.Common.{Bool, true, Some, find, ◌≡◌, ◌≢◌, ℕ, ◌<◌, ◌==◌, if◌then◌else◌, List, [], map, length, get_or, pos, sym, ap, ◌∙◌, subst, subst₂, arith}
use Rattle.std.specs.Prelude.{unwrap_or}
use Rattle.std.specs.List.{AllByRecursion, filter}
use Rattle.std.proofs.lemmas.List.{length-map, get_or-map}
use Rattle.mesh_defs.specs.declared.Poly.{Poly}
use Rattle.mesh_defs.specs.declared.Poly.TheVariants.{Vertex}
use Rattle.mesh_defs.specs.declared.ConeEntry.{ConeEntry}
use Rattle.plain_lists.specs.Lists.{picked}
use Rattle.plain_lists.proofs.Each.{all_weaker, all_both, all_filter, all_at}
use Rattle.plain_lists.proofs.Finding.{find-filter, position-within, found-any}
use Rattle.mesh_laws.proofs.Firsts.{shows-true}
use Rattle.mesh_defs.specs.Tables.{Facet, corner_count, facets_of, facet_at}
use Rattle.mesh_defs.specs.Orientation.{act}
use Rattle.mesh_defs.specs.Mesh.{Mesh, Cell, placed_cells}
use Rattle.mesh_defs.specs.Points.{Sight, point_on, point_of, shows, vertex_sight}
use Rattle.mesh_defs.specs.Diagram.{count_in, strata, chart, place_in, seen_under, entry, cone, IsAccepted, Covering, Diagram, diagram}
use Rattle.mesh_laws.proofs.Keys.{seen_under-carries}
use Rattle.mesh_laws.proofs.Containing.{chart-all}
use Rattle.plex_defs.specs.Closure.{list_of, IsArranged, arrangements}
use Rattle.mesh_defs.specs.RightMesh.{IsSoundMesh, CellsDiffer, in_some, AreCells}
use Rattle.rank_laws.proofs.Found.{IsSeen, at-found}
use Rattle.rank_laws.proofs.Facets.{Covers, strata-cover}
use Rattle.rank_laws.proofs.Shapes.{HasShape, strata-shape}
use Rattle.rank_laws.proofs.ChartsClosed.{Inside, chart-inside, held-cells, held-chart}
use Rattle.rank_defs.specs.Ranks.{held_cells, held}

-- ---- the diagram

-- a point with its cone
drawn-point : Mesh → List Sight → Sight → Covering
drawn-point m points s = record { poly = s.poly; covers = cone m (place_in points) s }

-- a list is seen as a point that has its place among these points
pub record IsSeenAmong (m : Mesh) (points : List Sight) (poly : Poly) (list : List ℕ) : Type 0 where
  pub seen : IsSeen m poly list
  pub found : find (shows (point_on poly list)) points ≡ Some seen.point

-- each facet of a point is seen among these points
abbrev pub CoversAmong : Mesh → List Sight → Sight → Type 0
CoversAmong m points s = AllByRecursion (λ (f : Facet). IsSeenAmong m points f.poly (picked s.arrangement f.corners)) (facets_of s.poly)

module _ (m : Mesh) (points : List Sight) (shapes : AllByRecursion HasShape points) (covers : AllByRecursion (CoversAmong m points) points) where
  abbrev drawn : List Covering
  drawn = map (drawn-point m points) points

  -- the point at a place, its entry in the diagram and its list
  abbrev sight-at : ℕ → Sight
  sight-at p = get_or points p (vertex_sight 0)

  abbrev nothing : Covering
  nothing = record { poly = Vertex; covers = [] }

  abbrev nowhere : ConeEntry
  nowhere = record { point = 0; o = pos 0 }

  drawn-at : (p : ℕ) → p < length points → get_or drawn p nothing ≡ drawn-point m points (sight-at p)
  drawn-at p low = get_or-map (drawn-point m points) points p (vertex_sight 0) nothing low

  list-at : (p : ℕ) → p < length points → list_of (arrangements points) p ≡ (sight-at p).arrangement
  list-at p low = get_or-map (λ (s : Sight). s.arrangement) points p (vertex_sight 0) [] low

  shape-at : (p : ℕ) → p < length points → HasShape (sight-at p)
  shape-at p low = all_at HasShape points p (vertex_sight 0) shapes low

  -- an entry of a cone carries the list of its point onto the facet
  entry-carries : (s : Sight) (f : Facet) → IsSeenAmong m points f.poly (picked s.arrangement f.corners)
      → act (get_or drawn (entry m (place_in points) s.arrangement f).point nothing).poly (entry m (place_in points) s.arrangement f).o (list_of (arrangements points) (entry m (place_in points) s.arrangement f).point) ≡ picked s.arrangement f.corners
  unfolding entry drawn-point
  entry-carries s f among =
      let seen = among.seen in
      let q = point_on f.poly (picked s.arrangement f.corners) in
      let low : place_in points q < length points = position-within (shows q) points (found-any (shows q) points seen.point among.found) in
      let there : sight-at (place_in points q) ≡ seen.point = at-found (shows q) points seen.point (vertex_sight 0) among.found in
      let (own, arranged, carried) = seen_under-carries m f.poly (picked s.arrangement f.corners) seen.turn seen.under in
      let poly : (get_or drawn (place_in points q) nothing).poly ≡ f.poly = ap (λ (c : Covering). c.poly) (drawn-at (place_in points q) low) ∙ ap (λ (t : Sight). t.poly) there ∙ seen.same_poly in
      let list : list_of (arrangements points) (place_in points q) ≡ own = list-at (place_in points q) low ∙ ap (λ (t : Sight). t.arrangement) there ∙ cc (sym seen.arranged ∙ arranged) in
      let turn : unwrap_or (seen_under m f.poly (picked s.arrangement f.corners)) (pos 0) ≡ seen.turn = ap (λ o. unwrap_or o (pos 0)) seen.under in
      (λ i. act (poly i) (turn i) (list i)) ∙ carried

  -- the same for entry k of a point
  carries-at : (s : Sight) (k : ℕ) → CoversAmong m points s → k < length (cone m (place_in points) s)
      → act (get_or drawn (get_or (cone m (place_in points) s) k nowhere).point nothing).poly (get_or (cone m (place_in points) s) k nowhere).o (list_of (arrangements points) (get_or (cone m (place_in points) s) k nowhere).point) ≡ picked s.arrangement (facet_at s.poly k).corners
  unfolding cone
  carries-at s k covers low =
      let long : k < length (facets_of s.poly) = omega (arith, length-map (facets_of s.poly) (entry m (place_in points) s.arrangement)) in
      let no_facet : Facet = record { poly = Vertex; corners = [] } in
      let is = get_or-map (entry m (place_in points) s.arrangement) (facets_of s.poly) k no_facet nowhere long in
      subst (λ (e : ConeEntry). act (get_or drawn e.point nothing).poly e.o (list_of (arrangements points) e.point) ≡ picked s.arrangement (facet_at s.poly k).corners) (sym is)
      (entry-carries s (facet_at s.poly k) (all_at (λ (f : Facet). IsSeenAmong m points f.poly (picked s.arrangement f.corners)) (facets_of s.poly) k no_facet covers long))

  -- a diagram with these points
  with-points : ℕ → ℕ → ℕ → ℕ → ℕ → Diagram
  with-points dim cells vertices faces edges = record { dim = dim; cells = cells; vertices = vertices; faces = faces; edges = edges; points = drawn }

  arranged-points : (dim cells vertices faces edges : ℕ) → IsArranged (with-points dim cells vertices faces edges) (arrangements points)
  unfolding with-points drawn-point cone
  arranged-points dim cells vertices faces edges = record {
    count = length-map points (λ (s : Sight). s.arrangement) ∙ sym (length-map points (drawn-point m points));
    corners = λ p low. let l = below p low in ap length (list-at p l) ∙ (shape-at p l).corners ∙ ap (λ (c : Covering). corner_count c.poly) (sym (drawn-at p l));
    different = λ p i j low. let l = below p low in subst (λ (vs : List ℕ). i < j → j < length vs → get_or vs i 0 ≢ get_or vs j 0) (sym (list-at p l)) ((shape-at p l).different i j);
    cones = λ p low. let l = below p low in ap (λ (c : Covering). length c.covers) (drawn-at p l) ∙ length-map (facets_of (sight-at p).poly) (entry m (place_in points) (sight-at p).arrangement) ∙ ap (λ (c : Covering). length (facets_of c.poly)) (sym (drawn-at p l));
    entries = λ p k low. let l = below p low in
        subst₂ (λ (c : Covering) (vs : List ℕ). k < length c.covers → act (get_or drawn (get_or c.covers k nowhere).point nothing).poly (get_or c.covers k nowhere).o (list_of (arrangements points) (get_or c.covers k nowhere).point) ≡ picked vs (facet_at c.poly k).corners)
        (sym (drawn-at p l)) (sym (list-at p l)) (carries-at (sight-at p) k (all_at (CoversAmong m points) points p (vertex_sight 0) covers l));
  }
    where
      below : (p : ℕ) → p < length drawn → p < length points
      below p low = omega (arith, length-map points (drawn-point m points))

-- the lists of a chart arrange its diagram, where each facet of its points is seen among them
arranged-chart : (m : Mesh) (cells : List (ℕ × Cell)) → AllByRecursion HasShape (chart m cells) → AllByRecursion (CoversAmong m (chart m cells)) (chart m cells) → IsArranged (diagram m cells) (arrangements (chart m cells))
unfolding diagram drawn-point with-points
arranged-chart m cells shapes covers = arranged-points m (chart m cells) shapes covers m.dim (count_in m.dim (chart m cells)) (count_in 0 (chart m cells)) (if m.dim == 3 then count_in 2 (chart m cells) else 0) (count_in 1 (chart m cells))

-- the arrangements of an accepted mesh arrange its diagram
pub arranged-diagram : (m : Mesh) → IsSoundMesh m → IsAccepted m → IsArranged (diagram m (placed_cells m)) (arrangements (chart m (placed_cells m)))
arranged-diagram m sound accepted =
    arranged-chart m (placed_cells m)
    (subst (AllByRecursion HasShape) (sym whole) (strata-shape m sound))
    (subst (λ (points : List Sight). AllByRecursion (CoversAmong m points) points) (sym whole)
    (all_weaker (Covers m sound accepted) (CoversAmong m (strata m)) (λ s c. all_weaker (λ (f : Facet). IsSeen m f.poly (picked s.arrangement f.corners)) (λ (f : Facet). IsSeenAmong m (strata m) f.poly (picked s.arrangement f.corners))
    (λ f seen. record { seen = seen; found = seen.found }) (facets_of s.poly) c) (strata m) (strata-cover m sound accepted)))
  where
    whole : chart m (placed_cells m) ≡ strata m
    whole = chart-all m sound.used

-- those of some of its cells arrange the diagram of these
pub arranged-cells : (m : Mesh) (cells : List (ℕ × Cell)) → IsSoundMesh m → IsAccepted m → CellsDiffer m → AreCells m cells → IsArranged (diagram m cells) (arrangements (chart m cells))
unfolding chart
arranged-cells m cells sound accepted differ are =
    arranged-chart m cells
    (all_filter HasShape has (strata m) (strata-shape m sound))
    (all_both (Covers m sound accepted) (Inside m sound accepted differ cells) (CoversAmong m (filter has (strata m))) (λ s covers inside. all_both (λ (f : Facet). IsSeen m f.poly (picked s.arrangement f.corners)) (λ (f : Facet). in_some (point_on f.poly (picked s.arrangement f.corners)) cells ≡ true) (λ (f : Facet). IsSeenAmong m (filter has (strata m)) f.poly (picked s.arrangement f.corners))
    (λ f seen there. let q = point_on f.poly (picked s.arrangement f.corners) in record { seen = seen; found = find-filter (shows q) has (λ t e. ap (λ p. in_some p cells) (sym (shows-true q t e)) ∙ there) (strata m) ∙ seen.found }) (facets_of s.poly) covers inside) (filter has (strata m))
    (all_filter (Covers m sound accepted) has (strata m) (strata-cover m sound accepted))
    (chart-inside m sound accepted differ cells are))
  where
    has : Sight → Bool
    has s = in_some (point_of s) cells

-- so do those of the cells that a rank holds
pub arranged-held : (m : Mesh) (a : List ℕ) (r k : ℕ) → IsSoundMesh m → IsAccepted m → CellsDiffer m → IsArranged (diagram m (held_cells m a r k)) (arrangements (held m a r k))
arranged-held m a r k sound accepted differ = subst (λ points. IsArranged (diagram m (held_cells m a r k)) (arrangements points)) (held-chart m a r k) (arranged-cells m (held_cells m a r k) sound accepted differ (held-cells m a r k))
