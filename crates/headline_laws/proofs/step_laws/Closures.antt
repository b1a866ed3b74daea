-- The lines of closures: the closure of a cell in what its rank holds is its closure in the diagram of the whole mesh.
use Rattle.std.proofs.Common.{◌≡◌, ℕ, ◌<◌, true, cond, ◌==◌, List, [], map, length, get_or, slice_index, Contains, Option, Some, None, ℤ, pos, refl, sym, ap, ◌∙◌, arith}
use Rattle.std.specs.Prelude.{flat_map, option_and_then, unwrap_or, if◌then◌else◌}
use Rattle.std.specs.List.{AllByRecursion, list_any}
use Rattle.std.proofs.lemmas.List.{get_or-map, get_or_default, length-map}
use Rattle.std.proofs.lemmas.List.Elements.{All-from_get_or, recursion_from_All, All-contains_itself}
use Rattle.plain_lists.specs.Lists.{picked, same_list}
use Rattle.plain_lists.proofs.Each.{all_at, all_weaker, all_map, all_filter}
use Rattle.plain_lists.proofs.Filters.{map_map_same}
use Rattle.plain_lists.proofs.Finding.{position-within, find-has}
use Rattle.mesh_defs.specs.declared.ConeEntry.{ConeEntry}
use Rattle.mesh_defs.specs.declared.Poly.{Poly}
use Rattle.mesh_defs.specs.declared.Poly.TheVariants.{Vertex}
use Rattle.mesh_defs.specs.Orientation.{orientations, act, relative}
use Rattle.mesh_defs.specs.Sights.{points_differ}
use Rattle.mesh_defs.specs.Tables.{Facet, dim_of, facets_of, facet_at}
use Rattle.mesh_defs.specs.Mesh.{Mesh, Cell, placed_cells}
use Rattle.mesh_defs.specs.Points.{Point, Sight, point_on, point_of, shows, arrangement}
use Rattle.mesh_defs.specs.Diagram.{Covering, strata, chart, place_in, seen_under, entry, cone, IsAccepted, diagram}
use Rattle.mesh_defs.specs.RightMesh.{IsRightMesh}
use Rattle.mesh_laws.proofs.Containing.{chart-all}
use Rattle.mesh_laws.proofs.Firsts.{shown_itself}
use Rattle.input_defs.specs.text_defs.Text.{Rank, number_of}
use Rattle.plex_defs.specs.Closure.{point_in, cone_entry, closure, IsArranged, arrangements}
use Rattle.rank_defs.specs.Ranks.{IsAssignment, held_cells, owned}
use Rattle.rank_defs.specs.Home.{point_number}
use Rattle.rank_defs.specs.Spread.{LocalMesh, local_mesh, plain_dist}
use Rattle.rank_laws.proofs.Strata.{strata-differ}
use Rattle.rank_laws.proofs.Found.{IsSeen, at-found}
use Rattle.rank_laws.proofs.Facets.{Covers, strata-cover}
use Rattle.rank_laws.proofs.Arranging.{arranged-cells}
use Rattle.rank_laws.proofs.ChartsClosed.{held-cells, chart-closed}
use Rattle.input_defs.specs.Plans.{DofsLine}
use Rattle.headline_defs.specs.Lines.{closure_line}
use Rattle.headline_defs.specs.StepText.{ranks_with, closure_of, closures_text}
use Rattle.headline_laws.proofs.Cones.{chart-number, differ-filter}
use Rattle.poly_orient.specs.Group.{IsOrientation}
use Rattle.poly_orient.proofs.Grouping.{orientation-0}
use Rattle.walk_defs.specs.Cones.{cone_at, closure_by_cones}
use Rattle.headline_laws.proofs.walk_laws.Closures.{HasCones, closure-by_cones}
use Rattle.walk_defs.specs.step_defs.Numbers.{held_numbers}
use Rattle.walk_defs.specs.step_defs.Points.{owned_by, poly_of, renamed}
use Rattle.walk_defs.specs.step_defs.Steps.{ranks_of, own, numbers_on, plain_closures}
use Rattle.headline_laws.proofs.step_laws.Chosen.{texts-where}
use Rattle.headline_laws.proofs.step_laws.Local.{no_sight, counts_of, dim-is, poly-is}
use Rattle.headline_laws.proofs.step_laws.Numbers.{at-place, chart-shown, number-is, numbered-texts}
use Rattle.headline_laws.proofs.step_laws.Roots.{own-place}
use Rattle.headline_laws.proofs.step_laws.Owned.{ranks-same, local_of, chart_of, each-rank, own-texts}
use Rattle.headline_laws.proofs.step_laws.Moved.{moved, IsMoved, closure-moved, closure-within}

-- an orientation under which a list is seen is one of the polytope
seen-orientation : (m : Mesh) (poly : Poly) (list : List ℕ) (o : ℤ) → seen_under m poly list ≡ Some o → IsOrientation poly o
unfolding seen_under relative
seen-orientation m poly list o = go (arrangement m (point_on poly list))
  where
    go : (own : Option (List ℕ)) → option_and_then (λ own. relative poly own list) own ≡ Some o → IsOrientation poly o
    go None h = absurd (cc h)
    go (Some own) h = find-has (Contains (orientations poly)) (λ z. same_list (act poly z own) list) (orientations poly) o (recursion_from_All (Contains (orientations poly)) (orientations poly) (All-contains_itself (orientations poly))) h

module _ (m : Mesh) (right : IsRightMesh m) (accepted : IsAccepted m) (a : List ℕ) (r k : ℕ) where
  abbrev cells : List (ℕ × Cell)
  cells = held_cells m a r k

  -- the points of the rank, and all points
  abbrev points : List Sight
  points = chart m cells

  abbrev at : ℕ → Sight
  at p = get_or points p no_sight

  -- the place of a held point among all points
  abbrev whole_place : ℕ → ℕ
  whole_place p = place_in (strata m) (point_of (at p))

  -- each of all points stands at its own place
  all-placed : AllByRecursion (λ s. get_or (strata m) (place_in (strata m) (point_of s)) no_sight ≡ s) (strata m)
  all-placed = recursion_from_All (λ s. get_or (strata m) (place_in (strata m) (point_of s)) no_sight ≡ s) (strata m)
      (All-from_get_or (λ s. get_or (strata m) (place_in (strata m) (point_of s)) no_sight ≡ s) (strata m) no_sight (λ i lt. ap (λ j. get_or (strata m) j no_sight) (own-place (strata m) (strata-differ m right.sound.dim) i no_sight lt)))

  held-shown : (p : ℕ) → p < length points → list_any (shows (point_of (at p))) points ≡ true
  held-shown p lt = all_at (λ s. list_any (shows (point_of s)) points ≡ true) points p no_sight (shown_itself points) lt

  whole-within : (p : ℕ) → p < length points → whole_place p < length (strata m)
  whole-within p lt = position-within (shows (point_of (at p))) (strata m) (chart-shown m cells (point_of (at p)) (held-shown p lt))

  -- and so do those held
  pub at-whole : (p : ℕ) (d : Sight) → p < length points → get_or (strata m) (whole_place p) d ≡ at p
  unfolding chart
  at-whole p d lt =
      get_or_default (strata m) (whole_place p) d no_sight (whole-within p lt)
      ∙ all_at (λ s. get_or (strata m) (place_in (strata m) (point_of s)) no_sight ≡ s) points p no_sight (all_filter (λ s. get_or (strata m) (place_in (strata m) (point_of s)) no_sight ≡ s) _ (strata m) all-placed) lt

  points-differ : points_differ points ≡ true
  unfolding chart
  points-differ = differ-filter _ (strata m) (strata-differ m right.sound.dim)

  -- different held points have different places
  places-differ : (p q : ℕ) → p < length points → q < length points → whole_place p ≡ whole_place q → p ≡ q
  places-differ p q lp lq same =
      let one : at p ≡ at q = sym (at-whole p no_sight lp) ∙ ap (λ i. get_or (strata m) i no_sight) same ∙ at-whole q no_sight lq in
      sym (own-place points points-differ p no_sight lp) ∙ ap (λ s. place_in points (point_of s)) one ∙ own-place points points-differ q no_sight lq

  -- ---- the diagram of the rank in the whole one

  whole : chart m (placed_cells m) ≡ strata m
  whole = chart-all m right.sound.used

  drawn : Sight → Covering
  drawn s = record { poly = s.poly; covers = cone m (place_in (strata m)) s }

  whole-points : (diagram m (placed_cells m)).points ≡ map drawn (strata m)
  unfolding diagram drawn
  whole-points = (λ i. map (λ s. record { poly = s.poly; covers = cone m (place_in (whole i)) s }) (whole i))

  whole-point : (p : ℕ) → p < length points → point_in (diagram m (placed_cells m)) (whole_place p) ≡ drawn (at p)
  whole-point p lt =
      ap (λ l. get_or l (whole_place p) (record { poly = Vertex; covers = [] })) whole-points
      ∙ get_or-map drawn (strata m) (whole_place p) no_sight (record { poly = Vertex; covers = [] }) (whole-within p lt)
      ∙ ap drawn (at-whole p no_sight lt)

  local-point : (p : ℕ) → p < length points → point_in (diagram m cells) p ≡ record { poly = (at p).poly; covers = cone m (place_in points) (at p) }
  unfolding diagram
  local-point p lt = get_or-map (λ s. record { poly = s.poly; covers = cone m (place_in points) s }) points p no_sight (record { poly = Vertex; covers = [] }) lt

  local-many : length (diagram m cells).points ≡ length points
  unfolding diagram
  local-many = length-map points (λ s. record { poly = s.poly; covers = cone m (place_in points) s })

  -- the facets of a held point are held
  facets-held : (p : ℕ) → p < length points → AllByRecursion (λ (f : Facet). list_any (shows (point_on f.poly (picked (at p).arrangement f.corners))) points ≡ true) (facets_of (at p).poly)
  facets-held p lt = all_at (λ (s : Sight). AllByRecursion (λ (f : Facet). list_any (shows (point_on f.poly (picked s.arrangement f.corners))) points ≡ true) (facets_of s.poly)) points p no_sight
      (chart-closed m right.sound accepted right.differ cells (held-cells m a r k)) lt

  cone-within : (p : ℕ) → p < length points → AllByRecursion (λ (e : ConeEntry). e.point < length points) (cone m (place_in points) (at p))
  unfolding cone entry
  cone-within p lt = all_map (λ (e : ConeEntry). e.point < length points) (entry m (place_in points) (at p).arrangement) (facets_of (at p).poly)
      (all_weaker (λ (f : Facet). list_any (shows (point_on f.poly (picked (at p).arrangement f.corners))) points ≡ true) (λ f. (entry m (place_in points) (at p).arrangement f).point < length points)
      (λ f shown. position-within (shows (point_on f.poly (picked (at p).arrangement f.corners))) points shown) (facets_of (at p).poly) (facets-held p lt))

  cone-moved : (p : ℕ) → p < length points → cone m (place_in (strata m)) (at p) ≡ map (moved whole_place) (cone m (place_in points) (at p))
  unfolding cone entry
  cone-moved p lt = sym (map_map_same (moved whole_place) (entry m (place_in points) (at p).arrangement) (entry m (place_in (strata m)) (at p).arrangement) (facets_of (at p).poly)
      (all_weaker (λ (f : Facet). list_any (shows (point_on f.poly (picked (at p).arrangement f.corners))) points ≡ true) _
      (λ f shown i. record { point = place_in (strata m) (sym (at-place points (point_on f.poly (picked (at p).arrangement f.corners)) shown) i); o = (entry m (place_in points) (at p).arrangement f).o })
      (facets_of (at p).poly) (facets-held p lt)))

  is-moved : IsMoved whole_place (diagram m cells) (diagram m (placed_cells m)) (arrangements points) (arrangements (strata m))
  unfolding drawn
  is-moved = record {
    poly = λ p low. let lt = under p low in ap (λ (c : Covering). c.poly) (whole-point p lt ∙ refl) ∙ sym (ap (λ (c : Covering). c.poly) (local-point p lt));
    cones = λ p low. let lt = under p low in ap (λ (c : Covering). c.covers) (whole-point p lt) ∙ cone-moved p lt ∙ sym (ap (λ (c : Covering). map (moved whole_place) c.covers) (local-point p lt));
    lists = λ p low. let lt = under p low in get_or-map (λ (s : Sight). s.arrangement) (strata m) (whole_place p) no_sight [] (whole-within p lt) ∙ ap (λ (s : Sight). s.arrangement) (at-whole p no_sight lt)
        ∙ sym (get_or-map (λ (s : Sight). s.arrangement) points p no_sight [] lt);
    within = λ p low. let lt = under p low in coe 1 0 (i. AllByRecursion (λ (e : ConeEntry). e.point < local-many i) (local-point p lt i).covers) (cone-within p lt);
    different = λ p q lp lq same. places-differ p q (under p lp) (under q lq) same;
  }
    where
      under : (p : ℕ) → p < length (diagram m cells).points → p < length points
      under p low = omega (arith, low, local-many)

  -- ---- closures

  arranged : IsArranged (diagram m cells) (arrangements points)
  arranged = arranged-cells m cells right.sound accepted right.differ (held-cells m a r k)

  -- a facet of a held point is seen as a point of its polytope, under an orientation
  facets-seen : (p : ℕ) → p < length points → AllByRecursion (λ (f : Facet). IsSeen m f.poly (picked (at p).arrangement f.corners)) (facets_of (at p).poly)
  unfolding chart
  facets-seen p lt = all_at (Covers m right.sound accepted) points p no_sight (all_filter (Covers m right.sound accepted) _ (strata m) (strata-cover m right.sound accepted)) lt

  -- entry j of a held point
  entry-is : (p j : ℕ) → p < length points → j < length (point_in (diagram m cells) p).covers → (j < length (facets_of (at p).poly)) × (cone_at (diagram m cells) p j ≡ entry m (place_in points) (at p).arrangement (facet_at (at p).poly j))
  unfolding cone
  entry-is p j lt low =
      let inside : j < length (facets_of (at p).poly) = omega (arith, low, ap (λ (c : Covering). length c.covers) (local-point p lt), length-map (facets_of (at p).poly) (entry m (place_in points) (at p).arrangement)) in
      (inside, ap (λ (c : Covering). get_or c.covers j (cone_entry 0 (pos 0))) (local-point p lt) ∙ get_or-map (entry m (place_in points) (at p).arrangement) (facets_of (at p).poly) j (record { poly = Vertex; corners = [] }) (cone_entry 0 (pos 0)) inside)

  -- what is known of the entry
  IsEntry : Poly → ConeEntry → Type 0
  IsEntry kind e = (e.point < length points) × ((point_in (diagram m cells) e.point).poly ≡ kind) × IsOrientation kind e.o

  entry-known : (p : ℕ) (f : Facet) → IsSeen m f.poly (picked (at p).arrangement f.corners) → list_any (shows (point_on f.poly (picked (at p).arrangement f.corners))) points ≡ true → IsEntry f.poly (entry m (place_in points) (at p).arrangement f)
  unfolding entry IsEntry
  entry-known p f seen shown = (low, ap (λ (c : Covering). c.poly) (local-point (place_in points q) low) ∙ ap (λ (t : Sight). t.poly) there ∙ seen.same_poly, coe 1 0 (i. IsOrientation f.poly (turn i)) (seen-orientation m f.poly (picked (at p).arrangement f.corners) seen.turn seen.under))
    where
      q : Point
      q = point_on f.poly (picked (at p).arrangement f.corners)

      low : place_in points q < length points
      low = position-within (shows q) points shown

      there : at (place_in points q) ≡ seen.point
      there =
          sym (at-whole (place_in points q) no_sight low) ∙ ap (λ t. get_or (strata m) (place_in (strata m) t) no_sight) (sym (at-place points q shown))
          ∙ at-found (shows q) (strata m) seen.point no_sight seen.found

      turn : unwrap_or (seen_under m f.poly (picked (at p).arrangement f.corners)) (pos 0) ≡ seen.turn
      turn = ap (λ o. unwrap_or o (pos 0)) seen.under

  entry-has : (p j : ℕ) → p < length (diagram m cells).points → j < length (point_in (diagram m cells) p).covers → IsEntry (facet_at (point_in (diagram m cells) p).poly j).poly (cone_at (diagram m cells) p j)
  entry-has p j low inside =
      let lt : p < length points = omega (arith, low, local-many) in
      let entry = entry-is p j lt inside in
      let none : Facet = record { poly = Vertex; corners = [] } in
      coe 1 0 (i. IsEntry (facet_at (local-point p lt i).poly j).poly (entry.1 i))
      (entry-known p (facet_at (at p).poly j) (all_at (λ (f : Facet). IsSeen m f.poly (picked (at p).arrangement f.corners)) (facets_of (at p).poly) j none (facets-seen p lt) entry.0)
      (all_at (λ (f : Facet). list_any (shows (point_on f.poly (picked (at p).arrangement f.corners))) points ≡ true) (facets_of (at p).poly) j none (facets-held p lt) entry.0))

  has-cones : HasCones (diagram m cells)
  unfolding IsEntry
  has-cones = record {
    point = λ p j low inside. let e = entry-has p j low inside in omega (arith, e.0, local-many);
    poly = λ p j low inside. (entry-has p j low inside).1;
    turn = λ p j low inside. let e = entry-has p j low inside in coe 1 0 (i. IsOrientation (e.1 i) (cone_at (diagram m cells) p j).o) e.2;
  }

  -- by cones alone
  by-cones : (p : ℕ) → p < length points → closure_by_cones (diagram m cells) p (pos 0) ≡ closure (diagram m cells) (arrangements points) p (pos 0)
  by-cones p lt = closure-by_cones (diagram m cells) (arrangements points) p (pos 0) has-cones arranged (omega (arith, lt, local-many)) (orientation-0 (point_in (diagram m cells) p).poly)

  -- in the whole diagram
  pub closure-is : (p : ℕ) → p < length points → closure (diagram m (placed_cells m)) (arrangements (strata m)) (whole_place p) (pos 0) ≡ map (moved whole_place) (closure_by_cones (diagram m cells) p (pos 0))
  closure-is p lt = closure-moved whole_place (diagram m cells) (diagram m (placed_cells m)) (arrangements points) (arrangements (strata m)) is-moved p (pos 0) (omega (arith, lt, local-many)) ∙ ap (map (moved whole_place)) (sym (by-cones p lt))

  pub closure-held : (p : ℕ) → p < length points → AllByRecursion (λ (e : ConeEntry). e.point < length points) (closure_by_cones (diagram m cells) p (pos 0))
  closure-held p lt = coe 0 1 (i. AllByRecursion (λ (e : ConeEntry). e.point < local-many i) (sym (by-cones p lt) i))
      (closure-within whole_place (diagram m cells) (diagram m (placed_cells m)) (arrangements points) (arrangements (strata m)) is-moved p (pos 0) (omega (arith, lt, local-many)))

-- ---- lines

module _ (m : Mesh) (dofs : List DofsLine) (a : List ℕ) (n k : ℕ) (bases : List ℕ) (right : IsRightMesh m) (accepted : IsAccepted m) (parts : IsAssignment m n a) where
  abbrev all : List Rank
  all = ranks_with m n a k bases

  abbrev numbers : List (List ℕ)
  numbers = held_numbers m a n k bases

  abbrev held_at : ℕ → ℕ → Sight
  held_at r p = get_or (chart_of m dofs a n k r) p no_sight

  -- an entry of the whole diagram by the number of its point
  named : Sight → ConeEntry → ConeEntry
  named s e = record { point = number_of all (point_of (get_or (strata m) e.point s)); o = e.o }

  entry-named : (r : ℕ) → r < n → (s : Sight) (e : ConeEntry) → e.point < length (chart_of m dofs a n k r) → named s (moved (whole_place m right accepted a r k) e) ≡ cone_entry (slice_index (numbers_on numbers r) e.point) e.o
  unfolding named
  entry-named r low s e lt =
      let points = chart_of m dofs a n k r in
      let q = point_of (held_at r e.point) in
      let number : number_of all (point_of (get_or (strata m) (whole_place m right accepted a r k e.point) s)) ≡ slice_index (numbers_on numbers r) e.point
      = ap (λ t. number_of all (point_of t)) (at-whole m right accepted a r k e.point s lt)
      ∙ chart-number m n a k bases q parts (ap (list_any (shows q)) (chart-all m right.sound.used) ∙ chart-shown m (held_cells m a r k) q (held-shown m right accepted a r k e.point lt))
      ∙ sym (number-is m a n k bases r low e.point lt) in
      (λ i. record { point = number i; o = e.o })

  closure-named : (r : ℕ) → r < n → (p : ℕ) → p < length (chart_of m dofs a n k r) → renamed (numbers_on numbers r) (closure_by_cones (local_of m dofs a n k r).diagram p (pos 0)) ≡ closure_of m all (held_at r p)
  unfolding closure_of named local_mesh
  closure-named r low p lt =
      let entries = closure_by_cones (diagram m (held_cells m a r k)) p (pos 0) in
      sym (ap (map (named (held_at r p))) (closure-is m right accepted a r k p lt)
      ∙ map_map_same (named (held_at r p)) (moved (whole_place m right accepted a r k)) (λ (e : ConeEntry). cone_entry (slice_index (numbers_on numbers r) e.point) e.o) entries
      (all_weaker (λ (e : ConeEntry). e.point < length (chart_of m dofs a n k r)) _ (entry-named r low (held_at r p)) entries (closure-held m right accepted a r k p lt)))

  -- the line of a cell, by its number; none for other points
  line_of : ℕ × Sight → List ℕ
  line_of p = if dim_of p.1.poly == m.dim then closure_line p.0 (closure_of m all p.1) else []

  rank-closures : (r : ℕ) → r < n → plain_closures numbers (r, local_of m dofs a n k r) ≡ flat_map (λ s. line_of (point_number m a bases (point_of s), s)) (owned m a r)
  unfolding plain_closures line_of
  rank-closures r low =
      sym (texts-where (λ p. dim_of (poly_of l p) == l.diagram.dim) line_at (owned_by r l))
      ∙ own-texts m dofs a n k r (λ p. cond (dim_of (poly_of l p) == l.diagram.dim) (line_at p) []) (λ s. line_of (point_number m a bases (point_of s), s))
      (λ p lt i. cond (dim_of (poly-is m dofs a (held_cells m a r k) p lt i) == dim-is m dofs a (held_cells m a r k) i) (closure_line (number-is m a n k bases r low p lt i) (closure-named r low p lt i)) [])
    where
      l : LocalMesh
      l = local_of m dofs a n k r

      line_at : ℕ → List ℕ
      line_at p = closure_line (slice_index (numbers_on numbers r) p) (renamed (numbers_on numbers r) (closure_by_cones l.diagram p (pos 0)))

  pub closures-are : flat_map (plain_closures numbers) (ranks_of (plain_dist m (counts_of dofs) a n k)) ≡ closures_text m all
  unfolding closures_text line_of
  closures-are =
      each-rank m dofs a n k (plain_closures numbers)
      ∙ ranks-same n (λ r. plain_closures numbers (r, local_of m dofs a n k r)) (λ r. flat_map (λ s. line_of (point_number m a bases (point_of s), s)) (owned m a r)) rank-closures
      ∙ sym (numbered-texts m a n k bases right line_of)
