-- Where the points of a rank stand in its chart, where the entries of their cones do, and what cells see up to one of them.
use Rattle.std.proofs.Common.{◌≡◌, ◌⊎◌, ℕ, ◌+◌, ◌-◌, ◌<◌, ◌≤◌, Bool, true, false, ◌||◌, ◌==◌, List, [], ◌∷◌, ◌++◌, length, take, drop, Option, Some, None, append-nil, append_assoc, refl, sym, ap, ◌∙◌, subst, inl, inr, ⊎_elim, arith}
use Rattle.std.specs.Prelude.{find, option_map, is_none, slice_index, if◌then◌else◌}
use Rattle.std.specs.List.{list_any, position_or_len, AllByRecursion}
use Rattle.std.proofs.lemmas.Bool.{eq-eqb, ne_eqb, cond-true, cond-false}
use Rattle.std.proofs.lemmas.List.{take_more, take-append-drop}
use Rattle.std.proofs.lemmas.List.Concat.{flat_map-append}
use Rattle.std.proofs.lemmas.List.Folds.{list_any-append}
use Rattle.mesh_defs.specs.declared.Poly.{Poly}
use Rattle.mesh_defs.specs.declared.ConeEntry.{ConeEntry}
use Rattle.plain_lists.specs.Lists.{picked}
use Rattle.plain_lists.proofs.Each.{all_weaker, all_map, all_in_flat_map}
use Rattle.plain_lists.proofs.Finding.{position-within, find-append_none, find-append_found, find-none, found-any, each_fails, find-cases}
use Rattle.mesh_defs.specs.Tables.{Facet, dim_of, facets_of}
use Rattle.mesh_defs.specs.Mesh.{Cell}
use Rattle.mesh_defs.specs.Points.{Sight, point_on, shows, cell_faces}
use Rattle.mesh_defs.specs.Diagram.{Covering, Diagram}
use Rattle.plex_chart.specs.Chart.{stratum_range, chart_size, IsInStratum}
use Rattle.rank_laws.specs.diagram_laws.Strata.{face_sights, entry_from, cone_from, first_twist}
use Rattle.local_points.specs.Cells.{cell_at}
use Rattle.rank_chart_laws.specs.rank_diagram_laws.Parts.{Parts, sides, HasFacets, IsCellPart, IsEdgePart, AreParts, cell_part, face_part, edge_part}
use Rattle.rank_cones.specs.Placed.{is_twisted, IsOn, IsFirstTwist}
use Rattle.rank_cones.specs.Assembly.{IsFor}
use Rattle.rank_cones.specs.declared.stop.Stop.{Stop}
use Rattle.rank_cones.specs.declared.stop.Stop.TheVariants.{Twist, NoMemory}

-- one of these many points, numbered from a base
pub record IsAmong (base count : ℕ) (e : ConeEntry) : Type 0 where
  pub low : base ≤ e.point
  pub high : e.point < base + count

-- ---- strata

-- cells
pub in-cells : (g : Diagram) (d p : ℕ) → d ≡ g.dim → p < g.cells → IsInStratum g d p
in-cells g d p e h =
    let r : stratum_range g d ≡ (0, g.cells) = cond-true (d == g.dim) (0, g.cells) _ (eq-eqb d g.dim e) in
    record { from = omega (arith, ap (λ (x : ℕ × ℕ). x.0) r); to = omega (arith, ap (λ (x : ℕ × ℕ). x.1) r) }

-- vertices, behind the cells
pub in-vertices : (g : Diagram) (p : ℕ) → 2 ≤ g.dim → g.cells ≤ p → p < g.cells + g.vertices → IsInStratum g 0 p
in-vertices g p dim low high =
    let r : stratum_range g 0 ≡ (g.cells, g.cells + g.vertices) = cond-false (0 == g.dim) (0, g.cells) (g.cells, g.cells + g.vertices) (ne_eqb 0 g.dim (λ e. absurd (omega arith))) in
    record { from = omega (arith, ap (λ (x : ℕ × ℕ). x.0) r); to = omega (arith, ap (λ (x : ℕ × ℕ). x.1) r) }

-- faces of a solid mesh, behind the vertices
pub in-faces : (g : Diagram) (p : ℕ) → g.dim ≡ 3 → g.cells + g.vertices ≤ p → p < g.cells + g.vertices + g.faces → IsInStratum g 2 p
in-faces g p dim low high =
    let r : stratum_range g 2 ≡ (g.cells + g.vertices, g.cells + g.vertices + g.faces) = cond-false (2 == g.dim) (0, g.cells) (g.cells + g.vertices, g.cells + g.vertices + g.faces) (ne_eqb 2 g.dim (λ e. absurd (omega arith))) in
    record { from = omega (arith, ap (λ (x : ℕ × ℕ). x.0) r); to = omega (arith, ap (λ (x : ℕ × ℕ). x.1) r) }

-- edges, behind the faces
pub in-edges : (g : Diagram) (p : ℕ) → 2 ≤ g.dim → g.cells + g.vertices + g.faces ≤ p → p < chart_size g → IsInStratum g 1 p
in-edges g p dim low high =
    let r : stratum_range g 1 ≡ (g.cells + g.vertices + g.faces, chart_size g) = cond-false (1 == g.dim) (0, g.cells) (g.cells + g.vertices + g.faces, chart_size g) (ne_eqb 1 g.dim (λ e. absurd (omega arith))) in
    record { from = omega (arith, ap (λ (x : ℕ × ℕ). x.0) r); to = omega (arith, ap (λ (x : ℕ × ℕ). x.1) r) }

-- ---- entries

-- the entry of a facet that is shown is among the points
entry-among : (base : ℕ) (points : List Sight) (poly : Poly) (list : List ℕ) → list_any (shows (point_on poly list)) points ≡ true → IsAmong base (length points) (entry_from base points poly list)
unfolding entry_from
entry-among base points poly list shown = let within = position-within (shows (point_on poly list)) points shown in record { low = omega arith; high = omega arith }

-- so are those of a cone whose facets are shown
pub cone-among : (base : ℕ) (points : List Sight) (poly : Poly) (list : List ℕ) → AllByRecursion (λ (f : Facet). list_any (shows (point_on f.poly (picked list f.corners))) points ≡ true) (facets_of poly) → AllByRecursion (IsAmong base (length points)) (cone_from base points poly list)
cone-among base points poly list shown = all_map (IsAmong base (length points)) (λ (f : Facet). entry_from base points f.poly (picked list f.corners)) (facets_of poly)
    (all_weaker (λ (f : Facet). list_any (shows (point_on f.poly (picked list f.corners))) points ≡ true) (λ (f : Facet). IsAmong base (length points) (entry_from base points f.poly (picked list f.corners))) (λ f h. entry-among base points f.poly (picked list f.corners) h) (facets_of poly) shown)

-- ---- the points of a rank

-- it is for the parts whatever points it has
pub still-for : (p : Parts) (g : Diagram) (ps : List Covering) → IsFor p g → IsFor p (record g { points = ps })
still-for p g ps h = record { cells = h.cells; vertices = h.vertices; faces = h.faces; edges = h.edges }

-- the dimension is at least 2
pub dim-two : (p : Parts) → AreParts p → 2 ≤ p.dim
dim-two p fit = ⊎_elim (λ (flat : p.dim ≡ 2). omega arith) (λ (solid : p.dim ≡ 3). omega arith) fit.dim

-- a cell is a solid whose facets are faces, or a polygon whose facets are edges
pub cell-kind : (p : Parts) → AreParts p → (c : ℕ × Cell) → IsCellPart p c → IsOn 3 p.faces c.1 ⊎ IsOn 2 p.edges c.1
cell-kind p fit c part = ⊎_elim
    (λ (flat : p.dim ≡ 2). inr (record { dim_is = part.dim ∙ flat; list = part.list; facets = subst (λ ss. HasFacets ss (facets_of c.1.poly) c.1.vertices) (cond-false (p.dim == 3) p.faces p.edges (ne_eqb p.dim 3 (λ e. absurd (omega arith)))) part.facets }))
    (λ (solid : p.dim ≡ 3). inl (record { dim_is = part.dim ∙ solid; list = part.list; facets = subst (λ ss. HasFacets ss (facets_of c.1.poly) c.1.vertices) (cond-true (p.dim == 3) p.faces p.edges (eq-eqb p.dim 3 solid)) part.facets }))
    fit.dim

-- its cone, by its own dimension
pub cell-cone : (p : Parts) (base : ℕ) (c : ℕ × Cell) → IsCellPart p c → base ≡ length p.cells + length p.vertices → cone_from base (if dim_of c.1.poly == 3 then p.faces else p.edges) c.1.poly c.1.vertices ≡ (cell_part p c).covers
cell-cone p base c part same = λ i. cone_from (same i) (if part.dim i == 3 then p.faces else p.edges) c.1.poly c.1.vertices

-- faces stand where it is 3
pub solid-where : (p : Parts) → AreParts p → (k : ℕ) → k < length p.faces → p.dim ≡ 3
solid-where p fit k low = ⊎_elim (λ (flat : p.dim ≡ 2). absurd (omega (arith, low, ap length (fit.flat flat)))) (λ (solid : p.dim ≡ 3). solid) fit.dim

module _ (p : Parts) (fit : AreParts p) (g : Diagram) (same : g.dim ≡ p.dim) (is : IsFor p g) where
  -- the cone of a cell stands one dimension lower
  pub cell-below : (c : ℕ × Cell) → IsCellPart p c → AllByRecursion (λ (e : ConeEntry). IsInStratum g (p.dim - 1) e.point) (cell_part p c).covers
  cell-below c part = all_weaker (IsAmong (length p.cells + length p.vertices) (length (sides p))) (λ (e : ConeEntry). IsInStratum g (p.dim - 1) e.point) (λ e h. ⊎_elim (flat e h) (solid e h) fit.dim) (cell_part p c).covers
      (cone-among (length p.cells + length p.vertices) (sides p) c.1.poly c.1.vertices part.facets)
    where
      flat : (e : ConeEntry) → IsAmong (length p.cells + length p.vertices) (length (sides p)) e → p.dim ≡ 2 → IsInStratum g (p.dim - 1) e.point
      flat e h two =
          let none : length p.faces ≡ 0 = ap length (fit.flat two) in
          let count : length (sides p) ≡ length p.edges = ap length (cond-false (p.dim == 3) p.faces p.edges (ne_eqb p.dim 3 (λ e. absurd (omega arith)))) in
          let one : 1 ≡ p.dim - 1 = omega arith in
          subst (λ d. IsInStratum g d e.point) one (in-edges g e.point (omega (arith, same, two)) (omega (arith, h.low, none, is.cells, is.vertices, is.faces)) (omega (arith, h.high, count, none, is.cells, is.vertices, is.faces, is.edges)))

      solid : (e : ConeEntry) → IsAmong (length p.cells + length p.vertices) (length (sides p)) e → p.dim ≡ 3 → IsInStratum g (p.dim - 1) e.point
      solid e h three =
          let count : length (sides p) ≡ length p.faces = ap length (cond-true (p.dim == 3) p.faces p.edges (eq-eqb p.dim 3 three)) in
          let two : 2 ≡ p.dim - 1 = omega arith in
          subst (λ d. IsInStratum g d e.point) two (in-faces g e.point (same ∙ three) (omega (arith, h.low, is.cells, is.vertices)) (omega (arith, h.high, count, is.cells, is.vertices, is.faces)))

  -- so does that of a face
  pub face-below : (s : Sight) → HasFacets p.edges (facets_of s.poly) s.arrangement → AllByRecursion (λ (e : ConeEntry). IsInStratum g 1 e.point) (face_part p s).covers
  face-below s has = all_weaker (IsAmong (length p.cells + length p.vertices + length p.faces) (length p.edges)) (λ (e : ConeEntry). IsInStratum g 1 e.point)
      (λ e h. in-edges g e.point (omega (arith, same, dim-two p fit)) (omega (arith, h.low, is.cells, is.vertices, is.faces)) (omega (arith, h.high, is.cells, is.vertices, is.faces, is.edges)))
      (face_part p s).covers (cone-among (length p.cells + length p.vertices + length p.faces) p.edges s.poly s.arrangement has)

  -- and that of an edge
  pub edge-below : (s : Sight) → IsEdgePart p s → AllByRecursion (λ (e : ConeEntry). IsInStratum g 0 e.point) (edge_part p s).covers
  edge-below s part = (end (slice_index s.arrangement 0) part.first, (end (slice_index s.arrangement 1) part.second, tt))
    where
      end : (v : ℕ) → list_any (λ w. w == v) p.vertices ≡ true → IsInStratum g 0 (length p.cells + position_or_len (λ w. w == v) p.vertices)
      end v there = in-vertices g _ (omega (arith, same, dim-two p fit)) (omega (arith, is.cells)) (omega (arith, is.cells, is.vertices, position-within (λ w. w == v) p.vertices there))

-- ---- what cells see of faces, one cell after another

-- what the first cells see, and one more
seen-more : (cells : List (ℕ × Cell)) (i : ℕ) → i < length cells → face_sights (take (i + 1) cells) ≡ face_sights (take i cells) ++ cell_faces (cell_at cells i).0 (cell_at cells i).1
seen-more cells i low =
    ap face_sights (take_more cells i (cell_at [] 0) low)
    ∙ flat_map-append (λ (d : ℕ × Cell). cell_faces d.0 d.1) (take i cells) (cell_at cells i ∷ [])
    ∙ ap (λ l. face_sights (take i cells) ++ l) (append-nil (cell_faces (cell_at cells i).0 (cell_at cells i).1))

-- no twist up to a cell and none in it
pub untwisted-more : (t : Sight → Bool) (cells : List (ℕ × Cell)) (i : ℕ) → i < length cells → list_any t (face_sights (take i cells)) ≡ false → list_any t (cell_faces (cell_at cells i).0 (cell_at cells i).1) ≡ false → list_any t (face_sights (take (i + 1) cells)) ≡ false
untwisted-more t cells i low before here = ap (list_any t) (seen-more cells i low) ∙ list_any-append t (face_sights (take i cells)) (cell_faces (cell_at cells i).0 (cell_at cells i).1) ∙ ap (λ b. b || list_any t (cell_faces (cell_at cells i).0 (cell_at cells i).1)) before ∙ here

-- nothing that is twisted, and no first twist
pub untwisted-none : (points seen : List Sight) → list_any (is_twisted points) seen ≡ false → first_twist points seen ≡ None
untwisted-none points seen none = ap (option_map (λ (s : Sight). s.key)) (find-none (is_twisted points) seen none)

-- the first twist in a cell is that of all cells where there is none before
pub twist-of : (points : List Sight) (cells : List (ℕ × Cell)) (i : ℕ) → i < length cells → list_any (is_twisted points) (face_sights (take i cells)) ≡ false → (stop : Stop) → IsFirstTwist points (cell_faces (cell_at cells i).0 (cell_at cells i).1) stop → IsFirstTwist points (face_sights cells) stop
twist-of points cells i low before NoMemory h = tt
twist-of points cells i low before (Twist key) h = ap (option_map (λ (s : Sight). s.key)) whole ∙ h
  where
    t : Sight → Bool
    t = is_twisted points

    rest : List (ℕ × Cell)
    rest = drop (i + 1) cells

    here : List Sight
    here = cell_faces (cell_at cells i).0 (cell_at cells i).1

    pieces : face_sights cells ≡ face_sights (take i cells) ++ (here ++ face_sights rest)
    pieces =
        ap face_sights (sym (take-append-drop (i + 1) cells))
        ∙ flat_map-append (λ (d : ℕ × Cell). cell_faces d.0 d.1) (take (i + 1) cells) rest
        ∙ ap (λ l. l ++ face_sights rest) (seen-more cells i low)
        ∙ append_assoc (face_sights (take i cells)) here (face_sights rest)

    shown : list_any t here ≡ true
    shown = go (find t here) refl h
      where
        go : (f : Option Sight) → find t here ≡ f → option_map (λ (s : Sight). s.key) f ≡ Some key.0 → list_any t here ≡ true
        go None e k = absurd (cc k)
        go (Some s) e k = found-any t here s e

    whole : find t (face_sights cells) ≡ find t here
    whole = ap (find t) pieces ∙ find-append_none t (face_sights (take i cells)) (here ++ face_sights rest) before ∙ find-append_found t here (face_sights rest) shown

-- an answer that is not none is some
pub some-answer : {X : Type 0} (o : Option X) → is_none o ≡ false → (x : X) × (o ≡ Some x)
some-answer None h = absurd (cc h)
some-answer (Some x) h = (x, refl)

-- where there is no first twist, no cell sees a face under no orientation
pub turned-all : (points : List Sight) (cells : List (ℕ × Cell)) → first_twist points (face_sights cells) ≡ None → AllByRecursion (λ (c : ℕ × Cell). AllByRecursion (λ (s : Sight). is_twisted points s ≡ false) (cell_faces c.0 c.1)) cells
turned-all points cells none = all_in_flat_map (λ (s : Sight). is_twisted points s ≡ false) (λ (c : ℕ × Cell). cell_faces c.0 c.1) cells
    (each_fails (is_twisted points) (face_sights cells)
    (⊎_elim (λ (w : (s : Sight) × (find (is_twisted points) (face_sights cells) ≡ Some s)). absurd (cc (sym none ∙ ap (option_map (λ (s : Sight). s.key)) w.1))) (λ e. e)
    (find-cases (is_twisted points) (face_sights cells))))
