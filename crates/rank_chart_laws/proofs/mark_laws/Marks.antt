-- Where the point of a mark stands in the chart of all cells.
use Rattle.std.proofs.Common.{rules, not, nat_le, ◌&&◌, ◌≡◌, ◌≢◌, ◌⊎◌, ℕ, ◌+◌, ◌<◌, ◌≤◌, Bool, true, false, cond, ◌||◌, ◌==◌, List, [], ◌∷◌, ◌++◌, map, length, refl, sym, ap, ap₂, ◌∙◌, subst, ⊎_elim, arith}
use Rattle.std.specs.Prelude.{slice_index, position, Some}
use Rattle.std.specs.List.{list_any, position_or_len, AllByRecursion, enumerate_from}
use Rattle.std.specs.Cmp.Lexicographic.{same_text}
use Rattle.std.proofs.lemmas.Bool.{or_cases, eq-eqb, ne_eqb, and_left, both_ways}
use Rattle.std.proofs.lemmas.List.Folds.{list_any-append}
use Rattle.plain_lists.specs.Lists.{inserted, sorted, same_list, same_set}
use Rattle.plain_lists.proofs.Sorted.{all_sorted}
use Rattle.plain_lists.proofs.Each.{all_map, all_from, all_weaker, all_flat_map, all_enumerated}
use Rattle.plain_lists.proofs.Finding.{none_passes, position-append_found, position-within}
use Rattle.mesh_defs.specs.declared.Poly.{Poly}
use Rattle.mesh_defs.specs.declared.Poly.TheVariants.{Vertex, Segment, Triangle, Quad, Tet, Hex}
use Rattle.mesh_defs.specs.Tables.{dim_of}
use Rattle.mesh_defs.specs.Mesh.{Mesh, Cell, Mark, placed_cells}
use Rattle.mesh_defs.specs.Points.{Point, Sight, marked_point, vertex_sights, point_on, point_of, shows, contains, cell_sight, sights_of, sights, vertex_sight}
use Rattle.mesh_defs.specs.RightMesh.{IsRightMesh, IsSoundCell, in_some}
use Rattle.mesh_defs.specs.Diagram.{stratum, chart, place_in}
use Rattle.mesh_defs.specs.Sights.{IsEdgeSight}
use Rattle.mesh_laws.proofs.Containing.{sights_of-any_place}
use Rattle.mesh_laws.proofs.Firsts.{shows-true}
use Rattle.rank_laws.proofs.Found.{shown-in_stratum, length-sorted, one-entry, two-entries}
use Rattle.rank_chart_laws.specs.mark_laws.Sets.{no_vertex, IsShort}
use Rattle.rank_laws.specs.diagram_laws.Strata.{whole_sights, mesh_faces, mesh_edges}
use Rattle.rank_laws.proofs.diagram_laws.Parts.{stratum-cells, stratum-edges, stratum-faces, cell-dims, chart-parts}
use Rattle.rank_laws.proofs.diagram_laws.Edges.{OfDim, none-of_dim, edges-are}
use Rattle.rank_laws.proofs.diagram_laws.Cones.{place-vertex, place-edge}
use Rattle.input_laws.proofs.place_laws.Firsts.{position-some}
use Rattle.mesh_laws.proofs.Turns.{sorted-one}
use Rattle.rank_chart_laws.proofs.mark_laws.Filled.{cells-short}

-- ---- what a cell contains

-- what a cell contains is one of its vertices, or what it sees
contained : (cell : Cell) (p : Point) → contains cell p ≡ true → (list_any (shows p) (map vertex_sight cell.vertices) ≡ true) ⊎ (list_any (shows p) (sights_of (0, cell)) ≡ true)
unfolding contains
contained cell p h = or_cases (list_any (shows p) (map vertex_sight cell.vertices)) (list_any (shows p) (sights_of (0, cell))) (sym (list_any-append (shows p) (map vertex_sight cell.vertices) (sights_of (0, cell))) ∙ h)

-- a point that is no vertex is seen
contains-seen : (c : ℕ × Cell) (p : Point) → p.dim ≢ 0 → contains c.1 p ≡ true → list_any (shows p) (sights_of c) ≡ true
contains-seen c p ne h = ⊎_elim
    (λ v. absurd (both_ways (list_any (shows p) (map vertex_sight c.1.vertices)) (none-of_dim p 0 (map vertex_sight c.1.vertices) ne (all_map (OfDim 0) vertex_sight c.1.vertices (all_from (λ w. OfDim 0 (vertex_sight w)) (λ w. refl) c.1.vertices))) v))
    (λ s. sights_of-any_place p c.0 0 c.1 ∙ s)
    (contained c.1 p h)

-- and so by some cells
some-seen : (p : Point) → p.dim ≢ 0 → (cells : List (ℕ × Cell)) → in_some p cells ≡ true → list_any (shows p) (sights cells) ≡ true
some-seen p ne [] h = absurd (cc h)
some-seen p ne (c ∷ cs) h =
    list_any-append (shows p) (sights_of c) (sights cs) ∙ ⊎_elim
    (λ a. ap (λ b. b || list_any (shows p) (sights cs)) (contains-seen c p ne a))
    (λ a. ap (λ b. list_any (shows p) (sights_of c) || b) (some-seen p ne cs a) ∙ right (list_any (shows p) (sights_of c)))
    (or_cases (contains c.1 p) (in_some p cs) h)
  where
    right : (b : Bool) → (b || true) ≡ true
    right true = refl
    right false = refl

-- what polygons see is below dimension 3
flat-sights : (n : ℕ) (p : Poly) (vertices : List ℕ) → dim_of p ≡ 2 → AllByRecursion (λ s. dim_of s.poly < 3) (sights_of (n, record { poly = p; vertices = vertices }))
unfolding sights_of
flat-sights n Vertex vertices h = absurd (omega arith)
flat-sights n Segment vertices h = absurd (omega arith)
flat-sights n Triangle vertices h = (omega arith, (omega arith, (omega arith, (omega arith, tt))))
flat-sights n Quad vertices h = (omega arith, (omega arith, (omega arith, (omega arith, (omega arith, tt)))))
flat-sights n Tet vertices h = absurd (omega arith)
flat-sights n Hex vertices h = absurd (omega arith)

module _ (m : Mesh) (right : IsRightMesh m) (p : Point) (on : in_some p (placed_cells m) ≡ true) where
  in-stratum : p.dim ≢ 0 → list_any (shows p) (stratum m p.dim) ≡ true
  in-stratum ne = shown-in_stratum m p ne (some-seen p ne (placed_cells m) on)

  -- it is among the edges
  pub among-edges : p.dim ≡ 1 → list_any (shows p) (mesh_edges m) ≡ true
  among-edges e =
      let ne : p.dim ≢ 0 = λ z. absurd (omega (arith, e, z)) in
      ap (list_any (shows p)) (sym (ap (stratum m) e ∙ stratum-edges m right.sound.dim (cell-dims m right.sound))) ∙ in-stratum ne

  -- the faces
  pub among-faces : p.dim ≡ 2 → m.dim ≡ 3 → list_any (shows p) (mesh_faces m) ≡ true
  among-faces e solid =
      let ne : p.dim ≢ 0 = λ z. absurd (omega (arith, e, z)) in
      ap (list_any (shows p)) (sym (ap (stratum m) e ∙ stratum-faces m right.sound.dim (cell-dims m right.sound) solid)) ∙ in-stratum ne

  -- the cells
  pub among-cells : p.dim ≡ m.dim → list_any (shows p) (whole_sights (placed_cells m)) ≡ true
  among-cells e =
      let ne : p.dim ≢ 0 = λ z. ⊎_elim (λ flat. absurd (omega (arith, e, z, flat))) (λ solid. absurd (omega (arith, e, z, solid))) right.sound.dim in
      ap (list_any (shows p)) (sym (ap (stratum m) e ∙ stratum-cells m right.sound.dim (cell-dims m right.sound) right.differ)) ∙ in-stratum ne

-- ---- cells by their vertices

-- a cell is shown where its vertices are these
whole-test : (d c : ℕ) (vs : List ℕ) (cell : Cell) → dim_of cell.poly ≡ d → shows (record { dim = d; vertices = sorted vs }) (cell_sight c cell) ≡ same_set vs cell.vertices
whole-test d c vs cell e = ap (λ b. b && same_set vs cell.vertices) (eq-eqb d (dim_of cell.poly) (sym e))

whole-any : (d n : ℕ) (vs : List ℕ) (cells : List Cell) → AllByRecursion (λ (cell : Cell). dim_of cell.poly ≡ d) cells
    → list_any (shows (record { dim = d; vertices = sorted vs })) (whole_sights (enumerate_from n cells)) ≡ list_any (λ (cell : Cell). same_set vs cell.vertices) cells
whole-any d n vs [] h = refl
whole-any d n vs (cell ∷ cells) h = ap₂ (λ a b. a || b) (whole-test d n vs cell h.0) (whole-any d (n + 1) vs cells h.1)

whole-place : (d n : ℕ) (vs : List ℕ) (cells : List Cell) → AllByRecursion (λ (cell : Cell). dim_of cell.poly ≡ d) cells
    → position_or_len (shows (record { dim = d; vertices = sorted vs })) (whole_sights (enumerate_from n cells)) ≡ position_or_len (λ (cell : Cell). same_set vs cell.vertices) cells
whole-place d n vs [] h = refl
whole-place d n vs (cell ∷ cells) h = ap₂ (λ a k. cond (not a) (1 + k) 0) (whole-test d n vs cell h.0) (whole-place d (n + 1) vs cells h.1)

-- what sorted numbers have, the numbers have
all_inserted-back : (P : ℕ → Type 0) (x : ℕ) (ys : List ℕ) → AllByRecursion P (inserted x ys) → P x × AllByRecursion P ys
all_inserted-back P x [] h = h
all_inserted-back P x (y ∷ ys) h = go (nat_le x y) h (all_inserted-back P x ys)
  where
    go : (b : Bool) → AllByRecursion P (cond b (x ∷ y ∷ ys) (y ∷ inserted x ys)) → (AllByRecursion P (inserted x ys) → P x × AllByRecursion P ys) → P x × AllByRecursion P (y ∷ ys)
    go true q r = q
    go false q r = let rest = r q.1 in (rest.0, (q.0, rest.1))

all_sorted-back : (P : ℕ → Type 0) (xs : List ℕ) → AllByRecursion P (sorted xs) → AllByRecursion P xs
unfolding sorted
all_sorted-back P [] h = tt
all_sorted-back P (x ∷ xs) h = let both = all_inserted-back P x (sorted xs) h in (both.0, all_sorted-back P xs both.1)

-- vertices that are those of a short list are a short list
same-short : (vs ws : List ℕ) → same_set vs ws ≡ true → IsShort ws → IsShort vs
same-short vs ws h is =
    let e = same_text (sorted vs) (sorted ws) (sym h) in
    let size : length vs ≡ length ws = sym (length-sorted vs) ∙ ap length e ∙ length-sorted ws in
    record {
      few = omega (arith, is.few, size);
      low = all_sorted-back (λ v. v < no_vertex) vs (subst (AllByRecursion (λ v. v < no_vertex)) (sym e) (all_sorted (λ v. v < no_vertex) ws is.low));
    }

some-short : (vs : List ℕ) (cells : List Cell) → AllByRecursion (λ (cell : Cell). IsShort cell.vertices) cells → list_any (λ (cell : Cell). same_set vs cell.vertices) cells ≡ true → IsShort vs
some-short vs [] h e = absurd (cc e)
some-short vs (cell ∷ cells) h e = ⊎_elim (λ a. same-short vs cell.vertices a h.0) (λ a. some-short vs cells h.1 a) (or_cases (same_set vs cell.vertices) (list_any (λ (d : Cell). same_set vs d.vertices) cells) e)

-- ---- vertices

-- what sees has a dimension above 0
poly-above_zero : (k : ℕ) (p : Poly) (vs : List ℕ) → 2 ≤ dim_of p → AllByRecursion (λ s. 0 < dim_of s.poly) (sights_of (k, record { poly = p; vertices = vs }))
unfolding sights_of
poly-above_zero k Vertex vs l = absurd (omega arith)
poly-above_zero k Segment vs l = absurd (omega arith)
poly-above_zero k Triangle vs l = search rules
poly-above_zero k Quad vs l = search rules
poly-above_zero k Tet vs l = search rules
poly-above_zero k Hex vs l = search rules

above-zero : (c : ℕ × Cell) → 2 ≤ dim_of c.1.poly → AllByRecursion (λ s. 0 < dim_of s.poly) (sights_of c)
above-zero c h = poly-above_zero c.0 c.1.poly c.1.vertices h

-- one of some vertices
one-shown : (p : Point) (n : ℕ) (vs : List ℕ) → AllByRecursion (λ v. v < n) vs → list_any (shows p) (map vertex_sight vs) ≡ true → (v : ℕ) × ((v < n) × (p ≡ point_of (vertex_sight v)))
one-shown p n [] h e = absurd (cc e)
one-shown p n (v ∷ vs) h e = ⊎_elim (λ a. (v, (h.0, shows-true p (vertex_sight v) a))) (λ a. one-shown p n vs h.1 a) (or_cases (shows p (vertex_sight v)) (list_any (shows p) (map vertex_sight vs)) e)

vertex-shown : (m : Mesh) (p : Point) → p.dim ≡ 0 → (cells : List (ℕ × Cell)) → AllByRecursion (λ (c : ℕ × Cell). (2 ≤ dim_of c.1.poly) × AllByRecursion (λ v. v < length m.at) c.1.vertices) cells → in_some p cells ≡ true
    → (v : ℕ) × ((v < length m.at) × (p ≡ point_of (vertex_sight v)))
vertex-shown m p zero-dim [] h e = absurd (cc e)
vertex-shown m p zero-dim (c ∷ cs) h e = ⊎_elim
    (λ a. ⊎_elim
    (λ v. one-shown p (length m.at) c.1.vertices h.0.1 v)
    (λ s. absurd (both_ways (list_any (shows p) (sights_of (0, c.1)))
    (none_passes (shows p) (sights_of (0, c.1)) (all_weaker (λ t. 0 < dim_of t.poly) (λ t. shows p t ≡ false) (λ t l. and_left (p.dim == dim_of t.poly) (same_list p.vertices (point_of t).vertices) (ne_eqb p.dim (dim_of t.poly) (λ f. absurd (omega (arith, f, l, zero-dim))))) (sights_of (0, c.1)) (above-zero (0, c.1) h.0.0))) s))
    (contained c.1 p a))
    (λ a. vertex-shown m p zero-dim cs h.1 a)
    (or_cases (contains c.1 p) (in_some p cs) e)

-- ---- marks by their dimension

-- a mark on a cell
pub record IsOnCell (m : Mesh) (k : Mark) : Type 0 where
  pub short : IsShort k.vertices
  pub place : position (λ (cell : Cell). same_set k.vertices cell.vertices) m.cells ≡ Some (place_in (chart m (placed_cells m)) (marked_point k))

-- a mark on a vertex
pub record IsOnVertex (m : Mesh) (k : Mark) : Type 0 where
  pub one : length k.vertices ≡ 1
  pub low : slice_index k.vertices 0 < length m.at
  pub place : place_in (chart m (placed_cells m)) (marked_point k) ≡ length m.cells + slice_index k.vertices 0

-- a mark on an edge
pub record IsOnEdge (m : Mesh) (k : Mark) : Type 0 where
  pub two : length k.vertices ≡ 2
  pub found : position (shows (point_on Segment (slice_index k.vertices 0 ∷ slice_index k.vertices 1 ∷ []))) (mesh_edges m) ≡ Some (position_or_len (shows (marked_point k)) (mesh_edges m))
  pub within : position_or_len (shows (marked_point k)) (mesh_edges m) < length (mesh_edges m)
  pub place : place_in (chart m (placed_cells m)) (marked_point k) ≡ length m.cells + length m.at + length (mesh_faces m) + position_or_len (shows (marked_point k)) (mesh_edges m)

-- as long as an edge that shows it
edge-long : (n : ℕ) (p : Point) (edges : List Sight) → AllByRecursion (IsEdgeSight n) edges → list_any (shows p) edges ≡ true → length p.vertices ≡ 2
edge-long n p [] h e = absurd (cc e)
edge-long n p (s ∷ ss) h e = ⊎_elim
    (λ a. ap (λ (q : Point). length q.vertices) (shows-true p s a) ∙ length-sorted s.arrangement ∙ ap length h.0.ends)
    (λ a. edge-long n p ss h.1 a)
    (or_cases (shows p s) (list_any (shows p) ss) e)

module _ (m : Mesh) (right : IsRightMesh m) (k : Mark) (on : in_some (marked_point k) (placed_cells m) ≡ true) where
  pub on-cell : k.dim ≡ m.dim → IsOnCell m k
  on-cell e =
      let among : list_any (shows (marked_point k)) (whole_sights (placed_cells m)) ≡ true = among-cells m right (marked_point k) on e in
      let dims : AllByRecursion (λ (cell : Cell). dim_of cell.poly ≡ k.dim) m.cells = all_weaker (λ (cell : Cell). dim_of cell.poly ≡ m.dim) (λ (cell : Cell). dim_of cell.poly ≡ k.dim) (λ cell d. d ∙ sym e) m.cells (cell-dims m right.sound) in
      let there : list_any (λ (cell : Cell). same_set k.vertices cell.vertices) m.cells ≡ true = sym (whole-any k.dim 0 k.vertices m.cells dims) ∙ among in
      let wholes = whole_sights (placed_cells m) in
      let first : list_any (shows (marked_point k)) (wholes ++ vertex_sights m) ≡ true = list_any-append (shows (marked_point k)) wholes (vertex_sights m) ∙ ap (λ b. b || list_any (shows (marked_point k)) (vertex_sights m)) among in
      let second : list_any (shows (marked_point k)) (wholes ++ vertex_sights m ++ mesh_faces m) ≡ true = list_any-append (shows (marked_point k)) (wholes ++ vertex_sights m) (mesh_faces m) ∙ ap (λ b. b || list_any (shows (marked_point k)) (mesh_faces m)) first in
      let place : place_in (chart m (placed_cells m)) (marked_point k) ≡ position_or_len (λ (cell : Cell). same_set k.vertices cell.vertices) m.cells =
      ap (position_or_len (shows (marked_point k))) (chart-parts m right.sound right.differ)
      ∙ position-append_found (shows (marked_point k)) (wholes ++ vertex_sights m ++ mesh_faces m) (mesh_edges m) second
      ∙ position-append_found (shows (marked_point k)) (wholes ++ vertex_sights m) (mesh_faces m) first
      ∙ position-append_found (shows (marked_point k)) wholes (vertex_sights m) among
      ∙ whole-place k.dim 0 k.vertices m.cells dims in
      record {
        short = some-short k.vertices m.cells (cells-short m right) there;
        place = position-some (λ (cell : Cell). same_set k.vertices cell.vertices) m.cells there ∙ ap (λ n. Some n) (sym place);
      }

  pub on-vertex : k.dim ≡ 0 → IsOnVertex m k
  on-vertex e =
      let dims : AllByRecursion (λ (c : ℕ × Cell). (2 ≤ dim_of c.1.poly) × AllByRecursion (λ v. v < length m.at) c.1.vertices) (placed_cells m) =
      all_enumerated (λ (cell : Cell). (2 ≤ dim_of cell.poly) × AllByRecursion (λ v. v < length m.at) cell.vertices) 0 m.cells
      (all_weaker (IsSoundCell m) (λ (cell : Cell). (2 ≤ dim_of cell.poly) × AllByRecursion (λ v. v < length m.at) cell.vertices) (λ cell s. (two-or-more (dim_of cell.poly) s.dim, s.in_range)) m.cells right.sound.cells) in
      let v = vertex-shown m (marked_point k) e (placed_cells m) dims on in
      let list : sorted k.vertices ≡ v.0 ∷ [] = ap (λ (q : Point). q.vertices) v.1.1 ∙ sorted-one v.0 in
      let one : length k.vertices ≡ 1 = sym (length-sorted k.vertices) ∙ ap length list in
      let own : k.vertices ≡ slice_index k.vertices 0 ∷ [] = one-entry k.vertices one in
      let same : slice_index k.vertices 0 ≡ v.0 = ap (λ l. slice_index l 0) (sym (ap sorted own ∙ sorted-one (slice_index k.vertices 0)) ∙ list) in
      record {
        one = one;
        low = subst (λ w. w < length m.at) (sym same) v.1.0;
        place = ap (place_in (chart m (placed_cells m))) v.1.1 ∙ place-vertex m right.sound right.differ v.0 v.1.0 ∙ ap (λ w. length m.cells + w) (sym same);
      }
    where
      two-or-more : (d : ℕ) → d ≡ m.dim → 2 ≤ d
      two-or-more d h = ⊎_elim (λ flat. omega (arith, h, flat)) (λ solid. omega (arith, h, solid)) right.sound.dim

  pub on-edge : k.dim ≡ 1 → IsOnEdge m k
  on-edge e =
      let among : list_any (shows (marked_point k)) (mesh_edges m) ≡ true = among-edges m right (marked_point k) on e in
      let two : length k.vertices ≡ 2 = sym (length-sorted k.vertices) ∙ edge-long (length m.at) (marked_point k) (mesh_edges m) (edges-are m right.sound) among in
      let list : k.vertices ≡ slice_index k.vertices 0 ∷ slice_index k.vertices 1 ∷ [] = two-entries k.vertices two in
      let point : point_on Segment (slice_index k.vertices 0 ∷ slice_index k.vertices 1 ∷ []) ≡ marked_point k = λ i. record { dim = sym e i; vertices = sorted (sym list i) } in
      record {
        two = two;
        found = ap (λ q. position (shows q) (mesh_edges m)) point ∙ position-some (shows (marked_point k)) (mesh_edges m) among;
        within = position-within (shows (marked_point k)) (mesh_edges m) among;
        place = place-edge m right.sound right.differ (marked_point k) e;
      }

  -- no mark is of greater dimension than the mesh
  pub not-above : k.dim ≡ 3 → m.dim ≡ 2 → ⊥
  not-above e flat =
      let ne : k.dim ≢ 0 = λ z. absurd (omega (arith, e, z)) in
      let dims : AllByRecursion (λ (c : ℕ × Cell). dim_of c.1.poly ≡ 2) (placed_cells m) =
      all_enumerated (λ (cell : Cell). dim_of cell.poly ≡ 2) 0 m.cells (all_weaker (λ (cell : Cell). dim_of cell.poly ≡ m.dim) (λ (cell : Cell). dim_of cell.poly ≡ 2) (λ cell d. d ∙ flat) m.cells (cell-dims m right.sound)) in
      let low : AllByRecursion (λ s. dim_of s.poly < 3) (sights (placed_cells m)) =
      all_flat_map (λ s. dim_of s.poly < 3) sights_of (placed_cells m) (all_weaker (λ (c : ℕ × Cell). dim_of c.1.poly ≡ 2) (λ (c : ℕ × Cell). AllByRecursion (λ s. dim_of s.poly < 3) (sights_of c)) (λ c d. flat-sights c.0 c.1.poly c.1.vertices d) (placed_cells m) dims) in
      both_ways (list_any (shows (marked_point k)) (sights (placed_cells m)))
      (none_passes (shows (marked_point k)) (sights (placed_cells m)) (all_weaker (λ s. dim_of s.poly < 3) (λ s. shows (marked_point k) s ≡ false) (λ s l. and_left (k.dim == dim_of s.poly) (same_list (marked_point k).vertices (point_of s).vertices) (ne_eqb k.dim (dim_of s.poly) (λ f. absurd (omega (arith, f, l, e))))) (sights (placed_cells m)) low))
      (some-seen (marked_point k) ne (placed_cells m) on)
