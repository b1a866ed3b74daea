-- The sides of polygons: their ends, and that they are among the edges.
use Rattle.std.proofs.Common.{◌≡◌, ◌≢◌, ℕ, ◌<◌, true, ◌==◌, List, [], ◌∷◌, length, get_or, sym, ap, ◌∙◌, subst, arith}
use Rattle.std.specs.Prelude.{slice_index}
use Rattle.std.specs.List.{list_any}
use Rattle.std.proofs.lemmas.Bool.{and_parts, eqb-true}
use Rattle.std.proofs.lemmas.List.{length-map, get_or-map}
use Rattle.mesh_defs.specs.declared.Poly.{Poly}
use Rattle.mesh_defs.specs.declared.Poly.TheVariants.{Vertex, Segment}
use Rattle.plain_lists.specs.Lists.{picked}
use Rattle.plain_lists.proofs.Each.{all_at, each_passes}
use Rattle.mesh_defs.specs.Tables.{Facet, dim_of, corner_count, facets_of, edges_of, facet_at, edge_at}
use Rattle.mesh_defs.specs.Points.{Sight, point_on, shows}
use Rattle.mesh_defs.proofs.RightMeshes.{are_corners}
use Rattle.rank_laws.proofs.Shapes.{is_pair, edges-are_pairs, picked-differ}
use Rattle.rank_laws.proofs.Found.{two-entries}
use Rattle.rank_laws.proofs.TurnedEdges.{polygon-facets, pair-below}
use Rattle.rank_chart_laws.specs.rank_diagram_laws.Parts.{HasFacets}

-- ---- the sides of a polygon

-- as many as edges
pub length-sides : (p : Poly) → dim_of p ≡ 2 → length (facets_of p) ≡ length (edges_of p)
length-sides p two = ap length (polygon-facets p two) ∙ length-map (edges_of p) (λ e. record { poly = Segment; corners = e })

-- side j is edge j
pub side-facet : (p : Poly) (j : ℕ) → dim_of p ≡ 2 → j < length (edges_of p) → facet_at p j ≡ record { poly = Segment; corners = edge_at p j }
side-facet p j two low = ap (λ l. get_or l j (record { poly = Vertex; corners = [] })) (polygon-facets p two) ∙ get_or-map (λ e. record { poly = Segment; corners = e }) (edges_of p) j [] (record { poly = Vertex; corners = [] }) low

-- two different corners
pub pair-at : (p : Poly) (j : ℕ) → j < length (edges_of p) → is_pair (corner_count p) (edge_at p j) ≡ true
pair-at p j low = all_at (λ e. is_pair (corner_count p) e ≡ true) (edges_of p) j [] (each_passes (is_pair (corner_count p)) (edges_of p) (edges-are_pairs p)) low

pub pair-long : (n : ℕ) (e : List ℕ) → is_pair n e ≡ true → length e ≡ 2
pair-long n e h = eqb-true (length e) 2 (and_parts (length e == 2) (are_corners n e) h).0

-- the vertices at its corners
pub ends-at : (vs : List ℕ) (p : Poly) (j : ℕ) → j < length (edges_of p) → picked vs (edge_at p j) ≡ slice_index vs (slice_index (edge_at p j) 0) ∷ slice_index vs (slice_index (edge_at p j) 1) ∷ []
ends-at vs p j low = ap (picked vs) (two-entries (edge_at p j) (pair-long (corner_count p) (edge_at p j) (pair-at p j low)))

-- its corners are corners of the polygon
pub corner-low : (p : Poly) (j i : ℕ) → j < length (edges_of p) → i < 2 → slice_index (edge_at p j) i < corner_count p
corner-low p j i low two = all_at (λ k. k < corner_count p) (edge_at p j) i 0 (pair-below (corner_count p) (edge_at p j) (pair-at p j low)) (omega (arith, pair-long (corner_count p) (edge_at p j) (pair-at p j low)))

-- they differ where the vertices of the polygon do
pub ends-differ : (vs : List ℕ) (p : Poly) (j : ℕ) → length vs ≡ corner_count p → ((i k : ℕ) → i < k → k < length vs → slice_index vs i ≢ slice_index vs k) → j < length (edges_of p)
    → slice_index vs (slice_index (edge_at p j) 0) ≢ slice_index vs (slice_index (edge_at p j) 1)
ends-differ vs p j long differ low same =
    let pair = pair-at p j low in
    let corners = (and_parts (length (edge_at p j) == 2) (are_corners (corner_count p) (edge_at p j)) pair).1 in
    let apart = picked-differ vs (edge_at p j) differ (subst (λ n. are_corners n (edge_at p j) ≡ true) (sym long) corners) 0 1 (omega arith) (omega (arith, length-map (edge_at p j) (λ k. get_or vs k 0), pair-long (corner_count p) (edge_at p j) pair)) in
    subst (λ (l : List ℕ). slice_index l 0 ≢ slice_index l 1) (ends-at vs p j low) apart same

-- side j is there where the facets are
pub side-there : (points : List Sight) (p : Poly) (list : List ℕ) → dim_of p ≡ 2 → HasFacets points (facets_of p) list → (j : ℕ) → j < length (edges_of p) → list_any (shows (point_on Segment (picked list (edge_at p j)))) points ≡ true
side-there points p list two has j low = subst (λ (f : Facet). list_any (shows (point_on f.poly (picked list f.corners))) points ≡ true) (side-facet p j two low)
    (all_at (λ (f : Facet). list_any (shows (point_on f.poly (picked list f.corners))) points ≡ true) (facets_of p) j (record { poly = Vertex; corners = [] }) has (omega (arith, low, length-sides p two)))
