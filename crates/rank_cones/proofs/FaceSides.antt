-- The sides of a face by the corners that a table of edges names.
use Rattle.std.proofs.Common.{◌≡◌, ◌≢◌, ℕ, ◌<◌, true, List, [], ◌∷◌, length, Some, sym, ap, ◌∙◌}
use Rattle.std.specs.Prelude.{slice_index}
use Rattle.std.specs.List.{list_any, slice_get, AllByRecursion}
use Rattle.std.proofs.lemmas.Option.{get_or_from_slice_get}
use Rattle.plain_lists.specs.Lists.{picked}
use Rattle.plain_lists.proofs.Each.{all_at}
use Rattle.mesh_defs.specs.declared.Poly.TheVariants.{Segment}
use Rattle.mesh_defs.specs.Tables.{facets_of, edges_of, edge_at}
use Rattle.mesh_defs.specs.Mesh.{Cell}
use Rattle.mesh_defs.specs.Points.{Sight, point_on, shows, vertex_sight, cell_edges}
use Rattle.rank_chart_laws.specs.rank_diagram_laws.Parts.{HasFacets, IsFacePart}
use Rattle.rank_cones.specs.Placed.{sight_at}
use Rattle.rank_cones.specs.Seen.{HasSides}
use Rattle.rank_cones.proofs.Polygons.{ends-at, ends-differ, side-there}

-- side j of face k, which stands there as its own, from one corner to another
module _ (faces : List Sight) (all : AllByRecursion IsFacePart faces) {k j from to : ℕ} {own : Sight} (low : k < length faces) (side : j < length (edges_of (sight_at faces k).poly)) (there : slice_get faces k ≡ Some own) (from-is : from ≡ slice_index (edge_at own.poly j) 0) (to-is : to ≡ slice_index (edge_at own.poly j) 1) where
  abbrev face : Sight
  face = sight_at faces k

  own-is : own ≡ sight_at faces k
  own-is = sym (get_or_from_slice_get faces k own (vertex_sight 0) there)

  part : IsFacePart (sight_at faces k)
  part = all_at IsFacePart faces k (vertex_sight 0) all low

  from-here : from ≡ slice_index (edge_at (sight_at faces k).poly j) 0
  from-here = from-is ∙ ap (λ (s : Sight). slice_index (edge_at s.poly j) 0) own-is

  to-here : to ≡ slice_index (edge_at (sight_at faces k).poly j) 1
  to-here = to-is ∙ ap (λ (s : Sight). slice_index (edge_at s.poly j) 1) own-is

  -- its two ends
  pub ends-are : picked (sight_at faces k).arrangement (edge_at (sight_at faces k).poly j) ≡ slice_index own.arrangement from ∷ slice_index own.arrangement to ∷ []
  ends-are = ends-at face.arrangement face.poly j side ∙ (λ i. slice_index (sym own-is i).arrangement (sym from-here i) ∷ slice_index (sym own-is i).arrangement (sym to-here i) ∷ [])

  -- they differ
  pub side-apart : slice_index own.arrangement from ≢ slice_index own.arrangement to
  side-apart same = ends-differ face.arrangement face.poly j part.list.long part.list.different side ((λ i. slice_index (sym own-is i).arrangement (sym from-here i)) ∙ same ∙ (λ i. slice_index (own-is i).arrangement (to-here i)))

  -- it is among the edges where the facets are
  pub side-shown : (edges : List Sight) → HasFacets edges (facets_of (sight_at faces k).poly) (sight_at faces k).arrangement → list_any (shows (point_on Segment (slice_index own.arrangement from ∷ slice_index own.arrangement to ∷ []))) edges ≡ true
  side-shown edges has = ap (λ l. list_any (shows (point_on Segment l)) edges) (sym ends-are) ∙ side-there edges face.poly face.arrangement part.dim has j side

  -- a cell that has the sides has it
  pub side-seen : (c : ℕ × Cell) → HasSides c (sight_at faces k) → list_any (shows (point_on Segment (slice_index own.arrangement from ∷ slice_index own.arrangement to ∷ []))) (cell_edges c.0 c.1) ≡ true
  side-seen c has = ap (λ l. list_any (shows (point_on Segment l)) (cell_edges c.0 c.1)) (sym ends-are) ∙ all_at (λ e. list_any (shows (point_on Segment (picked face.arrangement e))) (cell_edges c.0 c.1) ≡ true) (edges_of face.poly) j [] has side
