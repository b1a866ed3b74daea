-- What a cell contains, by its table, as dimensions and nodes.
use Rattle.std.specs.Prelude.{ℕ, Bool, ◌&&◌, ◌==◌, if◌then◌else◌, List, [], ◌∷◌, ◌++◌, map, nat_eq}
use Rattle.std.specs.List.{list_any, position_or_len}
use Rattle.mesh_defs.specs.declared.Poly.{Poly}
use Rattle.plain_lists.specs.Lists.{picked, same_set}
use Rattle.mesh_defs.specs.Tables.{Facet, dim_of, facets_of, edges_of}
use Rattle.input_defs.specs.Content.{Element}
use Rattle.input_defs.specs.Meshes.{poly}
use Rattle.input_laws.specs.place_laws.Places.{stands_on}

-- a dimension, and nodes
pub record Part : Type 0 where
  pub dim : ℕ
  pub nodes : List ℕ

abbrev pub part : ℕ → List ℕ → Part
part dim nodes = record { dim = dim; nodes = nodes }

abbrev pub vertex_parts : List ℕ → List Part
vertex_parts nodes = map (λ n. part 0 (n ∷ [])) nodes

-- the faces of a solid, and no other cell's
abbrev pub face_parts : Poly → List ℕ → List Part
face_parts p nodes = if dim_of p == 3 then map (λ (f : Facet). part (dim_of f.poly) (picked nodes f.corners)) (facets_of p) else []

abbrev pub edge_parts : Poly → List ℕ → List Part
edge_parts p nodes = map (λ e. part 1 (picked nodes e)) (edges_of p)

-- its vertices, itself, its faces and its edges
unfoldable pub parts_of : Poly → List ℕ → List Part
parts_of p nodes = vertex_parts nodes ++ part (dim_of p) nodes ∷ (face_parts p nodes ++ edge_parts p nodes)

-- it has this dimension and is on these nodes
abbrev pub is_on : ℕ → List ℕ → Part → Bool
is_on dim nodes p = (dim == p.dim) && same_set nodes p.nodes

-- ---- the elements of a file

-- the first element that stands on this part is the one at place k
abbrev pub leads_to : List Element → ℕ → Part → Bool
leads_to elements k p = nat_eq (position_or_len (stands_on p.dim p.nodes) elements) k

-- it is so for some of the parts of the elements of cells
abbrev pub some_leads_to : List Element → List Element → ℕ → Bool
some_leads_to elements cells k = list_any (λ (e : Element). list_any (leads_to elements k) (parts_of (poly e) e.nodes)) cells
