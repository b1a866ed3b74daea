-- The faces of solids by their tables.
use Rattle.std.proofs.Common.{rules, ◌≡◌, ◌⊎◌, ℕ, ⊎_elim, ◌*◌, ◌<◌, ◌≤◌, List, [], ◌∷◌, length, refl, inl, inr, arith, length-append}
use Rattle.std.specs.Prelude.{◌==◌, if◌then◌else◌}
use Rattle.std.specs.List.{AllByRecursion}
use Rattle.plain_lists.proofs.Each.{all_at}
use Rattle.mesh_defs.specs.declared.Poly.{Poly}
use Rattle.mesh_defs.specs.declared.Poly.TheVariants.{Vertex, Segment, Triangle, Quad, Tet, Hex}
use Rattle.mesh_defs.specs.Tables.{Facet, dim_of, corner_count, facets_of, facet_at}
use Rattle.mesh_defs.specs.Mesh.{Cell}
use Rattle.mesh_defs.specs.Points.{cell_faces}
use Rattle.local_points.specs.Cells.{faces_seen}

-- three corners of a solid, or a quadrilateral
record IsTriangleOrQuad (n : ℕ) (f : Facet) : Type 0 where
  corners : AllByRecursion (λ k. k < n) f.corners
  kind : ((f.poly ≡ Triangle) × (length f.corners ≡ 3)) ⊎ (f.poly ≡ Quad)

-- a triangle, a quadrilateral
of-three : (n a b c : ℕ) → a < n → b < n → c < n → IsTriangleOrQuad n (record { poly = Triangle; corners = a ∷ b ∷ c ∷ [] })
of-three n a b c p q r = record { corners = (p, (q, (r, tt))); kind = inl (refl, refl) }

of-four : (n a b c d : ℕ) → a < n → b < n → c < n → d < n → IsTriangleOrQuad n (record { poly = Quad; corners = a ∷ b ∷ c ∷ d ∷ [] })
of-four n a b c d p q r s = record { corners = (p, (q, (r, (s, tt)))); kind = inr refl }

-- each face of a solid is one
solid-faces : (p : Poly) → dim_of p ≡ 3 → AllByRecursion (IsTriangleOrQuad (corner_count p)) (facets_of p)
solid-faces Vertex h = absurd (omega arith)
solid-faces Segment h = absurd (omega arith)
solid-faces Triangle h = absurd (omega arith)
solid-faces Quad h = absurd (omega arith)
solid-faces Tet h = search (rules, of-three)
solid-faces Hex h = search (rules, of-four)

-- a face that is no quadrilateral has three corners
pub triangle-face : (p : Poly) (f : ℕ) → dim_of p ≡ 3 → f < length (facets_of p) → ((facet_at p f).poly ≡ Quad → ⊥)
    → ((facet_at p f).poly ≡ Triangle) × ((length (facet_at p f).corners ≡ 3) × AllByRecursion (λ k. k < corner_count p) (facet_at p f).corners)
triangle-face p f solid within other =
    let is = all_at (IsTriangleOrQuad (corner_count p)) (facets_of p) f (record { poly = Vertex; corners = [] }) (solid-faces p solid) within in
    ⊎_elim (λ t. (t.0, (t.1, is.corners))) (λ q. absurd (other q)) is.kind

-- a solid sees the faces of its table, a polygon none
length-faces_of : (n : ℕ) (p : Poly) (vertices : List ℕ) → length (cell_faces n (record { poly = p; vertices = vertices })) ≡ (if dim_of p == 3 then length (facets_of p) else 0)
length-faces_of n Vertex vertices = omega arith
length-faces_of n Segment vertices = omega arith
length-faces_of n Triangle vertices = omega arith
length-faces_of n Quad vertices = omega arith
length-faces_of n Tet vertices = omega arith
length-faces_of n Hex vertices = omega arith

pub length-cell_faces : (c : ℕ × Cell) → length (cell_faces c.0 c.1) ≡ (if dim_of c.1.poly == 3 then length (facets_of c.1.poly) else 0)
length-cell_faces c = length-faces_of c.0 c.1.poly c.1.vertices

-- at most six faces of a cell
pub count-six : (p : Poly) → (if dim_of p == 3 then length (facets_of p) else 0) ≤ 6
count-six Vertex = omega arith
count-six Segment = omega arith
count-six Triangle = omega arith
count-six Quad = omega arith
count-six Tet = omega arith
count-six Hex = omega arith

-- and of each of some cells
pub length-faces_seen : (cells : List (ℕ × Cell)) → length (faces_seen cells) ≤ 6 * length cells
length-faces_seen [] = omega arith
length-faces_seen (c ∷ cs) =
    omega (arith, length-append (cell_faces c.0 c.1) (faces_seen cs), length-faces_seen cs, count-six c.1.poly, length-cell_faces c)
