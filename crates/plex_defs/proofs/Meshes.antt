-- The meshes of the worked rows.
use Rattle.std.proofs.Common.{ℕ, ◌^◌, ◌+◌, List, [], ◌∷◌, map, ℤ, pos, replicate, get_or}
use Rattle.mesh_defs.specs.declared.Poly.{Poly}
use Rattle.mesh_defs.specs.declared.Poly.TheVariants.{Triangle, Quad, Tet, Hex}
use Rattle.plain_lists.specs.Lists.{below}
use Rattle.mesh_defs.specs.Mesh.{Mesh}

-- a mesh without marks and data, its vertices all at one place
abbrev pub bare : ℕ → ℕ → Poly → List (List ℕ) → Mesh
bare dim vertices poly cells = record {
  dim = dim;
  at = replicate vertices (pos 0 ∷ pos 0 ∷ pos 0 ∷ []);
  cells = map (λ c. record { poly = poly; vertices = c }) cells;
  marks = [];
  names = [];
  fields = [];
  unused = 0;
  loose = 0;
  merged = 0;
}

-- the length 1, in units of 10^-10
abbrev pub unit : ℤ
unit = pos (10 ^ 10)

-- the corners of a square, its diagonal between the corners 1 and 2
abbrev pub two_triangles_at : ℕ → List ℤ
two_triangles_at v = get_or ((pos 0 ∷ pos 0 ∷ pos 0 ∷ []) ∷ (unit ∷ pos 0 ∷ pos 0 ∷ []) ∷ (pos 0 ∷ unit ∷ pos 0 ∷ []) ∷ (unit ∷ unit ∷ pos 0 ∷ []) ∷ []) v []

-- two triangles that share an edge
abbrev pub two_triangles : Mesh
two_triangles = record (bare 2 4 Triangle ((0 ∷ 1 ∷ 2 ∷ []) ∷ (1 ∷ 3 ∷ 2 ∷ []) ∷ [])) { at = map two_triangles_at (below 4) }

-- two tetrahedra that share a face
abbrev pub two_tetrahedra : Mesh
two_tetrahedra = bare 3 5 Tet ((0 ∷ 1 ∷ 2 ∷ 3 ∷ []) ∷ (1 ∷ 2 ∷ 3 ∷ 4 ∷ []) ∷ [])

-- two hexahedra that share a face, which the second one lists from another corner
abbrev pub two_hexahedra : Mesh
two_hexahedra = bare 3 12 Hex ((0 ∷ 1 ∷ 2 ∷ 3 ∷ 4 ∷ 5 ∷ 6 ∷ 7 ∷ []) ∷ (5 ∷ 6 ∷ 7 ∷ 4 ∷ 8 ∷ 9 ∷ 10 ∷ 11 ∷ []) ∷ [])

-- two hexahedra that see their shared face with two corners swapped
abbrev pub twisted_hexahedra : Mesh
twisted_hexahedra = bare 3 12 Hex ((0 ∷ 1 ∷ 2 ∷ 3 ∷ 4 ∷ 5 ∷ 6 ∷ 7 ∷ []) ∷ (4 ∷ 6 ∷ 5 ∷ 7 ∷ 8 ∷ 9 ∷ 10 ∷ 11 ∷ []) ∷ [])

-- three triangles: the first one shares an edge with each of the others
abbrev pub three_triangles : Mesh
three_triangles = bare 2 5 Triangle ((0 ∷ 1 ∷ 2 ∷ []) ∷ (0 ∷ 2 ∷ 3 ∷ []) ∷ (2 ∷ 1 ∷ 4 ∷ []) ∷ [])

-- four triangles around the vertex 0
abbrev pub around_a_vertex : Mesh
around_a_vertex = bare 2 5 Triangle ((0 ∷ 1 ∷ 2 ∷ []) ∷ (0 ∷ 2 ∷ 3 ∷ []) ∷ (0 ∷ 3 ∷ 4 ∷ []) ∷ (0 ∷ 4 ∷ 1 ∷ []) ∷ [])

-- a strip of eight squares
abbrev pub strip : Mesh
strip = bare 2 18 Quad (map (λ i. i ∷ (i + 1) ∷ (i + 10) ∷ (i + 9) ∷ []) (below 8))
