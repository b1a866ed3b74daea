-- Generated meshes: grids of squares and cubes, whole or cut into triangles and tetrahedra.
use Rattle.std.specs.Prelude.{ℕ, ◌+◌, ◌*◌, ◌^◌, ◌==◌, if◌then◌else◌, List, [], ◌∷◌, map, flat_map, pos}
use Rattle.mesh_defs.specs.declared.Poly.{Poly}
use Rattle.mesh_defs.specs.declared.Poly.TheVariants as poly
use Rattle.mesh_defs.specs.Tables.{dim_of}
use Rattle.plain_lists.specs.Lists.{below, picked}
use Rattle.mesh_defs.specs.Mesh.{Mesh, Cell}
use Rattle.input_defs.specs.declared.Kind.{Kind}
use Rattle.input_defs.specs.declared.Kind.TheVariants.{Tri, Quad, Tet, Hex}

abbrev pub poly_of : Kind → Poly
poly_of Tri = poly.Triangle
poly_of Quad = poly.Quad
poly_of Tet = poly.Tet
poly_of Hex = poly.Hex

-- in 2D there is one layer of points, and one of squares
abbrev pub layers : Kind → ℕ → ℕ
layers kind n = if dim_of (poly_of kind) == 3 then n else 1

-- a point of the grid, or the square or cube at it
pub record GridPoint : Type 0 where
  pub x : ℕ
  pub y : ℕ
  pub z : ℕ

-- the spots of a grid, x fastest, then y, then z
abbrev pub grid : ℕ → ℕ → ℕ → List GridPoint
grid nx ny nz = flat_map (λ z. flat_map (λ y. map (λ x. record { x = x; y = y; z = z }) (below nx)) (below ny)) (below nz)

-- the grid points of n squares or cubes each way, with whole coordinates
unfoldable pub grid_points : Kind → ℕ → List GridPoint
grid_points kind n = grid (n + 1) (n + 1) (layers kind (n + 1))

-- the squares or cubes
unfoldable pub grid_cells : Kind → ℕ → List GridPoint
grid_cells kind n = grid n n (layers kind n)

-- the position of the grid point this far from a spot
abbrev pub vertex_at : ℕ → GridPoint → ℕ → ℕ → ℕ → ℕ
vertex_at n p dx dy dz = (p.x + dx) + (n + 1) * ((p.y + dy) + (n + 1) * (p.z + dz))

-- the corners of a cube in the order of the hexahedron's; the first four are those of a square
unfoldable pub corners_at : ℕ → GridPoint → List ℕ
corners_at n p = vertex_at n p 0 0 0 ∷ vertex_at n p 1 0 0 ∷ vertex_at n p 1 1 0 ∷ vertex_at n p 0 1 0
    ∷ vertex_at n p 0 0 1 ∷ vertex_at n p 1 0 1 ∷ vertex_at n p 1 1 1 ∷ vertex_at n p 0 1 1 ∷ []

-- the cells of a square or cube, by its corners
abbrev pub cuts : Kind → List (List ℕ)
cuts Tri = (0 ∷ 1 ∷ 2 ∷ []) ∷ (0 ∷ 2 ∷ 3 ∷ []) ∷ []
cuts Quad = (0 ∷ 1 ∷ 2 ∷ 3 ∷ []) ∷ []
cuts Tet = (0 ∷ 1 ∷ 2 ∷ 6 ∷ []) ∷ (0 ∷ 1 ∷ 5 ∷ 6 ∷ []) ∷ (0 ∷ 3 ∷ 2 ∷ 6 ∷ []) ∷ (0 ∷ 3 ∷ 7 ∷ 6 ∷ []) ∷ (0 ∷ 4 ∷ 5 ∷ 6 ∷ []) ∷ (0 ∷ 4 ∷ 7 ∷ 6 ∷ []) ∷ []
cuts Hex = (0 ∷ 1 ∷ 2 ∷ 3 ∷ 4 ∷ 5 ∷ 6 ∷ 7 ∷ []) ∷ []

unfoldable pub cells_at : Kind → ℕ → GridPoint → List Cell
cells_at kind n p = map (λ cut. record { poly = poly_of kind; vertices = picked (corners_at n p) cut }) (cuts kind)

-- the generated mesh of a kind with n squares or cubes each way; it has no marks, names or data
unfoldable pub made : Kind → ℕ → Mesh
made kind n = record {
  dim = dim_of (poly_of kind);
  at = map (λ (p : GridPoint). map (λ c. pos (c * 10 ^ 10)) (p.x ∷ p.y ∷ p.z ∷ [])) (grid_points kind n);
  cells = flat_map (cells_at kind n) (grid_cells kind n);
  marks = [];
  names = [];
  fields = [];
  unused = 0;
  loose = 0;
  merged = 0;
}
