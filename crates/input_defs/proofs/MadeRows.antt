-- Worked rows: small generated meshes.
use Rattle.std.proofs.Common.{◌≡◌, ℕ, List, [], ◌∷◌, map, ℤ, pos, refl}
use Rattle.input_defs.specs.Generated.{grid_points, grid_cells, corners_at, cells_at, made}
use Rattle.std.specs.Prelude.{length, ◌*◌, ◌^◌}
use Rattle.mesh_defs.specs.declared.Poly.{Poly}
use Rattle.mesh_defs.specs.declared.Poly.TheVariants as poly
use Rattle.mesh_defs.specs.Mesh.{Cell}
use Rattle.input_defs.specs.declared.Kind.TheVariants.{Tri, Quad, Tet, Hex}

abbrev cell : Poly → List ℕ → Cell
cell p vertices = record { poly = p; vertices = vertices }

-- coordinates in whole units
abbrev at_whole : List ℕ → List ℤ
at_whole = map (λ c. pos (c * 10 ^ 10))

triangles_of_four_squares : made Tri 2 ≡ record {
  dim = 2;
  at = map at_whole ((0 ∷ 0 ∷ 0 ∷ []) ∷ (1 ∷ 0 ∷ 0 ∷ []) ∷ (2 ∷ 0 ∷ 0 ∷ []) ∷ (0 ∷ 1 ∷ 0 ∷ []) ∷ (1 ∷ 1 ∷ 0 ∷ []) ∷ (2 ∷ 1 ∷ 0 ∷ []) ∷ (0 ∷ 2 ∷ 0 ∷ []) ∷ (1 ∷ 2 ∷ 0 ∷ []) ∷ (2 ∷ 2 ∷ 0 ∷ []) ∷ []);
  cells = map (cell poly.Triangle) ((0 ∷ 1 ∷ 4 ∷ []) ∷ (0 ∷ 4 ∷ 3 ∷ []) ∷ (1 ∷ 2 ∷ 5 ∷ []) ∷ (1 ∷ 5 ∷ 4 ∷ []) ∷ (3 ∷ 4 ∷ 7 ∷ []) ∷ (3 ∷ 7 ∷ 6 ∷ []) ∷ (4 ∷ 5 ∷ 8 ∷ []) ∷ (4 ∷ 8 ∷ 7 ∷ []) ∷ []);
  marks = [];
  names = [];
  fields = [];
  unused = 0;
  loose = 0;
  merged = 0;
}
unfolding grid_points grid_cells corners_at cells_at made
triangles_of_four_squares = refl

triangles_of_four_squares_counts : (length (made Tri 2).at ≡ 9) × (length (made Tri 2).cells ≡ 8)
unfolding grid_points grid_cells corners_at cells_at made
triangles_of_four_squares_counts = (refl, refl)

four_squares : made Quad 2 ≡ record {
  dim = 2;
  at = map at_whole ((0 ∷ 0 ∷ 0 ∷ []) ∷ (1 ∷ 0 ∷ 0 ∷ []) ∷ (2 ∷ 0 ∷ 0 ∷ []) ∷ (0 ∷ 1 ∷ 0 ∷ []) ∷ (1 ∷ 1 ∷ 0 ∷ []) ∷ (2 ∷ 1 ∷ 0 ∷ []) ∷ (0 ∷ 2 ∷ 0 ∷ []) ∷ (1 ∷ 2 ∷ 0 ∷ []) ∷ (2 ∷ 2 ∷ 0 ∷ []) ∷ []);
  cells = map (cell poly.Quad) ((0 ∷ 1 ∷ 4 ∷ 3 ∷ []) ∷ (1 ∷ 2 ∷ 5 ∷ 4 ∷ []) ∷ (3 ∷ 4 ∷ 7 ∷ 6 ∷ []) ∷ (4 ∷ 5 ∷ 8 ∷ 7 ∷ []) ∷ []);
  marks = [];
  names = [];
  fields = [];
  unused = 0;
  loose = 0;
  merged = 0;
}
unfolding grid_points grid_cells corners_at cells_at made
four_squares = refl

four_squares_counts : (length (made Quad 2).at ≡ 9) × (length (made Quad 2).cells ≡ 4)
unfolding grid_points grid_cells corners_at cells_at made
four_squares_counts = (refl, refl)

tetrahedra_of_one_cube : made Tet 1 ≡ record {
  dim = 3;
  at = map at_whole ((0 ∷ 0 ∷ 0 ∷ []) ∷ (1 ∷ 0 ∷ 0 ∷ []) ∷ (0 ∷ 1 ∷ 0 ∷ []) ∷ (1 ∷ 1 ∷ 0 ∷ []) ∷ (0 ∷ 0 ∷ 1 ∷ []) ∷ (1 ∷ 0 ∷ 1 ∷ []) ∷ (0 ∷ 1 ∷ 1 ∷ []) ∷ (1 ∷ 1 ∷ 1 ∷ []) ∷ []);
  cells = map (cell poly.Tet) ((0 ∷ 1 ∷ 3 ∷ 7 ∷ []) ∷ (0 ∷ 1 ∷ 5 ∷ 7 ∷ []) ∷ (0 ∷ 2 ∷ 3 ∷ 7 ∷ []) ∷ (0 ∷ 2 ∷ 6 ∷ 7 ∷ []) ∷ (0 ∷ 4 ∷ 5 ∷ 7 ∷ []) ∷ (0 ∷ 4 ∷ 6 ∷ 7 ∷ []) ∷ []);
  marks = [];
  names = [];
  fields = [];
  unused = 0;
  loose = 0;
  merged = 0;
}
unfolding grid_points grid_cells corners_at cells_at made
tetrahedra_of_one_cube = refl

tetrahedra_of_one_cube_counts : (length (made Tet 1).at ≡ 8) × (length (made Tet 1).cells ≡ 6)
unfolding grid_points grid_cells corners_at cells_at made
tetrahedra_of_one_cube_counts = (refl, refl)

eight_cubes : made Hex 2 ≡ record {
  dim = 3;
  at = map at_whole ((0 ∷ 0 ∷ 0 ∷ []) ∷ (1 ∷ 0 ∷ 0 ∷ []) ∷ (2 ∷ 0 ∷ 0 ∷ []) ∷ (0 ∷ 1 ∷ 0 ∷ []) ∷ (1 ∷ 1 ∷ 0 ∷ []) ∷ (2 ∷ 1 ∷ 0 ∷ []) ∷ (0 ∷ 2 ∷ 0 ∷ []) ∷ (1 ∷ 2 ∷ 0 ∷ []) ∷ (2 ∷ 2 ∷ 0 ∷ []) ∷ (0 ∷ 0 ∷ 1 ∷ []) ∷ (1 ∷ 0 ∷ 1 ∷ []) ∷ (2 ∷ 0 ∷ 1 ∷ []) ∷ (0 ∷ 1 ∷ 1 ∷ []) ∷ (1 ∷ 1 ∷ 1 ∷ []) ∷ (2 ∷ 1 ∷ 1 ∷ []) ∷ (0 ∷ 2 ∷ 1 ∷ []) ∷ (1 ∷ 2 ∷ 1 ∷ []) ∷ (2 ∷ 2 ∷ 1 ∷ []) ∷ (0 ∷ 0 ∷ 2 ∷ []) ∷ (1 ∷ 0 ∷ 2 ∷ []) ∷ (2 ∷ 0 ∷ 2 ∷ []) ∷ (0 ∷ 1 ∷ 2 ∷ []) ∷ (1 ∷ 1 ∷ 2 ∷ []) ∷ (2 ∷ 1 ∷ 2 ∷ []) ∷ (0 ∷ 2 ∷ 2 ∷ []) ∷ (1 ∷ 2 ∷ 2 ∷ []) ∷ (2 ∷ 2 ∷ 2 ∷ []) ∷ []);
  cells = map (cell poly.Hex) ((0 ∷ 1 ∷ 4 ∷ 3 ∷ 9 ∷ 10 ∷ 13 ∷ 12 ∷ []) ∷ (1 ∷ 2 ∷ 5 ∷ 4 ∷ 10 ∷ 11 ∷ 14 ∷ 13 ∷ []) ∷ (3 ∷ 4 ∷ 7 ∷ 6 ∷ 12 ∷ 13 ∷ 16 ∷ 15 ∷ []) ∷ (4 ∷ 5 ∷ 8 ∷ 7 ∷ 13 ∷ 14 ∷ 17 ∷ 16 ∷ []) ∷ (9 ∷ 10 ∷ 13 ∷ 12 ∷ 18 ∷ 19 ∷ 22 ∷ 21 ∷ []) ∷ (10 ∷ 11 ∷ 14 ∷ 13 ∷ 19 ∷ 20 ∷ 23 ∷ 22 ∷ []) ∷ (12 ∷ 13 ∷ 16 ∷ 15 ∷ 21 ∷ 22 ∷ 25 ∷ 24 ∷ []) ∷ (13 ∷ 14 ∷ 17 ∷ 16 ∷ 22 ∷ 23 ∷ 26 ∷ 25 ∷ []) ∷ []);
  marks = [];
  names = [];
  fields = [];
  unused = 0;
  loose = 0;
  merged = 0;
}
unfolding grid_points grid_cells corners_at cells_at made
eight_cubes = refl

eight_cubes_counts : (length (made Hex 2).at ≡ 27) × (length (made Hex 2).cells ≡ 8)
unfolding grid_points grid_cells corners_at cells_at made
eight_cubes_counts = (refl, refl)
