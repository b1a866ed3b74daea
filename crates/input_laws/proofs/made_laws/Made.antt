-- Every made mesh is a right mesh.
use Rattle.std.proofs.Common.{◌≡◌, ℕ, ◌+◌, ◌*◌, ◌<◌, ◌≤◌, true, ◌==◌, ℤ, List, map, length, refl, sym, ap, ◌∙◌, subst, inl, inr, arith}
use Rattle.std.specs.Prelude.{flat_map}
use Rattle.std.specs.List.{AllByRecursion, list_any}
use Rattle.std.proofs.Math.Nat.{mul-le-mul, mul-le-mul_right}
use Rattle.std.proofs.lemmas.List.{length-map}
use Rattle.plain_lists.specs.Lists.{differ_as_sets}
use Rattle.plain_lists.proofs.Each.{all_from, all_map, all_flat_map}
use Rattle.plain_lists.proofs.Filters.{flat_map_same}
use Rattle.mesh_defs.specs.Tables.{dim_of}
use Rattle.mesh_defs.specs.Mesh.{Cell}
use Rattle.mesh_defs.specs.RightMesh.{IsFlatOrSolid, IsSoundCell, UsesVertices, CellsDiffer, IsRightMesh}
use Rattle.input_defs.specs.declared.Kind.{Kind}
use Rattle.input_defs.specs.declared.Kind.TheVariants.{Tri, Quad, Tet, Hex}
use Rattle.input_defs.specs.Words.{most}
use Rattle.input_defs.specs.Generated.{GridPoint, poly_of, layers, cuts, grid, grid_points, grid_cells, cells_at, made}
use Rattle.input_laws.proofs.made_laws.Rising.{length-each, any-flat_map, map-flat_map}
use Rattle.input_laws.proofs.made_laws.Grids.{spot, length-grid, all-grid, any-grid, position_of, below-base, positions-rise}
use Rattle.input_laws.proofs.made_laws.Corners.{cells_from, reach, corner-at, cells-are, sound-cells}
use Rattle.input_laws.proofs.made_laws.Differ.{vertices_from, differ-blocks, block-differs, block-least}
use Rattle.input_laws.proofs.made_laws.Used.{has_vertex, step-to, digits, used-tri, used-quad, used-tet, used-hex}

-- ---- its lists

pub points-count : (kind : Kind) (n : ℕ) → length (made kind n).at ≡ layers kind (n + 1) * ((n + 1) * (n + 1))
unfolding made grid_points
points-count kind n = length-map (grid (n + 1) (n + 1) (layers kind (n + 1))) _ ∙ length-grid (n + 1) (n + 1) (layers kind (n + 1))

-- the cells from a position on, in a grid of n squares or cubes each way
abbrev cells_of : Kind → ℕ → GridPoint → List Cell
cells_of kind n p = cells_from kind (position_of (n + 1) p) (n + 1) ((n + 1) * (n + 1))

cells-listed : (kind : Kind) (n : ℕ) → (made kind n).cells ≡ flat_map (cells_of kind n) (grid n n (layers kind n))
unfolding made grid_cells
cells-listed kind n = flat_map_same (cells_at kind n) (cells_of kind n) (grid n n (layers kind n)) (all_from _ (cells-are kind n) (grid n n (layers kind n)))

-- ---- sound cells

-- the last corner of a square, and that of a cube, are points of the grid
flat-reach : (w x y z : ℕ) → x + 1 < w → y + 1 < w → z < 1 → (x + w * (y + w * z)) + (1 + w) < 1 * (w * w)
flat-reach w x y z low-x low-y low-z =
    let e = corner-at w x y z 1 1 0 in
    let low = below-base w (x + 1) ((y + 1) + w * (z + 0)) (w * 1) low-x (below-base w (y + 1) (z + 0) 1 low-y (omega arith)) in
    let same : w * (w * 1) ≡ 1 * (w * w) = grind arith in
    omega arith

solid-reach : (w x y z : ℕ) → x + 1 < w → y + 1 < w → z + 1 < w → (x + w * (y + w * z)) + (1 + w + w * w) < w * (w * w)
solid-reach w x y z low-x low-y low-z =
    let e = corner-at w x y z 1 1 1 in
    let low = below-base w (x + 1) ((y + 1) + w * (z + 1)) (w * w) low-x (below-base w (y + 1) (z + 1) w low-y low-z) in
    omega arith

reaches : (kind : Kind) (n x y z : ℕ) → x < n → y < n → z < layers kind n → position_of (n + 1) (spot x y z) + reach kind (n + 1) ((n + 1) * (n + 1)) < layers kind (n + 1) * ((n + 1) * (n + 1))
reaches Tri n x y z low-x low-y low-z = flat-reach (n + 1) x y z (omega arith) (omega arith) low-z
reaches Quad n x y z low-x low-y low-z = flat-reach (n + 1) x y z (omega arith) (omega arith) low-z
reaches Tet n x y z low-x low-y low-z = solid-reach (n + 1) x y z (omega arith) (omega arith) (omega arith)
reaches Hex n x y z low-x low-y low-z = solid-reach (n + 1) x y z (omega arith) (omega arith) (omega arith)

-- a layer is at least two rows
deep : (n : ℕ) → 1 ≤ n → 2 * (n + 1) ≤ (n + 1) * (n + 1)
deep n some = mul-le-mul_right (n + 1) (omega arith)

dim-made : (kind : Kind) (n : ℕ) → dim_of (poly_of kind) ≡ (made kind n).dim
unfolding made
dim-made kind n = refl

sound-made : (kind : Kind) (n : ℕ) → 1 ≤ n → AllByRecursion (IsSoundCell (made kind n)) (made kind n).cells
sound-made kind n some =
    subst (AllByRecursion (IsSoundCell (made kind n))) (sym (cells-listed kind n))
    (all_flat_map (IsSoundCell (made kind n)) (cells_of kind n) (grid n n (layers kind n))
    (all-grid (λ p. AllByRecursion (IsSoundCell (made kind n)) (cells_of kind n p)) n n (layers kind n)
    (λ x y z low-x low-y low-z. sound-cells kind (made kind n) (position_of (n + 1) (spot x y z)) (n + 1) ((n + 1) * (n + 1)) (dim-made kind n) (omega arith) (deep n some)
    (subst (λ k. position_of (n + 1) (spot x y z) + reach kind (n + 1) ((n + 1) * (n + 1)) < k) (sym (points-count kind n)) (reaches kind n x y z low-x low-y low-z)))))

-- ---- vertices in use

used-spot : (kind : Kind) (n x y z : ℕ) → 1 ≤ n → x < n + 1 → y < n + 1 → z < layers kind (n + 1) → list_any (λ p. has_vertex (cells_of kind n p) (x + (n + 1) * (y + (n + 1) * z))) (grid n n (layers kind n)) ≡ true
used-spot Tri n x y z some low-x low-y low-z =
    let sx = step-to n x some low-x in let sy = step-to n y some low-y in
    any-grid (λ p. has_vertex (cells_of Tri n p) (x + (n + 1) * (y + (n + 1) * z))) n n 1 sx.0 sy.0 z sx.1.0 sy.1.0 low-z (used-tri (n + 1) sx.0 sy.0 z x y z sx.1.1 sy.1.1 (omega arith))
used-spot Quad n x y z some low-x low-y low-z =
    let sx = step-to n x some low-x in let sy = step-to n y some low-y in
    any-grid (λ p. has_vertex (cells_of Quad n p) (x + (n + 1) * (y + (n + 1) * z))) n n 1 sx.0 sy.0 z sx.1.0 sy.1.0 low-z (used-quad (n + 1) sx.0 sy.0 z x y z sx.1.1 sy.1.1 (omega arith))
used-spot Tet n x y z some low-x low-y low-z =
    let sx = step-to n x some low-x in let sy = step-to n y some low-y in let sz = step-to n z some low-z in
    any-grid (λ p. has_vertex (cells_of Tet n p) (x + (n + 1) * (y + (n + 1) * z))) n n n sx.0 sy.0 sz.0 sx.1.0 sy.1.0 sz.1.0 (used-tet (n + 1) sx.0 sy.0 sz.0 x y z sx.1.1 sy.1.1 sz.1.1)
used-spot Hex n x y z some low-x low-y low-z =
    let sx = step-to n x some low-x in let sy = step-to n y some low-y in let sz = step-to n z some low-z in
    any-grid (λ p. has_vertex (cells_of Hex n p) (x + (n + 1) * (y + (n + 1) * z))) n n n sx.0 sy.0 sz.0 sx.1.0 sy.1.0 sz.1.0 (used-hex (n + 1) sx.0 sy.0 sz.0 x y z sx.1.1 sy.1.1 sz.1.1)

used-made : (kind : Kind) (n : ℕ) → 1 ≤ n → UsesVertices (made kind n)
used-made kind n some v low =
    let same : layers kind (n + 1) * ((n + 1) * (n + 1)) ≡ (n + 1) * ((n + 1) * layers kind (n + 1)) = grind arith in
    let count = points-count kind n in
    let d = digits (n + 1) (layers kind (n + 1)) v (omega arith) (omega (arith, low, count, same)) in
    let whole = subst (λ k. list_any (λ p. has_vertex (cells_of kind n p) k) (grid n n (layers kind n)) ≡ true) d.whole (used-spot kind n d.x d.y d.z some d.low_x d.low_y d.low_z) in
    subst (λ (cells : List Cell). has_vertex cells v ≡ true) (sym (cells-listed kind n)) (any-flat_map (λ (cell : Cell). list_any (λ w. w == v) cell.vertices) (cells_of kind n) (grid n n (layers kind n)) ∙ whole)

-- ---- different cells

differ-made : (kind : Kind) (n : ℕ) → 1 ≤ n → CellsDiffer (made kind n)
differ-made kind n some =
    ap (λ (cells : List Cell). differ_as_sets (map (λ (cell : Cell). cell.vertices) cells)) (cells-listed kind n)
    ∙ ap differ_as_sets (map-flat_map (λ (cell : Cell). cell.vertices) (cells_of kind n) (grid n n (layers kind n)))
    ∙ differ-blocks (position_of (n + 1)) (λ p. vertices_from kind (position_of (n + 1) p) (n + 1) ((n + 1) * (n + 1))) 0 ((n + 1) * ((n + 1) * layers kind n)) (grid n n (layers kind n))
    (positions-rise (n + 1) n (layers kind n) (omega arith))
    (all_from _ (λ p. (block-differs kind (position_of (n + 1) p) (n + 1) ((n + 1) * (n + 1)) (omega arith) (deep n some), block-least kind (position_of (n + 1) p) (n + 1) ((n + 1) * (n + 1)))) (grid n n (layers kind n)))

-- ---- how many

pub cells-count : (kind : Kind) (n : ℕ) → length (made kind n).cells ≡ layers kind n * (n * n) * length (cuts kind)
cells-count kind n =
    ap length (cells-listed kind n) ∙ length-each (cells_of kind n) (length (cuts kind)) (λ p. length-map (cuts kind) _) (grid n n (layers kind n))
    ∙ ap (λ k. k * length (cuts kind)) (length-grid n n (layers kind n))

some-cell : (kind : Kind) (n : ℕ) → 1 ≤ n → 1 ≤ layers kind n * (n * n) * length (cuts kind)
some-cell Tri n some = let square : 1 * 1 ≤ n * n = mul-le-mul some some in omega arith
some-cell Quad n some = let square : 1 * 1 ≤ n * n = mul-le-mul some some in omega arith
some-cell Tet n some = let cube : 1 * (1 * 1) ≤ n * (n * n) = mul-le-mul some (mul-le-mul some some) in omega arith
some-cell Hex n some = let cube : 1 * (1 * 1) ≤ n * (n * n) = mul-le-mul some (mul-le-mul some some) in omega arith

pub few-cells : (kind : Kind) (n : ℕ) → n ≤ most kind → layers kind n * (n * n) * length (cuts kind) ≤ 250000
few-cells Tri n few = let square : n * n ≤ 353 * 353 = mul-le-mul few few in omega arith
few-cells Quad n few = let square : n * n ≤ 500 * 500 = mul-le-mul few few in omega arith
few-cells Tet n few = let cube : n * (n * n) ≤ 34 * (34 * 34) = mul-le-mul few (mul-le-mul few few) in omega arith
few-cells Hex n few = let cube : n * (n * n) ≤ 62 * (62 * 62) = mul-le-mul few (mul-le-mul few few) in omega arith

-- ---- the whole

flat-or-solid : (kind : Kind) (n : ℕ) → IsFlatOrSolid (made kind n)
unfolding made
flat-or-solid Tri n = inl refl
flat-or-solid Quad n = inl refl
flat-or-solid Tet n = inr refl
flat-or-solid Hex n = inr refl

three-each : (kind : Kind) (n : ℕ) → AllByRecursion (λ (at : List ℤ). length at ≡ 3) (made kind n).at
unfolding made
three-each kind n = all_map (λ (at : List ℤ). length at ≡ 3) _ (grid_points kind n) (all_from _ (λ p. refl) (grid_points kind n))

pub right-made : (kind : Kind) (n : ℕ) → 1 ≤ n → n ≤ most kind → IsRightMesh (made kind n)
unfolding made
right-made kind n some few = record {
  sound = record { dim = flat-or-solid kind n; cells = sound-made kind n some; used = used-made kind n some };
  some_cell = subst (λ k. 1 ≤ k) (sym (cells-count kind n)) (some-cell kind n some);
  few_cells = subst (λ k. k ≤ 250000) (sym (cells-count kind n)) (few-cells kind n few);
  differ = differ-made kind n some;
  three_coordinates = three-each kind n;
  fields = tt;
  marks = tt;
}
