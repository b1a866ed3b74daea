-- The cells of one spot: their corners from the spot's position on, and that they are sound.
use Rattle.std.proofs.Common.{◌≡◌, ℕ, ◌+◌, ◌*◌, ◌<◌, ◌≤◌, List, [], ◌∷◌, map, length, refl, ap, ◌∙◌, arith}
use Rattle.std.specs.List.{AllByRecursion}
use Rattle.plain_lists.specs.Lists.{picked}
use Rattle.mesh_defs.specs.declared.Poly.{Poly}
use Rattle.mesh_defs.specs.declared.Poly.TheVariants as poly
use Rattle.mesh_defs.specs.Tables.{dim_of, corner_count}
use Rattle.mesh_defs.specs.Mesh.{Mesh, Cell}
use Rattle.mesh_defs.specs.RightMesh.{IsSoundCell}
use Rattle.input_defs.specs.declared.Kind.{Kind}
use Rattle.input_defs.specs.declared.Kind.TheVariants.{Tri, Quad, Tet, Hex}
use Rattle.input_defs.specs.Generated.{GridPoint, poly_of, cuts, vertex_at, corners_at, cells_at}
use Rattle.input_laws.proofs.made_laws.Rising.{Apart, apart-at, less-apart, more-apart}
use Rattle.input_laws.proofs.made_laws.Grids.{position_of}

-- the corners of a cube from position b on, where rows are w long and layers s
abbrev pub corners_from : ℕ → ℕ → ℕ → List ℕ
corners_from b w s = b ∷ (b + 1) ∷ (b + 1 + w) ∷ (b + w) ∷ (b + s) ∷ (b + 1 + s) ∷ (b + 1 + w + s) ∷ (b + w + s) ∷ []

-- the cells of a square or cube from position b on
abbrev pub cells_from : Kind → ℕ → ℕ → ℕ → List Cell
cells_from kind b w s = map (λ cut. record { poly = poly_of kind; vertices = picked (corners_from b w s) cut }) (cuts kind)

-- the last corner in use, from position b on
abbrev pub reach : Kind → ℕ → ℕ → ℕ
reach Tri w s = 1 + w
reach Quad w s = 1 + w
reach Tet w s = 1 + w + s
reach Hex w s = 1 + w + s

-- the position some steps away from a spot
pub corner-at : (w x y z dx dy dz : ℕ) → (x + dx) + w * ((y + dy) + w * (z + dz)) ≡ (x + w * (y + w * z)) + dx + w * dy + w * w * dz
corner-at w x y z dx dy dz = grind arith

corners-are : (n : ℕ) (p : GridPoint) → corners_at n p ≡ corners_from (position_of (n + 1) p) (n + 1) ((n + 1) * (n + 1))
unfolding corners_at
corners-are n p = λ i. at 0 0 0 (position_of (n + 1) p) (omega arith) i ∷ at 1 0 0 (position_of (n + 1) p + 1) (omega arith) i
    ∷ at 1 1 0 (position_of (n + 1) p + 1 + (n + 1)) (omega arith) i ∷ at 0 1 0 (position_of (n + 1) p + (n + 1)) (omega arith) i
    ∷ at 0 0 1 (position_of (n + 1) p + (n + 1) * (n + 1)) (omega arith) i ∷ at 1 0 1 (position_of (n + 1) p + 1 + (n + 1) * (n + 1)) (omega arith) i
    ∷ at 1 1 1 (position_of (n + 1) p + 1 + (n + 1) + (n + 1) * (n + 1)) (omega arith) i ∷ at 0 1 1 (position_of (n + 1) p + (n + 1) + (n + 1) * (n + 1)) (omega arith) i ∷ []
  where
    at : (dx dy dz v : ℕ) → position_of (n + 1) p + dx + (n + 1) * dy + (n + 1) * (n + 1) * dz ≡ v → vertex_at n p dx dy dz ≡ v
    at dx dy dz v h = corner-at (n + 1) p.x p.y p.z dx dy dz ∙ h

pub cells-are : (kind : Kind) (n : ℕ) (p : GridPoint) → cells_at kind n p ≡ cells_from kind (position_of (n + 1) p) (n + 1) ((n + 1) * (n + 1))
unfolding cells_at
cells-are kind n p = ap (λ (corners : List ℕ). map (λ cut. record { poly = poly_of kind; vertices = picked corners cut }) (cuts kind)) (corners-are n p)

-- ---- sound cells

sound : (m : Mesh) (p : Poly) (vs : List ℕ) → dim_of p ≡ m.dim → length vs ≡ corner_count p → AllByRecursion (λ v. v < length m.at) vs → Apart vs → IsSoundCell m (record { poly = p; vertices = vs })
sound m p vs dim corners low apart = record { dim = dim; corners = corners; in_range = low; different = apart-at vs apart }

-- the cells of a spot are sound, where rows and layers have room and the last corner is there
pub sound-cells : (kind : Kind) (m : Mesh) (b w s : ℕ) → dim_of (poly_of kind) ≡ m.dim → 2 ≤ w → 2 * w ≤ s → b + reach kind w s < length m.at → AllByRecursion (IsSoundCell m) (cells_from kind b w s)
sound-cells Tri m b w s dim wide deep top =
    (sound m poly.Triangle (b ∷ (b + 1) ∷ (b + 1 + w) ∷ []) dim refl (omega arith, (omega arith, (omega arith, tt))) ((less-apart _ _ (omega arith), (less-apart _ _ (omega arith), tt)), ((less-apart _ _ (omega arith), tt), (tt, tt))), (sound m poly.Triangle (b ∷ (b + 1 + w) ∷ (b + w) ∷ []) dim refl (omega arith, (omega arith, (omega arith, tt))) ((less-apart _ _ (omega arith), (less-apart _ _ (omega arith), tt)), ((more-apart _ _ (omega arith), tt), (tt, tt))), tt))
sound-cells Quad m b w s dim wide deep top =
    (sound m poly.Quad (b ∷ (b + 1) ∷ (b + 1 + w) ∷ (b + w) ∷ []) dim refl (omega arith, (omega arith, (omega arith, (omega arith, tt)))) ((less-apart _ _ (omega arith), (less-apart _ _ (omega arith), (less-apart _ _ (omega arith), tt))), ((less-apart _ _ (omega arith), (less-apart _ _ (omega arith), tt)), ((more-apart _ _ (omega arith), tt), (tt, tt)))), tt)
sound-cells Tet m b w s dim wide deep top =
    (sound m poly.Tet (b ∷ (b + 1) ∷ (b + 1 + w) ∷ (b + 1 + w + s) ∷ []) dim refl (omega arith, (omega arith, (omega arith, (omega arith, tt)))) ((less-apart _ _ (omega arith), (less-apart _ _ (omega arith), (less-apart _ _ (omega arith), tt))), ((less-apart _ _ (omega arith), (less-apart _ _ (omega arith), tt)), ((less-apart _ _ (omega arith), tt), (tt, tt)))), (sound m poly.Tet (b ∷ (b + 1) ∷ (b + 1 + s) ∷ (b + 1 + w + s) ∷ []) dim refl (omega arith, (omega arith, (omega arith, (omega arith, tt)))) ((less-apart _ _ (omega arith), (less-apart _ _ (omega arith), (less-apart _ _ (omega arith), tt))), ((less-apart _ _ (omega arith), (less-apart _ _ (omega arith), tt)), ((less-apart _ _ (omega arith), tt), (tt, tt)))), (sound m poly.Tet (b ∷ (b + w) ∷ (b + 1 + w) ∷ (b + 1 + w + s) ∷ []) dim refl (omega arith, (omega arith, (omega arith, (omega arith, tt)))) ((less-apart _ _ (omega arith), (less-apart _ _ (omega arith), (less-apart _ _ (omega arith), tt))), ((less-apart _ _ (omega arith), (less-apart _ _ (omega arith), tt)), ((less-apart _ _ (omega arith), tt), (tt, tt)))), (sound m poly.Tet (b ∷ (b + w) ∷ (b + w + s) ∷ (b + 1 + w + s) ∷ []) dim refl (omega arith, (omega arith, (omega arith, (omega arith, tt)))) ((less-apart _ _ (omega arith), (less-apart _ _ (omega arith), (less-apart _ _ (omega arith), tt))), ((less-apart _ _ (omega arith), (less-apart _ _ (omega arith), tt)), ((less-apart _ _ (omega arith), tt), (tt, tt)))), (sound m poly.Tet (b ∷ (b + s) ∷ (b + 1 + s) ∷ (b + 1 + w + s) ∷ []) dim refl (omega arith, (omega arith, (omega arith, (omega arith, tt)))) ((less-apart _ _ (omega arith), (less-apart _ _ (omega arith), (less-apart _ _ (omega arith), tt))), ((less-apart _ _ (omega arith), (less-apart _ _ (omega arith), tt)), ((less-apart _ _ (omega arith), tt), (tt, tt)))), (sound m poly.Tet (b ∷ (b + s) ∷ (b + w + s) ∷ (b + 1 + w + s) ∷ []) dim refl (omega arith, (omega arith, (omega arith, (omega arith, tt)))) ((less-apart _ _ (omega arith), (less-apart _ _ (omega arith), (less-apart _ _ (omega arith), tt))), ((less-apart _ _ (omega arith), (less-apart _ _ (omega arith), tt)), ((less-apart _ _ (omega arith), tt), (tt, tt)))), tt))))))
sound-cells Hex m b w s dim wide deep top =
    (sound m poly.Hex (b ∷ (b + 1) ∷ (b + 1 + w) ∷ (b + w) ∷ (b + s) ∷ (b + 1 + s) ∷ (b + 1 + w + s) ∷ (b + w + s) ∷ []) dim refl (omega arith, (omega arith, (omega arith, (omega arith, (omega arith, (omega arith, (omega arith, (omega arith, tt)))))))) ((less-apart _ _ (omega arith), (less-apart _ _ (omega arith), (less-apart _ _ (omega arith), (less-apart _ _ (omega arith), (less-apart _ _ (omega arith), (less-apart _ _ (omega arith), (less-apart _ _ (omega arith), tt))))))), ((less-apart _ _ (omega arith), (less-apart _ _ (omega arith), (less-apart _ _ (omega arith), (less-apart _ _ (omega arith), (less-apart _ _ (omega arith), (less-apart _ _ (omega arith), tt)))))), ((more-apart _ _ (omega arith), (less-apart _ _ (omega arith), (less-apart _ _ (omega arith), (less-apart _ _ (omega arith), (less-apart _ _ (omega arith), tt))))), ((less-apart _ _ (omega arith), (less-apart _ _ (omega arith), (less-apart _ _ (omega arith), (less-apart _ _ (omega arith), tt)))), ((less-apart _ _ (omega arith), (less-apart _ _ (omega arith), (less-apart _ _ (omega arith), tt))), ((less-apart _ _ (omega arith), (less-apart _ _ (omega arith), tt)), ((more-apart _ _ (omega arith), tt), (tt, tt)))))))), tt)
