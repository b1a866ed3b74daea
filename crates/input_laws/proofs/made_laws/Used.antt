-- Each grid point is a corner of a cell.
use Rattle.std.proofs.Common.{◌≡◌, ℕ, ◌+◌, ◌-◌, ◌*◌, ◌/◌, ◌%◌, ◌<◌, ◌≤◌, Bool, true, ◌==◌, List, [], length, get_or, sym, ap, ◌∙◌, inl, inr, ◌⊎◌, ⊎_elim, lit<, arith}
use Rattle.std.specs.List.{list_any}
use Rattle.std.proofs.lemmas.Bool.{cases_lt, eq-eqb}
use Rattle.std.proofs.Math.Nat.{lt_of_mul-lt-mul_left}
use Rattle.mesh_defs.specs.declared.Poly.TheVariants.{Vertex}
use Rattle.mesh_defs.specs.Mesh.{Cell}
use Rattle.input_defs.specs.declared.Kind.TheVariants.{Tri, Quad, Tet, Hex}
use Rattle.input_laws.proofs.made_laws.Rising.{any-at}
use Rattle.input_laws.proofs.made_laws.Corners.{cells_from, corner-at}

-- a cell of these has the vertex
abbrev pub has_vertex : List Cell → ℕ → Bool
has_vertex cells v = list_any (λ (cell : Cell). list_any (λ w. w == v) cell.vertices) cells

abbrev cell_of : List Cell → ℕ → Cell
cell_of cells i = get_or cells i (record { poly = Vertex; vertices = [] })

at-corner : (cells : List Cell) (i j v : ℕ) → i < length cells → j < length (cell_of cells i).vertices → get_or (cell_of cells i).vertices j 0 ≡ v → has_vertex cells v ≡ true
at-corner cells i j v low-i low-j h =
    any-at (λ (cell : Cell). list_any (λ w. w == v) cell.vertices) cells i (record { poly = Vertex; vertices = [] }) low-i
    (any-at (λ w. w == v) (cell_of cells i).vertices j 0 low-j (eq-eqb (get_or (cell_of cells i).vertices j 0) v h))

-- ---- digits

-- a coordinate is that of a square's start or of its end
abbrev pub Step : ℕ → ℕ → Type 0
Step a x = (a + 0 ≡ x) ⊎ (a + 1 ≡ x)

pub step-to : (n x : ℕ) → 1 ≤ n → x < n + 1 → (a : ℕ) × ((a < n) × Step a x)
step-to n x some low = ⊎_elim (λ less. (x, (less, inl (omega arith)))) (λ more. (n - 1, (omega arith, inr (omega arith)))) (cases_lt x n)

pub record Digits (w top v : ℕ) : Type 0 where
  pub x : ℕ
  pub y : ℕ
  pub z : ℕ
  pub low_x : x < w
  pub low_y : y < w
  pub low_z : z < top
  pub whole : x + w * (y + w * z) ≡ v

-- each position is that of a grid point
pub digits : (w top v : ℕ) → 0 < w → v < w * (w * top) → Digits w top v
digits w top v some low =
    let u : ℕ = v / w in
    let first : w * (v / w) + v % w ≡ v = omega arith in
    let second : w * (v / w / w) + v / w % w ≡ v / w = omega arith in
    let inner : w * (v / w) < w * (w * top) = omega arith in
    let mid : v / w < w * top = lt_of_mul-lt-mul_left w inner in
    let inner-2 : w * (v / w / w) < w * top = omega arith in
    record {
      x = v % w;
      y = v / w % w;
      z = v / w / w;
      low_x = omega arith;
      low_y = omega arith;
      low_z = lt_of_mul-lt-mul_left w inner-2;
      whole = ap (λ k. v % w + w * k) (let e : v / w % w + w * (v / w / w) ≡ v / w = omega arith in e) ∙ omega arith;
    }

-- ---- corners

-- the position of a corner of the square or cube at a spot
meets : (w a c d x y z dx dy dz : ℕ) → a + dx ≡ x → c + dy ≡ y → d + dz ≡ z → (a + w * (c + w * d)) + dx + w * dy + w * w * dz ≡ x + w * (y + w * z)
meets w a c d x y z dx dy dz ex ey ez = sym (corner-at w a c d dx dy dz) ∙ (λ i. ex i + w * (ey i + w * ez i))

pub used-tri : (w a c d x y z : ℕ) → Step a x → Step c y → d + 0 ≡ z → has_vertex (cells_from Tri (a + w * (c + w * d)) w (w * w)) (x + w * (y + w * z)) ≡ true
used-tri w a c d x y z sx sy ez =
    let cells : List Cell = cells_from Tri (a + w * (c + w * d)) w (w * w) in
    let v : ℕ = x + w * (y + w * z) in
    ⊎_elim (λ ex. ⊎_elim (λ ey. at-corner cells 0 0 v (lit< tt) (lit< tt) (let e = meets w a c d x y z 0 0 0 ex ey ez in omega (arith, e))) (λ ey. at-corner cells 1 2 v (lit< tt) (lit< tt) (let e = meets w a c d x y z 0 1 0 ex ey ez in omega (arith, e))) sy) (λ ex. ⊎_elim (λ ey. at-corner cells 0 1 v (lit< tt) (lit< tt) (let e = meets w a c d x y z 1 0 0 ex ey ez in omega (arith, e))) (λ ey. at-corner cells 0 2 v (lit< tt) (lit< tt) (let e = meets w a c d x y z 1 1 0 ex ey ez in omega (arith, e))) sy) sx

pub used-quad : (w a c d x y z : ℕ) → Step a x → Step c y → d + 0 ≡ z → has_vertex (cells_from Quad (a + w * (c + w * d)) w (w * w)) (x + w * (y + w * z)) ≡ true
used-quad w a c d x y z sx sy ez =
    let cells : List Cell = cells_from Quad (a + w * (c + w * d)) w (w * w) in
    let v : ℕ = x + w * (y + w * z) in
    ⊎_elim (λ ex. ⊎_elim (λ ey. at-corner cells 0 0 v (lit< tt) (lit< tt) (let e = meets w a c d x y z 0 0 0 ex ey ez in omega (arith, e))) (λ ey. at-corner cells 0 3 v (lit< tt) (lit< tt) (let e = meets w a c d x y z 0 1 0 ex ey ez in omega (arith, e))) sy) (λ ex. ⊎_elim (λ ey. at-corner cells 0 1 v (lit< tt) (lit< tt) (let e = meets w a c d x y z 1 0 0 ex ey ez in omega (arith, e))) (λ ey. at-corner cells 0 2 v (lit< tt) (lit< tt) (let e = meets w a c d x y z 1 1 0 ex ey ez in omega (arith, e))) sy) sx

pub used-tet : (w a c d x y z : ℕ) → Step a x → Step c y → Step d z → has_vertex (cells_from Tet (a + w * (c + w * d)) w (w * w)) (x + w * (y + w * z)) ≡ true
used-tet w a c d x y z sx sy sz =
    let cells : List Cell = cells_from Tet (a + w * (c + w * d)) w (w * w) in
    let v : ℕ = x + w * (y + w * z) in
    ⊎_elim (λ ez. ⊎_elim (λ ex. ⊎_elim (λ ey. at-corner cells 0 0 v (lit< tt) (lit< tt) (let e = meets w a c d x y z 0 0 0 ex ey ez in omega (arith, e))) (λ ey. at-corner cells 2 1 v (lit< tt) (lit< tt) (let e = meets w a c d x y z 0 1 0 ex ey ez in omega (arith, e))) sy) (λ ex. ⊎_elim (λ ey. at-corner cells 0 1 v (lit< tt) (lit< tt) (let e = meets w a c d x y z 1 0 0 ex ey ez in omega (arith, e))) (λ ey. at-corner cells 0 2 v (lit< tt) (lit< tt) (let e = meets w a c d x y z 1 1 0 ex ey ez in omega (arith, e))) sy) sx) (λ ez. ⊎_elim (λ ex. ⊎_elim (λ ey. at-corner cells 4 1 v (lit< tt) (lit< tt) (let e = meets w a c d x y z 0 0 1 ex ey ez in omega (arith, e))) (λ ey. at-corner cells 3 2 v (lit< tt) (lit< tt) (let e = meets w a c d x y z 0 1 1 ex ey ez in omega (arith, e))) sy) (λ ex. ⊎_elim (λ ey. at-corner cells 1 2 v (lit< tt) (lit< tt) (let e = meets w a c d x y z 1 0 1 ex ey ez in omega (arith, e))) (λ ey. at-corner cells 0 3 v (lit< tt) (lit< tt) (let e = meets w a c d x y z 1 1 1 ex ey ez in omega (arith, e))) sy) sx) sz

pub used-hex : (w a c d x y z : ℕ) → Step a x → Step c y → Step d z → has_vertex (cells_from Hex (a + w * (c + w * d)) w (w * w)) (x + w * (y + w * z)) ≡ true
used-hex w a c d x y z sx sy sz =
    let cells : List Cell = cells_from Hex (a + w * (c + w * d)) w (w * w) in
    let v : ℕ = x + w * (y + w * z) in
    ⊎_elim (λ ez. ⊎_elim (λ ex. ⊎_elim (λ ey. at-corner cells 0 0 v (lit< tt) (lit< tt) (let e = meets w a c d x y z 0 0 0 ex ey ez in omega (arith, e))) (λ ey. at-corner cells 0 3 v (lit< tt) (lit< tt) (let e = meets w a c d x y z 0 1 0 ex ey ez in omega (arith, e))) sy) (λ ex. ⊎_elim (λ ey. at-corner cells 0 1 v (lit< tt) (lit< tt) (let e = meets w a c d x y z 1 0 0 ex ey ez in omega (arith, e))) (λ ey. at-corner cells 0 2 v (lit< tt) (lit< tt) (let e = meets w a c d x y z 1 1 0 ex ey ez in omega (arith, e))) sy) sx) (λ ez. ⊎_elim (λ ex. ⊎_elim (λ ey. at-corner cells 0 4 v (lit< tt) (lit< tt) (let e = meets w a c d x y z 0 0 1 ex ey ez in omega (arith, e))) (λ ey. at-corner cells 0 7 v (lit< tt) (lit< tt) (let e = meets w a c d x y z 0 1 1 ex ey ez in omega (arith, e))) sy) (λ ex. ⊎_elim (λ ey. at-corner cells 0 5 v (lit< tt) (lit< tt) (let e = meets w a c d x y z 1 0 1 ex ey ez in omega (arith, e))) (λ ey. at-corner cells 0 6 v (lit< tt) (lit< tt) (let e = meets w a c d x y z 1 1 1 ex ey ez in omega (arith, e))) sy) sx) sz
