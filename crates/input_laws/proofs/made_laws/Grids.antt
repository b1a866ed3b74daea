-- The spots of a grid: how many, what each has, where they stand, and positions in order.
use Rattle.std.proofs.Common.{◌≡◌, ℕ, suc, ◌+◌, ◌*◌, ◌<◌, ◌≤◌, Bool, true, List, [], ◌∷◌, map, length, ap, ◌∙◌, subst, arith}
use Rattle.std.specs.Prelude.{flat_map}
use Rattle.std.specs.List.{AllByRecursion, list_any}
use Rattle.std.proofs.Math.Nat.{mul-le-mul_left, mul-suc}
use Rattle.std.proofs.lemmas.List.{length-map}
use Rattle.std.proofs.lemmas.List.Concat.{flat_map_single}
use Rattle.plain_lists.specs.Lists.{below}
use Rattle.plain_lists.proofs.Below.{length-below, below-all}
use Rattle.plain_lists.proofs.Each.{all_weaker, all_map, all_flat_map}
use Rattle.plain_lists.proofs.Finding.{any_map}
use Rattle.input_defs.specs.Generated.{GridPoint, grid}
use Rattle.input_laws.proofs.made_laws.Rising.{Rise, rise-blocks, rise-wider, rise-later, length-each, any-below, any-flat_map}

abbrev pub spot : ℕ → ℕ → ℕ → GridPoint
spot x y z = record { x = x; y = y; z = z }

pub length-grid : (nx ny nz : ℕ) → length (grid nx ny nz) ≡ nz * (ny * nx)
length-grid nx ny nz =
    length-each (λ z. flat_map (λ y. map (λ x. spot x y z) (below nx)) (below ny)) (ny * nx)
    (λ z. length-each (λ y. map (λ x. spot x y z) (below nx)) nx (λ y. length-map (below nx) (λ x. spot x y z) ∙ length-below nx) (below ny) ∙ ap (λ n. n * nx) (length-below ny)) (below nz)
    ∙ ap (λ n. n * (ny * nx)) (length-below nz)

-- what each spot has
pub all-grid : (P : GridPoint → Type 0) (nx ny nz : ℕ) → ((x y z : ℕ) → x < nx → y < ny → z < nz → P (spot x y z)) → AllByRecursion P (grid nx ny nz)
all-grid P nx ny nz each =
    all_flat_map P (λ z. flat_map (λ y. map (λ x. spot x y z) (below nx)) (below ny)) (below nz)
    (all_weaker (λ z. z < nz) _ (λ z low-z. all_flat_map P (λ y. map (λ x. spot x y z) (below nx)) (below ny)
    (all_weaker (λ y. y < ny) _ (λ y low-y. all_map P (λ x. spot x y z) (below nx)
    (all_weaker (λ x. x < nx) (λ x. P (spot x y z)) (λ x low-x. each x y z low-x low-y low-z) (below nx) (below-all nx))) (below ny) (below-all ny))) (below nz) (below-all nz))

-- a test that one spot passes
pub any-grid : (q : GridPoint → Bool) (nx ny nz x y z : ℕ) → x < nx → y < ny → z < nz → q (spot x y z) ≡ true → list_any q (grid nx ny nz) ≡ true
any-grid q nx ny nz x y z low-x low-y low-z h =
    any-flat_map q (λ c. flat_map (λ b. map (λ a. spot a b c) (below nx)) (below ny)) (below nz)
    ∙ any-below (λ c. list_any q (flat_map (λ b. map (λ a. spot a b c) (below nx)) (below ny))) nz z low-z
    (any-flat_map q (λ b. map (λ a. spot a b z) (below nx)) (below ny)
    ∙ any-below (λ b. list_any q (map (λ a. spot a b z) (below nx))) ny y low-y
    (any_map q (λ a. spot a y z) (below nx) ∙ any-below (λ a. q (spot a y z)) nx x low-x h))

-- ---- positions

-- the position of a spot among the points of a grid of this width
abbrev pub position_of : ℕ → GridPoint → ℕ
position_of width p = p.x + width * (p.y + width * p.z)

-- a digit before others
pub below-base : (b x w top : ℕ) → x < b → w < top → x + b * w < b * top
below-base b x w top low high =
    let step : b * suc w ≤ b * top = mul-le-mul_left b (omega arith) in
    let more = mul-suc b w in
    omega arith

-- positions rise along a row, along a layer, and along a grid
abbrev row : ℕ → ℕ → ℕ → List GridPoint
row n z y = map (λ x. spot x y z) (below n)

abbrev layer : ℕ → ℕ → List GridPoint
layer n z = flat_map (row n z) (below n)

row-rises : (w n z y : ℕ) → n < w → Rise (w * (y + w * z)) (w * (suc y + w * z)) (map (position_of w) (row n z y))
row-rises w n z y narrow =
    let single = rise-blocks (position_of w) (λ x. spot x y z ∷ []) (λ x. x + w * (y + w * z)) (λ x. (omega arith, omega arith)) n in
    let rises = subst (λ (ps : List GridPoint). Rise (0 + w * (y + w * z)) (n + w * (y + w * z)) (map (position_of w) ps)) (flat_map_single (λ x. spot x y z) (below n)) single in
    let up : w * (suc y + w * z) ≡ w * (y + w * z) + w = grind arith in
    rise-later (w * (y + w * z)) (0 + w * (y + w * z)) (w * (suc y + w * z)) (map (position_of w) (row n z y)) (omega arith)
    (rise-wider (0 + w * (y + w * z)) (n + w * (y + w * z)) (w * (suc y + w * z)) (map (position_of w) (row n z y)) rises (omega arith))

layer-rises : (w n z : ℕ) → n < w → Rise (w * (w * z)) (w * (w * suc z)) (map (position_of w) (layer n z))
layer-rises w n z narrow =
    let rises = rise-blocks (position_of w) (row n z) (λ y. w * (y + w * z)) (λ y. row-rises w n z y narrow) n in
    let from : w * (0 + w * z) ≡ w * (w * z) = ap (λ k. w * k) (let e : 0 + w * z ≡ w * z = omega arith in e) in
    let more = mul-suc w z in
    let to : w * (n + w * z) ≤ w * (w * suc z) = mul-le-mul_left w (omega arith) in
    rise-later (w * (w * z)) (w * (0 + w * z)) (w * (w * suc z)) (map (position_of w) (layer n z)) (omega arith)
    (rise-wider (w * (0 + w * z)) (w * (n + w * z)) (w * (w * suc z)) (map (position_of w) (layer n z)) rises to)

pub positions-rise : (w n k : ℕ) → n < w → Rise 0 (w * (w * k)) (map (position_of w) (grid n n k))
positions-rise w n k narrow =
    rise-later 0 (w * (w * 0)) (w * (w * k)) (map (position_of w) (grid n n k)) (omega arith)
    (rise-blocks (position_of w) (layer n) (λ z. w * (w * z)) (λ z. layer-rises w n z narrow) k)
