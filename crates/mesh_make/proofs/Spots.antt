-- Spots by their places in a grid, and positions that fit.
use Rattle.std.proofs.Common.{◌≡◌, ℕ, ◌+◌, ◌*◌, ◌/◌, ◌%◌, ◌<◌, ◌≤◌, List, map, length, get_or, take, ap, ◌∙◌, arith}
use Rattle.std.specs.Prelude.{flat_map}
use Rattle.std.proofs.Math.Nat.{mul_comm, mul-le-mul, lt_of_mul-lt-mul_left}
use Rattle.std.proofs.lemmas.List.{length-map, length-take-le}
use Rattle.std.proofs.lemmas.List.Concat.{get_or-flat_map}
use Rattle.plain_lists.specs.Lists.{below}
use Rattle.plain_lists.proofs.Below.{length-below, get_or-below, get_or-map-below}
use Rattle.input_defs.specs.Generated.{grid}
use Rattle.input_laws.proofs.made_laws.Rising.{length-each}
use Rattle.input_laws.proofs.made_laws.Grids.{spot}
use Rattle.mesh_make.specs.Spots.{no_point}

-- element j of pieces of one length
pub get_or-each : {X Y : Type 0} (f : X → List Y) (k : ℕ) → 0 < k → ((x : X) → length (f x) ≡ k) → (xs : List X) (j : ℕ) (e : X) (d : Y) → j < length xs * k
    → get_or (flat_map f xs) j d ≡ get_or (f (get_or xs (j / k) e)) (j % k) d
get_or-each f k some each xs j e d low =
    let whole : k * (j / k) + j % k ≡ j = omega arith in
    let rest : j % k < k = omega arith in
    let turn = mul_comm (length xs) k in
    let turn-2 = mul_comm (j / k) k in
    let piece : j / k < length xs = lt_of_mul-lt-mul_left k (let h : k * (j / k) < k * length xs = omega arith in h) in
    let inside : j % k < length (f (get_or xs (j / k) e)) = omega (arith, each (get_or xs (j / k) e)) in
    let before : length (flat_map f (take (j / k) xs)) ≡ (j / k) * k = length-each f k each (take (j / k) xs) ∙ ap (λ m. m * k) (length-take-le (j / k) xs (omega arith)) in
    ap (λ i. get_or (flat_map f xs) i d) (let h : j ≡ length (flat_map f (take (j / k) xs)) + j % k = omega arith in h)
    ∙ get_or-flat_map f xs (j / k) (j % k) e d piece inside

pub grid-at : (w k i : ℕ) → 0 < w → i < k * (w * w) → get_or (grid w w k) i no_point ≡ spot (i % (w * w) % w) (i % (w * w) / w) (i / (w * w))
grid-at w k i some low =
    let area : 1 * 1 ≤ w * w = mul-le-mul (let h : 1 ≤ w = omega arith in h) (let h : 1 ≤ w = omega arith in h) in
    let whole : (w * w) * (i / (w * w)) + i % (w * w) ≡ i = omega arith in
    let rest : i % (w * w) < w * w = omega arith in
    let turn = mul_comm k (w * w) in
    let z-low : i / (w * w) < k = lt_of_mul-lt-mul_left (w * w) (let h : (w * w) * (i / (w * w)) < (w * w) * k = omega arith in h) in
    let inner : w * (i % (w * w) / w) + i % (w * w) % w ≡ i % (w * w) = omega arith in
    let x-low : i % (w * w) % w < w = omega arith in
    let y-low : i % (w * w) / w < w = lt_of_mul-lt-mul_left w (let h : w * (i % (w * w) / w) < w * w = omega arith in h) in
    let row-length : (z y : ℕ) → length (map (λ x. spot x y z) (below w)) ≡ w = λ z y. length-map (below w) (λ x. spot x y z) ∙ length-below w in
    let layer-length : (z : ℕ) → length (flat_map (λ y. map (λ x. spot x y z) (below w)) (below w)) ≡ w * w = λ z. length-each (λ y. map (λ x. spot x y z) (below w)) w (row-length z) (below w) ∙ ap (λ m. m * w) (length-below w) in
    get_or-each (λ z. flat_map (λ y. map (λ x. spot x y z) (below w)) (below w)) (w * w) (omega arith) layer-length (below k) i 0 no_point (omega (arith, ap (λ m. m * (w * w)) (length-below k)))
    ∙ ap (λ z. get_or (flat_map (λ y. map (λ x. spot x y z) (below w)) (below w)) (i % (w * w)) no_point) (get_or-below k (i / (w * w)) 0 z-low)
    ∙ get_or-each (λ y. map (λ x. spot x y (i / (w * w))) (below w)) w some (row-length (i / (w * w))) (below w) (i % (w * w)) 0 no_point (omega (arith, ap (λ m. m * w) (length-below w)))
    ∙ ap (λ y. get_or (map (λ x. spot x y (i / (w * w))) (below w)) (i % (w * w) % w) no_point) (get_or-below w (i % (w * w) / w) 0 y-low)
    ∙ get_or-map-below (λ x. spot x (i % (w * w) / w) (i / (w * w))) w (i % (w * w) % w) no_point x-low

-- the layer of a spot is one of the grid's
pub layer-below : (a k i : ℕ) → 0 < a → i < k * a → i / a < k
layer-below a k i some low =
    let whole : a * (i / a) + i % a ≡ i = omega arith in
    let turn = mul_comm k a in
    lt_of_mul-lt-mul_left a (let h : a * (i / a) < a * k = omega arith in h)
