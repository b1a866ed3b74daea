-- Stacks by their cells.
use Rattle.std.proofs.Common.{◌≡◌, ℕ, zero, suc, ◌+◌, ◌<◌, ◌≤◌, ◌^◌, List, [], map, length, arith}
use Rattle.std.specs.List.{AllByRecursion, range_with_len}
use Rattle.std.proofs.lemmas.List.FromFn.{length-map-range_with_len, get_or-map-range_with_len}
use Rattle.mesh_defs.specs.declared.Poly.TheVariants.{Quad}
use Rattle.local_points.specs.Cells.{IsFit, AreFit, cell_at}
use Rattle.spread_tests.specs.local_points_tests.Stacks.{stack}

-- n cells
pub stack_length : (n : ℕ) (vertices : List ℕ) → length (stack n vertices) ≡ n
unfolding stack
stack_length n vertices = length-map-range_with_len (λ i. (i, record { poly = Quad; vertices = vertices })) 0 n

-- cell i
pub stack_at : (n : ℕ) (vertices : List ℕ) (i : ℕ) → i < length (stack n vertices) → cell_at (stack n vertices) i ≡ (i, record { poly = Quad; vertices = vertices })
unfolding stack
stack_at n vertices i h =
    let within : i < n = omega (arith, h, stack_length n vertices) in
    get_or-map-range_with_len (λ j. (j, record { poly = Quad; vertices = vertices })) 0 n i i (cell_at [] 0) within (omega arith)

-- cells from place k on
from_fit : (vertices : List ℕ) → length vertices ≡ 4 → AllByRecursion (λ v. v + 1 < 2 ^ 32) vertices → (n k : ℕ) → k + n ≤ 250000 → AllByRecursion IsFit (map (λ i. (i, record { poly = Quad; vertices = vertices })) (range_with_len k n))
from_fit vertices four low zero k h = tt
from_fit vertices four low (suc n) k h = (record { number = omega arith; dim = omega arith; corners = four; vertices = low }, from_fit vertices four low n (k + 1) (omega (arith, h)))

-- few cells on four vertices are fit
pub stack_fit : (n : ℕ) (vertices : List ℕ) → n ≤ 250000 → length vertices ≡ 4 → AllByRecursion (λ v. v + 1 < 2 ^ 32) vertices → AreFit (stack n vertices)
unfolding stack
stack_fit n vertices few four low = record { few = omega (arith, few, stack_length n vertices); each = from_fit vertices four low n 0 (omega (arith, few)) }
