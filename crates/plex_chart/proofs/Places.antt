-- Where points stand: for callers that push, and for those that walk over cones.
use Rattle.std.proofs.Common.{◌≡◌, ℕ, ◌+◌, ◌<◌, ◌≤◌, arith}
use Rattle.std.proofs.lemmas.Bool.Decides.{nat_tests}
use Rattle.mesh_defs.specs.Diagram.{Diagram}
use Rattle.plex_chart.specs.Chart.{chart_size, IsInStratum, HasStrata}

-- the cells come first
pub IsInStratum-cell : (g : Diagram) (p : ℕ) → p < g.cells → IsInStratum g g.dim p
IsInStratum-cell g p h = record { from = grind (arith, nat_tests); to = grind (arith, nat_tests) }

-- the vertices stand after the cells
pub IsInStratum-vertex : (g : Diagram) (p : ℕ) → 2 ≤ g.dim → g.cells ≤ p → p < g.cells + g.vertices → IsInStratum g 0 p
IsInStratum-vertex g p dim from to = record { from = grind (arith, nat_tests); to = grind (arith, nat_tests) }

-- the faces of a solid mesh stand after the vertices
pub IsInStratum-face : (g : Diagram) (p : ℕ) → g.dim ≡ 3 → g.cells + g.vertices ≤ p → p < g.cells + g.vertices + g.faces → IsInStratum g 2 p
IsInStratum-face g p dim from to = record { from = grind (arith, nat_tests); to = grind (arith, nat_tests) }

-- the edges come last
pub IsInStratum-edge : (g : Diagram) (p : ℕ) → 2 ≤ g.dim → g.cells + g.vertices + g.faces ≤ p → p < chart_size g → IsInStratum g 1 p
IsInStratum-edge g p dim from to = record { from = grind (arith, nat_tests); to = grind (arith, nat_tests) }

-- no point stands in two strata
pub IsInStratum-unique : (g : Diagram) (a b p : ℕ) → HasStrata g → IsInStratum g a p → IsInStratum g b p → a ≡ b
IsInStratum-unique g a b p strata in-a in-b = grind (arith, nat_tests, in-a.from, in-a.to, in-b.from, in-b.to)
