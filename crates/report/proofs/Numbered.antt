-- The number of a point on one rank.
use Rattle.std.proofs.Common.{◌≡◌, ◌+◌, true, [], ◌∷◌, ◌∙◌, arith}
use Rattle.std.specs.List.{list_any}
use Rattle.std.proofs.lemmas.Bool.{cond-true}
use Rattle.mesh_defs.specs.Mesh.{Mesh, placed_cells}
use Rattle.mesh_defs.specs.Points.{Point, shows}
use Rattle.mesh_defs.specs.Diagram.{chart, place_in}
use Rattle.input_defs.specs.text_defs.Text.{alone, number_of}

-- on one rank the number of a point of the chart is its place there
pub number-place : (m : Mesh) (p : Point) → list_any (shows p) (chart m (placed_cells m)) ≡ true → number_of (alone m ∷ []) p ≡ place_in (chart m (placed_cells m)) p
unfolding alone
number-place m p h =
    let zero : 0 + place_in (chart m (placed_cells m)) p ≡ place_in (chart m (placed_cells m)) p = omega arith in
    cond-true (list_any (shows p) (chart m (placed_cells m))) (0 + place_in (chart m (placed_cells m)) p) 0 h ∙ zero
