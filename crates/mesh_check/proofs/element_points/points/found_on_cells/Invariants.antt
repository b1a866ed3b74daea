use Rattle.std.proofs.Common.{◌≡◌, ◌<◌, ℕ, false, length, get_or, map, take}
use Rattle.input_laws.specs.place_laws.Places.{element_at}
use Rattle.mesh_check.specs.element_points.Parts.{some_leads_to}
use Rattle.mesh_check.proofs.element_points.points.found_on_cells.Given as goal

abbrev pub invariant-loop-cell : goal.invariant-loop-cell
invariant-loop-cell l = record {
  each : length l.found.items ≡ length l.places.elements;
  found : (k : ℕ) → k < length l.places.elements → get_or l.found.items k false ≡ some_leads_to l.places.elements (map (element_at l.places.elements) (take l.cell-index l.cells)) k;
}
