use Rattle.std.proofs.Common.{◌≡◌, map, take}
use Rattle.std.specs.List.{position_or_len}
use Rattle.std.specs.HashMap as hash
use Rattle.input_defs.specs.Meshes.{same_place}
use Rattle.input_laws.specs.place_laws.Places.{same_key}
use Rattle.input_laws.proofs.place_laws.Firsts.{Finds}
use Rattle.mesh_check.proofs.element_places.table.first_at_places.Given as goal

abbrev pub invariant-loop-i : goal.invariant-loop-i
invariant-loop-i l = Finds (take l.i l.text.elements) (hash.get same_key l.by_key) × (l.firsts.items ≡ map (λ e. position_or_len (same_place e) l.text.elements) (take l.i l.text.elements))
