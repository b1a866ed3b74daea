use Rattle.std.proofs.Common.{◌≡◌, ◌*◌, ◌++◌, map, take}
use Rattle.orient_iface.proofs.iface_keys.values.push_cells.Given as goal

abbrev pub invariant-loop-cell : goal.invariant-loop-cell
invariant-loop-cell l = l.keys.items ≡ l.initial.keys.items ++ map (λ c. 64 * c) (take l.cell-index l.cells)
