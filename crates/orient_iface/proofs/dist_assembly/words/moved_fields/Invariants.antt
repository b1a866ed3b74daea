use Rattle.std.proofs.Common.{◌≡◌, [], map, take}
use Rattle.dist_state.specs.shared_state.Points.{shared_at}
use Rattle.rank_chart_laws.specs.moved_laws.Moves.{moved_list}
use Rattle.orient_iface.proofs.dist_assembly.words.moved_fields.Given as goal

-- the fields up to here
abbrev pub invariant-loop-i : goal.invariant-loop-i
invariant-loop-i l = l.fields.items ≡ map (moved_list [] l.moves) (take l.i (shared_at l.shared.parts l.rank).fields)
