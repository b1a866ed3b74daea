use Rattle.input_defs.specs.Refused.{twist_refused}
use Rattle.report.proofs.Appending.{appended-two}
use Rattle.report.proofs.mesh_faults.append_twist.Goals as goal

pub returns : goal.returns
unfolding twist_refused
returns c = rw (← c.cell-cell.ensures, ← c.place.ensures.value) (appended-two _ _ _ _ _ c.in_ok-append_two.ensures c.in_ok-push.ensures.items)
