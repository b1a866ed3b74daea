use Rattle.report.proofs.Appending.{appended-three}
use Rattle.report.proofs.plan_faults.append_plan.Goals as goal

pub returns : goal.returns
returns c = appended-three _ _ _ _ _ _ _ c.in_ok-extend_from_slice.ensures.items c.in_ok-append_plan_fault.ensures c.in_ok-push.ensures.items
