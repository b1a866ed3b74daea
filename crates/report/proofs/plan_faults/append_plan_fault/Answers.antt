use Rattle.input_defs.specs.Refused.{plan_text}
use Rattle.report.proofs.Appending.{appended-on_line}
use Rattle.report.proofs.plan_faults.append_plan_fault.Goals as goal

pub returns-in_ok-append_place-in-PartLength : goal.returns-in_ok-append_place-in-PartLength
unfolding plan_text
returns-in_ok-append_place-in-PartLength c =
    rw (c.in-PartLength.is, ← c.from.ensures, ← c.from-in-PartLength.ensures) (appended-on_line _ _ _ _ _ _ c.in_ok-append_place-in-PartLength.ensures c.append_two.ensures)
