use Rattle.std.proofs.Common.{append_assoc}
use Rattle.input_defs.specs.text_defs.Refusals.{too_long_refused}
use Rattle.report.proofs.refusal.Refusal.append_to.Goals as goal

pub returns-in-TooLong : goal.returns-in-TooLong
unfolding too_long_refused
returns-in-TooLong c = rw c.in-TooLong.is (simp append_assoc c.append_named-in-TooLong.ensures)
