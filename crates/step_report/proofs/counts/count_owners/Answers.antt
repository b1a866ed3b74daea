use Rattle.std.proofs.Common.{refl}
use Rattle.std.proofs.lemmas.List.{get_or-replicate}
use Rattle.step_report.proofs.counts.count_owners.Goals as goal

pub loop-p-init : goal.loop-p-init
loop-p-init c = record { many = refl; each = λ o lt. get_or-replicate 64 o 0 0 lt }
