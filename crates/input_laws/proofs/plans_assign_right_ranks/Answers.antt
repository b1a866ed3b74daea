use Rattle.input_laws.proofs.ReadPlans.{plan-read}
use Rattle.input_laws.proofs.Assignments.{steps-right, first_part-right}
use Rattle.input_laws.proofs.plans_assign_right_ranks.Goals as goal

pub returns : goal.returns
returns c = record {
  steps = λ bytes plan m s read fits there. steps-right bytes plan m read fits s there;
  first = λ bytes plan m read fits. first_part-right bytes plan m read fits;
  dofs = λ bytes plan read. (plan-read bytes plan read).dofs;
}
