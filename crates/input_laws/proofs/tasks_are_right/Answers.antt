use Rattle.input_laws.proofs.ReadPlans.{plan-read}
use Rattle.input_laws.proofs.Assignments.{steps-right, first_part-right}
use Rattle.input_laws.proofs.Tasks.{task-mesh, task-plan}
use Rattle.input_laws.proofs.tasks_are_right.Goals as goal

pub returns : goal.returns
returns c = record {
  meshes = task-mesh;
  steps = λ words plan_file mesh_file task s h there. let plan = task-plan words plan_file mesh_file task h in steps-right plan.0 task.plan task.mesh plan.1 plan.2 s there;
  first = λ words plan_file mesh_file task h. let plan = task-plan words plan_file mesh_file task h in first_part-right plan.0 task.plan task.mesh plan.1 plan.2;
  dofs = λ words plan_file mesh_file task h. let plan = task-plan words plan_file mesh_file task h in (plan-read plan.0 task.plan plan.1).dofs;
}
