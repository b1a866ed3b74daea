use Rattle.input_defs.specs.Further.{full_head}
use Rattle.cause_defs.proofs.Reporting.{Reports-then, Reports-stop, Reports-exit}
use Rattle.report.proofs.head.write_head.Goals as goal

pub returns-in_err-write_mesh_line : goal.returns-in_err-write_mesh_line
unfolding full_head
returns-in_err-write_mesh_line g c =
    Reports-exit c.from_residual.result c.from_residual.ensures.1 (Reports-stop _ (Reports-stop _ (Reports-stop _ (Reports-stop _ c.in_err-write_mesh_line.ensures))))

pub returns-in_err-write_names : goal.returns-in_err-write_names
unfolding full_head
returns-in_err-write_names g c =
    Reports-exit c.from_residual-in_err-write_names.result c.from_residual-in_err-write_names.ensures.1
    (Reports-stop _ (Reports-stop _ (Reports-stop _ (Reports-then c.in_ok-write_mesh_line.ensures c.in_err-write_names.ensures))))

pub returns-in_err-write_sections : goal.returns-in_err-write_sections
unfolding full_head
returns-in_err-write_sections g c =
    Reports-exit c.from_residual-in_err-write_sections.result c.from_residual-in_err-write_sections.ensures.1
    (Reports-stop _ (Reports-stop _ (Reports-then (Reports-then c.in_ok-write_mesh_line.ensures c.in_ok-write_names.ensures) c.in_err-write_sections.ensures)))

pub returns-in_err-write_dofs : goal.returns-in_err-write_dofs
unfolding full_head
returns-in_err-write_dofs g c =
    Reports-exit c.from_residual-in_err-write_dofs.result c.from_residual-in_err-write_dofs.ensures.1
    (Reports-stop _ (Reports-then (Reports-then (Reports-then c.in_ok-write_mesh_line.ensures c.in_ok-write_names.ensures) c.in_ok-write_sections.ensures) c.in_err-write_dofs.ensures))

pub returns : goal.returns
unfolding full_head
returns g c =
    let told = rw c.ranks.ensures.ranks at c.write_ranks_line.ensures in
    Reports-then (Reports-then (Reports-then (Reports-then c.in_ok-write_mesh_line.ensures c.in_ok-write_names.ensures) c.in_ok-write_sections.ensures) c.in_ok-write_dofs.ensures) told
