use Rattle.std.proofs.Common.{rules}
use Rattle.std.proofs.lemmas.Int.{to_z-of_z}
use Rattle.std.specs.Int.{w64}
use mir.Val.{SFits}
use Rattle.std.proofs.lemmas.Result.{err_from_is_err_and}
use Rattle.input_defs.specs.scan_defs.Numbers.{fixed_of}
use Rattle.input_defs.specs.Sections.{node}
use Rattle.msh_reader.proofs.Going.{goes-then, goes-fault, goes-give, goes-number, goes-no_number}
use Rattle.msh_reader.proofs.nodes.node.Goals as goal

pub returns-in_err-number : goal.returns-in_err-number
unfolding node
returns-in_err-number c =
    let p = err_from_is_err_and c.from_residual.result c.from_residual.ensures.1 in
    rw (p.1, p.2) (goes-fault _ c.in_err-number.ensures)

pub returns-in_err-x : goal.returns-in_err-x
unfolding node
returns-in_err-x c =
    let p = err_from_is_err_and c.from_residual-in_err-x.result c.from_residual-in_err-x.ensures.1 in
    rw (p.1, p.2) (goes-then _ c.in_ok-number.ensures (goes-fault _ (goes-no_number fixed_of c.in_err-x.ensures)))

pub returns-in_err-y : goal.returns-in_err-y
unfolding node
returns-in_err-y c =
    let p = err_from_is_err_and c.from_residual-in_err-y.result c.from_residual-in_err-y.ensures.1 in
    rw (p.1, p.2) (goes-then _ c.in_ok-number.ensures (goes-then _ (goes-number fixed_of c.in_ok-x.ensures) (goes-fault _ (goes-no_number fixed_of c.in_err-y.ensures))))

pub returns-in_err-z : goal.returns-in_err-z
unfolding node
returns-in_err-z c =
    let p = err_from_is_err_and c.from_residual-in_err-z.result c.from_residual-in_err-z.ensures.1 in
    rw (p.1, p.2) (goes-then _ c.in_ok-number.ensures (goes-then _ (goes-number fixed_of c.in_ok-x.ensures) (goes-then _ (goes-number fixed_of c.in_ok-y.ensures) (goes-fault _ (goes-no_number fixed_of c.in_err-z.ensures)))))

pub returns : goal.returns
unfolding node
returns c =
    let fits-x : SFits w64 c.in_ok-x.x = search rules in
    let fits-y : SFits w64 c.in_ok-y.y = search rules in
    let fits-z : SFits w64 c.in_ok-z.z = search rules in
    rw (to_z-of_z w64 c.in_ok-x.x fits-x, to_z-of_z w64 c.in_ok-y.y fits-y, to_z-of_z w64 c.in_ok-z.z fits-z) (goes-then _ c.in_ok-number.ensures (goes-then _ (goes-number fixed_of c.in_ok-x.ensures) (goes-then _ (goes-number fixed_of c.in_ok-y.ensures) (goes-then _ (goes-number fixed_of c.in_ok-z.ensures) (goes-give _ _)))))
