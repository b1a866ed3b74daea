use Rattle.std.proofs.Common.{rules}
use Rattle.std.proofs.lemmas.Int.{to_z-of_z}
use Rattle.std.specs.Int.{w32}
use mir.Val.{SFits}
use Rattle.std.proofs.lemmas.Result.{err_from_is_err_and}
use Rattle.input_defs.specs.scan_defs.Numbers.{uint_of, int_of}
use Rattle.input_defs.specs.Sections.{name}
use Rattle.msh_reader.proofs.Going.{goes-then, goes-fault, goes-give, goes-number, goes-no_number, goes-text, goes-no_text}
use Rattle.msh_reader.proofs.names.name.Goals as goal

pub returns-in_err-dim : goal.returns-in_err-dim
unfolding name
returns-in_err-dim c =
    let p = err_from_is_err_and c.from_residual.result c.from_residual.ensures.1 in
    rw (p.1, p.2) (goes-fault _ (goes-no_number uint_of c.in_err-dim.ensures))

pub returns-in_err-number : goal.returns-in_err-number
unfolding name
returns-in_err-number c =
    let p = err_from_is_err_and c.from_residual-in_err-number.result c.from_residual-in_err-number.ensures.1 in
    rw (p.1, p.2) (goes-then _ (goes-number uint_of c.in_ok-dim.ensures) (goes-fault _ (goes-no_number int_of c.in_err-number.ensures)))

pub returns-in_err-quoted : goal.returns-in_err-quoted
unfolding name
returns-in_err-quoted c =
    let p = err_from_is_err_and c.from_residual-in_err-quoted.result c.from_residual-in_err-quoted.ensures.1 in
    rw (p.1, p.2) (goes-then _ (goes-number uint_of c.in_ok-dim.ensures) (goes-then _ (goes-number int_of c.in_ok-number.ensures) (goes-fault _ (goes-no_text c.in_err-quoted.ensures))))

pub returns : goal.returns
unfolding name
returns c =
    let fits : SFits w32 c.in_ok-number.number = search rules in
    rw (c.in_ok-text.ensures.items, to_z-of_z w32 c.in_ok-number.number fits) (goes-then _ (goes-number uint_of c.in_ok-dim.ensures) (goes-then _ (goes-number int_of c.in_ok-number.ensures) (goes-then _ (goes-text c.in_ok-quoted.ensures) (goes-give _ _))))
