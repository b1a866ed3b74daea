use Rattle.std.proofs.Common.{sym, ap, ◌∙◌, arith}
use Rattle.input_defs.specs.scan_defs.Steps.{next_header, ahead_after_header}
use Rattle.scan.proofs.Places.{ahead-end}
use Rattle.scan.proofs.scanning.Scan.header.Goals as goal

pub returns-then-at-self-clause-name : goal.returns-then-at-self-clause-name
returns-then-at-self-clause-name c =
    rw (← c.self.view_is) (ap next_header (sym (ahead-end c.self.inside.bytes.now c.past_body-at.result.place (omega arith))) ∙ c.past_body-at.ensures.header)

pub returns-then-at-self-clause-ahead : goal.returns-then-at-self-clause-ahead
returns-then-at-self-clause-ahead c =
    let e = ahead-end c.self.inside.bytes.now c.past_body-at.result.place (omega arith) in
    rw (← c.self.view_is, ← c.past_body-at.ensures.ahead) (e ∙ ap ahead_after_header (sym e))
