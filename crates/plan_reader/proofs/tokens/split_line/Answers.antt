use Rattle.std.proofs.Common.{arith}
use Rattle.plan_reader.proofs.Lines.{last_line, first_line}
use Rattle.plan_reader.proofs.tokens.split_line.Goals as goal

pub returns-then-end-bytes-clause-lines : goal.returns-then-end-bytes-clause-lines
returns-then-end-bytes-clause-lines c = last_line c.args.bytes.now c.end_of_line-end.result c.end_of_line-end.ensures.value c.if-end-bytes.true

pub returns-clause-lines : goal.returns-clause-lines
returns-clause-lines c = first_line c.args.bytes.now c.end_of_line-end.result c.end_of_line-end.ensures.value (omega arith)
