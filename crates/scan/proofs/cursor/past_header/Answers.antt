use Rattle.std.proofs.Common.{arith}
use Rattle.scan.proofs.Places.{past-header-newline, past-header-last, number-le}
use Rattle.scan.proofs.cursor.past_header.Goals as goal

pub overflow_add-result-then-end-bytes : goal.overflow_add-result-then-end-bytes
overflow_add-result-then-end-bytes c = let n = number-le c.args.bytes.now c.args.at.place in omega (arith, n, c.requires.at.line)

pub returns-then-end-bytes-clause-at : goal.returns-then-end-bytes-clause-at
returns-then-end-bytes-clause-at c = (past-header-newline c.args.bytes.now c.args.at c.line_end-end.result c.requires.at c.requires.inside c.requires.header c.line_end-end.ensures.end c.if-end-bytes.true).at

pub returns-then-end-bytes-clause-stands : goal.returns-then-end-bytes-clause-stands
returns-then-end-bytes-clause-stands c = (past-header-newline c.args.bytes.now c.args.at c.line_end-end.result c.requires.at c.requires.inside c.requires.header c.line_end-end.ensures.end c.if-end-bytes.true).stands

pub returns-then-end-bytes-clause-ahead : goal.returns-then-end-bytes-clause-ahead
returns-then-end-bytes-clause-ahead c = (past-header-newline c.args.bytes.now c.args.at c.line_end-end.result c.requires.at c.requires.inside c.requires.header c.line_end-end.ensures.end c.if-end-bytes.true).is

pub returns-else-end-bytes-clause-at : goal.returns-else-end-bytes-clause-at
returns-else-end-bytes-clause-at c = (past-header-last c.args.bytes.now c.args.at c.line_end-end.result c.requires.at c.requires.inside c.requires.header c.line_end-end.ensures.end c.if-end-bytes.false).at

pub returns-else-end-bytes-clause-stands : goal.returns-else-end-bytes-clause-stands
returns-else-end-bytes-clause-stands c = (past-header-last c.args.bytes.now c.args.at c.line_end-end.result c.requires.at c.requires.inside c.requires.header c.line_end-end.ensures.end c.if-end-bytes.false).stands

pub returns-else-end-bytes-clause-ahead : goal.returns-else-end-bytes-clause-ahead
returns-else-end-bytes-clause-ahead c = (past-header-last c.args.bytes.now c.args.at c.line_end-end.result c.requires.at c.requires.inside c.requires.header c.line_end-end.ensures.end c.if-end-bytes.false).is
