use Rattle.std.proofs.Common.{arith}
use Rattle.plan_reader.proofs.Lines.{token_none, token_some}
use Rattle.plan_reader.proofs.tokens.token.Goals as goal

pub returns-then-end-eq0-clause-tokens : goal.returns-then-end-eq0-clause-tokens
returns-then-end-eq0-clause-tokens c = token_none c.args.line.now c.start_of_token.result c.end_of_token-end.result c.start_of_token.ensures.value c.end_of_token-end.ensures.value c.if-end-eq0.true

pub returns-clause-tokens : goal.returns-clause-tokens
returns-clause-tokens c = rw (c.split_at.ensures.front, c.split_at.ensures.back) (token_some c.args.line.now c.start_of_token.result c.end_of_token-end.result c.start_of_token.ensures.value c.end_of_token-end.ensures.value (omega arith))
