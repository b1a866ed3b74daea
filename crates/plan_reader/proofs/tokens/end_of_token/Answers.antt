use Rattle.std.proofs.Common.{rules, tests}
use Rattle.std.proofs.lemmas.Iterator.{YieldsList-from_slice}
use Rattle.std.proofs.lemmas.Iterator.Search.{position_from_yields_List}
use Rattle.input_defs.specs.line_defs.Rows.{is_blank}
use Rattle.plan_reader.proofs.Lines.{place_or_length}
use Rattle.plan_reader.proofs.tokens.end_of_token.Goals as goal

pub returns-clause-value : goal.returns-clause-value
returns-clause-value c =
    let e = position_from_yields_List is_blank _ _ c.position-end.result c.position-end.ensures.ran (YieldsList-from_slice c.args.bytes.now cc) (λ x b q k. search (rules, tests)) in
    place_or_length is_blank c.args.bytes.now c.position-end.result c.unwrap_or.result e c.unwrap_or.ensures
