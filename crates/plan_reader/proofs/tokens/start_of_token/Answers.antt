use Rattle.std.proofs.Common.{not, rules, tests}
use Rattle.std.proofs.lemmas.Iterator.{YieldsList-from_slice}
use Rattle.std.proofs.lemmas.Iterator.Search.{position_from_yields_List}
use Rattle.input_defs.specs.line_defs.Rows.{is_blank}
use Rattle.plan_reader.proofs.Lines.{place_or_length}
use Rattle.plan_reader.proofs.tokens.start_of_token.Goals as goal

pub returns-clause-value : goal.returns-clause-value
returns-clause-value c =
    let e = position_from_yields_List (λ b. not (is_blank b)) _ _ c.position-start.result c.position-start.ensures.ran (YieldsList-from_slice c.args.bytes.now cc) (λ x b q k. search (rules, tests)) in
    place_or_length (λ b. not (is_blank b)) c.args.bytes.now c.position-start.result c.unwrap_or.result e c.unwrap_or.ensures
