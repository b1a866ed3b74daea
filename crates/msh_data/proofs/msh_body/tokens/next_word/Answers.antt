use Rattle.std.proofs.Common.{sym, ap, ◌∙◌}
use Rattle.input_defs.specs.declared.DataFault.TheVariants.{Ended}
use Rattle.input_laws.proofs.reading_laws.Ahead.{next-some, next-none, left-none, beyond-token, stands-none, line-none}
use Rattle.msh_data.proofs.msh_body.tokens.next_word.Goals as goal

pub returns-in-Some-clause-stays : goal.returns-in-Some-clause-stays
returns-in-Some-clause-stays c = beyond-token _ _ c.token.ensures.ahead c.token.ensures.bytes

pub returns-in-Some-clause-next : goal.returns-in-Some-clause-next
returns-in-Some-clause-next c = next-some _ _ _ _ (sym c.in-Some.is ∙ c.token.ensures.token) c.token.ensures.ahead c.token.ensures.bytes c.text.ensures

pub returns-in-None-clause-stays : goal.returns-in-None-clause-stays
returns-in-None-clause-stays c = beyond-token _ _ c.token.ensures.ahead c.token.ensures.bytes

pub returns-in-None-clause-ended : goal.returns-in-None-clause-ended
returns-in-None-clause-ended c =
    let none = sym c.in-None.is ∙ c.token.ensures.token in
    ap Ended (c.line.ensures ∙ c.in-None.ensures.line ∙ line-none _ _ none c.token.ensures.ahead c.token.ensures.bytes)

pub returns-in-None-clause-nothing : goal.returns-in-None-clause-nothing
returns-in-None-clause-nothing c = next-none _ (sym c.in-None.is ∙ c.token.ensures.token)

pub returns-in-None-clause-stands : goal.returns-in-None-clause-stands
returns-in-None-clause-stands c = stands-none _ _ (sym c.in-None.is ∙ c.token.ensures.token) c.token.ensures.stands

pub returns-in-None-clause-left : goal.returns-in-None-clause-left
returns-in-None-clause-left c = left-none _ _ (sym c.in-None.is ∙ c.token.ensures.token) c.token.ensures.ahead
