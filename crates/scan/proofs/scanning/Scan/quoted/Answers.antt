use Rattle.std.proofs.Common.{refl, sym, ◌∙◌}
use Rattle.scan.proofs.Quoting.{none-quoted, some-quoted, front-slice}
use Rattle.scan.proofs.scanning.Scan.quoted.Goals as goal

pub last_quote-requires : goal.last_quote-requires
last_quote-requires c = front-slice c.self.inside.bytes.now c.past_gaps-at.result c.line_end-end.result c.past_gaps-at.ensures.at c.past_gaps-at.ensures.stops c.line_end-end.ensures.end

pub returns-in_default-clause-answer : goal.returns-in_default-clause-answer
returns-in_default-clause-answer c =
    let q = none-quoted c.self.inside.bytes.now c.past_gaps-at.result c.line_end-end.result c.past_gaps-at.ensures.at c.past_gaps-at.ensures.stops c.line_end-end.ensures.end (sym c.in_default.is ∙ c.last_quote.ensures) in
    rw (← c.self.view_is, ← c.past_gaps-at.ensures.quoted) (sym q.lines)

pub returns-in_default-clause-by_items : goal.returns-in_default-clause-by_items
returns-in_default-clause-by_items c =
    let q = none-quoted c.self.inside.bytes.now c.past_gaps-at.result c.line_end-end.result c.past_gaps-at.ensures.at c.past_gaps-at.ensures.stops c.line_end-end.ensures.end (sym c.in_default.is ∙ c.last_quote.ensures) in
    rw (← c.self.view_is, ← c.past_gaps-at.ensures.ahead) (sym q.by-items)

pub invariant_of-self : goal.invariant_of-self
invariant_of-self c =
    let q = some-quoted c.self.inside.bytes.now c.past_gaps-at.result c.line_end-end.result c.in-Some.last c.past_gaps-at.ensures.at c.past_gaps-at.ensures.stops c.line_end-end.ensures.end (sym c.in-Some.is ∙ c.last_quote.ensures) in
    record { short = c.self.invariant.short; is_at = q.over.at-is }

pub returns-clause-answer : goal.returns-clause-answer
returns-clause-answer c =
    let q = some-quoted c.self.inside.bytes.now c.past_gaps-at.result c.line_end-end.result c.in-Some.last c.past_gaps-at.ensures.at c.past_gaps-at.ensures.stops c.line_end-end.ensures.end (sym c.in-Some.is ∙ c.last_quote.ensures) in
    rw (← c.self.view_is, ← c.past_gaps-at.ensures.quoted) (sym q.lines)

pub returns-clause-by_items : goal.returns-clause-by_items
returns-clause-by_items c =
    let q = some-quoted c.self.inside.bytes.now c.past_gaps-at.result c.line_end-end.result c.in-Some.last c.past_gaps-at.ensures.at c.past_gaps-at.ensures.stops c.line_end-end.ensures.end (sym c.in-Some.is ∙ c.last_quote.ensures) in
    rw (← c.self.view_is, ← c.past_gaps-at.ensures.ahead) (sym q.by-items)

pub returns-clause-stands : goal.returns-clause-stands
returns-clause-stands c =
    let q = some-quoted c.self.inside.bytes.now c.past_gaps-at.result c.line_end-end.result c.in-Some.last c.past_gaps-at.ensures.at c.past_gaps-at.ensures.stops c.line_end-end.ensures.end (sym c.in-Some.is ∙ c.last_quote.ensures) in
    rw (← c.self.view_is, ← q.over.stands) refl

pub returns-clause-ahead : goal.returns-clause-ahead
returns-clause-ahead c =
    let q = some-quoted c.self.inside.bytes.now c.past_gaps-at.result c.line_end-end.result c.in-Some.last c.past_gaps-at.ensures.at c.past_gaps-at.ensures.stops c.line_end-end.ensures.end (sym c.in-Some.is ∙ c.last_quote.ensures) in
    rw (← c.self.view_is, ← c.past_gaps-at.ensures.ahead) q.over.is
