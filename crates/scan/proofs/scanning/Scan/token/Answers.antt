use Rattle.std.proofs.Common.{refl, sym, ◌∙◌}
use Rattle.scan.proofs.Places.{ended}
use Rattle.scan.proofs.scanning.Scan.token.Goals as goal

pub returns-then-not-begins_token-clause-token : goal.returns-then-not-begins_token-clause-token
returns-then-not-begins_token-clause-token c =
    let e = ended c.self.inside.bytes.now c.past_gaps-at.result c.past_gaps-at.ensures.at (sym c.begins_token.ensures ∙ c.if-not-begins_token.true) in
    rw (← c.self.view_is, ← c.past_gaps-at.ensures.ahead) (sym e.token)

pub returns-then-not-begins_token-clause-stands : goal.returns-then-not-begins_token-clause-stands
returns-then-not-begins_token-clause-stands c =
    let e = ended c.self.inside.bytes.now c.past_gaps-at.result c.past_gaps-at.ensures.at (sym c.begins_token.ensures ∙ c.if-not-begins_token.true) in
    rw (← c.self.view_is, ← c.past_gaps-at.ensures.ahead, e.stands c.self.inside.at.place) refl

pub returns-then-not-begins_token-clause-ahead : goal.returns-then-not-begins_token-clause-ahead
returns-then-not-begins_token-clause-ahead c =
    let e = ended c.self.inside.bytes.now c.past_gaps-at.result c.past_gaps-at.ensures.at (sym c.begins_token.ensures ∙ c.if-not-begins_token.true) in
    rw (← c.self.view_is, ← c.past_gaps-at.ensures.ahead) (sym e.rest)

pub returns-then-not-begins_token-clause-line : goal.returns-then-not-begins_token-clause-line
returns-then-not-begins_token-clause-line c =
    (ended c.self.inside.bytes.now c.past_gaps-at.result c.past_gaps-at.ensures.at (sym c.begins_token.ensures ∙ c.if-not-begins_token.true)).line
