use Rattle.std.proofs.Common.{ℕ, List, map, get_or, ap, arith, sym, subst, ◌∙◌}
use Rattle.sf_defs.specs.Rounds.{MeetsConditions}
use Rattle.orient_iface.specs.iface_twist.Least.{own_asks}
use Rattle.orient_iface.proofs.iface_twist.Least.{meets, least-none, least-some, twist-is}
use Rattle.orient_iface.proofs.iface_twist.twist.least_twist.Goals as goal

pub run-requires : goal.run-requires
run-requires g c = subst (MeetsConditions c.in_ok-words.words.items) (sym c.in_ok-asks.ensures) (subst (λ (ws : List ℕ). MeetsConditions ws (map own_asks c.args.own.now)) (sym c.in_ok-words.ensures.items) (meets c.args.own.now c.requires))

pub returns-then-key-clause-least : goal.returns-then-key-clause-least
returns-then-key-clause-least g c = least-none c.in_ok-round.round c.args.own.now c.requires c.in_ok-round.ensures.legal (c.in_ok-round.ensures.before ∙ c.in_ok-words.ensures.items) (c.in_ok-round.ensures.asks ∙ c.in_ok-asks.ensures) (get_or c.after.result.now 0 0) (ap (λ ws. get_or ws 0 0) c.after.ensures) (omega (arith, c.if-key.true))

pub returns-then-key-clause-twist : goal.returns-then-key-clause-twist
returns-then-key-clause-twist g c = λ m n a parts same. least-none c.in_ok-round.round c.args.own.now c.requires c.in_ok-round.ensures.legal (c.in_ok-round.ensures.before ∙ c.in_ok-words.ensures.items) (c.in_ok-round.ensures.asks ∙ c.in_ok-asks.ensures) (get_or c.after.result.now 0 0) (ap (λ ws. get_or ws 0 0) c.after.ensures) (omega (arith, c.if-key.true)) ∙ twist-is m n a c.args.own.now parts same

pub returns-clause-least : goal.returns-clause-least
returns-clause-least g c = least-some c.in_ok-round.round c.args.own.now c.requires c.in_ok-round.ensures.legal (c.in_ok-round.ensures.before ∙ c.in_ok-words.ensures.items) (c.in_ok-round.ensures.asks ∙ c.in_ok-asks.ensures) (get_or c.after.result.now 0 0) (ap (λ ws. get_or ws 0 0) c.after.ensures) (λ e. absurd (omega (arith, e, c.if-key.false)))

pub returns-clause-twist : goal.returns-clause-twist
returns-clause-twist g c = λ m n a parts same. least-some c.in_ok-round.round c.args.own.now c.requires c.in_ok-round.ensures.legal (c.in_ok-round.ensures.before ∙ c.in_ok-words.ensures.items) (c.in_ok-round.ensures.asks ∙ c.in_ok-asks.ensures) (get_or c.after.result.now 0 0) (ap (λ ws. get_or ws 0 0) c.after.ensures) (λ e. absurd (omega (arith, e, c.if-key.false))) ∙ twist-is m n a c.args.own.now parts same
