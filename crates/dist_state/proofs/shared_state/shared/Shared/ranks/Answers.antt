use Rattle.std.proofs.Common.{length, sym, ap, ◌∙◌}
use Rattle.rank_defs.specs.Spread.{PlainShared}
use Rattle.dist_state.proofs.shared_state.Joined.{parts-count, shape-kept}
use Rattle.dist_state.proofs.shared_state.shared.Shared.ranks.Goals as goal

pub returns-clause-ranks : goal.returns-clause-ranks
returns-clause-ranks c = c.ranks.ensures.ranks ∙ sym (parts-count c.self.inside.scatter.parts c.self.inside.points.items) ∙ ap (λ (w : PlainShared). length w.parts) c.self.view_is

pub returns-clause-shape : goal.returns-clause-shape
returns-clause-shape c = shape-kept c.self.inside.scatter c.self.inside.points.items c.self.inside.forest c.args.self.now c.self.view_is c.self.invariant
