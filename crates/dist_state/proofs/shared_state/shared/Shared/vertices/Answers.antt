use Rattle.std.proofs.Common.{ap, ◌∙◌}
use Rattle.rank_defs.specs.Spread.{SharedPart}
use Rattle.dist_state.proofs.shared_state.Joined.{rank-given, part-joined}
use Rattle.dist_state.proofs.shared_state.shared.Shared.vertices.Goals as goal

pub vertices-requires : goal.vertices-requires
vertices-requires c = rank-given c.self.inside.scatter c.self.inside.points.items c.self.inside.forest c.args.self.now c.self.view_is c.args.rank c.requires

pub returns : goal.returns
returns c = c.vertices.ensures ∙ ap (λ (p : SharedPart). p.vertices) (part-joined c.self.inside.scatter c.self.inside.points.items c.self.inside.forest c.args.self.now c.self.view_is c.args.rank c.requires)
