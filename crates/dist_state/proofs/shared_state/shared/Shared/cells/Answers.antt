use Rattle.std.proofs.Common.{map, ap, ◌∙◌}
use Rattle.rank_defs.specs.Spread.{SharedPart}
use Rattle.dist_state.specs.scatter_state.Parts.{number_of}
use Rattle.dist_state.proofs.shared_state.Joined.{rank-given, part-joined}
use Rattle.dist_state.proofs.shared_state.shared.Shared.cells.Goals as goal

pub cells-requires : goal.cells-requires
cells-requires c = rank-given c.self.inside.scatter c.self.inside.points.items c.self.inside.forest c.args.self.now c.self.view_is c.args.rank c.requires

pub returns : goal.returns
returns c = c.cells.ensures.cells ∙ ap (λ (p : SharedPart). map number_of p.cells) (part-joined c.self.inside.scatter c.self.inside.points.items c.self.inside.forest c.args.self.now c.self.view_is c.args.rank c.requires)
