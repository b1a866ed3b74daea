use Rattle.std.proofs.Common.{length, ap, ◌∙◌, arith}
use Rattle.rank_defs.specs.Spread.{SharedPart}
use Rattle.dist_state.specs.scatter_state.Parts.{cell_at}
use Rattle.dist_state.proofs.shared_state.Joined.{rank-given, part-joined}
use Rattle.dist_state.proofs.shared_state.shared.Shared.poly.Goals as goal

pub poly-requires-clause-rank : goal.poly-requires-clause-rank
poly-requires-clause-rank c = rank-given c.self.inside.scatter c.self.inside.points.items c.self.inside.forest c.args.self.now c.self.view_is c.args.rank c.requires.rank

pub poly-requires-clause-place : goal.poly-requires-clause-place
poly-requires-clause-place c = let joined = ap (λ (p : SharedPart). length p.cells) (part-joined c.self.inside.scatter c.self.inside.points.items c.self.inside.forest c.args.self.now c.self.view_is c.args.rank c.requires.rank) in omega (arith, joined, c.requires.place)

pub returns : goal.returns
returns c = c.poly.ensures ∙ ap (λ (p : SharedPart). (cell_at p.cells c.args.i).1.poly) (part-joined c.self.inside.scatter c.self.inside.points.items c.self.inside.forest c.args.self.now c.self.view_is c.args.rank c.requires.rank)
