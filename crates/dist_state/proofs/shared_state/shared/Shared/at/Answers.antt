use Rattle.std.proofs.Common.{length, sym, ap, ◌∙◌, arith}
use Rattle.std.specs.List.{slice_get}
use Rattle.rank_defs.specs.Spread.{SharedPart}
use Rattle.dist_state.proofs.shared_state.Joined.{rank-given, part-joined}
use Rattle.dist_state.proofs.shared_state.shared.Shared.at.Goals as goal

pub at-requires-clause-rank : goal.at-requires-clause-rank
at-requires-clause-rank c = rank-given c.self.inside.scatter c.self.inside.points.items c.self.inside.forest c.args.self.now c.self.view_is c.args.rank c.requires.rank

pub at-requires-clause-place : goal.at-requires-clause-place
at-requires-clause-place c = let joined = ap (λ (p : SharedPart). length p.vertices) (part-joined c.self.inside.scatter c.self.inside.points.items c.self.inside.forest c.args.self.now c.self.view_is c.args.rank c.requires.rank) in omega (arith, joined, c.requires.place)

pub returns : goal.returns
returns c = ap (λ (p : SharedPart). slice_get p.at c.args.i) (sym (part-joined c.self.inside.scatter c.self.inside.points.items c.self.inside.forest c.args.self.now c.self.view_is c.args.rank c.requires.rank)) ∙ c.at.ensures
