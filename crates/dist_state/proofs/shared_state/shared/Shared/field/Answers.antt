use Rattle.std.proofs.Common.{◌≡◌, [], length, get_or, ap, ◌∙◌, arith}
use Rattle.std.proofs.lemmas.List.{get_or_read}
use Rattle.local_points.specs.Points.{local_points}
use Rattle.rank_defs.specs.Spread.{SharedPart}
use Rattle.dist_state.specs.shared_state.Points.{PointData, data_at}
use Rattle.dist_state.proofs.shared_state.Joined.{rank-given, part-joined}
use Rattle.dist_state.proofs.shared_state.shared.Shared.field.Goals as goal

pub index-requires : goal.index-requires
index-requires c = let low = rank-given c.self.inside.scatter c.self.inside.points.items c.self.inside.forest c.args.self.now c.self.view_is c.args.rank c.requires.rank in omega (arith, low, c.self.invariant.ranks)

pub field-requires : goal.field-requires
field-requires c = let low = rank-given c.self.inside.scatter c.self.inside.points.items c.self.inside.forest c.args.self.now c.self.view_is c.args.rank c.requires.rank in
    let read : c.index.result.now ≡ data_at c.self.inside.points.items c.args.rank = get_or_read c.self.inside.points.items c.args.rank c.index.result.now (omega (arith, low, c.self.invariant.ranks)) c.index.ensures (record { local = local_points []; sets = []; labels = []; fields = [] }) in
    let joined = part-joined c.self.inside.scatter c.self.inside.points.items c.self.inside.forest c.args.self.now c.self.view_is c.args.rank c.requires.rank in
    omega (arith, ap (λ (d : PointData). length d.fields) read, ap (λ (p : SharedPart). length p.fields) joined, c.requires.field)

pub returns : goal.returns
returns c = let low = rank-given c.self.inside.scatter c.self.inside.points.items c.self.inside.forest c.args.self.now c.self.view_is c.args.rank c.requires.rank in
    let read : c.index.result.now ≡ data_at c.self.inside.points.items c.args.rank = get_or_read c.self.inside.points.items c.args.rank c.index.result.now (omega (arith, low, c.self.invariant.ranks)) c.index.ensures (record { local = local_points []; sets = []; labels = []; fields = [] }) in
    let joined = part-joined c.self.inside.scatter c.self.inside.points.items c.self.inside.forest c.args.self.now c.self.view_is c.args.rank c.requires.rank in
    c.field.ensures ∙ ap (λ (d : PointData). get_or d.fields c.args.i []) read ∙ ap (λ (p : SharedPart). get_or p.fields c.args.i []) joined
