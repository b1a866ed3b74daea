use Rattle.std.proofs.Common.{◌∙◌, sym}
use Rattle.plan_reader.proofs.Takes.{part_there, plan_with-is}
use Rattle.plan_reader.proofs.draft.Draft.finish.Goals as goal

pub returns : goal.returns
returns c =
    let moves = c.self.inside.moves.items in
    let part = part_there moves _ c.self.invariant.begins c.self.inside.moves.ok.0 (sym c.is_empty.ensures ∙ c.if-is_empty.false) in
    plan_with-is c.args.self c.self.inside.ranks moves c.self.inside.dofs.items c.self.inside.shows c.args.line _ c.self.view_is c.in-Some.is part
