use Rattle.std.proofs.Common.{◌≡◌, sym, ap}
use Rattle.std.specs.Prelude.{Some}
use Rattle.plan_reader.proofs.FitLemmas.{fits-listed, part_at, no_part_at}
use Rattle.plan_reader.proofs.plan.Plan.rank_of.Goals as goal

pub rank_of-requires-clause-listed : goal.rank_of-requires-clause-listed
rank_of-requires-clause-listed c =
    let at = part_at c.args.self.now c.self.inside.ranks c.self.inside.moves.items c.self.inside.dofs.items c.self.inside.shows c.args.i c.index.result.now c.in-Part.spread c.self.view_is c.index.ensures c.in-Part.is c.requires.part in
    fits-listed c.args.self.now.plan c.args.cells c.args.i _ c.requires.fits at

pub returns-in-Part : goal.returns-in-Part
returns-in-Part c =
    let at = part_at c.args.self.now c.self.inside.ranks c.self.inside.moves.items c.self.inside.dofs.items c.self.inside.shows c.args.i c.index.result.now c.in-Part.spread c.self.view_is c.index.ensures c.in-Part.is c.requires.part in
    let ranks : c.self.inside.ranks ≡ c.args.self.now.plan.ranks = ap (λ p. p.plan.ranks) c.self.view_is in
    rw (at, ← ranks) (ap Some (sym c.rank_of.ensures))

pub returns-in-Layers : goal.returns-in-Layers
returns-in-Layers c =
    absurd (no_part_at c.args.self.now c.self.inside.ranks c.self.inside.moves.items c.self.inside.dofs.items c.self.inside.shows c.args.i c.index.result.now _ c.self.view_is c.index.ensures c.in-Layers.is c.requires.part)
