use Rattle.plex_chart.proofs.Flat.{AreFlat-push, coverings-push}
use Rattle.plex_chart.proofs.cones.Cones.push.Goals as goal

pub invariant_of-self-2 : goal.invariant_of-self-2
invariant_of-self-2 c =
    rw (c.push_reserved.ensures.items, c.in_ok-reserve.ensures.items, c.in_ok-end.ensures.ok, c.push_reserved-2.ensures.items, c.in_ok-reserve-2.ensures.items, c.in_ok-end.ensures.end)
    (AreFlat-push c.self.inside.polys.items c.self.inside.entries.items c.args.cone.now c.self.inside.ends.items c.args.poly c.self.invariant)

pub returns-clause-ok : goal.returns-clause-ok
returns-clause-ok c =
    rw (c.push_reserved.ensures.items, c.in_ok-reserve.ensures.items, c.in_ok-end.ensures.ok, c.push_reserved-2.ensures.items, c.in_ok-reserve-2.ensures.items, c.in_ok-end.ensures.end, ← c.self.view_is)
    (coverings-push c.self.inside.polys.items c.self.inside.entries.items c.args.cone.now c.self.inside.ends.items c.args.poly c.self.invariant)
