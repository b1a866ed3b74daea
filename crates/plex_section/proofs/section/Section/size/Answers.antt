use Rattle.std.proofs.Common.{length, arith, ap}
use Rattle.std.specs.Prelude.{sum}
use Rattle.std.proofs.lemmas.Grind.{common_steps}
use Rattle.std.proofs.Math.Seq.{take-length}
use Rattle.plex_section.proofs.Starts.{length-stored, get_or-stored}
use Rattle.plex_section.proofs.section.Section.size.Goals as goal

pub returns : goal.returns
returns c =
    let count = length-stored c.self.inside.offsets.items c.args.self.now c.self.invariant c.self.view_is in
    let last = get_or-stored c.self.inside.offsets.items c.args.self.now (length c.args.self.now) c.self.invariant c.self.view_is (omega arith) in
    let whole = ap sum (take-length c.args.self.now) in
    grind (arith, common_steps)
