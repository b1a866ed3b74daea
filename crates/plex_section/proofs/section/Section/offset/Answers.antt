use Rattle.std.proofs.Common.{arith, ◌∙◌}
use Rattle.std.proofs.lemmas.List.{get_or_read}
use Rattle.plex_section.proofs.Starts.{length-stored, get_or-stored}
use Rattle.plex_section.proofs.section.Section.offset.Goals as goal

pub index-requires : goal.index-requires
index-requires c = let count = length-stored c.self.inside.offsets.items c.args.self.now c.self.invariant c.self.view_is in omega (arith, c.requires)

pub returns : goal.returns
returns c =
    let count = length-stored c.self.inside.offsets.items c.args.self.now c.self.invariant c.self.view_is in
    let place = get_or-stored c.self.inside.offsets.items c.args.self.now c.args.p c.self.invariant c.self.view_is (omega (arith, c.requires)) in
    get_or_read c.self.inside.offsets.items c.args.p c.index.result.now (omega (arith, c.requires)) c.index.ensures 0 ∙ place
