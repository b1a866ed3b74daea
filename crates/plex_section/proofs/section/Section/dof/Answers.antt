use Rattle.std.proofs.Common.{◌+◌, arith, ◌∙◌}
use Rattle.std.proofs.lemmas.List.{get_or_read}
use Rattle.std.proofs.lemmas.List.Sums.{sum_by_more}
use Rattle.plex_section.proofs.Starts.{length-stored, get_or-stored}
use Rattle.plex_section.proofs.section.Section.dof.Goals as goal

pub index-requires : goal.index-requires
index-requires c = let count = length-stored c.self.inside.offsets.items c.args.self.now c.self.invariant c.self.view_is in omega (arith, c.requires)

pub index-requires-2 : goal.index-requires-2
index-requires-2 c = let count = length-stored c.self.inside.offsets.items c.args.self.now c.self.invariant c.self.view_is in omega (arith, c.requires)

pub overflow_sub-result : goal.overflow_sub-result
overflow_sub-result c =
    let count = length-stored c.self.inside.offsets.items c.args.self.now c.self.invariant c.self.view_is in
    let next = get_or_read c.self.inside.offsets.items (c.args.p + 1) c.index.result.now (omega (arith, c.requires)) c.index.ensures 0 ∙ get_or-stored c.self.inside.offsets.items c.args.self.now (c.args.p + 1) c.self.invariant c.self.view_is (omega (arith, c.requires)) in
    let first = get_or_read c.self.inside.offsets.items c.args.p c.index-2.result.now (omega (arith, c.requires)) c.index-2.ensures 0 ∙ get_or-stored c.self.inside.offsets.items c.args.self.now c.args.p c.self.invariant c.self.view_is (omega (arith, c.requires)) in
    let more = sum_by_more (λ n. n) c.args.self.now c.args.p 0 c.requires in
    omega (arith, next, first, more)

pub returns : goal.returns
returns c =
    let count = length-stored c.self.inside.offsets.items c.args.self.now c.self.invariant c.self.view_is in
    let next = get_or_read c.self.inside.offsets.items (c.args.p + 1) c.index.result.now (omega (arith, c.requires)) c.index.ensures 0 ∙ get_or-stored c.self.inside.offsets.items c.args.self.now (c.args.p + 1) c.self.invariant c.self.view_is (omega (arith, c.requires)) in
    let first = get_or_read c.self.inside.offsets.items c.args.p c.index-2.result.now (omega (arith, c.requires)) c.index-2.ensures 0 ∙ get_or-stored c.self.inside.offsets.items c.args.self.now c.args.p c.self.invariant c.self.view_is (omega (arith, c.requires)) in
    let more = sum_by_more (λ n. n) c.args.self.now c.args.p 0 c.requires in
    omega (arith, next, first, more)
