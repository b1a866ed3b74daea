use Rattle.std.proofs.Common.{arith, sym, ap, ◌∙◌}
use Rattle.std.proofs.lemmas.Grind.{common_steps}
use Rattle.plex_section.specs.Starts.{starts, gaps}
use Rattle.plex_section.proofs.Starts.{gaps-starts, all_started}
use Rattle.plex_section.proofs.section.Section.layout.Goals as goal

pub invariant_of-result : goal.invariant_of-result
invariant_of-result c =
    let all = all_started c.loop-dof.offsets.items c.loop-dof.end c.args.dofs.now c.loop-dof.dof-index (c.loop-dof.invariant.rest) (grind (arith, common_steps)) in
    all ∙ ap starts (sym (gaps-starts c.args.dofs.now) ∙ ap gaps (sym all))

pub returns : goal.returns
returns c =
    let all = all_started c.loop-dof.offsets.items c.loop-dof.end c.args.dofs.now c.loop-dof.dof-index (c.loop-dof.invariant.rest) (grind (arith, common_steps)) in
    ap gaps all ∙ gaps-starts c.args.dofs.now
