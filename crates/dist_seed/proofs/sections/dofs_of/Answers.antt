use Rattle.std.proofs.Common.{refl}
use Rattle.input_defs.specs.Plans.{DofsLine}
use Rattle.dist_seed.proofs.Listing.{images-pushed}
use Rattle.dist_seed.proofs.sections.dofs_of.Goals as goal

pub loop-i-preserved : goal.loop-i-preserved
loop-i-preserved c =
    let line : DofsLine = record { name = c.dof.result.0.now; dofs = c.dof.result.1 } in
    images-pushed (λ (d : DofsLine). d.dofs) c.args.plan.now.plan.dofs c.loop-i.i line c.loop-i.dofs.items c.push.new.self.items c.dof.result.1 c.dof.ensures c.in_ok-push.ensures.items c.loop-i.invariant refl
