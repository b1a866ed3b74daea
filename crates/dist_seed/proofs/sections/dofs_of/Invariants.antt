use Rattle.std.proofs.Common.{◌≡◌, take}
use Rattle.plan_reader.specs.Drafts.{counts_of}
use Rattle.dist_seed.proofs.sections.dofs_of.Given as goal

abbrev pub invariant-loop-i : goal.invariant-loop-i
invariant-loop-i l = l.dofs.items ≡ counts_of (take l.i l.plan.plan.dofs)
