use Rattle.std.proofs.Common.{rules, sym, ap, ◌∙◌}
use Rattle.std.proofs.lemmas.Bool.{cond-true, cond-false, le-leb, lt-leb}
use Rattle.plain_lists.specs.Lists.{sorted}
use Rattle.mesh_laws.proofs.Turns.{sorted-two}
use Rattle.local_points.proofs.Arrays.{two-of}
use Rattle.local_points.proofs.sets.rising_two.Goals as goal

pub returns-then-a-b : goal.returns-then-a-b
returns-then-a-b c = sym (ap sorted (two-of c.args.ends (search rules)) ∙ sorted-two _ _ ∙ cond-true _ _ _ (le-leb _ _ c.if-a-b.true))

pub returns-else-a-b : goal.returns-else-a-b
returns-else-a-b c = sym (ap sorted (two-of c.args.ends (search rules)) ∙ sorted-two _ _ ∙ cond-false _ _ _ (lt-leb _ _ c.if-a-b.false))
