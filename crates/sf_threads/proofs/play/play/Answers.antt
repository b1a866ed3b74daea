use Rattle.std.proofs.Common.{ℕ, List, [], sym, subst}
use Rattle.atomic_table.specs.Table.{opening}
use Rattle.sf_threads.specs.thread_rule.Rule.{Kept, everyone}
use Rattle.sf_threads.proofs.thread_rule.Moves.{begins}
use Rattle.sf_threads.proofs.play.play.Goals as goal

pub of_words-requires : goal.of_words-requires
of_words-requires g c = subst (λ (words : List ℕ). Kept c.args.key.now (opening words [] (everyone c.args.key.now))) (sym c.deref-2.ensures.value) (begins c.args.key.now)
