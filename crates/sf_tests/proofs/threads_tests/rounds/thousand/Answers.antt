use Rattle.std.proofs.Common.{◌≡◌, replicate, ap, ◌∙◌}
use Rattle.sf_tests.proofs.threads_tests.rounds.thousand.Goals as goal

pub returns : goal.returns
returns c = c.in_ok-from_array.ensures.items ∙ ap (replicate 1000) c.ask-one.ensures
