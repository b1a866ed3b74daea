use Rattle.std.proofs.Common.{length, ap, ◌∙◌}
use Rattle.spread_tests.proofs.orient_tests.Moved.{length-moved}
use Rattle.spread_tests.proofs.orient_tests.moves.moved_words.Goals as goal

pub returns : goal.returns
returns c = ap length c.in_ok-moved_field.ensures ∙ length-moved _ _ _
