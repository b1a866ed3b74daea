use Rattle.rank_laws.proofs.orient_laws.Rising.{rising-numbers}
use Rattle.rank_laws.proofs.orient_laws.rising_lists_with_the_same_members_are_equal.Goals as goal

pub returns : goal.returns
returns c = rising-numbers
