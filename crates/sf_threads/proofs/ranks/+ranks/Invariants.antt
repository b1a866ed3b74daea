use Rattle.std.proofs.Common.{length, ◌+◌, ◌*◌}
use Rattle.sf_threads.proofs.ranks.+ranks.Given as goal

abbrev pub decreases-do_all : goal.decreases-do_all
decreases-do_all g l = 3 * length l.asks.now

abbrev pub decreases-do_both : goal.decreases-do_both
decreases-do_both g l = 3 * length l.others.now + 2

abbrev pub decreases-do_both-back : goal.decreases-do_both-back
decreases-do_both-back g l = 3 * length l.others.now + 1
