use Rattle.std.proofs.Common.{arith}
use Rattle.scan.proofs.Rounds.{range-none, zeros-far}
use Rattle.scan.proofs.rounding.with_zeros.Goals as goal

pub returns-then-count-gt-MOST_ZEROS : goal.returns-then-count-gt-MOST_ZEROS
returns-then-count-gt-MOST_ZEROS c = range-none _ (zeros-far c.args.number c.args.count (omega arith) c.if-count-gt-MOST_ZEROS.true)
