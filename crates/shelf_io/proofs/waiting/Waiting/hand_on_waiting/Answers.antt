use Rattle.std.proofs.Common.{arith, ◌-◌, take, drop}
use Rattle.shelf_io.proofs.Handing.{rest_of_range, given_stays}
use Rattle.shelf_io.proofs.waiting.Waiting.hand_on_waiting.Goals as goal

pub returns-then-done-self-clause-bytes : goal.returns-then-done-self-clause-bytes
returns-then-done-self-clause-bytes g c =
    rw (rest_of_range c.args.self.now.room c.args.self.now.start c.hand_on-done.result c.args.self.now.end (omega arith))
    (given_stays _ _ c.hand_on-done.result (take (c.args.self.now.end - c.args.self.now.start) (drop c.args.self.now.start c.args.self.now.room)) c.hand_on-done.ensures.bytes)
