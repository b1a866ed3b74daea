use Rattle.std.proofs.Common.{◌≡◌, ◌+◌, [], take, length}
use Rattle.sf_threads.specs.thread_rule.Rule.{view}
use Rattle.sf_threads.specs.Doing.{dones}
use Rattle.sf_threads.proofs.asking.do_asks.Given as goal

abbrev pub invariant-loop-i : goal.invariant-loop-i
invariant-loop-i g l =
    (l.seat.table_id ≡ l.initial.seat.table_id) × (l.seat.id ≡ l.initial.seat.id) × (length l.got ≡ length l.initial.asks)
    × (l.seat.me ≡ (view l.initial.rank (l.initial.rank + 1) (dones l.initial.rank (take l.i l.asks) (take l.i l.got)), []))
