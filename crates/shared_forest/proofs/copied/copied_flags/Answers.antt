use Rattle.std.proofs.Common.{arith}
use Rattle.shared_forest.proofs.Flags.{flags-tell}
use Rattle.shared_forest.proofs.copied.copied_flags.Goals as goal

-- src/copied.rt:13:1
pub returns : goal.returns
returns g c = flags-tell (g.C.RankCharts.charts c.args.charts.now) c.args.rank c.loop-i.flags.items c.vertices-vertices.result.now c.vertices-vertices.ensures
    (λ j low. omega (arith, c.bound_of.ensures j low, c.loop-i.invariant.0, c.in_ok-flags.ensures.len))
    (λ j low. c.loop-i.invariant.1 j (omega (arith, low, c.loop-i-test.false)))
