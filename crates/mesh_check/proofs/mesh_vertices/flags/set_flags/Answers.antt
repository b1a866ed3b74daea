use Rattle.std.proofs.Common.{◌+◌, ◌<◌, length, take, sym, ◌∙◌, subst, arith}
use Rattle.mesh_check.proofs.mesh_vertices.Marking.{AreFlags, flags-known, flags-unknown}
use Rattle.mesh_check.proofs.mesh_vertices.flags.set_flags.Goals as goal
use Rattle.mesh_check.proofs.mesh_vertices.flags.set_flags.Goals.{in-Some, in_default}

pub loop-number-preserved : goal.loop-number-preserved
loop-number-preserved c test is =
    let low : c.loop-number.number-index < length c.args.numbers.now = omega arith in
    elim c.match-place.branch [
      | in-Some w ↦ subst (AreFlags test c.args.table.now (take (c.loop-number.number-index + 1) c.args.numbers.now)) (sym w.flags-is)
          (flags-known test c.args.table.now c.args.numbers.now c.loop-number.number-index w.in-Some.place c.loop-number.flags c.requires.differ low (sym c.place.ensures ∙ w.in-Some.is) (c.loop-number.invariant test is))
      | in_default w ↦ subst (AreFlags test c.args.table.now (take (c.loop-number.number-index + 1) c.args.numbers.now)) (sym w.flags-is)
          (flags-unknown test c.args.table.now c.args.numbers.now c.loop-number.number-index c.loop-number.flags low (sym c.place.ensures ∙ w.in_default.is) (c.loop-number.invariant test is))
    ]
