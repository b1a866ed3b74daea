use Rattle.std.proofs.Common.{arith}
use Rattle.std.proofs.lemmas.Grind.{common_steps}
use Rattle.shelf_io.specs.Room.{taken}
use Rattle.shelf_io.proofs.memory_sink.MemorySinkSink.write.Goals as goal

pub returns-then-is_some-clause-prints : goal.returns-then-is_some-clause-prints
returns-then-is_some-clause-prints c = (taken c.args.self.now c.args.bytes.now, grind (arith, common_steps))
