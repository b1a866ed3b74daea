use Rattle.std.proofs.Common.{arith}
use Rattle.shelf_io.proofs.Handing.{range_extended}
use Rattle.shelf_io.proofs.waiting.Waiting.keep.Goals as goal

pub returns-clause-waits : goal.returns-clause-waits
returns-clause-waits g c = rw c.copy_from_slice.ensures.after (range_extended c.args.self.now.room c.args.bytes.now _ c.args.self.now.start c.args.self.now.end (c.args.self.now.in_range.0) (omega arith))
