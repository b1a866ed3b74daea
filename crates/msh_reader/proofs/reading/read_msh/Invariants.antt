use Rattle.std.proofs.Common.{◌≡◌, length}
use Rattle.input_defs.specs.Files.{Opening, said, content}
use Rattle.input_laws.specs.reading_laws.Lexemes.{beyond}
use Rattle.input_laws.specs.reading_laws.Blocks.{blocks, last_line}
use Rattle.msh_reader.specs.Taking.{parts_view}
use Rattle.msh_reader.proofs.reading.read_msh.Given as goal

abbrev pub invariant-loop-header : goal.invariant-loop-header
invariant-loop-header l = said (last_line (beyond l.scan)) Opening (parts_view l.parts) (blocks (beyond l.scan)) ≡ content l.bytes

abbrev pub decreases-loop-header : goal.decreases-loop-header
decreases-loop-header l = length (blocks (beyond l.scan))
