use Rattle.std.proofs.Common.{◌≡◌, ◌≤◌, length}
use Rattle.input_defs.specs.Files.{Parts, Skipping, said}
use Rattle.input_laws.specs.reading_laws.Lexemes.{beyond}
use Rattle.input_laws.specs.reading_laws.Blocks.{blocks, last_line}
use Rattle.msh_reader.proofs.headers.skip_section.Given as goal

abbrev pub invariant-loop-next : goal.invariant-loop-next
invariant-loop-next l = record {
  same : last_line (beyond l.scan) ≡ last_line (beyond l.fn.scan);
  left : (parts : Parts) → said (last_line (beyond l.fn.scan)) (Skipping l.name) parts (blocks (beyond l.fn.scan)) ≡ said (last_line (beyond l.fn.scan)) (Skipping l.name) parts (blocks (beyond l.scan));
  fewer : length (blocks (beyond l.scan)) ≤ length (blocks (beyond l.fn.scan));
}

abbrev pub decreases-loop-next : goal.decreases-loop-next
decreases-loop-next l = length (blocks (beyond l.scan))
