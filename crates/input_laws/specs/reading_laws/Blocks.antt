-- The blocks of a file that are ahead of a scan: header lines, each with its body.
use Rattle.std.specs.Prelude.{ℕ, List, length}
use Rattle.input_defs.specs.scan_defs.Lines.{line_number}
use Rattle.input_defs.specs.Files.{Block, blocks_of}
use Rattle.input_laws.specs.reading_laws.Lexemes.{Beyond}

-- the blocks after a body
unfoldable pub blocks : Beyond → List Block
blocks b = blocks_of b.bytes b.items

-- the line of the end of the file
unfoldable pub last_line : Beyond → ℕ
last_line b = line_number b.bytes (length b.bytes)
