-- Header lines as they are read.
use Rattle.std.specs.Prelude.{ℕ, List}
use Rattle.input_defs.specs.Bodies.{Lexeme}
use Rattle.input_defs.specs.Files.{Block, Known, Format, Names, Nodes, Elements, Data}
use Rattle.msh_reader.specs.declared.headers.Section.{Section}
use Rattle.msh_reader.specs.declared.headers.Section.TheVariants as section

abbrev pub known_of : Section → Known
known_of section.Format = Format
known_of section.Names = Names
known_of section.Nodes = Nodes
known_of section.Elements = Elements
known_of (section.Data on) = Data on

-- a header line with its body
abbrev pub block_of : List ℕ → ℕ → List Lexeme → Block
block_of name line body = record { name = name; line = line; body = body }
