-- What a file says, from its first header line to its end.
use Rattle.std.proofs.Common.{◌≡◌, ◌≢◌, ℕ, List, [], length, Some, None, Ok, Err, refl, ap, ◌∙◌}
use Rattle.input_defs.specs.scan_defs.Items.{Spot}
use Rattle.input_defs.specs.scan_defs.Lines.{line_number}
use Rattle.input_defs.specs.declared.MshFault.{MshFault}
use Rattle.input_defs.specs.Files.{Block, Known, known, Parts, nothing, Expected, Opening, Closing, misplaced, with_section, cut_short, finished, said, content}
use Rattle.input_laws.specs.reading_laws.Lexemes.{lexemes, beyond}
use Rattle.input_laws.specs.reading_laws.Blocks.{blocks, last_line}
use Rattle.input_laws.proofs.reading_laws.Blocks.{blocks-all, ending-is}
use Rattle.msh_reader.specs.declared.trouble.Trouble.{Trouble}
use Rattle.msh_reader.specs.Going.{fault_where, no_memory}
use Rattle.msh_reader.specs.Taking.{TakesBody, said_after}
use Rattle.msh_reader.proofs.Saying.{section-taken, section-fault}

-- the fault of a body that ends too early, from where a scan stands in it
abbrev pub ended_at : List ℕ → Spot → MshFault
ended_at name s = cut_short (last_line (beyond s)) name (blocks (beyond s))

-- a section is taken over from a body
pub body-taken : (k : Known) (parts new : Parts) (name : List ℕ) (line : ℕ) (s : Spot) → known name ≡ Some k → misplaced parts line k ≡ None → TakesBody k parts s (Ok new)
    → said_after name line parts s ≡ said (last_line (beyond s)) (Closing name) new (blocks (beyond s))
body-taken k parts new name line s is right takes =
    section-taken (last_line (beyond s)) parts new name line (lexemes s) (blocks (beyond s)) k is right
    (ap (λ end. with_section end (ended_at name s) parts k (lexemes s)) (ending-is s) ∙ takes (ended_at name s))

pub body-fault : (k : Known) (parts : Parts) (t : Trouble) (name : List ℕ) (line : ℕ) (s : Spot) → known name ≡ Some k → misplaced parts line k ≡ None → TakesBody k parts s (Err t) → t ≢ no_memory
    → said_after name line parts s ≡ Err (fault_where (ended_at name s) t)
body-fault k parts t name line s is right takes ne =
    section-fault (last_line (beyond s)) parts name line (lexemes s) (blocks (beyond s)) k (fault_where (ended_at name s) t) is right
    (ap (λ end. with_section end (ended_at name s) parts k (lexemes s)) (ending-is s) ∙ takes ne (ended_at name s))

-- ---- a whole file

pub content-begins : (bytes : List ℕ) (s : Spot) (parts : Parts) → s ≡ record { bytes = bytes; place = 0 } → parts ≡ nothing → said (last_line (beyond s)) Opening parts (blocks (beyond s)) ≡ content bytes
unfolding content last_line beyond
content-begins bytes s parts is none = rw (is, none) (ap (said (line_number bytes (length bytes)) Opening nothing) (blocks-all bytes))

pub content-ends : (end : ℕ) (expected : Expected) (parts : Parts) (blocks : List Block) → blocks ≡ [] → said end expected parts blocks ≡ finished end expected parts
unfolding said
content-ends end expected parts blocks is = rw is refl
