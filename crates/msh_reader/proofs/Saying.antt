-- What a file says along its header lines.
use Rattle.std.proofs.Common.{◌≡◌, ◌<◌, ℕ, true, false, List, [], ◌∷◌, length, Some, None, Ok, Err, refl, ap, arith}
use Rattle.std.specs.Prelude.{Result, IfOk, IfErr}
use Rattle.input_defs.specs.Bodies.{Lexeme}
use Rattle.input_defs.specs.declared.MshFault.{MshFault}
use Rattle.input_defs.specs.declared.MshFault.TheVariants.{Unclosed, Header as WrongHeader}
use Rattle.input_defs.specs.Files.{Block, Known, known, Parts, Opening, Closing, Skipping, closes, misplaced, with_section, ending_line, cut_short, is_wrong_header, with_block, said}
use Rattle.msh_reader.specs.Headers.{block_of}

-- ---- the closing line of a section

pub closing-ok : (end : ℕ) (name : List ℕ) (parts : Parts) (blocks rest : List Block) (block : Block) → blocks ≡ block ∷ rest → closes name block ≡ true → said end (Closing name) parts blocks ≡ said end Opening parts rest
unfolding said with_block
closing-ok end name parts blocks rest block is closes = rw (is, closes) refl

pub closing-err : (end : ℕ) (name : List ℕ) (parts : Parts) (blocks rest : List Block) (block : Block) → blocks ≡ block ∷ rest → closes name block ≡ false → said end (Closing name) parts blocks ≡ Err (Unclosed block.line)
unfolding said with_block
closing-err end name parts blocks rest block is closes = rw (is, closes) refl

pub closing-end : (end : ℕ) (name : List ℕ) (parts : Parts) (blocks : List Block) → blocks ≡ [] → said end (Closing name) parts blocks ≡ Err (Unclosed end)
unfolding said
closing-end end name parts blocks is = rw is refl

-- ---- a section that is skipped

pub skip-done : (end : ℕ) (name : List ℕ) (parts : Parts) (blocks rest : List Block) (block : Block) → blocks ≡ block ∷ rest → closes name block ≡ true → said end (Skipping name) parts blocks ≡ said end Opening parts rest
unfolding said with_block
skip-done end name parts blocks rest block is closes = rw (is, closes) refl

pub skip-more : (end : ℕ) (name : List ℕ) (parts : Parts) (blocks rest : List Block) (block : Block) → blocks ≡ block ∷ rest → closes name block ≡ false → said end (Skipping name) parts blocks ≡ said end (Skipping name) parts rest
unfolding said with_block
skip-more end name parts blocks rest block is closes = rw (is, closes) refl

pub skip-end : (end : ℕ) (name : List ℕ) (parts : Parts) (blocks : List Block) → blocks ≡ [] → said end (Skipping name) parts blocks ≡ Err (Unclosed end)
unfolding said
skip-end end name parts blocks is = rw is refl

-- there are fewer blocks after one
pub fewer : (blocks rest : List Block) (block : Block) → blocks ≡ block ∷ rest → length rest < length blocks
fewer blocks rest block is = let counts = ap length is in omega (arith, counts)

-- ---- a header line that begins a section

pub section-misplaced : (end : ℕ) (parts : Parts) (name : List ℕ) (line : ℕ) (body : List Lexeme) (blocks : List Block) (k : Known) (fault : MshFault) → known name ≡ Some k → misplaced parts line k ≡ Some fault
    → said end Opening parts (block_of name line body ∷ blocks) ≡ Err fault
unfolding said with_block
section-misplaced end parts name line body blocks k fault is wrong = rw (is, wrong) refl

pub section-taken : (end : ℕ) (parts new : Parts) (name : List ℕ) (line : ℕ) (body : List Lexeme) (blocks : List Block) (k : Known) → known name ≡ Some k → misplaced parts line k ≡ None
    → with_section (ending_line end blocks) (cut_short end name blocks) parts k body ≡ Ok new → said end Opening parts (block_of name line body ∷ blocks) ≡ said end (Closing name) new blocks
unfolding said with_block
section-taken end parts new name line body blocks k is right taken = rw (is, right, taken) refl

pub section-fault : (end : ℕ) (parts : Parts) (name : List ℕ) (line : ℕ) (body : List Lexeme) (blocks : List Block) (k : Known) (fault : MshFault) → known name ≡ Some k → misplaced parts line k ≡ None
    → with_section (ending_line end blocks) (cut_short end name blocks) parts k body ≡ Err fault → said end Opening parts (block_of name line body ∷ blocks) ≡ Err fault
unfolding said with_block
section-fault end parts name line body blocks k fault is right taken = rw (is, right, taken) refl

pub unknown-wrong : (end : ℕ) (parts : Parts) (name : List ℕ) (line : ℕ) (body : List Lexeme) (blocks : List Block) → known name ≡ None → is_wrong_header name ≡ true → said end Opening parts (block_of name line body ∷ blocks) ≡ Err (WrongHeader line)
unfolding said with_block
unknown-wrong end parts name line body blocks is wrong = rw (is, wrong) refl

pub unknown-skipped : (end : ℕ) (parts : Parts) (name : List ℕ) (line : ℕ) (body : List Lexeme) (blocks : List Block) → known name ≡ None → is_wrong_header name ≡ false → said end Opening parts (block_of name line body ∷ blocks) ≡ said end (Skipping name) parts blocks
unfolding said with_block
unknown-skipped end parts name line body blocks is right = rw (is, right) refl

-- ---- answers

pub where-ok : {A E : Type 0} {P Q : A → Type 0} (r : Result A E) → ((x : A) → P x → Q x) → IfOk r P → IfOk r Q
where-ok (Ok x) each p = each x p
where-ok (Err e) each p = tt

pub where-err : {A E : Type 0} {P Q : E → Type 0} (r : Result A E) → ((e : E) → P e → Q e) → IfErr r P → IfErr r Q
where-err (Ok x) each p = tt
where-err (Err e) each p = each e p
