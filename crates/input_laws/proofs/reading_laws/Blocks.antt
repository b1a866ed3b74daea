-- The blocks of a file along its header lines.
use Rattle.std.proofs.Common.{◌≡◌, ℕ, List, [], ◌∷◌, map, length, Some, None, refl, sym, ap, ap₂, ◌∙◌}
use Rattle.input_defs.specs.declared.scan_defs.Token.{Token}
use Rattle.input_defs.specs.scan_defs.Lines.{line_number}
use Rattle.input_defs.specs.scan_defs.Items.{Item, Header, Word, Spot, text_of, ahead, body, after_body, items}
use Rattle.input_defs.specs.scan_defs.Steps.{line_ahead, next_header, ahead_after_header}
use Rattle.input_defs.specs.Bodies.{lexeme_of}
use Rattle.input_defs.specs.Files.{blocks_of, ending_line}
use Rattle.input_laws.specs.reading_laws.Lexemes.{lexemes, beyond, end_line}
use Rattle.input_laws.specs.reading_laws.Blocks.{blocks, last_line}

-- tokens before a header line say nothing
after-blocks : (bytes : List ℕ) (items : List Item) → blocks_of bytes (after_body items) ≡ blocks_of bytes items
unfolding blocks_of
after-blocks bytes [] = refl
after-blocks bytes (Header name ∷ items) = refl
after-blocks bytes (Word token ∷ items) = after-blocks bytes items

-- the blocks of a whole file
pub blocks-all : (bytes : List ℕ) → blocks (beyond (record { bytes = bytes; place = 0 })) ≡ blocks_of bytes (items bytes)
unfolding blocks beyond
blocks-all bytes = after-blocks bytes (items bytes)

header-block : (bytes : List ℕ) (items : List Item) (name : Token) → Some name ≡ next_header items
    → blocks_of bytes items ≡ record { name = text_of bytes name; line = name.line; body = map (lexeme_of bytes) (body (ahead_after_header items)) } ∷ blocks_of bytes (ahead_after_header items)
unfolding blocks_of
header-block bytes [] name is = absurd cc
header-block bytes (Header n ∷ items) name is = let same : name ≡ n = cc is in ap (λ (t : Token). record { name = text_of bytes t; line = t.line; body = map (lexeme_of bytes) (body items) } ∷ blocks_of bytes items) (sym same)
header-block bytes (Word token ∷ items) name is = header-block bytes items name is

no-block : (bytes : List ℕ) (items : List Item) → None ≡ next_header items → blocks_of bytes items ≡ []
unfolding blocks_of
no-block bytes [] is = refl
no-block bytes (Header n ∷ items) is = absurd cc
no-block bytes (Word token ∷ items) is = no-block bytes items is

-- a header line begins the next block, whose body the scan then stands in
pub blocks-some : (old new : Spot) (name : Token) (text : List ℕ) → Some name ≡ next_header (ahead old) → ahead new ≡ ahead_after_header (ahead old) → new.bytes ≡ old.bytes → text ≡ text_of new.bytes name
    → blocks (beyond old) ≡ record { name = text; line = name.line; body = lexemes new } ∷ blocks (beyond new)
unfolding blocks beyond lexemes
blocks-some old new name text is goes bytes text_is =
    after-blocks old.bytes (ahead old)
    ∙ header-block old.bytes (ahead old) name is
    ∙ ap₂ (λ bs items. record { name = text_of bs name; line = name.line; body = map (lexeme_of bs) (body items) } ∷ blocks_of bs items) (sym bytes) (sym goes)
    ∙ ap₂ (λ t bs. record { name = t; line = name.line; body = map (lexeme_of new.bytes) (body (ahead new)) } ∷ bs) (sym text_is) (sym (after-blocks new.bytes (ahead new)))

pub blocks-none : (old : Spot) → None ≡ next_header (ahead old) → blocks (beyond old) ≡ []
unfolding blocks beyond
blocks-none old is = after-blocks old.bytes (ahead old) ∙ no-block old.bytes (ahead old) is

pub last-same : (old new : Spot) → new.bytes ≡ old.bytes → last_line (beyond new) ≡ last_line (beyond old)
unfolding last_line beyond
last-same old new bytes = ap (λ bs. line_number bs (length bs)) bytes

pub last-is : (old : Spot) → line_number old.bytes (length old.bytes) ≡ last_line (beyond old)
unfolding last_line beyond
last-is old = refl

-- a body ends at the line of the next block, or of the end of the file
ends : (bytes : List ℕ) (items : List Item) → ending_line (line_number bytes (length bytes)) (blocks_of bytes (after_body items)) ≡ line_ahead bytes (after_body items)
unfolding blocks_of
ends bytes [] = refl
ends bytes (Header name ∷ items) = refl
ends bytes (Word token ∷ items) = ends bytes items

pub ending-is : (s : Spot) → ending_line (last_line (beyond s)) (blocks (beyond s)) ≡ end_line (beyond s)
unfolding last_line blocks beyond end_line
ending-is s = ends s.bytes (ahead s)
