-- The lines of refusals.
use Rattle.std.specs.Prelude.{ℕ, List, ◌++◌, codes}
use Rattle.input_defs.specs.text_defs.Text.{line}

-- the greatest length of a file in bytes
abbrev pub most_bytes : ℕ
most_bytes = 268435456

-- the words are not accepted
unfoldable pub words_refused : List ℕ
words_refused = line (codes "refused: words")

-- a file could not be read
unfoldable pub read_refused : List ℕ → List ℕ
read_refused name = line (codes "refused: read " ++ name)

-- a file is longer than the limit
unfoldable pub too_long_refused : List ℕ → List ℕ
too_long_refused name = line (codes "refused: too long " ++ name ++ codes " 268435457")
