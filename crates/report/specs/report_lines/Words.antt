-- The words of a point in a field, one by one.
use Rattle.std.specs.Prelude.{ℕ, Bool, if◌then◌else◌, List, map, decimal}
use Rattle.input_defs.specs.line_defs.Numbers.{fixed_text}
use Rattle.input_defs.specs.Further.{field_text}
use Rattle.walk_defs.specs.step_defs.Words.{signed_of}

-- a word of a data section, which is a fixed-point value, or of another field
abbrev pub word_text : Bool → ℕ → List ℕ
word_text is_data word = if is_data then fixed_text (signed_of word) else decimal word

-- the words of a point in field i
abbrev pub words_by : Bool → ℕ → List ℕ → List ℕ
words_by is_data i words = field_text i (map (word_text is_data) words)
