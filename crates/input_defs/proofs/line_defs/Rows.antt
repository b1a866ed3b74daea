-- Worked rows: lines, tokens and rows of small texts, numbers, and shortest decimal texts.
use Rattle.std.proofs.Common.{◌≡◌, [], ◌∷◌, map, pos, negsuc, Some, None, refl}
use Rattle.std.specs.Prelude.{codes}
use Rattle.std.specs.Fmt.{digits}
use Rattle.input_defs.specs.line_defs.Rows.{lines_of, tokens_of, rows_of}
use Rattle.input_defs.specs.line_defs.Numbers.{numeral, coordinate, fraction_digits, unsigned_fixed_text, fixed_text}

-- after an LF at the end stands an empty line
lines : map lines_of (codes "a\nb" ∷ codes "a\r\n" ∷ codes "\n" ∷ [] ∷ []) ≡ (codes "a" ∷ codes "b" ∷ []) ∷ (codes "a\r" ∷ [] ∷ []) ∷ ([] ∷ [] ∷ []) ∷ ([] ∷ []) ∷ []
unfolding lines_of
lines = refl

tokens : map tokens_of (codes " 1\t-2 \r" ∷ codes "$Nodes" ∷ codes " \t" ∷ []) ≡ (codes "1" ∷ codes "-2" ∷ []) ∷ (codes "$Nodes" ∷ []) ∷ [] ∷ []
unfolding tokens_of
tokens = refl

-- lines without tokens are no rows
rows : rows_of (codes "1 2\n\n \t\n3\r\n") ≡ (codes "1" ∷ codes "2" ∷ []) ∷ (codes "3" ∷ []) ∷ []
unfolding lines_of tokens_of rows_of
rows = refl

numerals : map numeral (codes "0" ∷ codes "17" ∷ codes "999999999" ∷ codes "1000000000" ∷ codes "01" ∷ codes "-1" ∷ codes "1a" ∷ [] ∷ []) ≡ Some 0 ∷ Some 17 ∷ Some 999999999 ∷ None ∷ None ∷ None ∷ None ∷ None ∷ []
unfolding numeral
numerals = refl

coordinates : map coordinate (codes "3" ∷ codes "-1" ∷ codes "-0" ∷ codes "900000000" ∷ codes "900000001" ∷ codes "1.5" ∷ codes "+1" ∷ codes "--1" ∷ [])
    ≡ Some (pos 30000000000) ∷ Some (negsuc 9999999999) ∷ Some (pos 0) ∷ Some (pos 9000000000000000000) ∷ None ∷ None ∷ None ∷ None ∷ []
unfolding numeral coordinate
coordinates = refl

-- zeros at the end of a fraction are left out, zeros after the point are not
shortest_texts : map fixed_text (pos 0 ∷ pos 1 ∷ negsuc 0 ∷ pos 2500000000 ∷ negsuc 12499999999 ∷ pos 10000000000 ∷ pos 120000000340 ∷ negsuc 8999999999999999999 ∷ [])
    ≡ codes "0" ∷ codes "0.0000000001" ∷ codes "-0.0000000001" ∷ codes "0.25" ∷ codes "-1.25" ∷ codes "1" ∷ codes "12.000000034" ∷ codes "-900000000" ∷ []
unfolding digits fraction_digits unsigned_fixed_text fixed_text
shortest_texts = refl
