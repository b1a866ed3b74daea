-- Worked rows: the lines, header lines, tokens, quoted texts and numbers of small files.
use Rattle.std.proofs.Common.{◌≡◌, ℕ, true, false, List, [], ◌∷◌, map, pos, negsuc, Option, Some, None, Ok, Err, refl, arith}
use Rattle.std.specs.Prelude.{codes}
use Rattle.input_defs.specs.declared.scan_defs.Token.{Token}
use Rattle.input_defs.specs.declared.scan_defs.NumberFault.TheVariants.{NotNumber, OutOfRange}
use Rattle.input_defs.specs.line_defs.Rows.{lines_of}
use Rattle.input_defs.specs.scan_defs.Lines.{line_number, lines_from, is_indent, line_end, place_after_line}
use Rattle.input_defs.specs.scan_defs.Items.{Item, Header, Word, Spot, text_of, is_header, name_of, tokens_on, items_on, items_of, ahead, items, body}
use Rattle.input_defs.specs.scan_defs.Quotes.{quoted_on, quoted_from, quoted_in}
use Rattle.input_defs.specs.scan_defs.Steps.{place_after_token, next_header, place_after_header, place_after_quoted, ahead_after_quoted}
use Rattle.input_defs.specs.scan_defs.Numbers.{uint_of, int_of, decimal_of, scaled, fixed_value, fixed_of}
use Rattle.input_defs.proofs.scan_defs.Huge.{zero_at_any_exponent, out_of_range_far_above, zero_far_below}

-- a token from one place up to another, on this line
abbrev run : ℕ → ℕ → ℕ → Token
run start end line = record { start = start; end = end; line = line }

abbrev at : List ℕ → ℕ → Spot
at bytes place = record { bytes = bytes; place = place }

-- ---- lines, header lines and tokens

-- CR LF, a tab, blanks before a header line and after its name, a `$` in mid-line, an empty line, no LF at the end
abbrev mixed : List ℕ
mixed = codes "x\r\n \t$Nodes \r\n1\t0 $a\n\n2"

items_of_mixed : items mixed ≡ Word (run 0 1 1) ∷ Header (run 6 11 2) ∷ Word (run 14 15 3) ∷ Word (run 16 17 3) ∷ Word (run 18 20 3) ∷ Word (run 22 23 5) ∷ []
unfolding lines_of line_number lines_from is_indent name_of tokens_on items_on items_of ahead
items_of_mixed = refl

-- after a token a `$` begins no header line; in the blanks before one it does
ahead_in_mid_line : map (λ place. ahead (at mixed place)) (17 ∷ 20 ∷ 23 ∷ []) ≡ (Word (run 18 20 3) ∷ Word (run 22 23 5) ∷ []) ∷ (Word (run 22 23 5) ∷ []) ∷ [] ∷ []
unfolding lines_of line_number lines_from is_indent name_of tokens_on items_on items_of ahead
ahead_in_mid_line = refl

ahead_in_blanks : map (λ place. next_header (ahead (at mixed place))) (3 ∷ 4 ∷ 5 ∷ 6 ∷ []) ≡ Some (run 6 11 2) ∷ Some (run 6 11 2) ∷ Some (run 6 11 2) ∷ None ∷ []
unfolding lines_of line_number lines_from is_indent name_of tokens_on items_on items_of ahead
ahead_in_blanks = refl

line_numbers : map (line_number mixed) (0 ∷ 2 ∷ 3 ∷ 20 ∷ 21 ∷ 22 ∷ 23 ∷ []) ≡ 1 ∷ 1 ∷ 2 ∷ 3 ∷ 4 ∷ 5 ∷ 5 ∷ []
unfolding line_number
line_numbers = refl

-- the line of the end of a file whose last line has an LF is one more
line_after_the_last : line_number (codes "a\n") 2 ≡ 2
unfolding line_number
line_after_the_last = refl

-- blanks before `$` and at the end do not belong to the name, blanks after `$` do
names : map (λ line. text_of line (name_of (record { start = 0; number = 1; text = line }))) (codes "$Nodes" ∷ codes " \t$Nodes\t\r" ∷ codes "$ Nodes" ∷ codes "$" ∷ codes "$ " ∷ codes "$$a b" ∷ [])
    ≡ codes "Nodes" ∷ codes "Nodes" ∷ codes " Nodes" ∷ [] ∷ [] ∷ codes "$a b" ∷ []
unfolding name_of
names = refl

header_lines : map is_header (codes "$Nodes" ∷ codes " \t$" ∷ codes "a $" ∷ codes "" ∷ codes "  " ∷ codes "1" ∷ []) ≡ true ∷ true ∷ false ∷ false ∷ false ∷ false ∷ []
header_lines = refl

-- one triangle
abbrev triangle : List ℕ
triangle = codes "$MeshFormat\n2.2 0 8\n$EndMeshFormat\n$Nodes\n3\n1 0 0 0\n2 1 0 0\n3 0 1 0\n$EndNodes\n$Elements\n1\n1 2 2 0 1 1 2 3\n$EndElements\n"

abbrev words_from : ℕ → List (List ℕ)
words_from place = map (text_of triangle) (body (ahead (at triangle place)))

-- the body after the line `$Elements`, and after the third token of its element
body_of_elements : map words_from (88 ∷ 95 ∷ []) ≡ (codes "1" ∷ codes "1" ∷ codes "2" ∷ codes "2" ∷ codes "0" ∷ codes "1" ∷ codes "1" ∷ codes "2" ∷ codes "3" ∷ []) ∷ (codes "0" ∷ codes "1" ∷ codes "1" ∷ codes "2" ∷ codes "3" ∷ []) ∷ []
unfolding lines_of line_number lines_from is_indent name_of tokens_on items_on items_of ahead
body_of_elements = refl

abbrev names_from : List Item → List (List ℕ)
names_from [] = []
names_from (Header name ∷ items) = text_of triangle name ∷ names_from items
names_from (Word token ∷ items) = names_from items

names_of_triangle : names_from (items triangle) ≡ codes "MeshFormat" ∷ codes "EndMeshFormat" ∷ codes "Nodes" ∷ codes "EndNodes" ∷ codes "Elements" ∷ codes "EndElements" ∷ []
unfolding lines_of line_number lines_from is_indent name_of tokens_on items_on items_of ahead
names_of_triangle = refl

-- after `$MeshFormat`, after the tokens of its body, and at the header line that ended it
places_of_format : (place_after_header (at triangle 0) (next_header (items triangle)) ≡ 12) × (map (λ place. place_after_token (at triangle place) (ahead (at triangle place))) (12 ∷ 15 ∷ 17 ∷ 19 ∷ 20 ∷ []) ≡ 15 ∷ 17 ∷ 19 ∷ 20 ∷ 20 ∷ [])
unfolding lines_of line_number lines_from is_indent line_end place_after_line name_of tokens_on items_on items_of ahead
places_of_format = (refl, refl)

-- ---- quoted texts

abbrev quote_on : List ℕ → Option Token
quote_on line = quoted_on (record { start = 0; number = 1; text = line })

quotes : map quote_on (codes "\"a\"" ∷ codes " \"a b\"\t\r" ∷ codes "\"a \"b\" c\"" ∷ codes "\"\"" ∷ codes "\"\"\"" ∷ [])
    ≡ Some (run 1 2 1) ∷ Some (run 2 5 1) ∷ Some (run 1 8 1) ∷ Some (run 1 1 1) ∷ Some (run 1 2 1) ∷ []
unfolding quoted_on
quotes = refl

no_quotes : map quote_on (codes "\"" ∷ codes "\"a" ∷ codes "a\"" ∷ codes "x \"a\"" ∷ codes "\"a\" x" ∷ codes "" ∷ codes "  " ∷ codes "$\"a\"" ∷ []) ≡ None ∷ None ∷ None ∷ None ∷ None ∷ None ∷ None ∷ None ∷ []
unfolding quoted_on
no_quotes = refl

-- a quoted text on a later line, then a header line
abbrev named : List ℕ
named = codes "2 7\n\n  \"next line\" \n$End"

-- from the end of a line; from before another token; from the line's own end, before a header line; from the end
quotes_of_named : map (λ place. quoted_from (at named place)) (3 ∷ 0 ∷ 19 ∷ 24 ∷ []) ≡ Ok (run 8 17 3) ∷ Err 1 ∷ Err 4 ∷ Err 4 ∷ []
unfolding lines_of line_number lines_from quoted_on quoted_from
quotes_of_named = refl

-- the same by items
quotes_by_items : map (λ place. quoted_in named (ahead (at named place))) (3 ∷ 0 ∷ 19 ∷ 24 ∷ []) ≡ Ok (run 8 17 3) ∷ Err 1 ∷ Err 4 ∷ Err 4 ∷ []
unfolding lines_of line_number lines_from is_indent name_of tokens_on items_on items_of ahead quoted_on quoted_in
quotes_by_items = refl

-- the scan then stands at the end of that line, and the header line is ahead
after_the_quote : (place_after_quoted (at named 3) (Ok (run 8 17 3)) ≡ 19) × (ahead_after_quoted (ahead (at named 3)) (Ok (run 8 17 3)) ≡ Header (run 21 24 4) ∷ [])
unfolding lines_of line_number lines_from is_indent line_end name_of tokens_on items_on items_of ahead
after_the_quote = (refl, refl)

-- ---- whole numbers

unsigned_numbers : map uint_of (codes "0" ∷ codes "007" ∷ codes "4294967295" ∷ codes "4294967296" ∷ codes "99999999999999999999999999" ∷ codes "" ∷ codes "+1" ∷ codes "-1" ∷ codes "1.0" ∷ codes "1e0" ∷ codes "0x1" ∷ [])
    ≡ Ok 0 ∷ Ok 7 ∷ Ok 4294967295 ∷ Err OutOfRange ∷ Err OutOfRange ∷ Err NotNumber ∷ Err NotNumber ∷ Err NotNumber ∷ Err NotNumber ∷ Err NotNumber ∷ Err NotNumber ∷ []
unfolding uint_of
unsigned_numbers = refl

signed_numbers : map int_of (codes "0" ∷ codes "-0" ∷ codes "+12" ∷ codes "-12" ∷ codes "2147483647" ∷ codes "2147483648" ∷ codes "-2147483648" ∷ codes "-2147483649" ∷ codes "-" ∷ codes "+" ∷ codes "--1" ∷ codes "+-1" ∷ codes "1-" ∷ codes "" ∷ [])
    ≡ Ok (pos 0) ∷ Ok (pos 0) ∷ Ok (pos 12) ∷ Ok (negsuc 11) ∷ Ok (pos 2147483647) ∷ Err OutOfRange ∷ Ok (negsuc 2147483647) ∷ Err OutOfRange ∷ Err NotNumber ∷ Err NotNumber ∷ Err NotNumber ∷ Err NotNumber ∷ Err NotNumber ∷ Err NotNumber ∷ []
unfolding int_of
signed_numbers = refl

-- ---- fixed-point numbers

-- rounded half away from zero
rounded_numbers : map fixed_of (codes "0.00000000005" ∷ codes "-0.00000000005" ∷ codes "0.00000000004999" ∷ codes "0.00000000015" ∷ codes "0.00000000025" ∷ codes "-0.000000000349999999999999999999" ∷ codes "6.123233995736766e-17" ∷ codes "0.99999999995" ∷ [])
    ≡ Ok (pos 1) ∷ Ok (negsuc 0) ∷ Ok (pos 0) ∷ Ok (pos 2) ∷ Ok (pos 3) ∷ Ok (negsuc 2) ∷ Ok (pos 0) ∷ Ok (pos 10000000000) ∷ []
unfolding decimal_of scaled fixed_value fixed_of
rounded_numbers = refl

shapes_of_numbers : map fixed_of (codes ".5" ∷ codes "5." ∷ codes "-0" ∷ codes "+2.2" ∷ codes "1E2" ∷ codes "25e-1" ∷ codes "1.5e+3" ∷ codes "00001" ∷ codes "-.25e1" ∷ [])
    ≡ Ok (pos 5000000000) ∷ Ok (pos 50000000000) ∷ Ok (pos 0) ∷ Ok (pos 22000000000) ∷ Ok (pos 1000000000000) ∷ Ok (pos 25000000000) ∷ Ok (pos 15000000000000) ∷ Ok (pos 10000000000) ∷ Ok (negsuc 24999999999) ∷ []
unfolding decimal_of scaled fixed_value fixed_of
shapes_of_numbers = refl

greatest_numbers : map fixed_of (codes "9e8" ∷ codes "900000000.00000000004" ∷ codes "-900000000" ∷ codes "900000000.0000000001" ∷ codes "900000000.00000000005" ∷ codes "-900000000.00000000005" ∷ codes "1e9" ∷ codes "1e-400" ∷ [])
    ≡ Ok (pos 9000000000000000000) ∷ Ok (pos 9000000000000000000) ∷ Ok (negsuc 8999999999999999999) ∷ Err OutOfRange ∷ Err OutOfRange ∷ Err OutOfRange ∷ Err OutOfRange ∷ Ok (pos 0) ∷ []
unfolding decimal_of scaled fixed_value fixed_of
greatest_numbers = refl

no_fixed_numbers : map fixed_of (codes "e5" ∷ codes "1,5" ∷ codes "+" ∷ codes "nan" ∷ codes "" ∷ codes "." ∷ codes "-." ∷ codes "1e" ∷ codes "1e+" ∷ codes "1e5.0" ∷ codes "1e5e5" ∷ codes "1.2.3" ∷ codes "--1" ∷ codes ".e5" ∷ codes "1e--5" ∷ codes "0x10" ∷ codes "inf" ∷ codes "1e5 " ∷ [])
    ≡ Err NotNumber ∷ Err NotNumber ∷ Err NotNumber ∷ Err NotNumber ∷ Err NotNumber ∷ Err NotNumber ∷ Err NotNumber ∷ Err NotNumber ∷ Err NotNumber ∷ Err NotNumber ∷ Err NotNumber ∷ Err NotNumber ∷ Err NotNumber ∷ Err NotNumber ∷ Err NotNumber ∷ Err NotNumber ∷ Err NotNumber ∷ Err NotNumber ∷ []
unfolding decimal_of scaled fixed_value fixed_of
no_fixed_numbers = refl

-- huge exponents, by the laws

huge_exponent : fixed_of (codes "1e999999999999") ≡ Err OutOfRange
unfolding decimal_of fixed_of
huge_exponent = out_of_range_far_above (record { minus = false; digits = 49 ∷ []; exponent = pos 999999999999 }) 999999999999 refl (omega arith) (omega arith)

huge_exponent_of_zero : fixed_of (codes "-0e999999999999") ≡ Ok (pos 0)
unfolding decimal_of fixed_of
huge_exponent_of_zero = zero_at_any_exponent (record { minus = true; digits = 48 ∷ []; exponent = pos 999999999999 }) refl

huge_exponent_below : fixed_of (codes "-12.5e-999999999999") ≡ Ok (pos 0)
unfolding decimal_of fixed_of
huge_exponent_below = zero_far_below (record { minus = true; digits = 49 ∷ 50 ∷ 53 ∷ []; exponent = negsuc 999999999999 }) 999999999999 refl (omega arith) refl
