-- Tokens of the shape of a fixed-point number, of any value.
use Rattle.std.proofs.Common.{◌≡◌, ℕ, Bool, true, false, List, Some, None, Ok, Err, refl, sym, ◌∙◌, ◌^◌, ◌*◌}
use Rattle.std.specs.Prelude.{Option, Result, is_some, ok_or, if◌then◌else◌, nat_le, ℤ}
use Rattle.input_defs.specs.declared.scan_defs.NumberFault.{NumberFault}
use Rattle.input_defs.specs.declared.scan_defs.NumberFault.TheVariants.{NotNumber, OutOfRange}
use Rattle.input_defs.specs.scan_defs.Numbers.{Decimal, decimal_of, fixed_value, fixed_where, fixed_of, magnitude, with_sign}
use Rattle.input_defs.specs.declared.DataFault.{DataFault}
use Rattle.input_defs.specs.Bodies.{Lexeme, Faults, read_on, with_rest, number_where}
use Rattle.input_defs.specs.DataSections.{real}
use Rattle.input_laws.specs.reading_laws.Lexemes.{IsNext}
use Rattle.input_laws.specs.reading_laws.Going.{passed}

value-is : (x : Decimal) (e : NumberFault) → fixed_value x ≡ Err e → e ≡ OutOfRange
unfolding fixed_value
value-is x e = go (nat_le (magnitude x) (9 * 10 ^ 18)) (with_sign x.minus (magnitude x))
  where
    go : (b : Bool) (v : ℤ) → (if b then Ok v else Err OutOfRange) ≡ Err e → e ≡ OutOfRange
    go true v h = absurd (cc h)
    go false v h = cc h

where-shape : (o : Option Decimal) (answer : Result ℤ NumberFault) → answer ≡ fixed_where o → (answer ≡ Err NotNumber → is_some o ≡ false) × ((answer ≡ Err NotNumber → ⊥) → is_some o ≡ true)
where-shape None answer is = ((λ h. refl), (λ h. absurd (h is)))
where-shape (Some x) answer is = ((λ h. absurd (cc (value-is x NotNumber (sym is ∙ h)))), (λ h. refl))

-- a token is a number, or out of range, where it has the shape
pub shape-not : (text : List ℕ) → Err NotNumber ≡ fixed_of text → is_some (decimal_of text) ≡ false
unfolding fixed_of
shape-not text is = (where-shape (decimal_of text) _ is).0 refl

pub shape-range : (text : List ℕ) → Err OutOfRange ≡ fixed_of text → is_some (decimal_of text) ≡ true
unfolding fixed_of
shape-range text is = (where-shape (decimal_of text) _ is).1 (λ h. cc h)

pub shape-ok : (text : List ℕ) (x : ℤ) → Ok x ≡ fixed_of text → is_some (decimal_of text) ≡ true
unfolding fixed_of
shape-ok text x is = (where-shape (decimal_of text) _ is).1 (λ h. cc h)

-- such a token is passed, and another one is a fault
passes : (faults : Faults DataFault) (line : ℕ) (rest : List Lexeme) (o : Option Decimal) → is_some o ≡ true → read_on (λ x faults body. Ok (tt {0}, body)) faults (with_rest rest (number_where faults line (λ l x. Ok x) (ok_or o NotNumber))) ≡ Ok (tt, rest)
passes faults line rest None is = absurd (cc is)
passes faults line rest (Some x) is = refl

fails : (faults : Faults DataFault) (line : ℕ) (rest : List Lexeme) (o : Option Decimal) → is_some o ≡ false → read_on (λ x faults body. Ok (tt {0}, body)) faults (with_rest rest (number_where faults line (λ l x. Ok x) (ok_or o NotNumber))) ≡ Err (faults.number NotNumber line)
fails faults line rest None is = refl
fails faults line rest (Some x) is = absurd (cc is)

pub real-ok : (faults : Faults DataFault) (text : List ℕ) (line : ℕ) (before after : List Lexeme) → IsNext text line before after → is_some (decimal_of text) ≡ true → passed real faults before ≡ Ok (tt, after)
real-ok faults text line before after next is = rw next.first (passes faults next.token.line after (decimal_of next.token.text) (rw next.text_is is))

pub real-err : (faults : Faults DataFault) (text : List ℕ) (line : ℕ) (before after : List Lexeme) → IsNext text line before after → is_some (decimal_of text) ≡ false → passed real faults before ≡ Err (faults.number NotNumber line)
real-err faults text line before after next is = rw (next.first, ← next.line_is) (fails faults next.token.line after (decimal_of next.token.text) (rw next.text_is is))
