-- Numbers of tokens are in range.
use Rattle.std.proofs.Common.{◌≡◌, ℕ, zero, suc, ◌*◌, ◌^◌, ◌≤◌, Bool, true, false, cond, nat_le, List, ℤ, Ok, Err, refl, subst, arith}
use Rattle.std.specs.Prelude.{nat_abs, Option, Some, None}
use Rattle.std.proofs.lemmas.Bool.{leb-true}
use Rattle.std.proofs.lemmas.Int.{ints}
use Rattle.input_defs.specs.line_defs.Numbers.{number_of_digits}
use Rattle.input_defs.specs.declared.scan_defs.NumberFault.{NumberFault}
use Rattle.input_defs.specs.declared.scan_defs.NumberFault.TheVariants.{NotNumber, OutOfRange}
use Rattle.input_defs.specs.scan_defs.Numbers.{Decimal, is_whole, is_minus, without_sign, with_sign, uint_of, int_of, magnitude, fixed_value, fixed_where, fixed_of, decimal_of}
use Rattle.input_defs.specs.RightContent.{IsUnsigned, IsSigned, IsFixed}
use Rattle.input_laws.proofs.Yields.{ok, ok-same}

pub uint-in_range : (token : List ℕ) (n : ℕ) → uint_of token ≡ Ok n → IsUnsigned n
unfolding uint_of
uint-in_range token n h = go (is_whole token) (nat_le (number_of_digits token) 4294967295) refl h
  where
    go : (a b : Bool) → nat_le (number_of_digits token) 4294967295 ≡ b → cond a (cond b (Ok (number_of_digits token)) (Err OutOfRange)) (Err NotNumber) ≡ ok {E = NumberFault} n → IsUnsigned n
    go true true e t = let same : number_of_digits token ≡ n = ok-same t in let low = leb-true _ _ e in omega arith
    go true false e t = absurd (cc t)
    go false b e t = absurd (cc t)

signed-in_range : (minus : Bool) (n : ℕ) → n ≤ cond minus 2147483648 2147483647 → IsSigned (with_sign minus n)
signed-in_range true n low = (omega (arith, ints), omega (arith, ints))
signed-in_range false n low = (omega (arith, ints), omega (arith, ints))

pub int-in_range : (token : List ℕ) (z : ℤ) → int_of token ≡ Ok z → IsSigned z
unfolding int_of
int-in_range token z h = go (is_whole (without_sign token)) (nat_le m limit) refl h
  where
    m : ℕ
    m = number_of_digits (without_sign token)

    limit : ℕ
    limit = cond (is_minus token) 2147483648 2147483647

    go : (a b : Bool) → nat_le m limit ≡ b → cond a (cond b (Ok (with_sign (is_minus token) m)) (Err OutOfRange)) (Err NotNumber) ≡ ok {E = NumberFault} z → IsSigned z
    go true true e t = subst IsSigned (ok-same t) (signed-in_range (is_minus token) m (leb-true _ _ e))
    go true false e t = absurd (cc t)
    go false b e t = absurd (cc t)

abs-with_sign : (minus : Bool) (n : ℕ) → nat_abs (with_sign minus n) ≡ n
abs-with_sign true zero = refl
abs-with_sign true (suc n) = refl
abs-with_sign false n = refl

value-in_range : (x : Decimal) (v : ℤ) → fixed_value x ≡ Ok v → IsFixed v
unfolding fixed_value
value-in_range x v h = go (nat_le (magnitude x) (9 * 10 ^ 18)) refl h
  where
    go : (b : Bool) → nat_le (magnitude x) (9 * 10 ^ 18) ≡ b → cond b (Ok (with_sign x.minus (magnitude x))) (Err OutOfRange) ≡ ok {E = NumberFault} v → IsFixed v
    go true e t = subst IsFixed (ok-same t) (let same = abs-with_sign x.minus (magnitude x) in let low = leb-true _ _ e in omega arith)
    go false e t = absurd (cc t)

pub fixed-in_range : (token : List ℕ) (v : ℤ) → fixed_of token ≡ Ok v → IsFixed v
unfolding fixed_of
fixed-in_range token v h = go (decimal_of token) h
  where
    go : (o : Option Decimal) → fixed_where o ≡ Ok v → IsFixed v
    go None t = absurd (cc t)
    go (Some x) t = value-in_range x v t
