-- The parts of a fixed-point number, against the definition.
use Rattle.std.proofs.Common.{◌≡◌, ℕ, suc, ◌+◌, ◌-◌, ◌*◌, ◌^◌, ◌<◌, ◌≤◌, ◌+ℤ◌, ◌-ℤ◌, min, Bool, true, false, not, cond, ltb, leb, ◌&&◌, ◌||◌, List, [], ◌∷◌, ◌++◌, length, Some, None, Ok, Err, ℤ, pos, refl, sym, ap, ◌∙◌, inl, inr, ◌⊎◌, arith}
use Rattle.std.specs.List.{list_any, list_all, position_or_len, before_first, after_first}
use Rattle.std.proofs.lemmas.Bool.{lt-ltb, le-ltb, and_parts, cases_lt}
use Rattle.std.proofs.lemmas.List.{length-take, length-drop}
use Rattle.input_defs.specs.line_defs.Numbers.{is_digit, number_of_digits}
use Rattle.input_defs.specs.declared.scan_defs.NumberFault.TheVariants.{NotNumber, OutOfRange}
use Rattle.input_defs.specs.scan_defs.Numbers.{is_whole, is_sign, is_minus, without_sign, with_sign, Decimal, is_mark, is_decimal_point, mantissa, exponent, has_exponent, whole_part, fraction, is_fixed, power, decimal_of, scaled, fixed_value, fixed_of}
use Rattle.input_defs.proofs.scan_defs.Huge.{value-is, value-out}
use Rattle.scan.specs.declared.parts.Power.{Power}
use Rattle.scan.specs.declared.parts.Parts.{Parts}
use Rattle.scan.specs.Parts.{text_after_first, power_read, HasParts}
use Rattle.scan.specs.Rounding.{in_range, magnitude_in_range}
use Rattle.scan.proofs.Runs.{cond-none, cond-some}
use Rattle.scan.proofs.Rounds.{in_range-some, in_range-none, magnitude-is}

-- ---- whether there is an exponent

any-cons : (b l : Bool) (n len : ℕ) → l ≡ ltb n len → (b || l) ≡ ltb (cond (not b) (1 + n) 0) (suc len)
any-cons true l n len e = sym (lt-ltb 0 (suc len) (omega arith))
any-cons false l n len e = elim (cases_lt n len) [
  | inl lt ↦ e ∙ lt-ltb n len lt ∙ sym (lt-ltb (1 + n) (suc len) (omega arith))
  | inr ge ↦ e ∙ le-ltb n len ge ∙ sym (le-ltb (1 + n) (suc len) (omega arith))
]

any-place : (test : ℕ → Bool) (xs : List ℕ) → list_any test xs ≡ ltb (position_or_len test xs) (length xs)
any-place test [] = refl
any-place test (x ∷ xs) = any-cons (test x) (list_any test xs) (position_or_len test xs) (length xs) (any-place test xs)

abbrev Marks : List ℕ → Type 0
Marks u = ((list_any is_mark u ≡ false) × (text_after_first is_mark u ≡ None)) ⊎ ((list_any is_mark u ≡ true) × (text_after_first is_mark u ≡ Some (after_first is_mark u)))

marks-at : (u : List ℕ) (b : Bool) → ltb (position_or_len is_mark u) (length u) ≡ b → Marks u
marks-at u true e = inr (any-place is_mark u ∙ e, rw e refl)
marks-at u false e = inl (any-place is_mark u ∙ e, rw e refl)

marks : (u : List ℕ) → Marks u
marks u = marks-at u (ltb (position_or_len is_mark u) (length u)) refl

-- ---- tokens of another shape

pub not-digits : (token whole part : List ℕ) → whole ≡ whole_part token → part ≡ fraction token → is_whole (whole ++ part) ≡ false → is_fixed token ≡ false
not-digits token whole part w f none =
    let e : is_whole (whole_part token ++ fraction token) ≡ false = rw (w, f) at none in
    ap (λ b. b && (not (has_exponent token) || is_whole (without_sign (exponent token)))) e

fixed-at : (d h p : Bool) → d ≡ true → h ≡ true → p ≡ false → (d && (not h || p)) ≡ false
fixed-at d h p a b c = rw (a, b, c) refl

pub not-power : (token : List ℕ) → is_whole (whole_part token ++ fraction token) ≡ true → None ≡ power_read (text_after_first is_mark (without_sign token)) → is_fixed token ≡ false
not-power token digits none = elim (marks (without_sign token)) [
  | inl free ↦ let e = rw free.1 at none in absurd (cc e)
  | inr marked ↦ let e = rw marked.1 at none in fixed-at (is_whole (whole_part token ++ fraction token)) (has_exponent token) (is_whole (without_sign (exponent token))) digits marked.0 (cond-none (is_whole (without_sign (exponent token))) _ e)
]

-- ---- tokens of this shape

-- the number after `e`, and how it was read
pub record HasPower (token : List ℕ) (read : Power) : Type 0 where
  pub size : ℕ
  pub value : power token ≡ with_sign read.minus size
  pub capped : read.size ≡ min size (2 ^ 64 - 1)
  pub shape : (not (has_exponent token) || is_whole (without_sign (exponent token))) ≡ true

shape-none : (h p : Bool) → h ≡ false → (not h || p) ≡ true
shape-none h p e = rw e refl

shape-some : (h p : Bool) → p ≡ true → (not h || p) ≡ true
shape-some true p e = e
shape-some false p e = refl

value-none : (h : Bool) (x : ℤ) → h ≡ false → cond h x (pos 0) ≡ pos 0
value-none h x e = rw e refl

value-some : (h : Bool) (x : ℤ) → h ≡ true → cond h x (pos 0) ≡ x
value-some h x e = rw e refl

pub power-is : (token : List ℕ) (read : Power) → Some read ≡ power_read (text_after_first is_mark (without_sign token)) → HasPower token read
power-is token read e = elim (marks (without_sign token)) [
  | inl free ↦
      let s = rw free.1 at e in
      let r : read ≡ record { minus = false; size = 0 } = cc s in
      record {
        size = 0;
        value = value-none (has_exponent token) _ free.0 ∙ rw r refl;
        capped = rw r (omega arith);
        shape = shape-none (has_exponent token) (is_whole (without_sign (exponent token))) free.0;
      }
  | inr marked ↦
      let s = rw marked.1 at e in
      let both = cond-some (is_whole (without_sign (exponent token))) (record { minus = is_minus (exponent token); size = min (number_of_digits (without_sign (exponent token))) (2 ^ 64 - 1) }) read s in
      record {
        size = number_of_digits (without_sign (exponent token));
        value = value-some (has_exponent token) _ marked.0 ∙ rw both.1 refl;
        capped = rw both.1 refl;
        shape = shape-some (has_exponent token) (is_whole (without_sign (exponent token))) both.0;
      }
]

pub has-parts : (token : List ℕ) (parts : Parts) → parts.minus ≡ is_minus token → parts.whole.now ≡ whole_part token → parts.fraction.now ≡ fraction token
    → is_whole (parts.whole.now ++ parts.fraction.now) ≡ true → Some parts.power ≡ power_read (text_after_first is_mark (without_sign token)) → HasParts token parts
has-parts token parts m w f digits p =
    let e : is_whole (whole_part token ++ fraction token) ≡ true = rw (w, f) at digits in
    record {
      fixed = both-true (is_whole (whole_part token ++ fraction token)) (not (has_exponent token) || is_whole (without_sign (exponent token))) e (power-is token parts.power p).shape;
      minus = m;
      whole = w;
      fraction = f;
      power = p;
    }
  where
    both-true : (a b : Bool) → a ≡ true → b ≡ true → (a && b) ≡ true
    both-true a b x y = rw (x, y) refl

-- ---- lengths

length-without_sign : (token : List ℕ) → length (without_sign token) ≤ length token
length-without_sign [] = omega arith
length-without_sign (b ∷ bs) = at (is_sign b)
  where
    at : (c : Bool) → length (cond c bs (b ∷ bs)) ≤ length (b ∷ bs)
    at true = omega arith
    at false = omega arith

length-both : (test : ℕ → Bool) (xs : List ℕ) → length (before_first test xs) + length (after_first test xs) ≤ length xs
length-both test xs =
    let a = length-take (position_or_len test xs) xs in
    let b = length-drop (position_or_len test xs + 1) xs in
    omega (arith, a, b)

pub length-parts : (token : List ℕ) → length (whole_part token) + length (fraction token) ≤ length token
length-parts token =
    let a = length-without_sign token in
    let b = length-both is_mark (without_sign token) in
    let c = length-both is_decimal_point (mantissa token) in
    omega (arith, a, b, c)

-- ---- values

pub digits-of : (token : List ℕ) (parts : Parts) → HasParts token parts → list_all is_digit (parts.whole.now ++ parts.fraction.now) ≡ true
digits-of token parts h =
    let both = and_parts (is_whole (whole_part token ++ fraction token)) (not (has_exponent token) || is_whole (without_sign (exponent token))) h.fixed in
    rw (h.whole, h.fraction) (and_parts (leb 1 (length (whole_part token ++ fraction token))) (list_all is_digit (whole_part token ++ fraction token)) both.0).1

-- the parts as the definition has them
abbrev decimal-from : List ℕ → Decimal
decimal-from token = record { minus = is_minus token; digits = whole_part token ++ fraction token; exponent = power token -ℤ pos (length (fraction token)) }

decimal-is : (token : List ℕ) → is_fixed token ≡ true → fixed_of token ≡ fixed_value (decimal-from token)
unfolding decimal_of fixed_of
decimal-is token e = rw e refl

pub magnitude-exact : (token : List ℕ) (parts : Parts) → HasParts token parts → length token < 2 ^ 63
    → in_range (scaled (number_of_digits (whole_part token ++ fraction token)) ((power token -ℤ pos (length (fraction token))) +ℤ pos 10)) ≡ magnitude_in_range parts.whole.now parts.fraction.now parts.power
magnitude-exact token parts h short =
    let p = power-is token parts.power h.power in
    let all = digits-of token parts h in
    let n = length-parts token in
    let e : in_range (scaled (number_of_digits (whole_part token ++ fraction token)) ((with_sign parts.power.minus p.size -ℤ pos (length (fraction token))) +ℤ pos 10))
    ≡ magnitude_in_range (whole_part token) (fraction token) (record { minus = parts.power.minus; size = min p.size (2 ^ 64 - 1) })
    = magnitude-is (whole_part token) (fraction token) parts.power.minus p.size (rw (h.whole, h.fraction) at all) (omega arith) in
    rw (p.value, h.whole, h.fraction) (e ∙ ap (λ (s : ℕ). magnitude_in_range (whole_part token) (fraction token) (record { minus = parts.power.minus; size = s })) (sym p.capped))

pub fixed-no : (token : List ℕ) → is_fixed token ≡ false → fixed_of token ≡ Err NotNumber
unfolding decimal_of fixed_of
fixed-no token e = rw e refl

pub fixed-out : (token : List ℕ) (parts : Parts) → HasParts token parts → length token < 2 ^ 63 → None ≡ magnitude_in_range parts.whole.now parts.fraction.now parts.power → fixed_of token ≡ Err OutOfRange
fixed-out token parts h short none = decimal-is token h.fixed ∙ value-out (decimal-from token) (in_range-none _ (none ∙ sym (magnitude-exact token parts h short)))

pub fixed-some : (token : List ℕ) (parts : Parts) (n : ℕ) → HasParts token parts → length token < 2 ^ 63 → Some n ≡ magnitude_in_range parts.whole.now parts.fraction.now parts.power
    → (n ≤ 9 * 10 ^ 18) × (fixed_of token ≡ Ok (with_sign parts.minus n))
fixed-some token parts n h short some =
    let r = in_range-some _ n (some ∙ sym (magnitude-exact token parts h short)) in
    let le : n ≤ 9 * 10 ^ 18 = rw (← r.0) at r.1 in
    (le, decimal-is token h.fixed ∙ rw h.minus (value-is (decimal-from token) n (sym r.0) le))
