-- Numbers of picks, one after another.
use Rattle.std.proofs.Common.{◌≡◌, ℕ, ◌+◌, ◌-◌, ◌^◌, ◌<◌, ◌≤◌, Bool, true, false, not, cond, ◌&&◌, ◌||◌, ◌==◌, List, [], ◌∷◌, ◌++◌, length, get_or, take, drop, Option, Some, None, Ok, Err, refl, sym, ap, arith, append_assoc}
use Rattle.std.specs.Prelude.{nat_le}
use Rattle.std.specs.Result.{result_ok}
use Rattle.std.specs.List.{list_all, position_or_len}
use Rattle.std.proofs.lemmas.Bool.{leb-false, leb-true, le-leb}
use Rattle.std.proofs.lemmas.List.{take_rest}
use Rattle.std.proofs.Math.Nat.{pow-le-pow_right}
use Rattle.input_defs.specs.line_defs.Rows.{parts}
use Rattle.input_defs.specs.line_defs.Numbers.{is_digit, number_of_digits, numeral}
use Rattle.input_defs.specs.declared.scan_defs.NumberFault.TheVariants.{OutOfRange, NotNumber}
use Rattle.input_defs.specs.scan_defs.Numbers.{uint_of}
use Rattle.input_defs.proofs.scan_defs.Huge.{number_of_digits-lt}
use Rattle.headline_defs.specs.Picks.{and_more}
use Rattle.plan_reader.proofs.Lines.{parts_first, parts_none}
use Rattle.plex_job.specs.Pieces.{before_others}

module _ (t : List ℕ) where
  abbrev size : ℕ
  size = length t

  abbrev zero_first : Bool
  zero_first = get_or t 0 0 == 48

  -- a token that is too long, or has a zero in front
  pub numeral-long : 9 < size → numeral t ≡ None
  unfolding numeral
  numeral-long long = go (nat_le 1 size) (nat_le size 9) refl
    where
      go : (a b : Bool) → nat_le size 9 ≡ b → cond ((a && b) && (list_all is_digit t && ((size == 1) || not zero_first))) (Some (number_of_digits t)) None ≡ None
      go true true is = absurd (let few = leb-true size 9 is in omega (arith, few, long))
      go true false is = refl
      go false b is = refl

  pub numeral-padded : (not (size == 1) && zero_first) ≡ true → numeral t ≡ None
  unfolding numeral
  numeral-padded padded = go (nat_le 1 size && nat_le size 9) (list_all is_digit t) (size == 1) zero_first padded
    where
      go : (a d e z : Bool) → (not e && z) ≡ true → cond (a && (d && (e || not z))) (Some (number_of_digits t)) None ≡ None
      go true true true z is = absurd (cc is)
      go true true false true is = refl
      go true true false false is = absurd (cc is)
      go true false e z is = refl
      go false d e z is = refl

  small : list_all is_digit t ≡ true → size ≤ 9 → number_of_digits t ≤ 4294967295
  small digits few = let low = number_of_digits-lt t digits in let most : 10 ^ size ≤ 10 ^ 9 = pow-le-pow_right (omega arith) few in omega (arith, low, most)

  -- another one is read as a number
  pub numeral-read : size ≤ 9 → (not (size == 1) && zero_first) ≡ false → result_ok (uint_of t) ≡ numeral t
  unfolding numeral uint_of
  numeral-read few unpadded = go (nat_le 1 size) (nat_le size 9) (list_all is_digit t) (size == 1) zero_first (nat_le (number_of_digits t) 4294967295) (le-leb size 9 few) refl unpadded refl
    where
      go : (a b d e z u : Bool) → b ≡ true → list_all is_digit t ≡ d → (not e && z) ≡ false → nat_le (number_of_digits t) 4294967295 ≡ u
          → result_ok (cond (a && d) (cond u (Ok (number_of_digits t)) (Err OutOfRange)) (Err NotNumber)) ≡ cond ((a && b) && (d && (e || not z))) (Some (number_of_digits t)) None
      go true true true true z true is digits zero fits = refl
      go true true true false true true is digits zero fits = absurd (cc zero)
      go true true true false false true is digits zero fits = refl
      go true true true e z false is digits zero fits = absurd (let low = leb-false (number_of_digits t) 4294967295 fits in omega (arith, low, small digits few))
      go true true false e z u is digits zero fits = refl
      go true false d e z u is digits zero fits = absurd (cc is)
      go false b d e z u is digits zero fits = refl

-- ---- parts

pub last-part : (bs : List ℕ) (n : ℕ) → n ≡ position_or_len (λ b. b == 44) bs → n ≡ length bs → parts (λ b. b == 44) bs ≡ bs ∷ []
last-part bs n is all = parts_none (λ b. b == 44) bs (omega (arith, is, all))

pub first-part : (bs : List ℕ) (n : ℕ) → n ≡ position_or_len (λ b. b == 44) bs → n < length bs → parts (λ b. b == 44) bs ≡ take n bs ∷ parts (λ b. b == 44) (take (length bs - (n + 1)) (drop (n + 1) bs))
first-part bs n is low =
    let h = parts_first (λ b. b == 44) bs (omega (arith, is, low)) in
    rw (take_rest bs (n + 1), is) h

-- ---- the loop

pub picks-more : (picks : List ℕ) (n : ℕ) (others : Option (List ℕ)) → before_others picks (and_more (Some n) others) ≡ before_others (picks ++ n ∷ []) others
picks-more picks n None = refl
picks-more picks n (Some ns) = ap Some (sym (append_assoc picks (n ∷ []) ns))
