-- The digits after the point, one after another.
use Rattle.std.proofs.Common.{◌≡◌, ℕ, zero, suc, ◌+◌, ◌-◌, ◌/◌, ◌%◌, ◌^◌, ◌<◌, Bool, true, false, cond, eqb, List, [], ◌∷◌, ◌++◌, refl, sym, ap, ◌∙◌, append_assoc, arith}
use Rattle.std.proofs.Common.{length, take, lit<}
use Rattle.std.proofs.Math.Nat.{mod-lt, div-lt_iff_lt-mul, pow-succ'}
use Rattle.std.proofs.lemmas.Bool.{eqb-true}
use Rattle.std.proofs.lemmas.List.{append-nil, length-take, take-append-le}
use Rattle.input_defs.specs.line_defs.Numbers.{fraction_digits}

-- no digit stands for nothing
pub fraction_digits-zero : (places : ℕ) → fraction_digits places 0 ≡ []
unfolding fraction_digits
fraction_digits-zero zero = refl
fraction_digits-zero (suc places) = refl

-- a choice by a test that fails
otherwise : (b : Bool) (xs ys : List ℕ) → (b ≡ true → ⊥) → cond b xs ys ≡ ys
otherwise true xs ys h = absurd (h refl)
otherwise false xs ys h = refl

-- one digit, and then the others
fraction_digits-suc : (places rest : ℕ) → (rest ≡ 0 → ⊥) → fraction_digits (suc places) rest ≡ (48 + rest / 10 ^ places) ∷ fraction_digits places (rest % 10 ^ places)
unfolding fraction_digits
fraction_digits-suc places rest some = otherwise (eqb rest 0) [] ((48 + rest / 10 ^ places) ∷ fraction_digits places (rest % 10 ^ places)) (λ e. some (eqb-true rest 0 e))

-- a text and the digits that are left make the whole also with one digit more
pub fraction-more : (text whole : List ℕ) (places rest : ℕ) → 0 < places → (rest ≡ 0 → ⊥) → text ++ fraction_digits places rest ≡ whole
    → (text ++ (48 + rest / 10 ^ (places - 1)) ∷ []) ++ fraction_digits (places - 1) (rest % 10 ^ (places - 1)) ≡ whole
fraction-more text whole zero rest some left e = absurd (omega arith)
fraction-more text whole (suc places) rest some left e =
    let one : suc places - 1 ≡ places = omega arith in
    rw one (append_assoc text ((48 + rest / 10 ^ places) ∷ []) (fraction_digits places (rest % 10 ^ places)) ∙ ap (λ (xs : List ℕ). text ++ xs) (sym (fraction_digits-suc places rest left)) ∙ e)

-- with a rest of 0, or no place left, the text is the whole
pub fraction-done : (text whole : List ℕ) (places rest : ℕ) → rest ≡ 0 → text ++ fraction_digits places rest ≡ whole → text ≡ whole
fraction-done text whole places rest none e = rw (none, fraction_digits-zero, append-nil) at e

pub fraction-end : (text whole : List ℕ) (places rest : ℕ) → places ≡ 0 → text ++ fraction_digits places rest ≡ whole → text ≡ whole
unfolding fraction_digits
fraction-end text whole places rest none e = rw (none, append-nil) at e

ten_pos : (k : ℕ) → 0 < 10 ^ k
ten_pos zero = lit< tt
ten_pos (suc k) = rw (pow-succ' 10 k) (let h = ten_pos k in omega arith)

-- the first of some places is one digit
first_digit : (places rest : ℕ) → rest < 10 ^ suc places → rest / 10 ^ places < 10
first_digit places rest fits = (div-lt_iff_lt-mul (ten_pos places)).1 (rw (pow-succ' 10 places) at fits)

-- one turn of the loop that appends the digits
pub fraction-step : (old new whole : List ℕ) (places rest unit : ℕ) → 0 < places → (rest ≡ 0 → ⊥) → rest < 10 ^ places → unit ≡ 10 ^ (places - 1) → new ≡ old ++ (48 + rest / unit) ∷ []
    → old ++ fraction_digits places rest ≡ whole → (rest % unit < 10 ^ (places - 1)) × (new ++ fraction_digits (places - 1) (rest % unit) ≡ whole)
fraction-step old new whole places rest unit left some fits u n e =
    (rw u (mod-lt rest (ten_pos (places - 1))), rw (n, u) (fraction-more old whole places rest left some e))

-- the digit that is appended
pub first-digit : (places rest unit : ℕ) → 0 < places → rest < 10 ^ places → unit ≡ 10 ^ (places - 1) → rest / unit < 10
first-digit zero rest unit left fits u = absurd (omega arith)
first-digit (suc places) rest unit left fits u =
    let one : suc places - 1 ≡ places = omega arith in
    rw (u, one) (first_digit places rest fits)

-- ---- a text that begins with another one

pub front-append : (old text more : List ℕ) → take (length old) text ≡ old → take (length old) (text ++ more) ≡ old
front-append old text more e =
    let n = length-take (length old) text in
    let m = ap length e in
    take-append-le (length old) text more (omega (arith, n, m)) ∙ e
