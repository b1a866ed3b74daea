-- Numbers and forms of a line.
use Rattle.std.proofs.Common.{◌≡◌, ◌≢◌, ℕ, ◌^◌, ◌<◌, ◌≤◌, Bool, true, false, leb, List, [], ◌∷◌, length, map, codes, ◌++◌, append_assoc, Option, Some, None, refl, sym, ap, ◌∙◌, arith}
use Rattle.std.specs.Prelude.{option_map, if◌then◌else◌}
use Rattle.std.specs.Option.{IfSome}
use Rattle.std.specs.Result.{result_ok}
use Rattle.std.specs.List.{list_all}
use Rattle.std.proofs.lemmas.Bool.{le-leb}
use Rattle.std.proofs.Math.Nat.{pow-le-pow_right}
use Rattle.plain_lists.specs.Lists.{same_list}
use Rattle.plain_lists.proofs.Finding.{same_tests}
use Rattle.plain_lists.proofs.Sorted.{same_list-turn}
use Rattle.input_defs.specs.line_defs.Numbers.{is_digit, number_of_digits}
use Rattle.input_defs.specs.scan_defs.Numbers.{uint_of}
use Rattle.input_defs.proofs.scan_defs.Huge.{number_of_digits-lt}
use Rattle.input_defs.specs.Plans.{Form, IsRanks, form_of, with_number, is_number, plan_numbers, dofs_of, show_of}
use Rattle.plan_reader.specs.Reading.{number_of, sole_number}

-- ---- numbers

-- at most nine digits write a number below 10^9
few_digits : (t : List ℕ) → list_all is_digit t ≡ true → length t ≤ 9 → number_of_digits t < 10 ^ 9
few_digits t digits le =
    let small = number_of_digits-lt t digits in
    let most : 10 ^ length t ≤ 10 ^ 9 = pow-le-pow_right (omega arith) le in
    omega arith

short_at : (t : List ℕ) (some digits : Bool) → leb 1 (length t) ≡ some → list_all is_digit t ≡ digits → length t ≤ 9 → result_ok (uint_of t) ≡ number_of t
unfolding uint_of
short_at t false digits e f le = rw e refl
short_at t true false e f le = rw (e, f, le-leb (length t) 9 le) refl
short_at t true true e f le =
    let small = few_digits t f le in
    let fits : number_of_digits t ≤ 4294967295 = omega arith in
    rw (e, f, le-leb (length t) 9 le, le-leb (number_of_digits t) 4294967295 fits) refl

-- of at most nine bytes, a number of a plan is one of a mesh file
pub number_short : (t : List ℕ) → length t ≤ 9 → result_ok (uint_of t) ≡ number_of t
number_short t le = short_at t _ _ refl refl le

bound_at : (t : List ℕ) (some few digits : Bool) → leb 1 (length t) ≡ some → leb (length t) 9 ≡ few → list_all is_digit t ≡ digits → length t ≤ 9 → IfSome (number_of t) (λ n. n < 10 ^ 9)
bound_at t true true true e f g le = rw (e, f, g) (few_digits t g le)
bound_at t true true false e f g le = rw (e, f, g) tt
bound_at t true false digits e f g le = rw (e, f) tt
bound_at t false few digits e f g le = rw e tt

pub number-bound : (t : List ℕ) → length t ≤ 9 → IfSome (number_of t) (λ n. n < 10 ^ 9)
number-bound t le = bound_at t _ _ _ refl refl refl le

-- ---- several numbers

abbrev pub Numbers : Type 0
Numbers = Option (List ℕ)

-- after numbers that were read before
abbrev pub behind : List ℕ → Numbers → Numbers
behind before found = option_map (λ ns. before ++ ns) found

more_at : (before : List ℕ) (t : List ℕ) (n : ℕ) (ts : List (List ℕ)) (one all : Bool) → is_number t ≡ one → list_all is_number ts ≡ all → number_of t ≡ Some n
    → behind before (plan_numbers (t ∷ ts)) ≡ behind (before ++ n ∷ []) (plan_numbers ts)
more_at before t n ts true false e f some = rw (e, f) refl
more_at before t n ts true true e f some =
    let n-is : number_of_digits t ≡ n = let h = rw e at some in cc in
    rw (e, f) (ap Some (rw n-is (sym (append_assoc before (n ∷ []) (map number_of_digits ts)))))
more_at before t n ts false all e f some = let h = rw e at some in cc

pub numbers-more : (before : List ℕ) (t : List ℕ) (n : ℕ) (ts : List (List ℕ)) → Some n ≡ number_of t → behind before (plan_numbers (t ∷ ts)) ≡ behind (before ++ n ∷ []) (plan_numbers ts)
numbers-more before t n ts some = more_at before t n ts _ _ refl refl (sym some)

none_at : (t : List ℕ) (ts : List (List ℕ)) (one : Bool) → is_number t ≡ one → number_of t ≡ None → plan_numbers (t ∷ ts) ≡ None
none_at t ts false e none = rw e refl
none_at t ts true e none = let h = rw e at none in cc

pub numbers-none : (before : List ℕ) (t : List ℕ) (ts : List (List ℕ)) → None ≡ number_of t → behind before (plan_numbers (t ∷ ts)) ≡ None
numbers-none before t ts none = rw (none_at t ts _ refl (sym none)) refl

-- ---- forms

-- a name and other than four tokens
dofs_none : (name a b c : List ℕ) (rest : List (List ℕ)) → length rest ≢ 1 → dofs_of (name ∷ a ∷ b ∷ c ∷ rest) ≡ None
dofs_none name a b c [] ne = refl
dofs_none name a b c (d ∷ []) ne = absurd (ne refl)
dofs_none name a b c (d ∷ x ∷ rest) ne = refl

pub dofs_refused : (ts ts1 ts2 ts3 ts4 : List (List ℕ)) (name a b c : List ℕ) → ts ≡ name ∷ ts1 → ts1 ≡ a ∷ ts2 → ts2 ≡ b ∷ ts3 → ts3 ≡ c ∷ ts4 → length ts4 ≢ 1 → dofs_of ts ≡ None
dofs_refused ts ts1 ts2 ts3 ts4 name a b c e f g h ne = rw (e, f, g, h) (dofs_none name a b c ts4 ne)

turned : (xs ys : List ℕ) → same_list xs ys ≡ same_list ys xs
turned xs ys = same_tests (same_list xs ys) (same_list ys xs) (same_list-turn xs ys) (same_list-turn ys xs)

-- the other way round, where a call compared
pub not_named : (t w name : List ℕ) (same : Bool) → w ≡ name → same ≡ same_list t w → same ≡ false → same_list name t ≡ false
not_named t w name same w-is same-is differ = turned name t ∙ (rw (← w-is) (sym same-is ∙ differ))

-- a word that names nothing which is shown
pub show_none : (ts : List (List ℕ)) (t : List ℕ) → ts ≡ t ∷ [] → same_list (codes "points") t ≡ false → same_list (codes "local") t ≡ false → same_list (codes "closure") t ≡ false
    → same_list (codes "trace") t ≡ false → same_list (codes "windows") t ≡ false → show_of ts ≡ None
show_none ts t e a b c d f = rw (e, a, b, c, d, f) refl

-- ---- a line that begins with a word

one_number : (form : ℕ → Form) (n : ℕ) (test : Bool) → (if test then Some (form n) else None) ≡ option_map form (if test then Some n else None)
one_number form n true = refl
one_number form n false = refl

with_number-is : (form : ℕ → Form) (ts : List (List ℕ)) → with_number form ts ≡ option_map form (sole_number ts)
with_number-is form [] = refl
with_number-is form (t ∷ u ∷ ts) = refl
with_number-is form (t ∷ []) = one_number form (number_of_digits t) (is_number t)

pub ranks_form : (word : List ℕ) (ts : List (List ℕ)) (w : List ℕ) (same : Bool) → w ≡ codes "ranks" → same ≡ same_list word w → same ≡ true → form_of word ts ≡ option_map IsRanks (sole_number ts)
unfolding form_of
ranks_form word ts w same w-is same-is named =
    let test : same_list word (codes "ranks") ≡ true = rw (← w-is) (sym same-is ∙ named) in
    rw test (with_number-is IsRanks ts)
