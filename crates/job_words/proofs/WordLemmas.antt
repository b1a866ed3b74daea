-- Words, piece by piece and one after the other.
use Rattle.std.proofs.Common.{◌≡◌, ◌≢◌, ℕ, ◌+◌, ◌-◌, ◌<◌, ◌≤◌, Bool, true, false, not, cond, ltb, leb, List, [], ◌∷◌, length, get_or, take, drop, Option, Some, None, Ok, Err, refl, sym, ap, ◌∙◌, inl, inr, arith}
use Rattle.std.specs.Prelude.{Result, ◌==◌}
use Rattle.std.specs.Result.{result_ok}
use Rattle.std.specs.List.{list_all, position_or_len, before_first, after_first}
use Rattle.std.specs.Option.{unwrap_or}
use Rattle.std.proofs.lemmas.Bool.{cases_lt, le-ltb, lt-ltb, le-leb, lt-leb, leb-false, ne_eqb, cond-true, cond-false}
use Rattle.std.proofs.lemmas.List.{drop_all, take_all, take_rest}
use Rattle.std.proofs.lemmas.List.Sums.{prefix_len-le-length}
use Rattle.input_defs.specs.line_defs.Numbers.{is_digit, number_of_digits}
use Rattle.input_defs.specs.scan_defs.Numbers.{uint_of}
use Rattle.input_defs.specs.declared.scan_defs.NumberFault.{NumberFault}
use Rattle.input_defs.specs.declared.Kind.{Kind}
use Rattle.input_defs.specs.declared.Kind.TheVariants.{Tri, Quad, Tet, Hex}
use Rattle.input_defs.specs.Words.{Made, made_of_size, most}

-- ---- a kind and a number

-- the place that `position` found, or the length
pub place_or_length : (test : ℕ → Bool) (bs : List ℕ) (found : Option ℕ) (n : ℕ) → found ≡ cond (ltb (position_or_len test bs) (length bs)) (Some (position_or_len test bs)) None → n ≡ unwrap_or found (length bs) → n ≡ position_or_len test bs
place_or_length test bs found n f u =
    elim (cases_lt (position_or_len test bs) (length bs)) [
      | inl lt ↦ u ∙ ap (λ o. unwrap_or o (length bs)) (f ∙ cond-true _ _ _ (lt-ltb _ _ lt))
      | inr le ↦ u ∙ (ap (λ o. unwrap_or o (length bs)) (f ∙ cond-false _ _ _ (le-ltb _ _ le)) ∙ omega (arith, prefix_len-le-length (λ b. not (test b)) bs))
    ]

pub all_before : (test : ℕ → Bool) (bs : List ℕ) (n : ℕ) → n ≡ position_or_len test bs → n ≡ length bs → bs ≡ before_first test bs
all_before test bs n is all = sym (take_all (position_or_len test bs) bs (omega arith))

pub none_after : (test : ℕ → Bool) (bs : List ℕ) (n : ℕ) → n ≡ position_or_len test bs → n ≡ length bs → [] ≡ after_first test bs
none_after test bs n is all = sym (drop_all (position_or_len test bs + 1) bs (omega arith))

pub rest_after : (test : ℕ → Bool) (bs : List ℕ) (n : ℕ) → n ≡ position_or_len test bs → take (length bs - (n + 1)) (drop (n + 1) bs) ≡ after_first test bs
rest_after test bs n is = take_rest bs (n + 1) ∙ ap (λ k. drop (k + 1) bs) is

-- ---- the size of a generated mesh

few : (kind : Kind) → most kind ≤ 500
few Tri = omega arith
few Quad = omega arith
few Tet = omega arith
few Hex = omega arith

-- digits that are refused
no_digits : (kind : Kind) (ds : List ℕ) → list_all is_digit ds ≡ false → 1 ≤ length ds → made_of_size kind ds ≡ None
no_digits kind ds digits some = rw (le-leb _ _ some, digits) refl

zero_at : (kind : Kind) (ds : List ℕ) (digits some : Bool) → list_all is_digit ds ≡ digits → leb 1 (length ds) ≡ some → get_or ds 0 0 ≡ 48 → made_of_size kind ds ≡ None
zero_at kind ds false true e f zero = rw (e, f) refl
zero_at kind ds false false e f zero = rw (e, f) refl
zero_at kind ds true false e f zero = rw (e, f) refl
zero_at kind ds true true e f zero = rw (e, f, zero) refl

pub zero_first : (kind : Kind) (ds : List ℕ) → get_or ds 0 0 ≡ 48 → made_of_size kind ds ≡ None
zero_first kind ds zero = zero_at kind ds _ _ refl refl zero

great : (kind : Kind) (ds : List ℕ) → list_all is_digit ds ≡ true → 1 ≤ length ds → get_or ds 0 0 ≢ 48 → most kind < number_of_digits ds → made_of_size kind ds ≡ None
great kind ds digits some other lt = rw (le-leb _ _ some, digits, ne_eqb _ _ other, lt-leb _ _ lt) refl

fits : (kind : Kind) (ds : List ℕ) → list_all is_digit ds ≡ true → 1 ≤ length ds → get_or ds 0 0 ≢ 48 → number_of_digits ds ≤ most kind → made_of_size kind ds ≡ Some (Made kind (number_of_digits ds))
fits kind ds digits some other le = rw (le-leb _ _ some, digits, ne_eqb _ _ other, le-leb _ _ le) refl

some_at : (kind : Kind) (ds : List ℕ) (n : ℕ) (digits small : Bool) → list_all is_digit ds ≡ digits → leb (number_of_digits ds) 4294967295 ≡ small → 1 ≤ length ds → get_or ds 0 0 ≢ 48 → uint_of ds ≡ Ok n → n ≤ most kind
    → made_of_size kind ds ≡ Some (Made kind n)
unfolding uint_of
some_at kind ds n true true e f some other read le =
    let read' = rw (le-leb _ _ some, e, f) at read in
    let n-is : number_of_digits ds ≡ n = cc in
    fits kind ds e some other (omega arith) ∙ ap (λ k. Some (Made kind k)) n-is
some_at kind ds n true false e f some other read le = let read' = rw (le-leb _ _ some, e, f) at read in cc
some_at kind ds n false small e f some other read le = let read' = rw (le-leb _ _ some, e) at read in cc

great_at : (kind : Kind) (ds : List ℕ) (n : ℕ) (digits small : Bool) → list_all is_digit ds ≡ digits → leb (number_of_digits ds) 4294967295 ≡ small → 1 ≤ length ds → get_or ds 0 0 ≢ 48 → uint_of ds ≡ Ok n → most kind < n
    → made_of_size kind ds ≡ None
unfolding uint_of
great_at kind ds n true true e f some other read lt =
    let read' = rw (le-leb _ _ some, e, f) at read in
    let n-is : number_of_digits ds ≡ n = cc in
    great kind ds e some other (omega arith)
great_at kind ds n true false e f some other read lt = let read' = rw (le-leb _ _ some, e, f) at read in cc
great_at kind ds n false small e f some other read lt = let read' = rw (le-leb _ _ some, e) at read in cc

none_at : (kind : Kind) (ds : List ℕ) (fault : NumberFault) (digits small : Bool) → list_all is_digit ds ≡ digits → leb (number_of_digits ds) 4294967295 ≡ small → 1 ≤ length ds → get_or ds 0 0 ≢ 48 → uint_of ds ≡ Err fault
    → made_of_size kind ds ≡ None
unfolding uint_of
none_at kind ds fault true true e f some other read = let read' = rw (le-leb _ _ some, e, f) at read in cc
none_at kind ds fault true false e f some other read = great kind ds e some other (let most-few = few kind in let above = leb-false _ _ f in omega arith)
none_at kind ds fault false small e f some other read = no_digits kind ds e some

-- a number of a mesh file, where the digits begin with no zero
pub read_some : (kind : Kind) (ds : List ℕ) (n : ℕ) → 1 ≤ length ds → get_or ds 0 0 ≢ 48 → uint_of ds ≡ Ok n → n ≤ most kind → made_of_size kind ds ≡ Some (Made kind n)
read_some kind ds n some other e le = some_at kind ds n _ _ refl refl some other e le

pub read_great : (kind : Kind) (ds : List ℕ) (n : ℕ) → 1 ≤ length ds → get_or ds 0 0 ≢ 48 → uint_of ds ≡ Ok n → most kind < n → made_of_size kind ds ≡ None
read_great kind ds n some other e lt = great_at kind ds n _ _ refl refl some other e lt

pub read_none : (kind : Kind) (ds : List ℕ) (fault : NumberFault) → 1 ≤ length ds → get_or ds 0 0 ≢ 48 → uint_of ds ≡ Err fault → made_of_size kind ds ≡ None
read_none kind ds fault some other e = none_at kind ds fault _ _ refl refl some other e

-- ---- numbers

pub some_bytes : (bs : List ℕ) → (length bs == 0) ≡ false → 1 ≤ length bs
some_bytes [] e = cc
some_bytes (b ∷ bs) e = omega arith

pub ok_some : {T E : Type 0} (r : Result T E) (x : T) → result_ok r ≡ Some x → r ≡ Ok x
ok_some (Ok y) x e = cc
ok_some (Err d) x e = cc

pub ok_none : {T E : Type 0} (r : Result T E) → result_ok r ≡ None → (e : E) × (r ≡ Err e)
ok_none (Ok y) e = cc
ok_none (Err d) e = (d, refl)
