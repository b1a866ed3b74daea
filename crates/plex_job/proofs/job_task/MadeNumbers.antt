-- A made mesh that words ask for has a number of its kind.
use Rattle.std.proofs.Common.{◌≡◌, refl, ℕ, ◌+◌, ◌-◌, ◌*◌, ◌≤◌, Bool, true, false, cond, not, ◌&&◌, ◌==◌, List, [], ◌∷◌, length, get_or, map, Option, Some, None, subst, arith}
use Rattle.std.specs.Prelude.{nat_le, option_and_then}
use Rattle.std.specs.List.{AllByRecursion, list_all, before_first, after_first}
use Rattle.std.specs.Int.Digits.{number_from_digits_after}
use Rattle.std.proofs.lemmas.Bool.{and_parts, leb-true, eqb-false}
use Rattle.std.proofs.lemmas.Int.Digits.{number_after_ge}
use Rattle.input_defs.specs.line_defs.Numbers.{is_digit, number_of_digits}
use Rattle.input_defs.specs.declared.Kind.{Kind}
use Rattle.input_defs.specs.Words.{Source, File, Made, Request, request, most, kind_named, made_of_size, made_of}
use Rattle.input_laws.specs.word_laws.Items.{Item, PlanItem, MadeItem, SummaryItem, MeshItem, IsRight, sources_of}
use Rattle.input_laws.proofs.word_laws.Items.{accepted_are_listed}

-- a made mesh has a number of its kind
abbrev pub IsSized : Source → Type 0
IsSized (File name) = Unit {0}
IsSized (Made kind n) = (1 ≤ n) × (n ≤ most kind)

-- digits that do not begin with 0 write no 0
positive : (digits : List ℕ) → 1 ≤ length digits → list_all is_digit digits ≡ true → (get_or digits 0 0 == 48) ≡ false → 1 ≤ number_of_digits digits
positive [] some all first = omega (arith, some)
positive (d ∷ ds) some all first =
    let digit = and_parts (is_digit d) (list_all is_digit ds) all in
    let low = leb-true 48 d (and_parts (nat_le 48 d) (nat_le d 57) digit.0).0 in
    let at_least : 0 * 10 + (d - 48) ≤ number_from_digits_after 10 (0 * 10 + (d - 48)) (map (λ b. b - 48) ds) = number_after_ge 10 (0 * 10 + (d - 48)) (map (λ b. b - 48) ds) (omega arith) in
    omega (arith, at_least, low, eqb-false d 48 first)

sized_digits : (kind : Kind) (digits : List ℕ) (source : Source) → made_of_size kind digits ≡ Some source → IsSized source
sized_digits kind digits source e = go (nat_le 1 (length digits)) (list_all is_digit digits) (get_or digits 0 0 == 48) (nat_le (number_of_digits digits) (most kind)) refl refl refl refl e
  where
    go : (a b c d : Bool) → nat_le 1 (length digits) ≡ a → list_all is_digit digits ≡ b → (get_or digits 0 0 == 48) ≡ c → nat_le (number_of_digits digits) (most kind) ≡ d
        → cond (a && b && not c && d) (Some (Made kind (number_of_digits digits))) None ≡ Some source → IsSized source
    go true true false true some all first few is =
        let same : Made kind (number_of_digits digits) ≡ source = cc is in
        subst IsSized same (positive digits (leb-true 1 (length digits) some) all first, leb-true (number_of_digits digits) (most kind) few)
    go true true false false some all first few is = absurd (cc is)
    go true true true d some all first few is = absurd (cc is)
    go true false c d some all first few is = absurd (cc is)
    go false b c d some all first few is = absurd (cc is)

sized_word : (word : List ℕ) (source : Source) → made_of word ≡ Some source → IsSized source
unfolding made_of
sized_word word source e = go (kind_named (before_first (λ b. b == 58) word)) e
  where
    go : (o : Option Kind) → option_and_then (λ kind. made_of_size kind (after_first (λ b. b == 58) word)) o ≡ Some source → IsSized source
    go None is = absurd (cc is)
    go (Some kind) is = sized_digits kind (after_first (λ b. b == 58) word) source is

sized_items : (items : List Item) → AllByRecursion IsRight items → AllByRecursion IsSized (sources_of items)
sized_items [] right = tt
sized_items (PlanItem joined name ∷ items) right = sized_items items right.1
sized_items (MadeItem joined text source ∷ items) right = (sized_word text source right.0, sized_items items right.1)
sized_items (SummaryItem ∷ items) right = sized_items items right.1
sized_items (MeshItem name ∷ items) right = (tt, sized_items items right.1)

-- the source of accepted words
pub source-sized : (words : List (List ℕ)) (r : Request) → request words ≡ Some r → IsSized r.source
source-sized words r e =
    let made = accepted_are_listed words r e in
    (subst (AllByRecursion IsSized) made.listed.source (sized_items made.items made.listed.right)).0
