-- How options are spelled.
use Rattle.std.proofs.Common.{◌≡◌, ℕ, Bool, true, false, ◌||◌, ◌&&◌, suc, [], ◌∷◌, ◌++◌, length, take, drop, codes, Option, Some, None, refl, sym, ap, subst, ◌∙◌, ◌+◌, arith}
use Rattle.std.specs.Prelude.{◌==◌, if◌then◌else◌}
use Rattle.std.specs.Str.{bytes_eq}
use Rattle.std.specs.Cmp.Lexicographic.{same_text}
use Rattle.std.proofs.lemmas.Bool.{eqb-true, eqb-false, ne_eqb}
use Rattle.std.specs.List.{after_first, before_first, position_or_len}
use Rattle.clap.specs.Lexer.{has_byte, name_and_value}
use Rattle.clap.specs.Walk.{Text}
use Rattle.input_defs.specs.Words.{Asked, Make, Plan, is_file_name, made_of, no_more, with_plan, with_source, with_word}
use Rattle.input_laws.proofs.command_laws.Asking.{with_summary}

-- a text is its name, or its name, `=` and its value
abbrev pub Spells : Text → Text × Option Text → Type 0
Spells text (name, None) = (text ≡ name) × (has_byte 61 name ≡ false)
Spells text (name, Some value) = (text ≡ name ++ 61 ∷ value) × (has_byte 61 name ≡ false)

-- a byte that is not c stands before the first c
pub cut_first : (c x : ℕ) (xs : Text) → (x == c) ≡ false → before_first (λ b. b == c) (x ∷ xs) ≡ x ∷ before_first (λ b. b == c) xs
cut_first c x xs e =
    let one : 1 + position_or_len (λ b. b == c) xs ≡ suc (position_or_len (λ b. b == c) xs) = omega arith in
    rw e (ap (λ n. take n (x ∷ xs)) one)

cut_after : (c x : ℕ) (xs : Text) → (x == c) ≡ false → after_first (λ b. b == c) (x ∷ xs) ≡ after_first (λ b. b == c) xs
cut_after c x xs e =
    let two : 1 + position_or_len (λ b. b == c) xs + 1 ≡ suc (position_or_len (λ b. b == c) xs + 1) = omega arith in
    rw e (ap (λ n. drop n (x ∷ xs)) two)

more : (x : ℕ) (xs : Text) → (x == 61) ≡ false → name_and_value (x ∷ xs) ≡ (x ∷ (name_and_value xs).0, (name_and_value xs).1)
more x xs e =
    let has : has_byte 61 (x ∷ xs) ≡ has_byte 61 xs = rw e refl in
    ap (λ (n : Text). (n, if has_byte 61 (x ∷ xs) then Some (after_first (λ b. b == 61) (x ∷ xs)) else None)) (cut_first 61 x xs e)
    ∙ (ap (λ (v : Text). (x ∷ before_first (λ b. b == 61) xs, if has_byte 61 (x ∷ xs) then Some v else None)) (cut_after 61 x xs e)
    ∙ ap (λ (t : Bool). (x ∷ before_first (λ b. b == 61) xs, if t then Some (after_first (λ b. b == 61) xs) else None)) has)

extended : (x : ℕ) (xs : Text) (p : Text × Option Text) → (x == 61) ≡ false → Spells xs p → Spells (x ∷ xs) (x ∷ p.0, p.1)
extended x xs (n, None) e s = (ap (λ ys. x ∷ ys) s.0, rw e s.1)
extended x xs (n, Some v) e s = (ap (λ ys. x ∷ ys) s.0, rw e s.1)

one_more : (x : ℕ) (xs : Text) (b : Bool) → (x == 61) ≡ b → Spells xs (name_and_value xs) → Spells (x ∷ xs) (name_and_value (x ∷ xs))
one_more x xs true e so = rw e (ap (λ y. y ∷ xs) (eqb-true x 61 e), refl)
one_more x xs false e so = subst (Spells (x ∷ xs)) (sym (more x xs e)) (extended x xs (name_and_value xs) e so)

pub spells : (text : Text) → Spells text (name_and_value text)
spells [] = (refl, refl)
spells (x ∷ xs) = one_more x xs _ refl (spells xs)

pub or_false : (a b : Bool) → (a || b) ≡ false → (a ≡ false) × (b ≡ false)
or_false false false e = (refl, refl)
or_false false true e = cc
or_false true b e = cc

pub and_false : (a b : Bool) → b ≡ false → (a && b) ≡ false
and_false true b e = e
and_false false b e = refl

other_way : (x y : ℕ) → (x == y) ≡ false → (y == x) ≡ false
other_way x y e = ne_eqb y x (λ s. eqb-false x y e (sym s))

first_other : (y : ℕ) (ys : Text) → has_byte 61 (y ∷ ys) ≡ false → (y == 61) ≡ false
first_other y ys e = (or_false (y == 61) (has_byte 61 ys) e).0

rest_other : (y : ℕ) (ys : Text) → has_byte 61 (y ∷ ys) ≡ false → has_byte 61 ys ≡ false
rest_other y ys e = (or_false (y == 61) (has_byte 61 ys) e).1

pub hyphen_file : (xs : Text) → is_file_name (45 ∷ xs) ≡ false
hyphen_file xs = and_false _ _ refl

-- `key=` stands before the value exactly where the name is the key
pub key_before : (value name key : Text) → has_byte 61 name ≡ false → has_byte 61 key ≡ false
    → bytes_eq (take (suc (length key)) (name ++ 61 ∷ value)) (key ++ 61 ∷ []) ≡ bytes_eq name key
key_before value [] [] n k = refl
key_before value [] (y ∷ ys) n k = rw (other_way y 61 (first_other y ys k)) refl
key_before value (x ∷ xs) [] n k = rw (first_other x xs n) refl
key_before value (x ∷ xs) (y ∷ ys) n k = ap (λ b. (x == y) && b) (key_before value xs ys (rest_other x xs n) (rest_other y ys k))

-- with a value it is no key
pub no_key : (value name key : Text) → has_byte 61 key ≡ false → bytes_eq (name ++ 61 ∷ value) key ≡ false
no_key value [] [] k = refl
no_key value [] (y ∷ ys) k = rw (other_way y 61 (first_other y ys k)) refl
no_key value (x ∷ xs) [] k = refl
no_key value (x ∷ xs) (y ∷ ys) k = and_false _ _ (no_key value xs ys (rest_other y ys k))

-- without one no `key=` stands before anything
pub no_equals : (name key : Text) → has_byte 61 name ≡ false → bytes_eq (take (suc (length key)) name) (key ++ 61 ∷ []) ≡ false
no_equals [] [] n = refl
no_equals [] (y ∷ ys) n = refl
no_equals (x ∷ xs) [] n = rw (first_other x xs n) refl
no_equals (x ∷ xs) (y ∷ ys) n = and_false _ _ (no_equals xs ys (rest_other x xs n))

turned : (x y : ℕ) (xs ys : Text) (b c : Bool) → (x == y) ≡ b → bytes_eq xs ys ≡ c → bytes_eq (x ∷ xs) (y ∷ ys) ≡ false → (bytes_eq xs ys ≡ false → bytes_eq ys xs ≡ false) → bytes_eq (y ∷ ys) (x ∷ xs) ≡ false
turned x y xs ys false c f g e so = rw (other_way x y f) refl
turned x y xs ys true false f g e so = and_false _ _ (so g)
turned x y xs ys true true f g e so = let bad = rw (f, g) at e in cc

pub same_turned : (a b : Text) → bytes_eq a b ≡ false → bytes_eq b a ≡ false
same_turned [] [] e = e
same_turned [] (y ∷ ys) e = refl
same_turned (x ∷ xs) [] e = refl
same_turned (x ∷ xs) (y ∷ ys) e = turned x y xs ys _ _ refl refl e (same_turned xs ys)

-- a name that is an option's, or none
pub data Name (name : Text) : Type 0 where
  plan_name : name ≡ codes "plan" → Name name
  make_name : name ≡ codes "make" → Name name
  summary_name : name ≡ codes "summary" → Name name
  other_name : bytes_eq name (codes "plan") ≡ false → bytes_eq name (codes "make") ≡ false → bytes_eq name (codes "summary") ≡ false → Name name

pub name_of : (name : Text) → Name name
name_of name = go _ _ _ refl refl refl
  where
    go : (p m s : Bool) → bytes_eq name (codes "plan") ≡ p → bytes_eq name (codes "make") ≡ m → bytes_eq name (codes "summary") ≡ s → Name name
    go true m s e f g = plan_name (same_text name (codes "plan") (sym e))
    go false true s e f g = make_name (same_text name (codes "make") (sym f))
    go false false true e f g = summary_name (same_text name (codes "summary") (sym g))
    go false false false e f g = other_name e f g

-- what such a word asks for
pub long_word : (asked : Asked) (name : Text) → has_byte 61 name ≡ false → with_word asked (45 ∷ 45 ∷ name)
    ≡ (if bytes_eq name (codes "plan") then Some (Some Plan, asked)
    else if bytes_eq name (codes "make") then Some (Some Make, asked)
    else if bytes_eq name (codes "summary") then no_more (with_summary asked) else None)
unfolding with_word
long_word asked name n = rw (no_equals name (codes "plan") n, no_equals name (codes "make") n, hyphen_file (45 ∷ name)) refl

pub word_with_value : (asked : Asked) (name value : Text) → has_byte 61 name ≡ false → with_word asked (45 ∷ 45 ∷ (name ++ 61 ∷ value))
    ≡ (if bytes_eq name (codes "plan") then no_more (with_plan asked (drop 5 (name ++ 61 ∷ value)))
    else if bytes_eq name (codes "make") then no_more (with_source asked (made_of (drop 5 (name ++ 61 ∷ value)))) else None)
unfolding with_word
word_with_value asked name value n =
    rw (
      no_key value name (codes "plan") refl,
      no_key value name (codes "make") refl,
      no_key value name (codes "summary") refl,
      key_before value name (codes "plan") n refl,
      key_before value name (codes "make") n refl,
      hyphen_file (45 ∷ (name ++ 61 ∷ value)),
    ) refl
