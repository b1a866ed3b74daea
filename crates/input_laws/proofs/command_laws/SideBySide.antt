-- The walk of `clap` reads what the definition reads.
use Rattle.std.proofs.Common.{◌≡◌, ℕ, Bool, true, false, List, [], ◌∷◌, ◌++◌, codes, fold, Option, Some, None, refl, sym, ap, subst, ◌∙◌}
use Rattle.std.specs.Prelude.{◌==◌, if◌then◌else◌, option_and_then, slice_get}
use Rattle.std.specs.List.{list_any}
use Rattle.std.specs.Str.{bytes_eq, chars}
use Rattle.std.proofs.lemmas.Bool.{eqb-true}
use Rattle.clap.specs.Walk.{Held, Row, Rule, Text, Walk, finished, has_row, nothing_held, settled, walked, with_default, with_values}
use Rattle.clap.specs.Faults.{check_fault, defaults_fault, settle_fault, turn_fault, walk_fault}
use Rattle.clap.specs.Kinds.{Kinds, or_else}
use Rattle.clap.specs.Lexer.{has_byte, long_of, short_of}
use Rattle.input_defs.specs.Words.{Asked, File, Flag, Make, no_more, Plan, Request, is_file_name, made_of, request, request_from, request_of, with_next, with_plan, with_source, with_word}
use Rattle.input_laws.specs.command_laws.Command.{asked_at, asked_of, command, flag_at, is_dashes, mesh_rule, option_rule, passes, request_at, request_by, summary_rule, values_at}
use Rattle.clap.specs.Simple.{built, filled, with_index}
use Rattle.clap.proofs.FaultLemmas.{leaf_fault}
use Rattle.std.specs.Cmp.Lexicographic.{same_text}
use Rattle.clap.specs.declared.builder.value_parser.Reading.TheVariants.{AsWritten}
use Rattle.clap.specs.declared.parser.matches.ValueSource.{ValueSource}
use Rattle.clap.specs.declared.parser.matches.ValueSource.TheVariants.{CommandLine, DefaultValue}
use Rattle.input_laws.proofs.command_laws.Asking.{make_more, mesh_more, named, plan_more, summary_again, summary_more, with_summary}
use Rattle.input_laws.proofs.command_laws.Values.{has_other, has_same, put_other, put_same}
use Rattle.input_laws.proofs.command_laws.Spelling as spelling
use Rattle.input_laws.proofs.command_laws.Spelling.{cut_first, hyphen_file, or_false}
use Rattle.input_laws.proofs.command_laws.Steps as step
use Rattle.input_laws.proofs.command_laws.Steps.{Fails, Goes, Last, nothing, planned, made, meshed, on, rows_on, top, waits, with_value}

-- ---- what an answer is, from a place of the walk on

abbrev end_fault : Held → Kinds
end_fault h = or_else (settle_fault top.rules false h) (or_else (defaults_fault (settled top.rules h).rows top.rules) (check_fault top (finished top.rules h) false))

-- from a place whose last word had these faults
abbrev answer_from : Kinds → Walk → List Text → Option Request
answer_from kinds w words =
    if passes (or_else (or_else kinds (walk_fault top [] w words)) (end_fault (fold (walked top.rules []) w words).held))
    then request_at (finished top.rules (fold (walked top.rules []) w words).held) else None

abbrev pub answer : Walk → List Text → Option Request
answer w words = answer_from [] w words

answer_next : (w after : Walk) (word : Text) (words : List Text) → Goes w word after → answer w (word ∷ words) ≡ answer after words
unfolding walk_fault
answer_next w after word words goes = ap (λ kinds. answer_from kinds (walked top.rules [] w word) words) goes.1 ∙ ap (λ v. answer_from [] v words) goes.0

no_answer : (kinds : Kinds) (w : Walk) (words : List Text) → passes kinds ≡ false → answer_from kinds w words ≡ None
no_answer [] w words e = cc
no_answer (k ∷ ks) w words e = refl

answer_fails : (w : Walk) (word : Text) (words : List Text) → Fails (turn_fault top [] w word) → answer w (word ∷ words) ≡ None
unfolding walk_fault
answer_fails w word words e = no_answer (turn_fault top [] w word) (walked top.rules [] w word) words e

-- ---- what the rows say of the summary

record Flagged (rows : List Row) (summary : Bool) : Type 0 where
  has : has_row (codes "summary") rows ≡ summary
  value : values_at (codes "summary") rows ≡ (if summary then codes "true" ∷ [] else [])

keeps : (id v : Text) (rows : List Row) (b : Bool) → bytes_eq id (codes "summary") ≡ false → Flagged rows b → Flagged (with_value id v rows) b
keeps id v rows b differ f = record { has = has_other id AsWritten CommandLine (v ∷ []) (codes "summary") differ rows ∙ f.has; value = put_other id AsWritten CommandLine (v ∷ []) (codes "summary") differ rows ∙ f.value }

gains : (rows : List Row) → Flagged rows false → Flagged (with_value (codes "summary") (codes "true") rows) true
gains rows f = record { has = has_same (codes "summary") AsWritten CommandLine (codes "true" ∷ []) rows; value = put_same (codes "summary") AsWritten CommandLine (codes "true" ∷ []) rows ∙ ap (λ vs. vs ++ codes "true" ∷ []) f.value }

flagged_on : (rows : List Row) (last : Last) (b : Bool) → Flagged rows b → Flagged (rows_on rows last) b
flagged_on rows nothing b f = f
flagged_on rows (planned v) b f = keeps (codes "plan") v rows b refl f
flagged_on rows (made v) b f = keeps (codes "make") v rows b refl f
flagged_on rows (meshed v) b f = keeps (codes "mesh") v rows b refl f

-- ---- what the rows ask for after one more value

abbrev plans : List Row → List Text
plans = values_at (codes "plan")

abbrev makes : List Row → List Text
makes = values_at (codes "make")

abbrev meshes : List Row → List Text
meshes = values_at (codes "mesh")

abbrev Others : (id : Text) → List Row → List Row → Text → Type 0
Others id rows after other = values_at other after ≡ values_at other rows

asked_plan : (rows : List Row) (b : Bool) (v : Text) → asked_at (with_value (codes "plan") v rows) b ≡ option_and_then (λ a. with_plan a v) (asked_at rows b)
asked_plan rows b v =
    ap (λ ps. asked_of ps (makes (with_value (codes "plan") v rows)) (meshes (with_value (codes "plan") v rows)) b) (put_same (codes "plan") AsWritten CommandLine (v ∷ []) rows)
    ∙ (ap (λ ms. asked_of (plans rows ++ v ∷ []) ms (meshes (with_value (codes "plan") v rows)) b) (put_other (codes "plan") AsWritten CommandLine (v ∷ []) (codes "make") refl rows)
    ∙ (ap (λ ms. asked_of (plans rows ++ v ∷ []) (makes rows) ms b) (put_other (codes "plan") AsWritten CommandLine (v ∷ []) (codes "mesh") refl rows)
    ∙ plan_more b (plans rows) (makes rows) (meshes rows) v))

asked_make : (rows : List Row) (b : Bool) (v : Text) → asked_at (with_value (codes "make") v rows) b ≡ option_and_then (λ a. with_source a (made_of v)) (asked_at rows b)
asked_make rows b v =
    ap (λ ps. asked_of ps (makes (with_value (codes "make") v rows)) (meshes (with_value (codes "make") v rows)) b) (put_other (codes "make") AsWritten CommandLine (v ∷ []) (codes "plan") refl rows)
    ∙ (ap (λ ms. asked_of (plans rows) ms (meshes (with_value (codes "make") v rows)) b) (put_same (codes "make") AsWritten CommandLine (v ∷ []) rows)
    ∙ (ap (λ ms. asked_of (plans rows) (makes rows ++ v ∷ []) ms b) (put_other (codes "make") AsWritten CommandLine (v ∷ []) (codes "mesh") refl rows)
    ∙ make_more b (plans rows) (makes rows) (meshes rows) v))

asked_mesh : (rows : List Row) (b : Bool) (v : Text) → asked_at (with_value (codes "mesh") v rows) b ≡ option_and_then (λ a. with_source a (named v)) (asked_at rows b)
asked_mesh rows b v =
    ap (λ ps. asked_of ps (makes (with_value (codes "mesh") v rows)) (meshes (with_value (codes "mesh") v rows)) b) (put_other (codes "mesh") AsWritten CommandLine (v ∷ []) (codes "plan") refl rows)
    ∙ (ap (λ ms. asked_of (plans rows) ms (meshes (with_value (codes "mesh") v rows)) b) (put_other (codes "mesh") AsWritten CommandLine (v ∷ []) (codes "make") refl rows)
    ∙ (ap (λ ms. asked_of (plans rows) (makes rows) ms b) (put_same (codes "mesh") AsWritten CommandLine (v ∷ []) rows)
    ∙ mesh_more b (plans rows) (makes rows) (meshes rows) v))

-- rows whose summary alone is new
asked_beside : (rows : List Row) (s : ValueSource) (v : Text) (b : Bool) → asked_at (with_values (codes "summary") AsWritten s (v ∷ []) rows) b ≡ asked_at rows b
asked_beside rows s v b =
    rw (put_other (codes "summary") AsWritten s (v ∷ []) (codes "plan") refl rows, put_other (codes "summary") AsWritten s (v ∷ []) (codes "make") refl rows, put_other (codes "summary") AsWritten s (v ∷ []) (codes "mesh") refl rows) refl

asked_summary : (rows : List Row) → asked_at (with_value (codes "summary") (codes "true") rows) true ≡ option_and_then with_summary (asked_at rows false)
asked_summary rows = asked_beside rows CommandLine (codes "true") true ∙ summary_more (plans rows) (makes rows) (meshes rows)

-- ---- the end of the words

default_none : (rows : List Row) (a : Rule) → a.defaults ≡ [] → with_default rows a ≡ rows
default_none rows a none = go _ refl
  where
    go : (b : Bool) → has_row a.id rows ≡ b → with_default rows a ≡ rows
    go true e = rw e refl
    go false e = rw (e, none) refl

skip_fault : (rows : List Row) (a : Rule) (rest : List Rule) → a.defaults ≡ [] → defaults_fault rows (a ∷ rest) ≡ defaults_fault rows rest
unfolding defaults_fault
skip_fault rows a rest none = go _ refl
  where
    go : (b : Bool) → has_row a.id rows ≡ b → defaults_fault rows (a ∷ rest) ≡ defaults_fault rows rest
    go true e = rw e refl
    go false e = rw (e, none) refl

abbrev plan_filled : Rule
plan_filled = filled (option_rule (codes "plan"))

abbrev make_filled : Rule
make_filled = filled (option_rule (codes "make"))

abbrev summary_filled : Rule
summary_filled = filled summary_rule

abbrev mesh_filled : Rule
mesh_filled = with_index 1 (filled mesh_rule)

summary_fault : (rows : List Row) (rest : List Rule) → defaults_fault rows (summary_filled ∷ rest) ≡ defaults_fault (with_default rows summary_filled) rest
unfolding defaults_fault
summary_fault rows rest = go _ refl
  where
    go : (b : Bool) → has_row (codes "summary") rows ≡ b → defaults_fault rows (summary_filled ∷ rest) ≡ defaults_fault (with_default rows summary_filled) rest
    go true e = rw e refl
    go false e = rw e refl

no_default_fault : (rows : List Row) → defaults_fault rows top.rules ≡ []
unfolding defaults_fault
no_default_fault rows = skip_fault rows plan_filled (make_filled ∷ summary_filled ∷ mesh_filled ∷ []) refl ∙ (skip_fault rows make_filled (summary_filled ∷ mesh_filled ∷ []) refl ∙ (summary_fault rows (mesh_filled ∷ []) ∙ skip_fault (with_default rows summary_filled) mesh_filled [] refl))

finished_is : (rows : List Row) → fold with_default rows top.rules ≡ with_default rows summary_filled
finished_is rows =
    ap (λ (r : List Row). with_default (with_default (with_default r make_filled) summary_filled) mesh_filled) (default_none rows plan_filled refl)
    ∙ (ap (λ (r : List Row). with_default (with_default r summary_filled) mesh_filled) (default_none rows make_filled refl)
    ∙ default_none (with_default rows summary_filled) mesh_filled refl)

flag_default : (rows : List Row) (b : Bool) → Flagged rows b → asked_at (with_default rows summary_filled) (flag_at (with_default rows summary_filled)) ≡ asked_at rows b
flag_default rows true f = rw f.has (rw f.value refl)
flag_default rows false f =
    let put = put_same (codes "summary") AsWritten DefaultValue (codes "false" ∷ []) rows ∙ ap (λ vs. vs ++ codes "false" ∷ []) f.value in
    rw f.has (rw put (asked_beside rows DefaultValue (codes "false") false))

ends : (rows : List Row) (b : Bool) → Flagged rows b → (if passes (or_else (defaults_fault rows top.rules) []) then request_at (fold with_default rows top.rules) else None) ≡ option_and_then (λ a. request_from a None []) (asked_at rows b)
unfolding request_from
ends rows b f = rw (no_default_fault rows, finished_is rows) (ap (option_and_then (λ a. request_of a None)) (flag_default rows b f))

answer_end : (rows : List Row) (last : Last) (b : Bool) → Flagged rows b → answer (on rows last) [] ≡ option_and_then (λ a. request_from a None []) (asked_at (rows_on rows last) b)
unfolding walk_fault
answer_end rows nothing b f = ends rows b f
answer_end rows (planned v) b f = ends (rows_on rows (planned v)) b (flagged_on rows (planned v) b f)
answer_end rows (made v) b f = ends (rows_on rows (made v)) b (flagged_on rows (made v) b f)
answer_end rows (meshed v) b f = ends (rows_on rows (meshed v)) b (flagged_on rows (meshed v) b f)

-- ---- one word of the definition

more_of : (waiting : Option Flag) (word : Text) (words : List Text) (f : Asked → Option Asked) (a : Asked) (o : Option Asked) → f a ≡ o → with_next a waiting word ≡ no_more (f a)
    → request_from a waiting (word ∷ words) ≡ option_and_then (λ b. request_from b None words) (f a)
unfolding request_from
more_of waiting word words f a None e is = rw (is, e) refl
more_of waiting word words f a (Some b) e is = rw (is, e) refl

then_more : (waiting : Option Flag) (word : Text) (words : List Text) (f : Asked → Option Asked) → ((a : Asked) → with_next a waiting word ≡ no_more (f a)) → (o : Option Asked)
    → option_and_then (λ a. request_from a None words) (option_and_then f o) ≡ option_and_then (λ a. request_from a waiting (word ∷ words)) o
then_more waiting word words f is None = refl
then_more waiting word words f is (Some a) = sym (more_of waiting word words f a (f a) refl (is a))

wait_of : (flag : Flag) (word : Text) (words : List Text) (a : Asked) → with_word a word ≡ Some (Some flag, a) → request_from a None (word ∷ words) ≡ request_from a (Some flag) words
unfolding request_from
wait_of flag word words a is = rw is refl

then_waits : (flag : Flag) (word : Text) (words : List Text) → ((a : Asked) → with_word a word ≡ Some (Some flag, a)) → (o : Option Asked)
    → option_and_then (λ a. request_from a (Some flag) words) o ≡ option_and_then (λ a. request_from a None (word ∷ words)) o
then_waits flag word words is None = refl
then_waits flag word words is (Some a) = sym (wait_of flag word words a (is a))

none_of : (waiting : Option Flag) (word : Text) (words : List Text) (a : Asked) → with_next a waiting word ≡ None → request_from a waiting (word ∷ words) ≡ None
unfolding request_from
none_of waiting word words a is = rw is refl

then_none : (waiting : Option Flag) (word : Text) (words : List Text) → ((a : Asked) → with_next a waiting word ≡ None) → (o : Option Asked)
    → None ≡ option_and_then (λ a. request_from a waiting (word ∷ words)) o
then_none waiting word words is None = refl
then_none waiting word words is (Some a) = sym (none_of waiting word words a (is a))

-- ---- words that are no options

not_first : (a : Asked) (word : Text) (b : Bool) → is_file_name word ≡ b → (if b then no_more (with_source a (Some (File word))) else None) ≡ no_more (with_source a (if b then Some (File word) else None))
not_first a word true e = refl
not_first a word false e = refl

empty_word : (a : Asked) → with_word a [] ≡ no_more (with_source a (named []))
unfolding with_word
empty_word a = refl

name_word : (a : Asked) (x : ℕ) (xs : Text) → (x == 45) ≡ false → with_word a (x ∷ xs) ≡ no_more (with_source a (named (x ∷ xs)))
unfolding with_word
name_word a x xs e =
    let plain : with_word a (x ∷ xs) ≡ (if is_file_name (x ∷ xs) then no_more (with_source a (Some (File (x ∷ xs)))) else None) = rw e refl in
    plain ∙ not_first a (x ∷ xs) (is_file_name (x ∷ xs)) refl

hyphen_word : (a : Asked) → with_word a (45 ∷ []) ≡ no_more (with_source a (named (45 ∷ [])))
unfolding with_word
hyphen_word a = refl

short_word : (a : Asked) (x : ℕ) (xs : Text) → (x == 45) ≡ false → with_word a (45 ∷ x ∷ xs) ≡ no_more (with_source a (named (45 ∷ x ∷ xs)))
unfolding with_word
short_word a x xs e = rw (e, hyphen_file (x ∷ xs)) refl

short_none : (a : Asked) (x : ℕ) (xs : Text) → (x == 45) ≡ false → with_word a (45 ∷ x ∷ xs) ≡ None
unfolding with_word
short_none a x xs e = rw (e, hyphen_file (x ∷ xs)) refl

-- a word that begins with a hyphen is the value of no option
no_kind : (xs : Text) → made_of (45 ∷ xs) ≡ None
unfolding made_of
no_kind xs = rw (cut_first 58 45 xs refl) refl

no_value : (a : Asked) (flag : Flag) (xs : Text) → with_next a (Some flag) (45 ∷ xs) ≡ None
no_value a Plan xs = rw (hyphen_file xs) refl
no_value a Make xs = rw (no_kind xs) refl

-- ---- the walk and the definition, side by side

record Reads (words : List Text) : Type 0 where
  free : (rows : List Row) (last : Last) (b : Bool) → Flagged rows b → answer (on rows last) words ≡ option_and_then (λ a. request_from a None words) (asked_at (rows_on rows last) b)
  plan : (rows : List Row) (b : Bool) → Flagged rows b → answer (waits rows (codes "plan")) words ≡ option_and_then (λ a. request_from a (Some Plan) words) (asked_at rows b)
  make : (rows : List Row) (b : Bool) → Flagged rows b → answer (waits rows (codes "make")) words ≡ option_and_then (λ a. request_from a (Some Make) words) (asked_at rows b)

abbrev Free : Text → List Text → Type 0
Free word words = (rows : List Row) (last : Last) (b : Bool) → Flagged rows b → answer (on rows last) (word ∷ words) ≡ option_and_then (λ a. request_from a None (word ∷ words)) (asked_at (rows_on rows last) b)

no_request : (flag : Flag) (o : Option Asked) → None ≡ option_and_then (λ a. request_from a (Some flag) []) o
unfolding request_from
no_request flag None = refl
no_request flag (Some a) = refl

no_words : Reads []
unfolding walk_fault
no_words = record {
  free = answer_end;
  plan = λ rows b f. no_request Plan (asked_at rows b);
  make = λ rows b f. no_request Make (asked_at rows b);
}

module _ (word : Text) (words : List Text) (so : Reads words) where
  -- a value
  as_name : ((rows : List Row) (last : Last) → Goes (on rows last) word (on (rows_on rows last) (meshed word))) → ((rows : List Row) → Goes (waits rows (codes "plan")) word (on rows (planned word)))
      → ((rows : List Row) → Goes (waits rows (codes "make")) word (on rows (made word))) → ((a : Asked) → with_word a word ≡ no_more (with_source a (named word))) → Reads (word ∷ words)
  as_name goes to_plan to_make is = record {
    free = λ rows last b f. answer_next _ _ word words (goes rows last) ∙ (so.free (rows_on rows last) (meshed word) b (flagged_on rows last b f)
        ∙ (ap (option_and_then (λ a. request_from a None words)) (asked_mesh (rows_on rows last) b word) ∙ then_more None word words (λ a. with_source a (named word)) is (asked_at (rows_on rows last) b)));
    plan = λ rows b f. answer_next _ _ word words (to_plan rows) ∙ (so.free rows (planned word) b f
        ∙ (ap (option_and_then (λ a. request_from a None words)) (asked_plan rows b word) ∙ then_more (Some Plan) word words (λ a. with_plan a word) (λ a. refl) (asked_at rows b)));
    make = λ rows b f. answer_next _ _ word words (to_make rows) ∙ (so.free rows (made word) b f
        ∙ (ap (option_and_then (λ a. request_from a None words)) (asked_make rows b word) ∙ then_more (Some Make) word words (λ a. with_source a (made_of word)) (λ a. refl) (asked_at rows b)));
  }

  module _ (no_plan : (rows : List Row) → Fails (turn_fault top [] (waits rows (codes "plan")) word)) (no_make : (rows : List Row) → Fails (turn_fault top [] (waits rows (codes "make")) word))
      (none : (a : Asked) (flag : Flag) → with_next a (Some flag) word ≡ None) where
    -- a word that is no value
    as_option : Free word words → Reads (word ∷ words)
    as_option free = record {
      free = free;
      plan = λ rows b f. answer_fails _ word words (no_plan rows) ∙ then_none (Some Plan) word words (λ a. none a Plan) (asked_at rows b);
      make = λ rows b f. answer_fails _ word words (no_make rows) ∙ then_none (Some Make) word words (λ a. none a Make) (asked_at rows b);
    }

    -- a word that is refused
    as_none : ((rows : List Row) (last : Last) → Fails (turn_fault top [] (on rows last) word)) → ((a : Asked) → with_word a word ≡ None) → Reads (word ∷ words)
    as_none fails is = as_option (λ rows last b f. answer_fails _ word words (fails rows last) ∙ then_none None word words is (asked_at (rows_on rows last) b))

-- ---- a word that begins with one hyphen

short_case : (x : ℕ) (xs : Text) (words : List Text) (c : Option ℕ) → (x == 45) ≡ false → slice_get (chars (x ∷ xs)) 0 ≡ c → Reads words → Reads ((45 ∷ x ∷ xs) ∷ words)
short_case x xs words None e none so =
    let word = 45 ∷ x ∷ xs in
    let no_long : long_of word ≡ None = rw e refl in
    let short : short_of word ≡ Some (x ∷ xs) = rw e refl in
    let other : bytes_eq word (45 ∷ 45 ∷ []) ≡ false = rw e refl in
    as_name word words so (λ rows last. step.no_bundle rows last word x xs no_long short none other) (λ rows. step.plan_no_bundle rows word x xs no_long short none other) (λ rows. step.make_no_bundle rows word x xs no_long short none other) (λ a. short_word a x xs e)
short_case x xs words (Some c) e some so =
    let word = 45 ∷ x ∷ xs in
    let no_long : long_of word ≡ None = rw e refl in
    let short : short_of word ≡ Some (x ∷ xs) = rw e refl in
    let other : bytes_eq word (45 ∷ 45 ∷ []) ≡ false = rw e refl in
    as_none word words so (λ rows. step.plan_bundle rows word x xs c no_long short some other) (λ rows. step.make_bundle rows word x xs c no_long short some other) (λ a flag. no_value a flag (x ∷ xs))
    (λ rows last. step.bundle_fails rows last word x xs c no_long short some other) (λ a. short_none a x xs e)

-- ---- a word that begins with two hyphens

plan_word : (a : Asked) (rest : Text) → rest ≡ codes "plan" → with_word a (45 ∷ 45 ∷ rest) ≡ Some (Some Plan, a)
unfolding with_word
plan_word a rest e = rw e refl

make_word : (a : Asked) (rest : Text) → rest ≡ codes "make" → with_word a (45 ∷ 45 ∷ rest) ≡ Some (Some Make, a)
unfolding with_word
make_word a rest e = rw e refl

summary_word : (a : Asked) (rest : Text) → rest ≡ codes "summary" → with_word a (45 ∷ 45 ∷ rest) ≡ no_more (with_summary a)
unfolding with_word
summary_word a rest e = rw e refl

plan_with_word : (a : Asked) (rest value : Text) → rest ≡ codes "plan" ++ 61 ∷ value → with_word a (45 ∷ 45 ∷ rest) ≡ no_more (with_plan a value)
unfolding with_word
plan_with_word a rest value e = rw e refl

make_with_word : (a : Asked) (rest value : Text) → rest ≡ codes "make" ++ 61 ∷ value → with_word a (45 ∷ 45 ∷ rest) ≡ no_more (with_source a (made_of value))
unfolding with_word
make_with_word a rest value e = rw e refl

summary_with_word : (a : Asked) (rest value : Text) → rest ≡ codes "summary" ++ 61 ∷ value → with_word a (45 ∷ 45 ∷ rest) ≡ None
unfolding with_word
summary_with_word a rest value e = rw (e, hyphen_file (45 ∷ (codes "summary" ++ 61 ∷ value))) refl

other_word : (a : Asked) (rest : Text) → has_byte 61 rest ≡ false → bytes_eq rest (codes "plan") ≡ false → bytes_eq rest (codes "make") ≡ false → bytes_eq rest (codes "summary") ≡ false → with_word a (45 ∷ 45 ∷ rest) ≡ None
other_word a rest n p m s = spelling.long_word a rest n ∙ rw (p, m, s) refl

other_with_word : (a : Asked) (rest name value : Text) → rest ≡ name ++ 61 ∷ value → has_byte 61 name ≡ false → bytes_eq name (codes "plan") ≡ false → bytes_eq name (codes "make") ≡ false → with_word a (45 ∷ 45 ∷ rest) ≡ None
other_with_word a rest name value e n p m = ap (λ r. with_word a (45 ∷ 45 ∷ r)) e ∙ (spelling.word_with_value a name value n ∙ rw (p, m) refl)

module _ (rest : Text) (words : List Text) (so : Reads words) (d : bytes_eq (45 ∷ 45 ∷ rest) (45 ∷ 45 ∷ []) ≡ false) where
  abbrev word : Text
  word = 45 ∷ 45 ∷ rest

  known : (key : Bool) (value : Option Text) → long_of word ≡ Some ((if key then codes "plan" else codes "make"), value) → Free word words → Reads (word ∷ words)
  known key value e = as_option word words so (λ rows. step.known_after rows true word key value e d) (λ rows. step.known_after rows false word key value e d) (λ a flag. no_value a flag (45 ∷ rest))

  summary : (value : Option Text) → long_of word ≡ Some (codes "summary", value) → Free word words → Reads (word ∷ words)
  summary value e = as_option word words so (λ rows. step.summary_after rows true word value e d) (λ rows. step.summary_after rows false word value e d) (λ a flag. no_value a flag (45 ∷ rest))

  other : (name : Text) (value : Option Text) → long_of word ≡ Some (name, value) → bytes_eq name (codes "plan") ≡ false → bytes_eq name (codes "make") ≡ false → bytes_eq name (codes "summary") ≡ false
      → ((a : Asked) → with_word a word ≡ None) → Reads (word ∷ words)
  other name value e p m s =
      let p' = spelling.same_turned name (codes "plan") p in
      let m' = spelling.same_turned name (codes "make") m in
      let s' = spelling.same_turned name (codes "summary") s in
      as_none word words so (λ rows. step.plan_other rows word name value e d p' m' s') (λ rows. step.make_other rows word name value e d p' m' s') (λ a flag. no_value a flag (45 ∷ rest))
      (λ rows last. step.other_long rows last word name value e d p' m' s')

  summary_free : (rows : List Row) (last : Last) (b c : Bool) → b ≡ c → Flagged rows b → long_of word ≡ Some (codes "summary", None) → ((a : Asked) → with_word a word ≡ no_more (with_summary a))
      → answer (on rows last) (word ∷ words) ≡ option_and_then (λ a. request_from a None (word ∷ words)) (asked_at (rows_on rows last) b)
  summary_free rows last b false is f e reads =
      let g : Flagged (rows_on rows last) false = flagged_on rows last false (subst (Flagged rows) is f) in
      rw is (answer_next _ _ word words (step.summary_first rows last word e d g.has) ∙ (so.free (with_value (codes "summary") (codes "true") (rows_on rows last)) nothing true (gains (rows_on rows last) g)
      ∙ (ap (option_and_then (λ a. request_from a None words)) (asked_summary (rows_on rows last)) ∙ then_more None word words with_summary reads (asked_at (rows_on rows last) false))))
  summary_free rows last b true is f e reads =
      let g : Flagged (rows_on rows last) true = flagged_on rows last true (subst (Flagged rows) is f) in
      rw is (answer_fails _ word words (step.summary_again rows last word e d g.has)
      ∙ (ap (option_and_then (λ a. request_from a None words)) (summary_again (plans (rows_on rows last)) (makes (rows_on rows last)) (meshes (rows_on rows last))) ∙ then_more None word words with_summary reads (asked_at (rows_on rows last) true)))

  by_name : (name : Text) (value : Option Text) → spelling.Name name → long_of word ≡ Some (name, value) → spelling.Spells rest (name, value) → Reads (word ∷ words)
  by_name name None (spelling.plan_name is) e s =
      let e' : long_of word ≡ Some (codes "plan", None) = e ∙ ap (λ n. Some (n, None)) is in
      known true None e' (λ rows last b f. answer_next _ _ word words (step.plan_waits rows last word e' d)
      ∙ (so.plan (rows_on rows last) b (flagged_on rows last b f) ∙ then_waits Plan word words (λ a. plan_word a rest (s.0 ∙ is)) (asked_at (rows_on rows last) b)))
  by_name name (Some value) (spelling.plan_name is) e s =
      let e' : long_of word ≡ Some (codes "plan", Some value) = e ∙ ap (λ n. Some (n, Some value)) is in
      known true (Some value) e' (λ rows last b f. answer_next _ _ word words (step.plan_with rows last word value e' d)
      ∙ (so.free (with_value (codes "plan") value (rows_on rows last)) nothing b (keeps (codes "plan") value (rows_on rows last) b refl (flagged_on rows last b f))
      ∙ (ap (option_and_then (λ a. request_from a None words)) (asked_plan (rows_on rows last) b value)
      ∙ then_more None word words (λ a. with_plan a value) (λ a. plan_with_word a rest value (s.0 ∙ ap (λ n. n ++ 61 ∷ value) is)) (asked_at (rows_on rows last) b))))
  by_name name None (spelling.make_name is) e s =
      let e' : long_of word ≡ Some (codes "make", None) = e ∙ ap (λ n. Some (n, None)) is in
      known false None e' (λ rows last b f. answer_next _ _ word words (step.make_waits rows last word e' d)
      ∙ (so.make (rows_on rows last) b (flagged_on rows last b f) ∙ then_waits Make word words (λ a. make_word a rest (s.0 ∙ is)) (asked_at (rows_on rows last) b)))
  by_name name (Some value) (spelling.make_name is) e s =
      let e' : long_of word ≡ Some (codes "make", Some value) = e ∙ ap (λ n. Some (n, Some value)) is in
      known false (Some value) e' (λ rows last b f. answer_next _ _ word words (step.make_with rows last word value e' d)
      ∙ (so.free (with_value (codes "make") value (rows_on rows last)) nothing b (keeps (codes "make") value (rows_on rows last) b refl (flagged_on rows last b f))
      ∙ (ap (option_and_then (λ a. request_from a None words)) (asked_make (rows_on rows last) b value)
      ∙ then_more None word words (λ a. with_source a (made_of value)) (λ a. make_with_word a rest value (s.0 ∙ ap (λ n. n ++ 61 ∷ value) is)) (asked_at (rows_on rows last) b))))
  by_name name None (spelling.summary_name is) e s =
      let e' : long_of word ≡ Some (codes "summary", None) = e ∙ ap (λ n. Some (n, None)) is in
      summary None e' (λ rows last b f. summary_free rows last b b refl f e' (λ a. summary_word a rest (s.0 ∙ is)))
  by_name name (Some value) (spelling.summary_name is) e s =
      let e' : long_of word ≡ Some (codes "summary", Some value) = e ∙ ap (λ n. Some (n, Some value)) is in
      summary (Some value) e' (λ rows last b f. answer_fails _ word words (step.summary_with rows last word value e' d)
      ∙ then_none None word words (λ a. summary_with_word a rest value (s.0 ∙ ap (λ n. n ++ 61 ∷ value) is)) (asked_at (rows_on rows last) b))
  by_name name None (spelling.other_name p m t) e s = other name None e p m t (λ a. ap (λ r. with_word a (45 ∷ 45 ∷ r)) s.0 ∙ other_word a name s.1 p m t)
  by_name name (Some value) (spelling.other_name p m t) e s = other name (Some value) e p m t (λ a. other_with_word a rest name value s.0 s.1 p m)

-- ---- any word

hyphened : (xs : Text) (words : List Text) (b : Bool) → is_dashes (45 ∷ xs) ≡ false → Reads words → Reads ((45 ∷ xs) ∷ words)
hyphened [] words b d so =
    as_name (45 ∷ []) words so (λ rows last. step.plain rows last (45 ∷ []) refl refl refl) (λ rows. step.plan_value rows (45 ∷ []) refl refl refl) (λ rows. step.make_value rows (45 ∷ []) refl refl refl) hyphen_word
hyphened (y ∷ ys) words b d so = go (y == 45) refl
  where
    dashed : (zs : Text) → is_dashes (45 ∷ 45 ∷ zs) ≡ false → Reads ((45 ∷ 45 ∷ zs) ∷ words)
    dashed [] bad = cc
    dashed (z ∷ zs) differs = by_name (z ∷ zs) words so refl _ _ (spelling.name_of _) refl (spelling.spells (z ∷ zs))

    go : (c : Bool) → (y == 45) ≡ c → Reads ((45 ∷ y ∷ ys) ∷ words)
    go false e = short_case y ys words _ e refl so
    go true e =
        let is : y ≡ 45 = eqb-true y 45 e in
        subst (λ x. Reads ((45 ∷ x ∷ ys) ∷ words)) (sym is) (dashed ys (subst (λ x. is_dashes (45 ∷ x ∷ ys) ≡ false) is d))

any_word : (word : Text) (words : List Text) → is_dashes word ≡ false → Reads words → Reads (word ∷ words)
any_word [] words d so =
    as_name [] words so (λ rows last. step.plain rows last [] refl refl refl) (λ rows. step.plan_value rows [] refl refl refl) (λ rows. step.make_value rows [] refl refl refl) empty_word
any_word (x ∷ xs) words d so = go (x == 45) refl
  where
    go : (c : Bool) → (x == 45) ≡ c → Reads ((x ∷ xs) ∷ words)
    go true e =
        let is : x ≡ 45 = eqb-true x 45 e in
        subst (λ y. Reads ((y ∷ xs) ∷ words)) (sym is) (hyphened xs words true (subst (λ y. is_dashes (y ∷ xs) ≡ false) is d) so)
    go false e =
        let no_long : long_of (x ∷ xs) ≡ None = rw e refl in
        let no_short : short_of (x ∷ xs) ≡ None = rw e refl in
        let other : bytes_eq (x ∷ xs) (45 ∷ 45 ∷ []) ≡ false = rw e refl in
        as_name (x ∷ xs) words so (λ rows last. step.plain rows last (x ∷ xs) no_long no_short other) (λ rows. step.plan_value rows (x ∷ xs) no_long no_short other) (λ rows. step.make_value rows (x ∷ xs) no_long no_short other)
        (λ a. name_word a x xs e)

reads : (words : List Text) → list_any is_dashes words ≡ false → Reads words
reads [] none = no_words
reads (word ∷ words) none = any_word word words (or_false _ _ none).0 (reads words (or_false _ _ none).1)

-- ---- the laws

pub reads_request : (words : List Text) → list_any is_dashes words ≡ false → request_by words ≡ request words
unfolding request
reads_request words none =
    rw (leaf_fault (built command) nothing_held words refl) ((reads words none).free [] nothing false (record { has = refl; value = refl }))

no_dashes : (a : Asked) (waiting : Option Flag) → with_next a waiting (codes "--") ≡ None
unfolding with_word made_of
no_dashes a None = refl
no_dashes a (Some Plan) = refl
no_dashes a (Some Make) = refl

next_refused : (words : List Text) (o : Option (Option Flag × Asked)) → ((b : Asked) (w : Option Flag) → request_from b w words ≡ None) → option_and_then (λ next. request_from next.1 next.0 words) o ≡ None
next_refused words None so = refl
next_refused words (Some next) so = so next.1 next.0

dashes_from : (word : Text) (words : List Text) (a : Asked) (waiting : Option Flag) (b : Bool) → is_dashes word ≡ b → list_any is_dashes (word ∷ words) ≡ true
    → (list_any is_dashes words ≡ true → (c : Asked) (w : Option Flag) → request_from c w words ≡ None) → request_from a waiting (word ∷ words) ≡ None
unfolding request_from
dashes_from word words a waiting true e some so = let is : word ≡ codes "--" = same_text word (codes "--") (sym e) in rw is (rw (no_dashes a waiting) refl)
dashes_from word words a waiting false e some so = next_refused words (with_next a waiting word) (so (rw e at some))

dashes_stop : (words : List Text) → list_any is_dashes words ≡ true → (a : Asked) (waiting : Option Flag) → request_from a waiting words ≡ None
dashes_stop [] some a waiting = cc
dashes_stop (word ∷ words) some a waiting = dashes_from word words a waiting _ refl some (dashes_stop words)

pub dashes_refused : (words : List Text) → list_any is_dashes words ≡ true → request words ≡ None
unfolding request
dashes_refused words some = dashes_stop words some (record { plan = None; source = None; summary = false }) None
