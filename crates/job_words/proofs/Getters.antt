-- What the getters of the matches give.
use Rattle.std.proofs.Common.{◌≡◌, Bool, false, List, [], ◌∷◌, codes, Option, Some, None, refl, ap, ◌∙◌}
use Rattle.std.specs.Prelude.{find, get_or, option_and_then, option_map, slice_get, unwrap_or}
use Rattle.std.specs.Option.{option_map_or}
use Rattle.std.specs.Borrow.{Bor}
use Rattle.std.specs.Str.{bytes_eq}
use Rattle.plain_lists.specs.Lists.{same_list}
use Rattle.clap.specs.Matches.{first_value, matched_of, raw_values}
use Rattle.clap.specs.Walk.{Row, Text, rows_of, texts}
use Rattle.clap.specs.declared.parser.matches.Found.{Found}
use Rattle.clap.proofs.WalkLemmas.{first_value-rows, raw_values-rows}
use Rattle.input_laws.specs.command_laws.Command.{both_asked, flag_at, plan_of, request_at, source_of, values_at}
use Rattle.input_defs.specs.Words.{Source, request_of}
use Rattle.job_words.specs.Asking.{texts_in}

read_all : (o : Option (Bor (List (Bor Text)))) (rows : Option (List Text)) → option_map (λ s. texts s.now) o ≡ rows → texts_in o ≡ unwrap_or rows []
read_all None rows e = ap (λ r. unwrap_or r []) e
read_all (Some s) rows e = ap (λ r. unwrap_or r []) e

pub values_read : (f : Found) (id : Text) (o : Option (Bor (List (Bor Text)))) → option_map (λ s. texts s.now) o ≡ option_map raw_values (matched_of f id) → texts_in o ≡ values_at id (rows_of f)
values_read f id o e = read_all o _ (e ∙ raw_values-rows f id)

first_read : (row : Option Row) → option_map_or (λ t. same_list t (codes "true")) (option_and_then (λ (r : Row). slice_get r.values 0) row) false
    ≡ same_list (get_or (unwrap_or (option_map (λ (r : Row). r.values) row) []) 0 []) (codes "true")
first_read None = refl
first_read (Some r) = go r.values
  where
    go : (vs : List Text) → option_map_or (λ t. same_list t (codes "true")) (slice_get vs 0) false ≡ same_list (get_or vs 0 []) (codes "true")
    go [] = refl
    go (v ∷ vs) = refl

pub flag_read : (f : Found) (o : Option (Bor Text)) → option_map (λ s. s.now) o ≡ first_value f (codes "summary") → option_map_or (λ t. same_list t.now (codes "true")) o false ≡ flag_at (rows_of f)
flag_read f o e = go o ∙ (ap (λ t. option_map_or (λ t. same_list t (codes "true")) t false) (e ∙ first_value-rows f (codes "summary")) ∙ first_read (find (λ r. bytes_eq r.id (codes "summary")) (rows_of f)))
  where
    go : (o : Option (Bor Text)) → option_map_or (λ t. same_list t.now (codes "true")) o false ≡ option_map_or (λ t. same_list t (codes "true")) (option_map (λ (s : Bor Text). s.now) o) false
    go None = refl
    go (Some s) = refl

pub request_read : (rows : List Row) (summary : Bool) (plan : Option (Option Text)) (source : Option (Option Source)) (plans makes meshes : List Text) → plan ≡ plan_of plans → source ≡ source_of makes meshes
    → summary ≡ flag_at rows → plans ≡ values_at (codes "plan") rows → makes ≡ values_at (codes "make") rows → meshes ≡ values_at (codes "mesh") rows
    → option_and_then (λ a. request_of a None) (both_asked summary plan source) ≡ request_at rows
request_read rows summary plan source plans makes meshes p s f e1 e2 e3 = rw (p, s, f, e1, e2, e3) refl
