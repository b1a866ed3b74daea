-- The words of a call as a simple command of `clap`, and what its matches ask for.
use Rattle.std.specs.Prelude.{Bool, true, false, List, [], ◌∷◌, Option, Some, None, codes, if◌then◌else◌, option_and_then, option_map, unwrap_or, get_or}
use Rattle.input_defs.specs.Words.{Asked, File, Request, Source, is_file_name, made_of, request_of}
use Rattle.clap.specs.Walk.{Row, Rule, Text, all_of}
use Rattle.clap.specs.Kinds.{Kinds}
use Rattle.plain_lists.specs.Lists.{same_list}
use Rattle.clap.specs.Simple.{App, new_rule, new_shape}
use Rattle.clap.specs.Faults.{fault_of}
use Rattle.clap.specs.Simple.{matches_of}
use Rattle.clap.specs.declared.builder.action.ArgAction.TheVariants.{Append, SetTrue}

-- an option whose value follows; a second use is seen as a second value
abbrev pub option_rule : Text → Rule
option_rule name = record (new_rule name) { long = Some name; action = Some Append }

abbrev pub summary_rule : Rule
summary_rule = record (new_rule (codes "summary")) { long = Some (codes "summary"); action = Some SetTrue }

abbrev pub mesh_rule : Rule
mesh_rule = record (new_rule (codes "mesh")) { action = Some Append }

-- the command that reads the words after the program's name
abbrev pub command : App
command = record {
  top = record (new_shape (codes "plexrun")) {
    rules = option_rule (codes "plan") ∷ option_rule (codes "make") ∷ summary_rule ∷ mesh_rule ∷ [];
    no_binary_name = true;
    disable_help_flag = true;
  };
  subs = [];
}

-- ---- what values ask for

-- at most one name
abbrev pub plan_of : List Text → Option (Option Text)
plan_of [] = Some None
plan_of (name ∷ []) = if is_file_name name then Some (Some name) else None
plan_of (name ∷ other ∷ more) = None

-- at most one file's name
abbrev pub file_of : List Text → Option (Option Source)
file_of [] = Some None
file_of (name ∷ []) = if is_file_name name then Some (Some (File name)) else None
file_of (name ∷ other ∷ more) = None

-- at most one of a made mesh and a file's
abbrev pub source_of : List Text → List Text → Option (Option Source)
source_of [] meshes = file_of meshes
source_of (made ∷ []) [] = option_map (λ s. Some s) (made_of made)
source_of (made ∷ []) (name ∷ more) = None
source_of (made ∷ other ∷ more) meshes = None

abbrev pub both_asked : Bool → Option (Option Text) → Option (Option Source) → Option Asked
both_asked summary plan source = option_and_then (λ p. option_map (λ s. record { plan = p; source = s; summary = summary }) source) plan

abbrev pub asked_of : List Text → List Text → List Text → Bool → Option Asked
asked_of plans makes meshes summary = both_asked summary (plan_of plans) (source_of makes meshes)

-- the values of an argument, in their order
abbrev pub values_at : Text → List Row → List Text
values_at id rows = unwrap_or (all_of id rows) []

-- what the values and the flag ask for, where they are right
abbrev pub asked_at : List Row → Bool → Option Asked
asked_at rows summary = asked_of (values_at (codes "plan") rows) (values_at (codes "make") rows) (values_at (codes "mesh") rows) summary

-- what the matches of a parse ask for: the flag's value is `true` where it stands among the words
abbrev pub flag_at : List Row → Bool
flag_at rows = same_list (get_or (values_at (codes "summary") rows) 0 []) (codes "true")

abbrev pub request_at : List Row → Option Request
request_at rows = option_and_then (λ asked. request_of asked None) (asked_at rows (flag_at rows))

-- no error may come
abbrev pub passes : Kinds → Bool
passes [] = true
passes (kind ∷ kinds) = false

-- what the words ask for, by the kinds of error that they may give and by their matches
abbrev pub request_by : List Text → Option Request
request_by words = if passes (fault_of command words) then request_at (matches_of command words) else None

-- `--` alone, after which `clap` takes every word for a name
abbrev pub is_dashes : Text → Bool
is_dashes word = same_list word (codes "--")
