-- What one more value asks for.
use Rattle.std.proofs.Common.{◌≡◌, Bool, true, false, List, [], ◌∷◌, ◌++◌, Option, Some, None, refl, sym, ◌∙◌}
use Rattle.std.specs.Prelude.{if◌then◌else◌, option_and_then, option_map}
use Rattle.clap.specs.Walk.{Text}
use Rattle.input_defs.specs.Words.{Asked, File, Source, is_file_name, made_of, with_plan, with_source}
use Rattle.input_laws.specs.command_laws.Command.{asked_of, both_asked, plan_of, source_of}

-- one more plan's name
first_plan : (summary b : Bool) (name : Text) (source : Option (Option Source)) → is_file_name name ≡ b
    → both_asked summary (if b then Some (Some name) else None) source ≡ option_and_then (λ a. with_plan a name) (both_asked summary (Some None) source)
first_plan summary true name None e = refl
first_plan summary false name None e = refl
first_plan summary true name (Some s) e = rw e refl
first_plan summary false name (Some s) e = rw e refl

second_plan : (summary b c : Bool) (old name : Text) (source : Option (Option Source)) → is_file_name name ≡ c
    → None ≡ option_and_then (λ a. with_plan a name) (both_asked summary (if b then Some (Some old) else None) source)
second_plan summary false c old name source e = refl
second_plan summary true c old name None e = refl
second_plan summary true true old name (Some s) e = rw e refl
second_plan summary true false old name (Some s) e = rw e refl

pub plan_more : (summary : Bool) (plans makes meshes : List Text) (name : Text)
    → asked_of (plans ++ name ∷ []) makes meshes summary ≡ option_and_then (λ a. with_plan a name) (asked_of plans makes meshes summary)
plan_more summary [] makes meshes name = first_plan summary _ name (source_of makes meshes) refl
plan_more summary (old ∷ []) makes meshes name = second_plan summary _ _ old name (source_of makes meshes) refl
plan_more summary (old ∷ other ∷ more) makes meshes name = refl

-- one more source, where there is none yet, and where there is one
first_source : (summary : Bool) (plan : Option (Option Text)) (source : Option Source)
    → both_asked summary plan (option_map (λ s. Some s) source) ≡ option_and_then (λ a. with_source a source) (both_asked summary plan (Some None))
first_source summary None source = refl
first_source summary (Some p) None = refl
first_source summary (Some p) (Some s) = refl

no_source : (summary : Bool) (plan : Option (Option Text)) → None ≡ both_asked summary plan None
no_source summary None = refl
no_source summary (Some p) = refl

none_then : (summary : Bool) (plan : Option (Option Text)) (source : Option Source) → None ≡ option_and_then (λ a. with_source a source) (both_asked summary plan None)
none_then summary None source = refl
none_then summary (Some p) source = refl

second_source : (summary : Bool) (plan : Option (Option Text)) (old : Source) (source : Option Source)
    → None ≡ option_and_then (λ a. with_source a source) (both_asked summary plan (Some (Some old)))
second_source summary None old source = refl
second_source summary (Some p) old None = refl
second_source summary (Some p) old (Some s) = refl

after_file : (summary b : Bool) (plan : Option (Option Text)) (name : Text) (source : Option Source)
    → None ≡ option_and_then (λ a. with_source a source) (both_asked summary plan (if b then Some (Some (File name)) else None))
after_file summary true plan name source = second_source summary plan (File name) source
after_file summary false plan name source = none_then summary plan source

after_made : (summary : Bool) (plan : Option (Option Text)) (made source : Option Source)
    → None ≡ option_and_then (λ a. with_source a source) (both_asked summary plan (option_map (λ s. Some s) made))
after_made summary plan None source = none_then summary plan source
after_made summary plan (Some s) source = second_source summary plan s source

pub make_more : (summary : Bool) (plans makes meshes : List Text) (made : Text)
    → asked_of plans (makes ++ made ∷ []) meshes summary ≡ option_and_then (λ a. with_source a (made_of made)) (asked_of plans makes meshes summary)
make_more summary plans [] [] made = first_source summary (plan_of plans) (made_of made)
make_more summary plans [] (name ∷ []) made = sym (no_source summary (plan_of plans)) ∙ after_file summary (is_file_name name) (plan_of plans) name (made_of made)
make_more summary plans [] (name ∷ other ∷ more) made = sym (no_source summary (plan_of plans)) ∙ none_then summary (plan_of plans) (made_of made)
make_more summary plans (old ∷ []) [] made = sym (no_source summary (plan_of plans)) ∙ after_made summary (plan_of plans) (made_of old) (made_of made)
make_more summary plans (old ∷ []) (name ∷ more) made = sym (no_source summary (plan_of plans)) ∙ none_then summary (plan_of plans) (made_of made)
make_more summary plans (old ∷ other ∷ more) meshes made = sym (no_source summary (plan_of plans)) ∙ none_then summary (plan_of plans) (made_of made)

-- a file's name that may be none
abbrev pub named : Text → Option Source
named name = if is_file_name name then Some (File name) else None

first_file : (summary b : Bool) (plan : Option (Option Text)) (name : Text)
    → both_asked summary plan (if b then Some (Some (File name)) else None) ≡ option_and_then (λ a. with_source a (if b then Some (File name) else None)) (both_asked summary plan (Some None))
first_file summary true None name = refl
first_file summary false None name = refl
first_file summary true (Some p) name = refl
first_file summary false (Some p) name = refl

pub mesh_more : (summary : Bool) (plans makes meshes : List Text) (name : Text)
    → asked_of plans makes (meshes ++ name ∷ []) summary ≡ option_and_then (λ a. with_source a (named name)) (asked_of plans makes meshes summary)
mesh_more summary plans [] [] name = first_file summary (is_file_name name) (plan_of plans) name
mesh_more summary plans [] (old ∷ []) name = sym (no_source summary (plan_of plans)) ∙ after_file summary (is_file_name old) (plan_of plans) old (named name)
mesh_more summary plans [] (old ∷ other ∷ more) name = sym (no_source summary (plan_of plans)) ∙ none_then summary (plan_of plans) (named name)
mesh_more summary plans (made ∷ []) [] name = sym (no_source summary (plan_of plans)) ∙ after_made summary (plan_of plans) (made_of made) (named name)
mesh_more summary plans (made ∷ []) (old ∷ more) name = sym (no_source summary (plan_of plans)) ∙ none_then summary (plan_of plans) (named name)
mesh_more summary plans (made ∷ other ∷ more) meshes name = sym (no_source summary (plan_of plans)) ∙ none_then summary (plan_of plans) (named name)

-- the summary
abbrev pub with_summary : Asked → Option Asked
with_summary asked = if asked.summary then None else Some (record asked { summary = true })

first_summary : (plan : Option (Option Text)) (source : Option (Option Source)) → both_asked true plan source ≡ option_and_then with_summary (both_asked false plan source)
first_summary None source = refl
first_summary (Some p) None = refl
first_summary (Some p) (Some s) = refl

second_summary : (plan : Option (Option Text)) (source : Option (Option Source)) → None ≡ option_and_then with_summary (both_asked true plan source)
second_summary None source = refl
second_summary (Some p) None = refl
second_summary (Some p) (Some s) = refl

pub summary_more : (plans makes meshes : List Text) → asked_of plans makes meshes true ≡ option_and_then with_summary (asked_of plans makes meshes false)
summary_more plans makes meshes = first_summary (plan_of plans) (source_of makes meshes)

pub summary_again : (plans makes meshes : List Text) → None ≡ option_and_then with_summary (asked_of plans makes meshes true)
summary_again plans makes meshes = second_summary (plan_of plans) (source_of makes meshes)
