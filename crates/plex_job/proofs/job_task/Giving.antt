-- What taken files give is what the words ask for.
use Rattle.std.proofs.Common.{◌≡◌, ℕ, ◌<◌, ◌≤◌, Bool, cond, List, [], ◌∷◌, length, Option, Some, None, Ok, Err, refl, sym, ap, subst, ◌∙◌, arith}
use Rattle.std.specs.Prelude.{Result, ok_or, option_and_then, Contains, IfOk, IfErr}
use Rattle.std.specs.Result.{IsErrAnd}
use Rattle.std.proofs.lemmas.Bool.{lt-ltb, le-ltb}
use Rattle.std.proofs.lemmas.List.Elements.{Contains-push, Contains-append_left, Contains-append_right}
use Rattle.cause_defs.specs.Told.{Told, untold, absent, told, IsWhereTold}
use Rattle.input_defs.specs.text_defs.Refusals.{most_bytes, words_refused, too_long_refused}
use Rattle.mesh_defs.specs.Mesh as meshes
use Rattle.input_defs.specs.declared.Status.TheVariants as status
use Rattle.input_defs.specs.Plans as plans
use Rattle.input_defs.specs.Plans.{misfit, plain_plan}
use Rattle.input_defs.specs.Causes.{◌>>=◌, map_ok, unless}
use Rattle.input_defs.specs.Words as words
use Rattle.input_defs.specs.Words.{Request, request, source_name, most}
use Rattle.input_defs.specs.Refused as refused
use Rattle.input_defs.specs.Refused.{refuse, or_refuse, short_file, plan_refused, mesh_in, plan_asked, mesh_asked, where_fits, task_by}
use Rattle.input_defs.specs.Ahead.{built_plan}
use Rattle.input_defs.specs.Generated.{made}
use Rattle.input_laws.proofs.Causes.{bind-ok}
use Rattle.headline_defs.specs.Headline.{Asking, AskedFiles, AreFiles, IsFileWhereTold, IsFileNamed, listed}
use Rattle.headline_defs.specs.Tops.{asking, asking_built}
use Rattle.report.specs.declared.refusal.Refusal.TheVariants.{Words, Read, TooLong, Plan, Msh, Mesh, Twist}
use Rattle.plex_job.specs.declared.job_task.stop.Stop.{Stop}
use Rattle.plex_job.specs.declared.job_task.stop.Stop.TheVariants.{Refused, NoMemory}
use Rattle.plex_job.specs.declared.job_task.files.Input.{Input}
use Rattle.plex_job.specs.declared.job_task.files.Input.TheVariants.{File, Made}
use Rattle.plex_job.specs.job_task.Files.{IsShortFile, IsLongFile, IsUntaken, IsTaken, IsStopAt, IsInput}
use Rattle.plex_job.specs.job_task.Reading.{plan_given, mesh_given, task_given, IsStopOf, Gives, IsStop, IsSayable, IsBuilt, IsReadable, refusal_view}
use Rattle.plex_job.proofs.job_task.BuiltSteps.{given-built}
use Rattle.plex_job.proofs.job_task.MadeNumbers.{IsSized}

-- ---- what words ask, by their request

abbrev chain : Request → Option (List ℕ) → Option (List ℕ) → Result refused.Task refused.Refusal
chain asked plan_file mesh_file =
    plan_asked built_plan asked.plan plan_file >>= (λ plan_or. mesh_asked asked.source mesh_file >>= (λ mesh_or. plan_or >>= (λ plan. mesh_or >>= (λ mesh. where_fits asked.summary plan mesh))))

abbrev pub asked_by : Option Request → Asking
asked_by o = record {
  plan_name = option_and_then (λ (r : Request). r.plan) o;
  mesh_name = option_and_then (λ (r : Request). source_name r.source) o;
  fitting = λ plan_file mesh_file. or_refuse status.Words (λ text. text) (ok_or o words_refused) >>= (λ asked. chain asked plan_file mesh_file);
}

pub asking-is : (words : List (List ℕ)) → asking_built words ≡ asked_by (request words)
unfolding asking asking_built task_by
asking-is words = refl

-- refused words
pub words-give : (file : List ℕ → Told (List ℕ)) → Gives (asked_by None) file (Err (refusal_view Words))
words-give file = record { files = record { plan = None; mesh = None }; agree = record { plan = tt; mesh = tt }; gives = refl }

-- ---- one file

short-is : (name bytes : List ℕ) → length bytes ≤ most_bytes → short_file name (Some bytes) ≡ Ok bytes
short-is name bytes le = ap (λ (b : Bool). cond b (refuse {A = List ℕ} status.TooLong (too_long_refused name)) (Ok bytes)) (le-ltb _ _ le)

long-is : (name bytes : List ℕ) → most_bytes < length bytes → short_file name (Some bytes) ≡ refuse status.TooLong (too_long_refused name)
long-is name bytes lt = ap (λ (b : Bool). cond b (refuse {A = List ℕ} status.TooLong (too_long_refused name)) (Ok bytes)) (lt-ltb _ _ lt)

whole-named : (there : Told (List ℕ)) (bytes : List ℕ) → IsWhereTold there bytes → IsFileWhereTold there (Some bytes)
whole-named untold bytes taken = tt
whole-named absent bytes taken = absurd taken
whole-named (told file) bytes taken = ap Some taken

-- some file in accord with what is told
some-file : (there : Told (List ℕ)) → (bytes : Option (List ℕ)) × IsFileWhereTold there bytes
some-file untold = (None, tt)
some-file absent = (None, refl)
some-file (told file) = (Some file, refl)

some-named : (file : List ℕ → Told (List ℕ)) (name : Option (List ℕ)) → (bytes : Option (List ℕ)) × IsFileNamed file name bytes
some-named file None = (None, tt)
some-named file (Some name) = some-file (file name)

-- a file that is too long
long-there : (there : Told (List ℕ)) → IsLongFile there → (bytes : List ℕ) × IsFileWhereTold there (Some bytes) × (most_bytes < length bytes)
long-there untold long = (long.front, tt, omega (arith, long.longer))
long-there absent long = absurd long.taken
long-there (told file) long = (file, refl, omega (arith, long.taken.0))

-- ---- both files

taken-named : (file : List ℕ → Told (List ℕ)) (name bytes : Option (List ℕ)) → IsTaken file name bytes → IsFileNamed file name bytes
taken-named file None bytes t = tt
taken-named file (Some name) None t = absurd t
taken-named file (Some name) (Some bytes) t = whole-named (file name) bytes t.taken

taken-gives : (file : List ℕ → Told (List ℕ)) (name bytes : Option (List ℕ)) → IsTaken file name bytes → plan_asked built_plan name bytes ≡ Ok (plan_given bytes)
taken-gives file None bytes t = ap (λ b. Ok (plan_given b)) (sym t)
taken-gives file (Some name) None t = absurd t
taken-gives file (Some name) (Some bytes) t = ap (map_ok (λ b. or_refuse status.Plan plan_refused (built_plan b))) (short-is name bytes t.short)

abbrev input_bytes : Input → Option (List ℕ)
input_bytes (File bytes) = Some bytes.items
input_bytes (Made kind n) = None

input-named : (file : List ℕ → Told (List ℕ)) (source : words.Source) (input : Input) → IsInput file source input → IsFileNamed file (source_name source) (input_bytes input)
input-named file (words.File name) (File bytes) t = whole-named (file name) bytes.items t.taken
input-named file (words.File name) (Made kind n) t = absurd t
input-named file (words.Made kind n) input t = tt

input-gives : (file : List ℕ → Told (List ℕ)) (source : words.Source) (input : Input) → IsInput file source input → mesh_asked source (input_bytes input) ≡ Ok (mesh_given input)
input-gives file (words.File name) (File bytes) t = ap (map_ok mesh_in) (short-is name bytes.items t.short)
input-gives file (words.File name) (Made kind n) t = absurd t
input-gives file (words.Made kind n) (File bytes) t = absurd t
input-gives file (words.Made kind n) (Made k m) t = (λ i. Ok (Ok (made (sym t.0 i) (sym t.1 i))))

-- ---- what is answered

abbrev given_task : refused.Task → Result refused.Task refused.Refusal
given_task task = Ok task

module _ (file : List ℕ → Told (List ℕ)) where
  -- the files give what is read of them
  pub taken-give : (r : Request) (plan : Option (List ℕ)) (input : Input) (given : Result refused.Task refused.Refusal) → IsTaken file r.plan plan → IsInput file r.source input
      → task_given r.summary (plan_given plan) (mesh_given input) ≡ given → Gives (asked_by (Some r)) file given
  taken-give r plan input given taken read is = record {
    files = record { plan = plan; mesh = input_bytes input };
    agree = record { plan = taken-named file r.plan plan taken; mesh = input-named file r.source input read };
    gives =
        ap (λ (a : Result (Result plans.Plan refused.Refusal) refused.Refusal). a >>= (λ plan_or. mesh_asked r.source (input_bytes input) >>= (λ mesh_or. plan_or >>= (λ p. mesh_or >>= (λ m. where_fits r.summary p m))))) (taken-gives file r.plan plan taken)
        ∙ ap (λ (b : Result (Result meshes.Mesh refused.Refusal) refused.Refusal). b >>= (λ mesh_or. plan_given plan >>= (λ p. mesh_or >>= (λ m. where_fits r.summary p m)))) (input-gives file r.source input read)
        ∙ is;
  }

module _ (file : List ℕ → Told (List ℕ)) (failed : List ℕ → Type 0) where
  -- the refusal of what is read
  pub read-stop : (r : Request) (plan : Option (List ℕ)) (input : Input) (stop : Stop) → IsTaken file r.plan plan → IsInput file r.source input
      → IsStopOf (task_given r.summary (plan_given plan) (mesh_given input)) stop → IsStop (asked_by (Some r)) file failed stop
  read-stop r plan input NoMemory taken read is = tt
  read-stop r plan input (Refused Words) taken read is = absurd is
  read-stop r plan input (Refused (Read name)) taken read is = absurd is
  read-stop r plan input (Refused (TooLong name)) taken read is = absurd is
  read-stop r plan input (Refused (Plan fault)) taken read is = taken-give file r plan input _ taken read is.0
  read-stop r plan input (Refused (Msh fault)) taken read is = taken-give file r plan input _ taken read is.0
  read-stop r plan input (Refused (Mesh fault)) taken read is = taken-give file r plan input _ taken read is.0
  read-stop r plan input (Refused (Twist key)) taken read is = absurd is

  -- the plan's file was not taken
  plan-untaken : (name : Option (List ℕ)) (source : words.Source) (summary : Bool) (stop : Stop) → IsStopAt file failed name stop
      → IsStop (asked_by (Some (record { plan = name; source = source; summary = summary }))) file failed stop
  plan-untaken None source summary stop is = absurd is
  plan-untaken (Some name) source summary NoMemory is = tt
  plan-untaken (Some name) source summary (Refused Words) is = absurd is
  plan-untaken (Some name) source summary (Refused (Read named)) is =
      (Contains-append_left (listed (Some name)) (listed (source_name source)) named.now (subst (Contains (name ∷ [])) (sym is.0) (Contains-push [] name)), subst failed (sym is.0) is.1)
  plan-untaken (Some name) source summary (Refused (TooLong named)) is =
      let long = long-there (file name) is.1 in
      let other = some-named file (source_name source) in
      record {
        files = record { plan = Some long.0; mesh = other.0 };
        agree = record { plan = long.1; mesh = other.1 };
        gives =
            ap (λ (a : Result (List ℕ) refused.Refusal). map_ok (λ b. or_refuse status.Plan plan_refused (built_plan b)) a >>= (λ plan_or. mesh_asked source other.0 >>= (λ mesh_or. plan_or >>= (λ p. mesh_or >>= (λ m. where_fits summary p m))))) (long-is name long.0 long.2)
            ∙ ap (λ (n : List ℕ). refuse {A = refused.Task} status.TooLong (too_long_refused n)) (sym is.0);
      }
  plan-untaken (Some name) source summary (Refused (Plan fault)) is = absurd is
  plan-untaken (Some name) source summary (Refused (Msh fault)) is = absurd is
  plan-untaken (Some name) source summary (Refused (Mesh fault)) is = absurd is
  plan-untaken (Some name) source summary (Refused (Twist key)) is = absurd is

  pub plan-stop : (r : Request) (stop : Stop) → IsStopAt file failed r.plan stop → IsStop (asked_by (Some r)) file failed stop
  plan-stop r stop is = plan-untaken r.plan r.source r.summary stop is

  -- the mesh's file was not taken
  mesh-untaken : (plan_name plan : Option (List ℕ)) (source : words.Source) (summary : Bool) (stop : Stop) → IsTaken file plan_name plan → IsStopAt file failed (source_name source) stop
      → IsStop (asked_by (Some (record { plan = plan_name; source = source; summary = summary }))) file failed stop
  mesh-untaken plan_name plan (words.Made kind n) summary stop taken is = absurd is
  mesh-untaken plan_name plan (words.File name) summary NoMemory taken is = tt
  mesh-untaken plan_name plan (words.File name) summary (Refused Words) taken is = absurd is
  mesh-untaken plan_name plan (words.File name) summary (Refused (Read named)) taken is =
      (Contains-append_right (listed plan_name) (listed (Some name)) named.now (subst (Contains (name ∷ [])) (sym is.0) (Contains-push [] name)), subst failed (sym is.0) is.1)
  mesh-untaken plan_name plan (words.File name) summary (Refused (TooLong named)) taken is =
      let long = long-there (file name) is.1 in
      record {
        files = record { plan = plan; mesh = Some long.0 };
        agree = record { plan = taken-named file plan_name plan taken; mesh = long.1 };
        gives =
            ap (λ (a : Result (Result plans.Plan refused.Refusal) refused.Refusal). a >>= (λ plan_or. mesh_asked (words.File name) (Some long.0) >>= (λ mesh_or. plan_or >>= (λ p. mesh_or >>= (λ m. where_fits summary p m))))) (taken-gives file plan_name plan taken)
            ∙ ap (λ (a : Result (List ℕ) refused.Refusal). map_ok mesh_in a >>= (λ mesh_or. plan_given plan >>= (λ p. mesh_or >>= (λ m. where_fits summary p m)))) (long-is name long.0 long.2)
            ∙ ap (λ (n : List ℕ). refuse {A = refused.Task} status.TooLong (too_long_refused n)) (sym is.0);
      }
  mesh-untaken plan_name plan (words.File name) summary (Refused (Plan fault)) taken is = absurd is
  mesh-untaken plan_name plan (words.File name) summary (Refused (Msh fault)) taken is = absurd is
  mesh-untaken plan_name plan (words.File name) summary (Refused (Mesh fault)) taken is = absurd is
  mesh-untaken plan_name plan (words.File name) summary (Refused (Twist key)) taken is = absurd is

  pub mesh-stop : (r : Request) (plan : Option (List ℕ)) (stop : Stop) → IsTaken file r.plan plan → IsStopAt file failed (source_name r.source) stop → IsStop (asked_by (Some r)) file failed stop
  mesh-stop r plan stop taken is = mesh-untaken r.plan plan r.source r.summary stop taken is

-- ---- after a file was taken all files are as before

pub input-same : (f g : List ℕ → Told (List ℕ)) (source : words.Source) (input : Input) → ((n : List ℕ) → f n ≡ g n) → IsInput f source input → IsInput g source input
input-same f g (words.File name) (File bytes) same t = subst (λ there. IsShortFile there bytes.items) (same name) t
input-same f g (words.File name) (Made kind n) same t = absurd t
input-same f g (words.Made kind n) (File bytes) same t = absurd t
input-same f g (words.Made kind n) (Made k m) same t = t

failed-same : (there : Told (List ℕ)) (name : List ℕ) (failed later : List ℕ → Type 0) (stop : Stop) → ((n : List ℕ) → failed n → later n) → IsUntaken there name failed stop → IsUntaken there name later stop
failed-same there name failed later NoMemory more t = tt
failed-same there name failed later (Refused Words) more t = absurd t
failed-same there name failed later (Refused (Read named)) more t = (t.0, more name t.1)
failed-same there name failed later (Refused (TooLong named)) more t = t
failed-same there name failed later (Refused (Plan fault)) more t = absurd t
failed-same there name failed later (Refused (Msh fault)) more t = absurd t
failed-same there name failed later (Refused (Mesh fault)) more t = absurd t
failed-same there name failed later (Refused (Twist key)) more t = absurd t

pub stop-same : (f g : List ℕ → Told (List ℕ)) (failed later : List ℕ → Type 0) (name : Option (List ℕ)) (stop : Stop) → ((n : List ℕ) → f n ≡ g n) → ((n : List ℕ) → failed n → later n)
    → IsStopAt f failed name stop → IsStopAt g later name stop
stop-same f g failed later None stop same more t = absurd t
stop-same f g failed later (Some name) stop same more t = failed-same (g name) name failed later stop more (subst (λ there. IsUntaken there name failed stop) (same name) t)

-- ---- a task that is given

pub task-built : (summary : Bool) (file : Option (List ℕ)) (mesh : Result meshes.Mesh refused.Refusal) (task : refused.Task) → task_given summary (plan_given file) mesh ≡ Ok task → IsBuilt task
task-built summary file mesh task h =
    let plan = bind-ok (plan_given file) (λ p. mesh >>= (λ m. where_fits summary p m)) task h in
    let read = bind-ok mesh (λ m. where_fits summary plan.0 m) task plan.2 in
    fitted plan.0 read.0 plan.1 (misfit plan.0 (length read.0.cells)) refl read.2
  where
    fitted : (p : plans.Plan) (m : meshes.Mesh) → plan_given file ≡ Ok p → (o : Option _) → misfit p (length m.cells) ≡ o → or_refuse status.Plan plan_refused (unless o (record { mesh = m; plan = p; summary = summary })) ≡ given_task task → IsBuilt task
    fitted p m is None fits e = let same : record { mesh = m; plan = p; summary = summary } ≡ task = cc e in let has = given-built file p is in subst IsBuilt same (record { bytes = has.bytes; said = has.said; plan = has.built; fits = fits })
    fitted p m is (Some fault) fits e = absurd (cc e)

-- ---- by the words

pub by-words : (P : Asking → Type 0) (ws : List (List ℕ)) (o : Option Request) → o ≡ request ws → P (asked_by o) → P (asking_built ws)
by-words P ws o e p = subst P (sym (asking-is ws ∙ ap asked_by (sym e))) p

-- a stop that is handed on
pub stop-handed : {A : Type 0} (P : Stop → Type 0) (r : Result A Stop) (stop : Stop) → IsErrAnd r (λ s. s ≡ stop) → P stop → IfErr r P
stop-handed P (Ok x) stop is p = tt
stop-handed P (Err s) stop is p = subst P (sym is) p

-- what is made has a number of its kind, and a file is short
pub input-readable : (file : List ℕ → Told (List ℕ)) (source : words.Source) (input : Input) → IsSized source → IsInput file source input → IsReadable input
input-readable file (words.File name) (File bytes) sized t = t.short
input-readable file (words.File name) (Made kind n) sized t = absurd t
input-readable file (words.Made kind n) (File bytes) sized t = absurd t
input-readable file (words.Made kind n) (Made k m) sized t = subst (λ x. (1 ≤ m) × (m ≤ most x)) (sym t.0) (subst (λ x. (1 ≤ x) × (x ≤ most kind)) (sym t.1) sized)

-- what follows of an answer
pub if_ok : {A E : Type 0} (P Q : A → Type 0) (r : Result A E) → ((x : A) → P x → Q x) → IfOk r P → IfOk r Q
if_ok P Q (Ok x) more p = more x p
if_ok P Q (Err e) more p = tt

pub if_err : {A E : Type 0} (P Q : E → Type 0) (r : Result A E) → ((e : E) → P e → Q e) → IfErr r P → IfErr r Q
if_err P Q (Ok x) more p = tt
if_err P Q (Err e) more p = more e p

-- ---- refusals have lines

pub untaken-sayable : (file : List ℕ → Told (List ℕ)) (failed : List ℕ → Type 0) (name : Option (List ℕ)) (stop : Stop) → IsStopAt file failed name stop → IsSayable stop
untaken-sayable file failed None stop t = absurd t
untaken-sayable file failed (Some name) NoMemory t = tt
untaken-sayable file failed (Some name) (Refused Words) t = tt
untaken-sayable file failed (Some name) (Refused (Read named)) t = tt
untaken-sayable file failed (Some name) (Refused (TooLong named)) t = tt
untaken-sayable file failed (Some name) (Refused (Plan fault)) t = absurd t
untaken-sayable file failed (Some name) (Refused (Msh fault)) t = absurd t
untaken-sayable file failed (Some name) (Refused (Mesh fault)) t = absurd t
untaken-sayable file failed (Some name) (Refused (Twist key)) t = absurd t

pub given-sayable : {A : Type 0} (given : Result A refused.Refusal) (stop : Stop) → IsStopOf given stop → IsSayable stop
given-sayable given NoMemory t = tt
given-sayable given (Refused Words) t = tt
given-sayable given (Refused (Read named)) t = tt
given-sayable given (Refused (TooLong named)) t = tt
given-sayable given (Refused (Plan fault)) t = t.1
given-sayable given (Refused (Msh fault)) t = t.1
given-sayable given (Refused (Mesh fault)) t = t.1
given-sayable given (Refused (Twist key)) t = absurd t

-- there are files in accord with what is told
pub some-files : (a : Asking) (file : List ℕ → Told (List ℕ)) → (files : AskedFiles) × AreFiles a file files
some-files a file =
    let plan = some-named file a.plan_name in
    let mesh = some-named file a.mesh_name in
    (record { plan = plan.0; mesh = mesh.0 }, record { plan = plan.1; mesh = mesh.1 })

-- ---- a task that words and files give

abbrev whole : {A : Type 0} → Result A refused.Refusal → Result (Result A refused.Refusal) refused.Refusal
whole x = Ok x

inner : {A : Type 0} (x y : Result A refused.Refusal) → whole x ≡ whole y → x ≡ y
inner x y e = cc e

-- the plan that is asked for is the one that some bytes say
asked-given : (name file : Option (List ℕ)) (plan : plans.Plan) → plan_asked built_plan name file ≡ whole (Ok plan) → (bytes : Option (List ℕ)) × (plan_given bytes ≡ Ok plan)
asked-given None file plan e = (None, inner (Ok plain_plan) (Ok plan) e)
asked-given (Some name) file plan e = go (short_file name file) e
  where
    go : (o : Result (List ℕ) refused.Refusal) → map_ok (λ bytes. or_refuse status.Plan plan_refused (built_plan bytes)) o ≡ whole (Ok plan) → (bytes : Option (List ℕ)) × (plan_given bytes ≡ Ok plan)
    go (Ok bytes) is = (Some bytes, inner (or_refuse status.Plan plan_refused (built_plan bytes)) (Ok plan) is)
    go (Err e) is = absurd (cc is)

-- what accepted words and files give is built
pub given-task-built : (ws : List (List ℕ)) (plan_file mesh_file : Option (List ℕ)) (task : refused.Task) → (asking_built ws).fitting plan_file mesh_file ≡ Ok task → IsBuilt task
given-task-built ws plan_file mesh_file task h = by_words (request ws) (sym (ap (λ (a : Asking). a.fitting plan_file mesh_file) (asking-is ws)) ∙ h)
  where
    by_words : (o : Option Request) → (asked_by o).fitting plan_file mesh_file ≡ Ok task → IsBuilt task
    by_words None e = absurd (cc e)
    by_words (Some r) e =
        let plan_or = bind-ok (plan_asked built_plan r.plan plan_file) _ task e in
        let mesh_or = bind-ok (mesh_asked r.source mesh_file) _ task plan_or.2 in
        let plan = bind-ok plan_or.0 _ task mesh_or.2 in
        let given = asked-given r.plan plan_file plan.0 (plan_or.1 ∙ ap Ok plan.1) in
        task-built r.summary given.0 mesh_or.0 task (ap (λ (p : Result plans.Plan refused.Refusal). p >>= (λ p. mesh_or.0 >>= (λ m. where_fits r.summary p m))) given.1 ∙ plan.2)
