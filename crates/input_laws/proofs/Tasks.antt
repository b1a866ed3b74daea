-- What words and files give to do is right: the mesh of a file, the assignments of the plan's steps, and its counts.
use Rattle.std.proofs.Common.{◌≡◌, ℕ, List, length, Option, Some, None, Ok, Err, refl, sym, ap, ◌∙◌, subst}
use Rattle.std.specs.Prelude.{Result, codes, option_and_then, ok_or}
use Rattle.mesh_defs.specs.Mesh.{Mesh}
use Rattle.mesh_defs.specs.RightMesh.{IsRightMesh}
use Rattle.input_defs.specs.text_defs.Refusals.{words_refused}
use Rattle.input_defs.specs.declared.MshFault.{MshFault}
use Rattle.input_defs.specs.declared.Status.{Status}
use Rattle.input_defs.specs.declared.Status.TheVariants as status
use Rattle.input_defs.specs.Content.{Content}
use Rattle.input_defs.specs.Causes.{◌>>=◌, map_ok, unless}
use Rattle.input_defs.specs.Files.{content}
use Rattle.input_defs.specs.Meshes.{accepted}
use Rattle.input_defs.specs.Plans.{Plan, plan_of, plain_plan, misfit}
use Rattle.input_defs.specs.Words.{Source, File, Made, Request, request, source_name, mesh_name}
use Rattle.input_defs.specs.Refused.{Refusal, Task, or_refuse, short_file, msh_refused, mesh_refused, plan_refused, mesh_in, plan_asked, mesh_asked, where_fits, task_by, fitting_task}
use Rattle.input_defs.proofs.PlanRows.{plain_plan_in_words}
use Rattle.input_laws.proofs.Causes.{unless-ok}
use Rattle.input_laws.proofs.RightFiles.{content-right}
use Rattle.input_laws.proofs.RightAccepted.{right-accepted}

-- ---- answers that are no refusal

abbrev answer : {A : Type 0} → A → Result A Refusal
answer x = Ok x

answer-same : {A : Type 0} (x y : A) → answer x ≡ answer y → x ≡ y
answer-same x y h = cc h

or_refuse-ok : {A E : Type 0} (s : Status) (text : E → List ℕ) (o : Result A E) (x : A) → or_refuse s text o ≡ Ok x → o ≡ Ok x
or_refuse-ok s text (Ok y) x h = ap Ok (answer-same y x h)
or_refuse-ok s text (Err e) x h = absurd (cc h)

map_ok-read : {A B : Type 0} (f : A → B) (o : Result A Refusal) (y : B) → map_ok f o ≡ Ok y → (x : A) × (f x ≡ y)
map_ok-read f (Ok x) y h = (x, answer-same (f x) y h)
map_ok-read f (Err e) y h = absurd (cc h)

-- ---- the mesh and the plan

-- the mesh of a file is right
file-mesh : (bytes : List ℕ) (m : Mesh) → mesh_in bytes ≡ Ok m → IsRightMesh m
file-mesh bytes m h = go (content bytes) refl h
  where
    go : (o : Result Content MshFault) → content bytes ≡ o → (or_refuse status.Mesh msh_refused o >>= (λ c. or_refuse status.Mesh mesh_refused (accepted c))) ≡ answer m → IsRightMesh m
    go (Ok c) is t = right-accepted c m (content-right bytes c is) (or_refuse-ok status.Mesh mesh_refused (accepted c) m t)
    go (Err e) is t = absurd (cc t)

asked-mesh : (source : Source) (name : List ℕ) (file : Option (List ℕ)) (m : Mesh) → source_name source ≡ Some name → mesh_asked source file ≡ Ok (Ok m) → IsRightMesh m
asked-mesh (File called) name file m same h = let read = map_ok-read mesh_in (short_file called file) (Ok m) h in file-mesh read.0 m read.1
asked-mesh (Made kind n) name file m same h = absurd (cc same)

-- the plan is read from some bytes, also the one without a file
asked-plan : (name : Option (List ℕ)) (file : Option (List ℕ)) (plan : Plan) → plan_asked plan_of name file ≡ Ok (Ok plan) → (bytes : List ℕ) × (plan_of bytes ≡ Ok plan)
asked-plan None file plan h = (codes "ranks 1\npart block\nshow points\n", plain_plan_in_words ∙ ap Ok (answer-same plain_plan plan (inner h)))
  where
    inner : answer (answer plain_plan) ≡ answer (answer plan) → answer plain_plan ≡ answer plan
    inner g = answer-same (answer plain_plan) (answer plan) g
asked-plan (Some name) file plan h =
    let read = map_ok-read (λ bytes. or_refuse status.Plan plan_refused (plan_of bytes)) (short_file name file) (Ok plan) h in
    (read.0, or_refuse-ok status.Plan plan_refused (plan_of read.0) plan read.1)

-- ---- the task

-- what a task was made of
record IsMadeOf (words : List (List ℕ)) (plan_file mesh_file : Option (List ℕ)) (task : Task) : Type 0 where
  pub asked : Request
  pub words_ask : request words ≡ Some asked
  pub plan : plan_asked plan_of asked.plan plan_file ≡ Ok (Ok task.plan)
  pub mesh : mesh_asked asked.source mesh_file ≡ Ok (Ok task.mesh)
  pub fits : misfit task.plan (length task.mesh.cells) ≡ None

made-of : (words : List (List ℕ)) (plan_file mesh_file : Option (List ℕ)) (task : Task) → fitting_task words plan_file mesh_file ≡ Ok task → IsMadeOf words plan_file mesh_file task
unfolding task_by
made-of words plan_file mesh_file task h = by_words (request words) refl h
  where
    by_fit : (asked : Request) (plan : Plan) (mesh : Mesh) → request words ≡ Some asked → plan_asked plan_of asked.plan plan_file ≡ Ok (Ok plan) → mesh_asked asked.source mesh_file ≡ Ok (Ok mesh) → where_fits asked.summary plan mesh ≡ Ok task → IsMadeOf words plan_file mesh_file task
    by_fit asked plan mesh is p q t =
        let fits = unless-ok (misfit plan (length mesh.cells)) (record { mesh = mesh; plan = plan; summary = asked.summary }) task (or_refuse-ok status.Plan plan_refused (unless (misfit plan (length mesh.cells)) (record { mesh = mesh; plan = plan; summary = asked.summary })) task t) in
        subst (λ (x : Task). IsMadeOf words plan_file mesh_file x) fits.1 (record { asked = asked; words_ask = is; plan = p; mesh = q; fits = fits.0 })

    by_files : (asked : Request) → request words ≡ Some asked → (a : Result (Result Plan Refusal) Refusal) (b : Result (Result Mesh Refusal) Refusal) → plan_asked plan_of asked.plan plan_file ≡ a → mesh_asked asked.source mesh_file ≡ b
        → (a >>= (λ plan_or. b >>= (λ mesh_or. plan_or >>= (λ plan. mesh_or >>= (λ mesh. where_fits asked.summary plan mesh))))) ≡ answer task → IsMadeOf words plan_file mesh_file task
    by_files asked is (Ok (Ok plan)) (Ok (Ok mesh)) p q t = by_fit asked plan mesh is p q t
    by_files asked is (Ok (Ok plan)) (Ok (Err e)) p q t = absurd (cc t)
    by_files asked is (Ok (Err e)) (Ok mesh_or) p q t = absurd (cc t)
    by_files asked is (Ok plan_or) (Err e) p q t = absurd (cc t)
    by_files asked is (Err e) b p q t = absurd (cc t)

    by_words : (o : Option Request) → request words ≡ o
        → (or_refuse status.Words (λ refused. refused) (ok_or o words_refused) >>= (λ asked. plan_asked plan_of asked.plan plan_file >>= (λ plan_or. mesh_asked asked.source mesh_file >>= (λ mesh_or. plan_or >>= (λ plan. mesh_or >>= (λ mesh. where_fits asked.summary plan mesh)))))) ≡ answer task → IsMadeOf words plan_file mesh_file task
    by_words (Some asked) is t = by_files asked is (plan_asked plan_of asked.plan plan_file) (mesh_asked asked.source mesh_file) refl refl t
    by_words None is t = absurd (cc t)

-- the mesh of a file is right
pub task-mesh : (words : List (List ℕ)) (plan_file mesh_file : Option (List ℕ)) (task : Task) (name : List ℕ) → mesh_name words ≡ Some name → fitting_task words plan_file mesh_file ≡ Ok task → IsRightMesh task.mesh
task-mesh words plan_file mesh_file task name named h =
    let parts = made-of words plan_file mesh_file task h in
    asked-mesh parts.asked.source name mesh_file task.mesh (sym (ap (option_and_then (λ (r : Request). source_name r.source)) parts.words_ask) ∙ named) parts.mesh

-- the plan is one that was read, and fits
pub task-plan : (words : List (List ℕ)) (plan_file mesh_file : Option (List ℕ)) (task : Task) → fitting_task words plan_file mesh_file ≡ Ok task → (bytes : List ℕ) × (plan_of bytes ≡ Ok task.plan) × (misfit task.plan (length task.mesh.cells) ≡ None)
task-plan words plan_file mesh_file task h =
    let parts = made-of words plan_file mesh_file task h in
    let read = asked-plan parts.asked.plan plan_file task.plan parts.plan in
    (read.0, read.1, parts.fits)
