use Rattle.std.proofs.Common.{Some, None, Ok, Err, sym, ap, subst, ◌∙◌}
use Rattle.std.specs.Prelude.{map, string_bytes, option_map}
use Rattle.cause_defs.specs.Faults.{FailsTake, Rises}
use Rattle.job_words.specs.Asking.{request_view}
use Rattle.report.specs.declared.refusal.Refusal.TheVariants.{Words}
use Rattle.plex_job.specs.job_task.Files.{bytes_of}
use Rattle.plex_job.specs.job_task.Reading.{Gives, IsStop, IsSayable, refusal_view, task_view, mesh_given}
use Rattle.plex_job.proofs.job_task.Giving.{words-give, plan-stop, mesh-stop, read-stop, taken-give, input-same, input-readable, stop-same, task-built, by-words, stop-handed, if_ok, if_err, untaken-sayable, given-sayable}
use Rattle.plex_job.proofs.job_task.MadeNumbers.{source-sized}
use Rattle.plex_job.proofs.job_task.reading.read_task.Goals as goal

pub returns-in-None-clause-stop : goal.returns-in-None-clause-stop
returns-in-None-clause-stop g c =
    let file = g.S.Shelf.file c.args.shelf.now in
    by-words (λ a. Gives a file (Err (refusal_view Words))) (map string_bytes c.args.words.now) None (ap (option_map request_view) (sym c.in-None.is) ∙ c.in_ok-asked.ensures) (words-give file)

pub returns-in_err-plan-clause-stop : goal.returns-in_err-plan-clause-stop
returns-in_err-plan-clause-stop g c =
    let file = g.S.Shelf.file c.args.shelf.now in
    let failed = FailsTake g.S.Shelf.faults g.S.Shelf.last_failed c.args.shelf.now c.take_plan.new.shelf in
    let words = map string_bytes c.args.words.now in
    let r = request_view c.in-Some.asked in
    let stop = c.in_err-plan.field-0.0 in
    stop-handed (λ s. IsStop _ file failed s) c.from_residual-in_err-plan.result stop c.from_residual-in_err-plan.ensures.1
    (by-words (λ a. IsStop a file failed stop) words (Some r) (ap (option_map request_view) (sym c.in-Some.is) ∙ c.in_ok-asked.ensures) (plan-stop file failed r stop c.in_err-plan.ensures.err))

pub returns-in_err-mesh-clause-stop : goal.returns-in_err-mesh-clause-stop
returns-in_err-mesh-clause-stop g c =
    let file = g.S.Shelf.file c.args.shelf.now in
    let failed = FailsTake g.S.Shelf.faults g.S.Shelf.last_failed c.args.shelf.now c.take_mesh.new.shelf in
    let later = FailsTake g.S.Shelf.faults g.S.Shelf.last_failed c.take_plan.new.shelf c.take_mesh.new.shelf in
    let words = map string_bytes c.args.words.now in
    let r = request_view c.in-Some.asked in
    let stop = c.in_err-mesh.field-0.0 in
    stop-handed (λ s. IsStop _ file failed s) c.from_residual-in_err-mesh.result stop c.from_residual-in_err-mesh.ensures.1
    (by-words (λ a. IsStop a file failed stop) words (Some r) (ap (option_map request_view) (sym c.in-Some.is) ∙ c.in_ok-asked.ensures)
    (mesh-stop file failed r (bytes_of c.in_ok-plan.plan) stop c.in_ok-plan.ensures.ok
    (stop-same _ file later failed _ stop c.take_plan.ensures.kept (λ n f. record { rose = subst (λ k. Rises k (g.S.Shelf.faults c.take_mesh.new.shelf)) c.in_ok-plan.ensures.count f.rose; last = f.last }) c.in_err-mesh.ensures.err)))

pub read_files-requires-clause-mesh : goal.read_files-requires-clause-mesh
read_files-requires-clause-mesh g c =
    let r = request_view c.in-Some.asked in
    input-readable (g.S.Shelf.file c.take_plan.new.shelf) r.source c.in_ok-mesh.mesh (source-sized (map string_bytes c.args.words.now) r (sym (ap (option_map request_view) (sym c.in-Some.is) ∙ c.in_ok-asked.ensures))) c.in_ok-mesh.ensures.ok

pub returns-clause-task : goal.returns-clause-task
returns-clause-task g c =
    let file = g.S.Shelf.file c.args.shelf.now in
    let words = map string_bytes c.args.words.now in
    let r = request_view c.in-Some.asked in
    if_ok _ (λ task. Gives _ file (Ok (task_view task))) c.read_files.result
    (λ task is. by-words (λ a. Gives a file (Ok (task_view task))) words (Some r) (ap (option_map request_view) (sym c.in-Some.is) ∙ c.in_ok-asked.ensures)
    (taken-give file r (bytes_of c.in_ok-plan.plan) c.in_ok-mesh.mesh (Ok (task_view task)) c.in_ok-plan.ensures.ok (input-same _ file r.source c.in_ok-mesh.mesh c.take_plan.ensures.kept c.in_ok-mesh.ensures.ok) is))
    c.read_files.ensures.ok

pub returns-clause-built : goal.returns-clause-built
returns-clause-built g c = if_ok _ _ c.read_files.result (λ task is. task-built c.in-Some.asked.summary (bytes_of c.in_ok-plan.plan) (mesh_given c.in_ok-mesh.mesh) (task_view task) is) c.read_files.ensures.ok

pub returns-clause-stop : goal.returns-clause-stop
returns-clause-stop g c =
    let file = g.S.Shelf.file c.args.shelf.now in
    let failed = FailsTake g.S.Shelf.faults g.S.Shelf.last_failed c.args.shelf.now c.take_mesh.new.shelf in
    let words = map string_bytes c.args.words.now in
    let r = request_view c.in-Some.asked in
    if_err _ (λ stop. IsStop _ file failed stop) c.read_files.result
    (λ stop is. by-words (λ a. IsStop a file failed stop) words (Some r) (ap (option_map request_view) (sym c.in-Some.is) ∙ c.in_ok-asked.ensures)
    (read-stop file failed r (bytes_of c.in_ok-plan.plan) c.in_ok-mesh.mesh stop c.in_ok-plan.ensures.ok (input-same _ file r.source c.in_ok-mesh.mesh c.take_plan.ensures.kept c.in_ok-mesh.ensures.ok) is))
    c.read_files.ensures.err

pub returns-in_err-plan-clause-sayable : goal.returns-in_err-plan-clause-sayable
returns-in_err-plan-clause-sayable g c = stop-handed IsSayable c.from_residual-in_err-plan.result c.in_err-plan.field-0.0 c.from_residual-in_err-plan.ensures.1 (untaken-sayable _ _ _ c.in_err-plan.field-0.0 c.in_err-plan.ensures.err)

pub returns-in_err-mesh-clause-sayable : goal.returns-in_err-mesh-clause-sayable
returns-in_err-mesh-clause-sayable g c = stop-handed IsSayable c.from_residual-in_err-mesh.result c.in_err-mesh.field-0.0 c.from_residual-in_err-mesh.ensures.1 (untaken-sayable _ _ _ c.in_err-mesh.field-0.0 c.in_err-mesh.ensures.err)

pub returns-clause-sayable : goal.returns-clause-sayable
returns-clause-sayable g c = if_err _ IsSayable c.read_files.result (λ stop is. given-sayable _ stop is) c.read_files.ensures.err
