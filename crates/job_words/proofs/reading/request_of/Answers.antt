use Rattle.std.proofs.Common.{◌∙◌, codes}
use Rattle.clap.specs.Matches.{found_of}
use Rattle.clap.specs.Walk.{rows_of}
use Rattle.job_words.proofs.Getters.{request_read, values_read}
use Rattle.job_words.proofs.reading.request_of.Goals as goal

pub returns : goal.returns
returns c =
    let found = found_of c.args.matches.now in
    c.combined.ensures ∙ request_read (rows_of found) _ _ _ _ _ _ c.plan_of-plan.ensures c.source_of-source.ensures c.has_summary.ensures
    (values_read found (codes "plan") c.get_raw.result c.get_raw.ensures) (values_read found (codes "make") c.get_raw-2.result c.get_raw-2.ensures) (values_read found (codes "mesh") c.get_raw-3.result c.get_raw-3.ensures)
