use Rattle.std.proofs.Common.{[], ◌∷◌, get_or, take, subst, sym, ap}
use Rattle.std.specs.List.{AllByRecursion}
use Rattle.std.proofs.lemmas.List.{take_more}
use Rattle.std.proofs.lemmas.Option.{slice_get_within, get_or_from_slice_get}
use Rattle.plain_lists.proofs.Each.{all_append}
use Rattle.mesh_defs.specs.Mesh.{Row}
use Rattle.walk_defs.specs.step_defs.Words.{FitsWord}
use Rattle.plex_job.specs.value_words.Rows.{FitsRows}
use Rattle.plex_job.proofs.value_words.passing.rows_fit.Goals as goal

no_row : Row
no_row = record { number = 0; values = [] }

pub loop-i-preserved : goal.loop-i-preserved
loop-i-preserved c =
    let rows = c.args.rows.now.rows in
    let within = slice_get_within rows c.loop-i.i _ c.row.ensures.row in
    let values = subst (AllByRecursion FitsWord) (sym (ap (λ (r : Row). r.values) (get_or_from_slice_get rows c.loop-i.i _ no_row c.row.ensures.row))) c.values_fit.ensures in
    subst FitsRows (sym (take_more rows c.loop-i.i no_row within)) (all_append (λ (r : Row). AllByRecursion FitsWord r.values) (take c.loop-i.i rows) (get_or rows c.loop-i.i no_row ∷ []) c.loop-i.invariant (values, tt))
