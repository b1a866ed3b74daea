use Rattle.std.proofs.Common.{[], ◌∷◌, get_or, take, subst, sym, ap}
use Rattle.std.specs.List.{AllByRecursion}
use Rattle.std.proofs.lemmas.List.{take_more}
use Rattle.std.proofs.lemmas.Option.{slice_get_within, get_or_from_slice_get}
use Rattle.plain_lists.proofs.Each.{all_append}
use Rattle.mesh_defs.specs.declared.Place.TheVariants.{Node}
use Rattle.mesh_defs.specs.Mesh.{Section}
use Rattle.plex_job.specs.value_words.Rows.{FitsRows}
use Rattle.plex_job.proofs.value_words.passing.words_fit.Goals as goal

no_section : Section
no_section = record { on = Node; name = []; comps = 0; rows = [] }

pub loop-i-preserved : goal.loop-i-preserved
loop-i-preserved c =
    let fields = c.args.mesh.now.fields in
    let within = slice_get_within fields c.loop-i.i _ c.field.ensures in
    let rows = subst FitsRows (sym (ap (λ (f : Section). f.rows) (get_or_from_slice_get fields c.loop-i.i _ no_section c.field.ensures))) c.rows_fit.ensures in
    subst (AllByRecursion (λ (f : Section). FitsRows f.rows)) (sym (take_more fields c.loop-i.i no_section within)) (all_append (λ (f : Section). FitsRows f.rows) (take c.loop-i.i fields) (get_or fields c.loop-i.i no_section ∷ []) c.loop-i.invariant (rows, tt))
