use Rattle.std.proofs.Common.{pos, [], ◌∷◌, subst, sym, rules}
use Rattle.std.specs.Prelude.{slice_index_or}
use Rattle.std.specs.List.{AllByRecursion}
use Rattle.std.proofs.lemmas.List.{take_more}
use Rattle.plain_lists.proofs.Each.{all_append}
use mir.Syntax.{w64}
use mir.Val.{SFits}
use Rattle.walk_defs.specs.step_defs.Words.{FitsWord}
use Rattle.plex_job.proofs.value_words.SignedWords.{fits-word}
use Rattle.plex_job.proofs.value_words.passing.values_fit.Goals as goal

pub loop-value-preserved : goal.loop-value-preserved
loop-value-preserved c =
    let fits : SFits w64 (slice_index_or c.args.values.now c.loop-value.value-index (pos 0)) = search rules in
    subst (AllByRecursion FitsWord) (sym (take_more c.args.values.now c.loop-value.value-index (pos 0) c.loop-value-test.true))
    (all_append FitsWord _ (slice_index_or c.args.values.now c.loop-value.value-index (pos 0) ∷ []) c.loop-value.invariant (fits-word _ fits, tt))
