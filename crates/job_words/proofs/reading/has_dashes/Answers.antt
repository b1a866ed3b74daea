use Rattle.std.proofs.Common.{◌∙◌, rules, string_bytes}
use Rattle.std.proofs.lemmas.Iterator.{YieldsList-from_slice}
use Rattle.std.proofs.lemmas.Iterator.Search.{any_from_yields_List}
use Rattle.clap.proofs.WalkLemmas.{list_any-map}
use Rattle.input_laws.specs.command_laws.Command.{is_dashes}
use Rattle.job_words.proofs.reading.has_dashes.Goals as goal

pub returns : goal.returns
returns c =
    any_from_yields_List (λ s. is_dashes (string_bytes s)) _ _ c.any.result c.any.ensures.ran (YieldsList-from_slice c.args.words.now cc) (λ x b q k. search rules)
    ∙ list_any-map is_dashes string_bytes c.args.words.now
