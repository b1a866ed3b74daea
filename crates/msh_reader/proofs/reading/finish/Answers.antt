use Rattle.std.proofs.Common.{sym, ap, ◌∙◌}
use Rattle.input_defs.specs.Causes.{unless}
use Rattle.input_defs.specs.Files.{content_of}
use Rattle.msh_reader.specs.Taking.{parts_view}
use Rattle.msh_reader.proofs.reading.finish.Goals as goal

pub text_of-requires : goal.text_of-requires
text_of-requires c = c.requires (content_of (parts_view c.args.parts)) (ap (λ o. unless o (content_of (parts_view c.args.parts))) (sym c.unfinished.ensures ∙ c.in-None.is))
