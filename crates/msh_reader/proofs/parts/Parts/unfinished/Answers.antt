use Rattle.std.proofs.Common.{not, ◌∷◌, [], ap₂, ◌∙◌}
use Rattle.input_defs.specs.declared.MshFault.TheVariants.{NotMsh, MissingSection}
use Rattle.input_defs.specs.Causes.{first_cause}
use Rattle.input_defs.specs.Files.{unfinished}
use Rattle.std.proofs.Common.{true, false}
use Rattle.msh_reader.proofs.Options.{none-is, none-map}
use Rattle.msh_reader.proofs.parts.Parts.unfinished.Goals as goal

pub returns : goal.returns
unfolding unfinished
returns c = c.first_cause.ensures ∙ ap₂ (λ a b. first_cause ((not c.args.self.now.format, NotMsh c.args.line) ∷ (a, MissingSection c.args.line true) ∷ (b, MissingSection c.args.line false) ∷ [])) (none-is c.args.self.now.nodes c.is_none.result c.is_none.ensures ∙ none-map _ c.args.self.now.nodes) (none-is c.args.self.now.elements c.is_none-2.result c.is_none-2.ensures)
