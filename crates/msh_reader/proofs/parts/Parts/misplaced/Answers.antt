use Rattle.std.proofs.Common.{not, true, false, ◌∷◌, [], ap, ap₂, sym, ◌∙◌}
use Rattle.std.specs.Prelude.{nat_le}
use Rattle.std.proofs.lemmas.List.{length-map}
use Rattle.input_defs.specs.declared.What.TheVariants as what
use Rattle.input_defs.specs.declared.MshFault.TheVariants.{NotMsh, MissingSection, RepeatedSection, TooMany}
use Rattle.input_defs.specs.Causes.{first_cause}
use Rattle.input_defs.specs.Files.{misplaced}
use Rattle.msh_reader.specs.declared.headers.Section.TheVariants as section
use Rattle.msh_reader.specs.Views.{field_view}
use Rattle.msh_reader.proofs.Options.{none-is, none-map, some-map}
use Rattle.msh_reader.proofs.parts.Parts.misplaced.Goals as goal

pub returns-in-Format : goal.returns-in-Format
unfolding misplaced
returns-in-Format c = rw c.in-Format.is c.first_cause.ensures

pub returns-in-Names : goal.returns-in-Names
unfolding misplaced
returns-in-Names c = rw c.in-Names.is (c.first_cause-in-Names.ensures ∙ ap (λ b. first_cause ((not c.args.self.now.format, NotMsh c.args.line) ∷ (b, RepeatedSection c.args.line) ∷ [])) (c.is_some.ensures ∙ some-map _ c.args.self.now.names))

pub returns-in-Nodes : goal.returns-in-Nodes
unfolding misplaced
returns-in-Nodes c = rw c.in-Nodes.is (c.first_cause-in-Nodes.ensures ∙ ap (λ b. first_cause ((not c.args.self.now.format, NotMsh c.args.line) ∷ (b, RepeatedSection c.args.line) ∷ [])) (c.is_some-in-Nodes.ensures ∙ some-map _ c.args.self.now.nodes))

pub returns-in-Elements : goal.returns-in-Elements
unfolding misplaced
returns-in-Elements c = rw c.in-Elements.is (c.first_cause-in-Elements.ensures ∙ ap₂ (λ a b. first_cause ((not c.args.self.now.format, NotMsh c.args.line) ∷ (a, MissingSection c.args.line true) ∷ (b, RepeatedSection c.args.line) ∷ [])) (none-is c.args.self.now.nodes c.is_none.result c.is_none.ensures ∙ none-map _ c.args.self.now.nodes) c.is_some-in-Elements.ensures)

pub returns-in-Data-Node : goal.returns-in-Data-Node
unfolding misplaced
returns-in-Data-Node c = rw (c.in-Data-Node.is ∙ ap (λ on. section.Data on) (rw c.in-Data-Node.is at c.in-Data-Node.field-0-is)) (c.first_cause-in-Data-Node.ensures
    ∙ ap₂ (λ a n. first_cause ((not c.args.self.now.format, NotMsh c.args.line) ∷ (a, MissingSection c.args.line true) ∷ (nat_le 16 n, TooMany c.args.line what.Fields) ∷ [])) (none-is c.args.self.now.nodes c.is_none.result c.is_none.ensures ∙ none-map _ c.args.self.now.nodes) (c.len.ensures ∙ c.args.self.now.fields.ok.0 ∙ sym (length-map c.args.self.now.fields.items field_view)))

pub returns-in-Data-Element : goal.returns-in-Data-Element
unfolding misplaced
returns-in-Data-Element c = rw (c.in-Data-Element.is ∙ ap (λ on. section.Data on) (rw c.in-Data-Element.is at c.in-Data-Element.field-0-is)) (c.first_cause-in-Data-Element.ensures
    ∙ ap₂ (λ a n. first_cause ((not c.args.self.now.format, NotMsh c.args.line) ∷ (a, MissingSection c.args.line false) ∷ (nat_le 16 n, TooMany c.args.line what.Fields) ∷ [])) (none-is c.args.self.now.elements c.is_none-2.result c.is_none-2.ensures) (c.len.ensures ∙ c.args.self.now.fields.ok.0 ∙ sym (length-map c.args.self.now.fields.items field_view)))
