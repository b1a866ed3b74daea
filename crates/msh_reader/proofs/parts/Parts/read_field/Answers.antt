use Rattle.input_defs.specs.Files.{file_numbers}
use Rattle.msh_reader.specs.NumberSets.{numbers_of}
use Rattle.msh_reader.specs.Taking.{parts_view}
use Rattle.msh_reader.proofs.Earlier.{SameNumbers}
use Rattle.msh_reader.proofs.TakenSections.{field-known}
use Rattle.msh_reader.proofs.parts.Parts.read_field.Goals as goal

pub returns-in-Some : goal.returns-in-Some
returns-in-Some c =
    let each : SameNumbers (numbers_of c.in-Some.list.numbers) (file_numbers (parts_view c.args.self.now) c.args.on) = λ n. rw (c.in-Node.is, c.in-Some.is) (c.in-Some.list.knows n) in
    field-known _ _ each c.field.ensures

pub returns-in-None : goal.returns-in-None
returns-in-None c =
    let each : SameNumbers (numbers_of c.new.result) (file_numbers (parts_view c.args.self.now) c.args.on) = λ n. rw (c.in-Node.is, c.in-None.is) (c.new.ensures n) in
    field-known _ _ each c.field-in-None.ensures

pub returns-in_ok-numbers-in-Element : goal.returns-in_ok-numbers-in-Element
returns-in_ok-numbers-in-Element c =
    let each : SameNumbers (numbers_of c.in_ok-numbers-in-Element.numbers) (file_numbers (parts_view c.args.self.now) c.args.on) = λ n. rw c.in-Element.is (c.in_ok-numbers-in-Element.ensures n) in
    field-known _ _ each c.field-in-Element.ensures
