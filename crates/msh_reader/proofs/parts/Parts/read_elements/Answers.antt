use Rattle.std.proofs.Common.{sym, ap}
use Rattle.mesh_defs.specs.declared.Place.TheVariants as place
use Rattle.input_defs.specs.declared.MshFault.TheVariants.{BadCount}
use Rattle.input_defs.specs.Files.{file_numbers}
use Rattle.input_laws.specs.reading_laws.Going.{closed}
use Rattle.msh_reader.specs.NumberSets.{numbers_of}
use Rattle.msh_reader.specs.Taking.{parts_view}
use Rattle.msh_reader.proofs.Earlier.{SameNumbers}
use Rattle.msh_reader.proofs.TakenSections.{elements-known}
use Rattle.msh_reader.proofs.Going.{goes-same}
use Rattle.msh_reader.proofs.parts.Parts.read_elements.Goals as goal

pub returns-in-Some : goal.returns-in-Some
returns-in-Some c =
    let each : SameNumbers (file_numbers (parts_view c.args.self.now) place.Node) (numbers_of c.in-Some.list.numbers) = λ n. rw c.in-Some.is (sym (c.in-Some.list.knows n)) in
    goes-same (ap (closed BadCount) (elements-known _ _ each)) c.whole_elements.ensures

pub returns-in-None : goal.returns-in-None
returns-in-None c =
    let each : SameNumbers (file_numbers (parts_view c.args.self.now) place.Node) (numbers_of c.new.result) = λ n. rw c.in-None.is (sym (c.new.ensures n)) in
    goes-same (ap (closed BadCount) (elements-known _ _ each)) c.whole_elements-in-None.ensures
