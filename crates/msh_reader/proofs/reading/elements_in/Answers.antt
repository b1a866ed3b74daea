use Rattle.std.proofs.Common.{ap₂, ◌∙◌}
use Rattle.msh_reader.specs.Views.{element_views}
use Rattle.msh_reader.proofs.ElementRows.{views-none}
use Rattle.msh_reader.proofs.reading.elements_in.Goals as goal

pub returns-in-None : goal.returns-in-None
returns-in-None c = rw c.in-None.is (c.new-in-None-2.ensures ∙ ap₂ element_views c.new.ensures.items c.new-in-None.ensures.items ∙ views-none)
