use Rattle.std.proofs.Common.{sym, ap, ◌∙◌, length}
use Rattle.plex_base.proofs.FlatRows.{rows-length}
use Rattle.msh_reader.proofs.element_list.ElementList.len.Goals as goal

pub returns : goal.returns
returns c = c.len.ensures ∙ c.self.inside.elements.ok.0 ∙ sym (rows-length _ _ _ _) ∙ ap length c.self.view_is
