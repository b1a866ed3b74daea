use Rattle.std.proofs.Common.{sym, ◌∙◌, ◌==◌}
use Rattle.plain_lists.proofs.Finding.{position-none}
use Rattle.input_defs.specs.Content.{Node}
use Rattle.input_laws.proofs.place_laws.Firsts.{found-nowhere}
use Rattle.mesh_check.proofs.positions.position.Goals as goal

pub returns-in-None : goal.returns-in-None
returns-in-None c = c.len.ensures ∙ sym (position-none (λ (node : Node). node.number == c.args.number) c.args.vertices.now (found-nowhere (λ (node : Node). node.number == c.args.number) c.args.vertices.now (sym c.in-None.ensures.position)))
