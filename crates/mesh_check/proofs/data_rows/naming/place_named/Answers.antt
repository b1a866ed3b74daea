use Rattle.std.proofs.Common.{◌≡◌, ◌==◌, sym, ap, ◌∙◌, subst}
use Rattle.std.specs.Prelude.{position}
use Rattle.input_defs.specs.Content.{Node}
use Rattle.input_defs.specs.Meshes.{place_named}
use Rattle.mesh_check.proofs.data_rows.naming.place_named.Goals as goal

pub returns-in-Node : goal.returns-in-Node
returns-in-Node c = subst (λ on. c.position.result ≡ place_named c.args.places.now on c.args.number) (sym c.in-Node.is) (c.position.ensures.position ∙ ap (position (λ (node : Node). node.number == c.args.number)) c.requires.vertices)
