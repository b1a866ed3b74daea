use Rattle.std.proofs.Common.{◌∙◌}
use Rattle.input_laws.proofs.place_laws.Sorting.{sorted-unique}
use Rattle.mesh_check.proofs.element_places.Filled.{filled-put}
use Rattle.mesh_check.proofs.element_places.key.filled.Goals as goal

pub returns : goal.returns
returns c = sorted-unique _ c.sort_unstable.new.self c.sort_unstable.ensures.permutation c.sort_unstable.ensures.sorted ∙ filled-put c.args.nodes.now c.copy_from_slice.new.self c.requires c.copy_from_slice.ensures.after
