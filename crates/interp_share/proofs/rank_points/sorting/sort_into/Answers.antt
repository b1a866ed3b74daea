use Rattle.std.proofs.Common.{ap, ◌∙◌}
use Rattle.plain_lists.specs.Lists.{sorted}
use Rattle.input_laws.proofs.place_laws.Sorting.{sorted-unique}
use Rattle.interp_share.proofs.rank_points.sorting.sort_into.Goals as goal

pub returns : goal.returns
returns c = sorted-unique c.copy_from_slice.new.self c.sort_unstable.new.self c.sort_unstable.ensures.permutation c.sort_unstable.ensures.sorted ∙ ap sorted c.copy_from_slice.ensures.after
