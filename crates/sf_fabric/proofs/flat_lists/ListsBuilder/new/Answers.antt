use Rattle.std.proofs.Common.{ap₂}
use Rattle.sf_fabric.specs.Cut.{cut}
use Rattle.sf_fabric.proofs.flat_lists.ListsBuilder.new.Goals as goal

pub returns : goal.returns
unfolding cut
returns g c = ap₂ (λ items firsts. cut items firsts) c.new.ensures.items c.in_ok-firsts.ensures.items
