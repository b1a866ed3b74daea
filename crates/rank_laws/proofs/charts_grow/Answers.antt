use Rattle.std.proofs.Common.{add-one}
use Rattle.rank_laws.proofs.Owning.{chart-grows}
use Rattle.rank_laws.proofs.charts_grow.Goals as goal

pub returns : goal.returns
returns c = λ m a r k. rw (add-one k) (chart-grows m a r k)
