use Rattle.rank_chart_laws.proofs.key_laws.Stands.{laid-out}
use Rattle.rank_chart_laws.proofs.key_laws.ranks_are_laid_out.Goals as goal

pub returns : goal.returns
returns c = laid-out
