use Rattle.rank_chart_laws.proofs.home_laws.OneRound.{words-are}
use Rattle.rank_chart_laws.proofs.home_laws.home_words_are_roots.Goals as goal

pub returns : goal.returns
returns c = words-are
