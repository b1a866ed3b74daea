use Rattle.rank_chart_laws.proofs.home_laws.KeysBack.{keys-back}
use Rattle.rank_chart_laws.proofs.home_laws.home_roots_have_the_keys.Goals as goal

pub returns : goal.returns
returns c = λ m n a r roots parts home shape words. keys-back m n a parts r home roots shape words
