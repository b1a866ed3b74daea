use Rattle.rank_laws.proofs.HomeRound.{last-key}
use Rattle.rank_laws.proofs.home_round_gives_the_keys.Goals as goal

pub returns : goal.returns
returns c = λ m n a r parts home w d low. last-key m n a parts r home w d low
