use Rattle.rank_laws.proofs.orient_laws.OwnSights.{agreeing-first}
use Rattle.rank_laws.proofs.orient_laws.own_sights_are_first_where_keys_agree.Goals as goal

pub returns : goal.returns
returns c = agreeing-first
