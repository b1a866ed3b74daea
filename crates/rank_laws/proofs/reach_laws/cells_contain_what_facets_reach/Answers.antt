use Rattle.rank_laws.proofs.reach_laws.Tables.{contained-reached}
use Rattle.rank_laws.proofs.reach_laws.cells_contain_what_facets_reach.Goals as goal

pub returns : goal.returns
returns c = contained-reached
