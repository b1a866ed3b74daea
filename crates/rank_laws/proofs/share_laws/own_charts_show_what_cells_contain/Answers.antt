use Rattle.rank_laws.proofs.share_laws.Own.{own-members, own-differ}
use Rattle.rank_laws.proofs.share_laws.own_charts_show_what_cells_contain.Goals as goal

pub returns-clause-members : goal.returns-clause-members
returns-clause-members c = own-members

pub returns-clause-once : goal.returns-clause-once
returns-clause-once c = own-differ
