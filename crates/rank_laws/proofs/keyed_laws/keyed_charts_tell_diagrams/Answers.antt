use Rattle.rank_laws.proofs.keyed_laws.Views.{diagram-told}
use Rattle.rank_laws.proofs.keyed_laws.keyed_charts_tell_diagrams.Goals as goal

pub returns : goal.returns
returns c = diagram-told
