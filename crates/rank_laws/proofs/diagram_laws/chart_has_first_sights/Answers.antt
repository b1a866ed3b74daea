use Rattle.rank_laws.proofs.diagram_laws.Parts.{chart-parts}
use Rattle.rank_laws.proofs.diagram_laws.Whole.{keys-are}
use Rattle.rank_laws.proofs.diagram_laws.chart_has_first_sights.Goals as goal

pub returns-clause-points : goal.returns-clause-points
returns-clause-points c m right = chart-parts m right.sound right.differ

pub returns-clause-keys : goal.returns-clause-keys
returns-clause-keys c m right = keys-are m right.sound right.differ
