use Rattle.rank_chart_laws.proofs.meeting_laws.Joined.{joined-forest}
use Rattle.rank_chart_laws.proofs.meeting_laws.meeting_finds_the_shared_points.Goals as goal

pub returns : goal.returns
returns c = joined-forest
