use Rattle.rank_laws.proofs.PointForests.{migration-forest-sound}
use Rattle.rank_laws.proofs.redistributions_are_forests.Goals as goal

pub returns : goal.returns
returns c = migration-forest-sound
