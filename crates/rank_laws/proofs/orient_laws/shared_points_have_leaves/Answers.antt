use Rattle.rank_laws.proofs.orient_laws.Shared.{shared-degree}
use Rattle.rank_laws.proofs.orient_laws.shared_points_have_leaves.Goals as goal

pub returns : goal.returns
returns c = λ m n a r i d sound parts low inside owned. shared-degree m n a sound parts r i low d inside owned
