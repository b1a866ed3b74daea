use Rattle.rank_laws.proofs.Kept.{embed-looks_up}
use Rattle.rank_laws.proofs.embedding_is_restriction.Goals as goal

pub returns : goal.returns
returns c = embed-looks_up
