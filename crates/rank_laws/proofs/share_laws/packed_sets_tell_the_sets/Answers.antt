use Rattle.rank_laws.proofs.share_laws.Packed.{packed-once}
use Rattle.rank_laws.proofs.share_laws.packed_sets_tell_the_sets.Goals as goal

pub returns : goal.returns
returns c = packed-once
