use Rattle.rank_chart_laws.proofs.key_laws.Told.{keys-told}
use Rattle.rank_chart_laws.proofs.key_laws.told_keys_are_the_keys.Goals as goal

pub returns : goal.returns
returns c = λ s m dofs a n places r least keys is all home shape back copies lengths. keys-told s m dofs a n is places all r home least shape back keys copies lengths
