use Rattle.rank_chart_laws.proofs.field_laws.Shared.{words-add_up}
use Rattle.rank_chart_laws.proofs.field_laws.copies_add_up_to_weights.Goals as goal

pub returns : goal.returns
returns c = λ m n a r i flat sound parts low inside. words-add_up m n a flat sound parts r low i inside
