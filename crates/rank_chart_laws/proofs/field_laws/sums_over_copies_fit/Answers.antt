use Rattle.rank_chart_laws.proofs.field_laws.Shared.{sums-fit}
use Rattle.rank_chart_laws.proofs.field_laws.sums_over_copies_fit.Goals as goal

pub returns : goal.returns
returns c = λ m n a flat right parts. sums-fit m n a flat right.sound parts.each right.few_cells parts.few_ranks
