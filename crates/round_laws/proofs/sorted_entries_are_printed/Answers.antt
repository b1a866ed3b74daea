use Rattle.round_laws.proofs.Permuted.{sorted-printed, ordered-printed}
use Rattle.round_laws.proofs.sorted_entries_are_printed.Goals as goal

pub returns : goal.returns
returns c = record { rearranged = sorted-printed; reordered = ordered-printed }
