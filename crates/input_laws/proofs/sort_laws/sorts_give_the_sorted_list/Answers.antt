use Rattle.input_laws.proofs.place_laws.Sorting.{sorted-unique}
use Rattle.input_laws.proofs.sort_laws.sorts_give_the_sorted_list.Goals as goal

pub returns : goal.returns
returns c = sorted-unique
