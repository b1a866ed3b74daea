use Rattle.std.proofs.Common.{◌≡◌, ◌++◌}
use Rattle.plain_lists.specs.Vectors.{lists_of}
use Rattle.sf_fabric.specs.Cut.{cut, AreCuts}
use Rattle.sf_fabric.proofs.flat.FlatLists.of_nested.Given as goal

abbrev pub invariant-loop-list : goal.invariant-loop-list
invariant-loop-list g l = record {
  can_next : (goal.iterator-loop-list g).can_next l.list-iterator;
  is_finite : (goal.iterator-loop-list g).is_finite l.list-iterator;
  cuts : AreCuts l.items.items l.firsts.items;
  lists : cut l.items.items l.firsts.items ++ lists_of l.list-iterator.rest.items ≡ lists_of l.fn.lists.items;
}
