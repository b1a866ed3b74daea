use Rattle.plain_lists.specs.Vectors.{lists_of}
use Rattle.sf_graph.proofs.Ranks.{IsSearchedTo}
use Rattle.sf_graph.proofs.forest.find_leaves.Given as goal

abbrev pub invariant-loop-own : goal.invariant-loop-own
invariant-loop-own l = record {
  can_next : (goal.iterator-loop-own).can_next l.own-iterator;
  is_finite : (goal.iterator-loop-own).is_finite l.own-iterator;
  searched : IsSearchedTo l.roots (lists_of l.fn.leaves.items) l.found.items l.own-iterator.rest.items;
}
