use Rattle.std.proofs.Common.{◌≡◌, ◌≤◌, map, length, drop}
use Rattle.plain_lists.specs.Lists.{below}
use Rattle.dist_seed.specs.Parts.{part_given}
use Rattle.dist_seed.proofs.parts.parts_of.Given as goal

abbrev pub invariant-loop-own : goal.invariant-loop-own
invariant-loop-own g l = record {
  can_next : (goal.iterator-loop-own g).can_next l.own-iterator;
  is_finite : (goal.iterator-loop-own g).is_finite l.own-iterator;
  parts : l.parts.items ≡ map (part_given l.from.mesh.now l.from.ranks.now) (below (length l.parts.items));
  within : length l.parts.items ≤ length l.fn.held.items;
  rest : l.own-iterator.rest.items ≡ drop (length l.parts.items) l.fn.held.items;
}
