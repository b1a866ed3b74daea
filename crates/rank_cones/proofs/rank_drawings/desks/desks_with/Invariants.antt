use Rattle.std.proofs.Common.{◌≡◌, ◌++◌, map}
use Rattle.plain_lists.specs.Vectors.{lists_of}
use Rattle.rank_cones.specs.declared.rank_drawings.desks.Desk.{Desk}
use Rattle.rank_cones.proofs.rank_drawings.desks.desks_with.Given as goal

-- the lists so far lie on desks
abbrev pub invariant-loop-own : goal.invariant-loop-own
invariant-loop-own l = record {
  can_next : (goal.iterator-loop-own).can_next l.own-iterator;
  is_finite : (goal.iterator-loop-own).is_finite l.own-iterator;
  made : lists_of l.fn.arrangements.items ≡ map (λ (d : Desk). d.arrangements.items) l.desks.items ++ lists_of l.own-iterator.rest.items;
}
