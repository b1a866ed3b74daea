use Rattle.std.proofs.Common.{◌≡◌, ◌++◌, map, Some}
use Rattle.rank_cones.specs.declared.rank_drawings.desks.Desk.{Desk}
use Rattle.rank_cones.proofs.rank_drawings.desks.drawings_on.Given as goal

-- what lay on the desks so far is taken
abbrev pub invariant-loop-desk : goal.invariant-loop-desk
invariant-loop-desk l = record {
  can_next : (goal.iterator-loop-desk).can_next l.desk-iterator;
  is_finite : (goal.iterator-loop-desk).is_finite l.desk-iterator;
  made : map (λ (d : Desk). d.drawing) l.fn.desks.items ≡ map Some l.all.items ++ map (λ (d : Desk). d.drawing) l.desk-iterator.rest.items;
}
