use Rattle.std.proofs.Common.{◌≡◌, take}
use Rattle.plain_lists.specs.Lists.{picked}
use Rattle.poly_orient.specs.Symmetries.{corners_listed}
use Rattle.poly_orient.proofs.relation.leads.Given as goal

abbrev pub invariant-loop-k : goal.invariant-loop-k
invariant-loop-k l = take l.k (picked l.from (corners_listed l.p l.symmetry)) ≡ take l.k l.to
