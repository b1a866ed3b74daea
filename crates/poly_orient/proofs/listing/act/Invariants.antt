use Rattle.std.proofs.Common.{◌≡◌, length, take}
use Rattle.plain_lists.specs.Lists.{picked}
use Rattle.mesh_defs.specs.Tables.{corner_count}
use Rattle.poly_orient.specs.Symmetries.{corners_listed}
use Rattle.poly_orient.proofs.listing.act.Given as goal

abbrev pub invariant-loop-k : goal.invariant-loop-k
invariant-loop-k l = record {
  all : length l.to ≡ corner_count l.p;
  listed : take l.k l.to ≡ take l.k (picked l.a (corners_listed l.p l.symmetry));
}
