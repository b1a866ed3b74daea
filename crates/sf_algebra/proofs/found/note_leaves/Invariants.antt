use Rattle.std.proofs.Common.{◌≡◌, ℕ, length, map, take}
use Rattle.sf_defs.specs.Forest.{leaves_on, or_else}
use Rattle.sf_algebra.proofs.Noting.{noted, first_of}
use Rattle.sf_algebra.proofs.found.note_leaves.Given as goal

abbrev pub invariant-loop-i : goal.invariant-loop-i
invariant-loop-i l = record {
  shape : map length l.found ≡ l.forest.roots;
  noted : (to index : ℕ) → noted l.found to index ≡ or_else (noted l.initial.found to index) (first_of to index (l.rank, take l.i (leaves_on l.forest l.rank)));
}
