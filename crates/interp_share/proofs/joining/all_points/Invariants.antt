use Rattle.std.proofs.Common.{◌≡◌, ℕ, ◌≤◌, List, map, length, drop}
use Rattle.plain_lists.specs.Lists.{below}
use Rattle.mesh_defs.specs.Mesh.{Mesh}
use Rattle.rank_defs.specs.Spread.{IsScatter}
use Rattle.interp_share.specs.Known.{known}
use Rattle.interp_share.proofs.joining.all_points.Given as goal

abbrev pub invariant-loop-own : goal.invariant-loop-own
invariant-loop-own l = record {
  can_next : (goal.iterator-loop-own).can_next l.own-iterator;
  is_finite : (goal.iterator-loop-own).is_finite l.own-iterator;
  within : length l.points.items ≤ length l.fn.seen.items;
  rest : l.own-iterator.rest.items ≡ drop (length l.points.items) l.fn.seen.items;
  many_sets : length l.sets.items ≡ length l.fn.sets.items;
  left_sets : drop (length l.points.items) l.sets.items ≡ drop (length l.points.items) l.fn.sets.items;
  many : length l.fields.items ≡ length l.fn.fields.items;
  left : drop (length l.points.items) l.fields.items ≡ drop (length l.points.items) l.fn.fields.items;
  made : (m : Mesh) (dofs : List (List ℕ)) (a : List ℕ) (n : ℕ) → IsScatter l.scatter m dofs a n → l.points.items ≡ map (known m dofs a) (below (length l.points.items));
}
