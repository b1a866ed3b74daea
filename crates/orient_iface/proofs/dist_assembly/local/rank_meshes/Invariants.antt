use Rattle.std.proofs.Common.{◌≡◌, ℕ, ◌≤◌, List, drop, map, length}
use Rattle.plain_lists.specs.Lists.{below}
use Rattle.plain_lists.specs.Vectors.{lists_of}
use Rattle.mesh_defs.specs.Mesh.{Mesh}
use Rattle.rank_defs.specs.Ranks.{assigned}
use Rattle.rank_defs.specs.Spread.{local_mesh}
use Rattle.orient_iface.specs.dist_assembly.Ranks.{AreDrawn}
use Rattle.orient_iface.proofs.dist_assembly.local.rank_meshes.Given as goal

-- the ranks up to here, and the drawings of the others
abbrev pub invariant-loop-drawing : goal.invariant-loop-drawing
invariant-loop-drawing l = record {
  can_next : (goal.iterator-loop-drawing).can_next l.drawing-iterator;
  is_finite : (goal.iterator-loop-drawing).is_finite l.drawing-iterator;
  few : length l.locals.items ≤ length l.fn.drawings.items;
  left : drop (length l.locals.items) l.fn.drawings.items ≡ l.drawing-iterator.rest.items;
  made : (m : Mesh) (dofs : List (List ℕ)) (a : List ℕ) (n : ℕ) → AreDrawn l.shared l.fn.drawings.items (lists_of l.keys) m dofs a n → l.locals.items ≡ map (λ r. local_mesh m dofs a (assigned m a r)) (below (length l.locals.items));
}
