use Rattle.std.proofs.Common.{◌≡◌}
use Rattle.std.specs.Prelude.{flat_map}
use Rattle.plain_lists.specs.Lists.{below}
use Rattle.plex_defs.specs.Labels.{label_of}
use Rattle.orient_iface.proofs.moved_points.Valued.{moved_pairs}
use Rattle.orient_iface.proofs.moved_points.label.moved_label.Given as goal

-- the points up to here
abbrev pub invariant-loop-p : goal.invariant-loop-p
invariant-loop-p l = l.moved ≡ label_of (flat_map (moved_pairs l.moves l.label) (below l.p))
