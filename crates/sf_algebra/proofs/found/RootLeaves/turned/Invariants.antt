use Rattle.std.proofs.Common.{◌≡◌, ℕ, None, get_or, filter_map, option_map}
use Rattle.plain_lists.specs.Lists.{below}
use Rattle.sf_defs.specs.Forest.{leaf}
use Rattle.sf_algebra.proofs.found.RootLeaves.turned.Given as goal

abbrev pub invariant-loop-i : goal.invariant-loop-i
invariant-loop-i l = l.own.items ≡ filter_map (λ (i : ℕ). option_map (leaf i) (get_or l.self i None)) (below l.i)
