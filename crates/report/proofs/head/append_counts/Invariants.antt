use Rattle.std.proofs.Common.{◌≡◌, ◌++◌, take}
use Rattle.std.specs.Prelude.{codes, decimal, flat_map}
use Rattle.report.proofs.head.append_counts.Given as goal

-- the counts up to here are appended
abbrev pub invariant-loop-count : goal.invariant-loop-count
invariant-loop-count l = l.line.items ≡ l.fn.line.items ++ flat_map (λ n. codes " " ++ decimal n) (take l.count-index l.counts)
