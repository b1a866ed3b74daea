use Rattle.std.proofs.Common.{◌≡◌, ◌^◌, ◌<◌, take}
use Rattle.std.specs.List.{AllByRecursion}
use Rattle.plain_lists.specs.Vectors.{lists_of}
use Rattle.orient_iface.proofs.iface_arrangements.greatest.copies.Given as goal

-- the first lists, whose words are below 2^64
abbrev pub invariant-loop-list : goal.invariant-loop-list
invariant-loop-list l = (lists_of l.copies.items ≡ lists_of (take l.list-index l.lists)) × AllByRecursion (AllByRecursion (λ word. word < 2 ^ 64)) (lists_of l.copies.items)
