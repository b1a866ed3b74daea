use Rattle.std.proofs.Common.{◌≡◌, map, drop}
use Rattle.sf_defs.specs.PrintedOrder.{kind_of}
use Rattle.sf_fabric.specs.replays.Walks.{ask_of}
use Rattle.sf_fabric.proofs.replays.entry.kind_of.Given as goal

abbrev pub invariant-loop-turn : goal.invariant-loop-turn
invariant-loop-turn l = kind_of (map (ask_of l.round.asks) (drop l.turn-index l.order)) ≡ kind_of (map (ask_of l.round.asks) l.order)
