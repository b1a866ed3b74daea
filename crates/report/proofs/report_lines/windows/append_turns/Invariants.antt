use Rattle.std.proofs.Common.{◌≡◌, ◌++◌, take, map}
use Rattle.std.specs.Prelude.{flat_map}
use Rattle.sf_defs.specs.Rounds.{entry_at}
use Rattle.headline_defs.specs.Lines.{turn_text}
use Rattle.report.proofs.report_lines.windows.append_turns.Given as goal

-- the turns up to here are appended
abbrev pub invariant-loop-turn : goal.invariant-loop-turn
invariant-loop-turn l = l.line.items ≡ l.fn.line.items ++ flat_map turn_text (map (entry_at l.round.asks l.round.got) (take l.turn-index l.turn-items))
