use Rattle.std.proofs.Common.{◌≡◌, ◌++◌, take}
use Rattle.std.specs.Prelude.{codes, flat_map}
use Rattle.report.specs.report_lines.Words.{word_text}
use Rattle.report.proofs.report_lines.words.append_more.Given as goal

-- the words up to here are appended
abbrev pub invariant-loop-word : goal.invariant-loop-word
invariant-loop-word l = l.line.items ≡ l.fn.line.items ++ flat_map (λ w. codes "," ++ word_text l.is_data w) (take l.word-index l.words)
