use Rattle.std.proofs.Common.{◌≡◌, ◌==◌, length}
use Rattle.std.specs.Prelude.{option_map}
use Rattle.input_defs.specs.line_defs.Rows.{parts}
use Rattle.headline_defs.specs.Picks.{numerals}
use Rattle.plex_job.specs.Pieces.{parts_left, before_others}
use Rattle.plex_job.proofs.picks.numbers.Given as goal

-- the picks up to here, and those of what is left, are all
abbrev pub invariant-loop-left : goal.invariant-loop-left
invariant-loop-left l = numerals (parts (λ b. b == 44) l.word) ≡ before_others l.picks.items (numerals (parts_left (option_map (λ rest. rest.now) l.left)))

abbrev pub decreases-loop-left : goal.decreases-loop-left
decreases-loop-left l = length (parts_left (option_map (λ rest. rest.now) l.left))
