use Rattle.std.proofs.Common.{ℕ, List, length, ap, arith}
use Rattle.plex_section.proofs.Words.{length-words_by}
use Rattle.spread_tests.proofs.orient_tests.moves.three_points.Goals as goal

pub returns : goal.returns
returns c = omega (arith, ap (λ (f : List (List ℕ)). length f) c.new.ensures, length-words_by c.in_ok-section.section c.in_ok-vec.field-0.items, ap (λ (s : List ℕ). length s) c.in_ok-section.ensures)
