use Rattle.std.proofs.Common.{ℕ, List, length, ap, arith}
use Rattle.plex_section.proofs.Words.{length-words_by}
use Rattle.sf_tests.proofs.state_tests.layouts.points_have_the_words_of_their_layout.Goals as goal

pub at-requires : goal.at-requires
at-requires g c = omega (arith, ap (λ (f : List (List ℕ)). length f) c.new-field.ensures, length-words_by c.in_ok-section.section c.in_ok-vec.field-0.items, ap (λ (s : List ℕ). length s) c.in_ok-section.ensures)

pub at-requires-2 : goal.at-requires-2
at-requires-2 g c = omega (arith, ap (λ (f : List (List ℕ)). length f) c.new-field.ensures, length-words_by c.in_ok-section.section c.in_ok-vec.field-0.items, ap (λ (s : List ℕ). length s) c.in_ok-section.ensures)

pub at-requires-3 : goal.at-requires-3
at-requires-3 g c = omega (arith, ap (λ (f : List (List ℕ)). length f) c.new-field.ensures, length-words_by c.in_ok-section.section c.in_ok-vec.field-0.items, ap (λ (s : List ℕ). length s) c.in_ok-section.ensures)
