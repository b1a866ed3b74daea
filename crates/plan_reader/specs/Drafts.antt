-- What was read of a plan up to a line, and a plan, as they are kept.
use Rattle.std.specs.Prelude.{◌≡◌, ℕ, ◌^◌, ◌<◌, ◌≤◌, List, Option, Some, None, option_and_then, slice_get, length, map}
use Rattle.std.specs.Option.{ForSome, IsSome}
use Rattle.input_defs.specs.declared.Show.{Show}
use Rattle.plex_defs.specs.Fields.{AreRightDofs}
use Rattle.input_defs.specs.Plans as lines
use Rattle.input_defs.specs.Plans.{Before, Form, IsMove, Layers, Move, Part, Plan, Spread, layers_of}
use Rattle.plan_reader.specs.declared.moves.MoveLine.{MoveLine}
use Rattle.plan_reader.specs.declared.moves.DofsLine.{DofsLine}
use Rattle.plan_reader.specs.Reading.{move_views, dofs_views}

abbrev pub drafted : Option ℕ → List MoveLine → List DofsLine → Show → Before
drafted ranks moves dofs shows = record { ranks = ranks; moves = move_views moves; dofs = dofs_views dofs; shows = shows }

-- how many words each section has by dimension
abbrev pub counts_of : List lines.DofsLine → List (List ℕ)
counts_of sections = map (λ (d : lines.DofsLine). d.dofs) sections

abbrev pub spread_of : ℕ × Move → Option Spread
spread_of (line, Part spread) = Some spread
spread_of (line, Layers k) = None

-- how the part at this place spreads the cells, if it is one
abbrev pub spread_at : List (ℕ × Move) → ℕ → Option Spread
spread_at moves i = option_and_then spread_of (slice_get moves i)

-- the layers are counted, where there are moves the first is a part, the ranks are in range, and sections and their words are few
pub record IsDraft (ranks : Option ℕ) (layers : ℕ) (moves : List (ℕ × Move)) (sections : List lines.DofsLine) : Type 0 where
  pub layers_is : layers ≡ layers_of moves
  pub few : layers ≤ 4
  pub begins : 0 < length moves → IsSome (spread_at moves 0)
  pub some_ranks : ForSome ranks (λ n. 1 ≤ n)
  pub few_ranks : ForSome ranks (λ n. n ≤ 64)
  pub few_words : AreRightDofs (counts_of sections)

-- a number of layers as a line can tell it
abbrev pub HasFewLayers : Form → Type 0
HasFewLayers (IsMove (Layers k)) = k < 10 ^ 9
HasFewLayers _ = Unit {0}

-- ---- a plan

-- what a plan file says
pub record PlanText : Type 0 where
  pub plan : Plan

abbrev pub plan_text : ℕ → List MoveLine → List DofsLine → Show → PlanText
plan_text ranks moves dofs shows = record { plan = record { ranks = ranks; moves = move_views moves; dofs = dofs_views dofs; shows = shows } }
