-- Rounds by picks.
use Rattle.std.specs.Prelude.{ℕ, List, [], ◌∷◌, map}
use Rattle.sf_defs.specs.declared.Tag.TheVariants.{Free}
use Rattle.sf_defs.specs.Rounds.{Round}
use Rattle.sf_defs.specs.Script.{scripted}

-- the round of the same words and asks by these picks
abbrev pub by_picks : List ℕ → Round → Round
by_picks picks r = scripted r.tag r.before r.asks picks

-- picks in the place of a round: no fabric keeps one with this tag
abbrev pub picks_told : List ℕ → Round
picks_told picks = record { tag = Free; before = picks; asks = []; got = []; after = []; order = [] }

-- picks, and then rounds by them
abbrev pub told_before : List ℕ → List Round → List Round
told_before picks rounds = picks_told picks ∷ map (by_picks picks) rounds
