-- Which rounds are kept.
use Rattle.std.specs.Prelude.{List, [], ◌∷◌, ◌++◌}
use Rattle.sf_defs.specs.declared.Tag.{Tag}
use Rattle.sf_defs.specs.declared.Tag.TheVariants.{Free, Home, Number}
use Rattle.sf_defs.specs.Rounds.{Round}

-- a round with this tag is added to these where the tag is not Free
abbrev pub kept_as : Tag → List Round → Round → List Round
kept_as Free rounds r = rounds
kept_as Home rounds r = rounds ++ r ∷ []
kept_as Number rounds r = rounds ++ r ∷ []

-- the rounds that are kept after this one
abbrev pub kept_with : List Round → Round → List Round
kept_with rounds r = kept_as r.tag rounds r
