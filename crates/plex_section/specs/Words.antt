-- Words by a layout.
use Rattle.std.specs.Prelude.{ℕ, List, length, map}
use Rattle.plain_lists.specs.Lists.{below}
use Rattle.plex_defs.specs.Fields.{words_at}

-- the words of each point
unfoldable pub words_by : List ℕ → List ℕ → List (List ℕ)
words_by dofs words = map (words_at dofs words) (below (length dofs))
