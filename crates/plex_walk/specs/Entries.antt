-- Entries that a walk lists.
use Rattle.std.specs.Prelude.{if◌then◌else◌, List, [], ◌∷◌, ◌++◌}
use Rattle.mesh_defs.specs.declared.ConeEntry.{ConeEntry}
use Rattle.plex_defs.specs.Closure.{covers}

-- what is there, and these entries one after another at its end, but those of points that are there by then
abbrev pub added : List ConeEntry → List ConeEntry → List ConeEntry
added there [] = there
added there (e ∷ es) = if covers there e.point then added there es else added (there ++ e ∷ []) es
