-- Named files and names of the program, as contracts see them.
use Rattle.std.specs.Prelude.{ℕ, List, [], ◌∷◌, Option, Some, None}
use Rattle.std.specs.String.{string_bytes}
use Rattle.std.specs.declared.string.String.{String}
use Rattle.std.specs.declared.vec.Vec.{Vec}
use Rattle.std.specs.declared.alloc.Global.{Global}
use Rattle.cause_defs.specs.Told.{Told, absent, told}

-- the bytes of each name and each file
abbrev pub named : List (String Global × Vec ℕ Global) → List (List ℕ × List ℕ)
named [] = []
named (file ∷ files) = (string_bytes file.0, file.1.items) ∷ named files

-- the bytes of a name, or that there is none
abbrev pub told_if_some : Option (String Global) → Told (List ℕ)
told_if_some None = absent
told_if_some (Some name) = told (string_bytes name)
