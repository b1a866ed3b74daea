-- A name that is asked for twice: where something is told of it, both files are what is told.
use Rattle.std.proofs.Common.{◌≡◌, ℕ, List, Option, Some, sym, ◌∙◌}
use Rattle.cause_defs.specs.Told.{Told, untold, absent, told}
use Rattle.std.proofs.Common.{Result}
use Rattle.input_defs.specs.Refused.{Task, Refusal}
use Rattle.headline_defs.specs.Headline.{AskedFiles, IsFileWhereTold, AreFiles, IsTold}

-- two files that are what is told are one
one-where_told : (t : Told (List ℕ)) (a b : Option (List ℕ)) → IsTold t → IsFileWhereTold t a → IsFileWhereTold t b → a ≡ b
one-where_told untold a b h x y = absurd h
one-where_told absent a b h x y = x ∙ sym y
one-where_told (told bytes) a b h x y = x ∙ sym y

-- the plan's file and the mesh's file are one, where they have one name and something is told of it
pub one_file : (file : List ℕ → Told (List ℕ)) (name : List ℕ) (fitting : Option (List ℕ) → Option (List ℕ) → Result Task Refusal) (files : AskedFiles)
    → IsTold (file name) → AreFiles (record { plan_name = Some name; mesh_name = Some name; fitting = fitting }) file files → files.plan ≡ files.mesh
one_file file name fitting files h agree = one-where_told (file name) files.plan files.mesh h agree.plan agree.mesh
