-- Lists within lists, and elements at different places.
use Rattle.std.specs.Prelude.{◌≡◌, ◌⊎◌, Bool, true, not, ◌&&◌, List, [], ◌∷◌}
use Rattle.std.specs.List.{list_any}
use Rattle.input_defs.specs.Content.{Element}
use Rattle.input_defs.specs.Meshes.{same_place}

-- xs is ys without some of its entries, in the same order
abbrev pub IsSublist : {A : Type 0} → List A → List A → Type 0
IsSublist xs [] = xs ≡ []
IsSublist xs (y ∷ ys) = IsSublist xs ys ⊎ ((rest : List _) × (xs ≡ y ∷ rest) × IsSublist rest ys)

-- no two elements have the same dimension and the same nodes
abbrev pub differ_in_place : List Element → Bool
differ_in_place [] = true
differ_in_place (e ∷ es) = not (list_any (same_place e) es) && differ_in_place es
