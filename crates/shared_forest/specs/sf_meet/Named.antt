-- Slots of a rank by name, and the least id of each name.
use Rattle.std.specs.Prelude.{ℕ, ◌&&◌, Bool, min, nat_eq, List, [], ◌∷◌, length, map, filter, fold, get_or, Option, Some, None}
use Rattle.plain_lists.specs.Lists.{below, same_list}

-- a slot's name: its root, and the two words of its leaf's key
abbrev pub slot_name : List ℕ → List ℕ → List ℕ → ℕ → ℕ × List ℕ
slot_name roots firsts seconds s = (get_or roots s 0, get_or firsts s 0 ∷ get_or seconds s 0 ∷ [])

abbrev pub same_name : ℕ × List ℕ → ℕ × List ℕ → Bool
same_name a b = nat_eq a.0 b.0 && same_list a.1 b.1

-- the ids of the first n slots that have this name
unfoldable pub ids_named : List ℕ → List ℕ → List ℕ → List ℕ → ℕ → ℕ × List ℕ → List ℕ
ids_named roots firsts seconds ids n name = map (λ s. get_or ids s 0) (filter (λ s. same_name (slot_name roots firsts seconds s) name) (below n))

-- the least of some numbers
abbrev pub least_of : List ℕ → Option ℕ
least_of [] = None
least_of (x ∷ xs) = Some (fold min x xs)

-- the lesser of a number and another one, if there is another one
abbrev pub least_with : Option ℕ → ℕ → ℕ
least_with None id = id
least_with (Some least) id = min least id

-- the least id of the slots that have the name of slot s
abbrev pub least_at : List ℕ → List ℕ → List ℕ → List ℕ → ℕ → ℕ
least_at roots firsts seconds ids s = fold min (get_or ids s 0) (ids_named roots firsts seconds ids (length ids) (slot_name roots firsts seconds s))

-- for each slot of a rank the least id of those that have its name
abbrev pub least_ids : List ℕ → List ℕ → List ℕ → List ℕ → List ℕ
least_ids roots firsts seconds ids = map (least_at roots firsts seconds ids) (below (length ids))
