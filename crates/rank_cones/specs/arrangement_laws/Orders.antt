-- The order of up to four vertices, as a number.
use Rattle.std.specs.Prelude.{ℕ, ◌+◌, ◌*◌, ◌/◌, ◌%◌, ◌==◌, if◌then◌else◌, List, [], ◌∷◌, get_or}

-- the place of a number among four; one that is not among the first three counts as the last
abbrev pub place_of : ℕ → List ℕ → ℕ
place_of v four = if get_or four 0 0 == v then 0 else if get_or four 1 0 == v then 1 else if get_or four 2 0 == v then 2 else 3

-- the places of four numbers among four, as digits with base 4
unfoldable pub order_number : List ℕ → List ℕ → ℕ
order_number four list =
    ((place_of (get_or list 0 0) four * 4 + place_of (get_or list 1 0) four) * 4 + place_of (get_or list 2 0) four) * 4 + place_of (get_or list 3 0) four

-- four numbers in the order of this number
abbrev pub in_order : List ℕ → ℕ → List ℕ
in_order four order =
    get_or four (order / 64 % 4) 0 ∷ get_or four (order / 16 % 4) 0 ∷ get_or four (order / 4 % 4) 0 ∷ get_or four (order % 4) 0 ∷ []
