-- Facts of tables, from a look at all their entries.
use Rattle.std.proofs.Common.{◌≡◌, ℕ, ◌<◌, true, ltb, eqb, List, [], length, get_or, arith}
use Rattle.std.specs.List.{list_all}
use Rattle.std.proofs.lemmas.Bool.{ltb-true, eqb-true}
use Rattle.std.proofs.lemmas.List.Sums.{AllPass-from_list_all}

-- an entry of a table all of whose entries are below n is below n
pub entry_below : (rows : List (List ℕ)) (n o k : ℕ) → list_all (list_all (λ c. ltb c n)) rows ≡ true → o < length rows → k < length (get_or rows o []) → get_or (get_or rows o []) k 0 < n
entry_below rows n o k all row place =
    let entries = AllPass-from_list_all (list_all (λ c. ltb c n)) rows all o [] row in
    ltb-true _ _ (AllPass-from_list_all (λ c. ltb c n) (get_or rows o []) entries k 0 place)

-- a row of a table all of whose rows are of length n is of length n
pub row_length : (rows : List (List ℕ)) (n o : ℕ) → list_all (λ row. eqb (length row) n) rows ≡ true → o < length rows → length (get_or rows o []) ≡ n
row_length rows n o all row = eqb-true _ _ (AllPass-from_list_all (λ row. eqb (length row) n) rows all o [] row)

-- the same where all rows are of length m
pub entry_in : (rows : List (List ℕ)) (m n o k : ℕ) → list_all (λ row. eqb (length row) m) rows ≡ true → list_all (list_all (λ c. ltb c n)) rows ≡ true → o < length rows → k < m → get_or (get_or rows o []) k 0 < n
entry_in rows m n o k width all row place = entry_below rows n o k all row (omega (arith, place, row_length rows m o width row))
