-- What ranks ask of the one word of the number round.
use Rattle.std.specs.Prelude.{ℕ, ◌==◌, List, [], ◌∷◌, map, count_by}
use Rattle.std.specs.List.{enumerate_from}
use Rattle.sf_defs.specs.declared.Op.TheVariants.{Sum}
use Rattle.sf_defs.specs.declared.Ask.{Ask}
use Rattle.rank_defs.specs.Spread.{LocalMesh, PlainDist}

-- how many of the points that a rank holds it owns
unfoldable pub own_count : ℕ → LocalMesh → ℕ
own_count rank l = count_by (λ o. o == rank) l.owners

-- of each rank
unfoldable pub own_counts : PlainDist → List ℕ
own_counts d = map (λ (r : ℕ × LocalMesh). own_count r.0 r.1) (enumerate_from 0 d.locals)

-- one Sum of each rank
abbrev pub sum_of : ℕ → Ask
sum_of value = record { word = 0; op = Sum; value = value }

unfoldable pub sums_of : List ℕ → List (List Ask)
sums_of values = map (λ value. sum_of value ∷ []) values
