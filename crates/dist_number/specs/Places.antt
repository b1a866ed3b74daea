-- The numbers of owned points.
use Rattle.std.specs.Prelude.{◌≡◌, ℕ, ◌+◌, ◌^◌, ◌<◌, ◌==◌, if◌then◌else◌, List, [], ◌∷◌, length, map, slice_index}
use Rattle.std.specs.List.{enumerate_from}
use Rattle.rank_defs.specs.Spread.{LocalMesh, PlainDist}
use Rattle.dist_number.specs.Asked.{own_counts}

-- the numbers of the points that a rank owns, one after another from `next` on, and 0 for its ghosts
abbrev pub own_numbers : ℕ → ℕ → List ℕ → List ℕ
own_numbers rank next [] = []
own_numbers rank next (o ∷ owners) = if o == rank then next ∷ own_numbers rank (next + 1) owners else 0 ∷ own_numbers rank next owners

-- of each rank, from its base on
unfoldable pub numbers_at_owners : PlainDist → List ℕ → List (List ℕ)
numbers_at_owners d bases = map (λ (r : ℕ × LocalMesh). own_numbers r.0 (slice_index bases r.0) r.1.owners) (enumerate_from 0 d.locals)

-- each rank has a base, from which its numbers fit 64 bits
pub record HaveRoom (d : PlainDist) (bases : List ℕ) : Type 0 where
  pub count : length bases ≡ length d.locals
  pub fits : (rank : ℕ) → rank < length d.locals → slice_index bases rank + slice_index (own_counts d) rank < 2 ^ 64
