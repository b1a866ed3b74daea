use Rattle.std.proofs.Common.{◌≡◌, ℕ, ◌==◌, List, drop, sym, ap, ◌∙◌, arith}
use Rattle.std.specs.Prelude.{position}
use Rattle.std.specs.List.{position_from}
use Rattle.std.proofs.lemmas.Iterator.Adapters.{position_from-zero}
use Rattle.mesh_check.proofs.mesh_vertices.number_table.first_places.Goals as goal

-- at the front the places are those among all numbers
from_front : (xs : List ℕ) (k n : ℕ) → k ≡ 0 → position_from (λ m. m == n) k (drop k xs) ≡ position (λ m. m == n) xs
from_front xs k n front = ap (λ j. position_from (λ m. m == n) j (drop j xs)) front ∙ sym (position_from-zero (λ m. m == n) xs)

pub returns : goal.returns
returns c n = c.loop-place.invariant n ∙ from_front c.args.numbers.now c.loop-place.place n (omega arith)
