-- Rows of a flat list, one after the other, each as wide as its head says.
use Rattle.std.specs.Prelude.{ℕ, List, [], ◌∷◌, take, drop}

-- the heads in their order, each with its row of the flat list
unfoldable pub with_rows : {H A R : Type 0} → (H → ℕ) → (H → List A → R) → List H → List A → List R
with_rows width make [] flat = []
with_rows width make (head ∷ heads) flat = make head (take (width head) flat) ∷ with_rows width make heads (drop (width head) flat)
