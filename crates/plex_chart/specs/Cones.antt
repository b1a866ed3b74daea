-- How points are stored: their cones lie flat, one after another.
use Rattle.std.specs.Prelude.{◌≡◌, ℕ, ◌<◌, ◌≤◌, List, [], ◌∷◌, length, slice_index, slice_range}
use Rattle.mesh_defs.specs.declared.Poly.{Poly}
use Rattle.mesh_defs.specs.declared.ConeEntry.{ConeEntry}
use Rattle.mesh_defs.specs.Diagram.{Covering}

-- The points of these polytopes. The first cone begins at `start`, each ends at its end, and the next begins there.
abbrev pub coverings : List ConeEntry → ℕ → List Poly → List ℕ → List Covering
coverings entries start [] ends = []
coverings entries start (poly ∷ polys) [] = []
coverings entries start (poly ∷ polys) (end ∷ ends) = record { poly = poly; covers = slice_range entries start end } ∷ coverings entries end polys ends

-- from `start` on no end falls behind the one before, and the last is n
abbrev pub RiseTo : ℕ → ℕ → List ℕ → Type 0
RiseTo n start [] = start ≡ n
RiseTo n start (end ∷ ends) = (start ≤ end) × RiseTo n end ends

-- each point has an end, and the cones fill the entries
pub record AreFlat (polys : List Poly) (entries : List ConeEntry) (ends : List ℕ) : Type 0 where
  pub each : length ends ≡ length polys
  pub rise : RiseTo (length entries) 0 ends

-- point p has an end, and its cone lies among the entries
pub record LiesAt (entries : List ConeEntry) (ends : List ℕ) (p : ℕ) : Type 0 where
  pub place : p < length ends
  pub rise : slice_index (0 ∷ ends) p ≤ slice_index ends p
  pub within : slice_index ends p ≤ length entries
