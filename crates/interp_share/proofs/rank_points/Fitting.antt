-- The cells of a rank of a right mesh fit the faces and edges of local points.
use Rattle.std.proofs.Common.{◌≡◌, ℕ, ◌+◌, ◌^◌, ◌<◌, ◌≤◌, Bool, not, ◌==◌, List, [], ◌∷◌, length, refl, ⊎_elim, arith}
use Rattle.std.specs.List.{AllByRecursion, filter, enumerate_from}
use Rattle.std.proofs.lemmas.List.FromFn.{length-enumerate_from}
use Rattle.std.proofs.lemmas.List.Filters.{length-filter_both}
use Rattle.plain_lists.proofs.Each.{all_weaker, all_both, all_filter, all_enumerated}
use Rattle.mesh_defs.specs.Tables.{dim_of}
use Rattle.mesh_defs.specs.Mesh.{Mesh, Cell, placed_cells}
use Rattle.mesh_defs.specs.RightMesh.{IsRightMesh, IsSoundCell}
use Rattle.local_points.specs.Cells.{IsFit, AreFit}
use Rattle.rank_defs.specs.Ranks.{assigned, rank_of}
use Rattle.rank_chart_laws.proofs.Few.{vertices-few}

-- a choice is no longer than the list
pub filter-short : {X : Type 0} (p : X → Bool) (xs : List X) → length (filter p xs) ≤ length xs
filter-short p xs = let e = length-filter_both p (λ x. not (p x)) (λ x. refl) xs in omega arith

-- places are below the end
places-low : {X : Type 0} (n : ℕ) (xs : List X) → AllByRecursion (λ (c : ℕ × X). c.0 < n + length xs) (enumerate_from n xs)
places-low n [] = tt
places-low {X} n (x ∷ xs) = (omega arith, all_weaker (λ (c : ℕ × X). c.0 < n + 1 + length xs) (λ (c : ℕ × X). c.0 < n + length (x ∷ xs)) (λ c h. omega arith) (enumerate_from (n + 1) xs) (places-low (n + 1) xs))

module _ (m : Mesh) (right : IsRightMesh m) where
  vertices : length m.at ≤ 2000000
  vertices = vertices-few m right

  two-or-more : (d : ℕ) → d ≡ m.dim → 2 ≤ d
  two-or-more d e = ⊎_elim (λ flat. omega (arith, e, flat)) (λ solid. omega (arith, e, solid)) right.sound.dim

  -- all cells of the mesh
  placed-fit : AllByRecursion IsFit (placed_cells m)
  placed-fit = all_both (λ (c : ℕ × Cell). c.0 < 0 + length m.cells) (λ (c : ℕ × Cell). IsSoundCell m c.1) IsFit
      (λ c place sound. record {
        number = omega (arith, place, right.few_cells);
        dim = two-or-more (dim_of c.1.poly) sound.dim;
        corners = sound.corners;
        vertices = all_weaker (λ v. v < length m.at) (λ v. v + 1 < 2 ^ 32) (λ v h. omega (arith, h, vertices)) c.1.vertices sound.in_range;
      })
      (placed_cells m) (places-low 0 m.cells) (all_enumerated (IsSoundCell m) 0 m.cells right.sound.cells)

  -- those of a rank
  pub rank-few : (a : List ℕ) (r : ℕ) → length (assigned m a r) ≤ 250000
  unfolding assigned
  rank-few a r = omega (arith, filter-short (λ c. rank_of a c == r) (placed_cells m), length-enumerate_from 0 m.cells, right.few_cells)

  pub rank-fit : (a : List ℕ) (r : ℕ) → AreFit (assigned m a r)
  unfolding assigned
  rank-fit a r = record { few = rank-few a r; each = all_filter IsFit (λ c. rank_of a c == r) (placed_cells m) placed-fit }
