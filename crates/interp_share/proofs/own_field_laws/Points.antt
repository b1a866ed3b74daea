-- The own chart of a rank is the points of what the rank is given.
use Rattle.std.proofs.Common.{◌≡◌, ℕ, cond, ◌==◌, ◌≤◌, List, [], ◌∷◌, ◌++◌, map, length, refl, sym, ap, ◌∙◌, inl, inr, arith}
use Rattle.std.specs.Prelude.{filter}
use Rattle.std.specs.List.{AllByRecursion}
use Rattle.std.proofs.lemmas.Bool.{cond-false, eq-eqb, ne_eqb}
use Rattle.plain_lists.specs.Lists.{below}
use Rattle.plain_lists.proofs.Each.{all_weaker}
use Rattle.plain_lists.proofs.Filters.{filter-mapped}
use Rattle.mesh_defs.specs.Tables.{dim_of}
use Rattle.mesh_defs.specs.Mesh.{Mesh, Cell}
use Rattle.mesh_defs.specs.Points.{Sight, point_of, vertex_sight, vertex_sights, cell_faces}
use Rattle.mesh_defs.specs.Diagram.{firsts, chart}
use Rattle.mesh_defs.specs.RightMesh.{IsFlatOrSolid, IsSoundCell, IsRightMesh, in_some}
use Rattle.rank_defs.specs.Ranks.{assigned}
use Rattle.rank_defs.specs.Spread.{ScatterPart, scatter_part, own_stratum, own_chart, vertices_among}
use Rattle.local_points.specs.Cells.{faces_seen}
use Rattle.local_points.specs.Points.{faces_among, edges_among}
use Rattle.local_points.proofs.Strata.{edges-stratum, faces-stratum}
use Rattle.rank_chart_laws.proofs.Wholes.{own-sound, top-cells}
use Rattle.rank_chart_laws.proofs.Given.{given-vertices}
use Rattle.rank_chart_laws.specs.field_laws.Weights.{weight_in, own_weights}
use Rattle.interp_share.specs.own_field_laws.Own.{part_points, part_weights}

-- polygons have no faces beside themselves
pub faces-flat : (cells : List (ℕ × Cell)) → AllByRecursion (λ (c : ℕ × Cell). dim_of c.1.poly ≡ 2) cells → faces_seen cells ≡ []
faces-flat [] h = refl
faces-flat (c ∷ cells) h = (λ i. none i ++ faces-flat cells h.1 i)
  where
    none : cell_faces c.0 c.1 ≡ []
    none = cond-false (dim_of c.1.poly == 3) _ [] (ne_eqb (dim_of c.1.poly) 3 (λ e. absurd (omega (arith, h.0, e))))

module _ (m : Mesh) (right : IsRightMesh m) (a : List ℕ) (r : ℕ) where
  abbrev own : List (ℕ × Cell)
  own = assigned m a r

  abbrev part : ScatterPart
  part = scatter_part m a (assigned m a r)

  -- the cells are of the mesh's dimension
  pub own-dims : AllByRecursion (λ (c : ℕ × Cell). dim_of c.1.poly ≡ m.dim) (assigned m a r)
  own-dims = all_weaker (λ (c : ℕ × Cell). IsSoundCell m c.1) (λ (c : ℕ × Cell). dim_of c.1.poly ≡ m.dim) (λ c sound. sound.dim) own (own-sound m right.sound right.differ a r)

  -- the parts of the chart
  vertices-listed : filter (λ s. in_some (point_of s) own) (vertex_sights m) ≡ map vertex_sight (vertices_among (chart m own))
  vertices-listed = sym (filter-mapped vertex_sight (λ s. in_some (point_of s) own) (below (length m.at))) ∙ ap (map vertex_sight) (sym (given-vertices m right.sound.dim own))

  pub faces-listed : cond (m.dim == 3) (own_stratum (assigned m a r) 2) [] ≡ faces_among (assigned m a r)
  faces-listed = go right.sound.dim
    where
      go : IsFlatOrSolid m → cond (m.dim == 3) (own_stratum own 2) [] ≡ faces_among own
      go (inl flat) = ap (λ b. cond b (own_stratum own 2) []) (ne_eqb m.dim 3 (λ e. absurd (omega (arith, flat, e))))
          ∙ sym (ap firsts (faces-flat own (all_weaker (λ (c : ℕ × Cell). dim_of c.1.poly ≡ m.dim) (λ (c : ℕ × Cell). dim_of c.1.poly ≡ 2) (λ c e. e ∙ flat) own own-dims)))
      go (inr solid) = ap (λ b. cond b (own_stratum own 2) []) (eq-eqb m.dim 3 solid)
          ∙ sym (faces-stratum own (all_weaker (λ (c : ℕ × Cell). dim_of c.1.poly ≡ m.dim) (λ (c : ℕ × Cell). dim_of c.1.poly ≡ 3) (λ c e. e ∙ solid) own own-dims))

  pub edges-listed : own_stratum (assigned m a r) 1 ≡ edges_among (assigned m a r)
  edges-listed = sym (edges-stratum own (all_weaker (λ (c : ℕ × Cell). dim_of c.1.poly ≡ m.dim) (λ (c : ℕ × Cell). 2 ≤ dim_of c.1.poly) (λ c e. high (dim_of c.1.poly) e right.sound.dim) own own-dims))
    where
      high : (d : ℕ) → d ≡ m.dim → IsFlatOrSolid m → 2 ≤ d
      high d e (inl flat) = omega arith
      high d e (inr solid) = omega arith

  -- the own chart
  pub own-points : own_chart m (assigned m a r) ≡ part_points (scatter_part m a (assigned m a r))
  unfolding own_chart scatter_part
  own-points = λ i. top-cells m right.sound right.differ a r i ++ vertices-listed i ++ faces-listed i ++ edges-listed i

  -- and the weights that the cells give to it
  pub own-weights : own_weights m (assigned m a r) ≡ part_weights (scatter_part m a (assigned m a r))
  unfolding part_weights scatter_part
  own-weights = ap (map (λ (s : Sight). weight_in own (point_of s))) own-points
