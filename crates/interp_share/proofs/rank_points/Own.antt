-- The points of a rank's own chart by what the rank is given.
use Rattle.std.proofs.Common.{◌≡◌, ℕ, ◌^◌, ◌<◌, ◌≤◌, Bool, true, false, cond, ◌==◌, List, [], ◌∷◌, ◌++◌, map, length, refl, sym, ap, ap₂, ◌∙◌, subst, ⊎_elim, arith, length-append}
use Rattle.std.specs.List.{AllByRecursion, filter}
use Rattle.std.proofs.lemmas.Bool.{eqb-true, cond-false}
use Rattle.std.proofs.lemmas.List.{length-map}
use Rattle.plain_lists.specs.Lists.{below}
use Rattle.plain_lists.proofs.Below.{length-below, get_or-map-below}
use Rattle.plain_lists.proofs.Each.{all_weaker, all_map, all_from}
use Rattle.plain_lists.proofs.Filters.{filter-mapped}
use Rattle.mesh_defs.specs.Tables.{dim_of}
use Rattle.mesh_defs.specs.Mesh.{Mesh, Cell}
use Rattle.mesh_defs.specs.Points.{point_of, cell_sight, vertex_sight, vertex_sights}
use Rattle.mesh_defs.specs.Diagram.{firsts}
use Rattle.mesh_defs.specs.RightMesh.{IsRightMesh, IsSoundCell, in_some}
use Rattle.mesh_laws.proofs.Firsts.{firsts-length}
use Rattle.local_points.specs.Cells.{AreFit, faces_seen, edges_seen}
use Rattle.local_points.specs.Points.{faces_among, edges_among}
use Rattle.local_points.proofs.Ends.{length-edges_seen}
use Rattle.local_points.proofs.Solids.{length-faces_seen}
use Rattle.local_points.proofs.Strata.{edges-stratum, faces-stratum}
use Rattle.rank_defs.specs.Ranks.{assigned}
use Rattle.rank_defs.specs.Spread.{ScatterPart, PlainScatter, own_stratum, own_chart, scatter_part, plain_scatter, IsScatter}
use Rattle.rank_chart_laws.specs.OwnRanks.{own_middle}
use Rattle.rank_chart_laws.proofs.Wholes.{own-sound, top-cells}
use Rattle.rank_chart_laws.proofs.Given.{given-vertices}
use Rattle.rank_chart_laws.proofs.Few.{vertices-few}
use Rattle.dist_state.specs.scatter_state.Whole.{part_at}
use Rattle.interp_share.specs.rank_points.Seen.{cell_sights, vertices_seen, part_points}
use Rattle.interp_share.proofs.rank_points.Fitting.{filter-short, rank-few, rank-fit}

-- cells that are not solid see no faces
no-faces : (cells : List (ℕ × Cell)) → AllByRecursion (λ (c : ℕ × Cell). (dim_of c.1.poly == 3) ≡ false) cells → faces_seen cells ≡ []
no-faces [] h = refl
no-faces (c ∷ cells) h = ap₂ (λ x y. x ++ y) (cond-false (dim_of c.1.poly == 3) _ [] h.0) (no-faces cells h.1)

module _ (m : Mesh) (right : IsRightMesh m) (a : List ℕ) (r : ℕ) where
  own-dims : AllByRecursion (λ (c : ℕ × Cell). dim_of c.1.poly ≡ m.dim) (assigned m a r)
  own-dims = all_weaker (λ (c : ℕ × Cell). IsSoundCell m c.1) (λ (c : ℕ × Cell). dim_of c.1.poly ≡ m.dim) (λ c s. s.dim) (assigned m a r) (own-sound m right.sound right.differ a r)

  two-or-more : (d : ℕ) → d ≡ m.dim → 2 ≤ d
  two-or-more d e = ⊎_elim (λ flat. omega (arith, e, flat)) (λ solid. omega (arith, e, solid)) right.sound.dim

  -- edges and faces are strata
  edges-own : edges_among (assigned m a r) ≡ own_stratum (assigned m a r) 1
  edges-own = edges-stratum (assigned m a r) (all_weaker (λ (c : ℕ × Cell). dim_of c.1.poly ≡ m.dim) (λ (c : ℕ × Cell). 2 ≤ dim_of c.1.poly) (λ c e. two-or-more (dim_of c.1.poly) e) (assigned m a r) own-dims)

  faces-own : faces_among (assigned m a r) ≡ cond (m.dim == 3) (own_stratum (assigned m a r) 2) []
  faces-own = go (m.dim == 3) refl
    where
      go : (b : Bool) → (m.dim == 3) ≡ b → faces_among (assigned m a r) ≡ cond b (own_stratum (assigned m a r) 2) []
      go true e = faces-stratum (assigned m a r) (all_weaker (λ (c : ℕ × Cell). dim_of c.1.poly ≡ m.dim) (λ (c : ℕ × Cell). dim_of c.1.poly ≡ 3) (λ c d. d ∙ eqb-true m.dim 3 e) (assigned m a r) own-dims)
      go false e = ap firsts (no-faces (assigned m a r) (all_weaker (λ (c : ℕ × Cell). dim_of c.1.poly ≡ m.dim) (λ (c : ℕ × Cell). (dim_of c.1.poly == 3) ≡ false) (λ c d. ap (λ k. k == 3) d ∙ e) (assigned m a r) own-dims))

  pub middle-own : faces_among (assigned m a r) ++ edges_among (assigned m a r) ≡ own_middle m (assigned m a r)
  middle-own = ap₂ (λ x y. x ++ y) faces-own edges-own

  -- the vertices that the rank is given are those that its cells contain
  vertices-own : filter (λ s. in_some (point_of s) (assigned m a r)) (vertex_sights m) ≡ vertices_seen (scatter_part m a (assigned m a r)).vertices
  unfolding scatter_part
  vertices-own = sym (filter-mapped vertex_sight (λ s. in_some (point_of s) (assigned m a r)) (below (length m.at))) ∙ ap vertices_seen (sym (given-vertices m right.sound.dim (assigned m a r)))

  -- the chart
  pub own-points : own_chart m (assigned m a r) ≡ part_points (scatter_part m a (assigned m a r))
  unfolding own_chart part_points scatter_part
  own-points = λ i. top-cells m right.sound right.differ a r i ++ vertices-own i ++ sym faces-own i ++ sym edges-own i

  -- how many points there are
  pub points-few : length (part_points (scatter_part m a (assigned m a r))) < 2 ^ 32
  unfolding part_points scatter_part
  points-few =
      let cells = assigned m a r in
      let part = scatter_part m a cells in
      let tops = cell_sights cells in
      let vertices = vertices_seen part.vertices in
      let low : length part.vertices ≤ length m.at = omega (arith, ap length (given-vertices m right.sound.dim cells), filter-short (λ v. in_some (point_of (vertex_sight v)) cells) (below (length m.at)), length-below (length m.at)) in
      let a1 = length-append (tops ++ vertices ++ faces_among cells) (edges_among cells) in
      let a2 = length-append (tops ++ vertices) (faces_among cells) in
      let a3 = length-append tops vertices in
      let l1 = length-map cells (λ (c : ℕ × Cell). cell_sight c.0 c.1) in
      let l2 = length-map part.vertices vertex_sight in
      let f1 = firsts-length (faces_seen cells) in
      let f2 = length-faces_seen cells in
      let e1 = firsts-length (edges_seen cells) in
      let e2 = length-edges_seen cells in
      omega (arith, a1, a2, a3, l1, l2, f1, f2, e1, e2, low, rank-few m right a r, vertices-few m right)

-- ---- what all ranks are given

module _ (s : PlainScatter) (m : Mesh) (dofs : List (List ℕ)) (a : List ℕ) (n : ℕ) (is : IsScatter s m dofs a n) where
  parts-are : s.parts ≡ map (λ r. scatter_part m a (assigned m a r)) (below n)
  unfolding plain_scatter
  parts-are = ap (λ (t : PlainScatter). t.parts) is.value

  pub parts-count : length s.parts ≡ n
  parts-count = ap length parts-are ∙ length-map (below n) (λ r. scatter_part m a (assigned m a r)) ∙ length-below n

  pub part-is : (r : ℕ) → r < n → part_at s.parts r ≡ scatter_part m a (assigned m a r)
  part-is r low = ap (λ parts. part_at parts r) parts-are ∙ get_or-map-below (λ r. scatter_part m a (assigned m a r)) n r (part_at [] 0) low

  cells-are : (r : ℕ) → (scatter_part m a (assigned m a r)).cells ≡ assigned m a r
  unfolding scatter_part
  cells-are r = refl

  pub parts-fit : AllByRecursion (λ (part : ScatterPart). AreFit part.cells) s.parts
  parts-fit = subst (AllByRecursion (λ (part : ScatterPart). AreFit part.cells)) (sym parts-are)
      (all_map (λ (part : ScatterPart). AreFit part.cells) (λ r. scatter_part m a (assigned m a r)) (below n)
      (all_from (λ r. AreFit (scatter_part m a (assigned m a r)).cells) (λ r. subst AreFit (sym (cells-are r)) (rank-fit m is.mesh a r)) (below n)))

  pub part-points : (r : ℕ) → r < n → own_chart m (assigned m a r) ≡ part_points (part_at s.parts r)
  part-points r low = own-points m is.mesh a r ∙ ap part_points (sym (part-is r low))

  pub part-few : (r : ℕ) → r < n → length (part_points (part_at s.parts r)) < 2 ^ 32
  part-few r low = subst (λ part. length (part_points part) < 2 ^ 32) (sym (part-is r low)) (points-few m is.mesh a r)
