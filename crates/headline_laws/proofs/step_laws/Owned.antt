-- What goes over ranks and their own points.
use Rattle.std.proofs.Common.{◌≡◌, ℕ, ◌<◌, Bool, ◌==◌, List, map, length, get_or, sum_by, ap, ◌∙◌}
use Rattle.std.specs.Prelude.{filter, flat_map}
use Rattle.std.specs.List.{AllByRecursion}
use Rattle.std.proofs.lemmas.List.{length-map}
use Rattle.std.proofs.lemmas.List.Folds.{flat_map-map}
use Rattle.plain_lists.specs.Lists.{below}
use Rattle.plain_lists.proofs.Each.{all_weaker, all_filter}
use Rattle.plain_lists.proofs.Filters.{flat_map_same}
use Rattle.plain_lists.proofs.Below.{below-all, length-below}
use Rattle.mesh_defs.specs.Tables.{dim_of}
use Rattle.mesh_defs.specs.Mesh.{Mesh}
use Rattle.mesh_defs.specs.Points.{Sight, point_of}
use Rattle.mesh_defs.specs.Diagram.{chart, count_in}
use Rattle.rank_defs.specs.Ranks.{held_cells, held, owner, owned}
use Rattle.rank_defs.specs.Spread.{LocalMesh, local_mesh, plain_dist}
use Rattle.rank_laws.proofs.Owning.{owned-order}
use Rattle.input_defs.specs.Plans.{DofsLine}
use Rattle.walk_defs.specs.step_defs.Points.{owned_by, owner_of, poly_of, count_of}
use Rattle.walk_defs.specs.step_defs.Steps.{ranks_of}
use Rattle.headline_laws.proofs.step_laws.Chosen.{below-enumerated, chosen-at, chosen-texts, chosen-length, chosen-count, sum_same, sum_mapped}
use Rattle.headline_laws.proofs.step_laws.Local.{no_sight, counts_of, points-many, owner-is, poly-is}

-- what is the same for each rank below n
pub ranks-same : {Y : Type 0} (n : ℕ) (f g : ℕ → List Y) → ((r : ℕ) → r < n → f r ≡ g r) → flat_map f (below n) ≡ flat_map g (below n)
ranks-same n f g same = flat_map_same f g (below n) (all_weaker (λ r. r < n) (λ r. f r ≡ g r) same (below n) (below-all n))

pub sums-same : (n : ℕ) (f g : ℕ → ℕ) → ((r : ℕ) → r < n → f r ≡ g r) → sum_by f (below n) ≡ sum_by g (below n)
sums-same n f g same = sum_same f g (below n) (all_weaker (λ r. r < n) (λ r. f r ≡ g r) same (below n) (below-all n))

module _ (m : Mesh) (dofs : List DofsLine) (a : List ℕ) (n k : ℕ) where
  -- what rank r holds
  abbrev pub local_of : ℕ → LocalMesh
  local_of r = local_mesh m (counts_of dofs) a (held_cells m a r k)

  -- the chart of rank r
  abbrev pub chart_of : ℕ → List Sight
  chart_of r = chart m (held_cells m a r k)

  pub ranks-are : ranks_of (plain_dist m (counts_of dofs) a n k) ≡ map (λ r. (r, local_of r)) (below n)
  unfolding plain_dist
  ranks-are = below-enumerated local_of n

  pub ranks-many : length (ranks_of (plain_dist m (counts_of dofs) a n k)) ≡ n
  ranks-many = ap length ranks-are ∙ length-map (below n) (λ r. (r, local_of r)) ∙ length-below n

  pub each-rank : {Y : Type 0} (f : ℕ × LocalMesh → List Y) → flat_map f (ranks_of (plain_dist m (counts_of dofs) a n k)) ≡ flat_map (λ r. f (r, local_of r)) (below n)
  each-rank f = ap (flat_map f) ranks-are ∙ flat_map-map f (λ r. (r, local_of r)) (below n)

  pub each-sum : (f : ℕ × LocalMesh → ℕ) → sum_by f (ranks_of (plain_dist m (counts_of dofs) a n k)) ≡ sum_by (λ r. f (r, local_of r)) (below n)
  each-sum f = ap (sum_by f) ranks-are ∙ sum_mapped f (λ r. (r, local_of r)) (below n)

  -- ---- the points that rank o owns among those of rank r

  abbrev owns : ℕ → Sight → Bool
  owns o s = owner m a (point_of s) == o

  owned-by : (r o : ℕ) → owned_by o (local_of r) ≡ filter (λ p. owner_of (local_of r) p == o) (below (length (chart_of r)))
  owned-by r o = ap (λ j. filter (λ p. owner_of (local_of r) p == o) (below j)) (points-many m dofs a (held_cells m a r k))

  agrees : (r o p : ℕ) → p < length (chart_of r) → (owner_of (local_of r) p == o) ≡ owns o (get_or (chart_of r) p no_sight)
  agrees r o p lt = ap (λ j. j == o) (owner-is m dofs a (held_cells m a r k) p lt)

  -- its own points in the order of its chart
  owned-is : (r : ℕ) → filter (owns r) (chart_of r) ≡ owned m a r
  unfolding held
  owned-is r = owned-order m a r k

  pub own-points : (r : ℕ) → map (λ p. get_or (chart_of r) p no_sight) (owned_by r (local_of r)) ≡ owned m a r
  own-points r =
      ap (map (λ p. get_or (chart_of r) p no_sight)) (owned-by r r)
      ∙ chosen-at (chart_of r) no_sight (λ p. owner_of (local_of r) p == r) (owns r) (agrees r r) ∙ owned-is r

  pub own-texts : {Y : Type 0} (r : ℕ) (f : ℕ → List Y) (g : Sight → List Y) → ((p : ℕ) → p < length (chart_of r) → f p ≡ g (get_or (chart_of r) p no_sight)) → flat_map f (owned_by r (local_of r)) ≡ flat_map g (owned m a r)
  own-texts r f g same =
      ap (flat_map f) (owned-by r r)
      ∙ chosen-texts (chart_of r) no_sight (λ p. owner_of (local_of r) p == r) (owns r) (agrees r r) f g (λ p lt mine. same p lt)
      ∙ ap (flat_map g) (owned-is r)

  -- how many of a rank's points another one owns
  pub owned-many : (r o : ℕ) → length (owned_by o (local_of r)) ≡ length (filter (owns o) (chart_of r))
  owned-many r o = ap length (owned-by r o) ∙ chosen-length (chart_of r) no_sight (λ p. owner_of (local_of r) p == o) (owns o) (agrees r o)

  pub own-many : (r : ℕ) → length (owned_by r (local_of r)) ≡ length (owned m a r)
  own-many r = owned-many r r ∙ ap length (owned-is r)

  -- its own points of a dimension
  pub own-count : (r dim : ℕ) → count_of dim (local_of r) (owned_by r (local_of r)) ≡ count_in dim (owned m a r)
  own-count r dim =
      ap (count_of dim (local_of r)) (owned-by r r)
      ∙ chosen-count (chart_of r) no_sight (λ p. owner_of (local_of r) p == r) (owns r) (agrees r r) (λ p. dim_of (poly_of (local_of r) p) == dim) (λ s. dim_of s.poly == dim) (λ p lt. ap (λ q. dim_of q == dim) (poly-is m dofs a (held_cells m a r k) p lt))
      ∙ ap (count_in dim) (owned-is r)

  -- they stand at places of the chart
  pub own-places : (r : ℕ) → AllByRecursion (λ p. p < length (chart_of r)) (owned_by r (local_of r))
  own-places r = coe 1 0 (i. AllByRecursion (λ p. p < length (chart_of r)) (owned-by r r i)) (all_filter (λ p. p < length (chart_of r)) (λ p. owner_of (local_of r) p == r) (below (length (chart_of r))) (below-all (length (chart_of r))))
