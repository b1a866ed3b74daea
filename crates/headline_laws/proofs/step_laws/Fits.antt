-- What a distribution, its numbers and its traces have for each rank.
use Rattle.std.proofs.Common.{◌≡◌, ℕ, ◌<◌, List, map, length, get_or, sym, ap, ◌∙◌}
use Rattle.std.specs.List.{AllByRecursion}
use Rattle.std.proofs.lemmas.List.{length-map}
use Rattle.plain_lists.specs.Lists.{below}
use Rattle.plain_lists.proofs.Each.{all_map, all_weaker}
use Rattle.plain_lists.proofs.Below.{length-below, get_or-map-below}
use Rattle.mesh_defs.specs.Mesh.{Mesh}
use Rattle.mesh_defs.specs.Points.{Sight, point_of}
use Rattle.sf_defs.specs.Forest.{root_at, leaves_on}
use Rattle.rank_defs.specs.Ranks.{IsAssignment, held_cells, held, owner, owned}
use Rattle.rank_defs.specs.Home.{point_number}
use Rattle.rank_defs.specs.Spread.{LocalMesh, charts, trace, migration_forest, plain_dist, local_mesh}
use Rattle.rank_laws.proofs.Owning.{owner-below}
use Rattle.rank_laws.proofs.PointForests.{IsPoint, chart-points, roots-are-traces}
use Rattle.input_defs.specs.Plans.{DofsLine}
use Rattle.walk_defs.specs.step_defs.Numbers.{held_numbers}
use Rattle.walk_defs.specs.step_defs.Points.{owned_by}
use Rattle.walk_defs.specs.step_defs.Steps.{numbers_on}
use Rattle.headline_laws.proofs.step_laws.Local.{counts_of, points-many}
use Rattle.headline_laws.proofs.step_laws.Numbers.{numbers-are}
use Rattle.headline_laws.proofs.step_laws.Owned.{local_of, chart_of, own-many}

module _ (m : Mesh) (dofs : List DofsLine) (a : List ℕ) (n k : ℕ) where
  -- as many ranks
  pub locals-many : length (plain_dist m (counts_of dofs) a n k).locals ≡ n
  unfolding plain_dist
  locals-many = length-map (below n) (local_of m dofs a n k) ∙ length-below n

  -- what rank r holds, whatever stands past the last one
  pub local-is : (r : ℕ) (none : LocalMesh) → r < n → get_or (plain_dist m (counts_of dofs) a n k).locals r none ≡ local_of m dofs a n k r
  unfolding plain_dist
  local-is r none low = get_or-map-below (local_of m dofs a n k) n r none low

  -- a number for each held point
  pub numbers-many : (bases : List ℕ) → length (held_numbers m a n k bases) ≡ n
  unfolding held_numbers
  numbers-many bases = length-map (below n) (λ r. map (λ (s : Sight). point_number m a bases (point_of s)) (held m a r k)) ∙ length-below n

  pub numbers-each : (bases : List ℕ) (r : ℕ) (none : LocalMesh) → r < n → length (numbers_on (held_numbers m a n k bases) r) ≡ length (get_or (plain_dist m (counts_of dofs) a n k).locals r none).diagram.points
  numbers-each bases r none low =
      ap length (numbers-are m a n k bases r low) ∙ length-map (chart_of m dofs a n k r) (λ s. point_number m a bases (point_of s))
      ∙ sym (points-many m dofs a (held_cells m a r k)) ∙ ap (λ (l : LocalMesh). length l.diagram.points) (sym (local-is r none low))

  -- owners are ranks
  owners-below : IsAssignment m n a → (r : ℕ) → AllByRecursion (λ o. o < n) (local_of m dofs a n k r).owners
  unfolding local_mesh held
  owners-below parts r = all_map (λ o. o < n) (λ s. owner m a (point_of s)) (chart_of m dofs a n k r)
      (all_weaker (IsPoint m) (λ s. owner m a (point_of s) < n) (λ s is. owner-below m n a parts (point_of s) is.1) (chart_of m dofs a n k r) (chart-points m a r k))

  pub owners-fit : IsAssignment m n a → (r : ℕ) (none : LocalMesh) → r < n → AllByRecursion (λ o. o < length (plain_dist m (counts_of dofs) a n k).locals) (get_or (plain_dist m (counts_of dofs) a n k).locals r none).owners
  owners-fit parts r none low = coe 1 0 (i. AllByRecursion (λ o. o < locals-many i) (local-is r none low i).owners) (owners-below parts r)

  -- the forest of the redistribution knows all ranks, and has a leaf for each owned point
  pub roots-many : (first : List ℕ) → length (migration_forest m first a n).roots ≡ n
  unfolding migration_forest charts
  roots-many first = length-map (map (λ r. held m first r 0) (below n)) (length {A = Sight}) ∙ length-map (below n) (λ r. held m first r 0) ∙ length-below n

  pub leaves-many : (first : List ℕ) (r : ℕ) (none : LocalMesh) → r < n → length (owned_by r (get_or (plain_dist m (counts_of dofs) a n k).locals r none)) ≡ length (leaves_on (migration_forest m first a n) r)
  leaves-many first r none low =
      ap (λ l. length (owned_by r l)) (local-is r none low) ∙ own-many m dofs a n k r
      ∙ sym (length-map (owned m a r) (λ s. trace m first n (point_of s)))
      ∙ sym (ap length (roots-are-traces m n first a r low)) ∙ length-map (leaves_on (migration_forest m first a n) r) root_at
