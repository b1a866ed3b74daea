-- The lines of traces.
use Rattle.std.proofs.Common.{◌≡◌, ℕ, ◌<◌, List, length, get_or, slice_index, sym, ap, ◌∙◌, arith}
use Rattle.std.specs.Prelude.{flat_map}
use Rattle.std.specs.List.{enumerate_from}
use Rattle.std.proofs.Math.ListN as whole
use Rattle.std.proofs.lemmas.List.{get_or-map, length-map}
use Rattle.std.proofs.lemmas.List.Folds.{flat_map-map}
use Rattle.plain_lists.specs.Lists.{below}
use Rattle.plain_lists.proofs.Each.{all_weaker, all_at}
use Rattle.plain_lists.proofs.Filters.{flat_map_same}
use Rattle.plain_lists.proofs.Below.{below-all, length-below}
use Rattle.mesh_defs.specs.Mesh.{Mesh}
use Rattle.mesh_defs.specs.Points.{Sight, point_of}
use Rattle.mesh_defs.specs.RightMesh.{IsRightMesh}
use Rattle.input_defs.specs.text_defs.Text.{Rank}
use Rattle.sf_defs.specs.declared.Leaf.{Leaf}
use Rattle.sf_defs.specs.Forest.{leaf, root_at, leaves_on}
use Rattle.rank_defs.specs.Ranks.{owned}
use Rattle.rank_defs.specs.Home.{point_number}
use Rattle.rank_defs.specs.Spread.{migration_forest, trace, plain_dist}
use Rattle.rank_laws.proofs.PointForests.{roots-are-traces}
use Rattle.input_defs.specs.Plans.{DofsLine}
use Rattle.headline_defs.specs.Lines.{trace_line}
use Rattle.headline_defs.specs.StepText.{ranks_with, numbered, traces_text}
use Rattle.walk_defs.specs.step_defs.Numbers.{held_numbers}
use Rattle.walk_defs.specs.step_defs.Points.{owned_by}
use Rattle.walk_defs.specs.step_defs.Steps.{ranks_of, numbers_on, plain_traces}
use Rattle.headline_laws.proofs.step_laws.Chosen.{all-places, places-enumerated}
use Rattle.headline_laws.proofs.step_laws.Local.{no_sight, counts_of}
use Rattle.headline_laws.proofs.step_laws.Numbers.{number-is, numbered-texts}
use Rattle.headline_laws.proofs.step_laws.Owned.{ranks-same, local_of, chart_of, each-rank, own-points, own-places}

module _ (m : Mesh) (dofs : List DofsLine) (first a : List ℕ) (n k : ℕ) (bases : List ℕ) (right : IsRightMesh m) where
  abbrev all : List Rank
  all = ranks_with m n a k bases

  abbrev numbers : List (List ℕ)
  numbers = held_numbers m a n k bases

  abbrev forest_leaves : ℕ → List Leaf
  forest_leaves r = leaves_on (migration_forest m first a n) r

  -- the line of a point's trace, by its number
  line_of : ℕ × Sight → List ℕ
  line_of p = let t = trace m first n (point_of p.1) in trace_line p.0 t.0 t.1

  -- the line of leaf i, at an owned place
  leaf_line : ℕ → ℕ × ℕ → List ℕ
  leaf_line r x = let l = get_or (forest_leaves r) x.0 (leaf 0 (0, 0)) in trace_line (slice_index (numbers_on numbers r) x.1) l.rank l.index

  -- leaf i is on the trace of owned point i
  leaf-is : (r : ℕ) → r < n → (i : ℕ) → i < length (owned m a r) → root_at (get_or (forest_leaves r) i (leaf 0 (0, 0))) ≡ trace m first n (point_of (get_or (owned m a r) i no_sight))
  leaf-is r low i lt =
      sym (whole.get_or-map root_at (forest_leaves r) i (leaf 0 (0, 0)))
      ∙ ap (λ l. get_or l i (0, 0)) (roots-are-traces m n first a r low)
      ∙ get_or-map (λ s. trace m first n (point_of s)) (owned m a r) i no_sight (0, 0) lt

  rank-is : (r : ℕ) → r < n → flat_map (leaf_line r) (enumerate_from 0 (owned_by r (local_of m dofs a n k r))) ≡ flat_map (λ s. line_of (point_number m a bases (point_of s), s)) (owned m a r)
  unfolding leaf_line line_of
  rank-is r low =
      ap (flat_map (leaf_line r)) (places-enumerated places 0)
      ∙ flat_map-map (leaf_line r) (λ i. (i, get_or places i 0)) (below (length places))
      ∙ flat_map_same (λ i. leaf_line r (i, get_or places i 0)) (λ i. line_of (point_number m a bases (point_of (own i)), own i)) (below (length places)) (all_weaker (λ i. i < length places) _ one (below (length places)) (below-all (length places)))
      ∙ ap (λ j. flat_map (λ i. line_of (point_number m a bases (point_of (own i)), own i)) (below j)) many
      ∙ sym (flat_map-map (λ s. line_of (point_number m a bases (point_of s), s)) own (below (length (owned m a r))))
      ∙ ap (flat_map (λ s. line_of (point_number m a bases (point_of s), s))) (all-places (owned m a r) no_sight)
    where
      places : List ℕ
      places = owned_by r (local_of m dofs a n k r)

      own : ℕ → Sight
      own i = get_or (owned m a r) i no_sight

      many : length places ≡ length (owned m a r)
      many = sym (length-map places (λ p. get_or (chart_of m dofs a n k r) p no_sight)) ∙ ap length (own-points m dofs a n k r)

      -- owned point i is the one at place i of those owned
      own-is : (i : ℕ) → i < length places → get_or (chart_of m dofs a n k r) (get_or places i 0) no_sight ≡ own i
      own-is i lt = sym (get_or-map (λ p. get_or (chart_of m dofs a n k r) p no_sight) places i 0 no_sight lt) ∙ ap (λ l. get_or l i no_sight) (own-points m dofs a n k r)

      one : (i : ℕ) → i < length places → leaf_line r (i, get_or places i 0) ≡ line_of (point_number m a bases (point_of (own i)), own i)
      one i lt =
          let root = leaf-is r low i (omega (arith, lt, many)) in
          let within : get_or places i 0 < length (chart_of m dofs a n k r) = all_at (λ p. p < length (chart_of m dofs a n k r)) places i 0 (own-places m dofs a n k r) lt in
          let number = number-is m a n k bases r low (get_or places i 0) within ∙ ap (λ s. point_number m a bases (point_of s)) (own-is i lt) in
          (λ j. trace_line (number j) (root j).0 (root j).1)

  ranks-many : length (ranks_with m n a k bases) ≡ n
  unfolding ranks_with
  ranks-many = length-map (below n) _ ∙ length-below n

  pub traces-are : flat_map (plain_traces (migration_forest m first a n) numbers) (ranks_of (plain_dist m (counts_of dofs) a n k)) ≡ traces_text m first all
  unfolding plain_traces traces_text leaf_line line_of
  traces-are =
      each-rank m dofs a n k (plain_traces (migration_forest m first a n) numbers)
      ∙ ranks-same n (λ r. flat_map (leaf_line r) (enumerate_from 0 (owned_by r (local_of m dofs a n k r)))) (λ r. flat_map (λ s. line_of (point_number m a bases (point_of s), s)) (owned m a r)) rank-is
      ∙ sym (numbered-texts m a n k bases right line_of)
      ∙ ap (λ j. flat_map (λ (p : ℕ × Sight). let t = trace m first j (point_of p.1) in trace_line p.0 t.0 t.1) (numbered all)) (sym ranks-many)
