-- The lines of ranks, of ghosts and of totals.
use Rattle.std.proofs.Common.{◌≡◌, ℕ, ◌<◌, Bool, true, false, not, ◌&&◌, ◌==◌, nat_lt, List, [], ◌∷◌, map, length, get_or, sum_by, count_by, refl, sym, ap, ◌∙◌, zero-add}
use Rattle.std.specs.Prelude.{flat_map, if◌then◌else◌}
use Rattle.std.specs.List.{enumerate_from}
use Rattle.std.proofs.lemmas.List.Folds.{flat_map-map}
use Rattle.std.proofs.lemmas.List.Sums.{length-filter, sum_by-cons}
use Rattle.plain_lists.specs.Lists.{below}
use Rattle.mesh_defs.specs.Mesh.{Mesh}
use Rattle.mesh_defs.specs.Points.{point_of}
use Rattle.mesh_defs.specs.Diagram.{count_in}
use Rattle.input_defs.specs.text_defs.Text.{Rank, rank_line, total_line, rank_text, total_text, owned_in}
use Rattle.rank_defs.specs.Ranks.{assigned, held_cells, held, owner, owned}
use Rattle.rank_defs.specs.Spread.{LocalMesh, plain_dist}
use Rattle.input_defs.specs.Plans.{DofsLine}
use Rattle.headline_defs.specs.Lines.{ghost_line}
use Rattle.headline_defs.specs.StepText.{ranks_with, ghosts_text}
use Rattle.walk_defs.specs.step_defs.Points.{owned_by, count_of}
use Rattle.walk_defs.specs.step_defs.Steps.{ranks_of, own, own_cells, own_faces, own_in, plain_rank, plain_ghosts, plain_total}
use Rattle.headline_laws.proofs.step_laws.Chosen.{below-enumerated, sum_mapped}
use Rattle.headline_laws.proofs.step_laws.Local.{counts_of, dim-is, points-many}
use Rattle.headline_laws.proofs.step_laws.Owned.{ranks-same, sums-same, local_of, chart_of, ranks-many, each-rank, each-sum, owned-many, own-many, own-count}

-- nothing added up
sum-none : {X : Type 0} (xs : List X) → sum_by (λ x. 0) xs ≡ 0
sum-none [] = refl
sum-none (x ∷ xs) = sum_by-cons (λ y. 0) x xs ∙ zero-add (sum_by (λ y. 0) xs) ∙ sum-none xs

module _ (m : Mesh) (dofs : List DofsLine) (a : List ℕ) (n k : ℕ) (bases : List ℕ) where
  abbrev all : List Rank
  all = ranks_with m n a k bases

  -- rank r as the text has it
  rank_at : ℕ → Rank
  rank_at r = record { cells = assigned m a r; held = held m a r k; owned = owned m a r; base = get_or bases r 0 }

  all-are : ranks_with m n a k bases ≡ map rank_at (below n)
  unfolding ranks_with rank_at
  all-are = refl

  all-enumerated : enumerate_from 0 (ranks_with m n a k bases) ≡ map (λ r. (r, rank_at r)) (below n)
  all-enumerated = ap (enumerate_from 0) all-are ∙ below-enumerated rank_at n

  -- ---- ranks

  pub ranks-text : ((r : ℕ) → r < n → count_in m.dim (owned m a r) ≡ length (assigned m a r))
      → flat_map (plain_rank bases) (ranks_of (plain_dist m (counts_of dofs) a n k)) ≡ flat_map rank_text (enumerate_from 0 (ranks_with m n a k bases))
  unfolding plain_rank rank_text rank_at held
  ranks-text cells =
      each-rank m dofs a n k (plain_rank bases)
      ∙ ranks-same n (λ r. plain_rank bases (r, local_of m dofs a n k r)) (λ r. rank_text (r, rank_at r))
      (λ r low i. rank_line r ((ap (λ d. count_of d (local_of m dofs a n k r) (owned_by r (local_of m dofs a n k r))) (dim-is m dofs a (held_cells m a r k)) ∙ own-count m dofs a n k r m.dim ∙ cells r low) i) (points-many m dofs a (held_cells m a r k) i) (own-many m dofs a n k r i) (get_or bases r 0))
      ∙ sym (flat_map-map rank_text (λ r. (r, rank_at r)) (below n)) ∙ sym (ap (flat_map rank_text) all-enumerated)

  -- ---- ghosts

  -- how many points of rank x rank o owns
  ghosts_of : ℕ × Rank → ℕ → List ℕ
  ghosts_of x o = let count = count_by (λ s. owner m a (point_of s) == o) x.1.held in if not (x.0 == o) && nat_lt 0 count then ghost_line x.0 o count else []

  ghosts_on : ℕ × Rank → List ℕ
  ghosts_on x = flat_map (λ (y : ℕ × Rank). ghosts_of x y.0) (enumerate_from 0 (ranks_with m n a k bases))

  ghosts-are : (r : ℕ) → plain_ghosts (length (ranks_of (plain_dist m (counts_of dofs) a n k))) (r, local_of m dofs a n k r) ≡ ghosts_on (r, rank_at r)
  unfolding plain_ghosts ghosts_on ghosts_of rank_at held
  ghosts-are r =
      ap (λ j. plain_ghosts j (r, local_of m dofs a n k r)) (ranks-many m dofs a n k)
      ∙ ranks-same n (λ o. let count = length (owned_by o (local_of m dofs a n k r)) in if not (r == o) && nat_lt 0 count then ghost_line r o count else []) (ghosts_of (r, rank_at r))
      (λ o low. ap (λ count. if not (r == o) && nat_lt 0 count then ghost_line r o count else []) (owned-many m dofs a n k r o ∙ length-filter (λ s. owner m a (point_of s) == o) (chart_of m dofs a n k r)))
      ∙ sym (flat_map-map (λ (y : ℕ × Rank). ghosts_of (r, rank_at r) y.0) (λ o. (o, rank_at o)) (below n))
      ∙ sym (ap (flat_map (λ (y : ℕ × Rank). ghosts_of (r, rank_at r) y.0)) all-enumerated)

  pub ghosts-text : flat_map (plain_ghosts (length (ranks_of (plain_dist m (counts_of dofs) a n k)))) (ranks_of (plain_dist m (counts_of dofs) a n k)) ≡ ghosts_text m a (ranks_with m n a k bases)
  unfolding ghosts_text ghosts_on ghosts_of
  ghosts-text =
      each-rank m dofs a n k (plain_ghosts (length (ranks_of (plain_dist m (counts_of dofs) a n k))))
      ∙ ranks-same n (λ r. plain_ghosts (length (ranks_of (plain_dist m (counts_of dofs) a n k))) (r, local_of m dofs a n k r)) (λ r. ghosts_on (r, rank_at r)) (λ r low. ghosts-are r)
      ∙ sym (flat_map-map ghosts_on (λ r. (r, rank_at r)) (below n)) ∙ sym (ap (flat_map ghosts_on) all-enumerated)

  -- ---- totals

  sums-are : (f : ℕ × LocalMesh → ℕ) (g : Rank → ℕ) → ((r : ℕ) → f (r, local_of m dofs a n k r) ≡ g (rank_at r)) → sum_by f (ranks_of (plain_dist m (counts_of dofs) a n k)) ≡ sum_by g (ranks_with m n a k bases)
  sums-are f g same =
      each-sum m dofs a n k f ∙ sums-same n (λ r. f (r, local_of m dofs a n k r)) (λ r. g (rank_at r)) (λ r low. same r)
      ∙ sym (sum_mapped g rank_at (below n)) ∙ sym (ap (sum_by g) all-are)

  pub held-sum : sum_by (λ (r : ℕ × LocalMesh). length r.1.diagram.points) (ranks_of (plain_dist m (counts_of dofs) a n k)) ≡ sum_by (λ (r : Rank). length r.held) (ranks_with m n a k bases)
  unfolding rank_at held
  held-sum = sums-are (λ r. length r.1.diagram.points) (λ r. length r.held) (λ r. points-many m dofs a (held_cells m a r k))

  pub owned-sum : sum_by (λ r. length (own r)) (ranks_of (plain_dist m (counts_of dofs) a n k)) ≡ sum_by (λ (r : Rank). length r.owned) (ranks_with m n a k bases)
  unfolding rank_at
  owned-sum = sums-are (λ r. length (own r)) (λ r. length r.owned) (own-many m dofs a n k)

  dim-sum : (dim : ℕ) → sum_by (own_in dim) (ranks_of (plain_dist m (counts_of dofs) a n k)) ≡ owned_in dim (ranks_with m n a k bases)
  unfolding rank_at
  dim-sum dim = sums-are (own_in dim) (λ r. count_in dim r.owned) (λ r. own-count m dofs a n k r dim)

  cells-sum : sum_by own_cells (ranks_of (plain_dist m (counts_of dofs) a n k)) ≡ owned_in m.dim (ranks_with m n a k bases)
  unfolding rank_at
  cells-sum = sums-are own_cells (λ r. count_in m.dim r.owned)
      (λ r. ap (λ d. count_of d (local_of m dofs a n k r) (owned_by r (local_of m dofs a n k r))) (dim-is m dofs a (held_cells m a r k)) ∙ own-count m dofs a n k r m.dim)

  faces-sum : sum_by own_faces (ranks_of (plain_dist m (counts_of dofs) a n k)) ≡ (if m.dim == 3 then owned_in 2 (ranks_with m n a k bases) else 0)
  unfolding rank_at
  faces-sum =
      sums-are own_faces (λ (r : Rank). if m.dim == 3 then count_in 2 r.owned else 0)
      (λ r i. if dim-is m dofs a (held_cells m a r k) i == 3 then own-count m dofs a n k r 2 i else 0)
      ∙ go (m.dim == 3)
    where
      go : (b : Bool) → sum_by (λ (r : Rank). if b then count_in 2 r.owned else 0) (ranks_with m n a k bases) ≡ (if b then owned_in 2 (ranks_with m n a k bases) else 0)
      go true = refl
      go false = sum-none (ranks_with m n a k bases)

  pub total-is : plain_total (ranks_of (plain_dist m (counts_of dofs) a n k)) ≡ total_text m (ranks_with m n a k bases)
  unfolding plain_total total_text
  total-is = (λ i. total_line (owned-sum i) (cells-sum i) (dim-sum 0 i) (faces-sum i) (dim-sum 1 i))
