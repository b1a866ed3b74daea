-- Charts of cells from several lists.
use Rattle.std.proofs.Common.{◌≡◌, ℕ, zero, suc, ◌<◌, Bool, true, false, ◌&&◌, ◌||◌, ◌==◌, List, [], ◌∷◌, refl, sym, ap, ◌∙◌, ⊎_elim, arith}
use Rattle.std.specs.Prelude.{flat_map}
use Rattle.std.specs.List.{list_any, filter}
use Rattle.std.proofs.lemmas.Bool.{or_left, or_right, eq-eqb, cases_lt}
use Rattle.std.proofs.lemmas.List.Folds.{list_any-append}
use Rattle.plain_lists.specs.Lists.{below}
use Rattle.plain_lists.proofs.Each.{all_weaker, all_from}
use Rattle.plain_lists.proofs.Filters.{filter_agree}
use Rattle.plain_lists.proofs.Finding.{any_agree, any_same, any_map, any_filter}
use Rattle.mesh_defs.specs.Mesh.{Mesh, Cell, placed_cells}
use Rattle.mesh_defs.specs.Points.{Sight, point_of, contains}
use Rattle.mesh_defs.specs.Diagram.{stratum, strata, chart}
use Rattle.mesh_defs.specs.RightMesh.{in_some}
use Rattle.sf_defs.specs.Asks.{IsRising}
use Rattle.rank_defs.specs.Ranks.{IsAssignment, rank_of, assigned}
use Rattle.rank_laws.proofs.Owning.{ranks-below}
use Rattle.rank_laws.specs.orient_laws.Named.{keys_of, chart_stratum}
use Rattle.rank_laws.proofs.orient_laws.Rising.{rising-numbers}
use Rattle.rank_laws.proofs.orient_laws.Tops.{chart_stratum-rising}

-- ---- tests over lists of lists

pub any-flat_map : {X Y : Type 0} (p : Y → Bool) (f : X → List Y) (xs : List X) → list_any p (flat_map f xs) ≡ list_any (λ x. list_any p (f x)) xs
any-flat_map p f [] = refl
any-flat_map p f (x ∷ xs) = list_any-append p (f x) (flat_map f xs) ∙ ap (λ t. list_any p (f x) || t) (any-flat_map p f xs)

any-none : {X : Type 0} (xs : List X) → list_any (λ x. false) xs ≡ false
any-none [] = refl
any-none (x ∷ xs) = any-none xs

any-or : {X : Type 0} (p q : X → Bool) (xs : List X) → list_any (λ x. p x || q x) xs ≡ (list_any p xs || list_any q xs)
any-or p q [] = refl
any-or p q (x ∷ xs) = ap (λ t. (p x || q x) || t) (any-or p q xs) ∙ mixed (p x) (q x) (list_any p xs) (list_any q xs)
  where
    mixed : (a b c d : Bool) → ((a || b) || (c || d)) ≡ ((a || c) || (b || d))
    mixed true b c d = refl
    mixed false true true d = refl
    mixed false true false d = refl
    mixed false false c d = refl

-- two lists are gone over in either order
pub any-swap : {X Y : Type 0} (p : X → Y → Bool) (xs : List X) (ys : List Y) → list_any (λ x. list_any (p x) ys) xs ≡ list_any (λ y. list_any (λ x. p x y) xs) ys
any-swap p [] ys = sym (any-none ys)
any-swap p (x ∷ xs) ys = ap (λ t. list_any (p x) ys || t) (any-swap p xs ys) ∙ sym (any-or (p x) (λ y. list_any (λ z. p z y) xs) ys)

-- a test beside one that is gone over
pub any-and : {X : Type 0} (p : X → Bool) (b : Bool) (xs : List X) → list_any (λ x. p x && b) xs ≡ (list_any p xs && b)
any-and p b [] = refl
any-and p b (x ∷ xs) = ap (λ t. (p x && b) || t) (any-and p b xs) ∙ mixed (p x) (list_any p xs) b
  where
    mixed : (a c d : Bool) → ((a && d) || (c && d)) ≡ ((a || c) && d)
    mixed true true true = refl
    mixed true true false = refl
    mixed true false true = refl
    mixed true false false = refl
    mixed false c d = refl

-- ---- unions

-- Cells from several lists: each test passes among them where it passes among those of some list.
module _ {X : Type 0} (m : Mesh) (cells : List (ℕ × Cell)) (given : X → List (ℕ × Cell)) (xs : List X) (same : (test : ℕ × Cell → Bool) → list_any test cells ≡ list_any (λ x. list_any test (given x)) xs) (dim : ℕ) where
  pub given-points : (test : Sight → Bool) → list_any test (chart_stratum m cells dim) ≡ list_any (λ x. list_any test (chart_stratum m (given x) dim)) xs
  unfolding chart_stratum
  given-points test =
      any_filter test (λ s. in_some (point_of s) cells) (stratum m dim)
      ∙ (any_same (λ s. in_some (point_of s) cells && test s) (λ s. list_any (λ x. in_some (point_of s) (given x) && test s) xs)
      (λ s. ap (λ b. b && test s) (same (λ (c : ℕ × Cell). contains c.1 (point_of s))) ∙ sym (any-and (λ x. in_some (point_of s) (given x)) (test s) xs)) (stratum m dim)
      ∙ (any-swap (λ s x. in_some (point_of s) (given x) && test s) (stratum m dim) xs
      ∙ any_same (λ x. list_any (λ s. in_some (point_of s) (given x) && test s) (stratum m dim)) (λ x. list_any test (filter (λ s. in_some (point_of s) (given x)) (stratum m dim)))
      (λ x. sym (any_filter test (λ s. in_some (point_of s) (given x)) (stratum m dim))) xs))

  -- a number is a key of them where it is a key of some list
  pub given-key : (k : ℕ) → list_any (λ j. k == j) (keys_of (chart_stratum m cells dim)) ≡ list_any (λ x. list_any (λ j. k == j) (keys_of (chart_stratum m (given x) dim))) xs
  given-key k = any_map (λ j. k == j) (λ (s : Sight). s.key) (chart_stratum m cells dim)
      ∙ (given-points (λ s. k == s.key)
      ∙ any_same (λ x. list_any (λ (s : Sight). k == s.key) (chart_stratum m (given x) dim)) (λ x. list_any (λ j. k == j) (keys_of (chart_stratum m (given x) dim))) (λ x. sym (any_map (λ j. k == j) (λ (s : Sight). s.key) (chart_stratum m (given x) dim))) xs)

  -- rising numbers with these keys are the keys
  pub given-keys : (keys : List ℕ) → IsRising keys → ((k : ℕ) → list_any (λ j. k == j) keys ≡ list_any (λ x. list_any (λ j. k == j) (keys_of (chart_stratum m (given x) dim))) xs) → keys ≡ keys_of (chart_stratum m cells dim)
  given-keys keys rises h = rising-numbers keys (keys_of (chart_stratum m cells dim)) rises (chart_stratum-rising m cells dim) (λ k. h k ∙ sym (given-key k))

module _ (m : Mesh) (parts : List (List (ℕ × Cell))) (dim : ℕ) where
  joined : (test : ℕ × Cell → Bool) → list_any test (flat_map (λ part. part) parts) ≡ list_any (λ part. list_any test part) parts
  joined test = any-flat_map test (λ part. part) parts

  pub union-points : (test : Sight → Bool) → list_any test (chart_stratum m (flat_map (λ part. part) parts) dim) ≡ list_any (λ part. list_any test (chart_stratum m part dim)) parts
  union-points = given-points m (flat_map (λ part. part) parts) (λ part. part) parts joined dim

  pub union-keys : (keys : List ℕ) → IsRising keys → ((k : ℕ) → list_any (λ j. k == j) keys ≡ list_any (λ part. list_any (λ j. k == j) (keys_of (chart_stratum m part dim))) parts) → keys ≡ keys_of (chart_stratum m (flat_map (λ part. part) parts) dim)
  union-keys = given-keys m (flat_map (λ part. part) parts) (λ part. part) parts joined dim

-- ---- which cells

-- charts of the same cells
pub chart-same : (m : Mesh) (xs ys : List (ℕ × Cell)) → ((test : ℕ × Cell → Bool) → list_any test xs ≡ list_any test ys) → chart m xs ≡ chart m ys
unfolding chart
chart-same m xs ys h = filter_agree (λ s. in_some (point_of s) xs) (λ s. in_some (point_of s) ys) (strata m) (all_from (λ s. in_some (point_of s) xs ≡ in_some (point_of s) ys) (λ s. h (λ (c : ℕ × Cell). contains c.1 (point_of s))) (strata m))

-- and their strata
pub stratum-same : (m : Mesh) (xs ys : List (ℕ × Cell)) (dim : ℕ) → ((test : ℕ × Cell → Bool) → list_any test xs ≡ list_any test ys) → chart_stratum m xs dim ≡ chart_stratum m ys dim
unfolding chart_stratum
stratum-same m xs ys dim h = filter_agree (λ s. in_some (point_of s) xs) (λ s. in_some (point_of s) ys) (stratum m dim) (all_from (λ s. in_some (point_of s) xs ≡ in_some (point_of s) ys) (λ s. h (λ (c : ℕ × Cell). contains c.1 (point_of s))) (stratum m dim))

-- a number below n is one of those
pub any-below : (n k : ℕ) → k < n → list_any (λ q. k == q) (below n) ≡ true
any-below zero k h = absurd (omega (arith, h))
any-below (suc n) k h = list_any-append (λ q. k == q) (below n) (n ∷ []) ∙ ⊎_elim (λ low. or_left _ _ (any-below n k low)) (λ high. or_right _ _ (or_left _ _ (eq-eqb k n (omega (arith, high, h))))) (cases_lt k n)

module _ (m : Mesh) (n : ℕ) (a : List ℕ) (each : IsAssignment m n a) where
  -- what all cells are asked, the ranks may be asked in turn
  pub any-by_ranks : (test : ℕ × Cell → Bool) → list_any test (placed_cells m) ≡ list_any (λ q. list_any test (assigned m a q)) (below n)
  unfolding assigned
  any-by_ranks test =
      any_agree test (λ c. list_any (λ q. (rank_of a c == q) && test c) (below n)) (placed_cells m)
      (all_weaker (λ c. rank_of a c < n) (λ c. test c ≡ list_any (λ q. (rank_of a c == q) && test c) (below n)) (λ c low. sym (any-and (λ q. rank_of a c == q) (test c) (below n) ∙ ap (λ b. b && test c) (any-below n (rank_of a c) low))) (placed_cells m) (ranks-below m n a each))
      ∙ (any-swap (λ c q. (rank_of a c == q) && test c) (placed_cells m) (below n)
      ∙ any_same (λ q. list_any (λ c. (rank_of a c == q) && test c) (placed_cells m)) (λ q. list_any test (filter (λ c. rank_of a c == q) (placed_cells m))) (λ q. sym (any_filter test (λ c. rank_of a c == q) (placed_cells m))) (below n))

  -- the cells that a rank has next, by the ranks that have them
  cells-given : (b : List ℕ) (r : ℕ) (test : ℕ × Cell → Bool) → list_any test (assigned m b r) ≡ list_any (λ q. list_any test (filter (λ c. rank_of b c == r) (assigned m a q))) (below n)
  unfolding assigned
  cells-given b r test =
      any_filter test (λ c. rank_of b c == r) (placed_cells m)
      ∙ (any-by_ranks (λ c. (rank_of b c == r) && test c)
      ∙ any_same (λ q. list_any (λ c. (rank_of b c == r) && test c) (assigned m a q)) (λ q. list_any test (filter (λ c. rank_of b c == r) (assigned m a q))) (λ q. sym (any_filter test (λ c. rank_of b c == r) (assigned m a q))) (below n))

  pub given-chart : (b : List ℕ) (r : ℕ) → chart m (assigned m b r) ≡ chart m (flat_map (λ q. filter (λ c. rank_of b c == r) (assigned m a q)) (below n))
  given-chart b r = chart-same m (assigned m b r) (flat_map (λ q. filter (λ c. rank_of b c == r) (assigned m a q)) (below n))
      (λ test. cells-given b r test ∙ sym (any-flat_map test (λ q. filter (λ c. rank_of b c == r) (assigned m a q)) (below n)))

  pub next-keys : (b : List ℕ) (r dim : ℕ) (keys : List ℕ) → IsRising keys → ((k : ℕ) → list_any (λ j. k == j) keys ≡ list_any (λ q. list_any (λ j. k == j) (keys_of (chart_stratum m (filter (λ c. rank_of b c == r) (assigned m a q)) dim))) (below n)) → keys ≡ keys_of (chart_stratum m (assigned m b r) dim)
  next-keys b r dim = given-keys m (assigned m b r) (λ q. filter (λ c. rank_of b c == r) (assigned m a q)) (below n) (cells-given b r) dim
