-- The owner of a point is the first rank whose own chart has it, so that the forest of shared points is told by the charts alone.
use Rattle.std.proofs.Common.{◌≡◌, ℕ, zero, suc, ◌+◌, ◌<◌, ◌≤◌, Bool, true, false, cond, not, ◌==◌, List, [], ◌∷◌, map, length, get_or, refl, sym, ap, ◌∙◌, ⊎_elim, arith}
use Rattle.std.specs.List.{list_any, AllByRecursion, position_or_len, filter, enumerate_from}
use Rattle.std.proofs.lemmas.Bool.{cases_lt, or_left, or_right}
use Rattle.std.proofs.lemmas.List.{length-map}
use Rattle.std.proofs.lemmas.List.Folds.{list_any-append}
use Rattle.plain_lists.specs.Lists.{below}
use Rattle.plain_lists.proofs.Each.{all_weaker, all_from, all_map, all_enumerated}
use Rattle.plain_lists.proofs.Below.{below-all, length-below}
use Rattle.plain_lists.proofs.Filters.{map_same, map_map_same, filter_agree, filter-mapped}
use Rattle.plain_lists.proofs.Finding.{any_map, none_passes, position-append_found, position-append_none, position_map, position_agree}
use Rattle.mesh_defs.specs.Mesh.{Mesh, Cell, placed_cells}
use Rattle.mesh_defs.specs.Points.{Point, Sight, same_point, point_of, shows, contains}
use Rattle.mesh_defs.specs.RightMesh.{IsSoundMesh, in_some}
use Rattle.sf_defs.specs.declared.Leaf.{Leaf}
use Rattle.sf_defs.specs.Forest.{leaf}
use Rattle.rank_defs.specs.Ranks.{IsAssignment, assigned, held_cells, owner}
use Rattle.rank_defs.specs.Spread.{place_at_owner, point_forest, own_chart}
use Rattle.rank_laws.proofs.Owning.{owner-least, owner-assigned, owner-below, held-are_cells}
use Rattle.rank_laws.proofs.ChartsClosed.{held-cells}
use Rattle.rank_laws.proofs.Forests.{get_or-image}
use Rattle.rank_laws.specs.share_laws.Charts.{own_charts, points_of, first_holder, first_home, forest_of_charts}
use Rattle.rank_laws.proofs.share_laws.Own.{own-members, own-inside}

-- ---- the first number that passes a test

-- a number that passes is one of those below n
passes-below : (n k : ℕ) (q : ℕ → Bool) → k < n → q k ≡ true → list_any q (below n) ≡ true
passes-below zero k q low h = absurd (omega arith)
passes-below (suc n) k q low h = list_any-append q (below n) (n ∷ [])
    ∙ ⊎_elim (λ (b : k < n). or_left _ _ (passes-below n k q b h)) (λ (b : n ≤ k). let same : k ≡ n = omega arith in or_right (list_any q (below n)) _ (or_left _ _ (ap q (sym same) ∙ h))) (cases_lt k n)

-- the least number that passes stands first
pub least-first : (n k : ℕ) (q : ℕ → Bool) → k < n → q k ≡ true → ((j : ℕ) → j < k → q j ≡ false) → position_or_len q (below n) ≡ k
least-first zero k q low h e = absurd (omega arith)
least-first (suc n) k q low h e = ⊎_elim
    (λ (b : k < n). position-append_found q (below n) (n ∷ []) (passes-below n k q b h) ∙ least-first n k q b h e)
    (λ (b : n ≤ k). position-append_none q (below n) (n ∷ []) (none_passes q (below n) (all_weaker (λ j. j < n) (λ j. q j ≡ false) (λ j l. e j (omega arith)) (below n) (below-all n))) ∙ last b)
    (cases_lt k n)
  where
    last : n ≤ k → length (below n) + position_or_len q (n ∷ []) ≡ k
    last b = let same : k ≡ n = omega arith in let here : position_or_len q (n ∷ []) ≡ 0 = ap (λ t. cond (not t) (1 + 0) 0) (ap q (sym same) ∙ h) in omega (arith, here, length-below n)

-- ---- owners

module _ (m : Mesh) (n : ℕ) (a : List ℕ) (sound : IsSoundMesh m) (parts : IsAssignment m n a) where
  -- a rank's own chart shows what its cells contain
  pub shown-by : (r : ℕ) (p : Point) → list_any (shows p) (own_chart m (assigned m a r)) ≡ in_some p (assigned m a r)
  unfolding held_cells
  shown-by r p = own-members m (assigned m a r) sound (held-cells m a r 0) p

  -- the owner of a point of some cell is the first rank whose own chart shows it
  pub owner-first : (p : Point) → in_some p (placed_cells m) ≡ true → owner m a p ≡ position_or_len (list_any (shows p)) (own_charts m a n)
  unfolding own_charts
  owner-first p h = sym (position_map (list_any (shows p)) (λ r. own_chart m (assigned m a r)) (below n)
      ∙ least-first n (owner m a p) (λ r. list_any (shows p) (own_chart m (assigned m a r))) (owner-below m n a parts p h) (shown-by (owner m a p) p ∙ owner-assigned m a p h) earlier)
    where
      earlier : (j : ℕ) → j < owner m a p → list_any (shows p) (own_chart m (assigned m a j)) ≡ false
      earlier j low = shown-by j p ∙ go (in_some p (assigned m a j)) refl
        where
          go : (b : Bool) → in_some p (assigned m a j) ≡ b → b ≡ false
          go false e = refl
          go true e = let least = owner-least m a j p e in absurd (omega arith)

-- ---- the forest

-- what is enumerated, mapped
enumerated-map : {X Y : Type 0} (f : X → Y) (n : ℕ) (xs : List X) → enumerate_from n (map f xs) ≡ map (λ (c : ℕ × X). (c.0, f c.1)) (enumerate_from n xs)
enumerated-map f n [] = refl
enumerated-map f n (x ∷ xs) = ap (λ l. (n, f x) ∷ l) (enumerated-map f (n + 1) xs)

-- the first chart that shows a point is the first that has it
pub first-shown : (cs : List (List Sight)) (p : Point) → first_holder (points_of cs) p ≡ position_or_len (list_any (shows p)) cs
first-shown cs p = position_map (list_any (same_point p)) (map point_of) cs
    ∙ position_agree (λ (c : List Sight). list_any (same_point p) (map point_of c)) (list_any (shows p)) cs (all_from (λ (c : List Sight). list_any (same_point p) (map point_of c) ≡ list_any (shows p) c) (λ c. any_map (same_point p) point_of c) cs)

-- charts in which the owner of each point is the first rank that has it
module _ (m : Mesh) (a : List ℕ) (cs : List (List Sight)) where
  abbrev pub OwnedFirst : Sight → Type 0
  OwnedFirst s = owner m a (point_of s) ≡ first_holder (points_of cs) (point_of s)

  -- the place at the owner is the first place
  same-home : (s : Sight) → OwnedFirst s → place_at_owner m a cs (point_of s) ≡ first_home (points_of cs) (point_of s)
  same-home s e = λ i. (e i, at i)
    where
      p : Point
      p = point_of s

      at : position_or_len (shows (point_of s)) (get_or cs (owner m a (point_of s)) []) ≡ position_or_len (same_point (point_of s)) (get_or (points_of cs) (first_holder (points_of cs) (point_of s)) [])
      at = ap (λ r. position_or_len (shows (point_of s)) (get_or cs r [])) e
          ∙ sym (ap (position_or_len (same_point (point_of s))) (get_or-image (map point_of) refl cs (first_holder (points_of cs) (point_of s)))
          ∙ position_map (same_point (point_of s)) point_of (get_or cs (first_holder (points_of cs) (point_of s)) []))

  abbrev to_owner : ℕ × Sight → Leaf
  to_owner s = leaf s.0 (place_at_owner m a cs (point_of s.1))

  abbrev to_first : ℕ × Point → Leaf
  to_first p = leaf p.0 (first_home (points_of cs) p.1)

  abbrev is_later : ℕ → ℕ × Point → Bool
  is_later r p = not (first_holder (points_of cs) p.1 == r)

  abbrev pointed : ℕ × Sight → ℕ × Point
  pointed s = (s.0, point_of s.1)

  -- the leaves of one rank
  rank-leaves : (r : ℕ) (chart : List Sight) → AllByRecursion OwnedFirst chart
      → map to_owner (filter (λ s. not (owner m a (point_of s.1) == r)) (enumerate_from 0 chart)) ≡ map to_first (filter (is_later r) (enumerate_from 0 (map point_of chart)))
  rank-leaves r chart h =
      ap (map to_owner) (filter_agree (λ (s : ℕ × Sight). not (owner m a (point_of s.1) == r)) (λ s. is_later r (pointed s)) (enumerate_from 0 chart) (all_weaker (λ (s : ℕ × Sight). OwnedFirst s.1) (λ s. not (owner m a (point_of s.1) == r) ≡ is_later r (pointed s)) (λ s e. ap (λ o. not (o == r)) e) (enumerate_from 0 chart) placed))
      ∙ map_same to_owner (λ s. to_first (pointed s)) (filter (λ s. is_later r (pointed s)) (enumerate_from 0 chart)) (kept (enumerate_from 0 chart) placed)
      ∙ sym (map_map_same to_first pointed (λ s. to_first (pointed s)) (filter (λ s. is_later r (pointed s)) (enumerate_from 0 chart)) (all_from (λ s. to_first (pointed s) ≡ to_first (pointed s)) (λ s. refl) (filter (λ s. is_later r (pointed s)) (enumerate_from 0 chart))))
      ∙ ap (map to_first) (filter-mapped pointed (is_later r) (enumerate_from 0 chart) ∙ ap (filter (is_later r)) (sym (enumerated-map point_of 0 chart)))
    where
      placed : AllByRecursion (λ (s : ℕ × Sight). OwnedFirst s.1) (enumerate_from 0 chart)
      placed = all_enumerated OwnedFirst 0 chart h

      kept : (ss : List (ℕ × Sight)) → AllByRecursion (λ (s : ℕ × Sight). OwnedFirst s.1) ss → AllByRecursion (λ s. to_owner s ≡ to_first (pointed s)) (filter (λ s. is_later r (pointed s)) ss)
      kept [] g = tt
      kept (s ∷ ss) g = go (is_later r (pointed s)) (kept ss g.1)
        where
          go : (b : Bool) → AllByRecursion (λ s. to_owner s ≡ to_first (pointed s)) (filter (λ s. is_later r (pointed s)) ss) → AllByRecursion (λ s. to_owner s ≡ to_first (pointed s)) (cond b (s ∷ filter (λ s. is_later r (pointed s)) ss) (filter (λ s. is_later r (pointed s)) ss))
          go true t = (ap (leaf s.0) (same-home s.1 g.0), t)
          go false t = t

  -- the forests are one
  pub forest-first : AllByRecursion (AllByRecursion OwnedFirst) cs → point_forest m a cs ≡ forest_of_charts (points_of cs)
  unfolding point_forest forest_of_charts
  forest-first h = λ i. record { roots = roots i; leaves = leaves i }
    where
      roots : map length cs ≡ map length (points_of cs)
      roots = sym (map_map_same length (map point_of) length cs (all_from (λ (c : List Sight). length (map point_of c) ≡ length c) (λ c. length-map c point_of) cs))

      leaves : map (λ (r : ℕ × List Sight). map to_owner (filter (λ s. not (owner m a (point_of s.1) == r.0)) (enumerate_from 0 r.1))) (enumerate_from 0 cs)
          ≡ map (λ (r : ℕ × List Point). map to_first (filter (is_later r.0) (enumerate_from 0 r.1))) (enumerate_from 0 (points_of cs))
      leaves =
          map_same (λ (r : ℕ × List Sight). map to_owner (filter (λ s. not (owner m a (point_of s.1) == r.0)) (enumerate_from 0 r.1))) (λ (r : ℕ × List Sight). map to_first (filter (is_later r.0) (enumerate_from 0 (map point_of r.1)))) (enumerate_from 0 cs)
          (all_weaker (λ (r : ℕ × List Sight). AllByRecursion OwnedFirst r.1) (λ r. map to_owner (filter (λ s. not (owner m a (point_of s.1) == r.0)) (enumerate_from 0 r.1)) ≡ map to_first (filter (is_later r.0) (enumerate_from 0 (map point_of r.1)))) (λ r g. rank-leaves r.0 r.1 g) (enumerate_from 0 cs) (all_enumerated (AllByRecursion OwnedFirst) 0 cs h))
          ∙ sym (ap (map (λ (r : ℕ × List Point). map to_first (filter (is_later r.0) (enumerate_from 0 r.1)))) (enumerated-map (map point_of) 0 cs)
          ∙ map_map_same (λ (r : ℕ × List Point). map to_first (filter (is_later r.0) (enumerate_from 0 r.1))) (λ (r : ℕ × List Sight). (r.0, map point_of r.1)) (λ (r : ℕ × List Sight). map to_first (filter (is_later r.0) (enumerate_from 0 (map point_of r.1)))) (enumerate_from 0 cs)
          (all_from (λ (r : ℕ × List Sight). map to_first (filter (is_later r.0) (enumerate_from 0 (map point_of r.1))) ≡ map to_first (filter (is_later r.0) (enumerate_from 0 (map point_of r.1)))) (λ r. refl) (enumerate_from 0 cs)))

module _ (m : Mesh) (n : ℕ) (a : List ℕ) (sound : IsSoundMesh m) (parts : IsAssignment m n a) where
  -- the points of own charts are owned by the first rank that has them
  pub own-first : AllByRecursion (AllByRecursion (OwnedFirst m a (own_charts m a n))) (own_charts m a n)
  unfolding own_charts held_cells
  own-first = all_map (AllByRecursion (OwnedFirst m a (own_charts m a n))) (λ r. own_chart m (assigned m a r)) (below n)
      (all_from (λ r. AllByRecursion (OwnedFirst m a (own_charts m a n)) (own_chart m (assigned m a r)))
      (λ r. all_weaker (λ s. in_some (point_of s) (assigned m a r) ≡ true) (OwnedFirst m a (own_charts m a n))
      (λ s h. owner-first m n a sound parts (point_of s) (held-are_cells m a r 0 (λ (c : ℕ × Cell). contains c.1 (point_of s)) h) ∙ sym (first-shown (own_charts m a n) (point_of s)))
      (own_chart m (assigned m a r)) (own-inside m (assigned m a r))) (below n))

  -- the forest of shared points of own charts
  pub own-forest : point_forest m a (own_charts m a n) ≡ forest_of_charts (points_of (own_charts m a n))
  own-forest = forest-first m a (own_charts m a n) own-first
