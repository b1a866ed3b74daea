-- What ranks' own weights add up to over the copies of points.
use Rattle.std.proofs.Common.{◌≡◌, ℕ, ◌+◌, ◌*◌, ◌<◌, ◌≤◌, ◌^◌, not, ◌==◌, List, [], map, length, get_or, refl, sym, ap, subst, ◌∙◌, arith}
use Rattle.std.specs.List.{AllByRecursion, enumerate_from}
use Rattle.std.proofs.lemmas.List.{length-map, get_or-map, ext_get_or}
use Rattle.std.proofs.lemmas.List.FromFn.{length-enumerate_from}
use Rattle.std.proofs.lemmas.Nat.{mul-le}
use Rattle.plain_lists.specs.Lists.{below}
use Rattle.plain_lists.proofs.Below.{length-below, get_or-map-below}
use Rattle.plain_lists.proofs.Each.{all_from, all_map, all_filter, all_weaker}
use Rattle.plain_lists.proofs.Filters.{image-at, map_map_same}
use Rattle.mesh_defs.specs.Mesh.{Mesh, Cell, placed_cells}
use Rattle.mesh_defs.specs.Points.{Point, Sight, point_of, contains}
use Rattle.mesh_defs.specs.RightMesh.{IsRightMesh}
use Rattle.sf_defs.specs.declared.Leaf.{Leaf}
use Rattle.sf_defs.specs.Forest.{Forest, leaf}
use Rattle.sf_ops.specs.Asked.{AreRootValues, CoversOwn, CoverLeaves}
use Rattle.plex_defs.specs.Fields.{weight}
use Rattle.rank_defs.specs.Ranks.{IsRightAssignment, assigned, owner}
use Rattle.rank_defs.specs.Spread.{own_chart, place_at_owner, leaves_at_owners, ghost_places, point_forest}
use Rattle.rank_laws.specs.share_laws.Charts.{own_charts}
use Rattle.sf_defs.specs.sums.Sums.{AreSums}
use Rattle.rank_chart_laws.specs.field_laws.Weights.{no_sight, weight_in, own_weights, rank_weights}
use Rattle.rank_chart_laws.proofs.field_laws.Sums.{enumerated-low, sum-bound, sum-filter-le}
use Rattle.rank_chart_laws.proofs.field_laws.Shared.{words-add_up}
use Rattle.interp_share.specs.own_field_laws.Own.{whole_weights, total_weights}

module _ (m : Mesh) (a : List ℕ) (n : ℕ) where
  abbrev chart-of : ℕ → List Sight
  chart-of r = own_chart m (assigned m a r)

  abbrev forest : Forest
  forest = point_forest m a (own_charts m a n)

  -- a word for each point
  pub own-roots : AreRootValues (point_forest m a (own_charts m a n)) (rank_weights m a n)
  unfolding point_forest rank_weights own_charts
  own-roots =
      map_map_same length (λ r. own_weights m (assigned m a r)) (λ r. length (chart-of r)) (below n) (all_from (λ r. length (own_weights m (assigned m a r)) ≡ length (chart-of r)) (λ r. length-map (chart-of r) (λ (s : Sight). weight_in (assigned m a r) (point_of s))) (below n))
      ∙ sym (map_map_same length chart-of (λ r. length (chart-of r)) (below n) (all_from (λ r. length (chart-of r) ≡ length (chart-of r)) (λ r. refl) (below n)))

  words-many : length (rank_weights m a n) ≡ n
  unfolding rank_weights
  words-many = length-map (below n) (λ r. own_weights m (assigned m a r)) ∙ length-below n

  words-long : (r : ℕ) → r < n → length (get_or (rank_weights m a n) r []) ≡ length (chart-of r)
  unfolding rank_weights
  words-long r low = ap length (get_or-map-below (λ q. own_weights m (assigned m a q)) n r [] low) ∙ length-map (chart-of r) (λ (s : Sight). weight_in (assigned m a r) (point_of s))

  leaves-are : (r : ℕ) → r < n → get_or forest.leaves r [] ≡ leaves_at_owners m a (own_charts m a n) (ghost_places m a r (chart-of r))
  unfolding point_forest own_charts
  leaves-are r low =
      image-at [] (λ (x : ℕ × List Sight). leaves_at_owners m a (own_charts m a n) (ghost_places m a x.0 x.1)) (λ j. refl) 0 (own_charts m a n) r
      ∙ ap (λ (x : ℕ × List Sight). leaves_at_owners m a (own_charts m a n) (ghost_places m a x.0 x.1)) (λ i. ((let start : 0 + r ≡ r = omega arith in start) i, get_or-map-below chart-of n r [] low i))

  -- and for each copy
  pub own-leaves : CoverLeaves (point_forest m a (own_charts m a n)) (rank_weights m a n)
  own-leaves = record {
    ranks = sym (length-map (rank_weights m a n) length) ∙ ap length own-roots;
    places = λ r low. covered r (omega (arith, low, ap length own-roots, length-map (rank_weights m a n) (length {A = ℕ}), words-many));
  }
    where
      covered : (r : ℕ) → r < n → CoversOwn (get_or (rank_weights m a n) r []) (get_or forest.leaves r [])
      covered r low = subst (CoversOwn (get_or (rank_weights m a n) r [])) (sym (leaves-are r low))
          (all_map (λ (l : Leaf). l.local < length (get_or (rank_weights m a n) r [])) (λ (x : ℕ × Sight). leaf x.0 (place_at_owner m a (own_charts m a n) (point_of x.1))) (ghost_places m a r (chart-of r))
          (all_filter (λ (x : ℕ × Sight). x.0 < length (get_or (rank_weights m a n) r [])) (λ (x : ℕ × Sight). not (owner m a (point_of x.1) == r)) (enumerate_from 0 (chart-of r))
          (all_weaker (λ (x : ℕ × Sight). x.0 + 1 ≤ length (chart-of r)) (λ (x : ℕ × Sight). x.0 < length (get_or (rank_weights m a n) r [])) (λ x h. omega (arith, h, words-long r low)) (enumerate_from 0 (chart-of r)) (enumerated-low 0 (chart-of r) (length (chart-of r)) (omega arith)))))

  -- the sums are the weights
  pub own-totals : (sums : List (List ℕ)) → IsRightMesh m → IsRightAssignment m n a → AreSums (point_forest m a (own_charts m a n)) (rank_weights m a n) sums → sums ≡ total_weights m a n
  unfolding total_weights
  own-totals sums right parts h = ext_get_or [] sums (map total (below n)) (omega (arith, many, length-map (below n) total, length-below n))
      (λ r low. let within : r < n = omega (arith, low, many) in rank r within ∙ sym (get_or-map-below total n r [] within))
    where
      total : ℕ → List ℕ
      total r = whole_weights m (chart-of r)

      many : length sums ≡ n
      many = sym (length-map sums length) ∙ (ap length h.shape ∙ (length-map (rank_weights m a n) length ∙ words-many))

      long : (r : ℕ) → r < n → length (get_or sums r []) ≡ length (chart-of r)
      long r low = sym (get_or-map length sums r [] 0 (omega (arith, low, many))) ∙ (ap (λ ns. get_or ns r 0) h.shape ∙ (get_or-map length (rank_weights m a n) r [] 0 (omega (arith, low, words-many)) ∙ words-long r low))

      rank : (r : ℕ) → r < n → get_or sums r [] ≡ total r
      rank r low = ext_get_or 0 (get_or sums r []) (total r) (long r low ∙ sym (length-map (chart-of r) (λ (s : Sight). weight m (point_of s))))
          (λ i below-long.
          let inside : i < length (chart-of r) = omega (arith, below-long, long r low) in
          h.each r i (omega (arith, inside, words-long r low))
          ∙ (words-add_up m n a right.sound.dim right.sound parts.each r low i inside
          ∙ sym (get_or-map (λ (s : Sight). weight m (point_of s)) (chart-of r) i no_sight 0 inside)))

-- ---- no weight is too great

pub weights-low : (m : Mesh) (points : List Sight) → IsRightMesh m → AllByRecursion (λ w. w < 2 ^ 40) (whole_weights m points)
weights-low m points right = all_map (λ w. w < 2 ^ 40) (λ (s : Sight). weight m (point_of s)) points (all_from (λ (s : Sight). weight m (point_of s) < 2 ^ 40) (λ s. low (point_of s)) points)
  where
    low : (p : Point) → weight m p < 2 ^ 40
    low p =
        let step : ℕ × Cell → ℕ = λ (c : ℕ × Cell). c.0 + 1 in
        let few : length m.cells ≤ 250000 = right.few_cells in
        let inner = sum-filter-le (λ (c : ℕ × Cell). contains c.1 p) step (placed_cells m) in
        let each = sum-bound step 250000 (placed_cells m) (enumerated-low 0 m.cells 250000 (omega arith)) in
        let count = length-enumerate_from 0 m.cells in
        let cap : length (placed_cells m) * 250000 ≤ 250000 * 250000 = mul-le (length (placed_cells m)) 250000 250000 250000 (omega arith) (omega arith) in
        omega arith
