-- What a broadcast over the forest of shared points makes of the numbers of owned points: the numbers of all held points.
use Rattle.std.proofs.Common.{◌≡◌, ℕ, ◌+◌, ◌<◌, Bool, true, false, cond, not, ◌==◌, List, [], ◌∷◌, map, length, get_or, refl, sym, ap, ◌∙◌, subst, arith, zero-add}
use Rattle.std.specs.Prelude.{find, option_map, slice_index, Some, None}
use Rattle.std.specs.List.{list_any, AllByRecursion, enumerate_from}
use Rattle.std.proofs.lemmas.Bool.{eq-eqb, eqb-true}
use Rattle.std.proofs.lemmas.List.{length-map, get_or-map, get_or_default, same_lists}
use Rattle.std.proofs.lemmas.Grind.{same_number_lists}
use Rattle.plain_lists.specs.Lists.{below}
use Rattle.plain_lists.proofs.Below.{length-below, get_or-map-below}
use Rattle.plain_lists.proofs.Each.{all_at, all_map, all_filter, all_weaker}
use Rattle.plain_lists.proofs.Filters.{image-at}
use Rattle.plain_lists.proofs.Finding.{find-map}
use Rattle.mesh_defs.specs.declared.Poly.TheVariants.{Vertex}
use Rattle.mesh_defs.specs.Mesh.{Mesh}
use Rattle.mesh_defs.specs.Points.{Point, Sight, point_of, shows}
use Rattle.mesh_defs.specs.RightMesh.{in_some}
use Rattle.mesh_defs.specs.Diagram.{chart, place_in, strata}
use Rattle.mesh_laws.proofs.Firsts.{shows-true}
use Rattle.sf_defs.specs.declared.Leaf.{Leaf}
use Rattle.sf_defs.specs.Forest.{Forest, leaf, root_at, leaves_on, root_of}
use Rattle.sf_ops.specs.Asked.{AreRootValues, CoversOwn, CoverLeaves}
use Rattle.sf_ops.specs.Copies.{value_or, AreCopies}
use Rattle.rank_defs.specs.Ranks.{held_cells, held, owner}
use Rattle.rank_defs.specs.Home.{point_number}
use Rattle.rank_defs.specs.Spread.{PlainDist, charts, place_at_owner, leaves_at_owners, ghost_places, point_forest, plain_dist, IsDist}
use Rattle.rank_laws.proofs.Owning.{owned-order, owner-below}
use Rattle.rank_laws.proofs.PointForests.{IsPoint, chart-points, owner-shows}
use Rattle.rank_laws.proofs.Strata.{strata-differ}
use Rattle.walk_defs.specs.step_defs.Numbers.{held_numbers}
use Rattle.dist_number.specs.Places.{own_numbers, numbers_at_owners}
use Rattle.dist_number.proofs.Listed.{length-numbers_at_owners, numbers_at_owners-at}
use Rattle.dist_number.proofs.Counted.{rank_mesh, length-locals, local-at, owners-are}
use Rattle.dist_number.proofs.Placed.{length-own_numbers, own-number, placed, find-numbered}

-- the places of numbered things are below the number after the last
places-below : {X : Type 0} (n : ℕ) (xs : List X) → AllByRecursion (λ (x : ℕ × X). x.0 < n + length xs) (enumerate_from n xs)
places-below n [] = tt
places-below n (x ∷ xs) = (omega arith, all_weaker (λ (y : ℕ × _). y.0 < n + 1 + length xs) (λ (y : ℕ × _). y.0 < n + length (x ∷ xs)) (λ y h. omega (arith, h)) (enumerate_from (n + 1) xs) (places-below (n + 1) xs))

module _ (d : PlainDist) (m : Mesh) (dofs : List (List ℕ)) (a : List ℕ) (n k : ℕ) (is : IsDist d m dofs a n k) where
  -- ---- the forest of shared points

  forest-is : d.points ≡ point_forest m a (charts m a n k)
  unfolding plain_dist
  forest-is = ap (λ (e : PlainDist). e.points) is.value

  roots-are : d.points.roots ≡ map length (charts m a n k)
  unfolding point_forest
  roots-are = ap (λ (f : Forest). f.roots) forest-is

  chart-at : (r : ℕ) → r < n → get_or (charts m a n k) r [] ≡ held m a r k
  unfolding charts
  chart-at r low = get_or-map-below (λ q. held m a q k) n r [] low

  length-charts : length (charts m a n k) ≡ n
  unfolding charts
  length-charts = length-map (below n) (λ q. held m a q k) ∙ length-below n

  -- the leaves of a rank are its ghosts
  leaves-are : (r : ℕ) → r < n → leaves_on d.points r ≡ leaves_at_owners m a (charts m a n k) (ghost_places m a r (held m a r k))
  unfolding point_forest
  leaves-are r low =
      ap (λ (f : Forest). leaves_on f r) forest-is
      ∙ (image-at [] (λ (q : ℕ × List Sight). leaves_at_owners m a (charts m a n k) (ghost_places m a q.0 q.1)) (λ j. refl) 0 (charts m a n k) r
      ∙ ap (λ (q : ℕ × List Sight). leaves_at_owners m a (charts m a n k) (ghost_places m a q.0 q.1)) (λ i. (zero-add r i, chart-at r low i)))

  -- it is looked up where another rank owns it
  looked-up : (r p : ℕ) (other : Sight) → r < n → p < length (held m a r k)
      → root_of d.points r p ≡ cond (not (owner m a (point_of (get_or (held m a r k) p other)) == r)) (Some (place_at_owner m a (charts m a n k) (point_of (get_or (held m a r k) p other)))) None
  unfolding root_of
  looked-up r p other low within =
      ap (λ ls. option_map root_at (find (λ (l : Leaf). l.local == p) ls)) (leaves-are r low)
      ∙ (ap (option_map root_at) (find-map (λ (l : Leaf). l.local == p) to (ghost_places m a r (held m a r k)) ∙ ap (option_map to) (find-numbered test 0 p p (held m a r k) other within (omega arith)))
      ∙ shown (test s))
    where
      s : Sight
      s = get_or (held m a r k) p other

      to : ℕ × Sight → Leaf
      to x = leaf x.0 (place_at_owner m a (charts m a n k) (point_of x.1))

      test : Sight → Bool
      test x = not (owner m a (point_of x) == r)

      shown : (b : Bool) → option_map root_at (option_map to (cond b (Some (p, s)) None)) ≡ cond b (Some (place_at_owner m a (charts m a n k) (point_of s))) None
      shown true = refl
      shown false = refl

  -- the place of a held point is its local number
  own-place : (r p : ℕ) (other : Sight) → p < length (held m a r k) → place_in (held m a r k) (point_of (get_or (held m a r k) p other)) ≡ p
  unfolding held chart
  own-place r p other within = placed (λ t. in_some (point_of t) (held_cells m a r k)) (strata m) (strata-differ m is.mesh.sound.dim) p other within

  -- ---- numbers of owned points

  module _ (bases : List ℕ) where
    own-are : (r : ℕ) → r < n → get_or (numbers_at_owners d bases) r [] ≡ own_numbers r (slice_index bases r) (map (λ s. owner m a (point_of s)) (held m a r k))
    own-are r low =
        numbers_at_owners-at d bases r (rank_mesh m dofs a k r) (omega (arith, low, length-locals d m dofs a n k is)) (local-at d m dofs a n k r (rank_mesh m dofs a k r) is low)
        ∙ ap (own_numbers r (slice_index bases r)) (owners-are m dofs a k r)

    length-own : (r : ℕ) → r < n → length (get_or (numbers_at_owners d bases) r []) ≡ length (held m a r k)
    length-own r low =
        ap length (own-are r low)
        ∙ (length-own_numbers r (slice_index bases r) (map (λ s. owner m a (point_of s)) (held m a r k))
        ∙ length-map (held m a r k) (λ s. owner m a (point_of s)))

    length-all : length (numbers_at_owners d bases) ≡ n
    length-all = length-numbers_at_owners d bases ∙ length-locals d m dofs a n k is

    -- a number for each root
    pub root-values : AreRootValues d.points (numbers_at_owners d bases)
    root-values = same_number_lists (map length (numbers_at_owners d bases)) d.points.roots
        (length-map (numbers_at_owners d bases) length ∙ (length-all ∙ sym (ap length roots-are ∙ (length-map (charts m a n k) length ∙ length-charts))))
        (λ r h.
        let low : r < n = omega (arith, h, length-map (numbers_at_owners d bases) (length {A = ℕ}), length-all) in
        get_or-map length (numbers_at_owners d bases) r [] 0 (omega (arith, low, length-all))
        ∙ (length-own r low
        ∙ sym (ap (λ (ns : List ℕ). get_or ns r 0) roots-are ∙ (get_or-map length (charts m a n k) r [] 0 (omega (arith, low, length-charts)) ∙ ap length (chart-at r low)))))

    -- and one at each leaf
    pub leaves-covered : CoverLeaves d.points (numbers_at_owners d bases)
    leaves-covered = record {
      ranks = length-all ∙ sym ranks;
      places = λ r h. covered r (omega (arith, h, ranks));
    }
      where
        ranks : length d.points.roots ≡ n
        ranks = ap length roots-are ∙ (length-map (charts m a n k) length ∙ length-charts)

        covered : (r : ℕ) → r < n → CoversOwn (get_or (numbers_at_owners d bases) r []) (leaves_on d.points r)
        covered r low = subst (CoversOwn (get_or (numbers_at_owners d bases) r [])) (sym (leaves-are r low))
            (all_map (λ (l : Leaf). l.local < length (get_or (numbers_at_owners d bases) r [])) (λ (x : ℕ × Sight). leaf x.0 (place_at_owner m a (charts m a n k) (point_of x.1))) (ghost_places m a r (held m a r k))
            (all_filter (λ (x : ℕ × Sight). x.0 < length (get_or (numbers_at_owners d bases) r [])) (λ (x : ℕ × Sight). not (owner m a (point_of x.1) == r)) (enumerate_from 0 (held m a r k))
            (all_weaker (λ (x : ℕ × Sight). x.0 < 0 + length (held m a r k)) (λ (x : ℕ × Sight). x.0 < length (get_or (numbers_at_owners d bases) r [])) (λ x h. omega (arith, h, length-own r low)) (enumerate_from 0 (held m a r k)) (places-below 0 (held m a r k)))))

    -- at the place of a point in its owner's chart stands its number
    owner-number : (p : Point) → owner m a p < n → list_any (shows p) (held m a (owner m a p) k) ≡ true → get_or (get_or (numbers_at_owners d bases) (owner m a p) []) (place_in (held m a (owner m a p) k) p) 0 ≡ point_number m a bases p
    unfolding point_number
    owner-number p low there =
        let r = owner m a p in
        ap (λ (ns : List ℕ). get_or ns (place_in (held m a r k) p) 0) (own-are r low)
        ∙ (own-number (λ (s : Sight). owner m a (point_of s)) (shows p) r (λ s h. eq-eqb (owner m a (point_of s)) r (ap (owner m a) (sym (shows-true p s h)))) (slice_index bases r) (held m a r k) there
        ∙ ap (λ (ss : List Sight). slice_index bases r + place_in ss p) (owned-order m a r k))

    -- ---- numbers of held points

    -- at the place of a point its owner's number for it is looked up, or it is the owner's own
    value-is : (after : List (List ℕ)) → AreCopies d.points (numbers_at_owners d bases) (numbers_at_owners d bases) after → (r p : ℕ) (other : Sight) → r < n → p < length (held m a r k)
        → get_or (get_or after r []) p 0 ≡ point_number m a bases (point_of (get_or (held m a r k) p other))
    value-is after copies r p other low within =
        copies r p ∙ (ap (value_or all (get_or (get_or all r []) p 0)) (looked-up r p other low within) ∙ cases (owner m a q == r) refl)
      where
        all : List (List ℕ)
        all = numbers_at_owners d bases

        s : Sight
        s = get_or (held m a r k) p other

        q : Point
        q = point_of s

        is_point : IsPoint m s
        is_point = all_at (IsPoint m) (held m a r k) p other (chart-points m a r k) within

        below_n : owner m a q < n
        below_n = owner-below m n a is.assignment.each q is_point.1

        there : list_any (shows q) (held m a (owner m a q) k) ≡ true
        there = owner-shows m a k q is_point.0 is_point.1

        place : place_in (held m a r k) q ≡ p
        place = own-place r p other within

        cases : (b : Bool) → (owner m a q == r) ≡ b → value_or all (get_or (get_or all r []) p 0) (cond (not b) (Some (place_at_owner m a (charts m a n k) q)) None) ≡ point_number m a bases q
        cases true e =
            let mine : owner m a q ≡ r = eqb-true (owner m a q) r e in
            (λ i. get_or (get_or all (sym mine i) []) (sym place i) 0)
            ∙ (ap (λ (o : ℕ). get_or (get_or all (owner m a q) []) (place_in (held m a o k) q) 0) (sym mine) ∙ owner-number q below_n there)
        cases false e =
            ap (λ (ss : List Sight). get_or (get_or all (owner m a q) []) (place_in ss q) 0) (chart-at (owner m a q) below_n) ∙ owner-number q below_n there

    -- The numbers of all held points.
    pub numbers-are : (after : List (List ℕ)) → AreCopies d.points (numbers_at_owners d bases) (numbers_at_owners d bases) after → map length after ≡ map length (numbers_at_owners d bases) → after ≡ held_numbers m a n k bases
    unfolding held_numbers
    numbers-are after copies shape =
        same_lists after (map numbered (below n)) (count ∙ sym (length-map (below n) numbered ∙ length-below n))
        (λ r e h.
        let low : r < n = omega (arith, h, count) in
        get_or_default after r e [] h ∙ (rank r low ∙ sym (get_or-map-below numbered n r e low)))
      where
        numbered : ℕ → List ℕ
        numbered r = map (λ (s : Sight). point_number m a bases (point_of s)) (held m a r k)

        count : length after ≡ n
        count = omega (arith, ap length shape, length-map after (length {A = ℕ}), length-map (numbers_at_owners d bases) (length {A = ℕ}), length-all)

        long : (r : ℕ) → r < n → length (get_or after r []) ≡ length (held m a r k)
        long r low =
            sym (get_or-map length after r [] 0 (omega (arith, low, count)))
            ∙ (ap (λ (ns : List ℕ). get_or ns r 0) shape
            ∙ (get_or-map length (numbers_at_owners d bases) r [] 0 (omega (arith, low, length-all)) ∙ length-own r low))

        rank : (r : ℕ) → r < n → get_or after r [] ≡ numbered r
        rank r low = same_number_lists (get_or after r []) (numbered r) (long r low ∙ sym (length-map (held m a r k) (λ (s : Sight). point_number m a bases (point_of s))))
            (λ p h.
            let within : p < length (held m a r k) = omega (arith, h, long r low) in
            value-is after copies r p nothing low within ∙ sym (get_or-map (λ (s : Sight). point_number m a bases (point_of s)) (held m a r k) p nothing 0 within))
          where
            nothing : Sight
            nothing = record { key = 0; poly = Vertex; arrangement = [] }
