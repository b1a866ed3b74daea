-- The points of a rank's own chart by their places: which are cells, vertices, faces and edges, and under which keys they are seen.
use Rattle.std.proofs.Common.{◌≡◌, ◌≢◌, ◌⊎◌, ℕ, zero, suc, ◌+◌, ◌-◌, ◌<◌, ◌≤◌, Bool, true, false, cond, not, ◌||◌, ◌==◌, List, [], ◌∷◌, ◌++◌, length, get_or, Option, Some, None, refl, sym, ap, ◌∙◌, subst, inl, inr, ⊎_elim, arith, zero-add}
use Rattle.std.specs.Prelude.{filter, find, option_map}
use Rattle.std.specs.List.{list_any, AllByRecursion, enumerate_from}
use Rattle.std.proofs.lemmas.Bool.{and_parts, eq-eqb, eqb-true, ne_eqb, both_ways, not-true, cond-true, cond-false, cases_lt}
use Rattle.std.proofs.lemmas.List.{length-append, get_or_append_left, get_or-append-add}
use Rattle.std.proofs.lemmas.List.Folds.{list_any-append}
use Rattle.plain_lists.proofs.Below.{get_or-map-below}
use Rattle.plain_lists.proofs.Each.{all_append, all_at, all_filter, all_map, all_weaker, all_append_first, all_append_second}
use Rattle.plain_lists.proofs.Filters.{image-at}
use Rattle.plain_lists.proofs.Finding.{each_fails, find-append_found, find-append_none, find-filter, find-none}
use Rattle.mesh_defs.specs.Tables.{dim_of}
use Rattle.mesh_defs.specs.Mesh.{Mesh, Cell, placed_cells}
use Rattle.mesh_defs.specs.Points.{Point, Sight, point_of, shows, sights, vertex_sights, first_sight, contains}
use Rattle.mesh_defs.specs.Sights.{points_differ}
use Rattle.mesh_defs.specs.Diagram.{place_in, stratum, strata}
use Rattle.mesh_defs.specs.RightMesh.{IsRightMesh, IsSoundMesh, in_some}
use Rattle.mesh_laws.proofs.Firsts.{find-firsts, shows-own, shows-true}
use Rattle.rank_laws.proofs.diagram_laws.Edges.{none-of_dim}
use Rattle.sf_defs.specs.declared.Leaf.{Leaf}
use Rattle.sf_defs.specs.Forest.{Forest, leaf, leaves_on, root_at, root_of}
use Rattle.rank_defs.specs.Ranks.{IsAssignment, assigned, held_cells, owner}
use Rattle.rank_defs.specs.Spread.{own_stratum, own_chart, place_at_owner, leaves_at_owners, ghost_places, point_forest}
use Rattle.rank_laws.proofs.Owning.{owner-assigned, owner-below, held-are_cells}
use Rattle.rank_laws.proofs.Strata.{strata-first}
use Rattle.rank_laws.specs.share_laws.Charts.{own_charts}
use Rattle.rank_laws.proofs.share_laws.Own.{own-differ, own-inside, own-of_dim, own-vertices_of_dim}
use Rattle.rank_laws.proofs.share_laws.Owners.{shown-by}
use Rattle.rank_laws.specs.orient_laws.Named.{chart_stratum, own_sight}
use Rattle.rank_laws.proofs.orient_laws.Seen.{shown-dim}
use Rattle.rank_laws.proofs.orient_laws.Tops.{top-stratum}
use Rattle.rank_chart_laws.specs.field_laws.Weights.{no_sight}
use Rattle.rank_chart_laws.proofs.field_laws.Places.{leaf-at, place-is, shown-there}

-- ---- lists

-- an entry of the second of two lists
at-second : {X : Type 0} (xs ys : List X) (i : ℕ) (d : X) → length xs ≤ i → get_or (xs ++ ys) i d ≡ get_or ys (i - length xs) d
at-second xs ys i d le = ap (λ k. get_or (xs ++ ys) k d) (let e : i ≡ length xs + (i - length xs) = omega arith in e) ∙ get_or-append-add xs ys (i - length xs) d

-- what is not in the second of two lists is found in the first
find-first_part : {X : Type 0} (p : X → Bool) (xs ys : List X) → list_any p ys ≡ false → find p (xs ++ ys) ≡ find p xs
find-first_part p xs ys none = go (list_any p xs) refl
  where
    go : (b : Bool) → list_any p xs ≡ b → find p (xs ++ ys) ≡ find p xs
    go true e = find-append_found p xs ys e
    go false e = find-append_none p xs ys e ∙ (find-none p ys none ∙ sym (find-none p xs e))

-- where points differ, each is found at its place
found-at : (ss : List Sight) (d : Sight) → points_differ ss ≡ true → (i : ℕ) → i < length ss → find (shows (point_of (get_or ss i d))) ss ≡ Some (get_or ss i d)
found-at [] d h i low = absurd (omega (arith, low))
found-at (s ∷ ss) d h zero low = cond-true (shows (point_of s) s) (Some s) (find (shows (point_of s)) ss) (shows-own s)
found-at (s ∷ ss) d h (suc i) low =
    let both = and_parts (not (list_any (shows (point_of s)) ss)) (points_differ ss) h in
    let inside : i < length ss = omega (arith, low) in
    let t : Sight = get_or ss i d in
    cond-false (shows (point_of t) s) (Some s) (find (shows (point_of t)) ss) (other t (all_at (λ u. shows (point_of s) u ≡ false) ss i d (each_fails (shows (point_of s)) ss (not-true (list_any (shows (point_of s)) ss) both.0)) inside) (shows (point_of t) s) refl) ∙ found-at ss d both.1 i inside
  where
    other : (t : Sight) → shows (point_of s) t ≡ false → (b : Bool) → shows (point_of t) s ≡ b → shows (point_of t) s ≡ false
    other t none true e = absurd (both_ways (shows (point_of s) t) none (ap (λ p. shows p t) (sym (shows-true (point_of t) s e)) ∙ shows-own t))
    other t none false e = e

-- enumerated things have numbers below their end
numbers-below : {X : Type 0} (n : ℕ) (xs : List X) (end : ℕ) → n + length xs ≤ end → AllByRecursion (λ (x : ℕ × X). x.0 < end) (enumerate_from n xs)
numbers-below n [] end h = tt
numbers-below n (x ∷ xs) end h = (omega (arith, h), numbers-below (n + 1) xs end (omega (arith, h)))

-- ---- a rank's chart

module _ (m : Mesh) (n : ℕ) (a : List ℕ) (mesh : IsRightMesh m) (parts : IsAssignment m n a) where
  sound : IsSoundMesh m
  sound = mesh.sound

  abbrev pub own : ℕ → List Sight
  own r = own_chart m (assigned m a r)

  -- what stands at a place, and its point
  abbrev pub sight : ℕ → ℕ → Sight
  sight r i = get_or (own r) i no_sight

  abbrev pub pt : ℕ → ℕ → Point
  pt r i = point_of (sight r i)

  abbrev pub forest : Forest
  forest = point_forest m a (own_charts m a n)

  -- its parts
  abbrev pub tops : ℕ → List Sight
  tops r = own_stratum (assigned m a r) m.dim

  abbrev pub corners : ℕ → List Sight
  corners r = filter (λ s. in_some (point_of s) (assigned m a r)) (vertex_sights m)

  abbrev pub faces : ℕ → List Sight
  faces r = cond (m.dim == 3) (own_stratum (assigned m a r) 2) []

  abbrev pub edges : ℕ → List Sight
  edges r = own_stratum (assigned m a r) 1

  pub own-is : (r : ℕ) → own r ≡ ((tops r ++ corners r) ++ faces r) ++ edges r
  unfolding own_chart
  own-is r = refl

  -- where its faces and its edges begin
  abbrev pub face-from : ℕ → ℕ
  face-from r = length (tops r) + length (corners r)

  abbrev pub edge-from : ℕ → ℕ
  edge-from r = face-from r + length (faces r)

  pub own-length : (r : ℕ) → length (own r) ≡ edge-from r + length (edges r)
  own-length r = ap length (own-is r)
      ∙ (length-append ((tops r ++ corners r) ++ faces r) (edges r)
      ∙ ap (λ k. k + length (edges r)) (length-append (tops r ++ corners r) (faces r)
      ∙ ap (λ k. k + length (faces r)) (length-append (tops r) (corners r))))

  -- what all of a part have, its places have
  pub at-low : (P : Sight → Type 0) (r i : ℕ) → AllByRecursion P (tops r) → AllByRecursion P (corners r) → i < face-from r → P (sight r i)
  at-low P r i p q low =
      subst (λ l. P (get_or l i no_sight)) (sym (own-is r))
      (subst P (sym (get_or_append_left ((tops r ++ corners r) ++ faces r) (edges r) no_sight i (omega (arith, low, length-append (tops r ++ corners r) (faces r), length-append (tops r) (corners r)))
      ∙ get_or_append_left (tops r ++ corners r) (faces r) no_sight i (omega (arith, low, length-append (tops r) (corners r)))))
      (all_at P (tops r ++ corners r) i no_sight (all_append P (tops r) (corners r) p q) (omega (arith, low, length-append (tops r) (corners r)))))

  pub at-face : (P : Sight → Type 0) (r i : ℕ) → AllByRecursion P (faces r) → face-from r ≤ i → i < edge-from r → P (sight r i)
  at-face P r i p le low =
      subst (λ l. P (get_or l i no_sight)) (sym (own-is r))
      (subst P (sym (get_or_append_left ((tops r ++ corners r) ++ faces r) (edges r) no_sight i (omega (arith, low, length-append (tops r ++ corners r) (faces r), length-append (tops r) (corners r)))
      ∙ at-second (tops r ++ corners r) (faces r) i no_sight (omega (arith, le, length-append (tops r) (corners r)))))
      (all_at P (faces r) (i - length (tops r ++ corners r)) no_sight p (omega (arith, le, low, length-append (tops r) (corners r)))))

  pub at-edge : (P : Sight → Type 0) (r i : ℕ) → AllByRecursion P (edges r) → edge-from r ≤ i → i < length (own r) → P (sight r i)
  at-edge P r i p le low =
      let long = own-length r in
      subst (λ l. P (get_or l i no_sight)) (sym (own-is r))
      (subst P (sym (at-second ((tops r ++ corners r) ++ faces r) (edges r) i no_sight (omega (arith, le, length-append (tops r ++ corners r) (faces r), length-append (tops r) (corners r)))))
      (all_at P (edges r) (i - length ((tops r ++ corners r) ++ faces r)) no_sight p (omega (arith, le, low, long, length-append (tops r ++ corners r) (faces r), length-append (tops r) (corners r)))))

  -- ---- dimensions

  pub edge-dim : (r i : ℕ) → edge-from r ≤ i → i < length (own r) → (pt r i).dim ≡ 1
  edge-dim r i le low = at-edge (λ s. dim_of s.poly ≡ 1) r i (own-of_dim m (assigned m a r) 1) le low

  pub face-dim : (r i : ℕ) → face-from r ≤ i → i < edge-from r → ((pt r i).dim ≡ 2) × (m.dim ≡ 3)
  face-dim r i le low = at-face (λ s. (dim_of s.poly ≡ 2) × (m.dim ≡ 3)) r i (solid (m.dim == 3) refl) le low
    where
      solid : (b : Bool) → (m.dim == 3) ≡ b → AllByRecursion (λ (s : Sight). (dim_of s.poly ≡ 2) × (m.dim ≡ 3)) (cond b (own_stratum (assigned m a r) 2) [])
      solid true e = all_weaker (λ (s : Sight). dim_of s.poly ≡ 2) (λ (s : Sight). (dim_of s.poly ≡ 2) × (m.dim ≡ 3)) (λ s h. (h, eqb-true m.dim 3 e)) (own_stratum (assigned m a r) 2) (own-of_dim m (assigned m a r) 2)
      solid false e = tt

  pub low-dim : (r i : ℕ) → i < face-from r → ((pt r i).dim ≡ m.dim) ⊎ ((pt r i).dim ≡ 0)
  low-dim r i low = at-low (λ s. (dim_of s.poly ≡ m.dim) ⊎ (dim_of s.poly ≡ 0)) r i
      (all_weaker (λ (s : Sight). dim_of s.poly ≡ m.dim) (λ (s : Sight). (dim_of s.poly ≡ m.dim) ⊎ (dim_of s.poly ≡ 0)) (λ s h. inl h) (tops r) (own-of_dim m (assigned m a r) m.dim))
      (all_weaker (λ (s : Sight). dim_of s.poly ≡ 0) (λ (s : Sight). (dim_of s.poly ≡ m.dim) ⊎ (dim_of s.poly ≡ 0)) (λ s h. inr h) (corners r) (own-vertices_of_dim m (assigned m a r))) low

  pub dim-not : (d : ℕ) → d < 2 → m.dim ≢ d
  dim-not d lt e = ⊎_elim (λ (f : m.dim ≡ 2). omega (arith, lt, e, f)) (λ (f : m.dim ≡ 3). omega (arith, lt, e, f)) sound.dim

  pub middle-dim : (r i : ℕ) → face-from r ≤ i → i < length (own r) → (pt r i).dim ≢ 0
  middle-dim r i le low e = ⊎_elim
      (λ lt. absurd (let d = (face-dim r i le lt).0 in omega (arith, d, e)))
      (λ ge. absurd (let d = edge-dim r i ge low in omega (arith, d, e)))
      (cases_lt i (edge-from r))

  -- ---- the cells that have it

  pub inside-rank : (r i : ℕ) → i < length (own r) → in_some (pt r i) (assigned m a r) ≡ true
  inside-rank r i low = all_at (λ s. in_some (point_of s) (assigned m a r) ≡ true) (own r) i no_sight (own-inside m (assigned m a r)) low

  pub inside-mesh : (r i : ℕ) → i < length (own r) → in_some (pt r i) (placed_cells m) ≡ true
  unfolding held_cells
  inside-mesh r i low = held-are_cells m a r 0 (λ (c : ℕ × Cell). contains c.1 (pt r i)) (inside-rank r i low)

  pub differ : (r : ℕ) → points_differ (own r) ≡ true
  differ r = own-differ m (assigned m a r) sound.dim

  -- ---- the place of a point

  abbrev pub place : ℕ → Point → ℕ
  place r p = place_in (own r) p

  pub place-own : (r i : ℕ) → i < length (own r) → place r (pt r i) ≡ i
  place-own r i low = place-is (pt r i) (own r) no_sight (differ r) i low (shows-own (sight r i))

  pub place-there : (r : ℕ) (p : Point) → in_some p (assigned m a r) ≡ true → (place r p < length (own r)) × (pt r (place r p) ≡ p)
  place-there r p h =
      let there = shown-there p (own r) no_sight (shown-by m n a sound parts r p ∙ h) in
      (there.0, sym (shows-true p (sight r (place r p)) there.1))

  pub one-place : (r i j : ℕ) → i < length (own r) → j < length (own r) → pt r i ≡ pt r j → i ≡ j
  one-place r i j p q e = sym (place-own r i p) ∙ (ap (place r) e ∙ place-own r j q)

  -- ---- roots

  chart-at : (r : ℕ) → r < n → get_or (own_charts m a n) r [] ≡ own r
  unfolding own_charts
  chart-at r low = get_or-map-below own n r [] low

  abbrev is_ghost : ℕ → Sight → Bool
  is_ghost r s = not (owner m a (point_of s) == r)

  abbrev root-for : Sight → ℕ × ℕ
  root-for s = place_at_owner m a (own_charts m a n) (point_of s)

  leaves-are : (r : ℕ) → r < n → leaves_on forest r ≡ leaves_at_owners m a (own_charts m a n) (ghost_places m a r (own r))
  unfolding point_forest
  leaves-are r low =
      image-at [] (λ (x : ℕ × List Sight). leaves_at_owners m a (own_charts m a n) (ghost_places m a x.0 x.1)) (λ j. refl) 0 (own_charts m a n) r
      ∙ ap (λ (x : ℕ × List Sight). leaves_at_owners m a (own_charts m a n) (ghost_places m a x.0 x.1)) (λ i. (zero-add r i, chart-at r low i))

  -- they are points of the rank
  pub leaves-local : (r : ℕ) → r < n → AllByRecursion (λ (l : Leaf). l.local < length (own r)) (leaves_on forest r)
  leaves-local r low = subst (AllByRecursion (λ (l : Leaf). l.local < length (own r))) (sym (leaves-are r low))
      (all_map (λ (l : Leaf). l.local < length (own r)) (λ (s : ℕ × Sight). leaf s.0 (root-for s.1)) (ghost_places m a r (own r))
      (all_filter (λ (s : ℕ × Sight). s.0 < length (own r)) (λ (s : ℕ × Sight). is_ghost r s.1) (enumerate_from 0 (own r)) (numbers-below 0 (own r) (length (own r)) (omega arith))))

  -- the owner of a point and its place there
  abbrev pub home : Point → ℕ × ℕ
  home p = (owner m a p, place (owner m a p) p)

  root-at_owner : (r i : ℕ) → r < n → i < length (own r) → root_of forest r i ≡ cond (is_ghost r (sight r i)) (Some (root-for (sight r i))) None
  unfolding root_of
  root-at_owner r i low inside =
      ap (λ ls. option_map root_at (find (λ (l : Leaf). l.local == i) ls)) (leaves-are r low)
      ∙ (coe 0 1 (j. option_map root_at (find (λ (l : Leaf). l.local == zero-add i j) (leaves_at_owners m a (own_charts m a n) (ghost_places m a r (own r)))) ≡ option_map root_at (answer (zero-add i j))) (ap (option_map root_at) (leaf-at (is_ghost r) root-for 0 (own r) i no_sight inside))
      ∙ by (is_ghost r (sight r i)))
    where
      answer : ℕ → Option Leaf
      answer j = cond (is_ghost r (sight r i)) (Some (leaf j (root-for (sight r i)))) None

      by : (b : Bool) → option_map root_at (cond b (Some (leaf i (root-for (sight r i)))) None) ≡ cond b (Some (root-for (sight r i))) None
      by true = refl
      by false = refl

  pub owner-low : (r i : ℕ) → i < length (own r) → owner m a (pt r i) < n
  owner-low r i low = owner-below m n a parts (pt r i) (inside-mesh r i low)

  -- the root of a point that another rank owns, and none where the rank owns it
  pub root-ghost : (r i : ℕ) → r < n → i < length (own r) → owner m a (pt r i) ≢ r → root_of forest r i ≡ Some (home (pt r i))
  root-ghost r i low inside ne =
      root-at_owner r i low inside
      ∙ (ap (λ b. cond (not b) (Some (root-for (sight r i))) None) (ne_eqb (owner m a (pt r i)) r ne)
      ∙ ap (λ c. Some (owner m a (pt r i), place_in c (pt r i))) (chart-at (owner m a (pt r i)) (owner-low r i inside)))

  pub root-own : (r i : ℕ) → r < n → i < length (own r) → owner m a (pt r i) ≡ r → root_of forest r i ≡ None
  root-own r i low inside e = root-at_owner r i low inside ∙ ap (λ b. cond (not b) (Some (root-for (sight r i))) None) (eq-eqb (owner m a (pt r i)) r e)

  -- the point stands at its owner
  pub at-home : (p : Point) → in_some p (placed_cells m) ≡ true → (place (owner m a p) p < length (own (owner m a p))) × (pt (owner m a p) (place (owner m a p) p) ≡ p)
  at-home p h = place-there (owner m a p) p (owner-assigned m a p h)

  -- ---- keys

  -- a point that is no vertex is first seen by the rank as it stands in the chart
  pub seen-first : (r i : ℕ) → i < length (own r) → face-from r ≤ i → own_sight m a r (pt r i) ≡ Some (sight r i)
  seen-first r i low le = ⊎_elim
      (λ lt. let d = face-dim r i le lt in in-stratum 2 d.0 (of-faces d.0 d.1))
      (λ ge. let d = edge-dim r i ge low in in-stratum 1 d (of-edges d))
      (cases_lt i (edge-from r))
    where
      p : Point
      p = pt r i

      found : find (shows p) (((tops r ++ corners r) ++ faces r) ++ edges r) ≡ Some (sight r i)
      found = ap (find (shows p)) (sym (own-is r)) ∙ found-at (own r) no_sight (differ r) i low

      no-corners : p.dim ≢ 0 → list_any (shows p) (corners r) ≡ false
      no-corners ne = none-of_dim p 0 (corners r) ne (own-vertices_of_dim m (assigned m a r))

      no-stratum : (d : ℕ) → p.dim ≢ d → list_any (shows p) (own_stratum (assigned m a r) d) ≡ false
      no-stratum d ne = none-of_dim p d (own_stratum (assigned m a r) d) ne (own-of_dim m (assigned m a r) d)

      of-edges : p.dim ≡ 1 → find (shows p) (own_stratum (assigned m a r) 1) ≡ Some (sight r i)
      of-edges d = sym (find-append_none (shows p) ((tops r ++ corners r) ++ faces r) (edges r) before) ∙ found
        where
          no-faces : (b : Bool) → list_any (shows p) (cond b (own_stratum (assigned m a r) 2) []) ≡ false
          no-faces true = no-stratum 2 (λ e. absurd (omega (arith, d, e)))
          no-faces false = refl

          before : list_any (shows p) ((tops r ++ corners r) ++ faces r) ≡ false
          before = neither (tops r ++ corners r) (faces r) (neither (tops r) (corners r) (no-stratum m.dim (λ e. dim-not 1 (omega arith) (sym e ∙ d))) (no-corners (λ e. absurd (omega (arith, d, e))))) (no-faces (m.dim == 3))
            where
              neither : (xs ys : List Sight) → list_any (shows p) xs ≡ false → list_any (shows p) ys ≡ false → list_any (shows p) (xs ++ ys) ≡ false
              neither xs ys f g = list_any-append (shows p) xs ys ∙ (λ i. f i || g i)

      of-faces : p.dim ≡ 2 → m.dim ≡ 3 → find (shows p) (own_stratum (assigned m a r) 2) ≡ Some (sight r i)
      of-faces d solid =
          let here : faces r ≡ own_stratum (assigned m a r) 2 = cond-true (m.dim == 3) (own_stratum (assigned m a r) 2) [] (eq-eqb m.dim 3 solid) in
          ap (find (shows p)) (sym here)
          ∙ (sym (find-append_none (shows p) (tops r ++ corners r) (faces r) (list_any-append (shows p) (tops r) (corners r) ∙ (λ i. no-stratum m.dim (λ e. absurd (omega (arith, d, e, solid))) i || no-corners (λ e. absurd (omega (arith, d, e))) i)))
          ∙ (sym (find-first_part (shows p) ((tops r ++ corners r) ++ faces r) (edges r) (no-stratum 1 (λ e. absurd (omega (arith, d, e)))))
          ∙ found))

      in-stratum : (d : ℕ) → p.dim ≡ d → find (shows p) (own_stratum (assigned m a r) d) ≡ Some (sight r i) → own_sight m a r p ≡ Some (sight r i)
      in-stratum d dim e =
          sym (find-filter (shows p) (λ s. dim_of s.poly == d) (λ s h. eq-eqb (dim_of s.poly) d (sym (shown-dim p s h) ∙ dim)) (sights (assigned m a r)))
          ∙ (sym (find-firsts p (filter (λ s. dim_of s.poly == d) (sights (assigned m a r)))) ∙ e)

  -- cells and vertices stand as the whole mesh sees them first
  pub low-first : (r i : ℕ) → i < face-from r → first_sight m (pt r i) ≡ Some (sight r i)
  unfolding strata stratum chart_stratum
  low-first r i low = at-low First r i
      (subst (AllByRecursion First) (sym (top-stratum m sound mesh.differ a r)) tops-first)
      (all_filter First (λ s. in_some (point_of s) (assigned m a r)) (vertex_sights m) (all_append_second First (stratum m m.dim) (vertex_sights m) (all_append_first First (stratum m m.dim ++ vertex_sights m) (cond (m.dim == 3) (stratum m 2) []) (all_append_first First (stratum m m.dim ++ vertex_sights m ++ cond (m.dim == 3) (stratum m 2) []) (stratum m 1) (strata-first m)))))
      low
    where
      First : Sight → Type 0
      First s = first_sight m (point_of s) ≡ Some s

      tops-first : AllByRecursion First (chart_stratum m (assigned m a r) m.dim)
      tops-first = all_filter First (λ s. in_some (point_of s) (assigned m a r)) (stratum m m.dim) (all_append_first First (stratum m m.dim) (stratum m 0) (all_append_first First (stratum m m.dim ++ stratum m 0) (cond (m.dim == 3) (stratum m 2) []) (all_append_first First (stratum m m.dim ++ stratum m 0 ++ cond (m.dim == 3) (stratum m 2) []) (stratum m 1) (strata-first m))))
