-- The forests of a distribution are forests: each leaf has its own place, and its root is there.
use Rattle.std.proofs.Common.{◌≡◌, ℕ, zero, suc, ◌+◌, ◌<◌, ◌≤◌, Bool, true, false, cond, not, ◌&&◌, ◌==◌, List, [], ◌∷◌, map, length, get_or, Option, Some, None, refl, sym, ap, ◌∙◌, subst, arith, zero-add}
use Rattle.std.specs.List.{list_any, AllByRecursion, filter, enumerate_from}
use Rattle.std.proofs.lemmas.Bool.{and_from, ne_eqb, lt-ltb, cond-true, cond-false}
use Rattle.plain_lists.specs.Lists.{below}
use Rattle.plain_lists.proofs.Filters.{map_map_same, filter_passing, image-at}
use Rattle.plain_lists.proofs.Finding.{any_weaker, none_passes, position-within, any_filter}
use Rattle.plain_lists.proofs.Each.{all_both, all_weaker, all_from, all_map, all_enumerated, all_filter}
use Rattle.plain_lists.proofs.Below.{get_or-map-below}
use Rattle.mesh_defs.specs.Mesh.{Mesh, Cell, placed_cells}
use Rattle.mesh_defs.specs.Points.{Point, Sight, point_of, shows, contains}
use Rattle.mesh_defs.specs.Diagram.{strata, chart, place_in}
use Rattle.mesh_laws.proofs.Firsts.{shows-true, shown_itself}
use Rattle.sf_defs.specs.declared.Leaf.{Leaf}
use Rattle.sf_defs.specs.Forest.{Forest, leaf, root_at, leaves_on, or_else, first_some, has_root, ForestFlaw, flaw_on, flaw, IsForest}
use Rattle.rank_defs.specs.Ranks.{IsAssignment, held_cells, held, owner, owned}
use Rattle.rank_defs.specs.Spread.{charts, place_at_owner, leaves_at_owners, owned_places, point_forest, migration_forest, trace}
use Rattle.mesh_defs.specs.RightMesh.{in_some}
use Rattle.rank_laws.proofs.Owning.{held-are_cells, layers-have, owner-assigned, owner-below}

-- ---- leaves without a flaw

-- the local indices rise from n on
abbrev pub Rise : ℕ → List Leaf → Type 0
Rise n [] = Unit {0}
Rise n (l ∷ ls) = (n ≤ l.local) × Rise (l.local + 1) ls

-- rising leaves whose roots are there have no flaw after lower ones
rising-sound : (roots : List ℕ) (rank : ℕ) (earlier : List Leaf) (n i : ℕ) (ls : List Leaf) → AllByRecursion (λ (e : Leaf). e.local < n) earlier → Rise n ls → AllByRecursion (λ l. has_root roots l ≡ true) ls → flaw_on roots rank earlier i ls ≡ None
rising-sound roots rank earlier n i [] e r h = refl
rising-sound roots rank earlier n i (l ∷ ls) e r h =
    cond-true (has_root roots l) (cond (list_any (λ (x : Leaf). x.local == l.local) earlier) (Some (ForestFlaw.leaf_twice rank l.local)) (flaw_on roots rank (l ∷ earlier) (i + 1) ls)) (Some (ForestFlaw.root_range rank i)) h.0
    ∙ cond-false (list_any (λ (x : Leaf). x.local == l.local) earlier) (Some (ForestFlaw.leaf_twice rank l.local)) (flaw_on roots rank (l ∷ earlier) (i + 1) ls)
    (none_passes (λ (x : Leaf). x.local == l.local) earlier (all_weaker (λ (x : Leaf). x.local < n) (λ (x : Leaf). (x.local == l.local) ≡ false) (λ x low. ne_eqb x.local l.local (λ same. absurd (omega (arith, r.0)))) earlier e))
    ∙ rising-sound roots rank (l ∷ earlier) (l.local + 1) (i + 1) ls (omega arith, all_weaker (λ (x : Leaf). x.local < n) (λ (x : Leaf). x.local < l.local + 1) (λ x low. omega (arith, r.0)) earlier e) r.1 h.1

-- where nothing is given for any of some lists, nothing is given first
pub nothing-first : {X Y : Type 0} (h : ℕ × List X → Option Y) (n : ℕ) (xss : List (List X)) → AllByRecursion (λ xs. (k : ℕ) → h (k, xs) ≡ None) xss → first_some h (enumerate_from n xss) ≡ None
nothing-first h n [] f = refl
nothing-first h n (xs ∷ xss) f = ap (λ o. or_else o (first_some h (enumerate_from (n + 1) xss))) (f.0 n) ∙ nothing-first h (n + 1) xss f.1

-- a forest on each of whose ranks leaves rise and have roots
pub forest-from : (f : Forest) → AllByRecursion (λ ls. Rise 0 ls × AllByRecursion (λ l. has_root f.roots l ≡ true) ls) f.leaves → IsForest f
unfolding flaw
forest-from f h = nothing-first (λ r. flaw_on f.roots r.0 [] 0 r.1) 0 f.leaves
    (all_weaker (λ ls. Rise 0 ls × AllByRecursion (λ l. has_root f.roots l ≡ true) ls) (λ ls. (k : ℕ) → flaw_on f.roots k [] 0 ls ≡ None) (λ ls g k. rising-sound f.roots k [] 0 0 ls tt g.0 g.1) f.leaves h)

-- ---- leaves at owners

-- later bounds are lower bounds
pub rise-from : (n k : ℕ) (ls : List Leaf) → n ≤ k → Rise k ls → Rise n ls
rise-from n k [] h r = tt
rise-from n k (l ∷ ls) h r = (omega (arith, r.0), r.1)

-- places that are chosen from a chart rise
places-rise : (g : ℕ × Sight → Leaf) → ((s : ℕ × Sight) → (g s).local ≡ s.0) → (test : ℕ × Sight → Bool) (n : ℕ) (ss : List Sight) → Rise n (map g (filter test (enumerate_from n ss)))
places-rise g e test n [] = tt
places-rise g e test n (s ∷ ss) = go (test (n, s)) (places-rise g e test (n + 1) ss)
  where
    rest : List Leaf
    rest = map g (filter test (enumerate_from (n + 1) ss))

    go : (b : Bool) → Rise (n + 1) rest → Rise n (map g (cond b ((n, s) ∷ filter test (enumerate_from (n + 1) ss)) (filter test (enumerate_from (n + 1) ss))))
    go true r = (omega (arith, e (n, s)), rise-from ((g (n, s)).local + 1) (n + 1) rest (omega (arith, e (n, s))) r)
    go false r = rise-from n (n + 1) rest (omega arith) r

-- a point of the mesh that some cell contains
abbrev pub IsPoint : Mesh → Sight → Type 0
IsPoint m s = (list_any (shows (point_of s)) (strata m) ≡ true) × (in_some (point_of s) (placed_cells m) ≡ true)

-- the points of charts are such points
pub chart-points : (m : Mesh) (a : List ℕ) (r k : ℕ) → AllByRecursion (IsPoint m) (held m a r k)
unfolding held chart
chart-points m a r k = all_both (λ s. list_any (shows (point_of s)) (strata m) ≡ true) (λ s. in_some (point_of s) (held_cells m a r k) ≡ true) (IsPoint m) (λ s e f. (e, held-are_cells m a r k (λ (d : ℕ × Cell). contains d.1 (point_of s)) f))
    (filter (λ s. in_some (point_of s) (held_cells m a r k)) (strata m))
    (all_filter (λ s. list_any (shows (point_of s)) (strata m) ≡ true) (λ s. in_some (point_of s) (held_cells m a r k)) (strata m) (shown_itself (strata m)))
    (filter_passing (λ s. in_some (point_of s) (held_cells m a r k)) (strata m))

-- all charts of ranks have such points
charts-points : (m : Mesh) (a : List ℕ) (n k : ℕ) → AllByRecursion (AllByRecursion (IsPoint m)) (charts m a n k)
unfolding charts
charts-points m a n k = all_map (AllByRecursion (IsPoint m)) (λ r. held m a r k) (below n) (all_from _ (λ r. chart-points m a r k) (below n))

-- the owner's chart shows a point of the mesh that some cell contains
pub owner-shows : (m : Mesh) (a : List ℕ) (k : ℕ) (p : Point) → list_any (shows p) (strata m) ≡ true → in_some p (placed_cells m) ≡ true → list_any (shows p) (held m a (owner m a p) k) ≡ true
unfolding held chart
owner-shows m a k p seen h = any_filter (shows p) has (strata m)
    ∙ any_weaker (shows p) (λ s. has s && shows p s) (λ s f. and_from (has s) (shows p s) (subst (λ q. in_some q (held_cells m a (owner m a p) k) ≡ true) (shows-true p s f) (layers-have m a (owner m a p) k (λ (c : ℕ × Cell). contains c.1 p) (owner-assigned m a p h))) f) (strata m) seen
  where
    has : Sight → Bool
    has s = in_some (point_of s) (held_cells m a (owner m a p) k)

module _ (m : Mesh) (n : ℕ) (a : List ℕ) (parts : IsAssignment m n a) (k : ℕ) where
  -- the root of a point is there
  root-there : (s : ℕ × Sight) → IsPoint m s.1 → has_root (map length (charts m a n k)) (leaf s.0 (place_at_owner m a (charts m a n k) (point_of s.1))) ≡ true
  unfolding charts
  root-there s (seen, h) = lt-ltb (place_in (get_or (charts m a n k) rank []) p) (get_or (map length (charts m a n k)) rank 0)
      (subst (λ l. place_in l p < get_or (map length (charts m a n k)) rank 0) (sym here)
      (subst (λ j. place_in (held m a rank k) p < j) (sym (lengths (charts m a n k) rank ∙ ap length here)) (position-within (shows p) (held m a rank k) (owner-shows m a k p seen h))))
    where
      p : Point
      p = point_of s.1

      rank : ℕ
      rank = owner m a p

      here : get_or (charts m a n k) rank [] ≡ held m a rank k
      here = get_or-map-below (λ r. held m a r k) n rank [] (owner-below m n a parts p h)

      lengths : (xss : List (List Sight)) (j : ℕ) → get_or (map length xss) j 0 ≡ length (get_or xss j [])
      lengths [] j = refl
      lengths (xs ∷ xss) zero = refl
      lengths (xs ∷ xss) (suc j) = lengths xss j

  -- chosen points of charts, as leaves at their owners, rise and have roots
  leaves-sound : (test : ℕ → ℕ × Sight → Bool) (cs : List (List Sight)) → AllByRecursion (AllByRecursion (IsPoint m)) cs
      → AllByRecursion (λ ls. Rise 0 ls × AllByRecursion (λ l. has_root (map length (charts m a n k)) l ≡ true) ls) (map (λ (r : ℕ × List Sight). leaves_at_owners m a (charts m a n k) (filter (test r.0) (enumerate_from 0 r.1))) (enumerate_from 0 cs))
  leaves-sound test cs h = all_map Sound leaves_of (enumerate_from 0 cs) (all_weaker (λ (r : ℕ × List Sight). AllByRecursion (IsPoint m) r.1) (λ r. Sound (leaves_of r)) rank (enumerate_from 0 cs) (all_enumerated (AllByRecursion (IsPoint m)) 0 cs h))
    where
      Sound : List Leaf → Type 0
      Sound ls = Rise 0 ls × AllByRecursion (λ l. has_root (map length (charts m a n k)) l ≡ true) ls

      to : ℕ × Sight → Leaf
      to s = leaf s.0 (place_at_owner m a (charts m a n k) (point_of s.1))

      leaves_of : ℕ × List Sight → List Leaf
      leaves_of r = leaves_at_owners m a (charts m a n k) (filter (test r.0) (enumerate_from 0 r.1))

      rank : (r : ℕ × List Sight) → AllByRecursion (IsPoint m) r.1 → Sound (leaves_of r)
      rank r g = (
        places-rise to (λ s. refl) (test r.0) 0 r.1,
        all_map (λ l. has_root (map length (charts m a n k)) l ≡ true) to (filter (test r.0) (enumerate_from 0 r.1)) (all_weaker (λ (s : ℕ × Sight). IsPoint m s.1) (λ s. has_root (map length (charts m a n k)) (to s) ≡ true) root-there (filter (test r.0) (enumerate_from 0 r.1)) (all_filter (λ (s : ℕ × Sight). IsPoint m s.1) (test r.0) (enumerate_from 0 r.1) (all_enumerated (IsPoint m) 0 r.1 g))),
      )

  -- the forest of shared points is a forest
  pub point-forest-sound : IsForest (point_forest m a (charts m a n k))
  unfolding point_forest
  point-forest-sound = forest-from (point_forest m a (charts m a n k)) (leaves-sound (λ r s. not (owner m a (point_of s.1) == r)) (charts m a n k) (charts-points m a n k))

-- the forest of a redistribution is a forest
pub migration-forest-sound : (m : Mesh) (n : ℕ) (a b : List ℕ) → IsAssignment m n a → IsForest (migration_forest m a b n)
unfolding migration_forest
migration-forest-sound m n a b parts = forest-from (migration_forest m a b n) (leaves-sound m n a parts 0 (λ r s. owner m b (point_of s.1) == r) (charts m b n 0) (charts-points m b n 0))

-- ---- traces

-- what is chosen by the things and not by the places
chosen-things : {X : Type 0} (test : X → Bool) (n : ℕ) (xs : List X) → map (λ (x : ℕ × X). x.1) (filter (λ (x : ℕ × X). test x.1) (enumerate_from n xs)) ≡ filter test xs
chosen-things test n [] = refl
chosen-things test n (x ∷ xs) = go (test x) (chosen-things test (n + 1) xs)
  where
    go : (b : Bool) → map (λ (y : ℕ × _). y.1) (filter (λ (y : ℕ × _). test y.1) (enumerate_from (n + 1) xs)) ≡ filter test xs
        → map (λ (y : ℕ × _). y.1) (cond b ((n, x) ∷ filter (λ (y : ℕ × _). test y.1) (enumerate_from (n + 1) xs)) (filter (λ (y : ℕ × _). test y.1) (enumerate_from (n + 1) xs))) ≡ cond b (x ∷ filter test xs) (filter test xs)
    go true r = ap (λ l. x ∷ l) r
    go false r = r

-- the roots of a rank's leaves, in order, are the traces of its owned points
pub roots-are-traces : (m : Mesh) (n : ℕ) (a b : List ℕ) (r : ℕ) → r < n → map root_at (leaves_on (migration_forest m a b n) r) ≡ map (λ s. trace m a n (point_of s)) (owned m b r)
unfolding migration_forest trace owned charts
roots-are-traces m n a b r h =
    ap (map root_at) (image-at [] (λ (x : ℕ × List Sight). leaves_at_owners m a old (owned_places m b x.0 x.1)) (λ j. refl) 0 (map (λ q. held m b q 0) (below n)) r
    ∙ ap (λ (x : ℕ × List Sight). leaves_at_owners m a old (owned_places m b x.0 x.1)) (λ i. (zero-add r i, get_or-map-below (λ q. held m b q 0) n r [] h i)))
    ∙ map_map_same root_at (λ (s : ℕ × Sight). leaf s.0 (place_at_owner m a old (point_of s.1))) (λ (s : ℕ × Sight). place_at_owner m a old (point_of s.1)) places (all_from _ (λ s. refl) places)
    ∙ sym (map_map_same (λ s. place_at_owner m a old (point_of s)) (λ (s : ℕ × Sight). s.1) (λ (s : ℕ × Sight). place_at_owner m a old (point_of s.1)) places (all_from _ (λ s. refl) places))
    ∙ ap (map (λ s. place_at_owner m a old (point_of s))) (chosen-things (λ s. owner m b (point_of s) == r) 0 (held m b r 0))
  where
    old : List (List Sight)
    old = map (λ q. held m a q 0) (below n)

    places : List (ℕ × Sight)
    places = owned_places m b r (held m b r 0)
