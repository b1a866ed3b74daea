-- The first trace is the redistribution from an assignment to itself.
use Rattle.std.proofs.Common.{◌≡◌, ℕ, suc, ◌+◌, ◌<◌, Bool, true, false, cond, not, ◌==◌, List, [], ◌∷◌, ◌++◌, map, length, get_or, take, Some, refl, sym, ap, ◌∙◌, subst, arith}
use Rattle.std.specs.Prelude.{filter}
use Rattle.std.specs.List.{list_any, AllByRecursion, enumerate_from, slice_get}
use Rattle.std.proofs.lemmas.Option.{slice_get_within, get_or_from_slice_get}
use Rattle.std.proofs.lemmas.Bool.{and_parts, and_from, not-true, eqb-true, eq-eqb, ne_eqb}
use Rattle.std.proofs.lemmas.List.{length-map, take_more, map-append, map_more, append-nil, length-take-le}
use Rattle.std.proofs.lemmas.List.Elements.{filter-append}
use Rattle.std.proofs.lemmas.List.FromFn.{length-enumerate_from, get_or-enumerate_from}
use Rattle.plain_lists.specs.Lists.{below}
use Rattle.plain_lists.proofs.Each.{all_both, all_weaker, all_filter}
use Rattle.plain_lists.proofs.Filters.{map_same, filter_passing}
use Rattle.plain_lists.proofs.Finding.{each_fails, none_passes}
use Rattle.plain_lists.proofs.Below.{length-below, get_or-map-below, map-below-length, below-all}
use Rattle.mesh_defs.specs.Mesh.{Mesh}
use Rattle.mesh_defs.specs.Points.{Sight, point_of, shows, vertex_sight}
use Rattle.mesh_defs.specs.Diagram.{chart, place_in, strata}
use Rattle.mesh_defs.specs.Sights.{points_differ}
use Rattle.mesh_defs.specs.RightMesh.{IsFlatOrSolid}
use Rattle.mesh_laws.proofs.Firsts.{shows-own}
use Rattle.rank_laws.proofs.Strata.{strata-differ}
use Rattle.rank_laws.proofs.ChartsClosed.{held-chart}
use Rattle.sf_defs.specs.declared.Leaf.{Leaf}
use Rattle.sf_defs.specs.Forest.{leaf}
use Rattle.sf_graph.specs.Parts.{forest_of}
use Rattle.rank_defs.specs.Ranks.{owner, held_cells, held}
use Rattle.rank_defs.specs.Spread.{charts, place_at_owner, leaves_at_owners, owned_places, point_forest, migration_forest, LocalMesh, PlainDist, local_mesh, plain_dist, IsDist}
use Rattle.dist_number.specs.dist_trace.Own.{own_leaves, own_list}
use Rattle.rank_chart_laws.proofs.field_laws.Places.{place-is}

-- ---- lists

-- what holds at each place holds of all
all-by_place : {X : Type 0} (P : X → Type 0) (xs : List X) (d : X) → ((k : ℕ) → k < length xs → P (get_or xs k d)) → AllByRecursion P xs
all-by_place P [] d h = tt
all-by_place P (x ∷ xs) d h = (h 0 (omega arith), all-by_place P xs d (λ k low. h (suc k) (omega arith)))

-- what is chosen of sights of different points
differ-filter : (p : Sight → Bool) (ss : List Sight) → points_differ ss ≡ true → points_differ (filter p ss) ≡ true
differ-filter p [] h = refl
differ-filter p (s ∷ ss) h = go (p s) (differ-filter p ss both.1)
  where
    both : (not (list_any (shows (point_of s)) ss) ≡ true) × (points_differ ss ≡ true)
    both = and_parts (not (list_any (shows (point_of s)) ss)) (points_differ ss) h

    go : (b : Bool) → points_differ (filter p ss) ≡ true → points_differ (cond b (s ∷ filter p ss) (filter p ss)) ≡ true
    go true r = and_from _ _ (ap not (none_passes (shows (point_of s)) (filter p ss) (all_filter (λ t. shows (point_of s) t ≡ false) p ss (each_fails (shows (point_of s)) ss (not-true _ both.0))))) r
    go false r = r

-- numbered images of the numbers below n
numbered : {X Y : Type 0} (d : X) (h : ℕ × X → Y) (g : ℕ → X) (n : ℕ) → map h (enumerate_from 0 (map g (below n))) ≡ map (λ r. h (r, g r)) (below n)
numbered d h g n =
    sym (map-below-length (λ r. h (r, g r)) h (enumerate_from 0 (map g (below n))) (0, d)
    (λ k low.
    let within : k < n = omega (arith, low, length-enumerate_from 0 (map g (below n)), length-map (below n) g, length-below n) in
    let there = get_or-enumerate_from 0 (map g (below n)) k (0, d) (omega (arith, within, length-map (below n) g, length-below n)) in
    ap h ((let zero_more : k ≡ 0 + k = omega arith in λ i. (zero_more i, sym (get_or-map-below g n k d within) i)) ∙ sym there)))
    ∙ ap (λ k. map (λ r. h (r, g r)) (below k)) (length-enumerate_from 0 (map g (below n)) ∙ length-map (below n) g ∙ length-below n)

-- chosen images, with their places
chosen-images : {X : Type 0} {Y : Type 0} (f : X → ℕ) (to : ℕ → Y) (r k : ℕ) (xs : List X) → map (λ (p : ℕ × ℕ). to p.0) (filter (λ (p : ℕ × ℕ). p.1 == r) (enumerate_from k (map f xs))) ≡ map (λ (s : ℕ × X). to s.0) (filter (λ (s : ℕ × X). f s.1 == r) (enumerate_from k xs))
chosen-images f to r k [] = refl
chosen-images {X = X} {Y = Y} f to r k (x ∷ xs) = go (f x == r) (chosen-images f to r (k + 1) xs)
  where
    go : (b : Bool) → map (λ (p : ℕ × ℕ). to p.0) (filter (λ (p : ℕ × ℕ). p.1 == r) (enumerate_from (k + 1) (map f xs))) ≡ map (λ (s : ℕ × X). to s.0) (filter (λ (s : ℕ × X). f s.1 == r) (enumerate_from (k + 1) xs))
        → map (λ (p : ℕ × ℕ). to p.0) (cond b ((k, f x) ∷ filter (λ (p : ℕ × ℕ). p.1 == r) (enumerate_from (k + 1) (map f xs))) (filter (λ (p : ℕ × ℕ). p.1 == r) (enumerate_from (k + 1) (map f xs))))
        ≡ map (λ (s : ℕ × X). to s.0) (cond b ((k, x) ∷ filter (λ (s : ℕ × X). f s.1 == r) (enumerate_from (k + 1) xs)) (filter (λ (s : ℕ × X). f s.1 == r) (enumerate_from (k + 1) xs)))
    go true e = ap (λ l. to k ∷ l) e
    go false e = e

-- an element with its place
pub record IsAt (ss : List Sight) (s : ℕ × Sight) : Type 0 where
  pub low : s.0 < length ss
  pub there : get_or ss s.0 (vertex_sight 0) ≡ s.1

enumerated-at : (ss : List Sight) → AllByRecursion (IsAt ss) (enumerate_from 0 ss)
enumerated-at ss = all-by_place (IsAt ss) (enumerate_from 0 ss) (0, vertex_sight 0) (λ k low.
    let within : k < length ss = omega (arith, low, length-enumerate_from 0 ss) in
    let place : k ≡ 0 + k = omega arith in
    let there = get_or-enumerate_from 0 ss k (0, vertex_sight 0) within in
    subst (IsAt ss) (sym there) (record { low = omega arith; there = ap (λ j. get_or ss j (vertex_sight 0)) (let back : 0 + k ≡ k = omega arith in back) }))

-- ---- one rank

module _ (m : Mesh) (dim : IsFlatOrSolid m) (a : List ℕ) (n r : ℕ) (low : r < n) where
  abbrev points : List Sight
  points = held m a r 0

  points-differ : points_differ points ≡ true
  unfolding held chart
  points-differ = differ-filter _ (strata m) (strata-differ m dim)

  here : get_or (charts m a n 0) r [] ≡ points
  unfolding charts
  here = get_or-map-below (λ q. held m a q 0) n r [] low

  own-at : (s : ℕ × Sight) → IsAt points s → (owner m a (point_of s.1) == r) ≡ true → leaf s.0 (r, s.0) ≡ leaf s.0 (place_at_owner m a (charts m a n 0) (point_of s.1))
  own-at s at own =
      let mine : owner m a (point_of s.1) ≡ r = eqb-true _ r own in
      let place : place_in points (point_of s.1) ≡ s.0 = place-is (point_of s.1) points (vertex_sight 0) points-differ s.0 at.low (ap (shows (point_of s.1)) at.there ∙ shows-own s.1) in
      let root : place_in (get_or (charts m a n 0) (owner m a (point_of s.1)) []) (point_of s.1) ≡ s.0 = ap (λ l. place_in l (point_of s.1)) (ap (λ q. get_or (charts m a n 0) q []) mine ∙ here) ∙ place in
      λ i. leaf s.0 (sym mine i, sym root i)

  own-are : own_leaves r (map (λ (s : Sight). owner m a (point_of s)) points) ≡ leaves_at_owners m a (charts m a n 0) (owned_places m a r points)
  own-are =
      let chosen = filter (λ (s : ℕ × Sight). owner m a (point_of s.1) == r) (enumerate_from 0 points) in
      chosen-images (λ (s : Sight). owner m a (point_of s)) (λ p. leaf p (r, p)) r 0 points
      ∙ map_same (λ (s : ℕ × Sight). leaf s.0 (r, s.0)) (λ (s : ℕ × Sight). leaf s.0 (place_at_owner m a (charts m a n 0) (point_of s.1))) chosen
      (all_both (IsAt points) (λ (s : ℕ × Sight). (owner m a (point_of s.1) == r) ≡ true) _ own-at chosen (all_filter (IsAt points) (λ (s : ℕ × Sight). owner m a (point_of s.1) == r) (enumerate_from 0 points) (enumerated-at points)) (filter_passing (λ (s : ℕ × Sight). owner m a (point_of s.1) == r) (enumerate_from 0 points)))

-- ---- all ranks

no_local : LocalMesh
no_local = record { diagram = record { dim = 0; cells = 0; vertices = 0; faces = 0; edges = 0; points = [] }; keys = []; owners = []; labels = []; fields = []; at = [] }

pub trace-is : (d : PlainDist) (m : Mesh) (dofs : List (List ℕ)) (a : List ℕ) (n : ℕ) → IsDist d m dofs a n 0 → forest_of d.points.roots (map own_list (enumerate_from 0 d.locals)) ≡ migration_forest m a a n
unfolding plain_dist point_forest migration_forest charts local_mesh
trace-is d m dofs a n h =
    let dim = h.mesh.sound.dim in
    let own : map own_list (enumerate_from 0 (map (λ r. local_mesh m dofs a (held_cells m a r 0)) (below n))) ≡ map (λ (r : ℕ × List Sight). leaves_at_owners m a (charts m a n 0) (owned_places m a r.0 r.1)) (enumerate_from 0 (charts m a n 0)) =
    numbered no_local own_list (λ r. local_mesh m dofs a (held_cells m a r 0)) n
    ∙ map_same (λ r. own_list (r, local_mesh m dofs a (held_cells m a r 0))) (λ r. leaves_at_owners m a (charts m a n 0) (owned_places m a r (held m a r 0))) (below n)
    (all_weaker (λ r. r < n) _ (λ r low. ap (λ ss. own_leaves r (map (λ (s : Sight). owner m a (point_of s)) ss)) (held-chart m a r 0) ∙ own-are m dim a n r low) (below n) (below-all n))
    ∙ sym (numbered [] (λ (r : ℕ × List Sight). leaves_at_owners m a (charts m a n 0) (owned_places m a r.0 r.1)) (λ r. held m a r 0) n) in
    ap (λ (x : PlainDist). forest_of x.points.roots (map own_list (enumerate_from 0 x.locals))) h.value ∙ (λ i. record { roots = map length (charts m a n 0); leaves = own i })

-- ---- one more

enumerated-push : {X : Type 0} (n : ℕ) (xs : List X) (x : X) → enumerate_from n (xs ++ x ∷ []) ≡ enumerate_from n xs ++ (n + length xs, x) ∷ []
enumerated-push n [] x = let same : n ≡ n + 0 = omega arith in λ i. (same i, x) ∷ []
enumerated-push n (y ∷ ys) x = ap (λ l. (n, y) ∷ l) (enumerated-push (n + 1) ys x) ∙ (let same : n + 1 + length ys ≡ n + length (y ∷ ys) = omega arith in λ i. (n, y) ∷ (enumerate_from (n + 1) ys ++ (same i, x) ∷ []))

-- one point more
pub own-more : (r : ℕ) (owners : List ℕ) (p : ℕ) → p < length owners → own_leaves r (take (p + 1) owners) ≡ own_leaves r (take p owners) ++ cond (get_or owners p 0 == r) (leaf p (r, p) ∷ []) []
own-more r owners p low =
    let x = get_or owners p 0 in
    let long : 0 + length (take p owners) ≡ p = omega (arith, length-take-le p owners (omega arith)) in
    ap (own_leaves r) (take_more owners p 0 low)
    ∙ ap (λ l. map (λ (q : ℕ × ℕ). leaf q.0 (r, q.0)) (filter (λ (q : ℕ × ℕ). q.1 == r) l)) (enumerated-push 0 (take p owners) x ∙ (λ i. enumerate_from 0 (take p owners) ++ (long i, x) ∷ []))
    ∙ ap (map (λ (q : ℕ × ℕ). leaf q.0 (r, q.0))) (filter-append (λ (q : ℕ × ℕ). q.1 == r) (enumerate_from 0 (take p owners)) ((p, x) ∷ []))
    ∙ map-append (λ (q : ℕ × ℕ). leaf q.0 (r, q.0)) (filter (λ (q : ℕ × ℕ). q.1 == r) (enumerate_from 0 (take p owners))) (cond (x == r) ((p, x) ∷ []) [])
    ∙ ap (λ l. own_leaves r (take p owners) ++ l) (last (x == r))
  where
    last : (b : Bool) → map (λ (q : ℕ × ℕ). leaf q.0 (r, q.0)) (cond b ((p, get_or owners p 0) ∷ []) []) ≡ cond b (leaf p (r, p) ∷ []) []
    last true = refl
    last false = refl

pub own-yes : (r : ℕ) (owners : List ℕ) (p : ℕ) (now new : List Leaf) → p < length owners → get_or owners p 0 ≡ r → now ≡ own_leaves r (take p owners) → new ≡ now ++ leaf p (r, p) ∷ [] → new ≡ own_leaves r (take (p + 1) owners)
own-yes r owners p now new low e before pushed = pushed ∙ ap (λ l. l ++ leaf p (r, p) ∷ []) before ∙ sym (own-more r owners p low ∙ ap (λ b. own_leaves r (take p owners) ++ cond b (leaf p (r, p) ∷ []) []) (eq-eqb _ r e))

pub own-no : (r : ℕ) (owners : List ℕ) (p : ℕ) (now : List Leaf) → p < length owners → (get_or owners p 0 ≡ r → ⊥) → now ≡ own_leaves r (take p owners) → now ≡ own_leaves r (take (p + 1) owners)
own-no r owners p now low ne before = before ∙ sym (own-more r owners p low ∙ ap (λ b. own_leaves r (take p owners) ++ cond b (leaf p (r, p) ∷ []) []) (ne_eqb _ r ne) ∙ append-nil (own_leaves r (take p owners)))

-- one rank more
pub list-more : (locals : List LocalMesh) (k : ℕ) (l : LocalMesh) → slice_get locals k ≡ Some l → map own_list (take (k + 1) (enumerate_from 0 locals)) ≡ map own_list (take k (enumerate_from 0 locals)) ++ own_leaves k l.owners ∷ []
list-more locals k l e =
    let within = slice_get_within locals k l e in
    let low : k < length (enumerate_from 0 locals) = omega (arith, within, length-enumerate_from 0 locals) in
    let place : 0 + k ≡ k = omega arith in
    let there = get_or-enumerate_from 0 locals k (0, l) within ∙ (let at = get_or_from_slice_get locals k l l e in λ i. (place i, at i)) in
    map_more own_list (enumerate_from 0 locals) k (0, l) low ∙ ap (λ r. map own_list (take k (enumerate_from 0 locals)) ++ own_list r ∷ []) there
