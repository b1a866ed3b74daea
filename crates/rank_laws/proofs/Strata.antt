-- The points of a mesh stand in its chart once each, as they are first seen.
use Rattle.std.proofs.Common.{◌≡◌, ◌≢◌, ℕ, zero, suc, ◌<◌, Bool, true, false, cond, not, ◌||◌, ◌==◌, List, [], ◌∷◌, ◌++◌, map, length, Some, Contains, refl, sym, ap, ◌∙◌, inl, inr, arith}
use Rattle.std.specs.Prelude.{find, option_map}
use Rattle.std.specs.List.{list_any, AllByRecursion, filter}
use Rattle.std.proofs.lemmas.Bool.{eq-eqb, eqb-true, ne_eqb, and_left, and_parts, and_from, or_parts, cond-true, cond-false, not-true}
use Rattle.std.proofs.lemmas.List.Elements.{All-contains, All-from_recursion}
use Rattle.std.proofs.lemmas.List.{map-append}
use Rattle.std.proofs.lemmas.List.Folds.{list_any-append}
use Rattle.plain_lists.specs.Lists.{below, same_list, sorted}
use Rattle.plain_lists.proofs.Each.{all_both, all_weaker, all_from, all_append, all_map}
use Rattle.plain_lists.proofs.Finding.{each_fails, none_passes, find-append_found, find-append_none, found-any, find-filter}
use Rattle.plain_lists.proofs.Filters.{filter_passing}
use Rattle.plain_lists.proofs.Below.{below-all}
use Rattle.mesh_defs.specs.Tables.{dim_of}
use Rattle.mesh_defs.specs.Mesh.{Mesh, placed_cells}
use Rattle.mesh_defs.specs.Points.{Sight, point_of, shows, sights, vertex_sight, vertex_sights, first_sight, key, arrangement}
use Rattle.mesh_defs.specs.Diagram.{firsts_after, firsts, stratum, strata}
use Rattle.mesh_defs.specs.Sights.{points_differ}
use Rattle.mesh_laws.proofs.Firsts.{same_point-sym, shows-own, find-firsts, firsts-all}
use Rattle.mesh_laws.proofs.Containing.{shows-vertex}
use Rattle.mesh_defs.specs.RightMesh.{IsFlatOrSolid}

-- ---- points that differ

-- first sights differ, and show no earlier point
firsts-after_differ : (earlier ss : List Sight) → (points_differ (firsts_after earlier ss) ≡ true) × AllByRecursion (λ s. list_any (shows (point_of s)) earlier ≡ false) (firsts_after earlier ss)
firsts-after_differ earlier [] = (refl, tt)
firsts-after_differ earlier (x ∷ xs) = go (list_any (shows (point_of x)) earlier) refl (firsts-after_differ earlier xs) (firsts-after_differ (x ∷ earlier) xs)
  where
    Differ : List Sight → List Sight → Type 0
    Differ before ss = (points_differ ss ≡ true) × AllByRecursion (λ s. list_any (shows (point_of s)) before ≡ false) ss

    go : (b : Bool) → list_any (shows (point_of x)) earlier ≡ b → Differ earlier (firsts_after earlier xs) → Differ (x ∷ earlier) (firsts_after (x ∷ earlier) xs) → Differ earlier (cond b (firsts_after earlier xs) (x ∷ firsts_after (x ∷ earlier) xs))
    go true e r s = r
    go false e r s = (
      and_from (not (list_any (shows (point_of x)) rest)) (points_differ rest)
          (ap not (none_passes (shows (point_of x)) rest (all_weaker (λ t. list_any (shows (point_of t)) (x ∷ earlier) ≡ false) (λ t. shows (point_of x) t ≡ false) (λ t f. same_point-sym (point_of x) (point_of t) ∙ (or_parts (shows (point_of t) x) (list_any (shows (point_of t)) earlier) f).0) rest s.1))) s.0,
      (e, all_weaker (λ t. list_any (shows (point_of t)) (x ∷ earlier) ≡ false) (λ t. list_any (shows (point_of t)) earlier ≡ false) (λ t f. (or_parts (shows (point_of t) x) (list_any (shows (point_of t)) earlier) f).1) rest s.1),
    )
      where
        rest : List Sight
        rest = firsts_after (x ∷ earlier) xs

-- two lists end to end, where no sight of the first shows a point of the second
differ-append : (xs ys : List Sight) → points_differ xs ≡ true → points_differ ys ≡ true → AllByRecursion (λ s. list_any (shows (point_of s)) ys ≡ false) xs → points_differ (xs ++ ys) ≡ true
differ-append [] ys p q h = q
differ-append (x ∷ xs) ys p q h =
    let both = and_parts (not (list_any (shows (point_of x)) xs)) (points_differ xs) p in
    and_from (not (list_any (shows (point_of x)) (xs ++ ys))) (points_differ (xs ++ ys))
    (ap not (list_any-append (shows (point_of x)) xs ys ∙ neither (list_any (shows (point_of x)) xs) (list_any (shows (point_of x)) ys) (not-true _ both.0) h.0))
    (differ-append xs ys both.1 q h.1)
  where
    neither : (a b : Bool) → a ≡ false → b ≡ false → (a || b) ≡ false
    neither a b e f = ap (λ t. t || b) e ∙ f

-- the vertices differ
vertices-differ : (n : ℕ) → points_differ (map vertex_sight (below n)) ≡ true
vertices-differ zero = refl
vertices-differ (suc n) = ap points_differ (map-append vertex_sight (below n) (n ∷ [])) ∙ differ-append (map vertex_sight (below n)) (vertex_sight n ∷ []) (vertices-differ n) refl
    (all_map (λ s. list_any (shows (point_of s)) (vertex_sight n ∷ []) ≡ false) vertex_sight (below n)
    (all_weaker (λ v. v < n) (λ v. list_any (shows (point_of (vertex_sight v))) (vertex_sight n ∷ []) ≡ false) (λ v low. ap (λ b. b || false) (shows-vertex v n ∙ ne_eqb v n (λ e. absurd (omega arith)))) (below n) (below-all n)))

-- ---- strata

-- the points of a stratum have its dimension
of-dim : (m : Mesh) (dim : ℕ) → AllByRecursion (λ (s : Sight). dim_of s.poly ≡ dim) (stratum m dim)
unfolding stratum
of-dim m dim = go (dim == 0) refl
  where
    go : (b : Bool) → (dim == 0) ≡ b → AllByRecursion (λ (s : Sight). dim_of s.poly ≡ dim) (cond b (vertex_sights m) (firsts (filter (λ s. dim_of s.poly == dim) (sights (placed_cells m)))))
    go true e = all_map (λ (s : Sight). dim_of s.poly ≡ dim) vertex_sight (below (length m.at)) (all_from _ (λ v. sym (eqb-true dim 0 e)) (below (length m.at)))
    go false e = firsts-all (λ (s : Sight). dim_of s.poly ≡ dim) (filter (λ s. dim_of s.poly == dim) (sights (placed_cells m)))
        (all_weaker (λ (s : Sight). (dim_of s.poly == dim) ≡ true) (λ (s : Sight). dim_of s.poly ≡ dim) (λ s h. eqb-true (dim_of s.poly) dim h) (filter (λ s. dim_of s.poly == dim) (sights (placed_cells m))) (filter_passing (λ s. dim_of s.poly == dim) (sights (placed_cells m))))

-- the points of a stratum differ
stratum-differs : (m : Mesh) (dim : ℕ) → points_differ (stratum m dim) ≡ true
unfolding stratum
stratum-differs m dim = go (dim == 0)
  where
    go : (b : Bool) → points_differ (cond b (vertex_sights m) (firsts (filter (λ s. dim_of s.poly == dim) (sights (placed_cells m))))) ≡ true
    go true = vertices-differ (length m.at)
    go false = (firsts-after_differ [] (filter (λ s. dim_of s.poly == dim) (sights (placed_cells m)))).0

-- sights of different dimensions show different points
apart : (d e : ℕ) → d ≢ e → (xs ys : List Sight) → AllByRecursion (λ (s : Sight). dim_of s.poly ≡ d) xs → AllByRecursion (λ (s : Sight). dim_of s.poly ≡ e) ys → AllByRecursion (λ s. list_any (shows (point_of s)) ys ≡ false) xs
apart d e ne xs ys p q = all_weaker (λ (s : Sight). dim_of s.poly ≡ d) (λ s. list_any (shows (point_of s)) ys ≡ false)
    (λ s h. none_passes (shows (point_of s)) ys (all_weaker (λ (t : Sight). dim_of t.poly ≡ e) (λ t. shows (point_of s) t ≡ false) (λ t k. and_left (dim_of s.poly == dim_of t.poly) (same_list (point_of s).vertices (point_of t).vertices) (ne_eqb (dim_of s.poly) (dim_of t.poly) (λ same. ne (sym h ∙ same ∙ k)))) ys q)) xs p

module _ (m : Mesh) (not_vertices : m.dim ≢ 0) (not_edges : m.dim ≢ 1) where
  -- two strata have no point in common
  strata-apart : (d e : ℕ) → d ≢ e → AllByRecursion (λ s. list_any (shows (point_of s)) (stratum m e) ≡ false) (stratum m d)
  strata-apart d e ne = apart d e ne (stratum m d) (stratum m e) (of-dim m d) (of-dim m e)

  -- neither cells nor vertices stand in another stratum
  cells-apart : (e : ℕ) → m.dim ≢ e → 0 ≢ e → AllByRecursion (λ s. list_any (shows (point_of s)) (stratum m e) ≡ false) (stratum m m.dim ++ stratum m 0)
  cells-apart e p q = all_append (λ s. list_any (shows (point_of s)) (stratum m e) ≡ false) (stratum m m.dim) (stratum m 0) (strata-apart m.dim e p) (strata-apart 0 e q)

  -- with faces that differ and stand apart, all points differ
  all-differ : (faces : List Sight) → points_differ faces ≡ true → AllByRecursion (λ s. list_any (shows (point_of s)) faces ≡ false) (stratum m m.dim ++ stratum m 0) → AllByRecursion (λ s. list_any (shows (point_of s)) (stratum m 1) ≡ false) faces
      → points_differ (stratum m m.dim ++ stratum m 0 ++ faces ++ stratum m 1) ≡ true
  all-differ faces d before after =
      differ-append (stratum m m.dim ++ stratum m 0 ++ faces) (stratum m 1)
      (differ-append (stratum m m.dim ++ stratum m 0) faces (differ-append (stratum m m.dim) (stratum m 0) (stratum-differs m m.dim) (stratum-differs m 0) (strata-apart m.dim 0 not_vertices)) d before)
      (stratum-differs m 1)
      (all_append (λ s. list_any (shows (point_of s)) (stratum m 1) ≡ false) (stratum m m.dim ++ stratum m 0) faces (cells-apart 1 not_edges (λ e. absurd (omega arith))) after)

-- the points of a flat or a solid mesh stand in its chart once each
pub strata-differ : (m : Mesh) → IsFlatOrSolid m → points_differ (strata m) ≡ true
unfolding strata
strata-differ m (inl flat) = ap (λ b. points_differ (stratum m m.dim ++ stratum m 0 ++ cond b (stratum m 2) [] ++ stratum m 1)) (ne_eqb m.dim 3 (λ e. absurd (omega arith)))
    ∙ all-differ m (λ e. absurd (omega arith)) (λ e. absurd (omega arith)) [] refl (all_from (λ s. list_any (shows (point_of s)) [] ≡ false) (λ s. refl) (stratum m m.dim ++ stratum m 0)) tt
strata-differ m (inr solid) = ap (λ b. points_differ (stratum m m.dim ++ stratum m 0 ++ cond b (stratum m 2) [] ++ stratum m 1)) (eq-eqb m.dim 3 solid)
    ∙ all-differ m no_vertices no_edges (stratum m 2) (stratum-differs m 2) (cells-apart m no_vertices no_edges 2 (λ e. absurd (omega arith)) (λ e. absurd (omega arith))) (strata-apart m no_vertices no_edges 2 1 (λ e. absurd (omega arith)))
  where
    no_vertices : m.dim ≢ 0
    no_vertices e = absurd (omega arith)

    no_edges : m.dim ≢ 1
    no_edges e = absurd (omega arith)

-- ---- first sights

-- where points differ, each sight is the one that is found for its point
found-itself : (ss : List Sight) → points_differ ss ≡ true → AllByRecursion (λ s. find (shows (point_of s)) ss ≡ Some s) ss
found-itself [] d = tt
found-itself (x ∷ xs) d =
    let both = and_parts (not (list_any (shows (point_of x)) xs)) (points_differ xs) d in (
      cond-true (shows (point_of x) x) (Some x) (find (shows (point_of x)) xs) (shows-own x),
      all_both (λ t. shows (point_of x) t ≡ false) (λ t. find (shows (point_of t)) xs ≡ Some t) (λ t. find (shows (point_of t)) (x ∷ xs) ≡ Some t)
          (λ t e f. cond-false (shows (point_of t) x) (Some x) (find (shows (point_of t)) xs) (same_point-sym (point_of t) (point_of x) ∙ e) ∙ f) xs (each_fails (shows (point_of x)) xs (not-true _ both.0)) (found-itself xs both.1),
    )

-- the points of a stratum are there as they are first seen in the whole mesh
stratum-first : (m : Mesh) (dim : ℕ) → AllByRecursion (λ s. first_sight m (point_of s) ≡ Some s) (stratum m dim)
unfolding stratum first_sight
stratum-first m dim = go (dim == 0) refl (of-dim m dim) (found-itself (stratum m dim) (stratum-differs m dim))
  where
    seen : List Sight
    seen = filter (λ s. dim_of s.poly == dim) (sights (placed_cells m))

    First : Sight → Type 0
    First s = find (shows (point_of s)) (vertex_sights m ++ sights (placed_cells m)) ≡ Some s

    vertex : (s : Sight) → find (shows (point_of s)) (vertex_sights m) ≡ Some s → First s
    vertex s e = find-append_found (shows (point_of s)) (vertex_sights m) (sights (placed_cells m)) (found-any (shows (point_of s)) (vertex_sights m) s e) ∙ e

    higher : (dim == 0) ≡ false → (s : Sight) → dim_of s.poly ≡ dim → find (shows (point_of s)) (firsts seen) ≡ Some s → First s
    higher ne s d e =
        find-append_none (shows (point_of s)) (vertex_sights m) (sights (placed_cells m))
        (none_passes (shows (point_of s)) (vertex_sights m) (all_map (λ t. shows (point_of s) t ≡ false) vertex_sight (below (length m.at)) (all_from (λ v. shows (point_of s) (vertex_sight v) ≡ false) (λ v. and_left (dim_of s.poly == 0) (same_list (point_of s).vertices (sorted (v ∷ []))) (ap (λ k. k == 0) d ∙ ne)) (below (length m.at)))))
        ∙ sym (find-filter (shows (point_of s)) (λ t. dim_of t.poly == dim) (λ t h. eq-eqb (dim_of t.poly) dim (sym (eqb-true (dim_of s.poly) (dim_of t.poly) (and_parts (dim_of s.poly == dim_of t.poly) (same_list (point_of s).vertices (point_of t).vertices) h).0) ∙ d)) (sights (placed_cells m)))
        ∙ sym (find-firsts (point_of s) seen) ∙ e

    go : (b : Bool) → (dim == 0) ≡ b → AllByRecursion (λ (s : Sight). dim_of s.poly ≡ dim) (cond b (vertex_sights m) (firsts seen)) → AllByRecursion (λ s. find (shows (point_of s)) (cond b (vertex_sights m) (firsts seen)) ≡ Some s) (cond b (vertex_sights m) (firsts seen)) → AllByRecursion First (cond b (vertex_sights m) (firsts seen))
    go true e d f = all_weaker (λ s. find (shows (point_of s)) (vertex_sights m) ≡ Some s) First vertex (vertex_sights m) f
    go false e d f = all_both (λ (s : Sight). dim_of s.poly ≡ dim) (λ s. find (shows (point_of s)) (firsts seen) ≡ Some s) First (higher e) (firsts seen) d f

-- all points are there as they are first seen
pub strata-first : (m : Mesh) → AllByRecursion (λ s. first_sight m (point_of s) ≡ Some s) (strata m)
unfolding strata
strata-first m = all_append First (stratum m m.dim ++ stratum m 0 ++ faces (m.dim == 3)) (stratum m 1)
    (all_append First (stratum m m.dim ++ stratum m 0) (faces (m.dim == 3)) (all_append First (stratum m m.dim) (stratum m 0) (stratum-first m m.dim) (stratum-first m 0)) (faces-first (m.dim == 3))) (stratum-first m 1)
  where
    First : Sight → Type 0
    First s = first_sight m (point_of s) ≡ Some s

    faces : Bool → List Sight
    faces b = cond b (stratum m 2) []

    faces-first : (b : Bool) → AllByRecursion First (faces b)
    faces-first true = stratum-first m 2
    faces-first false = tt

-- a point of the mesh stands in its chart under its key and with its arrangement
pub strata-keys : (m : Mesh) (s : Sight) → Contains (strata m) s → (key m (point_of s) ≡ Some s.key) × (arrangement m (point_of s) ≡ Some s.arrangement)
unfolding key arrangement
strata-keys m s c = let first = All-contains (λ t. first_sight m (point_of t) ≡ Some t) (strata m) s (All-from_recursion (λ t. first_sight m (point_of t) ≡ Some t) (strata m) (strata-first m)) c in
    (ap (option_map (λ (t : Sight). t.key)) first, ap (option_map (λ (t : Sight). t.arrangement)) first)
