-- What cells contain of a dimension above 0: what they see of it, in any order.
use Rattle.std.proofs.Common.{◌≡◌, ◌≢◌, ℕ, Bool, true, false, cond, ◌&&◌, ◌||◌, ◌==◌, List, [], ◌∷◌, ◌++◌, map, Option, Some, None, Contains, refl, sym, ap, ap₂, ◌∙◌, subst}
use Rattle.std.specs.Prelude.{find, unwrap_or}
use Rattle.std.specs.List.{list_any, AllByRecursion, filter}
use Rattle.std.proofs.lemmas.Bool.{and_parts, and_left, eqb-true, eq-eqb, ne_eqb, cond-false, cond-true, both_ways, or_parts}
use Rattle.std.proofs.lemmas.List.Folds.{list_any-append}
use Rattle.plain_lists.specs.Lists.{same_list, sorted}
use Rattle.plain_lists.proofs.Each.{all_weaker, all_from, all_map, all_filter, all_contained}
use Rattle.plain_lists.proofs.Filters.{and_implied}
use Rattle.plain_lists.proofs.Finding.{any_same, any_filter, none_passes, among, stands, find-passes}
use Rattle.mesh_defs.specs.Tables.{dim_of}
use Rattle.mesh_defs.specs.Mesh.{Mesh, Cell, placed_cells}
use Rattle.mesh_defs.specs.Points.{Point, Sight, point_of, shows, sights_of, sights, vertex_sight, vertex_sights, first_sight, contains}
use Rattle.mesh_defs.specs.Diagram.{firsts_after, firsts, stratum}
use Rattle.mesh_defs.specs.RightMesh.{AreCells, in_some}
use Rattle.mesh_laws.proofs.Firsts.{shows-own, shows-true, list_any-firsts, find-firsts}
use Rattle.mesh_laws.proofs.Containing.{sights_of-any_place}
use Rattle.rank_laws.proofs.diagram_laws.Edges.{none-of_dim}
use Rattle.rank_laws.proofs.diagram_laws.Cones.{first-of_dim}
use Rattle.rank_laws.proofs.share_laws.Own.{own-of_dim}
use Rattle.rank_defs.specs.Spread.{own_stratum}
use Rattle.rank_laws.specs.orient_laws.Named.{chart_stratum, seen_first}

-- ---- what cells see

-- a cell contains a point that is no vertex where it sees it
pub cell-seen : (p : Point) → p.dim ≢ 0 → (c : ℕ × Cell) → contains c.1 p ≡ list_any (shows p) (sights_of c)
unfolding contains
cell-seen p ne c = list_any-append (shows p) (map vertex_sight c.1.vertices) (sights_of (0, c.1)) ∙ (ap (λ t. t || list_any (shows p) (sights_of (0, c.1))) (no_vertex c.1.vertices) ∙ sights_of-any_place p 0 c.0 c.1)
  where
    no_vertex : (vs : List ℕ) → list_any (shows p) (map vertex_sight vs) ≡ false
    no_vertex vs = none_passes (shows p) (map vertex_sight vs) (all_map (λ t. shows p t ≡ false) vertex_sight vs (all_from (λ v. shows p (vertex_sight v) ≡ false) (λ v. and_left (p.dim == 0) (same_list p.vertices (sorted (v ∷ []))) (ne_eqb p.dim 0 ne)) vs))

-- so do some cells
pub contained-seen : (p : Point) → p.dim ≢ 0 → (cells : List (ℕ × Cell)) → in_some p cells ≡ list_any (shows p) (sights cells)
contained-seen p ne [] = refl
contained-seen p ne (c ∷ cs) = ap₂ (λ s t. s || t) (cell-seen p ne c) (contained-seen p ne cs) ∙ sym (list_any-append (shows p) (sights_of c) (sights cs))

-- a point that a sight shows has the sight's dimension
pub shown-dim : (p : Point) (s : Sight) → shows p s ≡ true → p.dim ≡ dim_of s.poly
shown-dim p s e = eqb-true p.dim (dim_of s.poly) (and_parts (p.dim == dim_of s.poly) (same_list p.vertices (point_of s).vertices) e).0

-- what cells see of a dimension shows the points of that dimension that they contain
pub own-shown : (p : Point) (d : ℕ) (cells : List (ℕ × Cell)) → p.dim ≢ 0 → p.dim ≡ d → list_any (shows p) (own_stratum cells d) ≡ in_some p cells
own-shown p d cells ne same = list_any-firsts p (filter (λ s. dim_of s.poly == d) (sights cells))
    ∙ (any_filter (shows p) (λ s. dim_of s.poly == d) (sights cells)
    ∙ (any_same (λ s. (dim_of s.poly == d) && shows p s) (shows p) (λ s. and_implied (dim_of s.poly == d) (shows p s) (λ e. eq-eqb (dim_of s.poly) d (sym (shown-dim p s e) ∙ same))) (sights cells)
    ∙ sym (contained-seen p ne cells)))

-- ---- what the chart has

-- what some of the cells contain, some cell of the mesh contains
pub placed-some : (m : Mesh) (cells : List (ℕ × Cell)) (p : Point) → AreCells m cells → in_some p cells ≡ true → in_some p (placed_cells m) ≡ true
placed-some m cells p are h =
    let (c, inside, e) = among (Contains (placed_cells m)) (λ (c : ℕ × Cell). contains c.1 p) cells are h in
    all_contained (λ (d : ℕ × Cell). (q : ℕ × Cell → Bool) → q d ≡ true → list_any q (placed_cells m) ≡ true) (placed_cells m) c (stands (placed_cells m)) inside (λ (d : ℕ × Cell). contains d.1 p) e

-- a stratum is what all cells see of its dimension
pub stratum-own : (m : Mesh) (d : ℕ) → d ≢ 0 → stratum m d ≡ own_stratum (placed_cells m) d
unfolding stratum
stratum-own m d ne = cond-false (d == 0) (vertex_sights m) (own_stratum (placed_cells m) d) (ne_eqb d 0 ne)

module _ (m : Mesh) (cells : List (ℕ × Cell)) (d : ℕ) (ne : d ≢ 0) (are : AreCells m cells) where
  chart-shown : (p : Point) → p.dim ≡ d → list_any (shows p) (chart_stratum m cells d) ≡ in_some p cells
  unfolding chart_stratum
  chart-shown p same = any_filter (shows p) (λ s. in_some (point_of s) cells) (stratum m d) ∙ go (in_some p cells) refl
    where
      told : (b : Bool) → in_some p cells ≡ b → (s : Sight) → shows p s ≡ true → in_some (point_of s) cells ≡ b
      told b e s f = ap (λ q. in_some q cells) (sym (shows-true p s f)) ∙ e

      go : (b : Bool) → in_some p cells ≡ b → list_any (λ s. in_some (point_of s) cells && shows p s) (stratum m d) ≡ b
      go true e =
          any_same (λ s. in_some (point_of s) cells && shows p s) (shows p) (λ s. and_implied (in_some (point_of s) cells) (shows p s) (told true e s)) (stratum m d)
          ∙ (ap (list_any (shows p)) (stratum-own m d ne) ∙ (own-shown p d (placed_cells m) (λ z. ne (sym same ∙ z)) same ∙ placed-some m cells p are e))
      go false e = none_passes (λ s. in_some (point_of s) cells && shows p s) (stratum m d) (all_from (λ s. (in_some (point_of s) cells && shows p s) ≡ false) (λ s. neither (shows p s) (in_some (point_of s) cells) (told false e s)) (stratum m d))
        where
          neither : (b c : Bool) → (b ≡ true → c ≡ false) → (c && b) ≡ false
          neither true c f = ap (λ t. t && true) (f refl)
          neither false true f = refl
          neither false false f = refl

  chart-of_dim : AllByRecursion (λ (s : Sight). dim_of s.poly ≡ d) (chart_stratum m cells d)
  unfolding chart_stratum
  chart-of_dim = all_filter (λ (s : Sight). dim_of s.poly ≡ d) (λ s. in_some (point_of s) cells) (stratum m d) (subst (AllByRecursion (λ (s : Sight). dim_of s.poly ≡ d)) (sym (stratum-own m d ne)) (own-of_dim m (placed_cells m) d))

  -- the stratum of the chart shows what the cells see of its dimension
  pub same_points : (p : Point) → list_any (shows p) (own_stratum cells d) ≡ list_any (shows p) (chart_stratum m cells d)
  same_points p = go (p.dim == d) refl
    where
      go : (b : Bool) → (p.dim == d) ≡ b → list_any (shows p) (own_stratum cells d) ≡ list_any (shows p) (chart_stratum m cells d)
      go true e = let same = eqb-true p.dim d e in own-shown p d cells (λ z. ne (sym same ∙ z)) same ∙ sym (chart-shown p same)
      go false e =
          let other : p.dim ≢ d = λ same. absurd (both_ways (p.dim == d) e (eq-eqb p.dim d same)) in
          none-of_dim p d (own_stratum cells d) other (own-of_dim m cells d) ∙ sym (none-of_dim p d (chart_stratum m cells d) other chart-of_dim)

-- ---- first sights

-- each first sight is found where its point is looked for
firsts_after-found : (earlier ss : List Sight) → AllByRecursion (λ s. (list_any (shows (point_of s)) earlier ≡ false) × (find (shows (point_of s)) ss ≡ Some s)) (firsts_after earlier ss)
firsts_after-found earlier [] = tt
firsts_after-found earlier (x ∷ xs) = go (list_any (shows (point_of x)) earlier) refl (firsts_after-found earlier xs) (firsts_after-found (x ∷ earlier) xs)
  where
    Found : List Sight → List Sight → Sight → Type 0
    Found before those s = (list_any (shows (point_of s)) before ≡ false) × (find (shows (point_of s)) those ≡ Some s)

    go : (b : Bool) → list_any (shows (point_of x)) earlier ≡ b → AllByRecursion (Found earlier xs) (firsts_after earlier xs) → AllByRecursion (Found (x ∷ earlier) xs) (firsts_after (x ∷ earlier) xs)
        → AllByRecursion (Found earlier (x ∷ xs)) (cond b (firsts_after earlier xs) (x ∷ firsts_after (x ∷ earlier) xs))
    go true e r q = all_weaker (Found earlier xs) (Found earlier (x ∷ xs)) (λ s f. (f.0, later s f.0 (shows (point_of s) x) refl ∙ f.1)) (firsts_after earlier xs) r
      where
        later : (s : Sight) → list_any (shows (point_of s)) earlier ≡ false → (c : Bool) → shows (point_of s) x ≡ c → find (shows (point_of s)) (x ∷ xs) ≡ find (shows (point_of s)) xs
        later s none true g = absurd (both_ways _ none (ap (λ p. list_any (shows p) earlier) (shows-true (point_of s) x g) ∙ e))
        later s none false g = cond-false (shows (point_of s) x) (Some x) (find (shows (point_of s)) xs) g
    go false e r q = (
      (e, cond-true (shows (point_of x) x) (Some x) (find (shows (point_of x)) xs) (shows-own x)),
      all_weaker (Found (x ∷ earlier) xs) (Found earlier (x ∷ xs)) (λ s f. let parts = or_parts (shows (point_of s) x) (list_any (shows (point_of s)) earlier) f.0 in (parts.1, cond-false (shows (point_of s) x) (Some x) (find (shows (point_of s)) xs) parts.0 ∙ f.1)) (firsts_after (x ∷ earlier) xs) q,
    )

-- it stands as its point is first seen
abbrev pub IsFirst : Mesh → Sight → Type 0
IsFirst m s = first_sight m (point_of s) ≡ Some s

-- first sights of one point are one
pub first-one : (m : Mesh) (s t : Sight) → IsFirst m s → IsFirst m t → point_of s ≡ point_of t → s ≡ t
first-one m s t f g same = cc (sym f ∙ (ap (first_sight m) same ∙ g))

-- the points of a stratum are first seen so
pub stratum-first : (m : Mesh) (d : ℕ) → d ≢ 0 → AllByRecursion (IsFirst m) (stratum m d)
stratum-first m d ne = subst (AllByRecursion (IsFirst m)) (sym (stratum-own m d ne))
    (all_weaker (λ s. (dim_of s.poly ≡ d) × (find (shows (point_of s)) seen ≡ Some s)) (IsFirst m) first (firsts seen) (both (firsts seen) (own-of_dim m (placed_cells m) d) (firsts_after-found [] seen)))
  where
    seen : List Sight
    seen = filter (λ s. dim_of s.poly == d) (sights (placed_cells m))

    both : (ss : List Sight) → AllByRecursion (λ (s : Sight). dim_of s.poly ≡ d) ss → AllByRecursion (λ s. (list_any (shows (point_of s)) [] ≡ false) × (find (shows (point_of s)) seen ≡ Some s)) ss → AllByRecursion (λ s. (dim_of s.poly ≡ d) × (find (shows (point_of s)) seen ≡ Some s)) ss
    both [] f g = tt
    both (s ∷ ss) f g = ((f.0, g.0.1), both ss f.1 g.1)

    first : (s : Sight) → (dim_of s.poly ≡ d) × (find (shows (point_of s)) seen ≡ Some s) → IsFirst m s
    first s f = first-of_dim m (point_of s) seen (λ z. ne (sym f.0 ∙ z)) (ap (λ k. filter (λ t. dim_of t.poly == k) (sights (placed_cells m))) f.0) ∙ (find-firsts (point_of s) seen ∙ f.1)

-- the first sight of a point shows it
pub seen_first-point : (m : Mesh) (s : Sight) → point_of (seen_first m s) ≡ point_of s
unfolding seen_first first_sight
seen_first-point m s = go (find (shows (point_of s)) (vertex_sights m ++ sights (placed_cells m))) refl
  where
    go : (o : Option Sight) → find (shows (point_of s)) (vertex_sights m ++ sights (placed_cells m)) ≡ o → point_of (unwrap_or o s) ≡ point_of s
    go None e = refl
    go (Some t) e = sym (shows-true (point_of s) t (find-passes (shows (point_of s)) (vertex_sights m ++ sights (placed_cells m)) t e))
