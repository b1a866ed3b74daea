-- The star by cones is the star by lists of vertices, where lists arrange the diagram.
use Rattle.std.proofs.Common.{◌≡◌, ℕ, zero, suc, ◌+◌, ◌<◌, ◌≤◌, true, false, List, [], ◌∷◌, ◌++◌, length, get_or, pos, ⊎_elim, refl, sym, ap, ◌∙◌, inl, inr, arith}
use Rattle.std.specs.Prelude.{◌||◌, ◌==◌, flat_map}
use Rattle.std.specs.List.{AllByRecursion, list_all}
use Rattle.std.proofs.lemmas.Bool.{eqb-true, eq-eqb, or_cases, or_left, or_right}
use Rattle.std.proofs.lemmas.Bool.Decides.{nat_tests}
use Rattle.std.proofs.lemmas.List.{length-map, get_or_default}
use Rattle.std.proofs.lemmas.List.Concat.{flat_map-cons}
use Rattle.std.proofs.lemmas.List.Folds.{list_any-append, list_any_at, Any-from_list_any}
use Rattle.std.proofs.lemmas.List.Sums.{AllPass-from_list_all}
use Rattle.mesh_defs.specs.declared.Poly.{Poly}
use Rattle.mesh_defs.specs.declared.Poly.TheVariants.{Vertex, Segment, Triangle, Quad, Tet, Hex}
use Rattle.mesh_defs.specs.declared.ConeEntry.{ConeEntry}
use Rattle.plain_lists.specs.Lists.{below}
use Rattle.plain_lists.proofs.Below.{length-below, below-all, get_or-map-below}
use Rattle.plain_lists.proofs.Each.{all_weaker, all_append, all_map, all_flat_map}
use Rattle.plain_lists.proofs.Filters.{filter_agree}
use Rattle.mesh_defs.specs.Tables.{Facet, dim_of, facets_of, facet_at}
use Rattle.mesh_defs.specs.Diagram.{Diagram}
use Rattle.poly_orient.specs.Group.{facet_under}
use Rattle.poly_orient.proofs.Grouping.{orientation-0}
use Rattle.plex_defs.specs.Closure.{point_in, cone_entry, covers, IsArranged, new_points, closure, star}
use Rattle.plex_chart.specs.Chart.{IsInStratum, HasStrata, IsPlex}
use Rattle.walk_defs.specs.Cones.{IsEntry, cone_at, facet_by_cone, facets_by_cone, levels_by_cones, closure_by_cones, reaches, star_by_cones}
use Rattle.headline_laws.proofs.walk_laws.Facets.{facet-stands, facet-met}
use Rattle.headline_laws.proofs.walk_laws.Closures.{HasCones, plex-cones, seen-by_cone, all-new, closure-by_cones}
use Rattle.headline_laws.proofs.walk_laws.Reaching.{same_test, entry-of, covers-added, reaches-up, reaches-after, closes, closed-reached}

-- ---- dimensions

-- facets are one dimension lower
all_lower : (p : Poly) → list_all (λ (f : Facet). suc (dim_of f.poly) == dim_of p) (facets_of p) ≡ true
all_lower Vertex = refl
all_lower Segment = refl
all_lower Triangle = refl
all_lower Quad = refl
all_lower Tet = refl
all_lower Hex = refl

facet-dim : (p : Poly) (j n : ℕ) → j < length (facets_of p) → dim_of p ≡ suc n → dim_of (facet_at p j).poly ≡ n
facet-dim p j n low dim =
    let lower : suc (dim_of (facet_at p j).poly) ≡ dim_of p = eqb-true _ _ (AllPass-from_list_all (λ (f : Facet). suc (dim_of f.poly) == dim_of p) (facets_of p) (all_lower p) j (record { poly = Vertex; corners = [] }) low) in
    omega (arith, lower, dim)

-- a polytope without dimension has no facets
dim-0 : (p : Poly) → dim_of p ≡ 0 → length (facets_of p) ≡ 0
dim-0 Vertex h = refl
dim-0 Segment h = absurd (omega (arith, h))
dim-0 Triangle h = absurd (omega (arith, h))
dim-0 Quad h = absurd (omega (arith, h))
dim-0 Tet h = absurd (omega (arith, h))
dim-0 Hex h = absurd (omega (arith, h))

-- no point of a diagram has more dimensions than the diagram
stratum-dim : (x : Diagram) (dim p : ℕ) → HasStrata x → IsInStratum x dim p → dim ≤ x.dim
stratum-dim x dim p strata stands = grind (arith, nat_tests, stands.from, stands.to, strata.polygons)

plex-dim : (x : Diagram) (p : ℕ) → IsPlex x → p < length x.points → dim_of (point_in x p).poly ≤ x.dim
plex-dim x p plex low = stratum-dim x (dim_of (point_in x p).poly) p plex.chart.strata (plex.chart.points p low).place

-- ---- the facets of an entry

-- what each facet has
all-facets : (x : Diagram) (P : ConeEntry → Type 0) (e : ConeEntry) → ((k : ℕ) → k < length (facets_of (point_in x e.point).poly) → P (facet_by_cone x e k)) → AllByRecursion P (facets_by_cone x e)
all-facets x P e each =
    let n : ℕ = length (facets_of (point_in x e.point).poly) in
    all_map P (facet_by_cone x e) (below n) (all_weaker (λ k. k < n) (λ k. P (facet_by_cone x e k)) each (below n) (below-all n))

-- they are of all points of its cone
facets-cover : (x : Diagram) (lists : List (List ℕ)) (e : ConeEntry) (p : ℕ) → IsArranged x lists → IsEntry x e → covers (point_in x e.point).covers p ≡ true → covers (facets_by_cone x e) p ≡ true
unfolding facet_by_cone
facets-cover x lists e p arranged entry h =
    let poly : Poly = (point_in x e.point).poly in
    let cone : List ConeEntry = (point_in x e.point).covers in
    let n : ℕ = length (facets_of poly) in
    let (j, c, within, at, is) = Any-from_list_any (λ (c : ConeEntry). c.point == p) cone h in
    let low : j < n = omega (arith, within, arranged.cones e.point entry.point) in
    let (k, low_k, met) = facet-met poly e.o j entry.o low in
    let size : k < length (facets_by_cone x e) = omega (arith, low_k, length-map (below n) (facet_by_cone x e), length-below n) in
    let named : (get_or cone j (cone_entry 0 (pos 0))).point ≡ p = ap (λ (c : ConeEntry). c.point) (get_or_default cone j (cone_entry 0 (pos 0)) c within ∙ at) ∙ eqb-true c.point p is in
    let point : (facet_by_cone x e k).point ≡ p = ap (λ i. (cone_at x e.point i).point) met ∙ named in
    list_any_at (λ (c : ConeEntry). c.point == p) (facets_by_cone x e) k (cone_entry 0 (pos 0)) size
    (eq-eqb _ _ (ap (λ (c : ConeEntry). c.point) (get_or-map-below (facet_by_cone x e) n k (cone_entry 0 (pos 0)) low_k) ∙ point))

-- the facets of a level are of all points of its points' cones
level-covers : (x : Diagram) (lists : List (List ℕ)) (last : List ConeEntry) (r p : ℕ) → IsArranged x lists → AllByRecursion (IsEntry x) last → covers last r ≡ true → covers (point_in x r).covers p ≡ true
    → covers (flat_map (facets_by_cone x) last) p ≡ true
level-covers x lists [] r p arranged all here cone = here
level-covers x lists (e ∷ es) r p arranged all here cone =
    ap (λ (l : List ConeEntry). covers l p) (flat_map-cons (facets_by_cone x) e es) ∙ list_any-append (λ (c : ConeEntry). c.point == p) (facets_by_cone x e) (flat_map (facets_by_cone x) es)
    ∙ ⊎_elim
    (λ first. or_left (covers (facets_by_cone x e) p) (covers (flat_map (facets_by_cone x) es) p) (facets-cover x lists e p arranged all.0 (ap (λ s. covers (point_in x s).covers p) (eqb-true e.point r first) ∙ cone)))
    (λ later. or_right (covers (facets_by_cone x e) p) (covers (flat_map (facets_by_cone x) es) p) (level-covers x lists es r p arranged all.1 later cone))
    (or_cases (e.point == r) (covers es r) here)

-- ---- levels

-- An entry of the level that k entries of cones lead to from q, with n levels below.
record IsStage (x : Diagram) (q k n : ℕ) (e : ConeEntry) : Type 0 where
  entry : IsEntry x e
  dim : dim_of (point_in x e.point).poly ≡ n
  reached : reaches x k e.point q ≡ true

stage-facet : (x : Diagram) (lists : List (List ℕ)) (q k n : ℕ) (e : ConeEntry) (i : ℕ) → HasCones x → IsArranged x lists → IsStage x q k (suc n) e → i < length (facets_of (point_in x e.point).poly)
    → IsStage x q (suc k) n (facet_by_cone x e i)
unfolding facet_by_cone
stage-facet x lists q k n e i cones arranged stage low =
    let p : ℕ = e.point in
    let poly : Poly = (point_in x p).poly in
    let j : ℕ = (facet_under poly e.o i).0 in
    let stands = facet-stands poly e.o i stage.entry.o low in
    let inside : j < length (point_in x p).covers = omega (arith, stands.facet, arranged.cones p stage.entry.point) in
    record {
      entry = (seen-by_cone x lists e i cones arranged stage.entry low).1;
      dim = ap dim_of (cones.poly p j stage.entry.point inside) ∙ facet-dim poly j n stands.facet stage.dim;
      reached = reaches-after x k p (cone_at x p j).point q stage.reached (list_any_at (λ (c : ConeEntry). c.point == (cone_at x p j).point) (point_in x p).covers j (cone_entry 0 (pos 0)) inside (eq-eqb _ _ refl));
    }

-- the new entries of the next level
stage-new : (x : Diagram) (lists : List (List ℕ)) (q k n : ℕ) (there last : List ConeEntry) → HasCones x → IsArranged x lists → AllByRecursion (IsStage x q k (suc n)) last
    → AllByRecursion (IsStage x q (suc k) n) (new_points there (flat_map (facets_by_cone x) last))
stage-new x lists q k n there last cones arranged all =
    all-new (IsStage x q (suc k) n) there (flat_map (facets_by_cone x) last)
    (all_flat_map (IsStage x q (suc k) n) (facets_by_cone x) last
    (all_weaker (IsStage x q k (suc n)) (λ e. AllByRecursion (IsStage x q (suc k) n) (facets_by_cone x e)) (λ e stage. all-facets x (IsStage x q (suc k) n) e (λ i low. stage-facet x lists q k n e i cones arranged stage low)) last all))

-- all entries of a closure are reached
levels-reached : (x : Diagram) (lists : List (List ℕ)) (d q k n : ℕ) (there last : List ConeEntry) → HasCones x → IsArranged x lists → k + n ≤ d → AllByRecursion (IsStage x q k n) last
    → AllByRecursion (λ (e : ConeEntry). reaches x d e.point q ≡ true) there → AllByRecursion (λ (e : ConeEntry). reaches x d e.point q ≡ true) (levels_by_cones x n there last)
levels-reached x lists d q k zero there last cones arranged le all before = before
levels-reached x lists d q k (suc n) there last cones arranged le all before =
    let next : List ConeEntry = new_points there (flat_map (facets_by_cone x) last) in
    let stages = stage-new x lists q k n there last cones arranged all in
    let one : suc k ≤ d = omega arith in
    let sum : suc k + n ≤ d = omega arith in
    levels-reached x lists d q (suc k) n (there ++ next) next cones arranged sum stages
    (all_append (λ (e : ConeEntry). reaches x d e.point q ≡ true) there next before
    (all_weaker (IsStage x q (suc k) n) (λ (e : ConeEntry). reaches x d e.point q ≡ true) (λ e stage. reaches-up x (suc k) d e.point q one stage.reached) next stages))

-- what is there stays
levels-keep : (x : Diagram) (n : ℕ) (there last : List ConeEntry) (p : ℕ) → covers there p ≡ true → covers (levels_by_cones x n there last) p ≡ true
levels-keep x zero there last p h = h
levels-keep x (suc n) there last p h =
    let next : List ConeEntry = new_points there (flat_map (facets_by_cone x) last) in
    levels-keep x n (there ++ next) next p (list_any-append (λ (e : ConeEntry). e.point == p) there next ∙ or_left (covers there p) (covers next p) h)

-- one more level
closes-next : (x : Diagram) (lists : List (List ℕ)) (there last : List ConeEntry) → IsArranged x lists → AllByRecursion (IsEntry x) last → closes x there last
    → closes x (there ++ new_points there (flat_map (facets_by_cone x) last)) (new_points there (flat_map (facets_by_cone x) last))
closes-next x lists there last arranged all closed r p here cone =
    let facets : List ConeEntry = flat_map (facets_by_cone x) last in
    let next : List ConeEntry = new_points there facets in
    let split : (covers there r || covers next r) ≡ true = sym (list_any-append (λ (e : ConeEntry). e.point == r) there next) ∙ here in
    ⊎_elim
    (λ old. ⊎_elim
    (λ kept. inl (list_any-append (λ (e : ConeEntry). e.point == p) there next ∙ or_left (covers there p) (covers next p) kept))
    (λ level. inl (covers-added there facets p (level-covers x lists last r p arranged all level cone)))
    (closed r p old cone))
    (λ new. inr new)
    (or_cases (covers there r) (covers next r) split)

-- a closure is closed
levels-closed : (x : Diagram) (lists : List (List ℕ)) (q k n : ℕ) (there last : List ConeEntry) → HasCones x → IsArranged x lists → AllByRecursion (IsStage x q k n) last
    → closes x there last → closes x (levels_by_cones x n there last) []
levels-closed x lists q k zero there last cones arranged all closed = λ r p here cone. ⊎_elim (λ kept. inl kept) (λ level. absurd (none r p level cone)) (closed r p here cone)
  where
    none : (r p : ℕ) → covers last r ≡ true → covers (point_in x r).covers p ≡ true → ⊥
    none r p level cone =
        let (e, stage, same) = entry-of (IsStage x q k 0) last r all level in
        let covered : covers (point_in x e.point).covers p ≡ true = ap (λ s. covers (point_in x s).covers p) same ∙ cone in
        let (j, c, within, at, is) = Any-from_list_any (λ (c : ConeEntry). c.point == p) (point_in x e.point).covers covered in
        omega (arith, within, arranged.cones e.point stage.entry.point, dim-0 (point_in x e.point).poly stage.dim)
levels-closed x lists q k (suc n) there last cones arranged all closed =
    let next : List ConeEntry = new_points there (flat_map (facets_by_cone x) last) in
    levels-closed x lists q (suc k) n (there ++ next) next cones arranged (stage-new x lists q k n there last cones arranged all)
    (closes-next x lists there last arranged (all_weaker (IsStage x q k (suc n)) (IsEntry x) (λ e stage. stage.entry) last all) closed)

-- ---- closures and stars

-- The closure of a point has just the points that are reached from it.
pub closure-reaches : (x : Diagram) (lists : List (List ℕ)) (p q : ℕ) → HasCones x → IsArranged x lists → q < length x.points → dim_of (point_in x q).poly ≤ x.dim
    → covers (closure_by_cones x q (pos 0)) p ≡ reaches x x.dim p q
unfolding closure_by_cones
closure-reaches x lists p q cones arranged low high =
    let dim : ℕ = dim_of (point_in x q).poly in
    let start : List ConeEntry = cone_entry q (pos 0) ∷ [] in
    let all : List ConeEntry = levels_by_cones x dim start start in
    let itself : reaches x 0 q q ≡ true = eq-eqb q q refl in
    let stage : IsStage x q 0 dim (cone_entry q (pos 0)) = record { entry = record { point = low; o = orientation-0 (point_in x q).poly }; dim = refl; reached = itself } in
    let here : covers start q ≡ true = or_left (q == q) false itself in
    let reached = levels-reached x lists x.dim q 0 dim start start cones arranged (omega (arith, high)) (stage, tt) (reaches-up x 0 x.dim q q (omega arith) itself, tt) in
    let closed = levels-closed x lists q 0 dim start start cones arranged (stage, tt) (λ r s inside cone. inr inside) in
    same_test (covers all p) (reaches x x.dim p q)
    (λ inside. let (e, has, same) = entry-of (λ (e : ConeEntry). reaches x x.dim e.point q ≡ true) all p reached inside in ap (λ s. reaches x x.dim s q) (sym same) ∙ has)
    (λ walk. closed-reached x all x.dim p q closed (levels-keep x dim start start q here) walk)

pub star-by_cones : (x : Diagram) (lists : List (List ℕ)) (p : ℕ) → HasCones x → IsArranged x lists → ((q : ℕ) → q < length x.points → dim_of (point_in x q).poly ≤ x.dim) → star_by_cones x p ≡ star x lists p
unfolding star_by_cones star
star-by_cones x lists p cones arranged dims =
    let n : ℕ = length x.points in
    filter_agree (reaches x x.dim p) (λ q. covers (closure x lists q (pos 0)) p) (below n)
    (all_weaker (λ q. q < n) (λ q. reaches x x.dim p q ≡ covers (closure x lists q (pos 0)) p)
    (λ q low. sym (closure-reaches x lists p q cones arranged low (dims q low)) ∙ ap (λ (es : List ConeEntry). covers es p) (closure-by_cones x lists q (pos 0) cones arranged low (orientation-0 (point_in x q).poly)))
    (below n) (below-all n))

pub star-arranged : (x : Diagram) (lists : List (List ℕ)) (p : ℕ) → IsPlex x → IsArranged x lists → star_by_cones x p ≡ star x lists p
star-arranged x lists p plex arranged = star-by_cones x lists p (plex-cones x plex) arranged (λ q low. plex-dim x q plex low)
