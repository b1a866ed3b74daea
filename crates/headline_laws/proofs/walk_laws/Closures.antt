-- The closure by cones is the closure by lists of vertices, where lists arrange the diagram.
use Rattle.std.proofs.Common.{◌≡◌, ℕ, zero, suc, ◌-◌, ◌<◌, ◌≤◌, Bool, true, List, [], ◌∷◌, ◌++◌, length, map, get_or, ℤ, pos, Option, Some, refl, sym, ap, ap₂, ◌∙◌, subst, inl, inr, arith}
use Rattle.std.specs.Prelude.{find, filter_map, flat_map, option_map, option_and_then, unwrap_or}
use Rattle.std.specs.List.{AllByRecursion}
use Rattle.std.specs.Cmp.Lexicographic.{same_text}
use Rattle.std.proofs.lemmas.Bool.{cases_Bool}
use Rattle.std.proofs.lemmas.Bool.Decides.{nat_tests}
use Rattle.std.proofs.lemmas.List.Elements.{recursion_from_All}
use Rattle.std.proofs.lemmas.List.{length-map, get_or_default}
use Rattle.std.proofs.lemmas.List.Concat.{flat_map-cons}
use Rattle.mesh_defs.specs.declared.Poly.{Poly}
use Rattle.mesh_defs.specs.declared.Poly.TheVariants.{Vertex}
use Rattle.mesh_defs.specs.declared.ConeEntry.{ConeEntry}
use Rattle.plain_lists.specs.Lists.{below, same_list, same_set, sorted, picked}
use Rattle.plain_lists.proofs.Below.{length-below, get_or-map-below, map-below-length}
use Rattle.plain_lists.proofs.Each.{all_append}
use Rattle.plain_lists.proofs.Sorted.{same_list-self}
use Rattle.mesh_defs.specs.Tables.{Facet, dim_of, corner_count, facets_of, facet_at}
use Rattle.mesh_defs.specs.Orientation.{act, relative}
use Rattle.mesh_defs.specs.Diagram.{Diagram}
use Rattle.poly_orient.specs.Group.{IsOrientation, Differ, composition, facet_under}
use Rattle.poly_orient.proofs.Relating.{relative-leads}
use Rattle.plex_defs.specs.Closure.{point_in, cone_entry, covers, list_of, facet_list, IsArranged, seen_at, facets_under, new_points, levels, closure}
use Rattle.plex_chart.specs.Chart.{chart_size, stratum_range, IsInStratum, FitsFacet, IsPlex}
use Rattle.plex_chart.proofs.Facets.{FitsFacet-at}
use Rattle.walk_defs.specs.Cones.{IsEntry, cone_at, facet_by_cone, facets_by_cone, levels_by_cones, closure_by_cones}
use Rattle.headline_laws.proofs.walk_laws.Facets.{composed, facet-stands, sorted-act, facet-alone}

-- ---- lists

-- the first entry that passes, where it is the only one
find-only : {X : Type 0} (test : X → Bool) (xs : List X) (j : ℕ) (d : X) → j < length xs → test (get_or xs j d) ≡ true → ((i : ℕ) → i < length xs → test (get_or xs i d) ≡ true → i ≡ j) → find test xs ≡ Some (get_or xs j d)
find-only test [] j d within passes only = absurd (omega arith)
find-only test (x ∷ xs) zero d within passes only = rw passes refl
find-only test (x ∷ xs) (suc j) d within passes only = elim (cases_Bool (test x)) as (λ _. find test (x ∷ xs) ≡ Some (get_or xs j d)) [
  | inl h ↦ let same : 0 ≡ suc j = only 0 (omega arith) h in absurd (omega (arith, same))
  | inr h ↦ rw h (find-only test xs j d (omega arith) passes (λ i low p. let same : suc i ≡ suc j = only (suc i) (omega arith) p in omega (arith, same)))
]

-- entries that are all there
filter_map-some : {X Y : Type 0} (g : X → Option Y) (ys : List X) (d : X) (e : Y) → ((k : ℕ) → k < length ys → (y : Y) × (g (get_or ys k d) ≡ Some y)) → filter_map g ys ≡ map (λ x. unwrap_or (g x) e) ys
filter_map-some g [] d e every = refl
filter_map-some g (y ∷ ys) d e every =
    let first = every 0 (omega arith) in
    rw first.1 (ap (λ l. first.0 ∷ l) (filter_map-some g ys d e (λ k within. every (suc k) (omega arith))))

filter_map-all : {X Y : Type 0} (g : X → Option Y) (h : ℕ → Y) (xs : List X) (d : X) (e : Y) → ((k : ℕ) → k < length xs → g (get_or xs k d) ≡ Some (h k)) → filter_map g xs ≡ map h (below (length xs))
filter_map-all g h xs d e all = filter_map-some g xs d e (λ k within. (h k, all k within)) ∙ sym (map-below-length h (λ x. unwrap_or (g x) e) xs d (λ k within. sym (ap (λ o. unwrap_or o e) (all k within))))

-- ---- one facet

-- the lists of an arranged diagram have different vertices
differ-at : (x : Diagram) (lists : List (List ℕ)) (p : ℕ) → IsArranged x lists → p < length x.points → Differ (list_of lists p)
differ-at x lists p arranged low i j d before within same =
    let inside : i < length (list_of lists p) = omega arith in
    arranged.different p i j low before within (get_or_default (list_of lists p) i 0 d inside ∙ same ∙ get_or_default (list_of lists p) j d 0 within)

-- a point that stands in a stratum is one of the diagram
point-inside : (x : Diagram) (dim p : ℕ) → IsPlex x → IsInStratum x dim p → p < length x.points
point-inside x dim p plex stands =
    let fits : (stratum_range x dim).1 ≤ chart_size x = grind (arith, nat_tests) in
    omega (arith, fits, stands.to, plex.whole.full)

-- Each entry of a cone is of a point of the diagram, of the facet's polytope, and is under an orientation of it.
pub record HasCones (x : Diagram) : Type 0 where
  pub point : (p j : ℕ) → p < length x.points → j < length (point_in x p).covers → (cone_at x p j).point < length x.points
  pub poly : (p j : ℕ) → p < length x.points → j < length (point_in x p).covers → (point_in x (cone_at x p j).point).poly ≡ (facet_at (point_in x p).poly j).poly
  pub turn : (p j : ℕ) → p < length x.points → j < length (point_in x p).covers → IsOrientation (point_in x (cone_at x p j).point).poly (cone_at x p j).o

-- so it is in a whole diagram
pub plex-cones : (x : Diagram) → IsPlex x → HasCones x
plex-cones x plex = record {
  point = λ p j low inside. point-inside x (dim_of (point_in x p).poly - 1) (cone_at x p j).point plex ((plex.chart.points p low).below j (cone_entry 0 (pos 0)) inside);
  poly = λ p j low inside. (fits p j low inside).poly;
  turn = λ p j low inside. subst (λ poly. IsOrientation poly (cone_at x p j).o) (sym (fits p j low inside).poly) (fits p j low inside).o;
}
  where
    fits : (p j : ℕ) → p < length x.points → j < length (point_in x p).covers → FitsFacet x (facet_at (point_in x p).poly j) (cone_at x p j)
    fits p j low inside = FitsFacet-at x p j (cone_entry 0 (pos 0)) plex.whole low inside

-- the cone's entry is of the facet's polytope, and carries its point's list onto the facet
record Carries (x : Diagram) (lists : List (List ℕ)) (p j : ℕ) : Type 0 where
  point : (cone_at x p j).point < length x.points
  poly : (point_in x (cone_at x p j).point).poly ≡ (facet_at (point_in x p).poly j).poly
  turn : IsOrientation (point_in x (cone_at x p j).point).poly (cone_at x p j).o
  onto : act (point_in x (cone_at x p j).point).poly (cone_at x p j).o (list_of lists (cone_at x p j).point) ≡ picked (list_of lists p) (facet_at (point_in x p).poly j).corners

carries-at : (x : Diagram) (lists : List (List ℕ)) (p j : ℕ) → HasCones x → IsArranged x lists → p < length x.points → j < length (facets_of (point_in x p).poly) → Carries x lists p j
carries-at x lists p j cones arranged low within =
    let inside : j < length (point_in x p).covers = omega (arith, within, arranged.cones p low) in
    record { point = cones.point p j low inside; poly = cones.poly p j low inside; turn = cones.turn p j low inside; onto = arranged.entries p j low inside }

-- the vertices of a covered point are those of the facet
carried-set : (x : Diagram) (lists : List (List ℕ)) (p j : ℕ) → IsArranged x lists → Carries x lists p j → sorted (list_of lists (cone_at x p j).point) ≡ sorted (picked (list_of lists p) (facet_at (point_in x p).poly j).corners)
carried-set x lists p j arranged c =
    let q : ℕ = (cone_at x p j).point in
    sym (sorted-act (point_in x q).poly (cone_at x p j).o (list_of lists q) c.turn (arranged.corners q c.point)) ∙ ap sorted c.onto

-- the entry of the cone that has the vertices of a facet
found-at : (x : Diagram) (lists : List (List ℕ)) (p j : ℕ) (facet : List ℕ) → HasCones x → IsArranged x lists → p < length x.points → j < length (facets_of (point_in x p).poly)
    → sorted (list_of lists (cone_at x p j).point) ≡ sorted facet → find (λ (c : ConeEntry). same_set (list_of lists c.point) facet) (point_in x p).covers ≡ Some (cone_at x p j)
found-at x lists p j facet cones arranged low within set =
    let inside : j < length (point_in x p).covers = omega (arith, within, arranged.cones p low) in
    find-only (λ (c : ConeEntry). same_set (list_of lists c.point) facet) (point_in x p).covers j (cone_entry 0 (pos 0)) inside
    (subst (λ (l : List ℕ). same_list (sorted (list_of lists (cone_at x p j).point)) l ≡ true) set (same_list-self (sorted (list_of lists (cone_at x p j).point))))
    (λ i here h.
    let within_i : i < length (facets_of (point_in x p).poly) = omega (arith, here, arranged.cones p low) in
    let carries_i = carries-at x lists p i cones arranged low within_i in
    let carries_j = carries-at x lists p j cones arranged low within in
    let same : sorted (list_of lists (cone_at x p i).point) ≡ sorted facet = same_text (sorted (list_of lists (cone_at x p i).point)) (sorted facet) (sym h) in
    facet-alone (point_in x p).poly (list_of lists p) i j (arranged.corners p low) (differ-at x lists p arranged low) within_i within
    (sym (carried-set x lists p i arranged carries_i) ∙ same ∙ sym set ∙ carried-set x lists p j arranged carries_j))

-- the facet that an entry sees is seen by the cone
pub seen-by_cone : (x : Diagram) (lists : List (List ℕ)) (e : ConeEntry) (k : ℕ) → HasCones x → IsArranged x lists → IsEntry x e → k < length (facets_of (point_in x e.point).poly)
    → (seen_at x lists (point_in x e.point).covers (facet_list x lists e (facet_at (point_in x e.point).poly k)) ≡ Some (facet_by_cone x e k)) × IsEntry x (facet_by_cone x e k)
unfolding facet_by_cone
seen-by_cone x lists e k cones arranged entry within =
    let p : ℕ = e.point in
    let poly : Poly = (point_in x p).poly in
    let list : List ℕ = list_of lists p in
    let facet : List ℕ = facet_list x lists e (facet_at poly k) in
    let j : ℕ = (facet_under poly e.o k).0 in
    let w : ℤ = (facet_under poly e.o k).1 in
    let stands = facet-stands poly e.o k entry.o within in
    let c = carries-at x lists p j cones arranged entry.point stands.facet in
    let q : ℕ = (cone_at x p j).point in
    let covered : Poly = (point_in x q).poly in
    let own : List ℕ = list_of lists q in
    let size : length own ≡ corner_count covered = arranged.corners q c.point in
    let carried : facet ≡ act covered w (act covered (cone_at x p j).o own) = stands.carries list ∙ (λ i. act (sym c.poly i) w (sym c.onto i)) in
    let turn : IsOrientation covered w = subst (λ poly. IsOrientation poly w) (sym c.poly) stands.turn in
    let both = composed covered w (cone_at x p j).o turn c.turn in
    let r : ℤ = composition covered w (cone_at x p j).o in
    let acts : act covered r own ≡ facet = both.1 own ∙ sym carried in
    let leads : relative covered own facet ≡ Some r = relative-leads covered r own facet both.0 size (differ-at x lists q arranged c.point) acts in
    let set : sorted own ≡ sorted facet = sym (sorted-act covered r own both.0 size) ∙ ap sorted acts in
    let found : find (λ (c : ConeEntry). same_set (list_of lists c.point) facet) (point_in x p).covers ≡ Some (cone_at x p j) = found-at x lists p j facet cones arranged entry.point stands.facet set in (
      ap (option_and_then (λ (c : ConeEntry). option_map (cone_entry c.point) (relative (point_in x c.point).poly (list_of lists c.point) facet))) found ∙ ap (option_map (cone_entry q)) leads,
      record { point = c.point; o = both.0 },
    )

-- ---- one entry, one level, all levels

entry-facets : (x : Diagram) (lists : List (List ℕ)) (e : ConeEntry) → HasCones x → IsArranged x lists → IsEntry x e
    → (facets_under x lists e ≡ facets_by_cone x e) × AllByRecursion (IsEntry x) (facets_by_cone x e)
entry-facets x lists e cones arranged entry = (
  filter_map-all (λ (f : Facet). seen_at x lists (point_in x e.point).covers (facet_list x lists e f)) (facet_by_cone x e) (facets_of (point_in x e.point).poly) (record { poly = Vertex; corners = [] }) (cone_entry 0 (pos 0)) (λ k within. (seen-by_cone x lists e k cones arranged entry within).0),
  recursion_from_All (IsEntry x) (facets_by_cone x e) (λ k d within.
      let low : k < length (facets_of (point_in x e.point).poly) = omega (arith, within, length-map (below (length (facets_of (point_in x e.point).poly))) (facet_by_cone x e), length-below (length (facets_of (point_in x e.point).poly))) in
      subst (IsEntry x) (sym (get_or-map-below (facet_by_cone x e) (length (facets_of (point_in x e.point).poly)) k d low)) (seen-by_cone x lists e k cones arranged entry low).1),
)

level-facets : (x : Diagram) (lists : List (List ℕ)) (last : List ConeEntry) → HasCones x → IsArranged x lists → AllByRecursion (IsEntry x) last
    → (flat_map (facets_under x lists) last ≡ flat_map (facets_by_cone x) last) × AllByRecursion (IsEntry x) (flat_map (facets_by_cone x) last)
level-facets x lists [] cones arranged all = (refl, tt)
level-facets x lists (e ∷ es) cones arranged all =
    let first = entry-facets x lists e cones arranged all.0 in
    let rest = level-facets x lists es cones arranged all.1 in (
      flat_map-cons (facets_under x lists) e es ∙ ap₂ (λ (a b : List ConeEntry). a ++ b) first.0 rest.0 ∙ sym (flat_map-cons (facets_by_cone x) e es),
      subst (AllByRecursion (IsEntry x)) (sym (flat_map-cons (facets_by_cone x) e es)) (all_append (IsEntry x) (facets_by_cone x e) (flat_map (facets_by_cone x) es) first.1 rest.1),
    )

-- what all entries have, the new ones have
pub all-new : (P : ConeEntry → Type 0) (there es : List ConeEntry) → AllByRecursion P es → AllByRecursion P (new_points there es)
all-new P there [] all = tt
all-new P there (e ∷ es) all = elim (cases_Bool (covers there e.point)) as (λ _. AllByRecursion P (new_points there (e ∷ es))) [
  | inl h ↦ rw h (all-new P there es all.1)
  | inr h ↦ rw h (all.0, all-new P (e ∷ there) es all.1)
]

levels-same : (x : Diagram) (lists : List (List ℕ)) (n : ℕ) (there last : List ConeEntry) → HasCones x → IsArranged x lists → AllByRecursion (IsEntry x) last
    → levels_by_cones x n there last ≡ levels x lists n there last
levels-same x lists zero there last cones arranged all = refl
levels-same x lists (suc n) there last cones arranged all =
    let both = level-facets x lists last cones arranged all in
    let next : List ConeEntry = new_points there (flat_map (facets_by_cone x) last) in
    levels-same x lists n (there ++ next) next cones arranged (all-new (IsEntry x) there (flat_map (facets_by_cone x) last) both.1)
    ∙ ap (λ (es : List ConeEntry). levels x lists n (there ++ new_points there es) (new_points there es)) (sym both.0)

pub closure-by_cones : (x : Diagram) (lists : List (List ℕ)) (p : ℕ) (o : ℤ) → HasCones x → IsArranged x lists → p < length x.points → IsOrientation (point_in x p).poly o
    → closure_by_cones x p o ≡ closure x lists p o
unfolding closure_by_cones closure
closure-by_cones x lists p o cones arranged low has =
    let here : IsEntry x (cone_entry p o) = record { point = low; o = has } in
    levels-same x lists (dim_of (point_in x p).poly) (cone_entry p o ∷ []) (cone_entry p o ∷ []) cones arranged (here, tt)

pub closure-arranged : (x : Diagram) (lists : List (List ℕ)) (p : ℕ) (o : ℤ) → IsPlex x → IsArranged x lists → p < length x.points → IsOrientation (point_in x p).poly o
    → closure_by_cones x p o ≡ closure x lists p o
closure-arranged x lists p o plex = closure-by_cones x lists p o (plex-cones x plex)
