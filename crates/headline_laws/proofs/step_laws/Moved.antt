-- Closures in two diagrams, where the points of the one are points of the other under other numbers.
use Rattle.std.proofs.Common.{◌≡◌, ℕ, zero, suc, ◌<◌, Bool, true, false, cond, ◌==◌, List, [], ◌∷◌, ◌++◌, map, length, Option, Some, None, ℤ, refl, sym, ap, ap₂, ◌∙◌}
use Rattle.std.specs.Prelude.{filter_map, find, flat_map, option_map, option_and_then}
use Rattle.std.specs.List.{AllByRecursion, cons_option}
use Rattle.std.proofs.lemmas.Bool.{eq-eqb, eqb-true}
use Rattle.std.proofs.lemmas.List.{map-append}
use Rattle.plain_lists.specs.Lists.{same_set, picked}
use Rattle.plain_lists.proofs.Each.{all_append, all_weaker, all_flat_map}
use Rattle.plain_lists.proofs.Finding.{same_tests, find_agree, find-map, find-has, any_map, any_agree}
use Rattle.mesh_defs.specs.declared.ConeEntry.{ConeEntry}
use Rattle.mesh_defs.specs.Tables.{Facet, dim_of, facets_of}
use Rattle.mesh_defs.specs.Orientation.{act, relative}
use Rattle.mesh_defs.specs.Diagram.{Diagram}
use Rattle.plex_defs.specs.Closure.{point_in, cone_entry, covers, list_of, facet_list, seen_at, facets_under, new_points, levels, closure}

-- an entry of the point that has another number
abbrev pub moved : (ℕ → ℕ) → ConeEntry → ConeEntry
moved f e = cone_entry (f e.point) e.o

-- Each point of `x` stands in `y` under a number of its own, with the same polytope, list and cone.
pub record IsMoved (f : ℕ → ℕ) (x y : Diagram) (mine others : List (List ℕ)) : Type 0 where
  pub poly : (p : ℕ) → p < length x.points → (point_in y (f p)).poly ≡ (point_in x p).poly
  pub cones : (p : ℕ) → p < length x.points → (point_in y (f p)).covers ≡ map (moved f) (point_in x p).covers
  pub lists : (p : ℕ) → p < length x.points → list_of others (f p) ≡ list_of mine p
  pub within : (p : ℕ) → p < length x.points → AllByRecursion (λ (e : ConeEntry). e.point < length x.points) (point_in x p).covers
  pub different : (p q : ℕ) → p < length x.points → q < length x.points → f p ≡ f q → p ≡ q

-- ---- lists

-- what is found for each, under other numbers
found-moved : {X Y Z : Type 0} (f : Y → Z) (g : X → Option Z) (h : X → Option Y) (xs : List X) → ((x : X) → g x ≡ option_map f (h x)) → filter_map g xs ≡ map f (filter_map h xs)
found-moved f g h [] same = refl
found-moved {Y = Y} f g h (x ∷ xs) same = ap (λ o. cons_option o (filter_map g xs)) (same x) ∙ go (h x) (found-moved f g h xs same)
  where
    go : (o : Option Y) → filter_map g xs ≡ map f (filter_map h xs) → cons_option (option_map f o) (filter_map g xs) ≡ map f (cons_option o (filter_map h xs))
    go None r = r
    go (Some y) r = ap (λ l. f y ∷ l) r

module _ (f : ℕ → ℕ) (x y : Diagram) (mine others : List (List ℕ)) (is : IsMoved f x y mine others) where
  -- the entry is of a point of x
  abbrev Within : ConeEntry → Type 0
  Within e = e.point < length x.points

  -- ---- facets

  -- what covers a facet
  seen-moved : (cs : List ConeEntry) (facet : List ℕ) → AllByRecursion Within cs → seen_at y others (map (moved f) cs) facet ≡ option_map (moved f) (seen_at x mine cs facet)
  seen-moved cs facet within =
      ap (option_and_then there) (find-map (λ (c : ConeEntry). same_set (list_of others c.point) facet) (moved f) cs
      ∙ ap (option_map (moved f)) (find_agree (λ (c : ConeEntry). same_set (list_of others (f c.point)) facet) (λ (c : ConeEntry). same_set (list_of mine c.point) facet) cs
      (all_weaker Within (λ (c : ConeEntry). same_set (list_of others (f c.point)) facet ≡ same_set (list_of mine c.point) facet) (λ c low. ap (λ l. same_set l facet) (is.lists c.point low)) cs within)))
      ∙ go (find (λ (c : ConeEntry). same_set (list_of mine c.point) facet) cs) refl
    where
      there : ConeEntry → Option ConeEntry
      there c = option_map (cone_entry c.point) (relative (point_in y c.point).poly (list_of others c.point) facet)

      here : ConeEntry → Option ConeEntry
      here c = option_map (cone_entry c.point) (relative (point_in x c.point).poly (list_of mine c.point) facet)

      turned : (p : ℕ) (o : Option ℤ) → option_map (cone_entry (f p)) o ≡ option_map (moved f) (option_map (cone_entry p) o)
      turned p None = refl
      turned p (Some o) = refl

      go : (o : Option ConeEntry) → find (λ (c : ConeEntry). same_set (list_of mine c.point) facet) cs ≡ o → option_and_then there (option_map (moved f) o) ≡ option_map (moved f) (option_and_then here o)
      go None e = refl
      go (Some c) e =
          let low : c.point < length x.points = find-has Within (λ (c : ConeEntry). same_set (list_of mine c.point) facet) cs c within e in
          (λ i. option_map (cone_entry (f c.point)) (relative (is.poly c.point low i) (is.lists c.point low i) facet))
          ∙ turned c.point (relative (point_in x c.point).poly (list_of mine c.point) facet)

  seen-within : (cs : List ConeEntry) (facet : List ℕ) → AllByRecursion Within cs → (e : ConeEntry) → seen_at x mine cs facet ≡ Some e → Within e
  seen-within cs facet within e = go (find (λ (c : ConeEntry). same_set (list_of mine c.point) facet) cs) refl
    where
      turned : (c : ConeEntry) → Within c → (o : Option ℤ) → option_map (cone_entry c.point) o ≡ Some e → Within e
      turned c low None h = absurd (cc h)
      turned c low (Some o) h = let same : cone_entry c.point o ≡ e = cc h in coe 0 1 (i. (same i).point < length x.points) low

      go : (o : Option ConeEntry) → find (λ (c : ConeEntry). same_set (list_of mine c.point) facet) cs ≡ o
          → option_and_then (λ (c : ConeEntry). option_map (cone_entry c.point) (relative (point_in x c.point).poly (list_of mine c.point) facet)) o ≡ Some e → Within e
      go None h t = absurd (cc t)
      go (Some c) h t = turned c (find-has Within (λ (c : ConeEntry). same_set (list_of mine c.point) facet) cs c within h) (relative (point_in x c.point).poly (list_of mine c.point) facet) t

  facets-moved : (e : ConeEntry) → Within e → facets_under y others (moved f e) ≡ map (moved f) (facets_under x mine e)
  facets-moved e low =
      (λ i. filter_map (λ (k : Facet). seen_at y others (is.cones e.point low i) (picked (act (is.poly e.point low i) e.o (is.lists e.point low i)) k.corners)) (facets_of (is.poly e.point low i)))
      ∙ found-moved (moved f) (λ (k : Facet). seen_at y others (map (moved f) (point_in x e.point).covers) (facet_list x mine e k)) (λ (k : Facet). seen_at x mine (point_in x e.point).covers (facet_list x mine e k)) (facets_of (point_in x e.point).poly)
      (λ k. seen-moved (point_in x e.point).covers (facet_list x mine e k) (is.within e.point low))

  given-within : {X : Type 0} (h : X → Option ConeEntry) → ((z : X) (e : ConeEntry) → h z ≡ Some e → Within e) → (zs : List X) → AllByRecursion Within (filter_map h zs)
  given-within h each [] = tt
  given-within h each (z ∷ zs) = go (h z) refl (given-within h each zs)
    where
      go : (o : Option ConeEntry) → h z ≡ o → AllByRecursion Within (filter_map h zs) → AllByRecursion Within (cons_option o (filter_map h zs))
      go None e r = r
      go (Some c) e r = (each z c e, r)

  facets-within : (e : ConeEntry) → Within e → AllByRecursion Within (facets_under x mine e)
  facets-within e low = given-within (λ (k : Facet). seen_at x mine (point_in x e.point).covers (facet_list x mine e k)) (λ k. seen-within (point_in x e.point).covers (facet_list x mine e k) (is.within e.point low)) (facets_of (point_in x e.point).poly)

  -- ---- levels

  covers-moved : (es : List ConeEntry) (p : ℕ) → AllByRecursion Within es → p < length x.points → covers (map (moved f) es) (f p) ≡ covers es p
  covers-moved es p within low =
      any_map (λ (e : ConeEntry). e.point == f p) (moved f) es
      ∙ any_agree (λ (e : ConeEntry). f e.point == f p) (λ (e : ConeEntry). e.point == p) es
      (all_weaker Within (λ (e : ConeEntry). (f e.point == f p) ≡ (e.point == p))
      (λ e lower. same_tests (f e.point == f p) (e.point == p) (λ h. eq-eqb e.point p (is.different e.point p lower low (eqb-true (f e.point) (f p) h))) (λ h. eq-eqb (f e.point) (f p) (ap f (eqb-true e.point p h)))) es within)

  new-moved : (there es : List ConeEntry) → AllByRecursion Within there → AllByRecursion Within es → new_points (map (moved f) there) (map (moved f) es) ≡ map (moved f) (new_points there es)
  new-moved there [] h g = refl
  new-moved there (e ∷ es) h g = ap (λ b. cond b (new_points (map (moved f) there) (map (moved f) es)) (moved f e ∷ new_points (moved f e ∷ map (moved f) there) (map (moved f) es))) (covers-moved there e.point h g.0)
      ∙ go (covers there e.point) (new-moved there es h g.1) (new-moved (e ∷ there) es (g.0, h) g.1)
    where
      go : (b : Bool) → new_points (map (moved f) there) (map (moved f) es) ≡ map (moved f) (new_points there es) → new_points (moved f e ∷ map (moved f) there) (map (moved f) es) ≡ map (moved f) (new_points (e ∷ there) es)
          → cond b (new_points (map (moved f) there) (map (moved f) es)) (moved f e ∷ new_points (moved f e ∷ map (moved f) there) (map (moved f) es)) ≡ map (moved f) (cond b (new_points there es) (e ∷ new_points (e ∷ there) es))
      go true r s = r
      go false r s = ap (λ l. moved f e ∷ l) s

  new-within : (there es : List ConeEntry) → AllByRecursion Within es → AllByRecursion Within (new_points there es)
  new-within there [] g = tt
  new-within there (e ∷ es) g = go (covers there e.point) (new-within there es g.1) (new-within (e ∷ there) es g.1)
    where
      go : (b : Bool) → AllByRecursion Within (new_points there es) → AllByRecursion Within (new_points (e ∷ there) es) → AllByRecursion Within (cond b (new_points there es) (e ∷ new_points (e ∷ there) es))
      go true r s = r
      go false r s = (g.0, s)

  -- the facets of all entries of a level
  level-moved : (es : List ConeEntry) → AllByRecursion Within es → flat_map (facets_under y others) (map (moved f) es) ≡ map (moved f) (flat_map (facets_under x mine) es)
  level-moved [] h = refl
  level-moved (e ∷ es) h = ap₂ (λ a b. a ++ b) (facets-moved e h.0) (level-moved es h.1) ∙ sym (map-append (moved f) (facets_under x mine e) (flat_map (facets_under x mine) es))

  level-within : (es : List ConeEntry) → AllByRecursion Within es → AllByRecursion Within (flat_map (facets_under x mine) es)
  level-within es h = all_flat_map Within (facets_under x mine) es (all_weaker Within (λ e. AllByRecursion Within (facets_under x mine e)) facets-within es h)

  levels-moved : (n : ℕ) (there last : List ConeEntry) → AllByRecursion Within there → AllByRecursion Within last → levels y others n (map (moved f) there) (map (moved f) last) ≡ map (moved f) (levels x mine n there last)
  levels-moved zero there last h g = refl
  levels-moved (suc n) there last h g =
      let next = new_points there (flat_map (facets_under x mine) last) in
      let found : new_points (map (moved f) there) (flat_map (facets_under y others) (map (moved f) last)) ≡ map (moved f) next
      = ap (new_points (map (moved f) there)) (level-moved last g) ∙ new-moved there (flat_map (facets_under x mine) last) h (level-within last g) in
      let inside : AllByRecursion Within next = new-within there (flat_map (facets_under x mine) last) (level-within last g) in
      (λ i. levels y others n (map (moved f) there ++ found i) (found i))
      ∙ ap (λ l. levels y others n l (map (moved f) next)) (sym (map-append (moved f) there next))
      ∙ levels-moved n (there ++ next) next (all_append Within there next h inside) inside

  levels-within : (n : ℕ) (there last : List ConeEntry) → AllByRecursion Within there → AllByRecursion Within last → AllByRecursion Within (levels x mine n there last)
  levels-within zero there last h g = h
  levels-within (suc n) there last h g =
      let next = new_points there (flat_map (facets_under x mine) last) in
      let inside : AllByRecursion Within next = new-within there (flat_map (facets_under x mine) last) (level-within last g) in
      levels-within n (there ++ next) next (all_append Within there next h inside) inside

  -- the closure of a point, under the other numbers
  pub closure-moved : (p : ℕ) (o : ℤ) → p < length x.points → closure y others (f p) o ≡ map (moved f) (closure x mine p o)
  unfolding closure
  closure-moved p o low =
      ap (λ q. levels y others (dim_of q) (cone_entry (f p) o ∷ []) (cone_entry (f p) o ∷ [])) (is.poly p low)
      ∙ levels-moved (dim_of (point_in x p).poly) (cone_entry p o ∷ []) (cone_entry p o ∷ []) (low, tt) (low, tt)

  pub closure-within : (p : ℕ) (o : ℤ) → p < length x.points → AllByRecursion (λ (e : ConeEntry). e.point < length x.points) (closure x mine p o)
  unfolding closure
  closure-within p o low = levels-within (dim_of (point_in x p).poly) (cone_entry p o ∷ []) (cone_entry p o ∷ []) (low, tt) (low, tt)
