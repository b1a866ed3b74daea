-- In a diagram the cone entries of points lead to the points that facets of facets reach.
use Rattle.std.proofs.Common.{◌≡◌, ℕ, zero, suc, ◌<◌, Bool, true, false, ◌||◌, ◌==◌, List, [], map, length, get_or, Some, refl, sym, ap, ap₂, ◌∙◌, subst, ⊎_elim}
use Rattle.std.specs.Prelude.{find}
use Rattle.std.specs.List.{list_any, AllByRecursion}
use Rattle.std.proofs.lemmas.Bool.{eqb-true, eq-eqb}
use Rattle.std.proofs.lemmas.List.{get_or-map}
use Rattle.mesh_defs.specs.declared.Poly.{Poly}
use Rattle.mesh_defs.specs.declared.Poly.TheVariants.{Vertex}
use Rattle.mesh_defs.specs.declared.ConeEntry.{ConeEntry}
use Rattle.plain_lists.specs.Lists.{picked}
use Rattle.plain_lists.proofs.Each.{all_weaker}
use Rattle.plain_lists.proofs.Finding.{same_tests, any_map, any_agree, any_weaker, among, stands, find-cases, find-passes, found-any, position-within}
use Rattle.mesh_defs.specs.Tables.{Facet, facets_of}
use Rattle.mesh_defs.specs.Mesh.{Mesh, Cell}
use Rattle.mesh_defs.specs.Points.{Point, Sight, same_point, point_on, point_of, shows, vertex_sight}
use Rattle.mesh_defs.specs.Diagram.{chart, place_in, entry, cone, Covering, diagram}
use Rattle.mesh_defs.specs.Sights.{points_differ}
use Rattle.mesh_laws.proofs.Firsts.{same_point-true, same_point-self, shows-true}
use Rattle.plex_defs.specs.Closure.{point_in}
use Rattle.walk_defs.specs.Cones.{reaches}
use Rattle.rank_laws.proofs.Found.{at-found}
use Rattle.rank_laws.specs.reach_laws.Reached.{reached}
use Rattle.rank_laws.proofs.reach_laws.Tables.{any-flat_map}
use Rattle.rank_laws.proofs.reach_laws.Charts.{own-place}

-- ---- lists with the same points

-- the points of the facets of a list
abbrev pub facet_points : Poly → List ℕ → List Point
facet_points poly vs = map (λ (f : Facet). point_on f.poly (picked vs f.corners)) (facets_of poly)

-- lists of points, each point of which the other has
pub members-agree : (xs ys : List Point) → AllByRecursion (λ x. list_any (same_point x) ys ≡ true) xs → AllByRecursion (λ y. list_any (same_point y) xs ≡ true) ys → (q : Point) → list_any (same_point q) xs ≡ list_any (same_point q) ys
members-agree xs ys a b q = same_tests (list_any (same_point q) xs) (list_any (same_point q) ys) (one xs ys a) (one ys xs b)
  where
    one : (us vs : List Point) → AllByRecursion (λ x. list_any (same_point x) vs ≡ true) us → list_any (same_point q) us ≡ true → list_any (same_point q) vs ≡ true
    one us vs h e = let (x, there, same) = among (λ x. list_any (same_point x) vs ≡ true) (same_point q) us h e in subst (λ p. list_any (same_point p) vs ≡ true) (sym (same_point-true q x same)) there

-- each point of a list is among its points
pub own-members : (xs : List Point) → AllByRecursion (λ x. list_any (same_point x) xs ≡ true) xs
own-members xs = all_weaker (λ x. (p : Point → Bool) → p x ≡ true → list_any p xs ≡ true) (λ x. list_any (same_point x) xs ≡ true) (λ x there. there (same_point x) (same_point-self x)) xs (stands xs)

-- a test passes in both or in none
pub any-through : (test : Point → Bool) (xs ys : List Point) → ((q : Point) → list_any (same_point q) xs ≡ list_any (same_point q) ys) → list_any test xs ≡ list_any test ys
any-through test xs ys h = same_tests (list_any test xs) (list_any test ys) (one xs ys h) (one ys xs (λ q. sym (h q)))
  where
    one : (us vs : List Point) → ((q : Point) → list_any (same_point q) us ≡ list_any (same_point q) vs) → list_any test us ≡ true → list_any test vs ≡ true
    one us vs g e =
        let (x, own, passes) = among (λ x. list_any (same_point x) us ≡ true) test us (own-members us) e in
        any_weaker (same_point x) test (λ y k. subst (λ z. test z ≡ true) (same_point-true x y k) passes) vs (sym (g x) ∙ own)

-- ---- descents

module _ (points : List Sight) where
  abbrev pub Found : Poly → List ℕ → Type 0
  Found poly vs = list_any (shows (point_on poly vs)) points ≡ true

  -- the point as it stands here has the facets of the list
  abbrev pub Agrees : Poly → List ℕ → Type 0
  Agrees poly vs = (s : Sight) → find (shows (point_on poly vs)) points ≡ Some s → (q : Point) → list_any (same_point q) (facet_points s.poly s.arrangement) ≡ list_any (same_point q) (facet_points poly vs)

  -- so do its facets, and theirs, n levels down
  abbrev pub Descends : ℕ → Poly → List ℕ → Type 0
  Descends zero poly vs = Found poly vs
  Descends (suc n) poly vs = Found poly vs × (Agrees poly vs × AllByRecursion (λ (f : Facet). Descends n f.poly (picked vs f.corners)) (facets_of poly))

  abbrev pub sight_at : ℕ → Sight
  sight_at p = get_or points p (vertex_sight 0)

  -- what is found here
  pub found-sight : (q : Point) → list_any (shows q) points ≡ true → (s : Sight) × (find (shows q) points ≡ Some s)
  found-sight q h = ⊎_elim (λ w. w) (λ none. absurd (cc (sym h ∙ none))) (find-cases (shows q) points)

  -- a point stands at a place just where the sight there shows it
  place-is : points_differ points ≡ true → (q : Point) → list_any (shows q) points ≡ true → (p : ℕ) → p < length points → (place_in points q == p) ≡ same_point (point_of (sight_at p)) q
  place-is differ q there p low = same_tests (place_in points q == p) (same_point (point_of (sight_at p)) q)
      (λ h. let (s, found) = found-sight q there in
      let here : sight_at p ≡ s = ap sight_at (sym (eqb-true (place_in points q) p h)) ∙ at-found (shows q) points s (vertex_sight 0) found in
      subst (λ r. same_point r q ≡ true) (shows-true q s (find-passes (shows q) points s found) ∙ ap point_of (sym here)) (same_point-self q))
      (λ h. eq-eqb (place_in points q) p (ap (place_in points) (sym (same_point-true (point_of (sight_at p)) q h)) ∙ own-place points differ p (vertex_sight 0) low))

module _ (m : Mesh) (cells : List (ℕ × Cell)) (differ : points_differ (chart m cells) ≡ true) where
  drawn : Sight → Covering
  drawn s = record { poly = s.poly; covers = cone m (place_in (chart m cells)) s }

  -- the point at the place of what is found
  point-found : (q : Point) (s : Sight) → find (shows q) (chart m cells) ≡ Some s → point_in (diagram m cells) (place_in (chart m cells) q) ≡ drawn s
  unfolding diagram drawn
  point-found q s found =
      get_or-map drawn (chart m cells) (place_in (chart m cells) q) (vertex_sight 0) (record { poly = Vertex; covers = [] }) (position-within (shows q) (chart m cells) (found-any (shows q) (chart m cells) s found))
      ∙ ap drawn (at-found (shows q) (chart m cells) s (vertex_sight 0) found)

  -- what the entries of its cone reach
  covers-reach : (n p : ℕ) (poly : Poly) (vs : List ℕ) (s : Sight) → find (shows (point_on poly vs)) (chart m cells) ≡ Some s → Agrees (chart m cells) poly vs
      → list_any (λ (e : ConeEntry). reaches (diagram m cells) n p e.point) (point_in (diagram m cells) (place_in (chart m cells) (point_on poly vs))).covers ≡ list_any (λ (f : Facet). reaches (diagram m cells) n p (place_in (chart m cells) (point_on f.poly (picked vs f.corners)))) (facets_of poly)
  unfolding drawn cone entry
  covers-reach n p poly vs s found agrees =
      ap (λ (c : Covering). list_any (λ (e : ConeEntry). reaches (diagram m cells) n p e.point) c.covers) (point-found (point_on poly vs) s found)
      ∙ (any_map (λ (e : ConeEntry). reaches (diagram m cells) n p e.point) (entry m (place_in (chart m cells)) s.arrangement) (facets_of s.poly)
      ∙ (sym (any_map test (λ (f : Facet). point_on f.poly (picked s.arrangement f.corners)) (facets_of s.poly))
      ∙ (any-through test (facet_points s.poly s.arrangement) (facet_points poly vs) (agrees s found)
      ∙ any_map test (λ (f : Facet). point_on f.poly (picked vs f.corners)) (facets_of poly))))
    where
      test : Point → Bool
      test q = reaches (diagram m cells) n p (place_in (chart m cells) q)

  pub descent-reaches : (n : ℕ) (poly : Poly) (vs : List ℕ) (p : ℕ) → p < length (chart m cells) → Descends (chart m cells) n poly vs
      → reaches (diagram m cells) n p (place_in (chart m cells) (point_on poly vs)) ≡ list_any (same_point (point_of (sight_at (chart m cells) p))) (reached n poly vs)
  descent-reaches zero poly vs p low d = place-is (chart m cells) differ (point_on poly vs) d p low ∙ last (same_point (point_of (sight_at (chart m cells) p)) (point_on poly vs))
    where
      last : (b : Bool) → b ≡ (b || false)
      last true = refl
      last false = refl
  descent-reaches (suc n) poly vs p low d =
      let (s, found) = found-sight (chart m cells) (point_on poly vs) d.0 in
      ap₂ (λ a b. a || b) (place-is (chart m cells) differ (point_on poly vs) d.0 p low)
      (covers-reach n p poly vs s found d.1.0
      ∙ (any_agree (λ (f : Facet). reaches (diagram m cells) n p (place_in (chart m cells) (point_on f.poly (picked vs f.corners)))) (λ (f : Facet). list_any (same_point (point_of (sight_at (chart m cells) p))) (reached n f.poly (picked vs f.corners))) (facets_of poly)
      (all_weaker (λ (f : Facet). Descends (chart m cells) n f.poly (picked vs f.corners)) (λ (f : Facet). reaches (diagram m cells) n p (place_in (chart m cells) (point_on f.poly (picked vs f.corners))) ≡ list_any (same_point (point_of (sight_at (chart m cells) p))) (reached n f.poly (picked vs f.corners)))
      (λ f e. descent-reaches n f.poly (picked vs f.corners) p low e) (facets_of poly) d.1.1)
      ∙ sym (any-flat_map (same_point (point_of (sight_at (chart m cells) p))) (λ (f : Facet). reached n f.poly (picked vs f.corners)) (facets_of poly))))
