-- Points by keys stand one way: in the order of their keys.
use Rattle.std.proofs.Common.{◌≡◌, ◌⊎◌, ℕ, zero, suc, ◌<◌, Bool, true, false, cond, ◌==◌, List, [], ◌∷◌, map, Contains, refl, sym, ap, ◌∙◌, inl, inr, ⊎_elim, arith}
use Rattle.std.specs.List.{AllByRecursion}
use Rattle.std.proofs.lemmas.List.Elements.{All-contains_itself, recursion_from_All}
use Rattle.plain_lists.proofs.Each.{all_filter, all_mapped, all_contained}
use Rattle.mesh_defs.specs.Mesh.{Mesh, Cell}
use Rattle.mesh_defs.specs.Points.{Sight, point_of}
use Rattle.mesh_defs.specs.Diagram.{stratum}
use Rattle.mesh_defs.specs.RightMesh.{in_some}
use Rattle.sf_defs.specs.Asks.{IsRising}
use Rattle.rank_laws.specs.orient_laws.Named.{keys_of, chart_stratum}
use Rattle.rank_laws.proofs.orient_laws.Tops.{key-names}
use Rattle.rank_laws.specs.keyed_laws.Keyed.{KeyedPoint, KeyedChart, point_keys, keyed_point, keyed_stratum, keyed_chart, IsKeyedPoint, IsToldChart}

-- ---- what a list has

first-or_later : {X : Type 0} (x y : X) (ys : List X) → Contains (y ∷ ys) x → (y ≡ x) ⊎ Contains ys x
first-or_later x y ys (zero, low, same) = inl same
first-or_later x y ys (suc k, low, same) = inr (k, omega (arith, low), same)

has-first : {X : Type 0} (x : X) (xs : List X) → Contains (x ∷ xs) x
has-first x xs = (zero, omega arith, refl)

has-later : {X : Type 0} (x y : X) (ys : List X) → Contains ys x → Contains (y ∷ ys) x
has-later x y ys (k, low, same) = (suc k, omega (arith, low), same)

-- ---- rising lists with the same elements

module _ {X : Type 0} (key : X → ℕ) where
  -- what stands behind the first has a greater key
  behind : (x y : X) (xs : List X) → IsRising (map key (x ∷ xs)) → Contains xs y → key x < key y
  behind x y xs h c = all_contained (λ z. key x < key z) xs y (all_mapped (λ k. key x < k) key xs h.0) c

  pub rising-same : (xs ys : List X) → IsRising (map key xs) → IsRising (map key ys) → ((x : X) → Contains xs x → Contains ys x) → ((x : X) → Contains ys x → Contains xs x) → xs ≡ ys
  rising-same [] [] r q f g = refl
  rising-same [] (y ∷ ys) r q f g = let c = g y (has-first y ys) in absurd (omega (arith, c.1))
  rising-same (x ∷ xs) [] r q f g = let c = f x (has-first x xs) in absurd (omega (arith, c.1))
  rising-same (x ∷ xs) (y ∷ ys) r q f g = λ i. same i ∷ rising-same xs ys r.1 q.1 (rest xs ys x y (sym same) r f) (rest ys xs y x same q g) i
    where
      same : x ≡ y
      same = ⊎_elim (λ e. sym e)
          (λ c. ⊎_elim (λ e. e) (λ d. absurd (let low = behind y x ys q c in let high = behind x y xs r d in omega (arith, low, high))) (first-or_later y x xs (g y (has-first y ys))))
          (first-or_later x y ys (f x (has-first x xs)))

      rest : (us vs : List X) (u v : X) → v ≡ u → IsRising (map key (u ∷ us)) → ((z : X) → Contains (u ∷ us) z → Contains (v ∷ vs) z) → (z : X) → Contains us z → Contains vs z
      rest us vs u v e rises h z c = ⊎_elim (λ s. absurd (let up = behind u z us rises c in omega (arith, up, ap key (sym e ∙ s)))) (λ d. d) (first-or_later z v vs (h z (has-later z u us c)))

-- points by rising key
pub points-same : (xs ys : List KeyedPoint) → IsRising (point_keys xs) → IsRising (point_keys ys) → ((q : KeyedPoint) → Contains xs q → Contains ys q) → ((q : KeyedPoint) → Contains ys q → Contains xs q) → xs ≡ ys
points-same = rising-same (λ (q : KeyedPoint). q.key)

-- ---- points of a mesh

module _ (m : Mesh) (dim : ℕ) where
  -- points that are told alike where their keys are those of points of the mesh
  told-alike : (qs : List KeyedPoint) (ss : List Sight) → AllByRecursion (IsKeyedPoint m dim) qs → AllByRecursion (Contains (stratum m dim)) ss → point_keys qs ≡ keys_of ss → qs ≡ map (keyed_point m) ss
  unfolding keyed_point
  told-alike [] [] f g e = refl
  told-alike [] (s ∷ ss) f g e = absurd (cc e)
  told-alike (q ∷ qs) [] f g e = absurd (cc e)
  told-alike (q ∷ qs) (s ∷ ss) f g e =
      let rests : point_keys qs ≡ keys_of ss = cc e in
      let keys : q.key ≡ s.key = cc e in
      let named : f.0.sight ≡ s = key-names m dim f.0.sight s f.0.there g.0 (ap (λ (p : KeyedPoint). p.key) (sym f.0.told) ∙ keys) in
      let same : q ≡ keyed_point m s = f.0.told ∙ ap (keyed_point m) named in
      λ i. same i ∷ told-alike qs ss f.1 g.1 rests i

  pub stratum-told : (cells : List (ℕ × Cell)) (qs : List KeyedPoint) → AllByRecursion (IsKeyedPoint m dim) qs → point_keys qs ≡ keys_of (chart_stratum m cells dim) → qs ≡ keyed_stratum m cells dim
  unfolding keyed_stratum chart_stratum
  stratum-told cells qs f e = told-alike qs (chart_stratum m cells dim) f (all_filter (Contains (stratum m dim)) (λ s. in_some (point_of s) cells) (stratum m dim) (recursion_from_All (Contains (stratum m dim)) (stratum m dim) (All-contains_itself (stratum m dim)))) e

-- all strata
pub chart-told : (m : Mesh) (cells : List (ℕ × Cell)) (x : KeyedChart) → IsToldChart m cells x → x ≡ keyed_chart m cells
unfolding keyed_chart
chart-told m cells x h = λ i. record {
  dim = h.dim i;
  cells = stratum-told m m.dim cells x.cells h.cells.told h.cells.keys i;
  vertices = stratum-told m 0 cells x.vertices h.vertices.told h.vertices.keys i;
  faces = faces-told (m.dim == 3) refl i;
  edges = stratum-told m 1 cells x.edges h.edges.told h.edges.keys i;
}
  where
    faces-told : (b : Bool) → (m.dim == 3) ≡ b → x.faces ≡ cond (m.dim == 3) (keyed_stratum m cells 2) []
    faces-told true e = let faces = h.faces e in stratum-told m 2 cells x.faces faces.told faces.keys ∙ sym (ap (λ b. cond b (keyed_stratum m cells 2) []) e)
    faces-told false e = h.no_faces e ∙ sym (ap (λ b. cond b (keyed_stratum m cells 2) []) e)
