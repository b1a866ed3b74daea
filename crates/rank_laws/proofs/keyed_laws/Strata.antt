-- The number of a point in a chart, by its key.
use Rattle.std.proofs.Common.{◌≡◌, ◌≢◌, ℕ, ◌+◌, Bool, true, false, cond, ◌||◌, ◌==◌, List, [], ◌++◌, map, length, Some, refl, sym, ap, ap₂, ◌∙◌, subst, inl, inr, ⊎_elim, arith, length-append}
use Rattle.std.specs.Prelude.{option_map}
use Rattle.std.specs.List.{list_any, position_or_len, AllByRecursion}
use Rattle.std.proofs.lemmas.Bool.{eqb-true, eq-eqb, ne_eqb, or_cases, both_ways, cond-true, cond-false}
use Rattle.std.proofs.lemmas.List.{length-map}
use Rattle.std.proofs.lemmas.List.Folds.{list_any-append}
use Rattle.plain_lists.proofs.Each.{all_weaker, all_both, all_filter, all_append_first, all_append_second}
use Rattle.plain_lists.proofs.Finding.{same_tests, among, position-append_found, position-append_none, position_agree, position_map}
use Rattle.mesh_defs.specs.Mesh.{Mesh, Cell, placed_cells}
use Rattle.mesh_defs.specs.Points.{Point, Sight, point_of, shows, vertex_sights, first_sight, key}
use Rattle.mesh_defs.specs.Diagram.{stratum, strata, chart, place_in}
use Rattle.mesh_defs.specs.RightMesh.{IsFlatOrSolid, in_some}
use Rattle.mesh_laws.proofs.Firsts.{shows-true}
use Rattle.rank_laws.proofs.diagram_laws.Edges.{OfDim, none-of_dim, vertices-of_dim}
use Rattle.rank_defs.specs.Spread.{own_stratum}
use Rattle.rank_laws.proofs.share_laws.Own.{own-of_dim}
use Rattle.rank_laws.proofs.Strata.{strata-first}
use Rattle.rank_laws.specs.orient_laws.Named.{chart_stratum}
use Rattle.rank_laws.proofs.orient_laws.Seen.{shown-dim}
use Rattle.rank_laws.proofs.orient_laws.ByKey.{chart-strata}
use Rattle.rank_laws.proofs.orient_laws.OwnSights.{key-once}
use Rattle.rank_laws.proofs.orient_laws.Tops.{chart_stratum-rising}
use Rattle.rank_laws.specs.keyed_laws.Keyed.{KeyedPoint, keyed_point, keyed_stratum, keyed_chart, place_of_key, keyed_place}

-- it stands as its point is first seen
abbrev pub IsFirst : Mesh → Sight → Type 0
IsFirst m s = first_sight m (point_of s) ≡ Some s

-- the points of a stratum have its dimension
pub stratum-of_dim : (m : Mesh) (d : ℕ) → AllByRecursion (OfDim d) (stratum m d)
unfolding stratum
stratum-of_dim m d = go (d == 0) refl
  where
    go : (b : Bool) → (d == 0) ≡ b → AllByRecursion (OfDim d) (cond b (vertex_sights m) (own_stratum (placed_cells m) d))
    go true e = all_weaker (OfDim 0) (OfDim d) (λ s f. f ∙ sym (eqb-true d 0 e)) (vertex_sights m) (vertices-of_dim (length m.at))
    go false e = own-of_dim m (placed_cells m) d

module _ (m : Mesh) (cells : List (ℕ × Cell)) where
  abbrev pub part : ℕ → List Sight
  part d = chart_stratum m cells d

  -- the faces of a solid mesh
  abbrev pub face_part : List Sight
  face_part = cond (m.dim == 3) (chart_stratum m cells 2) []

  pub part-of_dim : (d : ℕ) → AllByRecursion (OfDim d) (part d)
  unfolding chart_stratum
  part-of_dim d = all_filter (OfDim d) (λ s. in_some (point_of s) cells) (stratum m d) (stratum-of_dim m d)

  pub faces-of_dim : AllByRecursion (OfDim 2) face_part
  faces-of_dim = go (m.dim == 3)
    where
      go : (b : Bool) → AllByRecursion (OfDim 2) (cond b (chart_stratum m cells 2) [])
      go true = part-of_dim 2
      go false = tt

  -- the points of a chart stand as they are first seen
  pub chart-first : AllByRecursion (IsFirst m) (chart m cells)
  unfolding chart
  chart-first = all_filter (IsFirst m) (λ s. in_some (point_of s) cells) (strata m) (strata-first m)

-- Among points that their keys tell apart, each as it is first seen, a point is found by its key.
by-keys : (m : Mesh) (p : Point) (k : ℕ) (ss : List Sight) → AllByRecursion (λ (s : Sight). AllByRecursion (λ (t : Sight). s.key ≡ t.key → s ≡ t) ss) ss → AllByRecursion (IsFirst m) ss → key m p ≡ Some k → list_any (shows p) ss ≡ true
    → position_or_len (shows p) ss ≡ position_or_len (λ (s : Sight). s.key == k) ss
unfolding key
by-keys m p k ss once first named there =
    let (t, (own, tells), shown) = among (λ (s : Sight). IsFirst m s × AllByRecursion (λ (t : Sight). s.key ≡ t.key → s ≡ t) ss) (shows p) ss (all_both (IsFirst m) (λ (s : Sight). AllByRecursion (λ (t : Sight). s.key ≡ t.key → s ≡ t) ss) _ (λ s f g. (f, g)) ss first once) there in
    let here : t.key ≡ k = cc (sym (ap (option_map (λ (s : Sight). s.key)) (ap (first_sight m) (shows-true p t shown) ∙ own)) ∙ named) in
    position_agree (shows p) (λ (s : Sight). s.key == k) ss (all_both (IsFirst m) (λ (u : Sight). t.key ≡ u.key → t ≡ u) (λ u. shows p u ≡ (u.key == k))
    (λ u f g. same_tests (shows p u) (u.key == k)
    (λ e. eq-eqb u.key k (cc (sym (ap (option_map (λ (s : Sight). s.key)) (ap (first_sight m) (shows-true p u e) ∙ f)) ∙ named)))
    (λ e. subst (λ v. shows p v ≡ true) (g (here ∙ sym (eqb-true u.key k e))) shown)) ss first tells)

-- what some points of one dimension show has the dimension
dim-shown : (p : Point) (d : ℕ) (ss : List Sight) → AllByRecursion (OfDim d) ss → list_any (shows p) ss ≡ true → p.dim ≡ d
dim-shown p d ss h e = let (s, is, shown) = among (OfDim d) (shows p) ss h e in shown-dim p s shown ∙ is

-- ---- the number of a point

module _ (m : Mesh) (cells : List (ℕ × Cell)) (dims : IsFlatOrSolid m) where
  -- the parts of the chart, each point as it is first seen
  parts-first : AllByRecursion (IsFirst m) (part m cells m.dim) × AllByRecursion (IsFirst m) (part m cells 0) × AllByRecursion (IsFirst m) (face_part m cells) × AllByRecursion (IsFirst m) (part m cells 1)
  parts-first =
      let all = subst (AllByRecursion (IsFirst m)) (chart-strata m cells) (chart-first m cells) in
      let three = all_append_first (IsFirst m) (part m cells m.dim ++ part m cells 0 ++ face_part m cells) (part m cells 1) all in
      let two = all_append_first (IsFirst m) (part m cells m.dim ++ part m cells 0) (face_part m cells) three in (
        all_append_first (IsFirst m) (part m cells m.dim) (part m cells 0) two,
        all_append_second (IsFirst m) (part m cells m.dim) (part m cells 0) two,
        all_append_second (IsFirst m) (part m cells m.dim ++ part m cells 0) (face_part m cells) three,
        all_append_second (IsFirst m) (part m cells m.dim ++ part m cells 0 ++ face_part m cells) (part m cells 1) all,
      )

  faces-once : AllByRecursion (λ (s : Sight). AllByRecursion (λ (t : Sight). s.key ≡ t.key → s ≡ t) (face_part m cells)) (face_part m cells)
  faces-once = go (m.dim == 3)
    where
      go : (b : Bool) → AllByRecursion (λ (s : Sight). AllByRecursion (λ (t : Sight). s.key ≡ t.key → s ≡ t) (cond b (chart_stratum m cells 2) [])) (cond b (chart_stratum m cells 2) [])
      go true = key-once (chart_stratum m cells 2) (chart_stratum-rising m cells 2)
      go false = tt

  -- the faces by keys
  pub faces-keyed : cond (m.dim == 3) (keyed_stratum m cells 2) [] ≡ map (keyed_point m) (face_part m cells)
  unfolding keyed_stratum
  faces-keyed = go (m.dim == 3)
    where
      go : (b : Bool) → cond b (map (keyed_point m) (chart_stratum m cells 2)) [] ≡ map (keyed_point m) (cond b (chart_stratum m cells 2) [])
      go true = refl
      go false = refl

  not_edges : m.dim ≢ 1
  not_edges e = go dims
    where
      go : IsFlatOrSolid m → ⊥
      go (inl flat) = absurd (omega (arith, flat, e))
      go (inr solid) = absurd (omega (arith, solid, e))

  not_vertices : m.dim ≢ 0
  not_vertices e = go dims
    where
      go : IsFlatOrSolid m → ⊥
      go (inl flat) = absurd (omega (arith, flat, e))
      go (inr solid) = absurd (omega (arith, solid, e))

  -- the faces of a solid mesh are not its cells
  faces-lower : (p : Point) → list_any (shows p) (face_part m cells) ≡ true → m.dim ≢ 2
  faces-lower p h e = both_ways (list_any (shows p) (face_part m cells)) (ap (λ b. list_any (shows p) (cond b (chart_stratum m cells 2) [])) (ne_eqb m.dim 3 (λ solid. absurd (omega (arith, solid, e))))) h

  module _ (p : Point) (k : ℕ) (named : key m p ≡ Some k) where
    -- among the points of its dimension
    in-list : (ss : List Sight) → AllByRecursion (λ (s : Sight). AllByRecursion (λ (t : Sight). s.key ≡ t.key → s ≡ t) ss) ss → AllByRecursion (IsFirst m) ss → list_any (shows p) ss ≡ true → position_or_len (shows p) ss ≡ place_of_key (map (keyed_point m) ss) k
    unfolding keyed_point
    in-list ss once first h = by-keys m p k ss once first named h ∙ sym (position_map (λ (q : KeyedPoint). q.key == k) (keyed_point m) ss)

    once : (d : ℕ) → AllByRecursion (λ (s : Sight). AllByRecursion (λ (t : Sight). s.key ≡ t.key → s ≡ t) (part m cells d)) (part m cells d)
    once d = key-once (part m cells d) (chart_stratum-rising m cells d)

    Placed : Type 0
    Placed = position_or_len (shows p) (part m cells m.dim ++ part m cells 0 ++ face_part m cells ++ part m cells 1) ≡ keyed_place (keyed_chart m cells) p.dim k

    top : list_any (shows p) (part m cells m.dim) ≡ true → Placed
    unfolding Placed keyed_place keyed_chart keyed_stratum
    top h =
        let two = list_any-append (shows p) (part m cells m.dim) (part m cells 0) ∙ ap (λ t. t || list_any (shows p) (part m cells 0)) h in
        let three = list_any-append (shows p) (part m cells m.dim ++ part m cells 0) (face_part m cells) ∙ ap (λ t. t || list_any (shows p) (face_part m cells)) two in
        position-append_found (shows p) (part m cells m.dim ++ part m cells 0 ++ face_part m cells) (part m cells 1) three
        ∙ (position-append_found (shows p) (part m cells m.dim ++ part m cells 0) (face_part m cells) two
        ∙ (position-append_found (shows p) (part m cells m.dim) (part m cells 0) h
        ∙ (in-list (part m cells m.dim) (once m.dim) parts-first.0 h
        ∙ sym (cond-true (p.dim == m.dim) _ _ (eq-eqb p.dim m.dim (dim-shown p m.dim (part m cells m.dim) (part-of_dim m cells m.dim) h))))))

    end : list_any (shows p) (part m cells 0) ≡ true → Placed
    unfolding Placed keyed_place keyed_chart keyed_stratum
    end h =
        let zero_dim = dim-shown p 0 (part m cells 0) (part-of_dim m cells 0) h in
        let other : p.dim ≢ m.dim = λ e. not_vertices (sym e ∙ zero_dim) in
        let none = none-of_dim p m.dim (part m cells m.dim) other (part-of_dim m cells m.dim) in
        let two = list_any-append (shows p) (part m cells m.dim) (part m cells 0) ∙ ap₂ (λ s t. s || t) none h in
        let three = list_any-append (shows p) (part m cells m.dim ++ part m cells 0) (face_part m cells) ∙ ap (λ t. t || list_any (shows p) (face_part m cells)) two in
        position-append_found (shows p) (part m cells m.dim ++ part m cells 0 ++ face_part m cells) (part m cells 1) three
        ∙ (position-append_found (shows p) (part m cells m.dim ++ part m cells 0) (face_part m cells) two
        ∙ (position-append_none (shows p) (part m cells m.dim) (part m cells 0) none
        ∙ (ap₂ (λ i j. i + j) (sym (length-map (part m cells m.dim) (keyed_point m))) (in-list (part m cells 0) (once 0) parts-first.1 h)
        ∙ sym (cond-false (p.dim == m.dim) _ _ (ne_eqb p.dim m.dim other) ∙ cond-true (p.dim == 0) _ _ (eq-eqb p.dim 0 zero_dim)))))

    two_lengths : length (part m cells m.dim ++ part m cells 0) ≡ length (keyed_stratum m cells m.dim) + length (keyed_stratum m cells 0)
    unfolding keyed_stratum
    two_lengths = length-append (part m cells m.dim) (part m cells 0) ∙ ap₂ (λ i j. i + j) (sym (length-map (part m cells m.dim) (keyed_point m))) (sym (length-map (part m cells 0) (keyed_point m)))

    face_length : length (face_part m cells) ≡ length (cond (m.dim == 3) (keyed_stratum m cells 2) [])
    face_length = sym (length-map (face_part m cells) (keyed_point m)) ∙ ap length (sym faces-keyed)

    side_place : list_any (shows p) (part m cells 1) ≡ true → position_or_len (shows p) (part m cells 1) ≡ place_of_key (keyed_stratum m cells 1) k
    unfolding keyed_stratum
    side_place h = in-list (part m cells 1) (once 1) parts-first.3 h

    face : list_any (shows p) (face_part m cells) ≡ true → Placed
    unfolding Placed keyed_place keyed_chart
    face h =
        let two_dim = dim-shown p 2 (face_part m cells) (faces-of_dim m cells) h in
        let other : p.dim ≢ m.dim = λ e. faces-lower p h (sym e ∙ two_dim) in
        let positive : p.dim ≢ 0 = λ e. absurd (omega (arith, e, two_dim)) in
        let none = none-of_dim p m.dim (part m cells m.dim) other (part-of_dim m cells m.dim) in
        let none_end = none-of_dim p 0 (part m cells 0) positive (part-of_dim m cells 0) in
        let two = list_any-append (shows p) (part m cells m.dim) (part m cells 0) ∙ ap₂ (λ s t. s || t) none none_end in
        let three = list_any-append (shows p) (part m cells m.dim ++ part m cells 0) (face_part m cells) ∙ ap₂ (λ s t. s || t) two h in
        position-append_found (shows p) (part m cells m.dim ++ part m cells 0 ++ face_part m cells) (part m cells 1) three
        ∙ (position-append_none (shows p) (part m cells m.dim ++ part m cells 0) (face_part m cells) two
        ∙ (ap₂ (λ i j. i + j) two_lengths (in-list (face_part m cells) faces-once parts-first.2 h ∙ ap (λ l. place_of_key l k) (sym faces-keyed))
        ∙ sym (cond-false (p.dim == m.dim) _ _ (ne_eqb p.dim m.dim other) ∙ (cond-false (p.dim == 0) _ _ (ne_eqb p.dim 0 positive) ∙ cond-true (p.dim == 2) _ _ (eq-eqb p.dim 2 two_dim)))))

    side : list_any (shows p) (part m cells 1) ≡ true → Placed
    unfolding Placed keyed_place keyed_chart
    side h =
        let one_dim = dim-shown p 1 (part m cells 1) (part-of_dim m cells 1) h in
        let other : p.dim ≢ m.dim = λ e. not_edges (sym e ∙ one_dim) in
        let positive : p.dim ≢ 0 = λ e. absurd (omega (arith, e, one_dim)) in
        let no_face : p.dim ≢ 2 = λ e. absurd (omega (arith, e, one_dim)) in
        let two = list_any-append (shows p) (part m cells m.dim) (part m cells 0) ∙ ap₂ (λ s t. s || t) (none-of_dim p m.dim (part m cells m.dim) other (part-of_dim m cells m.dim)) (none-of_dim p 0 (part m cells 0) positive (part-of_dim m cells 0)) in
        let three = list_any-append (shows p) (part m cells m.dim ++ part m cells 0) (face_part m cells) ∙ ap₂ (λ s t. s || t) two (none-of_dim p 2 (face_part m cells) no_face (faces-of_dim m cells)) in
        position-append_none (shows p) (part m cells m.dim ++ part m cells 0 ++ face_part m cells) (part m cells 1) three
        ∙ (ap₂ (λ i j. i + j) (length-append (part m cells m.dim ++ part m cells 0) (face_part m cells) ∙ ap₂ (λ i j. i + j) two_lengths face_length) (side_place h)
        ∙ sym (cond-false (p.dim == m.dim) _ _ (ne_eqb p.dim m.dim other) ∙ (cond-false (p.dim == 0) _ _ (ne_eqb p.dim 0 positive) ∙ cond-false (p.dim == 2) _ _ (ne_eqb p.dim 2 no_face))))

    -- the number of a point that the chart shows
    pub number-told : list_any (shows p) (chart m cells) ≡ true → place_in (chart m cells) p ≡ keyed_place (keyed_chart m cells) p.dim k
    unfolding Placed
    number-told h = ap (λ l. place_in l p) (chart-strata m cells) ∙ go (ap (list_any (shows p)) (sym (chart-strata m cells)) ∙ h)
      where
        go : list_any (shows p) (part m cells m.dim ++ part m cells 0 ++ face_part m cells ++ part m cells 1) ≡ true → position_or_len (shows p) (part m cells m.dim ++ part m cells 0 ++ face_part m cells ++ part m cells 1) ≡ keyed_place (keyed_chart m cells) p.dim k
        go e = ⊎_elim
            (λ f. ⊎_elim
            (λ g. ⊎_elim top end (or_cases (list_any (shows p) (part m cells m.dim)) (list_any (shows p) (part m cells 0)) (sym (list_any-append (shows p) (part m cells m.dim) (part m cells 0)) ∙ g)))
            face (or_cases (list_any (shows p) (part m cells m.dim ++ part m cells 0)) (list_any (shows p) (face_part m cells)) (sym (list_any-append (shows p) (part m cells m.dim ++ part m cells 0) (face_part m cells)) ∙ f)))
            side (or_cases (list_any (shows p) (part m cells m.dim ++ part m cells 0 ++ face_part m cells)) (list_any (shows p) (part m cells 1)) (sym (list_any-append (shows p) (part m cells m.dim ++ part m cells 0 ++ face_part m cells) (part m cells 1)) ∙ e))
