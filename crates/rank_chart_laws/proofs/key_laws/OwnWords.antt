-- All words of a rank: their places, and their points.
use Rattle.std.proofs.Common.{◌≡◌, ◌≢◌, ℕ, suc, ◌+◌, ◌-◌, ◌^◌, ◌<◌, ◌≤◌, Bool, true, false, cond, not, ◌&&◌, ◌||◌, ◌==◌, List, [], ◌∷◌, ◌++◌, map, length, get_or, refl, sym, ap, ap₂, ◌∙◌, subst, inl, inr, ⊎_elim, arith}
use Rattle.std.specs.Prelude.{filter}
use Rattle.std.specs.List.{list_any, AllByRecursion}
use Rattle.std.proofs.lemmas.Bool.{and_from, cases_lt, eq-eqb, eqb-true, ne_eqb, cond-false, or_left, or_right}
use Rattle.std.proofs.lemmas.List.{length-append, length-map, map-append, get_or-map, get_or_append_left, get_or-append-add}
use Rattle.std.proofs.lemmas.List.Folds.{list_any-append}
use Rattle.std.proofs.lemmas.List.Sorted.{length_permutation}
use Rattle.plain_lists.specs.Lists.{below}
use Rattle.plain_lists.proofs.Each.{all_append, all_at, all_weaker}
use Rattle.plain_lists.proofs.Finding.{any_filter, any_map, any_weaker}
use Rattle.rank_chart_laws.proofs.meeting_laws.Lists.{passes_below}
use Rattle.std.proofs.lemmas.List.FromFn.{length-enumerate_from}
use Rattle.plain_lists.proofs.Below.{length-below}
use Rattle.mesh_defs.specs.Tables.{dim_of}
use Rattle.mesh_defs.specs.Mesh.{Mesh, Cell, placed_cells}
use Rattle.mesh_defs.specs.Points.{Point, sights}
use Rattle.mesh_laws.proofs.Firsts.{firsts-length}
use Rattle.mesh_defs.specs.RightMesh.{IsRightMesh, in_some}
use Rattle.sf_defs.specs.Asks.{IsRising}
use Rattle.rank_defs.specs.Ranks.{IsAssignment, assigned, owner, is_shared, rank_of, ranks_at}
use Rattle.rank_defs.specs.Spread.{PlainShared, IsShared, own_stratum}
use Rattle.rank_laws.proofs.Owning.{in_assigned}
use Rattle.rank_laws.specs.orient_laws.Named.{home_part}
use Rattle.rank_laws.proofs.orient_laws.HomeParts.{flat-home}
use Rattle.rank_chart_laws.proofs.Few.{sights-few}
use Rattle.rank_chart_laws.specs.home_laws.HomeForest.{home_of}
use Rattle.rank_chart_laws.specs.key_laws.Places.{run, is_word, words_among, set_number, AreInOrder}
use Rattle.rank_chart_laws.specs.key_laws.Words.{AreWordPlaces}
use Rattle.rank_chart_laws.proofs.key_laws.Rising.{any-permutation, earlier-lower}
use Rattle.rank_chart_laws.proofs.key_laws.Charts as charts
use Rattle.rank_chart_laws.proofs.key_laws.WordPlaces as words
use Rattle.rank_chart_laws.proofs.key_laws.Stands as stands

-- ---- lists

-- what passes at a place
pub at-place : (p : ℕ → Bool) (xs : List ℕ) → list_any p xs ≡ true → (k : ℕ) × (k < length xs) × (p (get_or xs k 0) ≡ true)
at-place p [] h = absurd (cc h)
at-place p (x ∷ xs) h = go (p x) refl h (at-place p xs)
  where
    go : (b : Bool) → p x ≡ b → (b || list_any p xs) ≡ true → (list_any p xs ≡ true → (k : ℕ) × (k < length xs) × (p (get_or xs k 0) ≡ true)) → (k : ℕ) × (k < length (x ∷ xs)) × (p (get_or (x ∷ xs) k 0) ≡ true)
    go true e f r = (0, omega arith, e)
    go false e f r = let (k, low, g) = r f in (suc k, omega (arith, low), g)

-- a choice from a list is no longer
pub filter-short : {X : Type 0} (p : X → Bool) (xs : List X) → length (filter p xs) ≤ length xs
filter-short p [] = omega arith
filter-short {X} p (x ∷ xs) = go (p x) (filter-short p xs)
  where
    go : (b : Bool) → length (filter p xs) ≤ length xs → length (cond b (x ∷ filter p xs) (filter p xs)) ≤ length (x ∷ xs)
    go true h = omega (arith, h)
    go false h = omega (arith, h)

-- no two entries are one
abbrev pub Apart : List ℕ → Type 0
Apart xs = (i j : ℕ) → i < j → j < length xs → get_or xs i 0 ≢ get_or xs j 0

-- nor are those of two lists with a bound between them
apart-append : (mid : ℕ) (xs ys : List ℕ) → Apart xs → Apart ys → AllByRecursion (λ x. x < mid) xs → AllByRecursion (λ y. mid ≤ y) ys → Apart (xs ++ ys)
apart-append mid xs ys p q low high i j lt le = ⊎_elim
    (λ (in-first : j < length xs). λ e. p i j lt in-first (sym (get_or_append_left xs ys 0 i (omega (arith, lt, in-first))) ∙ (e ∙ get_or_append_left xs ys 0 j in-first)))
    (λ (past : length xs ≤ j). ⊎_elim
    (λ (first : i < length xs). λ e.
    let x = all_at (λ x. x < mid) xs i 0 low first in
    let y = all_at (λ y. mid ≤ y) ys (j - length xs) 0 high (omega (arith, past, le, length-append xs ys)) in
    let ex = get_or_append_left xs ys 0 i first in
    let ey = at-later j past in
    omega (arith, x, y, ex, ey, e))
    (λ (behind : length xs ≤ i). λ e. q (i - length xs) (j - length xs) (omega (arith, lt, behind)) (omega (arith, past, le, length-append xs ys)) (sym (at-later i behind) ∙ (e ∙ at-later j past)))
    (cases_lt i (length xs)))
    (cases_lt j (length xs))
  where
    at-later : (k : ℕ) → length xs ≤ k → get_or (xs ++ ys) k 0 ≡ get_or ys (k - length xs) 0
    at-later k h = ap (λ l. get_or (xs ++ ys) l 0) (let e : k ≡ length xs + (k - length xs) = omega (arith, h) in e) ∙ get_or-append-add xs ys (k - length xs) 0

-- entries with rising numbers are apart
apart-rising : (f : ℕ → ℕ) (xs : List ℕ) → IsRising (map f xs) → Apart xs
apart-rising f xs h i j lt low e =
    let order = earlier-lower (map f xs) h i j 0 lt (omega (arith, low, length-map xs f)) in
    let at-i = get_or-map f xs i 0 0 (omega (arith, lt, low)) in
    let at-j = get_or-map f xs j 0 0 low in
    omega (arith, order, at-i, at-j, ap f e)

module _ (s : PlainShared) (m : Mesh) (dofs : List (List ℕ)) (a : List ℕ) (n : ℕ) (is : IsShared s m dofs a n) where
  abbrev pub mesh : IsRightMesh m
  mesh = is.mesh

  abbrev pub parts : IsAssignment m n a
  parts = is.assignment.each

  abbrev pub pt : ℕ → ℕ → Point
  pt r i = charts.pt m n a mesh parts r i

  abbrev pub long : ℕ → ℕ
  long r = length (charts.own m n a mesh parts r)

  abbrev pub middle-from : ℕ → ℕ
  middle-from r = charts.face-from m n a mesh parts r

  module _ (r : ℕ) (low : r < n) (places : List ℕ) (own : AreWordPlaces s r places) where
    abbrev face-from : ℕ
    face-from = charts.face-from m n a mesh parts r

    abbrev edge-from : ℕ
    edge-from = charts.edge-from m n a mesh parts r

    abbrev face-count : ℕ
    face-count = length (charts.faces m n a mesh parts r)

    abbrev edge-count : ℕ
    edge-count = length (charts.edges m n a mesh parts r)

    of-faces : AreInOrder (words.sets m n a mesh parts r) (words_among (charts.forest m n a mesh parts) r face-from face-count) own.faces
    of-faces = coe 0 1 (i. AreInOrder (stands.sets-are s m dofs a n is r low i) (words_among (stands.forest-is s m dofs a n is i) r (stands.first-face-is s m dofs a n is r low i) (stands.face-count-is s m dofs a n is r low i)) own.faces) own.of_faces

    of-edges : AreInOrder (words.sets m n a mesh parts r) (words_among (charts.forest m n a mesh parts) r edge-from edge-count) own.edges
    of-edges = coe 0 1 (i. AreInOrder (stands.sets-are s m dofs a n is r low i) (words_among (stands.forest-is s m dofs a n is i) r (stands.first-edge-is s m dofs a n is r low i) (stands.edge-count-is s m dofs a n is r low i)) own.edges) own.of_edges

    -- a flat mesh has no faces
    none-flat : m.dim ≡ 2 → own.faces ≡ []
    unfolding words_among
    none-flat flat = empty own.faces (length_permutation (words_among (charts.forest m n a mesh parts) r face-from face-count) own.faces of-faces.same ∙ ap (λ k. length (words_among (charts.forest m n a mesh parts) r face-from k)) no-faces)
      where
        no-faces : face-count ≡ 0
        no-faces = ap length (cond-false (m.dim == 3) _ [] (ne_eqb m.dim 3 (λ e. absurd (omega (arith, flat, e)))))

        empty : (xs : List ℕ) → length xs ≡ 0 → xs ≡ []
        empty [] h = refl
        empty (x ∷ xs) h = absurd (omega (arith, h))

    -- what is known of the faces and of the edges
    pub record IsHalf (first end : ℕ) (half : List ℕ) : Type 0 where
      pub within : AllByRecursion (λ i. (first ≤ i) × (i < end)) half
      pub words : AllByRecursion (λ i. is_word (charts.forest m n a mesh parts) r i ≡ true) half
      pub apart : Apart half

    face-half : IsHalf face-from edge-from own.faces
    face-half = ⊎_elim
        (λ (flat : m.dim ≡ 2). subst (IsHalf face-from edge-from) (sym (none-flat flat)) (record { within = tt; words = tt; apart = λ i j lt high. absurd (omega (arith, high)) }))
        (λ (solid : m.dim ≡ 3).
        let here = words.faces-part m n a mesh parts r solid in
        record {
          within = words.places-within m n a mesh parts r low 2 face-from face-count here own.faces of-faces;
          words = words.places-words m n a mesh parts r low 2 face-from face-count here own.faces of-faces;
          apart = apart-rising (λ i. set_number (get_or (words.sets m n a mesh parts r) i [])) own.faces (words.places-rise m n a mesh parts r low 2 face-from face-count here own.faces of-faces);
        })
        mesh.sound.dim

    edge-half : IsHalf edge-from (edge-from + edge-count) own.edges
    edge-half =
        let here = words.edges-part m n a mesh parts r in
        record {
          within = words.places-within m n a mesh parts r low 1 edge-from edge-count here own.edges of-edges;
          words = words.places-words m n a mesh parts r low 1 edge-from edge-count here own.edges of-edges;
          apart = apart-rising (λ i. set_number (get_or (words.sets m n a mesh parts r) i [])) own.edges (words.places-rise m n a mesh parts r low 1 edge-from edge-count here own.edges of-edges);
        }

    -- ---- the places

    pub within : AllByRecursion (λ i. (middle-from r ≤ i) × (i < long r)) places
    within =
        let whole = charts.own-length m n a mesh parts r in
        subst (AllByRecursion (λ i. (middle-from r ≤ i) × (i < long r))) (sym own.all)
        (all_append (λ i. (middle-from r ≤ i) × (i < long r)) own.faces own.edges
        (all_weaker (λ i. (face-from ≤ i) × (i < edge-from)) (λ i. (middle-from r ≤ i) × (i < long r)) (λ i w. (w.0, omega (arith, w.1, whole))) own.faces face-half.within)
        (all_weaker (λ i. (edge-from ≤ i) × (i < edge-from + edge-count)) (λ i. (middle-from r ≤ i) × (i < long r)) (λ i w. (omega (arith, w.0), omega (arith, w.1, whole))) own.edges edge-half.within))

    pub are-words : AllByRecursion (λ i. is_word (charts.forest m n a mesh parts) r i ≡ true) places
    are-words = subst (AllByRecursion (λ i. is_word (charts.forest m n a mesh parts) r i ≡ true)) (sym own.all) (all_append (λ i. is_word (charts.forest m n a mesh parts) r i ≡ true) own.faces own.edges face-half.words edge-half.words)

    pub apart : Apart places
    apart = subst Apart (sym own.all) (apart-append edge-from own.faces own.edges face-half.apart edge-half.apart
        (all_weaker (λ i. (face-from ≤ i) × (i < edge-from)) (λ i. i < edge-from) (λ i w. w.1) own.faces face-half.within)
        (all_weaker (λ i. (edge-from ≤ i) × (i < edge-from + edge-count)) (λ i. edge-from ≤ i) (λ i w. w.0) own.edges edge-half.within))

    -- their points are those that the rank has words for
    pub points-are : map (pt r) places ≡ home_of m a r
    points-are = ap (map (pt r)) own.all ∙ (map-append (pt r) own.faces own.edges ∙ ap₂ (λ x y. x ++ y) face-points (words.part-is m n a mesh parts r low 1 edge-from edge-count (words.edges-part m n a mesh parts r) own.edges of-edges (inl refl)))
      where
        face-points : map (pt r) own.faces ≡ home_part m a r 2
        face-points = ⊎_elim
            (λ (flat : m.dim ≡ 2). ap (map (pt r)) (none-flat flat) ∙ sym (flat-home m a r flat))
            (λ (solid : m.dim ≡ 3). words.part-is m n a mesh parts r low 2 face-from face-count (words.faces-part m n a mesh parts r solid) own.faces of-faces (inr (refl, solid)))
            mesh.sound.dim

    pub counts-are : length (home_of m a r) ≡ length places
    counts-are = ap length (sym points-are) ∙ length-map places (pt r)

    -- they are no more than its faces and edges
    pub words-few : length places ≤ face-count + edge-count
    unfolding words_among
    words-few =
        let whole = ap length own.all ∙ length-append own.faces own.edges in
        let of-f = length_permutation (words_among (charts.forest m n a mesh parts) r face-from face-count) own.faces of-faces.same in
        let of-e = length_permutation (words_among (charts.forest m n a mesh parts) r edge-from edge-count) own.edges of-edges.same in
        let few-f = filter-short (is_word (charts.forest m n a mesh parts) r) (run face-from face-count) in
        let few-e = filter-short (is_word (charts.forest m n a mesh parts) r) (run edge-from edge-count) in
        let run-f = length-map (below face-count) (λ k. face-from + k) ∙ length-below face-count in
        let run-e = length-map (below edge-count) (λ k. edge-from + k) ∙ length-below edge-count in
        omega arith

    -- which 32 bits can count
    pub words-low : length places < 2 ^ 32
    unfolding assigned
    words-low =
        let cells : List (ℕ × Cell) = assigned m a r in
        let few = words-few in
        let seen = sights-few cells in
        let chosen = filter-short (λ c. rank_of a c == r) (placed_cells m) in
        let placed = length-enumerate_from 0 m.cells in
        let limit = mesh.few_cells in
        let strata-low : (d : ℕ) → length (own_stratum cells d) ≤ length (sights cells) = λ d. (let f = firsts-length (filter (λ t. dim_of t.poly == d) (sights cells)) in let g = filter-short (λ t. dim_of t.poly == d) (sights cells) in omega arith) in
        let of-f = by-dim (m.dim == 3) cells (strata-low 2) in
        let of-e = strata-low 1 in
        omega arith
      where
        by-dim : (b : Bool) (cells : List (ℕ × Cell)) → length (own_stratum cells 2) ≤ length (sights cells) → length (cond b (own_stratum cells 2) []) ≤ length (sights cells)
        by-dim true cells h = h
        by-dim false cells h = omega arith

    -- each word among the faces and edges has its place
    pub word-placed : (i : ℕ) → middle-from r ≤ i → i < long r → is_word (charts.forest m n a mesh parts) r i ≡ true → (k : ℕ) × (k < length places) × (get_or places k 0 ≡ i)
    unfolding words_among
    word-placed i le inside word =
        let (k, lt, e) = at-place (λ j. j == i) places (ap (list_any (λ j. j == i)) own.all ∙ (list_any-append (λ j. j == i) own.faces own.edges ∙ either)) in
        (k, lt, eqb-true (get_or places k 0) i e)
      where
        half : (first count : ℕ) (ps : List ℕ) → AreInOrder (words.sets m n a mesh parts r) (words_among (charts.forest m n a mesh parts) r first count) ps → first ≤ i → i < first + count → list_any (λ j. j == i) ps ≡ true
        half first count ps order above under =
            sym (any-permutation (λ j. j == i) (words_among (charts.forest m n a mesh parts) r first count) ps order.same)
            ∙ (any_filter (λ j. j == i) (is_word (charts.forest m n a mesh parts) r) (run first count)
            ∙ (any_map (λ j. is_word (charts.forest m n a mesh parts) r j && (j == i)) (λ k. first + k) (below count)
            ∙ passes_below (λ k. is_word (charts.forest m n a mesh parts) r (first + k) && (first + k == i)) count (i - first) (omega (arith, above, under))
            (let same : first + (i - first) ≡ i = omega (arith, above) in and_from (is_word (charts.forest m n a mesh parts) r (first + (i - first))) (first + (i - first) == i) (ap (is_word (charts.forest m n a mesh parts) r) same ∙ word) (eq-eqb (first + (i - first)) i same))))

        either : (list_any (λ j. j == i) own.faces || list_any (λ j. j == i) own.edges) ≡ true
        either = ⊎_elim
            (λ (lt : i < edge-from). or_left (list_any (λ j. j == i) own.faces) (list_any (λ j. j == i) own.edges) (half face-from face-count own.faces of-faces le lt))
            (λ (ge : edge-from ≤ i). or_right (list_any (λ j. j == i) own.faces) (list_any (λ j. j == i) own.edges) (half edge-from edge-count own.edges of-edges ge (omega (arith, inside, charts.own-length m n a mesh parts r))))
            (cases_lt i edge-from)

  -- ---- points that several ranks have

  -- where another rank than the owner has a point, it is shared
  pub shared-with : (r : ℕ) (p : Point) → in_some p (assigned m a r) ≡ true → owner m a p ≢ r → is_shared m a p ≡ true
  unfolding is_shared
  shared-with r p h ne = any_weaker (λ q. q == r) (λ q. not (q == owner m a p)) (λ q e. ap not (ne_eqb q (owner m a p) (λ f. ne (sym f ∙ eqb-true q r e)))) (ranks_at m a p) (sym (in_assigned m a r p) ∙ h)

  -- a face or an edge of one rank is one of any rank that has it
  pub stays-middle : (r i : ℕ) → middle-from r ≤ i → i < long r → (o j : ℕ) → j < long o → pt o j ≡ pt r i → middle-from o ≤ j
  stays-middle r i le inside o j low-j point = ⊎_elim
      (λ (lt : j < middle-from o). ⊎_elim
      (λ (e : (pt o j).dim ≡ m.dim). absurd (not-top (sym same ∙ e)))
      (λ (e : (pt o j).dim ≡ 0). absurd (charts.middle-dim m n a mesh parts r i le inside (sym same ∙ e)))
      (charts.low-dim m n a mesh parts o j lt))
      (λ (ge : middle-from o ≤ j). ge)
      (cases_lt j (middle-from o))
    where
      same : (pt o j).dim ≡ (pt r i).dim
      same = ap (λ (q : Point). q.dim) point

      not-top : (pt r i).dim ≢ m.dim
      not-top e = ⊎_elim
          (λ (lt : i < charts.edge-from m n a mesh parts r). let d = charts.face-dim m n a mesh parts r i le lt in omega (arith, d.0, d.1, e))
          (λ (ge : charts.edge-from m n a mesh parts r ≤ i). let d = charts.edge-dim m n a mesh parts r i ge inside in charts.dim-not m n a mesh parts 1 (omega arith) (sym e ∙ d))
          (cases_lt i (charts.edge-from m n a mesh parts r))

  -- so it is a word of its owner
  pub ghost-word : (r i : ℕ) → r < n → middle-from r ≤ i → i < long r → owner m a (pt r i) ≢ r
      → (is_word (charts.forest m n a mesh parts) (owner m a (pt r i)) (charts.place m n a mesh parts (owner m a (pt r i)) (pt r i)) ≡ true) × (middle-from (owner m a (pt r i)) ≤ charts.place m n a mesh parts (owner m a (pt r i)) (pt r i))
  ghost-word r i low le inside ne =
      let p : Point = pt r i in
      let o : ℕ = owner m a p in
      let j : ℕ = charts.place m n a mesh parts o p in
      let there = charts.at-home m n a mesh parts p (charts.inside-mesh m n a mesh parts r i inside) in
      let low-o : o < n = charts.owner-low m n a mesh parts r i inside in
      let mine : owner m a (pt o j) ≡ o = ap (owner m a) there.1 in
      let shared : is_shared m a (pt o j) ≡ true = ap (is_shared m a) there.1 ∙ shared-with r p (charts.inside-rank m n a mesh parts r i inside) ne in (
        words.word-is m n a mesh parts o j low-o there.0 ∙ and_from (owner m a (pt o j) == o) (is_shared m a (pt o j)) (eq-eqb (owner m a (pt o j)) o mine) shared,
        stays-middle r i le inside o j there.0 there.1,
      )
