-- The mesh of a right content is a right mesh.
use Rattle.std.proofs.Common.{◌≡◌, ◌≢◌, ℕ, zero, suc, ◌+◌, ◌<◌, ◌≤◌, max, Bool, true, false, cond, not, ◌&&◌, ◌||◌, ◌==◌, nat_lt, List, [], ◌∷◌, map, length, get_or, ℤ, Option, Some, None, Ok, Err, refl, sym, ap, ◌∙◌, subst, inl, inr, ◌⊎◌, ⊎_elim, arith}
use Rattle.std.specs.Prelude.{nat_eq, nat_le, find, filter, filter_map, fold, is_some, option_map, option_and_then, unwrap_or, position}
use Rattle.std.specs.List.{cons_option, list_any, AllByRecursion}
use Rattle.std.proofs.lemmas.Bool.{and_parts, and_from, or_cases, or_left, or_right, both_ways, eqb-true, eq-eqb, ltb-false, cases_lt}
use Rattle.std.proofs.lemmas.List.{length-map, get_or-map}
use Rattle.std.proofs.lemmas.List.Quantifiers.{position-Some}
use Rattle.std.proofs.lemmas.Map.Keys.{IsDistinct-head, IsDistinct-tail, IsDistinct-cons}
use Rattle.std.specs.Cmp.Lexicographic.{same_text}
use Rattle.plain_lists.specs.Lists.{inserted, sorted}
use Rattle.plain_lists.proofs.Each.{all_both, all_weaker, all_from, all_filter, all_map, all_mapped, all_at}
use Rattle.plain_lists.proofs.Filters.{filter_passing}
use Rattle.plain_lists.proofs.Finding.{any_map, any_weaker, any_filter, any_enumerated, position-within}
use Rattle.mesh_defs.specs.declared.Poly.{Poly}
use Rattle.mesh_defs.specs.declared.Poly.TheVariants.{Vertex, Segment, Triangle, Quad, Tet, Hex}
use Rattle.mesh_defs.specs.declared.Place.{Place}
use Rattle.mesh_defs.specs.declared.Place.TheVariants as place
use Rattle.mesh_defs.specs.Tables.{dim_of, corner_count}
use Rattle.mesh_defs.specs.Mesh.{Mesh, Cell, Mark, Row, Section}
use Rattle.mesh_defs.specs.Points.{contains, marked_point}
use Rattle.mesh_defs.specs.RightMesh.{IsSoundCell, IsOnPoint, CellsDiffer, count_on, IsRightRow, IsRightSection, IsRightMesh}
use Rattle.input_defs.specs.Content.{Node, Element, Content}
use Rattle.input_defs.specs.Sections.{has_number, poly_of_type, corners_of_type}
use Rattle.input_defs.specs.RightContent.{NumbersDiffer, IsRightNode, IsRightElement, IsRightDataRow, IsRightField, numbers_on, IsRight}
use Rattle.input_defs.specs.declared.MeshFault.TheVariants.{NoCells, TooManyCells}
use Rattle.input_defs.specs.Causes.{unless}
use Rattle.input_defs.specs.Meshes.{poly, dim, same_nodes, same_place, kept_after, kept, greatest_dim, is_top, is_point_of, vertex_nodes, vertex_of, cell_elements, cell_of, cells_of, marks_of, place_named, row_of, section_on, mesh_of, twist, accepted}
use Rattle.input_laws.proofs.Kept.{accepted-mesh}
use Rattle.input_laws.proofs.Labels.{marks-on_points}
use Rattle.input_laws.proofs.Sets.{AreKnown, numbers_of, number_at, position-back, IsIn, all-in, all-kept, top-corners, cells-sets}

-- ---- different numbers

-- numbers at different places differ
different-at : (ns : List ℕ) → NumbersDiffer ns → (i j : ℕ) → i < j → j < length ns → get_or ns i 0 ≢ get_or ns j 0
different-at [] d i j less low same = absurd (omega (arith, low))
different-at (n ∷ ns) d i zero less low same = absurd (omega (arith, less))
different-at (n ∷ ns) d zero (suc j) less low same = both_ways _ (all_at (λ m. nat_eq n m ≡ false) ns j 0 (IsDistinct-head nat_eq n ns d) (omega (arith, low))) (eq-eqb n (get_or ns j 0) same)
different-at (n ∷ ns) d (suc i) (suc j) less low same = different-at ns (IsDistinct-tail nat_eq n ns d) i j (omega (arith, less)) (omega (arith, low)) same

-- those of a part of a list
different-filter : {X : Type 0} (f : X → ℕ) (p : X → Bool) (xs : List X) → NumbersDiffer (map f xs) → NumbersDiffer (map f (filter p xs))
different-filter f p [] d = d
different-filter {X} f p (x ∷ xs) d = go (p x) (different-filter f p xs (IsDistinct-tail nat_eq (f x) (map f xs) d))
  where
    go : (b : Bool) → NumbersDiffer (map f (filter p xs)) → NumbersDiffer (map f (cond b (x ∷ filter p xs) (filter p xs)))
    go true r = IsDistinct-cons nat_eq (f x) (map f (filter p xs)) (all_map (λ m. nat_eq (f x) m ≡ false) f (filter p xs) (all_filter (λ y. nat_eq (f x) (f y) ≡ false) p xs (all_mapped (λ m. nat_eq (f x) m ≡ false) f xs (IsDistinct-head nat_eq (f x) (map f xs) d)))) r
    go false r = r

-- a position is where its number stands
position-of : (vs : List Node) → NumbersDiffer (map (λ (n : Node). n.number) vs) → (v : ℕ) → v < length vs → vertex_of vs (number_at vs v) ≡ v
unfolding number_at
position-of [] d v low = absurd (omega (arith, low))
position-of (n ∷ ns) d zero low = ap (λ b. cond (not b) (1 + vertex_of ns n.number) 0) (eq-eqb n.number n.number refl)
position-of (n ∷ ns) d (suc v) low =
    let numbers = map (λ (m : Node). m.number) ns in
    let x = get_or numbers v 0 in
    let other : nat_eq n.number x ≡ false = all_at (λ m. nat_eq n.number m ≡ false) numbers v 0 (IsDistinct-head nat_eq n.number numbers d) (omega (arith, low, length-map ns (λ (m : Node). m.number))) in
    let one : 1 + v ≡ suc v = omega arith in
    ap (λ b. cond (not b) (1 + vertex_of ns x) 0) other ∙ ap (λ k. 1 + k) (position-of ns (IsDistinct-tail nat_eq n.number numbers d) v (omega (arith, low))) ∙ one

-- ---- what an element of the list has, a kept one has

any-inserted : (p : ℕ → Bool) (x : ℕ) (ys : List ℕ) → list_any p (inserted x ys) ≡ (p x || list_any p ys)
any-inserted p x [] = refl
any-inserted p x (y ∷ ys) = go (nat_le x y) (any-inserted p x ys)
  where
    swap : (a b c : Bool) → (b || (a || c)) ≡ (a || (b || c))
    swap true true c = refl
    swap true false c = refl
    swap false b c = refl

    go : (b : Bool) → list_any p (inserted x ys) ≡ (p x || list_any p ys) → list_any p (cond b (x ∷ y ∷ ys) (y ∷ inserted x ys)) ≡ (p x || (p y || list_any p ys))
    go true r = refl
    go false r = ap (λ t. p y || t) r ∙ swap (p x) (p y) (list_any p ys)

any-sorted : (p : ℕ → Bool) (xs : List ℕ) → list_any p (sorted xs) ≡ list_any p xs
unfolding sorted
any-sorted p [] = refl
any-sorted p (x ∷ xs) = any-inserted p x (sorted xs) ∙ ap (λ t. p x || t) (any-sorted p xs)

-- elements at one place have the same dimension and the same nodes
one-dim : (e f : Element) → same_place e f ≡ true → dim e ≡ dim f
one-dim e f h = eqb-true (dim e) (dim f) (and_parts (dim e == dim f) (same_nodes e f) h).0

one-nodes : (e f : Element) (n : ℕ) → same_place e f ≡ true → has_number e.nodes n ≡ has_number f.nodes n
one-nodes e f n h =
    let same : sorted e.nodes ≡ sorted f.nodes = same_text (sorted e.nodes) (sorted f.nodes) (sym (and_parts (dim e == dim f) (same_nodes e f) h).1) in
    sym (any-sorted (λ m. m == n) e.nodes) ∙ ap (list_any (λ m. m == n)) same ∙ any-sorted (λ m. m == n) f.nodes

-- a test that is the same for elements at one place
Respects : (Element → Bool) → Type 0
Respects q = (e f : Element) → same_place e f ≡ true → q e ≡ true → q f ≡ true

-- of the elements that pass it, one is kept or stood earlier
kept-any : (q : Element → Bool) → Respects q → (earlier es : List Element) → list_any q es ≡ true → (list_any q earlier ≡ true) ⊎ (list_any q (kept_after earlier es) ≡ true)
unfolding Respects
kept-any q same earlier [] h = absurd (cc h)
kept-any q same earlier (e ∷ es) h = go (list_any (same_place e) earlier) refl (kept-any q same earlier es) (kept-any q same (e ∷ earlier) es)
  where
    Among : List Element → Type 0
    Among before = list_any q es ≡ true → (list_any q before ≡ true) ⊎ (list_any q (kept_after before es) ≡ true)

    go : (b : Bool) → list_any (same_place e) earlier ≡ b → Among earlier → Among (e ∷ earlier) → (list_any q earlier ≡ true) ⊎ (list_any q (cond b (kept_after earlier es) (e ∷ kept_after (e ∷ earlier) es)) ≡ true)
    go true there r s = ⊎_elim
        (λ here. inl (any_weaker (same_place e) q (λ f k. same e f k here) earlier there))
        (λ later. r later)
        (or_cases (q e) (list_any q es) h)
    go false fresh r s = ⊎_elim
        (λ here. inr (or_left (q e) (list_any q (kept_after (e ∷ earlier) es)) here))
        (λ later. ⊎_elim
        (λ before. ⊎_elim (λ here. inr (or_left (q e) (list_any q (kept_after (e ∷ earlier) es)) here)) (λ t. inl t) (or_cases (q e) (list_any q earlier) before))
        (λ t. inr (or_right (q e) (list_any q (kept_after (e ∷ earlier) es)) t))
        (s later))
        (or_cases (q e) (list_any q es) h)

-- ---- the greatest dimension

fold-bound : (b a : ℕ) (xs : List ℕ) → a ≤ b → AllByRecursion (λ x. x ≤ b) xs → fold max a xs ≤ b
fold-bound b a [] low all = low
fold-bound b a (x ∷ xs) low all = fold-bound b (max a x) xs (omega (arith, low, all.0)) all.1

dim-bound : (p : Poly) → dim_of p ≤ 3
dim-bound Vertex = omega arith
dim-bound Segment = omega arith
dim-bound Triangle = omega arith
dim-bound Quad = omega arith
dim-bound Tet = omega arith
dim-bound Hex = omega arith

-- it is the first number or stands in the list
fold-attained : (a : ℕ) (xs : List ℕ) → (fold max a xs ≡ a) ⊎ (list_any (λ x. x == fold max a xs) xs ≡ true)
fold-attained a [] = inl refl
fold-attained a (x ∷ xs) = ⊎_elim
    (λ (h : fold max (max a x) xs ≡ max a x). ⊎_elim
    (λ (less : a < x). let is : max a x ≡ x = omega (arith, less) in inr (or_left (x == fold max (max a x) xs) (list_any (λ y. y == fold max (max a x) xs) xs) (eq-eqb x (fold max (max a x) xs) (sym (h ∙ is)))))
    (λ (ge : x ≤ a). let is : max a x ≡ a = omega (arith, ge) in inl (h ∙ is))
    (cases_lt a x))
    (λ h. inr (or_right (x == fold max (max a x) xs) (list_any (λ y. y == fold max (max a x) xs) xs) h))
    (fold-attained (max a x) xs)

-- some element passes where the list of those that pass is not empty
some-passes : {X : Type 0} (p : X → Bool) (xs : List X) → list_any p xs ≡ true → 1 ≤ length (filter p xs)
some-passes p [] h = absurd (cc h)
some-passes {X} p (x ∷ xs) h = go (p x) refl (some-passes p xs)
  where
    go : (b : Bool) → p x ≡ b → (list_any p xs ≡ true → 1 ≤ length (filter p xs)) → 1 ≤ length (cond b (x ∷ filter p xs) (filter p xs))
    go true e r = omega arith
    go false e r = r (sym (ap (λ t. t || list_any p xs) e) ∙ h)

-- what holds of each thing that is made of entries
all_filter_map : {X Y : Type 0} (Q : X → Type 0) (P : Y → Type 0) (h : X → Option Y) → ((x : X) (y : Y) → Q x → h x ≡ Some y → P y) → (xs : List X) → AllByRecursion Q xs → AllByRecursion P (filter_map h xs)
all_filter_map Q P h made [] all = tt
all_filter_map {X} {Y} Q P h made (x ∷ xs) all = go (h x) refl (all_filter_map Q P h made xs all.1)
  where
    go : (o : Option Y) → h x ≡ o → AllByRecursion P (filter_map h xs) → AllByRecursion P (cons_option o (filter_map h xs))
    go (Some y) e r = (made x y all.0 e, r)
    go None e r = r

-- as many corners as the type has
type-corners : (k : ℕ) → is_some (poly_of_type k) ≡ true → corners_of_type k ≡ corner_count (unwrap_or (poly_of_type k) Vertex)
type-corners k h = go (poly_of_type k) h
  where
    go : (o : Option Poly) → is_some o ≡ true → unwrap_or (option_map corner_count o) 0 ≡ corner_count (unwrap_or o Vertex)
    go (Some p) h = refl
    go None h = absurd (cc h)

-- ---- the mesh

module _ (c : Content) (right : IsRight c) where
  known : AreKnown (numbers_of c.nodes) c.elements
  known = all_weaker (IsRightElement (numbers_of c.nodes)) (λ (e : Element). AllByRecursion (λ v. has_number (numbers_of c.nodes) v ≡ true) e.nodes) (λ e r. r.nodes_known) c.elements right.elements

  abbrev vs : List Node
  vs = vertex_nodes c

  vertex-numbers : NumbersDiffer (map (λ (n : Node). n.number) vs)
  unfolding vertex_nodes
  vertex-numbers = different-filter (λ (n : Node). n.number) (λ (node : Node). list_any (λ e. is_top c e && has_number e.nodes node.number) c.elements) c.nodes right.numbers_differ

  -- what is known of the element of a cell
  record IsOfCell (e : Element) : Type 0 where
    pub top : is_top c e ≡ true
    pub element : IsRightElement (numbers_of c.nodes) e
    pub corners : AllByRecursion (λ v. list_any (λ (n : Node). n.number == v) (vertex_nodes c) ≡ true) e.nodes

  of-cells : AllByRecursion IsOfCell (cell_elements c)
  unfolding cell_elements kept
  of-cells = all_both (λ e. is_top c e ≡ true) (λ e. is_top c e ≡ true → IsOfCell e) IsOfCell (λ e t f. f t) (filter (is_top c) (kept_after [] c.elements)) (filter_passing (is_top c) (kept_after [] c.elements))
      (all_filter (λ e. is_top c e ≡ true → IsOfCell e) (is_top c) (kept_after [] c.elements) (all-kept (λ e. is_top c e ≡ true → IsOfCell e) [] c.elements
      (all_both (IsIn c.elements) (IsRightElement (numbers_of c.nodes)) (λ e. is_top c e ≡ true → IsOfCell e) (λ e i r top. record { top = top; element = r; corners = top-corners c e i r.nodes_known top }) c.elements (all-in c.elements) right.elements)))

  count-vertices : length (mesh_of c).at ≡ length vs
  unfolding mesh_of
  count-vertices = length-map vs (λ (node : Node). node.at)

  count-cells : length (mesh_of c).cells ≡ length (cell_elements c)
  unfolding mesh_of cells_of
  count-cells = length-map (cell_elements c) (cell_of vs)

  sound-cell : (e : Element) → IsOfCell e → IsSoundCell (mesh_of c) (cell_of vs e)
  unfolding mesh_of
  sound-cell e x = record {
    dim = dims;
    corners = length-map e.nodes (vertex_of vs) ∙ x.element.corners ∙ type-corners e.kind x.element.kind;
    in_range = all_map (λ v. v < length (mesh_of c).at) (vertex_of vs) e.nodes (all_weaker (λ v. list_any (λ (n : Node). n.number == v) vs ≡ true) (λ v. vertex_of vs v < length (mesh_of c).at) (λ v h. let low = position-within (λ (n : Node). n.number == v) vs h in omega (arith, low, count-vertices)) e.nodes x.corners);
    different = λ i j less low same.
        let count = length-map e.nodes (vertex_of vs) in
        let low_j : j < length e.nodes = omega (arith, low, count) in
        let low_i : i < length e.nodes = omega (arith, less, low_j) in
        let at_i = get_or-map (vertex_of vs) e.nodes i 0 0 low_i in
        let at_j = get_or-map (vertex_of vs) e.nodes j 0 0 low_j in
        different-at e.nodes x.element.nodes_differ i j less low_j (sym (back i low_i) ∙ ap (number_at vs) (sym at_i ∙ same ∙ at_j) ∙ back j low_j);
  }
    where
      dims : dim_of (poly e) ≡ (mesh_of c).dim
      dims = eqb-true (dim e) (greatest_dim c) x.top

      back : (k : ℕ) → k < length e.nodes → number_at vs (vertex_of vs (get_or e.nodes k 0)) ≡ get_or e.nodes k 0
      back k low = position-back vs (get_or e.nodes k 0) (all_at (λ v. list_any (λ (n : Node). n.number == v) vs ≡ true) e.nodes k 0 x.corners low)

  -- some element of the mesh's dimension has the number of a vertex
  number-used : (v : ℕ) → v < length vs → list_any (λ e. is_top c e && has_number e.nodes (number_at vs v)) c.elements ≡ true
  unfolding vertex_nodes number_at
  number-used v low =
      let nowhere : Node = record { number = 0; at = [] } in
      ap (λ n. list_any (λ e. is_top c e && has_number e.nodes n) c.elements) (get_or-map (λ (n : Node). n.number) vs v nowhere 0 low)
      ∙ all_at (λ (node : Node). list_any (λ e. is_top c e && has_number e.nodes node.number) c.elements ≡ true) vs v nowhere (filter_passing (λ (node : Node). list_any (λ e. is_top c e && has_number e.nodes node.number) c.elements) c.nodes) low

  -- and so has a kept one
  vertex-used : (v : ℕ) → v < length vs → list_any (λ (cell : Cell). list_any (λ w. w == v) cell.vertices) (map (cell_of vs) (cell_elements c)) ≡ true
  unfolding cell_elements kept Respects
  vertex-used v low =
      let x = number_at vs v in
      let stays : list_any (λ e. is_top c e && has_number e.nodes x) (kept_after [] c.elements) ≡ true =
      ⊎_elim (λ none. absurd (cc none)) (λ t. t) (kept-any (λ e. is_top c e && has_number e.nodes x)
      (λ e f same h. let both = and_parts (is_top c e) (has_number e.nodes x) h in and_from (is_top c f) (has_number f.nodes x) (ap (λ d. d == greatest_dim c) (sym (one-dim e f same)) ∙ both.0) (sym (one-nodes e f x same) ∙ both.1))
      [] c.elements (number-used v low)) in
      any_map (λ (cell : Cell). list_any (λ w. w == v) cell.vertices) (cell_of vs) (cell_elements c)
      ∙ any_weaker (λ e. has_number e.nodes x) (λ e. list_any (λ w. w == v) (map (vertex_of vs) e.nodes))
      (λ e h. any_map (λ w. w == v) (vertex_of vs) e.nodes ∙ any_weaker (λ m. m == x) (λ m. vertex_of vs m == v) (λ m k. eq-eqb (vertex_of vs m) v (ap (vertex_of vs) (eqb-true m x k) ∙ position-of vs vertex-numbers v low)) e.nodes h)
      (cell_elements c) (any_filter (λ e. has_number e.nodes x) (is_top c) (kept_after [] c.elements) ∙ stays)

  greatest-bound : greatest_dim c ≤ 3
  unfolding greatest_dim
  greatest-bound = fold-bound 3 0 (map dim c.elements) (omega arith) (all_map (λ d. d ≤ 3) dim c.elements (all_from (λ e. dim e ≤ 3) (λ e. dim-bound (poly e)) c.elements))

  some-cell : 2 ≤ greatest_dim c → 1 ≤ length (cell_elements c)
  unfolding cell_elements kept greatest_dim Respects
  some-cell high =
      let top : list_any (is_top c) c.elements ≡ true = ⊎_elim (λ none. absurd (omega (arith, high, none))) (λ h. sym (any_map (λ d. d == greatest_dim c) dim c.elements) ∙ h) (fold-attained 0 (map dim c.elements)) in
      let stays : list_any (is_top c) (kept_after [] c.elements) ≡ true = ⊎_elim (λ none. absurd (cc none)) (λ t. t) (kept-any (is_top c) (λ e f same h. ap (λ d. d == greatest_dim c) (sym (one-dim e f same)) ∙ h) [] c.elements top) in
      some-passes (is_top c) (kept_after [] c.elements) stays

  -- a place that a row names is there
  place-low : (on : Place) (n k : ℕ) → place_named c on n ≡ Some k → k < count_on (mesh_of c) on
  place-low place.Node n k h = let low = (position-Some (λ (node : Node). node.number == n) vs k (record { number = 0; at = [] }) h).0 in omega (arith, low, count-vertices)
  place-low place.Element n k h = go (find (λ (e : Element). e.number == n) c.elements) h
    where
      go : (o : Option Element) → option_and_then (λ e. position (same_nodes e) (cell_elements c)) o ≡ Some k → k < length (mesh_of c).cells
      go (Some e) t = let low = (position-Some (same_nodes e) (cell_elements c) k e t).0 in omega (arith, low, count-cells)
      go None t = absurd (cc t)

  right-section : (s : Section) → IsRightField c s → IsRightSection (mesh_of c) (section_on c s)
  unfolding section_on
  right-section s good = record { some_component = ⊎_elim (λ a. omega (arith, a)) (λ b. ⊎_elim (λ a. omega (arith, a)) (λ a. omega (arith, a)) b) good.comps; rows = all_filter_map (λ (row : Row). length row.values ≡ s.comps) (IsRightRow (mesh_of c) (section_on c s)) (row_of c s.on) row s.rows (all_weaker (IsRightDataRow (numbers_on c s.on) s.comps) (λ (row : Row). length row.values ≡ s.comps) (λ row r. r.values) s.rows good.rows) }
    where
      row : (old new : Row) → length old.values ≡ s.comps → row_of c s.on old ≡ Some new → IsRightRow (mesh_of c) (section_on c s) new
      row old new values h = go (place_named c s.on old.number) refl h
        where
          go : (o : Option ℕ) → place_named c s.on old.number ≡ o → option_map (λ k. record old { number = k }) o ≡ Some new → IsRightRow (mesh_of c) (section_on c s) new
          go (Some k) is t = let same : record old { number = k } ≡ new = cc t in record { number = subst (λ (r : Row). r.number < count_on (mesh_of c) s.on) same (place-low s.on old.number k is); values = subst (λ (r : Row). length r.values ≡ s.comps) same values }
          go None is t = absurd (cc t)

  right-mesh : 2 ≤ greatest_dim c → length (cell_elements c) ≤ 250000 → IsRightMesh (mesh_of c)
  unfolding mesh_of cells_of vertex_nodes
  right-mesh high few = record {
    sound = record { dim = dims; cells = cells; used = λ v low. used v (omega (arith, low, count-vertices)) };
    some_cell = omega (arith, some-cell high, count-cells);
    few_cells = omega (arith, few, count-cells);
    differ = differ;
    three_coordinates = coordinates;
    fields = fields;
    marks = marks;
  }
    where
      dims : ((mesh_of c).dim ≡ 2) ⊎ ((mesh_of c).dim ≡ 3)
      dims = ⊎_elim (λ (more : 2 < greatest_dim c). inr (omega (arith, more, greatest-bound))) (λ (least : greatest_dim c ≤ 2). inl (omega (arith, least, high))) (cases_lt 2 (greatest_dim c))

      cells : AllByRecursion (IsSoundCell (mesh_of c)) (mesh_of c).cells
      cells = all_map (IsSoundCell (mesh_of c)) (cell_of vs) (cell_elements c) (all_weaker IsOfCell (λ e. IsSoundCell (mesh_of c) (cell_of vs e)) sound-cell (cell_elements c) of-cells)

      used : (v : ℕ) → v < length vs → list_any (λ (cell : Cell). list_any (λ w. w == v) cell.vertices) (mesh_of c).cells ≡ true
      used v low = vertex-used v low

      differ : CellsDiffer (mesh_of c)
      differ = cells-sets c known

      coordinates : AllByRecursion (λ (at : List ℤ). length at ≡ 3) (mesh_of c).at
      coordinates = all_map (λ (at : List ℤ). length at ≡ 3) (λ (node : Node). node.at) vs (all_filter (λ (node : Node). length node.at ≡ 3) (λ (node : Node). list_any (λ e. is_top c e && has_number e.nodes node.number) c.elements) c.nodes (all_weaker IsRightNode (λ (node : Node). length node.at ≡ 3) (λ node r. r.three) c.nodes right.nodes))

      fields : AllByRecursion (IsRightSection (mesh_of c)) (mesh_of c).fields
      fields = all_map (IsRightSection (mesh_of c)) (section_on c) c.fields (all_weaker (IsRightField c) (λ s. IsRightSection (mesh_of c) (section_on c s)) right-section c.fields right.fields)

      marks : AllByRecursion (IsOnPoint (mesh_of c)) (mesh_of c).marks
      marks = all_weaker (λ (mark : Mark). is_point_of (cells_of c) (marked_point mark) ≡ true) (IsOnPoint (mesh_of c)) (λ mark h. any_enumerated (λ (cell : Cell). contains cell (marked_point mark)) 0 (cells_of c) ∙ h) (marks_of c) (marks-on_points c)

-- what an accepted content has: cells of dimension 2 or 3, and few enough
accepted-limits : (c : Content) (m : Mesh) → accepted c ≡ Ok m → (2 ≤ greatest_dim c) × (length (cell_elements c) ≤ 250000)
unfolding accepted
accepted-limits c m h = go (nat_lt (greatest_dim c) 2) (nat_lt 250000 (length (cell_elements c))) refl refl h
  where
    go : (a b : Bool) → nat_lt (greatest_dim c) 2 ≡ a → nat_lt 250000 (length (cell_elements c)) ≡ b → cond a (Err (NoCells (greatest_dim c))) (cond b (Err TooManyCells) (unless (twist c) (mesh_of c))) ≡ Ok m → (2 ≤ greatest_dim c) × (length (cell_elements c) ≤ 250000)
    go true b x y e = absurd (cc e)
    go false true x y e = absurd (cc e)
    go false false x y e = (ltb-false (greatest_dim c) 2 x, ltb-false 250000 (length (cell_elements c)) y)

-- the mesh of a right content is right
pub right-accepted : (c : Content) (m : Mesh) → IsRight c → accepted c ≡ Ok m → IsRightMesh m
right-accepted c m right h = let limits = accepted-limits c m h in subst IsRightMesh (accepted-mesh c m h) (right-mesh c right limits.0 limits.1)
