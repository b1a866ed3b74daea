-- The points of one cell are different: facets and edges have different corners, and the vertices at these differ.
use Rattle.std.proofs.Common.{◌≡◌, ◌≢◌, ℕ, ◌+◌, ◌<◌, ◌≤◌, Bool, true, false, cond, not, ◌&&◌, ◌||◌, ◌==◌, nat_lt, List, [], ◌∷◌, map, length, get_or, slice_index, refl, sym, ap, ap₂, ◌∙◌, subst, ⊎_elim, arith}
use Rattle.std.specs.Prelude.{nat_le}
use Rattle.std.specs.List.{list_any, list_all, AllByRecursion, enumerate_from}
use Rattle.std.specs.Cmp.Lexicographic.{same_text}
use Rattle.std.proofs.lemmas.Bool.{and_parts, and_from, not-true, eqb-true, eq-eqb, ltb-true, cases_lt}
use Rattle.mesh_defs.specs.declared.Poly.{Poly}
use Rattle.mesh_defs.specs.declared.Poly.TheVariants.{Vertex, Segment, Triangle, Quad, Tet, Hex}
use Rattle.plain_lists.specs.Lists.{same_list, inserted, sorted, picked}
use Rattle.plain_lists.proofs.Each.{all_weaker, all_both, each_passes}
use Rattle.plain_lists.proofs.Finding.{same_tests, any_map, any_agree, stands, among}
use Rattle.mesh_defs.specs.Tables.{Facet, dim_of, corner_count, facets_of, edges_of}
use Rattle.mesh_defs.specs.Mesh.{Mesh, Cell}
use Rattle.mesh_defs.specs.Points.{Sight, point_of, shows, cell_face, cell_edge, cell_faces, cell_edges}
use Rattle.mesh_defs.specs.Sights.{points_differ}
use Rattle.mesh_defs.specs.RightMesh.{IsSoundCell}

-- ---- sorting keeps what is there

any-inserted : (p : ℕ → Bool) (x : ℕ) (ys : List ℕ) → list_any p (inserted x ys) ≡ (p x || list_any p ys)
any-inserted p x [] = refl
any-inserted p x (y ∷ ys) = go (nat_le x y) (any-inserted p x ys)
  where
    swap : (a b c : Bool) → (b || (a || c)) ≡ (a || (b || c))
    swap true true c = refl
    swap true false c = refl
    swap false b c = refl

    go : (b : Bool) → list_any p (inserted x ys) ≡ (p x || list_any p ys) → list_any p (cond b (x ∷ y ∷ ys) (y ∷ inserted x ys)) ≡ (p x || (p y || list_any p ys))
    go true r = refl
    go false r = ap (λ t. p y || t) r ∙ swap (p x) (p y) (list_any p ys)

any-sorted : (p : ℕ → Bool) (xs : List ℕ) → list_any p (sorted xs) ≡ list_any p xs
unfolding sorted
any-sorted p [] = refl
any-sorted p (x ∷ xs) = any-inserted p x (sorted xs) ∙ ap (λ t. p x || t) (any-sorted p xs)

-- ---- corners

-- some corner of the one is none of the other
abbrev pub is_apart : List ℕ → List ℕ → Bool
is_apart cs ds = list_any (λ k. not (list_any (λ j. j == k) ds)) cs

-- each two of these have such a corner
abbrev pub are_apart : List (List ℕ) → Bool
are_apart [] = true
are_apart (cs ∷ css) = list_all (is_apart cs) css && are_apart css

-- all are corners below n
abbrev pub Below : ℕ → List ℕ → Type 0
Below n cs = AllByRecursion (λ k. k < n) cs

module _ (vs : List ℕ) (different : (i j : ℕ) → i < j → j < length vs → slice_index vs i ≢ slice_index vs j) where
  -- one vertex stands at one corner
  at-corner : (j k : ℕ) → j < length vs → k < length vs → (slice_index vs j == slice_index vs k) ≡ (j == k)
  at-corner j k low high = same_tests (slice_index vs j == slice_index vs k) (j == k)
      (λ e. eq-eqb j k (⊎_elim
      (λ (lt : j < k). absurd (different j k lt high (eqb-true _ _ e)))
      (λ (ge : k ≤ j). ⊎_elim (λ (lt : k < j). absurd (different k j lt low (sym (eqb-true _ _ e)))) (λ (le : j ≤ k). let same : j ≡ k = omega arith in same) (cases_lt k j))
      (cases_lt j k)))
      (λ e. eq-eqb _ _ (ap (slice_index vs) (eqb-true j k e)))

  -- lists of vertices at corners that are apart have different entries
  picked-apart : (cs ds : List ℕ) → Below (length vs) cs → Below (length vs) ds → is_apart cs ds ≡ true → sorted (picked vs cs) ≢ sorted (picked vs ds)
  picked-apart cs ds low high apart same =
      let (k, (within, here), missing) = among (λ k. (k < length vs) × (list_any (λ j. slice_index vs j == slice_index vs k) cs ≡ true)) (λ k. not (list_any (λ j. j == k) ds)) cs
      (all_both (λ k. k < length vs) (λ k. (q : ℕ → Bool) → q k ≡ true → list_any q cs ≡ true) (λ k. (k < length vs) × (list_any (λ j. slice_index vs j == slice_index vs k) cs ≡ true))
      (λ k l s. (l, s (λ j. slice_index vs j == slice_index vs k) (eq-eqb _ _ refl))) cs low (stands cs)) apart in
      let v = slice_index vs k in
      let one : list_any (λ w. w == v) (sorted (picked vs cs)) ≡ true = any-sorted (λ w. w == v) (picked vs cs) ∙ any_map (λ w. w == v) (λ j. get_or vs j 0) cs ∙ here in
      let two : list_any (λ w. w == v) (sorted (picked vs ds)) ≡ false = any-sorted (λ w. w == v) (picked vs ds) ∙ any_map (λ w. w == v) (λ j. get_or vs j 0) ds
      ∙ any_agree (λ j. slice_index vs j == v) (λ j. j == k) ds (all_weaker (λ j. j < length vs) (λ j. (slice_index vs j == v) ≡ (j == k)) (λ j l. at-corner j k l within) ds high) ∙ not-true _ missing in
      absurd (cc (sym one ∙ ap (list_any (λ w. w == v)) same ∙ two))

  -- sights on vertices at corners that are apart show different points
  module _ {X : Type 0} (see : ℕ × X → Sight) (corners : X → List ℕ) (on : (y : ℕ × X) → (see y).arrangement ≡ picked vs (corners y.1)) where
    one-apart : (y : ℕ × X) (n : ℕ) (xs : List X) → Below (length vs) (corners y.1) → AllByRecursion (λ x. Below (length vs) (corners x)) xs → list_all (is_apart (corners y.1)) (map corners xs) ≡ true
        → list_any (shows (point_of (see y))) (map see (enumerate_from n xs)) ≡ false
    one-apart y n [] low all h = refl
    one-apart y n (x ∷ xs) low all h =
        let both = and_parts (is_apart (corners y.1) (corners x)) (list_all (is_apart (corners y.1)) (map corners xs)) h in
        ap₂ (λ a b. a || b) (unlike (shows (point_of (see y)) (see (n, x))) refl both.0) (one-apart y (n + 1) xs low all.1 both.1)
      where
        unlike : (b : Bool) → shows (point_of (see y)) (see (n, x)) ≡ b → is_apart (corners y.1) (corners x) ≡ true → b ≡ false
        unlike false e a = refl
        unlike true e a = absurd (picked-apart (corners y.1) (corners x) low all.0 a
            (ap sorted (sym (on y)) ∙ same_text _ _ (sym (and_parts _ (same_list (sorted (see y).arrangement) (sorted (see (n, x)).arrangement)) e).1) ∙ ap sorted (on (n, x))))

    pub seen-differ : (n : ℕ) (xs : List X) → AllByRecursion (λ x. Below (length vs) (corners x)) xs → are_apart (map corners xs) ≡ true → points_differ (map see (enumerate_from n xs)) ≡ true
    seen-differ n [] all h = refl
    seen-differ n (x ∷ xs) all h =
        let both = and_parts (list_all (is_apart (corners x)) (map corners xs)) (are_apart (map corners xs)) h in
        and_from _ _ (ap not (one-apart (n, x) (n + 1) xs all.0 all.1 both.0)) (seen-differ (n + 1) xs all.1 both.1)

-- ---- the tables

-- these are lists of corners below n, each two of them apart
abbrev is_table : ℕ → List (List ℕ) → Bool
is_table n css = list_all (list_all (λ k. nat_lt k n)) css && are_apart css

facets-table : (p : Poly) → is_table (corner_count p) (map (λ (f : Facet). f.corners) (facets_of p)) ≡ true
facets-table Vertex = refl
facets-table Segment = refl
facets-table Triangle = refl
facets-table Quad = refl
facets-table Tet = refl
facets-table Hex = refl

edges-table : (p : Poly) → is_table (corner_count p) (edges_of p) ≡ true
edges-table Vertex = refl
edges-table Segment = refl
edges-table Triangle = refl
edges-table Quad = refl
edges-table Tet = refl
edges-table Hex = refl

-- the corners of a table are below n
all-below : {X : Type 0} (corners : X → List ℕ) (n : ℕ) (xs : List X) → list_all (list_all (λ k. nat_lt k n)) (map corners xs) ≡ true → AllByRecursion (λ x. Below n (corners x)) xs
all-below corners n [] h = tt
all-below corners n (x ∷ xs) h =
    let both = and_parts (list_all (λ k. nat_lt k n) (corners x)) (list_all (list_all (λ k. nat_lt k n)) (map corners xs)) h in
    (all_weaker (λ k. nat_lt k n ≡ true) (λ k. k < n) (λ k e. ltb-true k n e) (corners x) (each_passes (λ k. nat_lt k n) (corners x) both.0), all-below corners n xs both.1)

map-same : (css : List (List ℕ)) → map (λ cs. cs) css ≡ css
map-same [] = refl
map-same (cs ∷ css) = ap (λ l. cs ∷ l) (map-same css)

module _ (m : Mesh) (c : ℕ) (cell : Cell) (sound : IsSoundCell m cell) where
  table-differ : {X : Type 0} (see : ℕ × X → Sight) (corners : X → List ℕ) → ((y : ℕ × X) → (see y).arrangement ≡ picked cell.vertices (corners y.1)) → (xs : List X) → is_table (corner_count cell.poly) (map corners xs) ≡ true
      → points_differ (map see (enumerate_from 0 xs)) ≡ true
  table-differ see corners on xs h =
      let both = and_parts (list_all (list_all (λ k. nat_lt k (corner_count cell.poly))) (map corners xs)) (are_apart (map corners xs)) h in
      seen-differ cell.vertices sound.different see corners on 0 xs (subst (λ n. AllByRecursion (λ x. Below n (corners x)) xs) (sym sound.corners) (all-below corners (corner_count cell.poly) xs both.0)) both.1

  -- the faces of a cell are different points, and so are its edges
  pub faces-differ : points_differ (cell_faces c cell) ≡ true
  faces-differ = go (dim_of cell.poly == 3)
    where
      go : (b : Bool) → points_differ (cond b (map (cell_face c cell) (enumerate_from 0 (facets_of cell.poly))) []) ≡ true
      go true = table-differ (cell_face c cell) (λ (f : Facet). f.corners) (λ y. refl) (facets_of cell.poly) (facets-table cell.poly)
      go false = refl

  pub edges-differ : points_differ (cell_edges c cell) ≡ true
  edges-differ = table-differ (cell_edge c cell) (λ (e : List ℕ). e) (λ y. refl) (edges_of cell.poly) (ap (is_table (corner_count cell.poly)) (map-same (edges_of cell.poly)) ∙ edges-table cell.poly)
