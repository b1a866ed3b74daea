-- Elements on the nodes of an earlier one, and the first that is twisted.
use Rattle.std.proofs.Common.{◌≡◌, ◌≢◌, ℕ, zero, suc, ◌+◌, ◌<◌, Bool, true, false, cond, not, ◌||◌, ◌&&◌, ◌==◌, nat_eq, List, [], ◌∷◌, ℤ, length, take, get_or, Option, Some, None, refl, sym, ap, ap₂, ◌∙◌, arith}
use Rattle.std.specs.Prelude.{find, is_some, is_none, option_map, unwrap_or}
use Rattle.std.specs.List.{AllPairs, list_any, position_or_len, slice_get}
use Rattle.std.specs.Cmp.Lexicographic.{same_text}
use Rattle.std.proofs.lemmas.Bool.{cond-true, or_left, or_right, and_parts, eq-eqb, ne_eqb, both_ways}
use Rattle.std.proofs.lemmas.List.Folds.{list_any-append}
use Rattle.mesh_check.proofs.element_places.Steps.{element-is}
use Rattle.std.proofs.lemmas.Map.Keys.{IsDistinct-head, IsDistinct-tail}
use Rattle.plain_lists.specs.Lists.{sorted}
use Rattle.plain_lists.proofs.Each.{all_at}
use Rattle.plain_lists.proofs.Finding.{find-append_none, find-passes}
use Rattle.mesh_defs.specs.declared.Poly.{Poly}
use Rattle.mesh_defs.specs.declared.Poly.TheVariants.{Vertex}
use Rattle.mesh_defs.specs.Tables.{corner_count}
use Rattle.input_defs.specs.Content.{Element, Content}
use Rattle.input_defs.specs.Sections.{poly_of_type, corners_of_type}
use Rattle.input_defs.specs.RightContent.{NumbersDiffer, IsRight, IsRightElement, node_numbers}
use Rattle.input_defs.specs.Meshes.{poly, dim, greatest_dim, same_nodes, same_place, first_at, is_twisted}
use Rattle.mesh_defs.specs.Orientation.{relative}
use Rattle.input_laws.proofs.Kept.{same_place-refl}
use Rattle.input_laws.specs.place_laws.Places.{element_at}
use Rattle.input_laws.proofs.place_laws.Keys.{length-sorted}
use Rattle.input_laws.proofs.place_laws.Firsts.{split-at, take-next}

-- ---- one element

pub right-at : (c : Content) → IsRight c → (i : ℕ) → i < length c.elements → IsRightElement (node_numbers c) (element_at c.elements i)
right-at c right i low = all_at (IsRightElement (node_numbers c)) c.elements i (element_at [] 0) right.elements low

type-corners : (k : ℕ) → is_some (poly_of_type k) ≡ true → corners_of_type k ≡ corner_count (unwrap_or (poly_of_type k) Vertex)
type-corners k h = go (poly_of_type k) h
  where
    go : (o : Option Poly) → is_some o ≡ true → unwrap_or (option_map corner_count o) 0 ≡ corner_count (unwrap_or o Vertex)
    go (Some p) h = refl
    go None h = absurd (cc h)

-- it has as many nodes as its polytope has corners
pub nodes-count : (known : List ℕ) (e : Element) → IsRightElement known e → length e.nodes ≡ corner_count (poly e)
nodes-count known e right = right.corners ∙ type-corners e.kind right.kind

-- numbers at different places differ
pub different : (ns : List ℕ) → NumbersDiffer ns → AllPairs (λ x y. x ≢ y) ns
different [] d i j e less low same = absurd (omega (arith, low))
different (n ∷ ns) d i zero e less low same = absurd (omega (arith, less))
different (n ∷ ns) d zero (suc j) e less low same = both_ways _ (all_at (λ m. nat_eq n m ≡ false) ns j e (IsDistinct-head nat_eq n ns d) (omega (arith, low))) (eq-eqb n (get_or ns j e) same)
different (n ∷ ns) d (suc i) (suc j) e less low same = different ns (IsDistinct-tail nat_eq n ns d) i j e (omega (arith, less)) (omega (arith, low)) same

-- ---- the first element at its place

find-position : (p : Element → Bool) (es : List Element) → list_any p es ≡ true → find p es ≡ Some (element_at es (position_or_len p es))
find-position p [] h = absurd (cc h)
find-position p (e ∷ es) h = go (p e) refl (find-position p es)
  where
    go : (b : Bool) → p e ≡ b → (list_any p es ≡ true → find p es ≡ Some (element_at es (position_or_len p es))) → cond b (Some e) (find p es) ≡ Some (element_at (e ∷ es) (cond (not b) (1 + position_or_len p es) 0))
    go true k r = refl
    go false k r = let one : 1 + position_or_len p es ≡ suc (position_or_len p es) = omega arith in
        r (sym (ap (λ t. t || list_any p es) k) ∙ h) ∙ ap (λ n. Some (element_at (e ∷ es) n)) (sym one)

-- an element passes where it stands
pub any-at : (p : Element → Bool) (es : List Element) (i : ℕ) → i < length es → p (element_at es i) ≡ true → list_any p es ≡ true
any-at p [] i low h = absurd (omega arith)
any-at p (e ∷ es) zero low h = or_left (p e) (list_any p es) h
any-at p (e ∷ es) (suc i) low h = or_right (p e) (list_any p es) (any-at p es i (omega arith) h)

pub first-found : (c : Content) (i : ℕ) → i < length c.elements → find (same_place (element_at c.elements i)) c.elements ≡ Some (element_at c.elements (position_or_len (same_place (element_at c.elements i)) c.elements))
first-found c i low = find-position (same_place (element_at c.elements i)) c.elements (any-at (same_place (element_at c.elements i)) c.elements i low (same_place-refl (element_at c.elements i)))

-- the first one at the place of element i
pub first-is : (c : Content) (i k : ℕ) → i < length c.elements → k ≡ position_or_len (same_place (element_at c.elements i)) c.elements → first_at c (element_at c.elements i) ≡ element_at c.elements k
first-is c i k low is = ap (λ o. unwrap_or o (element_at c.elements i)) (first-found c i low) ∙ ap (element_at c.elements) (sym is)

-- it has as many nodes
pub first-count : (c : Content) (i k : ℕ) → i < length c.elements → k ≡ position_or_len (same_place (element_at c.elements i)) c.elements → length (element_at c.elements k).nodes ≡ length (element_at c.elements i).nodes
first-count c i k low is =
    let e = element_at c.elements i in
    let f = element_at c.elements k in
    let same : same_place e f ≡ true = find-passes (same_place e) c.elements f (first-found c i low ∙ ap (λ n. Some (element_at c.elements n)) (sym is)) in
    let sets : sorted e.nodes ≡ sorted f.nodes = same_text (sorted e.nodes) (sorted f.nodes) (sym (and_parts (dim e == dim f) (same_nodes e f) same).1) in
    sym (length-sorted f.nodes) ∙ ap (λ (ns : List ℕ). length ns) (sym sets) ∙ length-sorted e.nodes

-- ---- the first element that passes a test

-- the one at place i, where none before it does
pub find-at : (p : Element → Bool) (es : List Element) (i : ℕ) → i < length es → list_any p (take i es) ≡ false → p (element_at es i) ≡ true → find p es ≡ Some (element_at es i)
find-at p es i low none here =
    let s = split-at es i low in
    ap (find p) s.1 ∙ find-append_none p (take i es) (element_at es i ∷ s.0) none ∙ cond-true (p (element_at es i)) (Some (element_at es i)) (find p s.0) here

-- none does among one more
pub none-more : (p : Element → Bool) (es : List Element) (i : ℕ) → i < length es → list_any p (take i es) ≡ false → p (element_at es i) ≡ false → list_any p (take (i + 1) es) ≡ false
none-more p es i low none here = ap (list_any p) (take-next es i low) ∙ list_any-append p (take i es) (element_at es i ∷ []) ∙ ap₂ (λ a b. a || (b || false)) none here

-- ---- the test

-- an element that a text has
pub element-of : (c t : Content) (i : ℕ) (e : Element) → t ≡ c → slice_get t.elements i ≡ Some e → element_at c.elements i ≡ e
element-of c t i e same h = ap (λ (m : Content). element_at m.elements i) (sym same) ∙ element-is t.elements i e h

-- an element of lower dimension is not twisted
pub untwisted : (c : Content) (e : Element) → dim e ≢ greatest_dim c → false ≡ is_twisted c e
untwisted c e low = ap (λ b. b && is_none (relative (poly e) (first_at c e).nodes e.nodes)) (sym (ne_eqb (dim e) (greatest_dim c) low))

-- one of the mesh's dimension is where no orientation relates it to the first one
pub twisted : (c : Content) (e f : Element) (o : Option ℤ) (n : Bool) → dim e ≡ greatest_dim c → first_at c e ≡ f → is_some o ≡ not n → o ≡ relative (poly e) f.nodes e.nodes → n ≡ is_twisted c e
twisted c e f o n top is some value = none o n some ∙ ap is_none value ∙ ap₂ (λ b ns. b && is_none (relative (poly e) ns e.nodes)) (sym (eq-eqb (dim e) (greatest_dim c) top)) (ap (λ (x : Element). x.nodes) (sym is))
  where
    none : (o : Option ℤ) (n : Bool) → is_some o ≡ not n → n ≡ is_none o
    none (Some x) true h = absurd (cc h)
    none (Some x) false h = refl
    none None true h = refl
    none None false h = absurd (cc h)
