-- One element more.
use Rattle.std.proofs.Common.{◌≡◌, ℕ, ◌+◌, ◌<◌, ◌≤◌, Bool, true, false, cond, max, ◌&&◌, nat_eq, List, [], ◌∷◌, ◌++◌, map, length, take, get_or, Option, Some, None, refl, sym, ap, ap₂, ◌∙◌, subst, ⊎_elim, arith, length-append}
use Rattle.std.specs.Prelude.{fold, slice_index}
use Rattle.std.specs.List.{AllByRecursion, list_any, position, position_or_len, slice_get}
use Rattle.std.proofs.Math.Seq.{take-length, get_or-append_seam}
use Rattle.std.proofs.lemmas.Option.{get_or_from_slice_get, slice_get_read}
use Rattle.std.proofs.lemmas.List.{map-append, get_or-map, get_or_append_left, append-nil, length-map, length-take-le}
use Rattle.std.proofs.lemmas.Bool.{cases_lt}
use Rattle.plain_lists.proofs.Each.{all_append}
use Rattle.std.proofs.lemmas.List.Sums.{fold-append}
use Rattle.input_defs.specs.Content.{Element, Content}
use Rattle.input_defs.specs.Meshes.{dim, same_place, is_top}
use Rattle.input_laws.specs.place_laws.Places.{IsPlace, stands_on, firsts_of, element_at, cells_before, filled, key_of, same_key}
use Rattle.mesh_check.specs.element_places.Found.{AreCellsUpTo}
use Rattle.input_laws.proofs.place_laws.Firsts.{Finds, take-next, first-here, first-before, finds-old, finds-new, first-old, first-new, cells-next}
use Rattle.input_laws.proofs.place_laws.Keys.{first-same}

-- an element by its place
pub element-is : (es : List Element) (i : ℕ) (e : Element) → slice_get es i ≡ Some e → element_at es i ≡ e
element-is es i e h = get_or_from_slice_get es i e (element_at [] 0) h

-- a number for each element, one more
pub map-next : (f : Element → ℕ) (es : List Element) (i : ℕ) → i < length es → map f (take (i + 1) es) ≡ map f (take i es) ++ f (element_at es i) ∷ []
map-next f es i low = ap (map f) (take-next es i low) ∙ map-append f (take i es) (element_at es i ∷ [])

pub dims-next : (es : List Element) (i : ℕ) (e : Element) → i < length es → slice_get es i ≡ Some e → fold max 0 (map dim (take (i + 1) es)) ≡ max (fold max 0 (map dim (take i es))) (dim e)
dims-next es i e low h = ap (fold max 0) (map-next dim es i low) ∙ fold-append max 0 (map dim (take i es)) (dim (element_at es i) ∷ []) ∙ ap (λ f. max (fold max 0 (map dim (take i es))) (dim f)) (element-is es i e h)

-- the place of the first element where element i stands
pub first-at : (es : List Element) (i : ℕ) → i < length es → slice_index (firsts_of es) i ≡ position_or_len (same_place (element_at es i)) es
first-at es i low = get_or-map (λ e. position_or_len (same_place e) es) es i (element_at [] 0) 0 low

-- all elements
pub take-whole : (es : List Element) (i : ℕ) → i ≤ length es → length es ≤ i → take i es ≡ es
take-whole es i low high = let is : i ≡ length es = omega arith in ap (λ k. take k es) is ∙ take-length es

-- it is in range
pub first-low : (es : List Element) (i : ℕ) → i < length es → slice_index (firsts_of es) i < length es
first-low es i low = let s = first-at es i low in let below = go (list_any (same_place (element_at es i)) (take i es)) refl in omega arith
  where
    go : (b : Bool) → list_any (same_place (element_at es i)) (take i es) ≡ b → position_or_len (same_place (element_at es i)) es ≤ i
    go true h = let r = first-before es i low h in omega arith
    go false h = let r = first-here es i low h in omega arith

-- ---- the cells

-- one element more, which becomes a cell or not
pub cells-step : (c : Content) (i : ℕ) (cells before cells' before' : List ℕ) (b : Bool) → AreCellsUpTo c i cells before → i < length c.elements → before' ≡ before ++ length cells ∷ []
    → b ≡ (nat_eq (position_or_len (same_place (element_at c.elements i)) c.elements) i && is_top c (element_at c.elements i)) → cells' ≡ cond b (cells ++ i ∷ []) cells → AreCellsUpTo c (i + 1) cells' before'
cells-step c i cells before cells' before' b so low is_before is_b is_cells = record {
  cells_are = ap (map (element_at c.elements)) is_cells ∙ listed b ∙ ap₂ (λ xs t. xs ++ cond t (element_at c.elements i ∷ []) []) so.cells_are is_b ∙ sym (cells-next (is_top c) c.elements i low);
  in_range = subst (AllByRecursion (λ k. k < length c.elements)) (sym is_cells) (all b);
  few = let e = ap (λ (xs : List ℕ). length xs) is_cells in let f = few b in omega arith;
  before_are = λ k h. ap (λ xs. slice_index xs k) is_before ∙ at k h;
  each = ap (λ (xs : List ℕ). length xs) is_before ∙ length-append before (length cells ∷ []) ∙ (let e = so.each in omega arith);
}
  where
    listed : (t : Bool) → map (element_at c.elements) (cond t (cells ++ i ∷ []) cells) ≡ map (element_at c.elements) cells ++ cond t (element_at c.elements i ∷ []) []
    listed true = map-append (element_at c.elements) cells (i ∷ [])
    listed false = sym (append-nil (map (element_at c.elements) cells))

    all : (t : Bool) → AllByRecursion (λ k. k < length c.elements) (cond t (cells ++ i ∷ []) cells)
    all true = all_append (λ k. k < length c.elements) cells (i ∷ []) so.in_range (low, tt)
    all false = so.in_range

    few : (t : Bool) → length (cond t (cells ++ i ∷ []) cells) ≤ i + 1
    few true = let e = length-append cells (i ∷ []) in let f = so.few in omega arith
    few false = let f = so.few in omega arith

    count : length cells ≡ cells_before c i
    count = sym (length-map cells (element_at c.elements)) ∙ ap (λ (es : List Element). length es) so.cells_are

    at : (k : ℕ) → k < i + 1 → slice_index (before ++ length cells ∷ []) k ≡ cells_before c k
    at k h = ⊎_elim
        (λ (less : k < i). get_or_append_left before (length cells ∷ []) 0 k (omega (arith, so.each, less)) ∙ so.before_are k less)
        (λ (most : i ≤ k). let is : k ≡ length before = omega (arith, so.each, most, h) in let here : k ≡ i = omega (arith, most, h) in
        ap (slice_index (before ++ length cells ∷ [])) is ∙ get_or-append_seam before (length cells) [] 0 ∙ count ∙ ap (cells_before c) (sym here))
        (cases_lt k i)

-- what stands in a list of numbers at a place in range
pub number-at : (xs : List ℕ) (n i x : ℕ) → length xs ≡ n → i < n → x ≡ get_or xs i x → slice_index xs i ≡ x
number-at xs n i x each low is = get_or_from_slice_get xs i x 0 (slice_get_read xs n i x (sym each) low is)

-- ---- the table of keys

-- an element whose key is in the table
pub table-old : (es : List Element) (i v : ℕ) (get : ℕ × List ℕ → Option ℕ) → AllByRecursion (λ (e : Element). IsPlace e.nodes) es → i < length es → Finds (take i es) get → Some v ≡ get (key_of (element_at es i))
    → Finds (take (i + 1) es) get × (v ≡ position_or_len (same_place (element_at es i)) es)
table-old es i v get all low finds there = (
  subst (λ xs. Finds xs get) (sym (take-next es i low)) (finds-old (take i es) get (element_at es i) v finds (sym there)),
  first-old es i v low all (sym (finds (key_of (element_at es i))) ∙ sym there),
)

-- one whose key is new
pub table-new : (es : List Element) (i : ℕ) (get get' : ℕ × List ℕ → Option ℕ) → AllByRecursion (λ (e : Element). IsPlace e.nodes) es → i < length es → Finds (take i es) get → None ≡ get (key_of (element_at es i))
    → ((q : ℕ × List ℕ) → get' q ≡ cond (same_key (key_of (element_at es i)) q) (Some i) (get q)) → Finds (take (i + 1) es) get' × (i ≡ position_or_len (same_place (element_at es i)) es)
table-new es i get get' all low finds none more = (
  subst (λ xs. Finds xs get') (sym (take-next es i low)) (finds-new (take i es) get get' (element_at es i) finds (sym none)
      (λ q. more q ∙ ap (λ n. cond (same_key (key_of (element_at es i)) q) (Some n) (get q)) (sym (length-take-le i es (omega arith))))),
  first-new es i low all (sym (finds (key_of (element_at es i))) ∙ sym none),
)

-- what is found for keys is found for places
pub found-places : (es : List Element) (get : ℕ × List ℕ → Option ℕ) → AllByRecursion (λ (e : Element). IsPlace e.nodes) es → Finds es get → (d : ℕ) (nodes : List ℕ) → IsPlace nodes → get (d, filled nodes) ≡ position (stands_on d nodes) es
found-places es get all finds d nodes p = finds (d, filled nodes) ∙ first-same d nodes es p all
