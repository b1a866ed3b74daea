-- Rows that lie one after another.
use Rattle.std.proofs.Common.{◌≡◌, ℕ, suc, ◌+◌, ◌-◌, ◌<◌, ◌≤◌, List, [], ◌∷◌, ◌++◌, length, map, get_or, take, drop, sym, ap, ◌∙◌, subst, arith, length-drop, length-append, append-nil, add-one}
use Rattle.std.specs.Prelude.{flat_map, slice_range}
use Rattle.std.proofs.lemmas.List.{length-map, length-take, get_or-take, get_or-drop, map_push, map-append, take_more, take-append-drop}
use Rattle.std.proofs.lemmas.List.Concat.{flat_map-append}
use Rattle.std.proofs.Math.Seq.{drop-append_seam, take-append_seam, drop-cons}
use Rattle.plain_lists.specs.Lists.{below}
use Rattle.plain_lists.proofs.Below.{length-below, get_or-map-below, map-below-length}
use Rattle.mesh_defs.specs.Mesh.{Cell}
use Rattle.mesh_defs.specs.Points.{Sight}
use Rattle.local_points.specs.Cells.{cell_at}
use Rattle.local_points.specs.Points.{count_before, beginnings}
use Rattle.local_points.specs.Rows.{rows, part}

-- one row fewer than places
pub length-rows : {X : Type 0} (items : List X) (firsts : List ℕ) → length (rows items firsts) ≡ length firsts - 1
unfolding rows
length-rows items firsts = length-map (below (length firsts - 1)) (part items firsts) ∙ length-below (length firsts - 1)

-- each row is its part
pub row-part : {X : Type 0} (items : List X) (firsts : List ℕ) (i : ℕ) → i < length (rows items firsts) → get_or (rows items firsts) i [] ≡ part items firsts i
unfolding rows
row-part items firsts i h = let within : i < length firsts - 1 = omega (arith, length-rows items firsts) in get_or-map-below (part items firsts) (length firsts - 1) i [] within

-- an entry of a row lies within the items
pub entry-within : {X : Type 0} (items : List X) (firsts : List ℕ) (i j : ℕ) → i < length (rows items firsts) → j < length (get_or (rows items firsts) i []) → get_or firsts i 0 + j < length items
entry-within items firsts i j h within =
    let first = get_or firsts i 0 in
    let next = get_or firsts (i + 1) 0 in
    let row : j < length (take (next - first) (drop first items)) = subst (λ l. j < length l) (row-part items firsts i h) within in
    omega (arith, length-take (next - first) (drop first items), length-drop first items)

-- it stands that far behind the row's beginning
pub entry-at : {X : Type 0} (items : List X) (firsts : List ℕ) (i j : ℕ) (d : X) → i < length (rows items firsts) → j < length (get_or (rows items firsts) i []) → get_or (get_or (rows items firsts) i []) j d ≡ get_or items (get_or firsts i 0 + j) d
entry-at items firsts i j d h within =
    let first = get_or firsts i 0 in
    let next = get_or firsts (i + 1) 0 in
    let row : j < length (take (next - first) (drop first items)) = subst (λ l. j < length l) (row-part items firsts i h) within in
    let near : j < next - first = omega (arith, length-take (next - first) (drop first items)) in
    ap (λ l. get_or l j d) (row-part items firsts i h) ∙ get_or-take (next - first) (drop first items) j d near ∙ get_or-drop first items j d

-- ---- rows of what cells have

-- one more number
pub below-more : {X : Type 0} (f : ℕ → X) (n : ℕ) → map f (below (n + 1)) ≡ map f (below n) ++ f n ∷ []
below-more f n = ap (λ k. map f (below k)) (add-one n) ∙ map_push f (below n) n

-- what one more cell has
pub seen-more : {X A : Type 0} (f : X → List A) (xs : List X) (i : ℕ) (d : X) → i < length xs → flat_map f (take (i + 1) xs) ≡ flat_map f (take i xs) ++ f (get_or xs i d)
seen-more f xs i d h =
    ap (flat_map f) (take_more xs i d h) ∙ flat_map-append f (take i xs) (get_or xs i d ∷ [])
    ∙ ap (λ l. flat_map f (take i xs) ++ l) (append-nil (f (get_or xs i d)))

-- the middle one of three lists
middle : {X : Type 0} (xs ys zs : List X) (n : ℕ) → n ≡ length xs + length ys → slice_range (xs ++ (ys ++ zs)) (length xs) n ≡ ys
middle xs ys zs n e =
    let size : n - length xs ≡ length ys = omega arith in
    ap (λ k. take k (drop (length xs) (xs ++ (ys ++ zs)))) size ∙ ap (take (length ys)) (drop-append_seam xs (ys ++ zs)) ∙ take-append_seam ys zs

-- the rows of what cells have are what each has
pub rows-of_cells : (has : ℕ × Cell → List Sight) (f : Sight → ℕ) (cells : List (ℕ × Cell)) → rows (map f (flat_map has cells)) (beginnings has cells) ≡ map (λ c. map f (has c)) cells
unfolding rows
rows-of_cells has f cells =
    ap (λ n. map (part items begins) (below n)) size ∙ map-below-length (part items begins) (λ c. map f (has c)) cells none each
  where
    items : List ℕ
    items = map f (flat_map has cells)

    begins : List ℕ
    begins = beginnings has cells

    none : ℕ × Cell
    none = cell_at [] 0

    size : length begins - 1 ≡ length cells
    size = omega (arith, length-map (below (length cells + 1)) (count_before has cells), length-below (length cells + 1))

    begin-at : (k : ℕ) → k ≤ length cells → get_or begins k 0 ≡ count_before has cells k
    begin-at k h = get_or-map-below (count_before has cells) (length cells + 1) k 0 (omega arith)

    each : (k : ℕ) → k < length cells → part items begins k ≡ map f (has (get_or cells k none))
    each k h =
        let before = flat_map has (take k cells) in
        let here = has (get_or cells k none) in
        let after = flat_map has (drop (suc k) cells) in
        let whole : flat_map has cells ≡ before ++ (here ++ after) =
        ap (flat_map has) (sym (take-append-drop k cells)) ∙ flat_map-append has (take k cells) (drop k cells)
        ∙ ap (λ l. before ++ flat_map has l) (drop-cons cells k none h) in
        let parts : items ≡ map f before ++ (map f here ++ map f after) =
        ap (map f) whole ∙ map-append f before (here ++ after) ∙ ap (λ l. map f before ++ l) (map-append f here after) in
        let first : get_or begins k 0 ≡ length (map f before) = begin-at k (omega arith) ∙ sym (length-map before f) in
        let next : get_or begins (k + 1) 0 ≡ length (map f before) + length (map f here) =
        begin-at (k + 1) (omega arith) ∙ ap length (seen-more has cells k none h) ∙ omega (arith, length-append before here, length-map before f, length-map here f) in
        (λ i. slice_range (parts i) (first i) (get_or begins (k + 1) 0)) ∙ middle (map f before) (map f here) (map f after) (get_or begins (k + 1) 0) next
