-- The mesh of a content that is put together part by part.
use Rattle.std.proofs.Common.{◌≡◌, ℕ, zero, suc, ◌+◌, ◌<◌, ◌≤◌, Bool, true, false, cond, not, ◌&&◌, ℤ, List, [], ◌∷◌, ◌++◌, map, length, take, get_or, Some, Ok, refl, sym, ap, ap₂, ◌∙◌, subst, arith}
use Rattle.std.specs.Prelude.{◌==◌, filter, slice_index, nat_abs}
use Rattle.std.specs.List.{list_any, slice_get}
use Rattle.std.proofs.lemmas.Option.{get_or_from_slice_get}
use Rattle.std.proofs.lemmas.Bool.{and_parts}
use Rattle.std.proofs.lemmas.List.{length-map, get_or-map, take_more, take-map, length-take-le, map-append}
use Rattle.std.proofs.lemmas.List.Elements.{filter-append}
use Rattle.std.proofs.Math.Seq.{take-length}
use Rattle.plain_lists.specs.Lists.{same_set, differ_as_sets}
use Rattle.plain_lists.proofs.Each.{all_at}
use Rattle.plain_lists.proofs.Finding.{each_fails, any_enumerated}
use Rattle.mesh_defs.specs.declared.Poly.TheVariants.{Vertex}
use Rattle.mesh_defs.specs.Mesh.{Mesh, Cell, Mark}
use Rattle.mesh_defs.specs.Points.{contains, marked_point}
use Rattle.mesh_defs.specs.RightMesh.{IsSoundCell, IsRightMesh, IsOnPoint}
use Rattle.plex_mesh.proofs.Right.{same_set-turn}
use Rattle.input_defs.specs.Content.{Element, Content}
use Rattle.input_defs.specs.RightContent.{IsRight}
use Rattle.input_defs.specs.Meshes.{vertex_nodes, cell_elements, cell_of, cells_of, mesh_of, accepted, is_labelled, is_point_of, point_of_element, mark_of, marks_of}
use Rattle.input_laws.proofs.RightAccepted.{right-accepted}
use Rattle.input_laws.specs.place_laws.Places.{element_at}
use Rattle.input_laws.proofs.place_laws.Firsts.{take-next}
use Rattle.mesh_check.specs.Partly.{coordinates, partly}

-- ---- cells

-- of sets that differ, each is new after those before it
new-after : (xss : List (List ℕ)) (j : ℕ) (d : List ℕ) → differ_as_sets xss ≡ true → j < length xss → list_any (same_set (get_or xss j d)) (take j xss) ≡ false
new-after [] j d h low = absurd (omega arith)
new-after (xs ∷ xss) zero d h low = refl
new-after (xs ∷ xss) (suc j) d h low =
    let both = and_parts (not (list_any (same_set xs) xss)) (differ_as_sets xss) h in
    let apart = all_at (λ ys. same_set xs ys ≡ false) xss j d (each_fails (same_set xs) xss (is-false (list_any (same_set xs) xss) both.0)) (omega arith) in
    rw (same_set-turn (get_or xss j d) xs, apart) (new-after xss j d both.1 (omega arith))
  where
    is-false : (b : Bool) → not b ≡ true → b ≡ false
    is-false true h = absurd (cc)
    is-false false h = refl

abbrev no_cell : Cell
no_cell = record { poly = Vertex; vertices = [] }

-- the cell that comes next in a mesh with the first j cells
pub record IsNext (c : Content) (j : ℕ) (m : Mesh) (cell : Cell) : Type 0 where
  pub few : length m.cells < 250000
  pub sound : IsSoundCell m cell
  pub fresh : list_any (same_set cell.vertices) (map (λ (x : Cell). x.vertices) m.cells) ≡ false
  pub more : take (j + 1) (cells_of c) ≡ take j (cells_of c) ++ cell ∷ []

next-is : (c : Content) (j : ℕ) (cell : Cell) → IsRightMesh (mesh_of c) → j < length (cells_of c) → get_or (cells_of c) j no_cell ≡ cell → IsNext c j (partly c (coordinates c) (take j (cells_of c)) [] [] []) cell
unfolding mesh_of
next-is c j cell right low is =
    let sound = subst (IsSoundCell (mesh_of c)) is (all_at (IsSoundCell (mesh_of c)) (cells_of c) j no_cell right.sound.cells low) in
    let vertices : get_or (map (λ (x : Cell). x.vertices) (cells_of c)) j [] ≡ cell.vertices = get_or-map (λ (x : Cell). x.vertices) (cells_of c) j no_cell [] low ∙ ap (λ (x : Cell). x.vertices) is in
    record {
      few = rw (length-take-le j (cells_of c) (let h : j ≤ length (cells_of c) = omega arith in h)) (omega (arith, low, right.few_cells));
      sound = record { dim = sound.dim; corners = sound.corners; in_range = sound.in_range; different = sound.different };
      fresh = ap₂ (λ vs xss. list_any (same_set vs) xss) (sym vertices) (sym (take-map (λ (x : Cell). x.vertices) j (cells_of c)))
          ∙ new-after (map (λ (x : Cell). x.vertices) (cells_of c)) j [] right.differ (subst (λ k. j < k) (sym (length-map (cells_of c) (λ (x : Cell). x.vertices))) low);
      more = take_more (cells_of c) j no_cell low ∙ ap (λ x. take j (cells_of c) ++ x ∷ []) is;
    }

cells-count : (c : Content) (places : List ℕ) → map (element_at c.elements) places ≡ cell_elements c → length places ≡ length (cells_of c)
unfolding cells_of
cells-count c places are = sym (length-map places (element_at c.elements)) ∙ ap (λ (es : List Element). length es) are ∙ sym (length-map (cell_elements c) (cell_of (vertex_nodes c)))

cell-at : (c : Content) (places : List ℕ) (j : ℕ) → map (element_at c.elements) places ≡ cell_elements c → j < length places → get_or (cells_of c) j no_cell ≡ cell_of (vertex_nodes c) (element_at c.elements (slice_index places j))
unfolding cells_of
cell-at c places j are low =
    let count : j < length (cell_elements c) = subst (λ k. j < k) (sym (length-map places (element_at c.elements)) ∙ ap (λ (es : List Element). length es) are) low in
    get_or-map (cell_of (vertex_nodes c)) (cell_elements c) j (element_at [] 0) no_cell count
    ∙ ap (λ es. cell_of (vertex_nodes c) (get_or es j (element_at [] 0))) (sym are)
    ∙ ap (cell_of (vertex_nodes c)) (get_or-map (element_at c.elements) places j 0 (element_at [] 0) low)

pub next-cell : (c : Content) (places : List ℕ) (j : ℕ) (m : Mesh) (cell : Cell) → IsRight c → accepted c ≡ Ok (mesh_of c) → map (element_at c.elements) places ≡ cell_elements c → j < length places
    → m ≡ partly c (coordinates c) (take j (cells_of c)) [] [] [] → cell ≡ cell_of (vertex_nodes c) (element_at c.elements (slice_index places j)) → IsNext c j m cell
next-cell c places j m cell right ok are low is-m is =
    subst (λ (w : Mesh). IsNext c j w cell) (sym is-m) (next-is c j cell (right-accepted c (mesh_of c) right ok) (subst (λ k. j < k) (cells-count c places are) low) (cell-at c places j are low ∙ sym is))

-- all of them
pub all-cells : (c : Content) (places : List ℕ) (j : ℕ) → map (element_at c.elements) places ≡ cell_elements c → j ≤ length places → length places ≤ j → take j (cells_of c) ≡ cells_of c
all-cells c places j are low high = let count = cells-count c places are in let all : j ≡ length (cells_of c) = omega arith in ap (λ k. take k (cells_of c)) all ∙ take-length (cells_of c)

-- ---- marks

-- an element has a mark
abbrev pub is_marked : Content → Element → Bool
is_marked c e = is_labelled e && is_point_of (cells_of c) (point_of_element (vertex_nodes c) e)

-- the marks of the first i elements
abbrev pub marks_up_to : Content → ℕ → List Mark
marks_up_to c i = map (mark_of (vertex_nodes c)) (filter (is_marked c) (take i c.elements))

pub marks-next : (c : Content) (i : ℕ) → i < length c.elements → marks_up_to c (i + 1) ≡ marks_up_to c i ++ cond (is_marked c (element_at c.elements i)) (mark_of (vertex_nodes c) (element_at c.elements i) ∷ []) []
marks-next c i low =
    ap (λ es. map (mark_of (vertex_nodes c)) (filter (is_marked c) es)) (take-next c.elements i low)
    ∙ ap (map (mark_of (vertex_nodes c))) (filter-append (is_marked c) (take i c.elements) (element_at c.elements i ∷ []))
    ∙ map-append (mark_of (vertex_nodes c)) (filter (is_marked c) (take i c.elements)) (filter (is_marked c) (element_at c.elements i ∷ []))
    ∙ ap (λ ms. marks_up_to c i ++ ms) (go (is_marked c (element_at c.elements i)))
  where
    go : (b : Bool) → map (mark_of (vertex_nodes c)) (cond b (element_at c.elements i ∷ []) []) ≡ cond b (mark_of (vertex_nodes c) (element_at c.elements i) ∷ []) []
    go true = refl
    go false = refl

-- there are no more than elements
pub marks-few : (c : Content) (i : ℕ) → length (marks_up_to c i) ≤ i
marks-few c i = let a = length-map (filter (is_marked c) (take i c.elements)) (mark_of (vertex_nodes c)) in let b = few (take i c.elements) in let d = most i c.elements in omega arith
  where
    few : (es : List Element) → length (filter (is_marked c) es) ≤ length es
    few [] = omega arith
    few (e ∷ es) = go (is_marked c e) (few es)
      where
        go : (b : Bool) → length (filter (is_marked c) es) ≤ length es → length (cond b (e ∷ filter (is_marked c) es) (filter (is_marked c) es)) ≤ suc (length es)
        go true r = omega arith
        go false r = omega arith

    most : (k : ℕ) (es : List Element) → length (take k es) ≤ k
    most zero es = omega arith
    most (suc k) [] = omega arith
    most (suc k) (e ∷ es) = let r = most k es in omega arith

-- a mark on a point of the cells
pub mark-on : (m : Mesh) (cells : List Cell) (mark : Mark) → m.cells ≡ cells → is_point_of cells (marked_point mark) ≡ true → IsOnPoint m mark
mark-on m cells mark same h = any_enumerated (λ (cell : Cell). contains cell (marked_point mark)) 0 m.cells ∙ ap (λ cs. is_point_of cs (marked_point mark)) same ∙ h

pub all-marks : (c : Content) (i : ℕ) → take i c.elements ≡ c.elements → marks_up_to c i ≡ marks_of c
unfolding marks_of
all-marks c i all = ap (λ es. map (mark_of (vertex_nodes c)) (filter (is_marked c) es)) all

-- the mark that comes next
pub next-mark : (c : Content) (i : ℕ) (m : Mesh) (mark : Mark) → IsRight c → i < length c.elements → m ≡ partly c (coordinates c) (cells_of c) (marks_up_to c i) [] [] → mark ≡ mark_of (vertex_nodes c) (element_at c.elements i) → is_marked c (element_at c.elements i) ≡ true
    → (length m.marks < 1000000) × IsOnPoint m mark
next-mark c i m mark right low is-m is marked = (few, subst (IsOnPoint m) (sym is) (mark-on m (cells_of c) (mark_of (vertex_nodes c) (element_at c.elements i)) (ap (λ (w : Mesh). w.cells) is-m) (and_parts (is_labelled (element_at c.elements i)) (is_point_of (cells_of c) (point_of_element (vertex_nodes c) (element_at c.elements i))) marked).1))
  where
    few : length m.marks < 1000000
    few = let a = ap (λ (w : Mesh). length w.marks) is-m in let b = marks-few c i in let limit = right.limits.elements in omega arith

-- the mesh with or without it
pub more-marks : (c : Content) (i : ℕ) (b : Bool) → i < length c.elements → b ≡ is_marked c (element_at c.elements i)
    → partly c (coordinates c) (cells_of c) (marks_up_to c i ++ cond b (mark_of (vertex_nodes c) (element_at c.elements i) ∷ []) []) [] [] ≡ partly c (coordinates c) (cells_of c) (marks_up_to c (i + 1)) [] []
more-marks c i b low is = ap (λ ms. partly c (coordinates c) (cells_of c) ms [] []) (ap (λ t. marks_up_to c i ++ cond t (mark_of (vertex_nodes c) (element_at c.elements i) ∷ []) []) is ∙ sym (marks-next c i low))

-- whether an element has a mark, by its physical tag and its flag
pub marked-is : (c : Content) (flags : List Bool) (i : ℕ) (value : ℤ) (b : Bool) → flags ≡ map (λ e. is_point_of (cells_of c) (point_of_element (vertex_nodes c) e)) c.elements → i < length c.elements → value ≡ (element_at c.elements i).physical
    → b ≡ (not (nat_abs value == 0) && get_or flags i false) → b ≡ is_marked c (element_at c.elements i)
marked-is c flags i value b are low is h =
    h ∙ ap₂ (λ v t. not (nat_abs v == 0) && t) is (ap (λ bs. get_or bs i false) are ∙ get_or-map (λ e. is_point_of (cells_of c) (point_of_element (vertex_nodes c) e)) c.elements i (element_at [] 0) false low)

-- ---- lists

-- the first elements and one more
pub take-get : {X : Type 0} (xs : List X) (i : ℕ) (x : X) → i < length xs → slice_get xs i ≡ Some x → take (i + 1) xs ≡ take i xs ++ x ∷ []
take-get xs i x low h = take_more xs i x low ∙ ap (λ y. take i xs ++ y ∷ []) (get_or_from_slice_get xs i x x h)

-- all of them
pub take-all : {X : Type 0} (xs : List X) (i : ℕ) → i ≤ length xs → length xs ≤ i → take i xs ≡ xs
take-all xs i low high = let is : i ≡ length xs = omega arith in ap (λ k. take k xs) is ∙ take-length xs
