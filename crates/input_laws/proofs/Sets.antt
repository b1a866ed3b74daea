-- The cells of a mesh have different sets of vertices: positions name nodes one to one.
use Rattle.std.proofs.Common.{◌≡◌, ℕ, ◌+◌, ◌<◌, ◌≤◌, Bool, true, false, cond, not, ◌||◌, ◌&&◌, ◌==◌, nat_le, List, [], ◌∷◌, map, get_or, suc, ⊎_elim, refl, sym, ap, ap₂, ◌∙◌, arith, true≢false}
use Rattle.std.specs.Prelude.{filter}
use Rattle.std.specs.List.{list_any, AllByRecursion}
use Rattle.std.specs.Cmp.Lexicographic.{same_text}
use Rattle.std.proofs.lemmas.Bool.{le-leb, lt-leb, cases_lt, eqb-true, eq-eqb, or_left, or_right, and_parts, or_parts, not-true, cond-true, cond-false}
use Rattle.plain_lists.specs.Lists.{sorted, inserted, same_list, differ_as_sets}
use Rattle.plain_lists.proofs.Each.{all_both, all_weaker, all_filter}
use Rattle.plain_lists.proofs.Finding.{any_map}
use Rattle.plain_lists.proofs.Sorted.{same_list-self}
use Rattle.plain_lists.proofs.Filters.{filter_passing}
use Rattle.mesh_defs.specs.Mesh.{Cell}
use Rattle.input_defs.specs.Content.{Node, Element, Content}
use Rattle.input_defs.specs.Sections.{has_number}
use Rattle.input_defs.specs.Meshes.{dim, is_top, greatest_dim, same_place, kept_after, kept, vertex_nodes, vertex_of, cell_of, cell_elements}
use Rattle.input_laws.specs.Sublists.{differ_in_place}
use Rattle.input_laws.proofs.Kept.{cells-differ}

-- ---- sorted lists of images

inserted-low : (a y : ℕ) (ys : List ℕ) → a ≤ y → inserted a (y ∷ ys) ≡ a ∷ y ∷ ys
inserted-low a y ys h = cond-true (nat_le a y) (a ∷ y ∷ ys) (y ∷ inserted a ys) (le-leb a y h)

inserted-high : (a y : ℕ) (ys : List ℕ) → y < a → inserted a (y ∷ ys) ≡ y ∷ inserted a ys
inserted-high a y ys h = cond-false (nat_le a y) (a ∷ y ∷ ys) (y ∷ inserted a ys) (lt-leb a y h)

-- two numbers may be put in in any order
inserted-any_order : (a b : ℕ) (zs : List ℕ) → inserted a (inserted b zs) ≡ inserted b (inserted a zs)
inserted-any_order a b [] = ⊎_elim
    (λ (h : a < b). inserted-low a b [] (omega (arith, h)) ∙ sym (inserted-high b a [] h))
    (λ (h : b ≤ a). ⊎_elim
    (λ (g : b < a). inserted-high a b [] g ∙ sym (inserted-low b a [] h))
    (λ (g : a ≤ b). let same : a ≡ b = omega (arith, g, h) in ap₂ (λ x y. inserted x (y ∷ [])) same (sym same))
    (cases_lt b a))
    (cases_lt a b)
inserted-any_order a b (z ∷ zs) = ⊎_elim
    (λ (ha : z < a). ⊎_elim
    (λ (hb : z < b). ap (inserted a) (inserted-high b z zs hb) ∙ (inserted-high a z (inserted b zs) ha ∙ (ap (λ t. z ∷ t) (inserted-any_order a b zs) ∙ (sym (inserted-high b z (inserted a zs) hb) ∙ ap (inserted b) (sym (inserted-high a z zs ha))))))
    (λ (hb : b ≤ z). ap (inserted a) (inserted-low b z zs hb) ∙ (inserted-high a b (z ∷ zs) (omega (arith, ha, hb)) ∙ (ap (λ t. b ∷ t) (inserted-high a z zs ha) ∙ (sym (inserted-low b z (inserted a zs) hb) ∙ ap (inserted b) (sym (inserted-high a z zs ha))))))
    (cases_lt z b))
    (λ (ha : a ≤ z). ⊎_elim
    (λ (hb : z < b). ap (inserted a) (inserted-high b z zs hb) ∙ (inserted-low a z (inserted b zs) ha ∙ (sym (ap (λ t. a ∷ t) (inserted-high b z zs hb)) ∙ (sym (inserted-high b a (z ∷ zs) (omega (arith, ha, hb))) ∙ ap (inserted b) (sym (inserted-low a z zs ha))))))
    (λ (hb : b ≤ z). ap (inserted a) (inserted-low b z zs hb) ∙ (both_low ha hb ∙ ap (inserted b) (sym (inserted-low a z zs ha))))
    (cases_lt z b))
    (cases_lt z a)
  where
    both_low : a ≤ z → b ≤ z → inserted a (b ∷ z ∷ zs) ≡ inserted b (a ∷ z ∷ zs)
    both_low ha hb = ⊎_elim
        (λ (h : a < b). inserted-low a b (z ∷ zs) (omega (arith, h)) ∙ (ap (λ t. a ∷ t) (sym (inserted-low b z zs hb)) ∙ sym (inserted-high b a (z ∷ zs) h)))
        (λ (h : b ≤ a). ⊎_elim
        (λ (g : b < a). inserted-high a b (z ∷ zs) g ∙ (ap (λ t. b ∷ t) (inserted-low a z zs ha) ∙ sym (inserted-low b a (z ∷ zs) h)))
        (λ (g : a ≤ b). let same : a ≡ b = omega (arith, g, h) in ap₂ (λ x y. inserted x (y ∷ z ∷ zs)) same (sym same))
        (cases_lt b a))
        (cases_lt a b)

sorted-map_inserted : (h : ℕ → ℕ) (x : ℕ) (ws : List ℕ) → sorted (map h (inserted x ws)) ≡ inserted (h x) (sorted (map h ws))
unfolding sorted
sorted-map_inserted h x [] = refl
sorted-map_inserted h x (w ∷ ws) = go (nat_le x w) (sorted-map_inserted h x ws)
  where
    go : (b : Bool) → sorted (map h (inserted x ws)) ≡ inserted (h x) (sorted (map h ws)) → sorted (map h (cond b (x ∷ w ∷ ws) (w ∷ inserted x ws))) ≡ inserted (h x) (inserted (h w) (sorted (map h ws)))
    go true r = refl
    go false r = ap (inserted (h w)) r ∙ inserted-any_order (h w) (h x) (sorted (map h ws))

-- sorting before a map does not matter where one sorts after it
sorted-map : (h : ℕ → ℕ) (zs : List ℕ) → sorted (map h (sorted zs)) ≡ sorted (map h zs)
unfolding sorted
sorted-map h [] = refl
sorted-map h (z ∷ zs) = sorted-map_inserted h z (sorted zs) ∙ ap (inserted (h z)) (sorted-map h zs)

map-back : (g h : ℕ → ℕ) (xs : List ℕ) → AllByRecursion (λ x. h (g x) ≡ x) xs → map h (map g xs) ≡ xs
map-back g h [] all = refl
map-back g h (x ∷ xs) all = ap₂ (λ y ys. y ∷ ys) all.0 (map-back g h xs all.1)

-- lists whose images have the same entries have the same entries, where the map can be undone
sorted-back : (g h : ℕ → ℕ) (xs ys : List ℕ) → AllByRecursion (λ x. h (g x) ≡ x) xs → AllByRecursion (λ x. h (g x) ≡ x) ys → sorted (map g xs) ≡ sorted (map g ys) → sorted xs ≡ sorted ys
sorted-back g h xs ys all_x all_y same =
    sym (sorted-map h (map g xs) ∙ ap sorted (map-back g h xs all_x)) ∙ (ap (λ (zs : List ℕ). sorted (map h zs)) same ∙ (sorted-map h (map g ys) ∙ ap sorted (map-back g h ys all_y)))

-- ---- positions of vertices

-- the number of the vertex at a position
unfoldable pub number_at : List Node → ℕ → ℕ
number_at vs k = get_or (map (λ (node : Node). node.number) vs) k 0

pub position-back : (vs : List Node) (v : ℕ) → list_any (λ (node : Node). node.number == v) vs ≡ true → number_at vs (vertex_of vs v) ≡ v
unfolding number_at
position-back [] v h = absurd (cc h)
position-back (node ∷ vs) v h = go (node.number == v) refl (position-back vs v)
  where
    go : (b : Bool) → (node.number == v) ≡ b → (list_any (λ (n : Node). n.number == v) vs ≡ true → number_at vs (vertex_of vs v) ≡ v)
        → get_or (map (λ (n : Node). n.number) (node ∷ vs)) (cond (not b) (1 + vertex_of vs v) 0) 0 ≡ v
    go true e r = eqb-true node.number v e
    go false e r = let k : 1 + vertex_of vs v ≡ suc (vertex_of vs v) = omega arith in
        ap (λ i. get_or (map (λ (n : Node). n.number) (node ∷ vs)) i 0) k ∙ r (sym (ap (λ t. t || list_any (λ (n : Node). n.number == v) vs) e) ∙ h)

-- a node of the file that an element of the mesh's dimension has is a vertex
is-vertex : (test : Node → Bool) (ns : List Node) (v : ℕ) → ((n : Node) → n.number ≡ v → test n ≡ true) → list_any (λ (n : Node). n.number == v) ns ≡ true → list_any (λ (n : Node). n.number == v) (filter test ns) ≡ true
is-vertex test [] v f h = absurd (cc h)
is-vertex test (n ∷ ns) v f h = go (n.number == v) (test n) refl refl (is-vertex test ns v f)
  where
    go : (b t : Bool) → (n.number == v) ≡ b → test n ≡ t → (list_any (λ (m : Node). m.number == v) ns ≡ true → list_any (λ (m : Node). m.number == v) (filter test ns) ≡ true)
        → list_any (λ (m : Node). m.number == v) (cond t (n ∷ filter test ns) (filter test ns)) ≡ true
    go true true e g r = or_left (n.number == v) (list_any (λ (m : Node). m.number == v) (filter test ns)) e
    go true false e g r = absurd (true≢false (sym (f n (eqb-true n.number v e)) ∙ g))
    go false true e g r = or_right (n.number == v) (list_any (λ (m : Node). m.number == v) (filter test ns)) (r (sym (ap (λ t. t || list_any (λ (m : Node). m.number == v) ns) e) ∙ h))
    go false false e g r = r (sym (ap (λ t. t || list_any (λ (m : Node). m.number == v) ns) e) ∙ h)

-- ---- the elements of a right file

-- every corner is the number of a node
abbrev pub AreKnown : List ℕ → List Element → Type 0
AreKnown known es = AllByRecursion (λ (e : Element). AllByRecursion (λ v. has_number known v ≡ true) e.nodes) es

abbrev pub numbers_of : List Node → List ℕ
numbers_of ns = map (λ (node : Node). node.number) ns

-- an element of a list passes some test there
pub IsIn : List Element → Element → Type 0
IsIn es e = (q : Element → Bool) → q e ≡ true → list_any q es ≡ true

pub all-in : (es : List Element) → AllByRecursion (IsIn es) es
unfolding IsIn
all-in [] = tt
all-in (e ∷ es) = (λ q h. or_left (q e) (list_any q es) h, all_weaker (IsIn es) (IsIn (e ∷ es)) (λ f i q h. or_right (q e) (list_any q es) (i q h)) es (all-in es))

pub all-kept : (P : Element → Type 0) (earlier es : List Element) → AllByRecursion P es → AllByRecursion P (kept_after earlier es)
all-kept P earlier [] all = tt
all-kept P earlier (e ∷ es) all = go (list_any (same_place e) earlier) (all-kept P earlier es all.1) (all-kept P (e ∷ earlier) es all.1)
  where
    go : (b : Bool) → AllByRecursion P (kept_after earlier es) → AllByRecursion P (kept_after (e ∷ earlier) es) → AllByRecursion P (cond b (kept_after earlier es) (e ∷ kept_after (e ∷ earlier) es))
    go true r s = r
    go false r s = (all.0, s)

-- positions of an element's corners name them
GoesBack : Content → Element → Type 0
GoesBack c e = AllByRecursion (λ v. number_at (vertex_nodes c) (vertex_of (vertex_nodes c) v) ≡ v) e.nodes

has-self : (vs : List ℕ) → AllByRecursion (λ v. has_number vs v ≡ true) vs
has-self [] = tt
has-self (v ∷ vs) = (or_left (v == v) (has_number vs v) (eq-eqb v v refl), all_weaker (λ w. has_number vs w ≡ true) (λ w. has_number (v ∷ vs) w ≡ true) (λ w h. or_right (v == w) (has_number vs w) h) vs (has-self vs))

-- the corners of an element of the mesh's dimension are vertices
pub top-corners : (c : Content) (e : Element) → IsIn c.elements e → AllByRecursion (λ v. has_number (numbers_of c.nodes) v ≡ true) e.nodes → is_top c e ≡ true → AllByRecursion (λ v. list_any (λ (node : Node). node.number == v) (vertex_nodes c) ≡ true) e.nodes
unfolding IsIn vertex_nodes
top-corners c e among known top = all_both (λ v. has_number (numbers_of c.nodes) v ≡ true) (λ v. has_number e.nodes v ≡ true) (λ v. list_any (λ (node : Node). node.number == v) (filter test c.nodes) ≡ true) vertex e.nodes known (has-self e.nodes)
  where
    test : Node → Bool
    test n = list_any (λ f. is_top c f && has_number f.nodes n.number) c.elements

    used : (v : ℕ) → has_number e.nodes v ≡ true → (n : Node) → n.number ≡ v → test n ≡ true
    used v h n same = among (λ f. is_top c f && has_number f.nodes n.number) (ap₂ (λ a b. a && b) top (ap (has_number e.nodes) same ∙ h))

    vertex : (v : ℕ) → has_number (numbers_of c.nodes) v ≡ true → has_number e.nodes v ≡ true → list_any (λ (node : Node). node.number == v) (filter test c.nodes) ≡ true
    vertex v h g = is-vertex test c.nodes v (used v g) (sym (any_map (λ m. m == v) (λ (n : Node). n.number) c.nodes) ∙ h)

goes_back : (c : Content) (e : Element) → IsIn c.elements e → AllByRecursion (λ v. has_number (numbers_of c.nodes) v ≡ true) e.nodes → is_top c e ≡ true → GoesBack c e
unfolding GoesBack
goes_back c e among known top = all_weaker (λ v. list_any (λ (node : Node). node.number == v) (vertex_nodes c) ≡ true) (λ v. number_at (vertex_nodes c) (vertex_of (vertex_nodes c) v) ≡ v) (λ v h. position-back (vertex_nodes c) v h) e.nodes (top-corners c e among known top)

-- what a cell's element has
IsCell : Content → Element → Type 0
IsCell c e = (dim e ≡ greatest_dim c) × GoesBack c e

all-cells : (c : Content) → AreKnown (numbers_of c.nodes) c.elements → AllByRecursion (IsCell c) (cell_elements c)
unfolding IsCell cell_elements kept
all-cells c known =
    all_both (λ e. is_top c e ≡ true) (λ e. is_top c e ≡ true → GoesBack c e) (IsCell c) (λ e top back. (eqb-true (dim e) (greatest_dim c) top, back top)) (filter (is_top c) (kept_after [] c.elements))
    (filter_passing (is_top c) (kept_after [] c.elements))
    (all_filter (λ e. is_top c e ≡ true → GoesBack c e) (is_top c) (kept_after [] c.elements) (all-kept (λ e. is_top c e ≡ true → GoesBack c e) [] c.elements
    (all_both (IsIn c.elements) (λ (e : Element). AllByRecursion (λ v. has_number (numbers_of c.nodes) v ≡ true) e.nodes) (λ e. is_top c e ≡ true → GoesBack c e) (goes_back c) c.elements (all-in c.elements) known)))

-- ---- sets of vertices

positions : Content → Element → List ℕ
positions c e = map (vertex_of (vertex_nodes c)) e.nodes

-- cells at one set of vertices have one set of nodes
other-set : (c : Content) (e f : Element) → IsCell c e → IsCell c f → same_place e f ≡ false → same_list (sorted (positions c e)) (sorted (positions c f)) ≡ false
unfolding IsCell GoesBack positions
other-set c e f he hf other = go (same_list (sorted (positions c e)) (sorted (positions c f))) refl
  where
    go : (b : Bool) → same_list (sorted (positions c e)) (sorted (positions c f)) ≡ b → b ≡ false
    go false h = refl
    go true h =
        let equal = sorted-back (vertex_of (vertex_nodes c)) (number_at (vertex_nodes c)) e.nodes f.nodes he.1 hf.1 (same_text (sorted (positions c e)) (sorted (positions c f)) (sym h)) in
        absurd (true≢false (sym (ap₂ (λ a b. a && b) (eq-eqb (dim e) (dim f) (he.0 ∙ sym hf.0)) (ap (same_list (sorted e.nodes)) (sym equal) ∙ same_list-self (sorted e.nodes))) ∙ other))

other-sets : (c : Content) (e : Element) (fs : List Element) → IsCell c e → AllByRecursion (IsCell c) fs → list_any (same_place e) fs ≡ false
    → list_any (λ y. same_list (sorted (positions c e)) (sorted y)) (map (λ (cell : Cell). cell.vertices) (map (cell_of (vertex_nodes c)) fs)) ≡ false
unfolding positions
other-sets c e [] he all none = refl
other-sets c e (f ∷ fs) he all none =
    let both = or_parts (same_place e f) (list_any (same_place e) fs) none in
    ap₂ (λ a b. a || b) (other-set c e f he all.0 both.0) (other-sets c e fs he all.1 both.1)

sets-differ : (c : Content) (es : List Element) → AllByRecursion (IsCell c) es → differ_in_place es ≡ true → differ_as_sets (map (λ (cell : Cell). cell.vertices) (map (cell_of (vertex_nodes c)) es)) ≡ true
unfolding positions
sets-differ c [] all differ = refl
sets-differ c (e ∷ es) all differ =
    let both = and_parts (not (list_any (same_place e) es)) (differ_in_place es) differ in
    ap₂ (λ a b. not a && b) (other-sets c e es all.0 all.1 (not-true (list_any (same_place e) es) both.0)) (sets-differ c es all.1 both.1)

-- the cells of a mesh whose elements have known nodes
pub cells-sets : (c : Content) → AreKnown (numbers_of c.nodes) c.elements → differ_as_sets (map (λ (cell : Cell). cell.vertices) (map (cell_of (vertex_nodes c)) (cell_elements c))) ≡ true
cells-sets c known = sets-differ c (cell_elements c) (all-cells c known) (cells-differ c)
