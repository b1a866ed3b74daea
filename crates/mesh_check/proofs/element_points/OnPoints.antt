-- Which elements are on points: those that stand where some part of a cell leads.
use Rattle.std.proofs.Common.{◌≡◌, ℕ, ◌<◌, Bool, true, ◌&&◌, ◌==◌, List, [], length, get_or, refl, sym, ap, ap₂, ◌∙◌, arith}
use Rattle.std.specs.Prelude.{filter, is_some, option_map, unwrap_or, Option, Some, None}
use Rattle.std.specs.List.{AllByRecursion, list_any, position_or_len}
use Rattle.std.specs.Cmp.Lexicographic.{same_text}
use Rattle.std.proofs.lemmas.Bool.{eqb-true, eq-eqb, and_parts, and_from}
use Rattle.std.proofs.lemmas.List.Sums.{passes_at_first}
use Rattle.plain_lists.specs.Lists.{sorted, same_list, same_set}
use Rattle.plain_lists.proofs.Each.{all_both, all_weaker, all_from, all_filter}
use Rattle.plain_lists.proofs.Filters.{filter_passing}
use Rattle.plain_lists.proofs.Finding.{any_map, any_agree, same_tests, position-within, position_agree}
use Rattle.plain_lists.proofs.Sorted.{same_list-self}
use Rattle.mesh_defs.specs.declared.Poly.{Poly}
use Rattle.mesh_defs.specs.declared.Poly.TheVariants.{Vertex}
use Rattle.mesh_defs.specs.Tables.{corner_count}
use Rattle.mesh_defs.specs.Points.{contains}
use Rattle.input_defs.specs.Content.{Element, Content}
use Rattle.input_defs.specs.Sections.{poly_of_type, corners_of_type}
use Rattle.input_defs.specs.RightContent.{IsRight, IsRightElement, node_numbers}
use Rattle.input_defs.specs.Meshes.{poly, dim, same_nodes, same_place, kept, kept_after, is_top, vertex_nodes, cell_of, cell_elements, cells_of, point_of_element, is_point_of}
use Rattle.input_laws.proofs.Sets.{IsIn, all-in, all-kept, top-corners}
use Rattle.input_laws.specs.place_laws.Places.{stands_on}
use Rattle.mesh_check.specs.element_points.Parts.{Part, parts_of, is_on, leads_to, some_leads_to}
use Rattle.mesh_check.proofs.element_points.Containing.{IsVertex, contained}

-- ---- the elements of cells

-- its nodes are vertices, and as many as its polytope has corners
record IsSound (c : Content) (e : Element) : Type 0 where
  pub vertices : AllByRecursion (IsVertex (vertex_nodes c)) e.nodes
  pub corners : length e.nodes ≡ corner_count (poly e)

pub type-corners : (kind : ℕ) → is_some (poly_of_type kind) ≡ true → corners_of_type kind ≡ corner_count (unwrap_or (poly_of_type kind) Vertex)
type-corners kind h = go (poly_of_type kind) h
  where
    go : (o : Option Poly) → is_some o ≡ true → unwrap_or (option_map corner_count o) 0 ≡ corner_count (unwrap_or o Vertex)
    go (Some p) h = refl
    go None h = absurd (cc h)

sound-cells : (c : Content) → IsRight c → AllByRecursion (IsSound c) (cell_elements c)
unfolding cell_elements kept
sound-cells c right =
    all_both (λ e. is_top c e ≡ true) (λ e. is_top c e ≡ true → IsSound c e) (IsSound c) (λ e top sound. sound top) (filter (is_top c) (kept_after [] c.elements)) (filter_passing (is_top c) (kept_after [] c.elements))
    (all_filter (λ e. is_top c e ≡ true → IsSound c e) (is_top c) (kept_after [] c.elements) (all-kept (λ e. is_top c e ≡ true → IsSound c e) [] c.elements
    (all_both (IsIn c.elements) (IsRightElement (node_numbers c)) (λ e. is_top c e ≡ true → IsSound c e) (λ e among r top. record { vertices = top-corners c e among r.nodes_known top; corners = r.corners ∙ type-corners e.kind r.kind }) c.elements (all-in c.elements) right.elements)))

-- an element is on a point just where some part of a cell has its dimension and its nodes
pub on-points : (c : Content) → IsRight c → (e : Element) → is_point_of (cells_of c) (point_of_element (vertex_nodes c) e) ≡ list_any (λ (own : Element). list_any (is_on (dim e) e.nodes) (parts_of (poly own) own.nodes)) (cell_elements c)
unfolding cells_of
on-points c right e =
    any_map (λ cell. contains cell (point_of_element (vertex_nodes c) e)) (cell_of (vertex_nodes c)) (cell_elements c)
    ∙ any_agree (λ own. contains (cell_of (vertex_nodes c) own) (point_of_element (vertex_nodes c) e)) (λ (own : Element). list_any (is_on (dim e) e.nodes) (parts_of (poly own) own.nodes)) (cell_elements c)
    (all_weaker (IsSound c) (λ own. contains (cell_of (vertex_nodes c) own) (point_of_element (vertex_nodes c) e) ≡ list_any (is_on (dim e) e.nodes) (parts_of (poly own) own.nodes)) (λ own s. contained (vertex_nodes c) own s.vertices s.corners (dim e) e.nodes) (cell_elements c) (sound-cells c right))

-- ---- where parts lead

set-of : (xs ys : List ℕ) → same_set xs ys ≡ true → sorted xs ≡ sorted ys
set-of xs ys h = same_text (sorted xs) (sorted ys) (sym h)

set-from : (xs ys : List ℕ) → sorted xs ≡ sorted ys → same_set xs ys ≡ true
set-from xs ys h = ap (λ l. same_list l (sorted ys)) h ∙ same_list-self (sorted ys)

same_place-itself : (e : Element) → same_place e e ≡ true
same_place-itself e = and_from (dim e == dim e) (same_nodes e e) (eq-eqb (dim e) (dim e) refl) (same_list-self (sorted e.nodes))

-- an element stands in a list
abbrev pub Stands : List Element → Element → Type 0
Stands es e = (p : Element → Bool) → p e ≡ true → list_any p es ≡ true

-- an element of the list has a first one at its place
pub first-within : (es : List Element) (e : Element) → Stands es e → position_or_len (same_place e) es < length es
first-within es e among = position-within (same_place e) es (among (same_place e) (same_place-itself e))

-- a part leads to the first element at the place of another one just where it is on that one's nodes
leads-where_on : (es : List Element) (e : Element) → Stands es e → (p : Part) → leads_to es (position_or_len (same_place e) es) p ≡ is_on (dim e) e.nodes p
leads-where_on es e among p = same_tests (leads_to es first p) (is_on (dim e) e.nodes p) there here
  where
    first : ℕ
    first = position_or_len (same_place e) es

    here : is_on (dim e) e.nodes p ≡ true → leads_to es first p ≡ true
    here h =
        let both = and_parts (dim e == p.dim) (same_set e.nodes p.nodes) h in
        let dims : p.dim ≡ dim e = sym (eqb-true (dim e) p.dim both.0) in
        let sets : sorted p.nodes ≡ sorted e.nodes = sym (set-of e.nodes p.nodes both.1) in
        eq-eqb (position_or_len (stands_on p.dim p.nodes) es) first (position_agree (stands_on p.dim p.nodes) (same_place e) es (all_from (λ x. stands_on p.dim p.nodes x ≡ same_place e x) (λ (x : Element). ap₂ (λ d s. (d == dim x) && same_list s (sorted x.nodes)) dims sets) es))

    there : leads_to es first p ≡ true → is_on (dim e) e.nodes p ≡ true
    there h =
        let at : position_or_len (stands_on p.dim p.nodes) es ≡ first = eqb-true (position_or_len (stands_on p.dim p.nodes) es) first h in
        let low = first-within es e among in
        let x : Element = get_or es first e in
        let own = and_parts (dim e == dim x) (same_nodes e x) (passes_at_first (same_place e) es e low) in
        let found : stands_on p.dim p.nodes x ≡ true = ap (λ k. stands_on p.dim p.nodes (get_or es k e)) (sym at) ∙ passes_at_first (stands_on p.dim p.nodes) es e (omega arith) in
        let of_part = and_parts (p.dim == dim x) (same_set p.nodes x.nodes) found in
        and_from (dim e == p.dim) (same_set e.nodes p.nodes)
        (eq-eqb (dim e) p.dim (eqb-true (dim e) (dim x) own.0 ∙ sym (eqb-true p.dim (dim x) of_part.0)))
        (set-from e.nodes p.nodes (set-of e.nodes x.nodes own.1 ∙ sym (set-of p.nodes x.nodes of_part.1)))

-- an element of a file is on a point just where some part of a cell leads to the first element at its place
pub on-points-by_firsts : (c : Content) → IsRight c → (e : Element) → Stands c.elements e
    → some_leads_to c.elements (cell_elements c) (position_or_len (same_place e) c.elements) ≡ is_point_of (cells_of c) (point_of_element (vertex_nodes c) e)
on-points-by_firsts c right e among =
    any_agree (λ (own : Element). list_any (leads_to c.elements (position_or_len (same_place e) c.elements)) (parts_of (poly own) own.nodes)) (λ (own : Element). list_any (is_on (dim e) e.nodes) (parts_of (poly own) own.nodes)) (cell_elements c)
    (all_from (λ (own : Element). list_any (leads_to c.elements (position_or_len (same_place e) c.elements)) (parts_of (poly own) own.nodes) ≡ list_any (is_on (dim e) e.nodes) (parts_of (poly own) own.nodes))
    (λ (own : Element). any_agree (leads_to c.elements (position_or_len (same_place e) c.elements)) (is_on (dim e) e.nodes) (parts_of (poly own) own.nodes) (all_from (λ p. leads_to c.elements (position_or_len (same_place e) c.elements) p ≡ is_on (dim e) e.nodes p) (leads-where_on c.elements e among) (parts_of (poly own) own.nodes)))
    (cell_elements c))
    ∙ sym (on-points c right e)
