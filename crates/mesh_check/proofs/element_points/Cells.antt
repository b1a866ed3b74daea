-- The parts of one element of a right content.
use Rattle.std.proofs.Common.{◌≡◌, ℕ, ◌+◌, ◌<◌, ◌≤◌, Bool, true, false, cond, ◌&&◌, List, [], ◌∷◌, ◌++◌, length, get_or, set, take, refl, sym, ap, ◌∙◌, subst, length-append}
use Rattle.std.specs.Prelude.{Some, filter, nat_eq}
use Rattle.std.specs.List.{AllByRecursion, slice_get, position_or_len}
use Rattle.std.proofs.lemmas.List.{get_or-map}
use Rattle.std.proofs.lemmas.List.Elements.{filter-append}
use Rattle.std.proofs.lemmas.Option.{get_or_from_slice_get}
use Rattle.plain_lists.specs.Lists.{picked}
use Rattle.plain_lists.proofs.Each.{all_at, all_map, all_from}
use Rattle.mesh_defs.specs.declared.Poly.{Poly}
use Rattle.mesh_defs.specs.declared.Poly.TheVariants.{Vertex, Segment, Triangle, Quad, Tet, Hex}
use Rattle.mesh_defs.specs.Tables.{Facet, dim_of, corner_count, facets_of, edges_of, edge_at}
use Rattle.input_defs.specs.Content.{Element, Content}
use Rattle.input_defs.specs.RightContent.{IsRight, IsRightElement, node_numbers}
use Rattle.input_defs.specs.Meshes.{poly, dim, same_place, kept_after}
use Rattle.input_laws.specs.place_laws.Places.{IsPlace, firsts_of, element_at}
use Rattle.input_laws.proofs.place_laws.Keys.{right-places}
use Rattle.input_laws.proofs.place_laws.Firsts.{kept-next}
use Rattle.mesh_check.specs.element_points.Parts.{Part, part, vertex_parts, face_parts, edge_parts, parts_of}
use Rattle.mesh_check.specs.element_points.Flags.{AreSet}
use Rattle.mesh_check.proofs.element_points.Containing.{AreBelow, edges-below, picked-all}
use Rattle.mesh_check.proofs.element_points.OnPoints.{type-corners}
use Rattle.mesh_check.proofs.element_points.Setting.{set-one, set-append}

-- ---- the dimensions of parts

pub vertex_parts-dim : (nodes : List ℕ) → AllByRecursion (λ (p : Part). p.dim ≡ 0) (vertex_parts nodes)
vertex_parts-dim nodes = all_map (λ (p : Part). p.dim ≡ 0) (λ n. part 0 (n ∷ [])) nodes (all_from (λ n. 0 ≡ 0) (λ n. refl) nodes)

pub edge_parts-dim : (p : Poly) (nodes : List ℕ) → AllByRecursion (λ (q : Part). q.dim ≡ 1) (edge_parts p nodes)
edge_parts-dim p nodes = all_map (λ (q : Part). q.dim ≡ 1) (λ x. part 1 (picked nodes x)) (edges_of p) (all_from (λ x. 1 ≡ 1) (λ x. refl) (edges_of p))

pub face_parts-dim : (p : Poly) (nodes : List ℕ) → AllByRecursion (λ (q : Part). q.dim ≡ 2) (face_parts p nodes)
face_parts-dim Vertex nodes = tt
face_parts-dim Segment nodes = tt
face_parts-dim Triangle nodes = tt
face_parts-dim Quad nodes = tt
face_parts-dim Tet nodes = (refl, (refl, (refl, (refl, tt))))
face_parts-dim Hex nodes = (refl, (refl, (refl, (refl, (refl, (refl, tt))))))

-- the faces of a hexahedron
pub hex_face-dim : AllByRecursion (λ (f : Facet). dim_of f.poly ≡ 2) (facets_of Hex)
hex_face-dim = (refl, (refl, (refl, (refl, (refl, (refl, tt))))))

-- the nodes of an edge are some of the cell's
pub edge-numbers : (p : Poly) (nodes : List ℕ) (e : ℕ) → IsPlace nodes → length nodes ≡ corner_count p → e < length (edges_of p) → AllByRecursion (λ n. 1 ≤ n) (picked nodes (edge_at p e))
edge-numbers p nodes e place corners low = picked-all (λ n. 1 ≤ n) nodes (edge_at p e) place.numbers (subst (λ n. AreBelow n (edge_at p e)) (sym corners) (all_at (AreBelow (corner_count p)) (edges_of p) e [] (edges-below p) low))

-- ---- an element of a right content

module _ (c : Content) (right : IsRight c) (i : ℕ) (e : Element) (low : i < length c.elements) (at : slice_get c.elements i ≡ Some e) where
  pub own-is : element_at c.elements i ≡ e
  own-is = get_or_from_slice_get c.elements i e _ at

  pub own-place : IsPlace e.nodes
  own-place = subst (λ (x : Element). IsPlace x.nodes) own-is (all_at (λ (x : Element). IsPlace x.nodes) c.elements i _ (right-places c right) low)

  pub own-corners : length e.nodes ≡ corner_count (poly e)
  own-corners = let r : IsRightElement (node_numbers c) e = subst (IsRightElement (node_numbers c)) own-is (all_at (IsRightElement (node_numbers c)) c.elements i _ right.elements low) in r.corners ∙ type-corners e.kind r.kind

-- the first element at the place of the one at i
pub first-at : (es : List Element) (i : ℕ) → i < length es → get_or (firsts_of es) i 0 ≡ position_or_len (same_place (element_at es i)) es
first-at es i low = get_or-map (λ e. position_or_len (same_place e) es) es i _ 0 low

-- vertices, the element itself, faces and edges, one after the other
pub all-set : (es : List Element) (e : Element) (first : ℕ) (a b f g : List Bool) → length b ≡ length es → position_or_len (same_place e) es ≡ first
    → AreSet es (vertex_parts e.nodes) a b → AreSet es (face_parts (poly e) e.nodes) (set b first true) f → AreSet es (edge_parts (poly e) e.nodes) f g → AreSet es (parts_of (poly e) e.nodes) a g
unfolding parts_of
all-set es e first a b f g count at vertices faces edges =
    set-append es (vertex_parts e.nodes) (part (dim e) e.nodes ∷ (face_parts (poly e) e.nodes ++ edge_parts (poly e) e.nodes)) a b g vertices
    (set-append es (part (dim e) e.nodes ∷ []) (face_parts (poly e) e.nodes ++ edge_parts (poly e) e.nodes) b (set b first true) g (set-one es (part (dim e) e.nodes) b first count at)
    (set-append es (face_parts (poly e) e.nodes) (edge_parts (poly e) e.nodes) (set b first true) f g faces edges))

-- ---- elements that are not merged and pass a test

pub kept-passing : (q : Element → Bool) (es : List Element) (i : ℕ) (b : Bool) → i < length es → b ≡ (q (element_at es i) && nat_eq (position_or_len (same_place (element_at es i)) es) i)
    → length (filter q (kept_after [] (take (i + 1) es))) ≡ length (filter q (kept_after [] (take i es))) + cond b 1 0
kept-passing q es i b low is =
    ap (λ (l : List Element). length (filter q l)) (kept-next es i low) ∙ ap length (filter-append q (kept_after [] (take i es)) (cond (nat_eq (position_or_len (same_place (element_at es i)) es) i) (element_at es i ∷ []) []))
    ∙ length-append (filter q (kept_after [] (take i es))) (filter q (cond (nat_eq (position_or_len (same_place (element_at es i)) es) i) (element_at es i ∷ []) []))
    ∙ ap (λ n. length (filter q (kept_after [] (take i es))) + n) (one (nat_eq (position_or_len (same_place (element_at es i)) es) i) (q (element_at es i)) refl ∙ ap (λ t. cond t 1 0) (sym is))
  where
    one : (k t : Bool) → q (element_at es i) ≡ t → length (filter q (cond k (element_at es i ∷ []) [])) ≡ cond (t && k) 1 0
    one true true h = ap (λ t. length (cond t (element_at es i ∷ []) [])) h
    one true false h = ap (λ t. length (cond t (element_at es i ∷ []) [])) h
    one false true h = refl
    one false false h = refl
