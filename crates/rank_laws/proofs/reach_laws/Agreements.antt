-- Points have the facets of every list on which a cell sees them, in whatever order and sense.
use Rattle.std.proofs.Common.{◌≡◌, ◌⊎◌, ℕ, ◌<◌, min, max, Bool, true, false, ◌||◌, ◌==◌, List, [], ◌∷◌, map, length, get_or, slice_index, ℤ, Some, refl, sym, ap, ◌∙◌, subst, subst₂, inl, inr, ⊎_elim, arith}
use Rattle.std.specs.Prelude.{option_and_then}
use Rattle.std.specs.List.{list_any, list_all, AllByRecursion}
use Rattle.std.specs.Cmp.Lexicographic.{same_text}
use Rattle.std.proofs.lemmas.Bool.{and_parts, eqb-true, or_cases, cases_eq}
use Rattle.std.proofs.lemmas.List.{length-map}
use Rattle.mesh_defs.specs.declared.Poly.{Poly}
use Rattle.mesh_defs.specs.declared.Poly.TheVariants.{Vertex, Segment, Triangle, Quad, Tet, Hex}
use Rattle.plain_lists.specs.Lists.{same_list, sorted, picked}
use Rattle.plain_lists.proofs.Each.{all_both, all_map, all_mapped, each_passes}
use Rattle.plain_lists.proofs.Finding.{among, find-has}
use Rattle.plain_lists.proofs.Below.{picked-picked}
use Rattle.mesh_defs.specs.Tables.{Facet, dim_of, corner_count, edges_of}
use Rattle.mesh_defs.specs.Orientation.{rotations, reflections, orientations, corners_under, act, relative}
use Rattle.mesh_defs.specs.Points.{Point, Sight, same_point, point_on, shows, arrangement}
use Rattle.mesh_defs.specs.Mesh.{Mesh}
use Rattle.mesh_defs.specs.Diagram.{seen_under}
use Rattle.mesh_defs.proofs.RightMeshes.{are_corners}
use Rattle.mesh_laws.proofs.Turns.{relative-carries, sorted-min_max}
use Rattle.rank_laws.proofs.Shapes.{HasShape, is_pair, edges-are_pairs}
use Rattle.rank_laws.proofs.Found.{two-entries, sorted-turned, poly-one, poly-told, length-sorted}
use Rattle.rank_laws.proofs.TurnedEdges.{polygon-facets, pair-below, turned-edges}
use Rattle.rank_laws.proofs.reach_laws.Descents.{facet_points, members-agree, own-members}

-- the facets of two lists are the same points
abbrev pub Alike : Poly → List ℕ → Poly → List ℕ → Type 0
Alike p vs q ws = (x : Point) → list_any (same_point x) (facet_points p vs) ≡ list_any (same_point x) (facet_points q ws)

-- ---- edges

-- two pairs with one set
one-of : (a b x y : ℕ) → sorted (a ∷ b ∷ []) ≡ sorted (x ∷ y ∷ []) → ((a ≡ x) × (b ≡ y)) ⊎ ((a ≡ y) × (b ≡ x))
one-of a b x y e =
    let pairs : min a b ∷ max a b ∷ [] ≡ min x y ∷ max x y ∷ [] = sym (sorted-min_max a b) ∙ e ∙ sorted-min_max x y in
    let low : min a b ≡ min x y = cc pairs in
    let high : max a b ≡ max x y = cc pairs in
    ⊎_elim (λ (same : a ≡ x). inl (same, omega arith)) (λ (ne : a ≡ x → ⊥). let other : a ≡ y = omega arith in inr (other, omega arith)) (cases_eq a x)

-- the ends of an edge, whichever stands first
pub edges-alike : (vs ws : List ℕ) → length vs ≡ 2 → length ws ≡ 2 → sorted vs ≡ sorted ws → Alike Segment vs Segment ws
edges-alike vs ws lv lw e =
    let two_v = two-entries vs lv in
    let two_w = two-entries ws lw in
    go (slice_index vs 0) (slice_index vs 1) (slice_index ws 0) (slice_index ws 1) (one-of (slice_index vs 0) (slice_index vs 1) (slice_index ws 0) (slice_index ws 1) (ap sorted (sym two_v) ∙ e ∙ ap sorted two_w))
  where
    go : (a b x y : ℕ) → ((a ≡ x) × (b ≡ y)) ⊎ ((a ≡ y) × (b ≡ x)) → (q : Point) → (same_point q (point_on Vertex (a ∷ [])) || (same_point q (point_on Vertex (b ∷ [])) || false)) ≡ (same_point q (point_on Vertex (x ∷ [])) || (same_point q (point_on Vertex (y ∷ [])) || false))
    go a b x y (inl h) q = λ i. same_point q (point_on Vertex (h.0 i ∷ [])) || (same_point q (point_on Vertex (h.1 i ∷ [])) || false)
    go a b x y (inr h) q = (λ i. same_point q (point_on Vertex (h.0 i ∷ [])) || (same_point q (point_on Vertex (h.1 i ∷ [])) || false)) ∙ turned (same_point q (point_on Vertex (y ∷ []))) (same_point q (point_on Vertex (x ∷ [])))
      where
        turned : (c d : Bool) → (c || (d || false)) ≡ (d || (c || false))
        turned true true = refl
        turned true false = refl
        turned false true = refl
        turned false false = refl

-- ---- faces

-- each edge of the corners under an orientation is an edge of the corners, one way or the other
abbrev gives_edges : Poly → ℤ → Bool
gives_edges p o = list_all (λ f. list_any (λ e. same_list (picked (corners_under p o) f) e || same_list (picked (corners_under p o) f) (get_or e 1 0 ∷ get_or e 0 0 ∷ [])) (edges_of p)) (edges_of p)

polygons-give_edges : (p : Poly) → dim_of p ≡ 2 → list_all (gives_edges p) (orientations p) ≡ true
unfolding rotations reflections orientations corners_under
polygons-give_edges Vertex e = absurd (omega arith)
polygons-give_edges Segment e = absurd (omega arith)
polygons-give_edges Triangle e = refl
polygons-give_edges Quad e = refl
polygons-give_edges Tet e = absurd (omega arith)
polygons-give_edges Hex e = absurd (omega arith)

relative-gives : (p : Poly) (from to : List ℕ) (o : ℤ) → dim_of p ≡ 2 → relative p from to ≡ Some o → gives_edges p o ≡ true
unfolding relative
relative-gives p from to o flat h = find-has (λ o. gives_edges p o ≡ true) (λ o. same_list (act p o from) to) (orientations p) o (each_passes (gives_edges p) (orientations p) (polygons-give_edges p flat)) h

-- What the edges of a polygon have as sets, the edges have of the list that it becomes under an orientation.
given-edges : (Q : List ℕ → Type 0) (p : Poly) (from to : List ℕ) (o : ℤ) → dim_of p ≡ 2 → length to ≡ corner_count p → relative p from to ≡ Some o → AllByRecursion (λ e. Q (sorted (picked from e))) (edges_of p) → AllByRecursion (λ e. Q (sorted (picked to e))) (edges_of p)
unfolding act
given-edges Q p from to o flat long h all =
    all_both (λ f. list_any (λ e. same_list (picked (corners_under p o) f) e || same_list (picked (corners_under p o) f) (get_or e 1 0 ∷ get_or e 0 0 ∷ [])) (edges_of p) ≡ true) (λ f. is_pair (corner_count p) f ≡ true) (λ f. Q (sorted (picked to f))) one (edges_of p)
    (each_passes (λ f. list_any (λ e. same_list (picked (corners_under p o) f) e || same_list (picked (corners_under p o) f) (get_or e 1 0 ∷ get_or e 0 0 ∷ [])) (edges_of p)) (edges_of p) (relative-gives p from to o flat h))
    pairs
  where
    pairs : AllByRecursion (λ e. is_pair (corner_count p) e ≡ true) (edges_of p)
    pairs = each_passes (is_pair (corner_count p)) (edges_of p) (edges-are_pairs p)

    carried : picked from (corners_under p o) ≡ to
    carried = relative-carries p from to o h

    count : length (corners_under p o) ≡ corner_count p
    count = sym (length-map (corners_under p o) (λ k. get_or from k 0)) ∙ ap length carried ∙ long

    -- an edge of the list, by the corners of the first one
    by-corners : (f : List ℕ) → is_pair (corner_count p) f ≡ true → picked to f ≡ picked from (picked (corners_under p o) f)
    by-corners f x = ap (λ l. picked l f) (sym carried) ∙ picked-picked from (corners_under p o) f (subst (λ n. AllByRecursion (λ k. k < n) f) (sym count) (pair-below (corner_count p) f x))

    one : (f : List ℕ) → list_any (λ e. same_list (picked (corners_under p o) f) e || same_list (picked (corners_under p o) f) (get_or e 1 0 ∷ get_or e 0 0 ∷ [])) (edges_of p) ≡ true → is_pair (corner_count p) f ≡ true → Q (sorted (picked to f))
    one f given pair =
        let (e, (q, x), test) = among (λ e. Q (sorted (picked from e)) × (is_pair (corner_count p) e ≡ true)) (λ e. same_list (picked (corners_under p o) f) e || same_list (picked (corners_under p o) f) (get_or e 1 0 ∷ get_or e 0 0 ∷ [])) (edges_of p) (all_both (λ e. Q (sorted (picked from e))) (λ e. is_pair (corner_count p) e ≡ true) _ (λ e a b. (a, b)) (edges_of p) all pairs) given in
        let two = two-entries e (eqb-true (length e) 2 (and_parts (length e == 2) (are_corners (corner_count p) e) x).0) in
        subst Q (⊎_elim
        (λ a. ap (λ l. sorted (picked from l)) (sym (same_text (picked (corners_under p o) f) e (sym a))))
        (λ a. ap (λ l. sorted (picked from l)) two ∙ (sorted-turned (get_or from (get_or e 0 0) 0) (get_or from (get_or e 1 0) 0) ∙ ap (λ l. sorted (picked from l)) (sym (same_text (picked (corners_under p o) f) (get_or e 1 0 ∷ get_or e 0 0 ∷ []) (sym a)))))
        (or_cases (same_list (picked (corners_under p o) f) e) (same_list (picked (corners_under p o) f) (get_or e 1 0 ∷ get_or e 0 0 ∷ [])) test)
        ∙ ap sorted (sym (by-corners f pair))) q

-- the edges of a polygon as points
abbrev edge_points : Poly → List ℕ → List Point
edge_points p vs = map (λ (e : List ℕ). record { dim = 1; vertices = sorted (picked vs e) }) (edges_of p)

facets-edges : (p : Poly) (vs : List ℕ) → dim_of p ≡ 2 → facet_points p vs ≡ edge_points p vs
facets-edges p vs flat = ap (map (λ (f : Facet). point_on f.poly (picked vs f.corners))) (polygon-facets p flat) ∙ mapped (edges_of p)
  where
    mapped : (es : List (List ℕ)) → map (λ (f : Facet). point_on f.poly (picked vs f.corners)) (map (λ e. record { poly = Segment; corners = e }) es) ≡ map (λ (e : List ℕ). record { dim = 1; vertices = sorted (picked vs e) }) es
    mapped [] = refl
    mapped (e ∷ es) = ap (λ l. record { dim = 1; vertices = sorted (picked vs e) } ∷ l) (mapped es)

-- the edges of a polygon, however it is turned
pub faces-alike : (p : Poly) (from to : List ℕ) (o : ℤ) → dim_of p ≡ 2 → length to ≡ corner_count p → relative p from to ≡ Some o → Alike p from p to
faces-alike p from to o flat long h x =
    ap (list_any (same_point x)) (facets-edges p from flat) ∙ (members-agree (edge_points p from) (edge_points p to) (there from to (turned-edges (Among to) p from to o flat long h)) (there to from (given-edges (Among from) p from to o flat long h)) x ∙ ap (list_any (same_point x)) (sym (facets-edges p to flat)))
  where
    Among : List ℕ → List ℕ → Type 0
    Among ws l = list_any (same_point (record { dim = 1; vertices = l })) (edge_points p ws) ≡ true

    there : (us ws : List ℕ) → (AllByRecursion (λ e. Among ws (sorted (picked ws e))) (edges_of p) → AllByRecursion (λ e. Among ws (sorted (picked us e))) (edges_of p)) → AllByRecursion (λ y. list_any (same_point y) (edge_points p ws) ≡ true) (edge_points p us)
    there us ws f = all_map (λ y. list_any (same_point y) (edge_points p ws) ≡ true) (λ (e : List ℕ). record { dim = 1; vertices = sorted (picked us e) }) (edges_of p)
        (f (all_mapped (λ y. list_any (same_point y) (edge_points p ws) ≡ true) (λ (e : List ℕ). record { dim = 1; vertices = sorted (picked ws e) }) (edges_of p) (own-members (edge_points p ws))))

-- ---- sights of the same point

-- a sight of a point, and a list on which it is seen: one polytope, one set
pub record IsSameSeen (s : Sight) (p : Poly) (vs : List ℕ) : Type 0 where
  pub poly : s.poly ≡ p
  pub sets : sorted s.arrangement ≡ sorted vs

pub same-seen : (s : Sight) (poly : Poly) (vs : List ℕ) → HasShape s → length vs ≡ corner_count poly → shows (point_on poly vs) s ≡ true → IsSameSeen s poly vs
same-seen s poly vs shape long h =
    let both = and_parts (dim_of poly == dim_of s.poly) (same_list (sorted vs) (sorted s.arrangement)) h in
    let sets : sorted s.arrangement ≡ sorted vs = sym (same_text (sorted vs) (sorted s.arrangement) (sym both.1)) in
    record {
      poly = poly-told s.poly poly (sym (eqb-true (dim_of poly) (dim_of s.poly) both.0)) (sym shape.corners ∙ sym (length-sorted s.arrangement) ∙ ap length sets ∙ length-sorted vs ∙ long);
      sets = sets;
    }

-- an edge
pub edge-agrees : (s : Sight) (poly : Poly) (vs : List ℕ) → HasShape s → dim_of poly ≡ 1 → length vs ≡ corner_count poly → shows (point_on poly vs) s ≡ true → Alike s.poly s.arrangement poly vs
edge-agrees s poly vs shape one long h =
    let same = same-seen s poly vs shape long h in
    let segment : poly ≡ Segment = poly-one poly one in
    subst₂ (λ p q. Alike p s.arrangement q vs) (sym (same.poly ∙ segment)) (sym segment) (edges-alike s.arrangement vs (shape.corners ∙ ap corner_count (same.poly ∙ segment)) (long ∙ ap corner_count segment) same.sets)

-- a face, seen under some orientation
pub face-agrees : (m : Mesh) (s : Sight) (poly : Poly) (vs : List ℕ) (o : ℤ) → s.poly ≡ poly → dim_of poly ≡ 2 → length vs ≡ corner_count poly → arrangement m (point_on poly vs) ≡ Some s.arrangement → seen_under m poly vs ≡ Some o → Alike s.poly s.arrangement poly vs
unfolding seen_under
face-agrees m s poly vs o same flat long arranged under =
    let turned : relative poly s.arrangement vs ≡ Some o = sym (ap (option_and_then (λ own. relative poly own vs)) arranged) ∙ under in
    subst (λ p. Alike p s.arrangement poly vs) (sym same) (faces-alike poly s.arrangement vs o flat long turned)
