-- The edges of a polygon that is listed under another orientation.
use Rattle.std.proofs.Common.{◌≡◌, ℕ, ◌<◌, Bool, true, ◌||◌, ◌==◌, nat_lt, List, [], ◌∷◌, map, length, get_or, ℤ, Some, refl, sym, ap, ◌∙◌, subst, ⊎_elim, arith}
use Rattle.std.specs.List.{list_any, list_all, AllByRecursion}
use Rattle.std.specs.Cmp.Lexicographic.{same_text}
use Rattle.std.proofs.lemmas.Bool.{and_parts, ltb-true, eqb-true, or_cases}
use Rattle.std.proofs.lemmas.List.{length-map}
use Rattle.mesh_defs.specs.declared.Poly.{Poly}
use Rattle.mesh_defs.specs.declared.Poly.TheVariants.{Vertex, Segment, Triangle, Quad, Tet, Hex}
use Rattle.plain_lists.specs.Lists.{same_list, sorted, picked}
use Rattle.plain_lists.proofs.Each.{all_weaker, all_both, each_passes}
use Rattle.plain_lists.proofs.Finding.{among, find-has}
use Rattle.plain_lists.proofs.Below.{picked-picked}
use Rattle.mesh_defs.specs.Tables.{dim_of, corner_count, facets_of, edges_of}
use Rattle.mesh_defs.specs.Orientation.{rotations, reflections, orientations, corners_under, act, relative}
use Rattle.mesh_laws.proofs.Turns.{relative-carries}
use Rattle.mesh_defs.proofs.RightMeshes.{are_corners}
use Rattle.rank_laws.proofs.Shapes.{is_pair, edges-are_pairs}
use Rattle.rank_laws.proofs.Found.{two-entries, sorted-turned}

-- each edge of the corners is an edge of the corners under an orientation, one way or the other
abbrev keeps_edges : Poly → ℤ → Bool
keeps_edges p o = list_all (λ e. list_any (λ f. same_list (picked (corners_under p o) f) e || same_list (picked (corners_under p o) f) (get_or e 1 0 ∷ get_or e 0 0 ∷ [])) (edges_of p)) (edges_of p)

-- all orientations of polygons keep edges
polygons-keep_edges : (p : Poly) → dim_of p ≡ 2 → list_all (keeps_edges p) (orientations p) ≡ true
unfolding rotations reflections orientations corners_under
polygons-keep_edges Vertex e = absurd (omega arith)
polygons-keep_edges Segment e = absurd (omega arith)
polygons-keep_edges Triangle e = refl
polygons-keep_edges Quad e = refl
polygons-keep_edges Tet e = absurd (omega arith)
polygons-keep_edges Hex e = absurd (omega arith)

-- the orientation that is found keeps edges
relative-keeps : (p : Poly) (from to : List ℕ) (o : ℤ) → dim_of p ≡ 2 → relative p from to ≡ Some o → keeps_edges p o ≡ true
unfolding relative
relative-keeps p from to o flat h = find-has (λ o. keeps_edges p o ≡ true) (λ o. same_list (act p o from) to) (orientations p) o (each_passes (keeps_edges p) (orientations p) (polygons-keep_edges p flat)) h

-- the facets of a polygon are its edges
pub polygon-facets : (p : Poly) → dim_of p ≡ 2 → facets_of p ≡ map (λ e. record { poly = Segment; corners = e }) (edges_of p)
polygon-facets Vertex e = absurd (omega arith)
polygon-facets Segment e = absurd (omega arith)
polygon-facets Triangle e = refl
polygon-facets Quad e = refl
polygon-facets Tet e = absurd (omega arith)
polygon-facets Hex e = absurd (omega arith)

-- the corners of a pair are below n
pub pair-below : (n : ℕ) (e : List ℕ) → is_pair n e ≡ true → AllByRecursion (λ k. k < n) e
pair-below n e h =
    let both = and_parts (length e == 2) (are_corners n e) h in
    all_weaker (λ k. nat_lt k n ≡ true) (λ k. k < n) (λ k x. ltb-true k n x) e (each_passes (λ k. nat_lt k n) e (and_parts (list_all (λ k. nat_lt k n) e) _ both.1).0)

-- What the edges of a polygon have as sets, the edges have when the polygon is listed under another orientation.
pub turned-edges : (Q : List ℕ → Type 0) (p : Poly) (from to : List ℕ) (o : ℤ) → dim_of p ≡ 2 → length to ≡ corner_count p → relative p from to ≡ Some o → AllByRecursion (λ e. Q (sorted (picked to e))) (edges_of p) → AllByRecursion (λ e. Q (sorted (picked from e))) (edges_of p)
unfolding act
turned-edges Q p from to o flat long h all =
    all_both (λ e. list_any (λ f. same_list (picked (corners_under p o) f) e || same_list (picked (corners_under p o) f) (get_or e 1 0 ∷ get_or e 0 0 ∷ [])) (edges_of p) ≡ true) (λ e. is_pair (corner_count p) e ≡ true) (λ e. Q (sorted (picked from e))) one (edges_of p)
    (each_passes (λ e. list_any (λ f. same_list (picked (corners_under p o) f) e || same_list (picked (corners_under p o) f) (get_or e 1 0 ∷ get_or e 0 0 ∷ [])) (edges_of p)) (edges_of p) (relative-keeps p from to o flat h))
    pairs
  where
    pairs : AllByRecursion (λ e. is_pair (corner_count p) e ≡ true) (edges_of p)
    pairs = each_passes (is_pair (corner_count p)) (edges_of p) (edges-are_pairs p)

    carried : picked from (corners_under p o) ≡ to
    carried = relative-carries p from to o h

    count : length (corners_under p o) ≡ corner_count p
    count = sym (length-map (corners_under p o) (λ k. get_or from k 0)) ∙ ap length carried ∙ long

    -- an edge of the turned list, by the corners of the first one
    by-corners : (f : List ℕ) → is_pair (corner_count p) f ≡ true → picked to f ≡ picked from (picked (corners_under p o) f)
    by-corners f x = ap (λ l. picked l f) (sym carried) ∙ picked-picked from (corners_under p o) f (subst (λ n. AllByRecursion (λ k. k < n) f) (sym count) (pair-below (corner_count p) f x))

    one : (e : List ℕ) → list_any (λ f. same_list (picked (corners_under p o) f) e || same_list (picked (corners_under p o) f) (get_or e 1 0 ∷ get_or e 0 0 ∷ [])) (edges_of p) ≡ true → is_pair (corner_count p) e ≡ true → Q (sorted (picked from e))
    one e kept pair =
        let (f, (q, x), test) = among (λ f. Q (sorted (picked to f)) × (is_pair (corner_count p) f ≡ true)) (λ f. same_list (picked (corners_under p o) f) e || same_list (picked (corners_under p o) f) (get_or e 1 0 ∷ get_or e 0 0 ∷ [])) (edges_of p) (all_both (λ f. Q (sorted (picked to f))) (λ f. is_pair (corner_count p) f ≡ true) _ (λ f a b. (a, b)) (edges_of p) all pairs) kept in
        let two = two-entries e (eqb-true (length e) 2 (and_parts (length e == 2) (are_corners (corner_count p) e) pair).0) in
        subst Q (ap sorted (by-corners f x) ∙ ⊎_elim
        (λ a. ap (λ l. sorted (picked from l)) (same_text (picked (corners_under p o) f) e (sym a)))
        (λ a. ap (λ l. sorted (picked from l)) (same_text (picked (corners_under p o) f) (get_or e 1 0 ∷ get_or e 0 0 ∷ []) (sym a)) ∙ sorted-turned (get_or from (get_or e 1 0) 0) (get_or from (get_or e 0 0) 0) ∙ ap (λ l. sorted (picked from l)) (sym two))
        (or_cases (same_list (picked (corners_under p o) f) e) (same_list (picked (corners_under p o) f) (get_or e 1 0 ∷ get_or e 0 0 ∷ [])) test)) q
