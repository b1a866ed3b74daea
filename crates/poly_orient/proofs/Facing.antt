-- What an orientation does to facets, from a look at all facets under all orientations.
use Rattle.std.proofs.Common.{◌≡◌, ℕ, ◌<◌, true, false, Bool, ◌&&◌, ltb, List, [], length, get_or, ℤ, Option, Some, None, refl, sym, ap, ◌∙◌, subst}
use Rattle.std.specs.Prelude.{◌==◌, unwrap_or, pos}
use Rattle.std.specs.List.{list_all}
use Rattle.std.specs.Ordering.{int_eq}
use Rattle.std.specs.Cmp.Lexicographic.{same_text}
use Rattle.std.proofs.lemmas.Bool.{and_parts, ltb-true, eqb-true, false≢true}
use Rattle.std.proofs.lemmas.List.Sums.{AllPass-from_list_all}
use Rattle.std.proofs.lemmas.Bool.Decides.{Decides-int_eq}
use Rattle.mesh_defs.specs.declared.Poly.{Poly}
use Rattle.mesh_defs.specs.declared.Poly.TheVariants.{Vertex, Segment, Triangle, Quad, Tet, Hex}
use Rattle.plain_lists.specs.Lists.{below, same_list, sorted, picked}
use Rattle.plain_lists.proofs.Below.{passes-below, picked-picked}
use Rattle.mesh_defs.specs.Tables.{Facet, corner_count, facets_of, facet_at}
use Rattle.mesh_defs.specs.Orientation.{orientations, rotations, reflections, corners_under, act, relative}
use Rattle.poly_orient.specs.declared.symmetry.Symmetry.{Symmetry}
use Rattle.poly_orient.specs.Group.{IsOrientation, facet_on, facet_under}
use Rattle.poly_orient.specs.Symmetries.{symmetry_of, orientation_of, corners_listed, IsSymmetry, facet_from, facet_corner_listed, facet_second}
use Rattle.poly_orient.proofs.Rows.{listed, listed-is, is_symmetry, symmetry_is, symmetries_pass, at_symmetry}
use Rattle.poly_orient.proofs.Listed.{corners_listed-of, length_corners}
use Rattle.poly_orient.proofs.Symmetries.{symmetry-of_orientation}
use Rattle.poly_orient.proofs.Acting.{turned_below, below-tested}
use Rattle.poly_orient.proofs.Relating.{act-symmetry_of, act-orientation_of}

-- the corners of facet k of a polytope
abbrev pub facet_corners : Poly → ℕ → List ℕ
facet_corners p k = (facet_at p k).corners

-- what stands at facet k under a symmetry that lists these corners
abbrev faced_by : Poly → Symmetry → ℕ → List ℕ → ℕ × Symmetry
faced_by p t k corners = facet_from p t (get_or corners (get_or (facet_corners p k) 0 0) 0) (get_or corners (get_or (facet_corners p k) (facet_second p) 0) 0)

-- the same, by the tables, and the corners that stand there
abbrev faced : Poly → Symmetry → ℕ → ℕ × Symmetry
faced p t k = faced_by p t k (listed p t)

abbrev seen : Poly → Symmetry → ℕ → List ℕ
seen p t k = picked (listed p t) (facet_corners p k)

-- the polytope of the facet that stands there
abbrev faced_poly : Poly → Symmetry → ℕ → Poly
faced_poly p t k = (facet_at p (faced p t k).0).poly

-- the facet is one of the polytope
abbrev in_table : Poly → Symmetry → ℕ → Bool
in_table p t k = ltb (faced p t k).0 (length (facets_of p))

-- its symmetry is one of the facet
abbrev has_symmetry : Poly → Symmetry → ℕ → Bool
has_symmetry p t k = is_symmetry (faced_poly p t k) (faced p t k).1

-- its corners under that symmetry stand where those of facet k stood
abbrev stands : Poly → Symmetry → ℕ → Bool
stands p t k = same_list (seen p t k) (picked (facet_corners p (faced p t k).0) (listed (faced_poly p t k) (faced p t k).1))

-- it is the facet on these corners
abbrev is_on : Poly → Symmetry → ℕ → Bool
is_on p t k = facet_on p (seen p t k) == (faced p t k).0

-- an option is this number
abbrev is_some_of : Option ℤ → ℤ → Bool
is_some_of None o = false
is_some_of (Some z) o = int_eq z o

-- its symmetry is the one that leads there
abbrev leads : Poly → Symmetry → ℕ → Bool
leads p t k = is_some_of (relative (faced_poly p t k) (facet_corners p (faced p t k).0) (seen p t k)) (orientation_of (faced p t k).1)

abbrev faces : Poly → Symmetry → ℕ → Bool
faces p t k = in_table p t k && (has_symmetry p t k && (stands p t k && (is_on p t k && leads p t k)))

-- by a look at all
all_face : (p : Poly) → symmetries_pass p (λ t. list_all (faces p t) (below (length (facets_of p)))) ≡ true
unfolding facet_from facet_on sorted orientation_of relative act corners_under orientations rotations reflections
all_face Vertex = refl
all_face Segment = refl
all_face Triangle = refl
all_face Quad = refl
all_face Tet = refl
all_face Hex = refl

-- ---- each facet under each symmetry

-- the facets list corners of the polytope, as many as their own polytope has
all_facets : (p : Poly) → list_all (λ (f : Facet). (length f.corners == corner_count f.poly) && list_all (λ c. ltb c (corner_count p)) f.corners) (facets_of p) ≡ true
all_facets Vertex = refl
all_facets Segment = refl
all_facets Triangle = refl
all_facets Quad = refl
all_facets Tet = refl
all_facets Hex = refl

facet_fits : (p : Poly) (k : ℕ) → k < length (facets_of p) → (length (facet_corners p k) ≡ corner_count (facet_at p k).poly) × (list_all (λ c. ltb c (corner_count p)) (facet_corners p k) ≡ true)
facet_fits p k lt =
    let parts = and_parts (length (facet_corners p k) == corner_count (facet_at p k).poly) (list_all (λ c. ltb c (corner_count p)) (facet_corners p k))
    (AllPass-from_list_all (λ (f : Facet). (length f.corners == corner_count f.poly) && list_all (λ c. ltb c (corner_count p)) f.corners) (facets_of p) (all_facets p) k (record { poly = Vertex; corners = [] }) lt) in
    (eqb-true _ _ parts.0, parts.1)

-- what stands at facet k under a symmetry
abbrev pub facet_turned : Poly → Symmetry → ℕ → ℕ × Symmetry
facet_turned p t k = facet_from p t (facet_corner_listed p t k 0) (facet_corner_listed p t k (facet_second p))

-- what the look at all says of one facet under one symmetry
pub record IsFaced (p : Poly) (t : Symmetry) (k : ℕ) (f : ℕ × Symmetry) : Type 0 where
  pub facet : f.0 < length (facets_of p)
  pub symmetry : IsSymmetry (facet_at p f.0).poly f.1
  pub corners : picked (corners_listed p t) (facet_corners p k) ≡ picked (facet_corners p f.0) (corners_listed (facet_at p f.0).poly f.1)
  pub on_corners : facet_on p (picked (corners_listed p t) (facet_corners p k)) ≡ f.0
  pub leads : relative (facet_at p f.0).poly (facet_corners p f.0) (picked (corners_listed p t) (facet_corners p k)) ≡ Some (orientation_of f.1)

some_of : (o : Option ℤ) (z : ℤ) → is_some_of o z ≡ true → o ≡ Some z
some_of None z h = absurd (false≢true h)
some_of (Some x) z h = ap Some ((Decides-int_eq x z).0 h)

pub is_faced : (p : Poly) (t : Symmetry) (k : ℕ) → IsSymmetry p t → k < length (facets_of p) → IsFaced p t k (facet_turned p t k)
is_faced p t k has lt =
    let f = faced p t k in
    let all = at_symmetry p (λ t. list_all (faces p t) (below (length (facets_of p)))) (all_face p) t has in
    let here = and_parts (in_table p t k) (has_symmetry p t k && (stands p t k && (is_on p t k && leads p t k))) (passes-below (faces p t) (length (facets_of p)) k all lt) in
    let turned = and_parts (has_symmetry p t k) (stands p t k && (is_on p t k && leads p t k)) here.1 in
    let standing = and_parts (stands p t k) (is_on p t k && leads p t k) turned.1 in
    let found = and_parts (is_on p t k) (leads p t k) standing.1 in
    let by_corners : picked (corners_listed p t) (facet_corners p k) ≡ seen p t k = ap (λ cs. picked cs (facet_corners p k)) (sym (listed-is p t)) in
    let faced_here : IsFaced p t k f = record {
      facet = ltb-true _ _ here.0;
      symmetry = symmetry_is (faced_poly p t k) f.1 turned.0;
      corners = by_corners ∙ same_text _ _ (sym standing.0) ∙ ap (picked (facet_corners p f.0)) (listed-is (faced_poly p t k) f.1);
      on_corners = ap (facet_on p) by_corners ∙ eqb-true _ _ found.0;
      leads = ap (relative (faced_poly p t k) (facet_corners p f.0)) by_corners ∙ some_of _ _ found.1;
    } in
    subst (IsFaced p t k) (ap (faced_by p t k) (listed-is p t)) faced_here

-- ---- the answer of the call

-- the pair is what the definition gives
pub facet_under-is : (p : Poly) (o : ℤ) (k : ℕ) (f : ℕ × Symmetry) → IsFaced p (symmetry_of o) k f → facet_under p o k ≡ (f.0, orientation_of f.1)
unfolding facet_under
facet_under-is p o k f faced =
    let by_corners : picked (corners_under p o) (facet_corners p k) ≡ picked (corners_listed p (symmetry_of o)) (facet_corners p k) = ap (λ cs. picked cs (facet_corners p k)) (sym (corners_listed-of p o)) in
    let on = ap (facet_on p) by_corners ∙ faced.on_corners in
    (λ j. (on j, unwrap_or (relative (facet_at p (on j)).poly (facet_corners p (on j)) (by_corners j)) (pos 0))) ∙ (λ j. (f.0, unwrap_or (faced.leads j) (pos 0)))

-- facet k of a list under the orientation is the other facet of the list, under its own orientation
pub facet_carried : (p : Poly) (o : ℤ) (k : ℕ) (f : ℕ × Symmetry) (a : List ℕ) → IsOrientation p o → k < length (facets_of p) → IsFaced p (symmetry_of o) k f
    → picked (act p o a) (facet_corners p k) ≡ act (facet_at p f.0).poly (orientation_of f.1) (picked a (facet_corners p f.0))
facet_carried p o k f a has lt faced =
    let t = symmetry_of o in
    let symmetry = symmetry-of_orientation p o has in
    let fits = facet_fits p k lt in
    let facet_fits_too = facet_fits p f.0 faced.facet in
    let inside : list_all (λ c. ltb c (length (corners_listed p t))) (facet_corners p k) ≡ true = subst (λ n. list_all (λ c. ltb c n) (facet_corners p k) ≡ true) (sym (length_corners p t symmetry)) fits.1 in
    let facet_inside : list_all (λ c. ltb c (length (facet_corners p f.0))) (corners_listed (facet_at p f.0).poly f.1) ≡ true =
    subst (λ n. list_all (λ c. ltb c n) (corners_listed (facet_at p f.0).poly f.1) ≡ true) (sym facet_fits_too.0) (turned_below (facet_at p f.0).poly f.1 faced.symmetry) in
    ap (λ list. picked list (facet_corners p k)) (act-symmetry_of p o a)
    ∙ picked-picked a (corners_listed p t) (facet_corners p k) (below-tested _ _ inside) ∙ ap (picked a) faced.corners
    ∙ sym (picked-picked a (facet_corners p f.0) (corners_listed (facet_at p f.0).poly f.1) (below-tested _ _ facet_inside))
    ∙ sym (act-orientation_of (facet_at p f.0).poly f.1 (picked a (facet_corners p f.0)))
