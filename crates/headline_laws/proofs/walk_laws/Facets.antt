-- What the tables say of facets and orientations, as lists of vertices see it.
use Rattle.std.proofs.Common.{◌≡◌, ℕ, ◌<◌, ⊎_elim, Bool, true, not, ◌||◌, ltb, List, length, get_or, ℤ, refl, sym, ap, ◌∙◌, subst, arith}
use Rattle.std.specs.Prelude.{◌==◌, unwrap_or}
use Rattle.std.specs.List.{list_all, list_any, position, AllByRecursion}
use Rattle.std.specs.Cmp.Lexicographic.{same_text}
use Rattle.std.proofs.lemmas.Bool.{eqb-true, not-true, both_ways, or_cases}
use Rattle.std.proofs.lemmas.List.{take_all}
use Rattle.std.proofs.lemmas.List.Folds.{Any-from_list_any}
use Rattle.mesh_defs.specs.declared.Poly.{Poly}
use Rattle.mesh_defs.specs.declared.Poly.TheVariants.{Vertex, Segment, Triangle, Quad, Tet, Hex}
use Rattle.plain_lists.specs.Lists.{below, same_list, sorted, picked}
use Rattle.plain_lists.proofs.Below.{below-all, passes-below}
use Rattle.plain_lists.proofs.Sorted.{same_list-self}
use Rattle.plain_lists.proofs.Each.{all_weaker, all_contained}
use Rattle.mesh_defs.specs.Tables.{corner_count, facets_of, facet_at}
use Rattle.mesh_defs.specs.Orientation.{act}
use Rattle.poly_orient.specs.declared.symmetry.Symmetry.{Symmetry}
use Rattle.poly_orient.specs.Group.{IsOrientation, Differ, corners_of, composition, facet_under}
use Rattle.poly_orient.specs.Symmetries.{symmetry_of, orientation_of, corners_listed, facet_from, facet_second}
use Rattle.poly_orient.proofs.Rows.{listed, listed-is, symmetries_pass, at_symmetry}
use Rattle.poly_orient.proofs.Symmetries.{symmetry-of_orientation, orientation-of_symmetry, symmetry_of-number}
use Rattle.poly_orient.proofs.Composition.{composed_symmetry, corners-composed_symmetry, is_symmetry-composed_symmetry}
use Rattle.poly_orient.proofs.Acting.{acts_twice, below-tested}
use Rattle.poly_orient.proofs.Relating.{picked-below, position-entry, act-symmetry_of}
use Rattle.poly_orient.proofs.Grouping.{composition-is}
use Rattle.poly_orient.proofs.Facing.{facet_turned, is_faced, facet_under-is, facet_carried}
use Rattle.headline_laws.proofs.walk_laws.Images.{images-same, images-differ}

-- ---- one orientation after another

-- the composition is an orientation, and acts as the one after the other does
pub composed : (p : Poly) (a b : ℤ) → IsOrientation p a → IsOrientation p b → IsOrientation p (composition p a b) × ((vertices : List ℕ) → act p (composition p a b) vertices ≡ act p a (act p b vertices))
composed p a b has_a has_b =
    let of_a = symmetry-of_orientation p a has_a in
    let of_b = symmetry-of_orientation p b has_b in
    let t = composed_symmetry p (symmetry_of a) (symmetry_of b) in
    let has : IsOrientation p (orientation_of t) = orientation-of_symmetry p t (is_symmetry-composed_symmetry p (symmetry_of a) (symmetry_of b) of_a of_b) in
    let lists : corners_listed p (symmetry_of (orientation_of t)) ≡ picked (corners_listed p (symmetry_of b)) (corners_listed p (symmetry_of a)) =
    ap (corners_listed p) (symmetry_of-number t) ∙ corners-composed_symmetry p (symmetry_of a) (symmetry_of b) of_a of_b in
    let is : composition p a b ≡ orientation_of t = composition-is p (orientation_of t) a b has has_a has_b lists in
    (subst (IsOrientation p) (sym is) has, λ vertices. ap (λ o. act p o vertices) is ∙ acts_twice p (orientation_of t) a b vertices of_a of_b lists)

-- ---- what stands at a facet

-- facet k of a polytope whose corners are listed under o: it is this facet of the polytope, under this orientation
pub record Stands (p : Poly) (o : ℤ) (k : ℕ) (f : ℕ × ℤ) : Type 0 where
  pub facet : f.0 < length (facets_of p)
  pub turn : IsOrientation (facet_at p f.0).poly f.1
  pub carries : (a : List ℕ) → picked (act p o a) (facet_at p k).corners ≡ act (facet_at p f.0).poly f.1 (picked a (facet_at p f.0).corners)

pub facet-stands : (p : Poly) (o : ℤ) (k : ℕ) → IsOrientation p o → k < length (facets_of p) → Stands p o k (facet_under p o k)
facet-stands p o k has lt =
    let f = facet_turned p (symmetry_of o) k in
    let faced = is_faced p (symmetry_of o) k (symmetry-of_orientation p o has) lt in
    subst (Stands p o k) (sym (facet_under-is p o k f faced))
    (record {
      facet = faced.facet;
      turn = orientation-of_symmetry (facet_at p f.0).poly f.1 faced.symmetry;
      carries = λ a. facet_carried p o k f a has lt faced;
    })

-- the facet that stands at facet k where the corners are listed so under a symmetry
seen_facet : Poly → Symmetry → List ℕ → ℕ → ℕ
seen_facet p t corners k = (facet_from p t (get_or corners (get_or (facet_at p k).corners 0 0) 0) (get_or corners (get_or (facet_at p k).corners (facet_second p) 0) 0)).0

-- by a look at all: each facet stands somewhere
all_met : (p : Poly) → symmetries_pass p (λ t. list_all (λ j. list_any (λ k. seen_facet p t (listed p t) k == j) (below (length (facets_of p)))) (below (length (facets_of p)))) ≡ true
unfolding seen_facet facet_from
all_met Vertex = refl
all_met Segment = refl
all_met Triangle = refl
all_met Quad = refl
all_met Tet = refl
all_met Hex = refl

-- each facet stands at some facet under each orientation
pub facet-met : (p : Poly) (o : ℤ) (j : ℕ) → IsOrientation p o → j < length (facets_of p) → (k : ℕ) × (k < length (facets_of p)) × ((facet_under p o k).0 ≡ j)
unfolding seen_facet
facet-met p o j has low =
    let t = symmetry_of o in
    let n : ℕ = length (facets_of p) in
    let of_t = symmetry-of_orientation p o has in
    let found = passes-below (λ j. list_any (λ k. seen_facet p t (listed p t) k == j) (below n)) n j (at_symmetry p (λ t. list_all (λ j. list_any (λ k. seen_facet p t (listed p t) k == j) (below n)) (below n)) (all_met p) t of_t) low in
    let (i, k, within, at, is) = Any-from_list_any (λ k. seen_facet p t (listed p t) k == j) (below n) found in
    let low_k : k < n = all_contained (λ k. k < n) (below n) k (below-all n) (i, within, at) in
    let seen : (facet_under p o k).0 ≡ seen_facet p t (corners_listed p t) k = ap (λ (f : ℕ × ℤ). f.0) (facet_under-is p o k (facet_turned p t k) (is_faced p t k of_t low_k)) in
    (k, low_k, seen ∙ ap (λ corners. seen_facet p t corners k) (sym (listed-is p t)) ∙ eqb-true (seen_facet p t (listed p t) k) j is)

-- ---- sets of vertices

-- each orientation lists all corners
lists_all : Poly → Symmetry → Bool
lists_all p t = same_list (sorted (listed p t)) (sorted (corners_of p))

all_listed : (p : Poly) → symmetries_pass p (lists_all p) ≡ true
unfolding sorted lists_all
all_listed Vertex = refl
all_listed Segment = refl
all_listed Triangle = refl
all_listed Quad = refl
all_listed Tet = refl
all_listed Hex = refl

-- a list under an orientation has the same vertices
pub sorted-act : (p : Poly) (o : ℤ) (vertices : List ℕ) → IsOrientation p o → length vertices ≡ corner_count p → sorted (act p o vertices) ≡ sorted vertices
unfolding lists_all
sorted-act p o vertices has size =
    let t = symmetry_of o in
    let corners : sorted (corners_listed p t) ≡ sorted (corners_of p) = ap sorted (sym (listed-is p t)) ∙ same_text (sorted (listed p t)) (sorted (corners_of p)) (sym (at_symmetry p (lists_all p) (all_listed p) t (symmetry-of_orientation p o has))) in
    ap sorted (act-symmetry_of p o vertices)
    ∙ images-same (λ k. get_or vertices k 0) (corners_listed p t) (corners_of p) corners
    ∙ ap sorted (picked-below vertices (corner_count p) (omega (arith, size)) ∙ take_all (corner_count p) vertices (omega (arith, size)))

-- no two facets have the same corners
apart : Poly → ℕ → ℕ → Bool
apart p i j = (i == j) || not (same_list (sorted (facet_at p i).corners) (sorted (facet_at p j).corners))

all_apart : (p : Poly) → list_all (λ i. list_all (apart p i) (below (length (facets_of p)))) (below (length (facets_of p))) ≡ true
unfolding sorted apart
all_apart Vertex = refl
all_apart Segment = refl
all_apart Triangle = refl
all_apart Quad = refl
all_apart Tet = refl
all_apart Hex = refl

all_inside : (p : Poly) → list_all (λ k. list_all (λ c. ltb c (corner_count p)) (facet_at p k).corners) (below (length (facets_of p))) ≡ true
all_inside Vertex = refl
all_inside Segment = refl
all_inside Triangle = refl
all_inside Quad = refl
all_inside Tet = refl
all_inside Hex = refl

pub facet-apart : (p : Poly) (i j : ℕ) → i < length (facets_of p) → j < length (facets_of p) → sorted (facet_at p i).corners ≡ sorted (facet_at p j).corners → i ≡ j
unfolding apart
facet-apart p i j low_i low_j same =
    let corners : ℕ → List ℕ = λ k. sorted (facet_at p k).corners in
    let here : apart p i j ≡ true = passes-below (apart p i) (length (facets_of p)) j (passes-below (λ i. list_all (apart p i) (below (length (facets_of p)))) (length (facets_of p)) i (all_apart p) low_i) low_j in
    ⊎_elim
    (λ h. eqb-true i j h)
    (λ h. let equal : same_list (corners i) (corners j) ≡ true = subst (λ (l : List ℕ). same_list (corners i) l ≡ true) same (same_list-self (corners i)) in absurd (both_ways (same_list (corners i) (corners j)) (not-true (same_list (corners i) (corners j)) h) equal))
    (or_cases (i == j) (not (same_list (corners i) (corners j))) here)

-- nor have they the same vertices of a list whose vertices differ
pub facet-alone : (p : Poly) (list : List ℕ) (i j : ℕ) → length list ≡ corner_count p → Differ list → i < length (facets_of p) → j < length (facets_of p)
    → sorted (picked list (facet_at p i).corners) ≡ sorted (picked list (facet_at p j).corners) → i ≡ j
facet-alone p list i j size differ low_i low_j same =
    facet-apart p i j low_i low_j
    (images-differ (λ k. get_or list k 0) (λ v. unwrap_or (position (λ u. u == v) list) 0) (facet_at p i).corners (facet_at p j).corners (back i low_i) (back j low_j) same)
  where
    back : (k : ℕ) → k < length (facets_of p) → AllByRecursion (λ c. unwrap_or (position (λ u. u == get_or list c 0) list) 0 ≡ c) (facet_at p k).corners
    back k low =
        all_weaker (λ c. c < corner_count p) (λ c. unwrap_or (position (λ u. u == get_or list c 0) list) 0 ≡ c)
        (λ c inside. let within : c < length list = omega (arith, size, inside) in ap (λ found. unwrap_or found 0) (position-entry list c differ within))
        (facet_at p k).corners
        (below-tested (corner_count p) (facet_at p k).corners (passes-below (λ k. list_all (λ c. ltb c (corner_count p)) (facet_at p k).corners) (length (facets_of p)) k (all_inside p) low))
