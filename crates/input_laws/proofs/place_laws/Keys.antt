-- Equal keys are one place.
use Rattle.std.proofs.Common.{◌≡◌, ℕ, zero, suc, ◌+◌, ◌-◌, ◌<◌, ◌≤◌, Bool, true, false, cond, ◌&&◌, ◌==◌, nat_le, nat_lt, nat_eq, List, [], ◌∷◌, ◌++◌, length, replicate, Option, Some, None, refl, sym, ap, ap₂, ◌∙◌, arith}
use Rattle.std.specs.Prelude.{option_map, unwrap_or}
use Rattle.std.specs.List.{AllByRecursion, position}
use Rattle.std.specs.Cmp.Lexicographic.{same_text}
use Rattle.std.proofs.lemmas.Bool.{ne_eqb, eq-eqb, le-leb, cond-true, eqb-true, and_parts, both_ways, false_from_ne_true}
use Rattle.plain_lists.specs.Lists.{inserted, sorted, same_list, same_set}
use Rattle.plain_lists.proofs.Each.{all_weaker}
use Rattle.plain_lists.proofs.Sorted.{all_sorted, same_list-self}
use Rattle.plain_lists.proofs.Finding.{position_agree, among, any_map}
use Rattle.mesh_defs.specs.declared.Poly.{Poly}
use Rattle.mesh_defs.specs.declared.Poly.TheVariants.{Vertex, Segment, Triangle, Quad, Tet, Hex}
use Rattle.mesh_defs.specs.Tables.{corner_count}
use Rattle.input_defs.specs.Content.{Node, Element, Content}
use Rattle.input_defs.specs.Sections.{has_number, poly_of_type, corners_of_type}
use Rattle.input_defs.specs.RightContent.{IsRight, IsRightNode, IsRightElement, node_numbers}
use Rattle.input_defs.specs.Meshes.{dim}
use Rattle.input_laws.specs.place_laws.Places.{stands_on, filled, same_key, has_key, IsPlace}

-- ---- zeros before a list

length-inserted : (x : ℕ) (ys : List ℕ) → length (inserted x ys) ≡ suc (length ys)
length-inserted x [] = refl
length-inserted x (y ∷ ys) = go (nat_le x y) (length-inserted x ys)
  where
    go : (b : Bool) → length (inserted x ys) ≡ suc (length ys) → length (cond b (x ∷ y ∷ ys) (y ∷ inserted x ys)) ≡ suc (suc (length ys))
    go true r = refl
    go false r = ap suc r

pub length-sorted : (xs : List ℕ) → length (sorted xs) ≡ length xs
unfolding sorted
length-sorted [] = refl
length-sorted (x ∷ xs) = length-inserted x (sorted xs) ∙ ap suc (length-sorted xs)

-- 0 stands before all numbers
inserted-zero : (ys : List ℕ) → inserted 0 ys ≡ 0 ∷ ys
inserted-zero [] = refl
inserted-zero (y ∷ ys) = cond-true (nat_le 0 y) (0 ∷ y ∷ ys) (y ∷ inserted 0 ys) (le-leb 0 y (omega arith))

zeros-sorted : (k : ℕ) (xs : List ℕ) → sorted (replicate k 0 ++ xs) ≡ replicate k 0 ++ sorted xs
unfolding sorted
zeros-sorted zero xs = refl
zeros-sorted (suc k) xs = ap (inserted 0) (zeros-sorted k xs) ∙ inserted-zero (replicate k 0 ++ sorted xs)

other-length : (xs ys : List ℕ) → length xs < length ys → same_list xs ys ≡ false
other-length xs ys less = false_from_ne_true (same_list xs ys) (λ h. let e = ap (λ (zs : List ℕ). length zs) (same_text xs ys (sym h)) in omega arith)

other-length-turned : (xs ys : List ℕ) → length ys < length xs → same_list xs ys ≡ false
other-length-turned xs ys less = false_from_ne_true (same_list xs ys) (λ h. let e = ap (λ (zs : List ℕ). length zs) (same_text xs ys (sym h)) in omega arith)

-- lists of one length are equal just where they are without the zeros before them
zeros-same : (k j : ℕ) (us vs : List ℕ) → AllByRecursion (λ n. 1 ≤ n) us → AllByRecursion (λ n. 1 ≤ n) vs → k + length us ≡ j + length vs → same_list (replicate k 0 ++ us) (replicate j 0 ++ vs) ≡ same_list us vs
zeros-same zero zero us vs p q h = refl
zeros-same zero (suc j) [] vs p q h = absurd (omega arith)
zeros-same zero (suc j) (u ∷ us) vs p q h =
    let some = p.0 in
    ap (λ b. b && same_list us (replicate j 0 ++ vs)) (ne_eqb u 0 (λ e. omega arith)) ∙ sym (other-length-turned (u ∷ us) vs (omega arith))
zeros-same (suc k) zero us [] p q h = absurd (omega arith)
zeros-same (suc k) zero us (v ∷ vs) p q h =
    let some = q.0 in
    ap (λ b. b && same_list (replicate k 0 ++ us) vs) (ne_eqb 0 v (λ e. omega arith)) ∙ sym (other-length us (v ∷ vs) (omega arith))
zeros-same (suc k) (suc j) us vs p q h = zeros-same k j us vs p q (omega arith)

-- ---- keys

pub filled-same : (xs ys : List ℕ) → IsPlace xs → IsPlace ys → same_list (filled xs) (filled ys) ≡ same_set xs ys
unfolding filled
filled-same xs ys p q =
    let few_x = p.few in
    let few_y = q.few in
    let lx = length-sorted xs in
    let ly = length-sorted ys in
    ap₂ same_list (zeros-sorted (8 - length xs) xs) (zeros-sorted (8 - length ys) ys)
    ∙ zeros-same (8 - length xs) (8 - length ys) (sorted xs) (sorted ys) (all_sorted (λ n. 1 ≤ n) xs p.numbers) (all_sorted (λ n. 1 ≤ n) ys q.numbers) (omega arith)

-- an element has the key of a place just where it stands there
pub key-same : (d : ℕ) (nodes : List ℕ) (e : Element) → IsPlace nodes → IsPlace e.nodes → has_key (d, filled nodes) e ≡ stands_on d nodes e
key-same d nodes e p q = ap (λ b. (d == dim e) && b) (filled-same nodes e.nodes p q)

-- so the first one with the key is the first one there
pub first-same : (d : ℕ) (nodes : List ℕ) (es : List Element) → IsPlace nodes → AllByRecursion (λ (e : Element). IsPlace e.nodes) es → position (has_key (d, filled nodes)) es ≡ position (stands_on d nodes) es
first-same d nodes es p all = ap (λ n. cond (nat_lt n (length es)) (Some n) None) (position_agree (has_key (d, filled nodes)) (stands_on d nodes) es (all_weaker (λ (e : Element). IsPlace e.nodes) (λ e. has_key (d, filled nodes) e ≡ stands_on d nodes e) (λ e q. key-same d nodes e p q) es all))

-- equal keys
pub same_key-equal : (a b : ℕ × List ℕ) → same_key a b ≡ true → a ≡ b
same_key-equal a b h =
    let both = and_parts (nat_eq a.0 b.0) (same_list a.1 b.1) h in
    ap₂ (λ x y. (x, y)) (eqb-true a.0 b.0 both.0) (same_text a.1 b.1 (sym both.1))

pub same_key-self : (a : ℕ × List ℕ) → same_key a a ≡ true
same_key-self a = ap₂ (λ x y. x && y) (eq-eqb a.0 a.0 refl) (same_list-self a.1)

pub same_key-other : (a b : ℕ × List ℕ) → same_key a b ≡ false → same_key b a ≡ false
same_key-other a b h = false_from_ne_true (same_key b a) (λ t. both_ways (same_key a b) h (ap (same_key a) (same_key-equal b a t) ∙ same_key-self a))

-- ---- the nodes of the elements of a right content

few-corners : (k : ℕ) → corners_of_type k ≤ 8
few-corners k = go (poly_of_type k)
  where
    count : (p : Poly) → corner_count p ≤ 8
    count Vertex = omega arith
    count Segment = omega arith
    count Triangle = omega arith
    count Quad = omega arith
    count Tet = omega arith
    count Hex = omega arith

    go : (o : Option Poly) → unwrap_or (option_map corner_count o) 0 ≤ 8
    go (Some p) = count p
    go None = omega arith

pub known-some : (c : Content) → IsRight c → (n : ℕ) → has_number (node_numbers c) n ≡ true → 1 ≤ n
known-some c right n h =
    let node = among IsRightNode (λ (m : Node). m.number == n) c.nodes right.nodes (sym (any_map (λ m. m == n) (λ (m : Node). m.number) c.nodes) ∙ h) in
    let same : node.0.number ≡ n = eqb-true node.0.number n node.2 in
    let some = node.1.some_number in
    omega arith

pub right-place : (c : Content) → IsRight c → (e : Element) → IsRightElement (node_numbers c) e → IsPlace e.nodes
right-place c right e is = record {
  few = let few = few-corners e.kind in omega (arith, few, is.corners);
  numbers = all_weaker (λ v. has_number (node_numbers c) v ≡ true) (λ v. 1 ≤ v) (known-some c right) e.nodes is.nodes_known;
}

pub right-places : (c : Content) → IsRight c → AllByRecursion (λ (e : Element). IsPlace e.nodes) c.elements
right-places c right = all_weaker (IsRightElement (node_numbers c)) (λ (e : Element). IsPlace e.nodes) (right-place c right) c.elements right.elements
