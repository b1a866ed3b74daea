-- Sets of up to eight vertices are equal just where the vertices are the same ones.
use Rattle.std.proofs.Common.{◌≡◌, ℕ, zero, suc, ◌-◌, ◌<◌, ◌≤◌, Bool, true, false, cond, List, [], ◌∷◌, ◌++◌, length, nat_le, nat_lt, replicate, refl, sym, ap, ap₂, ◌∙◌, subst, arith, append_assoc, append-nil}
use Rattle.std.specs.Prelude.{filter}
use Rattle.std.specs.List.{AllByRecursion}
use Rattle.std.specs.Cmp.Lexicographic.{same_text}
use Rattle.std.proofs.lemmas.Bool.{cond-true, le-leb, lt-ltb, le-ltb}
use Rattle.std.proofs.lemmas.List.Elements.{filter-append}
use Rattle.plain_lists.specs.Lists.{inserted, sorted, same_list, same_set}
use Rattle.plain_lists.proofs.Each.{all_append, all_weaker}
use Rattle.plain_lists.proofs.Filters.{filter_whole, filter_none}
use Rattle.plain_lists.proofs.Finding.{same_tests}
use Rattle.plain_lists.proofs.Sorted.{same_list-self, all_sorted}
use Rattle.mesh_defs.specs.declared.Poly.{Poly}
use Rattle.mesh_defs.specs.declared.Poly.TheVariants.{Vertex, Segment, Triangle, Quad, Tet, Hex}
use Rattle.mesh_defs.specs.Tables.{corner_count}
use Rattle.mesh_defs.specs.Mesh.{Mesh, Cell}
use Rattle.mesh_defs.specs.RightMesh.{IsSoundCell, IsRightMesh}
use Rattle.rank_chart_laws.proofs.mark_laws.Counting.{vertices-few}
use Rattle.rank_chart_laws.specs.mark_laws.Sets.{no_vertex, filled, IsShort}

-- ---- numbers that none is above

-- such a number goes last
inserted-before : (m x : ℕ) (ys : List ℕ) → x ≤ m → inserted x (ys ++ m ∷ []) ≡ inserted x ys ++ m ∷ []
inserted-before m x [] h = cond-true (nat_le x m) (x ∷ m ∷ []) (m ∷ x ∷ []) (le-leb x m h)
inserted-before m x (y ∷ ys) h = go (nat_le x y) (inserted-before m x ys h)
  where
    go : (b : Bool) → inserted x (ys ++ m ∷ []) ≡ inserted x ys ++ m ∷ [] → cond b (x ∷ y ∷ (ys ++ m ∷ [])) (y ∷ inserted x (ys ++ m ∷ [])) ≡ cond b (x ∷ y ∷ ys) (y ∷ inserted x ys) ++ m ∷ []
    go true r = refl
    go false r = ap (λ l. y ∷ l) r

sorted-before : (m : ℕ) (xs : List ℕ) → AllByRecursion (λ v. v ≤ m) xs → sorted (xs ++ m ∷ []) ≡ sorted xs ++ m ∷ []
unfolding sorted
sorted-before m [] h = refl
sorted-before m (x ∷ xs) h = ap (inserted x) (sorted-before m xs h.1) ∙ inserted-before m x (sorted xs) h.0

-- and so do several
sorted-several : (m k : ℕ) (xs : List ℕ) → AllByRecursion (λ v. v ≤ m) xs → sorted (xs ++ replicate k m) ≡ sorted xs ++ replicate k m
sorted-several m zero xs h = ap sorted (append-nil xs) ∙ sym (append-nil (sorted xs))
sorted-several m (suc k) xs h =
    let own : m ≤ m = omega arith in
    ap sorted (sym (append_assoc xs (m ∷ []) (replicate k m)))
    ∙ sorted-several m k (xs ++ m ∷ []) (all_append (λ v. v ≤ m) xs (m ∷ []) h (own, tt))
    ∙ ap (λ l. l ++ replicate k m) (sorted-before m xs h)
    ∙ append_assoc (sorted xs) (m ∷ []) (replicate k m)

-- ---- sets

none-low : (m k : ℕ) → AllByRecursion (λ v. nat_lt v m ≡ false) (replicate k m)
none-low m zero = tt
none-low m (suc k) = (le-ltb m m (omega arith), none-low m k)

-- the set has the sorted vertices in front
filled-is : (xs : List ℕ) → IsShort xs → filled xs ≡ sorted xs ++ replicate (8 - length xs) no_vertex
unfolding filled
filled-is xs is = sorted-several no_vertex (8 - length xs) xs (all_weaker (λ v. v < no_vertex) (λ v. v ≤ no_vertex) (λ v h. omega arith) xs is.low)

-- they are what is a vertex in it
vertices-of : (xs : List ℕ) → IsShort xs → filter (λ v. nat_lt v no_vertex) (filled xs) ≡ sorted xs
vertices-of xs is =
    ap (filter (λ v. nat_lt v no_vertex)) (filled-is xs is) ∙ filter-append (λ v. nat_lt v no_vertex) (sorted xs) (replicate (8 - length xs) no_vertex)
    ∙ ap₂ (λ a b. a ++ b)
    (filter_whole (λ v. nat_lt v no_vertex) (sorted xs) (all_weaker (λ v. v < no_vertex) (λ v. nat_lt v no_vertex ≡ true) (λ v h. lt-ltb v no_vertex h) (sorted xs) (all_sorted (λ v. v < no_vertex) xs is.low)))
    (filter_none (λ v. nat_lt v no_vertex) (replicate (8 - length xs) no_vertex) (none-low no_vertex (8 - length xs)))
    ∙ append-nil (sorted xs)

length-inserted : (x : ℕ) (ys : List ℕ) → length (inserted x ys) ≡ suc (length ys)
length-inserted x [] = refl
length-inserted x (y ∷ ys) = go (nat_le x y) (length-inserted x ys)
  where
    go : (b : Bool) → length (inserted x ys) ≡ suc (length ys) → length (cond b (x ∷ y ∷ ys) (y ∷ inserted x ys)) ≡ suc (suc (length ys))
    go true r = refl
    go false r = ap suc r

length-sorted : (xs : List ℕ) → length (sorted xs) ≡ length xs
unfolding sorted
length-sorted [] = refl
length-sorted (x ∷ xs) = length-inserted x (sorted xs) ∙ ap suc (length-sorted xs)

-- sets are equal just where the vertices are the same
pub filled-same : (xs ys : List ℕ) → IsShort xs → IsShort ys → same_list (filled xs) (filled ys) ≡ same_set xs ys
filled-same xs ys is is' = same_tests (same_list (filled xs) (filled ys)) (same_set xs ys)
    (λ h. let e = sym (vertices-of xs is) ∙ ap (filter (λ v. nat_lt v no_vertex)) (same_text (filled xs) (filled ys) (sym h)) ∙ vertices-of ys is' in subst (λ l. same_list (sorted xs) l ≡ true) e (same_list-self (sorted xs)))
    (λ h. let e = same_text (sorted xs) (sorted ys) (sym h) in
    let size : length xs ≡ length ys = sym (length-sorted xs) ∙ ap length e ∙ length-sorted ys in
    let f : filled xs ≡ filled ys = filled-is xs is ∙ (λ i. e i ++ replicate (8 - size i) no_vertex) ∙ sym (filled-is ys is') in
    subst (λ l. same_list (filled xs) l ≡ true) f (same_list-self (filled xs)))

-- ---- the cells of a mesh

-- no polytope has more than eight corners
few-corners : (p : Poly) → corner_count p ≤ 8
few-corners Vertex = omega arith
few-corners Segment = omega arith
few-corners Triangle = omega arith
few-corners Quad = omega arith
few-corners Tet = omega arith
few-corners Hex = omega arith

-- a cell has few vertices
sound-short : (m : Mesh) (cell : Cell) → length m.at < 4294967296 → IsSoundCell m cell → IsShort cell.vertices
sound-short m cell fits is = record {
  few = omega (arith, is.corners, few-corners cell.poly);
  low = all_weaker (λ v. v < length m.at) (λ v. v < no_vertex) (λ v h. omega arith) cell.vertices is.in_range;
}

pub cells-short : (m : Mesh) → IsRightMesh m → AllByRecursion (λ (cell : Cell). IsShort cell.vertices) m.cells
cells-short m right =
    let fits : length m.at < 4294967296 = omega (arith, vertices-few m right) in
    all_weaker (IsSoundCell m) (λ (cell : Cell). IsShort cell.vertices) (λ cell is. sound-short m cell fits is) m.cells right.sound.cells
