-- The cells of a generated mesh have different vertices: those of one spot by the sums of their vertices, those of two spots
-- by the least of them.
use Rattle.std.proofs.Common.{◌≡◌, ◌≢◌, ℕ, ◌+◌, ◌*◌, ◌≤◌, Bool, true, false, cond, not, ◌&&◌, ◌||◌, nat_le, List, [], ◌∷◌, ◌++◌, map, get_or, refl, sym, ap, ◌∙◌, arith}
use Rattle.std.specs.Prelude.{flat_map}
use Rattle.std.specs.List.{AllByRecursion, list_any}
use Rattle.std.specs.Cmp.Lexicographic.{same_text}
use Rattle.std.proofs.lemmas.Bool.{and_parts, le-leb}
use Rattle.std.proofs.lemmas.List.Folds.{list_any-append}
use Rattle.plain_lists.specs.Lists.{inserted, sorted, same_set, differ_as_sets}
use Rattle.plain_lists.proofs.Each.{all_weaker, all_append}
use Rattle.plain_lists.proofs.Finding.{none_passes}
use Rattle.plain_lists.proofs.Sorted.{all_sorted}
use Rattle.mesh_defs.specs.Mesh.{Cell}
use Rattle.input_defs.specs.declared.Kind.{Kind}
use Rattle.input_defs.specs.declared.Kind.TheVariants.{Tri, Quad, Tet, Hex}
use Rattle.input_laws.proofs.made_laws.Rising.{Rise, rise-above, Apart, less-apart, more-apart}
use Rattle.input_laws.proofs.made_laws.Corners.{cells_from}

-- ---- what equal sets share

-- tests that are not true are false
is-false : (b : Bool) → (b ≡ true → false ≡ true) → b ≡ false
is-false true h = sym (h refl)
is-false false h = refl

-- what sorted lists give, equal sets give
one-key : {X : Type 0} (key : List ℕ → X) (xs ys : List ℕ) → same_set xs ys ≡ true → key (sorted xs) ≡ key (sorted ys)
one-key key xs ys h = ap key (same_text (sorted xs) (sorted ys) (sym h))

-- sets with different keys differ
other-sets : (key : List ℕ → ℕ) (xs ys : List ℕ) → key (sorted xs) ≢ key (sorted ys) → same_set xs ys ≡ false
other-sets key xs ys other = is-false (same_set xs ys) (λ h. absurd (other (one-key key xs ys h)))

-- the sum of numbers
abbrev pub total : List ℕ → ℕ
total [] = 0
total (x ∷ xs) = x + total xs

total-inserted : (x : ℕ) (xs : List ℕ) → total (inserted x xs) ≡ x + total xs
total-inserted x [] = refl
total-inserted x (y ∷ ys) = go (nat_le x y) (total-inserted x ys)
  where
    go : (b : Bool) → total (inserted x ys) ≡ x + total ys → total (cond b (x ∷ y ∷ ys) (y ∷ inserted x ys)) ≡ x + (y + total ys)
    go true r = refl
    go false r = omega arith

total-sorted : (xs : List ℕ) → total (sorted xs) ≡ total xs
unfolding sorted
total-sorted [] = refl
total-sorted (x ∷ xs) = total-inserted x (sorted xs) ∙ ap (λ n. x + n) (total-sorted xs)

-- the least of the numbers
abbrev pub least : List ℕ → ℕ
least xs = get_or (sorted xs) 0 0

first-least : (x : ℕ) (ys : List ℕ) → AllByRecursion (λ y. x ≤ y) ys → get_or (inserted x ys) 0 0 ≡ x
first-least x [] h = refl
first-least x (y ∷ ys) h = ap (λ b. get_or (cond b (x ∷ y ∷ ys) (y ∷ inserted x ys)) 0 0) (le-leb x y h.0)

-- it is the first where none is below it
pub least-first : (x : ℕ) (xs : List ℕ) → AllByRecursion (λ y. x ≤ y) xs → least (x ∷ xs) ≡ x
unfolding sorted
least-first x xs h = first-least x (sorted xs) (all_sorted (λ y. x ≤ y) xs h)

-- ---- lists of sets

-- sets with different sums
pub differ-by_total : (xss : List (List ℕ)) → Apart (map total xss) → differ_as_sets xss ≡ true
differ-by_total [] h = refl
differ-by_total (xs ∷ xss) h =
    let none = none_passes (same_set xs) xss (others xss h.0) in
    rw (none, differ-by_total xss h.1)
  where
    others : (yss : List (List ℕ)) → AllByRecursion (λ n. total xs ≢ n) (map total yss) → AllByRecursion (λ ys. same_set xs ys ≡ false) yss
    others [] h = tt
    others (ys ∷ yss) h = (other-sets total xs ys (λ e. h.0 (sym (total-sorted xs) ∙ e ∙ total-sorted ys)), others yss h.1)

-- sets, and others that differ from them
differ-append : (xss yss : List (List ℕ)) → differ_as_sets xss ≡ true → differ_as_sets yss ≡ true → AllByRecursion (λ xs. list_any (same_set xs) yss ≡ false) xss → differ_as_sets (xss ++ yss) ≡ true
differ-append [] yss h k apart = k
differ-append (xs ∷ xss) yss h k apart =
    let both = and_parts (not (list_any (same_set xs) xss)) (differ_as_sets xss) h in
    go (list_any (same_set xs) xss) (list_any (same_set xs) yss) both.0 apart.0 (list_any-append (same_set xs) xss yss) (differ-append xss yss both.1 k apart.1)
  where
    go : (a b : Bool) → not a ≡ true → b ≡ false → list_any (same_set xs) (xss ++ yss) ≡ (a || b) → differ_as_sets (xss ++ yss) ≡ true → (not (list_any (same_set xs) (xss ++ yss)) && differ_as_sets (xss ++ yss)) ≡ true
    go true b h k e r = absurd (cc)
    go false true h k e r = absurd (cc)
    go false false h k e r = rw (e, r)

-- blocks of sets, each with its own least number, which rise
pub differ-blocks : {P : Type 0} (b : P → ℕ) (f : P → List (List ℕ)) (lo hi : ℕ) (ps : List P) → Rise lo hi (map b ps) → AllByRecursion (λ p. (differ_as_sets (f p) ≡ true) × AllByRecursion (λ xs. least xs ≡ b p) (f p)) ps
    → differ_as_sets (flat_map f ps) ≡ true
differ-blocks b f lo hi [] rise h = refl
differ-blocks {P} b f lo hi (p ∷ ps) rise h =
    differ-append (f p) (flat_map f ps) h.0.0 (differ-blocks b f (b p + 1) hi ps rise.1 h.1)
    (all_weaker (λ xs. least xs ≡ b p) (λ xs. list_any (same_set xs) (flat_map f ps) ≡ false)
    (λ xs is. none_passes (same_set xs) (flat_map f ps) (all_weaker (λ ys. b p + 1 ≤ least ys) (λ ys. same_set xs ys ≡ false)
    (λ ys above. other-sets (λ zs. get_or zs 0 0) xs ys (λ e. omega (arith, e, is, above))) (flat_map f ps) (later ps (rise-above (b p + 1) hi (map b ps) rise.1) h.1)))
    (f p) h.0.1)
  where
    later : (qs : List P) → AllByRecursion (λ n. b p + 1 ≤ n) (map b qs) → AllByRecursion (λ q. (differ_as_sets (f q) ≡ true) × AllByRecursion (λ xs. least xs ≡ b q) (f q)) qs → AllByRecursion (λ ys. b p + 1 ≤ least ys) (flat_map f qs)
    later [] above k = tt
    later (q ∷ qs) above k = all_append (λ ys. b p + 1 ≤ least ys) (f q) (flat_map f qs) (all_weaker (λ xs. least xs ≡ b q) (λ ys. b p + 1 ≤ least ys) (λ ys is. omega (arith, is, above.0)) (f q) k.0.1) (later qs above.1 k.1)

-- ---- the cells of one spot

abbrev pub vertices_from : Kind → ℕ → ℕ → ℕ → List (List ℕ)
vertices_from kind b w s = map (λ (cell : Cell). cell.vertices) (cells_from kind b w s)

-- their sums differ
pub block-differs : (kind : Kind) (b w s : ℕ) → 2 ≤ w → 2 * w ≤ s → differ_as_sets (vertices_from kind b w s) ≡ true
block-differs Tri b w s wide deep = differ-by_total (vertices_from Tri b w s) ((less-apart _ _ (omega arith), tt), (tt, tt))
block-differs Quad b w s wide deep = differ-by_total (vertices_from Quad b w s) (tt, tt)
block-differs Tet b w s wide deep = differ-by_total (vertices_from Tet b w s) ((less-apart _ _ (omega arith), (less-apart _ _ (omega arith), (less-apart _ _ (omega arith), (less-apart _ _ (omega arith), (less-apart _ _ (omega arith), tt))))), ((more-apart _ _ (omega arith), (less-apart _ _ (omega arith), (less-apart _ _ (omega arith), (less-apart _ _ (omega arith), tt)))), ((less-apart _ _ (omega arith), (less-apart _ _ (omega arith), (less-apart _ _ (omega arith), tt))), ((less-apart _ _ (omega arith), (less-apart _ _ (omega arith), tt)), ((less-apart _ _ (omega arith), tt), (tt, tt))))))
block-differs Hex b w s wide deep = differ-by_total (vertices_from Hex b w s) (tt, tt)

-- the least vertex of each is the spot's own
pub block-least : (kind : Kind) (b w s : ℕ) → AllByRecursion (λ xs. least xs ≡ b) (vertices_from kind b w s)
block-least Tri b w s =
    (least-first b ((b + 1) ∷ (b + 1 + w) ∷ []) (omega arith, (omega arith, tt)), (least-first b ((b + 1 + w) ∷ (b + w) ∷ []) (omega arith, (omega arith, tt)), tt))
block-least Quad b w s =
    (least-first b ((b + 1) ∷ (b + 1 + w) ∷ (b + w) ∷ []) (omega arith, (omega arith, (omega arith, tt))), tt)
block-least Tet b w s =
    (least-first b ((b + 1) ∷ (b + 1 + w) ∷ (b + 1 + w + s) ∷ []) (omega arith, (omega arith, (omega arith, tt))), (least-first b ((b + 1) ∷ (b + 1 + s) ∷ (b + 1 + w + s) ∷ []) (omega arith, (omega arith, (omega arith, tt))), (least-first b ((b + w) ∷ (b + 1 + w) ∷ (b + 1 + w + s) ∷ []) (omega arith, (omega arith, (omega arith, tt))), (least-first b ((b + w) ∷ (b + w + s) ∷ (b + 1 + w + s) ∷ []) (omega arith, (omega arith, (omega arith, tt))), (least-first b ((b + s) ∷ (b + 1 + s) ∷ (b + 1 + w + s) ∷ []) (omega arith, (omega arith, (omega arith, tt))), (least-first b ((b + s) ∷ (b + w + s) ∷ (b + 1 + w + s) ∷ []) (omega arith, (omega arith, (omega arith, tt))), tt))))))
block-least Hex b w s =
    (least-first b ((b + 1) ∷ (b + 1 + w) ∷ (b + w) ∷ (b + s) ∷ (b + 1 + s) ∷ (b + 1 + w + s) ∷ (b + w + s) ∷ []) (omega arith, (omega arith, (omega arith, (omega arith, (omega arith, (omega arith, (omega arith, tt))))))), tt)
