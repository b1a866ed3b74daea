-- The elements that are not merged: each is the first one at its place.
use Rattle.std.proofs.Common.{◌≡◌, Bool, true, false, cond, not, ◌&&◌, ◌==◌, List, [], ◌∷◌, Some, Ok, Err, inl, inr, refl, sym, ap₂, ◌∙◌, true≢false}
use Rattle.std.specs.Prelude.{find, filter, nat_lt, length}
use Rattle.std.specs.List.{list_any, AllByRecursion}
use Rattle.std.specs.Cmp.Lexicographic.{same_text}
use Rattle.std.proofs.lemmas.Bool.{or_parts, and_parts, eqb-true, cond-true, cond-false, eq-eqb}
use Rattle.plain_lists.specs.Lists.{sorted, same_list}
use Rattle.plain_lists.proofs.Each.{all_both, all_filter, all_weaker}
use Rattle.plain_lists.proofs.Finding.{none_passes, any_same}
use Rattle.plain_lists.proofs.Sorted.{same_list-self}
use Rattle.mesh_defs.specs.Mesh.{Mesh}
use Rattle.input_defs.specs.Content.{Element, Content}
use Rattle.input_defs.specs.declared.MeshFault.TheVariants.{NoCells, TooManyCells}
use Rattle.input_defs.specs.Causes.{unless}
use Rattle.input_defs.specs.Meshes.{dim, same_nodes, same_place, kept_after, kept, is_top, greatest_dim, cell_elements, mesh_of, twist, accepted}
use Rattle.input_laws.specs.Sublists.{IsSublist, differ_in_place}
use Rattle.input_laws.proofs.Causes.{unless-ok}

-- ---- the test of places is an equivalence

-- an element has its own place
pub same_place-refl : (e : Element) → same_place e e ≡ true
same_place-refl e = ap₂ (λ a b. a && b) (eq-eqb (dim e) (dim e) refl) (same_list-self (sorted e.nodes))

-- elements at one place are at the place of the same ones
pub same_place-same : (e f g : Element) → same_place e f ≡ true → same_place e g ≡ same_place f g
same_place-same e f g h =
    let both = and_parts (dim e == dim f) (same_nodes e f) h in
    ap₂ (λ d ns. (d == dim g) && same_list ns (sorted g.nodes)) (eqb-true (dim e) (dim f) both.0) (same_text (sorted e.nodes) (sorted f.nodes) (sym both.1))

-- and the other way round
pub same_place-sym : (e f : Element) → same_place e f ≡ true → same_place f e ≡ true
same_place-sym e f h = sym (same_place-same e f e h) ∙ same_place-refl e

-- ---- kept elements

-- none of them is at the place of an earlier one
pub kept-fresh : (earlier es : List Element) → AllByRecursion (λ e. list_any (same_place e) earlier ≡ false) (kept_after earlier es)
kept-fresh earlier [] = tt
kept-fresh earlier (e ∷ es) = go (list_any (same_place e) earlier) refl (kept-fresh earlier es) (kept-fresh (e ∷ earlier) es)
  where
    go : (b : Bool) → list_any (same_place e) earlier ≡ b → AllByRecursion (λ f. list_any (same_place f) earlier ≡ false) (kept_after earlier es) → AllByRecursion (λ f. list_any (same_place f) (e ∷ earlier) ≡ false) (kept_after (e ∷ earlier) es)
        → AllByRecursion (λ f. list_any (same_place f) earlier ≡ false) (cond b (kept_after earlier es) (e ∷ kept_after (e ∷ earlier) es))
    go true h r s = r
    go false h r s = (h, all_weaker (λ f. list_any (same_place f) (e ∷ earlier) ≡ false) (λ f. list_any (same_place f) earlier ≡ false) (λ f g. (or_parts (same_place f e) (list_any (same_place f) earlier) g).1) (kept_after (e ∷ earlier) es) s)

-- each of them is the first one at its place
pub kept-first : (earlier es : List Element) → AllByRecursion (λ e. find (same_place e) es ≡ Some e) (kept_after earlier es)
kept-first earlier [] = tt
kept-first earlier (x ∷ xs) = go (list_any (same_place x) earlier) refl (kept-first earlier xs) (kept-fresh earlier xs) (kept-first (x ∷ earlier) xs) (kept-fresh (x ∷ earlier) xs)
  where
    merged : list_any (same_place x) earlier ≡ true → (e : Element) → list_any (same_place e) earlier ≡ false → same_place e x ≡ false
    merged h e fresh = none (same_place e x) refl
      where
        none : (b : Bool) → same_place e x ≡ b → b ≡ false
        none false g = refl
        none true g = absurd (true≢false (sym h ∙ sym (any_same (same_place e) (same_place x) (λ f. same_place-same e x f g) earlier) ∙ fresh))

    past : (e : Element) → same_place e x ≡ false → find (same_place e) xs ≡ Some e → find (same_place e) (x ∷ xs) ≡ Some e
    past e other h = cond-false (same_place e x) (Some x) (find (same_place e) xs) other ∙ h

    go : (b : Bool) → list_any (same_place x) earlier ≡ b → AllByRecursion (λ e. find (same_place e) xs ≡ Some e) (kept_after earlier xs) → AllByRecursion (λ e. list_any (same_place e) earlier ≡ false) (kept_after earlier xs)
        → AllByRecursion (λ e. find (same_place e) xs ≡ Some e) (kept_after (x ∷ earlier) xs) → AllByRecursion (λ e. list_any (same_place e) (x ∷ earlier) ≡ false) (kept_after (x ∷ earlier) xs)
        → AllByRecursion (λ e. find (same_place e) (x ∷ xs) ≡ Some e) (cond b (kept_after earlier xs) (x ∷ kept_after (x ∷ earlier) xs))
    go true h r f s g = all_both (λ e. find (same_place e) xs ≡ Some e) (λ e. list_any (same_place e) earlier ≡ false) (λ e. find (same_place e) (x ∷ xs) ≡ Some e) (λ e a fresh. past e (merged h e fresh) a) (kept_after earlier xs) r f
    go false h r f s g = (
      cond-true (same_place x x) (Some x) (find (same_place x) xs) (same_place-refl x),
      all_both (λ e. find (same_place e) xs ≡ Some e) (λ e. list_any (same_place e) (x ∷ earlier) ≡ false) (λ e. find (same_place e) (x ∷ xs) ≡ Some e)
          (λ e a fresh. past e (or_parts (same_place e x) (list_any (same_place e) earlier) fresh).0 a) (kept_after (x ∷ earlier) xs) s g,
    )

-- ---- those that pass a test

-- in file order
pub kept-order : (p : Element → Bool) (earlier es : List Element) → IsSublist (filter p (kept_after earlier es)) es
kept-order p earlier [] = refl
kept-order p earlier (e ∷ es) = go (list_any (same_place e) earlier) (p e) (kept-order p earlier es) (kept-order p (e ∷ earlier) es)
  where
    go : (b c : Bool) → IsSublist (filter p (kept_after earlier es)) es → IsSublist (filter p (kept_after (e ∷ earlier) es)) es
        → IsSublist (filter p (cond b (kept_after earlier es) (e ∷ kept_after (e ∷ earlier) es))) (e ∷ es)
    go true c r s = inl r
    go false c r s = with_test (p e)
      where
        with_test : (d : Bool) → IsSublist (cond d (e ∷ filter p (kept_after (e ∷ earlier) es)) (filter p (kept_after (e ∷ earlier) es))) (e ∷ es)
        with_test true = inr (filter p (kept_after (e ∷ earlier) es), refl, s)
        with_test false = inl s

-- no two at one place
pub kept-differ : (p : Element → Bool) (earlier es : List Element) → differ_in_place (filter p (kept_after earlier es)) ≡ true
kept-differ p earlier [] = refl
kept-differ p earlier (e ∷ es) = go (list_any (same_place e) earlier) (kept-differ p earlier es) (kept-differ p (e ∷ earlier) es) (kept-fresh (e ∷ earlier) es)
  where
    other : (f : Element) → list_any (same_place f) (e ∷ earlier) ≡ false → same_place e f ≡ false
    other f fresh = none (same_place e f) refl
      where
        none : (b : Bool) → same_place e f ≡ b → b ≡ false
        none false g = refl
        none true g = absurd (true≢false (sym (same_place-sym e f g) ∙ (or_parts (same_place f e) (list_any (same_place f) earlier) fresh).0))

    go : (b : Bool) → differ_in_place (filter p (kept_after earlier es)) ≡ true → differ_in_place (filter p (kept_after (e ∷ earlier) es)) ≡ true
        → AllByRecursion (λ f. list_any (same_place f) (e ∷ earlier) ≡ false) (kept_after (e ∷ earlier) es)
        → differ_in_place (filter p (cond b (kept_after earlier es) (e ∷ kept_after (e ∷ earlier) es))) ≡ true
    go true r s fresh = r
    go false r s fresh = with_test (p e)
      where
        with_test : (d : Bool) → differ_in_place (cond d (e ∷ filter p (kept_after (e ∷ earlier) es)) (filter p (kept_after (e ∷ earlier) es))) ≡ true
        with_test true = ap₂ (λ a b. not a && b)
            (none_passes (same_place e) (filter p (kept_after (e ∷ earlier) es)) (all_filter (λ f. same_place e f ≡ false) p (kept_after (e ∷ earlier) es)
            (all_weaker (λ f. list_any (same_place f) (e ∷ earlier) ≡ false) (λ f. same_place e f ≡ false) other (kept_after (e ∷ earlier) es) fresh))) s
        with_test false = s

-- ---- cells

-- the mesh of a content that has one
pub accepted-mesh : (c : Content) (m : Mesh) → accepted c ≡ Ok m → mesh_of c ≡ m
unfolding accepted
accepted-mesh c m h = go (nat_lt (greatest_dim c) 2) (nat_lt 250000 (length (cell_elements c))) h
  where
    go : (a b : Bool) → cond a (Err (NoCells (greatest_dim c))) (cond b (Err TooManyCells) (unless (twist c) (mesh_of c))) ≡ Ok m → mesh_of c ≡ m
    go true b e = absurd (cc e)
    go false true e = absurd (cc e)
    go false false e = (unless-ok (twist c) (mesh_of c) m e).1

-- ---- cells among the elements of a file

pub cells-order : (c : Content) → IsSublist (cell_elements c) c.elements
unfolding cell_elements kept
cells-order c = kept-order (is_top c) [] c.elements

pub cells-first : (c : Content) → AllByRecursion (λ (e : Element). find (same_place e) c.elements ≡ Some e) (cell_elements c)
unfolding cell_elements kept
cells-first c = all_filter (λ (e : Element). find (same_place e) c.elements ≡ Some e) (is_top c) (kept_after [] c.elements) (kept-first [] c.elements)

pub cells-differ : (c : Content) → differ_in_place (cell_elements c) ≡ true
unfolding cell_elements kept
cells-differ c = kept-differ (is_top c) [] c.elements
