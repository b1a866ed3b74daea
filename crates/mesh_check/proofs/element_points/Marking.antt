-- Nodes without a mark keep lower elements away.
use Rattle.std.proofs.Common.{◌≡◌, ℕ, ◌+◌, ◌<◌, Bool, true, false, not, ◌&&◌, ◌==◌, List, ◌++◌, length, get_or, take, drop, refl, sym, ap, ap₂, ◌∙◌, subst}
use Rattle.std.specs.Prelude.{Some}
use Rattle.std.specs.List.{AllByRecursion, list_any, slice_get}
use Rattle.std.specs.Cmp.Lexicographic.{same_text}
use Rattle.std.proofs.Math.Seq.{take-append_seam}
use Rattle.std.proofs.lemmas.Bool.{eqb-true, eq-eqb, ne_eqb, not-true, and_parts}
use Rattle.plain_lists.specs.Lists.{sorted, same_set}
use Rattle.plain_lists.proofs.Each.{all_weaker}
use Rattle.plain_lists.proofs.Finding.{among, stands, each_fails, none_passes}
use Rattle.plain_lists.proofs.Sorted.{all_sorted}
use Rattle.input_defs.specs.Content.{Element, Content}
use Rattle.input_defs.specs.Sections.{has_number}
use Rattle.input_defs.specs.Meshes.{dim, is_top, greatest_dim}
use Rattle.input_laws.specs.place_laws.Places.{stands_on}
use Rattle.mesh_check.specs.element_points.Marks.{lower_has, AreMarks}
use Rattle.mesh_check.proofs.element_points.Images.{all_unsorted}
use Rattle.mesh_check.proofs.element_points.Reading.{any-skips}

-- equal sets have the same numbers
has-same : (xs ys : List ℕ) (n : ℕ) → same_set xs ys ≡ true → has_number xs n ≡ true → has_number ys n ≡ true
has-same xs ys n same h = go (has_number ys n) refl
  where
    go : (b : Bool) → has_number ys n ≡ b → b ≡ true
    go true e = refl
    go false e =
        let none : AllByRecursion (λ m. (m == n) ≡ false) ys = each_fails (λ m. m == n) ys e in
        let there = all_unsorted (λ m. (m == n) ≡ false) xs (subst (AllByRecursion (λ m. (m == n) ≡ false)) (sym (same_text (sorted xs) (sorted ys) (sym same))) (all_sorted (λ m. (m == n) ≡ false) ys none)) in
        absurd (cc (sym h ∙ none_passes (λ m. m == n) xs there))

-- on nodes of which one has no mark stands no element below the mesh's dimension
pub unmarked-nowhere : (c : Content) (flags : List Bool) → AreMarks c flags → (d : ℕ) (nodes : List ℕ) → (d ≡ greatest_dim c → ⊥) → list_any (λ n. not (get_or flags n true)) nodes ≡ true → list_any (stands_on d nodes) c.elements ≡ false
unmarked-nowhere c flags marks d nodes lower h =
    let found = among (λ n. (p : ℕ → Bool) → p n ≡ true → list_any p nodes ≡ true) (λ n. not (get_or flags n true)) nodes (stands nodes) h in
    let n : ℕ = found.0 in
    let down : get_or flags n true ≡ false = not-true (get_or flags n true) found.2 in
    let there : has_number nodes n ≡ true = found.1 (λ m. m == n) (eq-eqb n n refl) in
    none_passes (stands_on d nodes) c.elements (all_weaker (λ (e : Element). (not (is_top c e) && has_number e.nodes n) ≡ false) (λ e. stands_on d nodes e ≡ false) (away n there) c.elements (each_fails (λ (e : Element). not (is_top c e) && has_number e.nodes n) c.elements (marks.down n down)))
  where
    away : (n : ℕ) → has_number nodes n ≡ true → (e : Element) → (not (is_top c e) && has_number e.nodes n) ≡ false → stands_on d nodes e ≡ false
    away n there e none = go (stands_on d nodes e) refl
      where
        go : (b : Bool) → stands_on d nodes e ≡ b → b ≡ false
        go false k = refl
        go true k =
            let both = and_parts (d == dim e) (same_set nodes e.nodes) k in
            let is_lower : is_top c e ≡ false = ne_eqb (dim e) (greatest_dim c) (λ same. lower (eqb-true d (dim e) both.0 ∙ same)) in
            absurd (cc (sym (ap₂ (λ a b. not a && b) is_lower (has-same nodes e.nodes n both.1 there)) ∙ none))

-- one more element, marked or of the mesh's dimension
pub marks-next : (c : Content) (i : ℕ) (e : Element) (n : ℕ) → i < length c.elements → slice_get c.elements i ≡ Some e → (not (is_top c e) && has_number e.nodes n) ≡ false → lower_has c (take i c.elements) n ≡ false → lower_has c (take (i + 1) c.elements) n ≡ false
marks-next c i e n low at none before = any-skips (λ (f : Element). not (is_top c f) && has_number f.nodes n) c.elements i e low at none before

-- a slice that is written back into its vector
pub written_back : {X : Type 0} (n : ℕ) (ws items : List X) → length ws ≡ n → take n (ws ++ drop (length ws) items) ≡ ws
written_back n ws items same = ap (λ k. take k (ws ++ drop (length ws) items)) (sym same) ∙ take-append_seam ws (drop (length ws) items)
