-- A root with one leaf has it.
use Rattle.std.proofs.Common.{◌≡◌, ℕ, ◌+◌, ◌<◌, false, List, [], ◌∷◌, sum_by, count_by, Option, Some, None, refl, ap, sym, ◌∙◌, ⊎_elim, arith}
use Rattle.std.specs.Prelude.{find, option_map}
use Rattle.std.specs.List.{list_any, enumerate_from}
use Rattle.std.proofs.lemmas.List.Sums.{sum_by-cons}
use Rattle.plain_lists.proofs.Filters.{count_nothing}
use Rattle.plain_lists.proofs.Finding.{each_fails, find-cases, find-none}
use Rattle.sf_defs.specs.declared.Leaf.{Leaf}
use Rattle.sf_defs.specs.Forest.{Forest, degree, first_some, is_on_root, leaf_of, or_else}

-- the first leaf of a numbered rank on a root
abbrev first-of : ℕ × ℕ → ℕ × List Leaf → Option (ℕ × ℕ)
first-of root r = option_map (λ (l : Leaf). (r.0, l.local)) (find (is_on_root root) r.1)

some-leaf : (root : ℕ × ℕ) (n : ℕ) (lss : List (List Leaf)) → 0 < sum_by (count_by (is_on_root root)) lss → (x : ℕ × ℕ) × (first_some (first-of root) (enumerate_from n lss) ≡ Some x)
some-leaf root n [] h = absurd (omega arith)
some-leaf root n (ls ∷ lss) h = ⊎_elim
    (λ (w : (l : Leaf) × (find (is_on_root root) ls ≡ Some l)). ((n, w.0.local), ap (λ o. or_else (option_map (λ (l : Leaf). (n, l.local)) o) (first_some (first-of root) (enumerate_from (n + 1) lss))) w.1))
    (λ none. let count = count_nothing (is_on_root root) ls (each_fails (is_on_root root) ls none) in let sum = sum_by-cons (count_by (is_on_root root)) ls lss in
    let (x, there) = some-leaf root (n + 1) lss (omega arith) in (x, go (find (is_on_root root) ls) refl none x there))
    (find-cases (is_on_root root) ls)
  where
    go : (o : Option Leaf) → find (is_on_root root) ls ≡ o → list_any (is_on_root root) ls ≡ false → (x : ℕ × ℕ) → first_some (first-of root) (enumerate_from (n + 1) lss) ≡ Some x → or_else (option_map (λ (l : Leaf). (n, l.local)) o) (first_some (first-of root) (enumerate_from (n + 1) lss)) ≡ Some x
    go None g none x there = there
    go (Some l) g none x there = absurd (cc (sym g ∙ find-none (is_on_root root) ls none))

pub leaf-on-lone : (f : Forest) (rank index : ℕ) → degree f rank index ≡ 1 → (x : ℕ × ℕ) × (leaf_of f rank index ≡ Some x)
unfolding degree leaf_of
leaf-on-lone f rank index one = some-leaf (rank, index) 0 f.leaves (omega arith)
