-- The pairs of a mesh's label, by points and by marks.
use Rattle.std.proofs.Common.{◌≡◌, ℕ, ℤ, ◌+◌, Bool, true, false, not, ◌&&◌, ◌||◌, ◌==◌, List, [], ◌∷◌, ◌++◌, map, refl, sym, ap, ap₂, ◌∙◌, subst, arith}
use Rattle.std.specs.Prelude.{filter, flat_map}
use Rattle.std.specs.List.{list_any, AllByRecursion, enumerate_from, position_or_len}
use Rattle.std.proofs.lemmas.Bool.{and_parts}
use Rattle.plain_lists.proofs.Each.{all_weaker}
use Rattle.plain_lists.proofs.Finding.{each_fails, any_agree, any_same, any_map, any_filter}
use Rattle.mesh_defs.specs.Tables.{dim_of}
use Rattle.mesh_defs.specs.Mesh.{Mesh, Mark}
use Rattle.mesh_defs.specs.Points.{Point, Sight, same_point, point_of, marked_point, shows}
use Rattle.mesh_defs.specs.Sights.{points_differ}
use Rattle.mesh_defs.specs.Diagram.{place_in}
use Rattle.mesh_laws.proofs.Firsts.{same_point-true, same_point-sym}
use Rattle.plex_defs.specs.Labels.{same_pair, marks_on, label_of, mesh_label}
use Rattle.rank_chart_laws.specs.label_laws.Marks.{IsAmong, marked_pair, marked_pairs}
use Rattle.rank_chart_laws.proofs.label_laws.SameSets.{same-labels}

-- ---- some element of two lists

any-none : {X : Type 0} (xs : List X) → list_any (λ x. false) xs ≡ false
any-none [] = refl
any-none (x ∷ xs) = any-none xs

any-or : {X : Type 0} (p q : X → Bool) (xs : List X) → list_any (λ x. p x || q x) xs ≡ (list_any p xs || list_any q xs)
any-or p q [] = refl
any-or p q (x ∷ xs) = ap (λ b. (p x || q x) || b) (any-or p q xs) ∙ mixed (p x) (q x) (list_any p xs) (list_any q xs)
  where
    mixed : (a b c d : Bool) → ((a || b) || (c || d)) ≡ ((a || c) || (b || d))
    mixed true b c d = refl
    mixed false true true d = refl
    mixed false true false d = refl
    mixed false false true d = refl
    mixed false false false d = refl

-- it does not matter which list is gone over first
any-swap : {X Y : Type 0} (p : X → Y → Bool) (xs : List X) (ys : List Y) → list_any (λ x. list_any (p x) ys) xs ≡ list_any (λ y. list_any (λ x. p x y) xs) ys
any-swap p [] ys = sym (any-none ys)
any-swap p (x ∷ xs) ys = ap (λ b. list_any (p x) ys || b) (any-swap p xs ys) ∙ sym (any-or (p x) (λ y. list_any (λ x. p x y) xs) ys)

any-flat_map : {X Y : Type 0} (p : Y → Bool) (f : X → List Y) (xs : List X) → list_any p (flat_map f xs) ≡ list_any (λ x. list_any p (f x)) xs
any-flat_map p f [] = refl
any-flat_map {Y = Y} p f (x ∷ xs) = any-append (f x) ∙ ap (λ b. list_any p (f x) || b) (any-flat_map p f xs)
  where
    any-append : (ys : List Y) → list_any p (ys ++ flat_map f xs) ≡ (list_any p ys || list_any p (flat_map f xs))
    any-append [] = refl
    any-append (y ∷ ys) = ap (λ b. p y || b) (any-append ys) ∙ grouped (p y) (list_any p ys) (list_any p (flat_map f xs))
      where
        grouped : (a b c : Bool) → (a || (b || c)) ≡ ((a || b) || c)
        grouped true b c = refl
        grouped false b c = refl

-- both hold, and one of them may be asked first
and-none : {X : Type 0} (a : Bool) (p : X → Bool) (xs : List X) → list_any (λ x. a && p x) xs ≡ (a && list_any p xs)
and-none true p xs = refl
and-none false p xs = any-none xs

-- ---- one point at its place

and-zero : (n : ℕ) → n ≡ n + 0
and-zero n = omega arith

-- a point that is shown at most once is shown at its place alone
at-place : (p : Point) (test : ℕ → Bool) (n : ℕ) (points : List Sight) → points_differ points ≡ true → list_any (λ (s : ℕ × Sight). shows p s.1 && test s.0) (enumerate_from n points) ≡ (list_any (shows p) points && test (n + position_or_len (shows p) points))
at-place p test n [] differ = refl
at-place p test n (x ∷ xs) differ = go (shows p x) refl (at-place p test (n + 1) xs both.1)
  where
    both : (not (list_any (shows (point_of x)) xs) ≡ true) × (points_differ xs ≡ true)
    both = and_parts (not (list_any (shows (point_of x)) xs)) (points_differ xs) differ

    is-false : (b : Bool) → not b ≡ true → b ≡ false
    is-false true h = absurd cc
    is-false false h = refl

    none-later : shows p x ≡ true → (m : ℕ) (ys : List Sight) → AllByRecursion (λ y. shows (point_of x) y ≡ false) ys → list_any (λ (s : ℕ × Sight). shows p s.1 && test s.0) (enumerate_from m ys) ≡ false
    none-later e m [] all = refl
    none-later e m (y ∷ ys) all =
        let other : shows p y ≡ false = subst (λ (r : Point). shows r y ≡ false) (sym (same_point-true p (point_of x) e)) all.0 in
        ap₂ (λ b c. (b && test m) || c) other (none-later e (m + 1) ys all.1)

    go : (b : Bool) → shows p x ≡ b → list_any (λ (s : ℕ × Sight). shows p s.1 && test s.0) (enumerate_from (n + 1) xs) ≡ (list_any (shows p) xs && test (n + 1 + position_or_len (shows p) xs))
        → list_any (λ (s : ℕ × Sight). shows p s.1 && test s.0) (enumerate_from n (x ∷ xs)) ≡ (list_any (shows p) (x ∷ xs) && test (n + position_or_len (shows p) (x ∷ xs)))
    go true e later =
        ap₂ (λ b c. (b && test n) || c) e (none-later e (n + 1) xs (each_fails (shows (point_of x)) xs (is-false (list_any (shows (point_of x)) xs) both.0)))
        ∙ last (test n) ∙ ap test (and-zero n) ∙ sym (ap₂ (λ b k. (b || list_any (shows p) xs) && test (n + k)) e (first-place e))
      where
        last : (b : Bool) → (b || false) ≡ b
        last true = refl
        last false = refl

        first-place : shows p x ≡ true → position_or_len (shows p) (x ∷ xs) ≡ 0
        first-place h = rw h refl
    go false e later =
        let shift : n + 1 + position_or_len (shows p) xs ≡ n + (1 + position_or_len (shows p) xs) = omega arith in
        rw e (later ∙ ap (λ k. list_any (shows p) xs && test k) shift)

-- ---- the pairs of a label

-- one mark on one point: the dimension may be asked of either
dim-of-either : (d : ℕ) (k : Mark) (s : Sight) (rest : Bool) → ((dim_of s.poly == d) && (same_point (point_of s) (marked_point k) && rest)) ≡ ((k.dim == d) && (shows (marked_point k) s && rest))
dim-of-either d k s rest = go (same_point (point_of s) (marked_point k)) refl ∙ ap (λ b. (k.dim == d) && (b && rest)) (same_point-sym (point_of s) (marked_point k))
  where
    neither : (a : Bool) → (a && false) ≡ false
    neither true = refl
    neither false = refl

    go : (b : Bool) → same_point (point_of s) (marked_point k) ≡ b → ((dim_of s.poly == d) && (b && rest)) ≡ ((k.dim == d) && (b && rest))
    go true e = ap (λ (p : Point). (p.dim == d) && rest) (same_point-true (point_of s) (marked_point k) e)
    go false e = neither (dim_of s.poly == d) ∙ sym (neither (k.dim == d))

module _ (m : Mesh) (d : ℕ) (points : List Sight) (differ : points_differ points ≡ true) (q : ℕ × ℤ) where
  -- the pair is of this point and this mark
  abbrev meets : ℕ × Sight → Mark → Bool
  meets s k = (k.dim == d) && (shows (marked_point k) s.1 && same_pair q (s.0, k.value))

  on-point : (s : ℕ × Sight) → ((dim_of s.1.poly == d) && list_any (same_pair q) (map (λ value. (s.0, value)) (marks_on m (point_of s.1)))) ≡ list_any (meets s) m.marks
  on-point s =
      ap (λ b. (dim_of s.1.poly == d) && b)
      (any_map (same_pair q) (λ value. (s.0, value)) (marks_on m (point_of s.1)) ∙ any_map (λ value. same_pair q (s.0, value)) (λ (k : Mark). k.value) (filter (λ k. same_point (point_of s.1) (marked_point k)) m.marks)
      ∙ any_filter (λ (k : Mark). same_pair q (s.0, k.value)) (λ k. same_point (point_of s.1) (marked_point k)) m.marks)
      ∙ sym (and-none (dim_of s.1.poly == d) (λ (k : Mark). same_point (point_of s.1) (marked_point k) && same_pair q (s.0, k.value)) m.marks)
      ∙ any_same _ _ (λ (k : Mark). dim-of-either d k s.1 (same_pair q (s.0, k.value))) m.marks

  from-zero : (n : ℕ) → 0 + n ≡ n
  from-zero n = omega arith

  on-mark : (k : Mark) → IsAmong points k → list_any (λ (s : ℕ × Sight). meets s k) (enumerate_from 0 points) ≡ ((k.dim == d) && same_pair q (marked_pair points k))
  on-mark k among =
      and-none (k.dim == d) (λ (s : ℕ × Sight). shows (marked_point k) s.1 && same_pair q (s.0, k.value)) (enumerate_from 0 points)
      ∙ ap (λ b. (k.dim == d) && b) (at-place (marked_point k) (λ n. same_pair q (n, k.value)) 0 points differ ∙ ap₂ (λ b n. b && same_pair q (n, k.value)) among (from-zero (place_in points (marked_point k))))

  -- a pair is one by the points just where it is one by the marks
  pub same-pairs : AllByRecursion (IsAmong points) m.marks → list_any (same_pair q) (flat_map (λ (s : ℕ × Sight). map (λ value. (s.0, value)) (marks_on m (point_of s.1))) (filter (λ (s : ℕ × Sight). dim_of s.1.poly == d) (enumerate_from 0 points)))
      ≡ list_any (same_pair q) (marked_pairs points d m.marks)
  same-pairs among =
      any-flat_map (same_pair q) (λ (s : ℕ × Sight). map (λ value. (s.0, value)) (marks_on m (point_of s.1))) (filter (λ (s : ℕ × Sight). dim_of s.1.poly == d) (enumerate_from 0 points))
      ∙ any_filter (λ (s : ℕ × Sight). list_any (same_pair q) (map (λ value. (s.0, value)) (marks_on m (point_of s.1)))) (λ (s : ℕ × Sight). dim_of s.1.poly == d) (enumerate_from 0 points)
      ∙ any_same _ _ on-point (enumerate_from 0 points)
      ∙ any-swap meets (enumerate_from 0 points) m.marks
      ∙ any_agree _ _ m.marks (all_weaker _ _ on-mark m.marks among)
      ∙ sym (any_map (same_pair q) (marked_pair points) (filter (λ (k : Mark). k.dim == d) m.marks) ∙ any_filter (λ (k : Mark). same_pair q (marked_pair points k)) (λ (k : Mark). k.dim == d) m.marks)

-- a label of marks
pub label-of-marks : (m : Mesh) (d : ℕ) (points : List Sight) → points_differ points ≡ true → AllByRecursion (IsAmong points) m.marks → mesh_label m d points ≡ label_of (marked_pairs points d m.marks)
unfolding mesh_label
label-of-marks m d points differ among = same-labels _ (marked_pairs points d m.marks) (λ q. same-pairs m d points differ q among)
