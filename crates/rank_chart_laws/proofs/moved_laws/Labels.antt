-- The labels of points that moved.
use Rattle.std.proofs.Common.{◌≡◌, ℕ, ℤ, ◌+◌, Bool, true, false, cond, ◌&&◌, ◌||◌, ◌==◌, List, [], ◌∷◌, ◌++◌, map, length, get_or, Ordering, Less, Equal, Greater, refl, sym, ap, ap₂, ◌∙◌, subst, arith}
use Rattle.std.specs.Prelude.{filter, flat_map, fold}
use Rattle.std.specs.List.{list_any, AllByRecursion, enumerate_from}
use Rattle.std.specs.Ordering.{is_eq, nat_cmp, int_cmp}
use Rattle.std.proofs.lemmas.Map.Lookups.{exact_pairs, exact_unsigned, exact_signed}
use Rattle.std.proofs.lemmas.List.Folds.{list_any-append}
use Rattle.plain_lists.proofs.Each.{all_weaker}
use Rattle.plain_lists.proofs.Finding.{same_tests, any_agree, any_same, any_map, any_filter, any_weaker, any_enumerated, among}
use Rattle.mesh_defs.specs.Tables.{dim_of}
use Rattle.mesh_defs.specs.Mesh.{Mesh}
use Rattle.mesh_defs.specs.Points.{Point, Sight, point_of, shows}
use Rattle.mesh_defs.specs.Diagram.{place_in}
use Rattle.mesh_laws.proofs.Firsts.{shows-own, shows-true, shown_itself}
use Rattle.plex_defs.specs.Labels.{same_pair, comes_before, with_pair, label_of, marks_on, mesh_label}
use Rattle.plex_label.specs.Pairs.{pair_cmp}
use Rattle.plex_label.proofs.Pairs.{one-pair}
use Rattle.rank_chart_laws.proofs.label_laws.SameSets.{same-labels}
use Rattle.rank_chart_laws.proofs.field_laws.Places.{place-is}
use Rattle.rank_chart_laws.specs.moved_laws.Moves.{moved_place, moved_label}
use Rattle.rank_chart_laws.specs.moved_laws.Sames.{AreSamePoints, moves_between}
use Rattle.rank_chart_laws.proofs.moved_laws.Places.{no_sight, all_numbered, move-at}

-- ---- the pairs of a label

-- pairs that pass the test are one
same-pair : (a b : ℕ × ℤ) → same_pair a b ≡ true → a ≡ b
same-pair a b h = exact_pairs nat_cmp int_cmp exact_unsigned exact_signed a b (equal (pair_cmp a b) (one-pair a b ∙ h))
  where
    equal : (r : Ordering) → is_eq r ≡ true → r ≡ Equal
    equal Less e = absurd (cc)
    equal Equal e = refl
    equal Greater e = absurd (cc)

swapped : (a b c : Bool) → (b || (a || c)) ≡ (a || (b || c))
swapped true true c = refl
swapped true false c = refl
swapped false b c = refl

-- a label has what it had and the pair that it is given
any-with_pair : (t : ℕ × ℤ → Bool) (label : List (ℕ × ℤ)) (pair : ℕ × ℤ) → list_any t (with_pair label pair) ≡ (t pair || list_any t label)
any-with_pair t [] pair = refl
any-with_pair t (a ∷ label) pair = go (comes_before pair a) (same_pair pair a) refl (any-with_pair t label pair)
  where
    twice : (b c : Bool) → (b || c) ≡ (b || (b || c))
    twice true c = refl
    twice false c = refl

    go : (b c : Bool) → same_pair pair a ≡ c → list_any t (with_pair label pair) ≡ (t pair || list_any t label) → list_any t (cond b (pair ∷ a ∷ label) (cond c (a ∷ label) (a ∷ with_pair label pair))) ≡ (t pair || list_any t (a ∷ label))
    go true c e r = refl
    go false true e r = twice (t a) (list_any t label) ∙ ap (λ q. t q || (t a || list_any t label)) (sym (same-pair pair a e))
    go false false e r = ap (λ b. t a || b) r ∙ swapped (t pair) (t a) (list_any t label)

any-pairs : (t : ℕ × ℤ → Bool) (label pairs : List (ℕ × ℤ)) → list_any t (fold with_pair label pairs) ≡ (list_any t label || list_any t pairs)
any-pairs t label [] = none (list_any t label)
  where
    none : (b : Bool) → b ≡ (b || false)
    none true = refl
    none false = refl
any-pairs t label (p ∷ pairs) = any-pairs t (with_pair label p) pairs ∙ ap (λ b. b || list_any t pairs) (any-with_pair t label p) ∙ turned (t p) (list_any t label) (list_any t pairs)
  where
    turned : (a b c : Bool) → ((a || b) || c) ≡ (b || (a || c))
    turned true true c = refl
    turned true false c = refl
    turned false b c = refl

-- a label has the pairs that it is made of
pub any-label : (t : ℕ × ℤ → Bool) (pairs : List (ℕ × ℤ)) → list_any t (label_of pairs) ≡ list_any t pairs
any-label t pairs = any-pairs t [] pairs

pub any-joined : {X Y : Type 0} (p : Y → Bool) (f : X → List Y) (xs : List X) → list_any p (flat_map f xs) ≡ list_any (λ x. list_any p (f x)) xs
any-joined p f [] = refl
any-joined p f (x ∷ xs) = list_any-append p (f x) (flat_map f xs) ∙ ap (λ b. list_any p (f x) || b) (any-joined p f xs)

any-none : {X : Type 0} (xs : List X) → list_any (λ x. false) xs ≡ false
any-none [] = refl
any-none (x ∷ xs) = any-none xs

any-or : {X : Type 0} (p q : X → Bool) (xs : List X) → list_any (λ x. p x || q x) xs ≡ (list_any p xs || list_any q xs)
any-or p q [] = refl
any-or p q (x ∷ xs) = ap (λ b. (p x || q x) || b) (any-or p q xs) ∙ mixed (p x) (q x) (list_any p xs) (list_any q xs)
  where
    mixed : (a b c d : Bool) → ((a || b) || (c || d)) ≡ ((a || c) || (b || d))
    mixed true b c d = refl
    mixed false true true d = refl
    mixed false true false d = refl
    mixed false false c d = refl

-- it does not matter which of two lists is gone over first
pub any-swap : {X Y : Type 0} (p : X → Y → Bool) (xs : List X) (ys : List Y) → list_any (λ x. list_any (p x) ys) xs ≡ list_any (λ y. list_any (λ x. p x y) xs) ys
any-swap p [] ys = sym (any-none ys)
any-swap p (x ∷ xs) ys = ap (λ b. list_any (p x) ys || b) (any-swap p xs ys) ∙ sym (any-or (p x) (λ y. list_any (λ x. p x y) xs) ys)

-- ---- two charts

module _ (old new : List Sight) (are : AreSamePoints old new) where
  -- some point of both
  any-point : (t : Point → Bool) → list_any (λ s. t (point_of s)) new ≡ list_any (λ s. t (point_of s)) old
  any-point t = same_tests (list_any (λ s. t (point_of s)) new) (list_any (λ s. t (point_of s)) old) (there new old are.same) (there old new (λ p. sym (are.same p)))
    where
      there : (xs ys : List Sight) → ((p : Point) → list_any (shows p) ys ≡ list_any (shows p) xs) → list_any (λ s. t (point_of s)) xs ≡ true → list_any (λ s. t (point_of s)) ys ≡ true
      there xs ys same h =
          let (s, shown, e) = among (λ s. list_any (shows (point_of s)) xs ≡ true) (λ s. t (point_of s)) xs (shown_itself xs) h in
          any_weaker (shows (point_of s)) (λ u. t (point_of u)) (λ u k. ap t (sym (shows-true (point_of s) u k)) ∙ e) ys (same (point_of s) ∙ shown)

  -- some point at its place
  any-placed : (u : ℕ → Point → Bool) → list_any (λ (s : ℕ × Sight). u s.0 (point_of s.1)) (enumerate_from 0 new) ≡ list_any (λ (s : ℕ × Sight). u (moved_place (moves_between old new) s.0) (point_of s.1)) (enumerate_from 0 old)
  any-placed u =
      any_agree (λ (s : ℕ × Sight). u s.0 (point_of s.1)) (λ (s : ℕ × Sight). u (place_in new (point_of s.1)) (point_of s.1)) (enumerate_from 0 new)
      (all_weaker (λ (s : ℕ × Sight). place_in new (point_of s.1) ≡ s.0) (λ (s : ℕ × Sight). u s.0 (point_of s.1) ≡ u (place_in new (point_of s.1)) (point_of s.1)) (λ s e. ap (λ k. u k (point_of s.1)) (sym e)) (enumerate_from 0 new)
      (all_numbered (λ k s. place_in new (point_of s) ≡ k) 0 new no_sight (λ i low. place-is (point_of (get_or new i no_sight)) new no_sight are.new_once i low (shows-own (get_or new i no_sight)) ∙ from-zero i)))
      ∙ any_enumerated (λ s. u (place_in new (point_of s)) (point_of s)) 0 new
      ∙ any-point (λ p. u (place_in new p) p)
      ∙ sym (any_enumerated (λ s. u (place_in new (point_of s)) (point_of s)) 0 old)
      ∙ any_agree (λ (s : ℕ × Sight). u (place_in new (point_of s.1)) (point_of s.1)) (λ (s : ℕ × Sight). u (moved_place (moves_between old new) s.0) (point_of s.1)) (enumerate_from 0 old)
      (all_weaker (λ (s : ℕ × Sight). moved_place (moves_between old new) s.0 ≡ place_in new (point_of s.1)) (λ (s : ℕ × Sight). u (place_in new (point_of s.1)) (point_of s.1) ≡ u (moved_place (moves_between old new) s.0) (point_of s.1)) (λ s e. ap (λ k. u k (point_of s.1)) (sym e)) (enumerate_from 0 old)
      (all_numbered (λ k s. moved_place (moves_between old new) k ≡ place_in new (point_of s)) 0 old no_sight (λ i low. ap (moved_place (moves_between old new)) (sym (from-zero i)) ∙ move-at old new are i low)))
    where
      from-zero : (i : ℕ) → i ≡ 0 + i
      from-zero i = omega arith

  module _ (m : Mesh) (dim : ℕ) where
    -- the pairs of a point at a place
    abbrev pairs-at : ℕ × Sight → List (ℕ × ℤ)
    pairs-at s = map (λ value. (s.0, value)) (marks_on m (point_of s.1))

    abbrev pairs-of : List Sight → List (ℕ × ℤ)
    pairs-of points = flat_map pairs-at (filter (λ (s : ℕ × Sight). dim_of s.1.poly == dim) (enumerate_from 0 points))

    -- some pair, by points
    any-pair : (t : ℕ × ℤ → Bool) (points : List Sight) → list_any t (pairs-of points) ≡ list_any (λ (s : ℕ × Sight). (dim_of s.1.poly == dim) && list_any (λ value. t (s.0, value)) (marks_on m (point_of s.1))) (enumerate_from 0 points)
    any-pair t points =
        any-joined t pairs-at (filter (λ (s : ℕ × Sight). dim_of s.1.poly == dim) (enumerate_from 0 points))
        ∙ any_filter (λ s. list_any t (pairs-at s)) (λ (s : ℕ × Sight). dim_of s.1.poly == dim) (enumerate_from 0 points)
        ∙ any_same (λ (s : ℕ × Sight). (dim_of s.1.poly == dim) && list_any t (pairs-at s)) (λ (s : ℕ × Sight). (dim_of s.1.poly == dim) && list_any (λ value. t (s.0, value)) (marks_on m (point_of s.1)))
        (λ s. ap (λ b. (dim_of s.1.poly == dim) && b) (any_map t (λ value. (s.0, value)) (marks_on m (point_of s.1)))) (enumerate_from 0 points)

    -- the label of one dimension
    pub moved-label : mesh_label m dim new ≡ moved_label (moves_between old new) (mesh_label m dim old)
    unfolding mesh_label moved_label
    moved-label = same-labels (pairs-of new) (map mv (label_of (pairs-of old))) (λ q.
        any-pair (same_pair q) new
        ∙ any-placed (λ k p. (p.dim == dim) && list_any (λ value. same_pair q (k, value)) (marks_on m p))
        ∙ sym (any-pair (λ a. same_pair q (mv a)) old)
        ∙ sym (any-label (λ a. same_pair q (mv a)) (pairs-of old))
        ∙ sym (any_map (same_pair q) mv (label_of (pairs-of old))))
      where
        mv : ℕ × ℤ → ℕ × ℤ
        mv pair = (moved_place (moves_between old new) pair.0, pair.1)
