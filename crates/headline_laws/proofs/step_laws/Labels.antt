-- The values that the label of a mesh has at a point are those of the point's marks.
use Rattle.std.proofs.Common.{◌≡◌, ℕ, zero, suc, ◌+◌, ◌<◌, ◌≤◌, Bool, true, false, cond, ◌&&◌, ◌||◌, ◌==◌, nat_lt, List, [], ◌∷◌, ◌++◌, map, length, get_or, fold, ℤ, refl, sym, ap, ◌∙◌, ⊎_elim, inl, inr, ◌⊎◌, arith, append-nil}
use Rattle.std.specs.Prelude.{filter, flat_map, int_lt, if◌then◌else◌}
use Rattle.std.specs.List.{AllByRecursion, enumerate_from}
use Rattle.std.specs.Ordering.{int_eq}
use Rattle.std.proofs.lemmas.Bool.{cases_eq, cases_order, cases_lt, eq-eqb, eqb-true, ne_eqb, lt-ltb, le-ltb, ltb-true, cond-true, cond-false, or_parts}
use Rattle.plain_lists.proofs.Each.{all_weaker}
use Rattle.mesh_defs.specs.Tables.{dim_of}
use Rattle.mesh_defs.specs.Mesh.{Mesh}
use Rattle.mesh_defs.specs.Points.{Sight, point_of}
use Rattle.plex_defs.specs.Labels.{with_pair, comes_before, same_pair, label_of, values_at, marks_on, mesh_label}
use Rattle.input_defs.specs.Further.{labels_at}

-- ---- the values of one point among pairs

values-first : (p : ℕ) (a : ℕ × ℤ) (pairs : List (ℕ × ℤ)) → values_at (a ∷ pairs) p ≡ cond (a.0 == p) (a.1 ∷ values_at pairs p) (values_at pairs p)
values-first p a pairs = go (a.0 == p)
  where
    go : (b : Bool) → map (λ (x : ℕ × ℤ). x.1) (cond b (a ∷ filter (λ (x : ℕ × ℤ). x.0 == p) pairs) (filter (λ (x : ℕ × ℤ). x.0 == p) pairs)) ≡ cond b (a.1 ∷ values_at pairs p) (values_at pairs p)
    go true = refl
    go false = refl

values-own : (p : ℕ) (a : ℕ × ℤ) (pairs : List (ℕ × ℤ)) → a.0 ≡ p → values_at (a ∷ pairs) p ≡ a.1 ∷ values_at pairs p
values-own p a pairs e = values-first p a pairs ∙ cond-true (a.0 == p) _ _ (eq-eqb a.0 p e)

values-other : (p : ℕ) (a : ℕ × ℤ) (pairs : List (ℕ × ℤ)) → (a.0 ≡ p → ⊥) → values_at (a ∷ pairs) p ≡ values_at pairs p
values-other p a pairs ne = values-first p a pairs ∙ cond-false (a.0 == p) _ _ (ne_eqb a.0 p ne)

values-append : (p : ℕ) (xs ys : List (ℕ × ℤ)) → values_at (xs ++ ys) p ≡ values_at xs p ++ values_at ys p
values-append p [] ys = refl
values-append p (a ∷ xs) ys = values-first p a (xs ++ ys) ∙ go (a.0 == p) (values-append p xs ys) ∙ ap (λ l. l ++ values_at ys p) (sym (values-first p a xs))
  where
    go : (b : Bool) → values_at (xs ++ ys) p ≡ values_at xs p ++ values_at ys p → cond b (a.1 ∷ values_at (xs ++ ys) p) (values_at (xs ++ ys) p) ≡ cond b (a.1 ∷ values_at xs p) (values_at xs p) ++ values_at ys p
    go true r = ap (λ l. a.1 ∷ l) r
    go false r = r

-- pairs of a point alone
values-of_own : (p : ℕ) (vs : List ℤ) → values_at (map (λ v. (p, v)) vs) p ≡ vs
values-of_own p [] = refl
values-of_own p (v ∷ vs) = values-own p (p, v) (map (λ w. (p, w)) vs) refl ∙ ap (λ l. v ∷ l) (values-of_own p vs)

-- pairs of another point
values-of_other : (p q : ℕ) (vs : List ℤ) → (q ≡ p → ⊥) → values_at (map (λ v. (q, v)) vs) p ≡ []
values-of_other p q [] ne = refl
values-of_other p q (v ∷ vs) ne = values-other p (q, v) (map (λ w. (q, w)) vs) ne ∙ values-of_other p q vs ne

-- ---- one pair more

-- a value at its place in a list of values, as a pair in a label
with_value : List ℤ → ℤ → List ℤ
with_value [] v = v ∷ []
with_value (w ∷ ws) v = if int_lt v w then v ∷ w ∷ ws else if int_eq v w then w ∷ ws else w ∷ with_value ws v

-- the points of a label do not fall
abbrev Rises : List (ℕ × ℤ) → Type 0
Rises [] = Unit {0}
Rises (a ∷ label) = AllByRecursion (λ (b : ℕ × ℤ). a.0 ≤ b.0) label × Rises label

all-with : (P : ℕ × ℤ → Type 0) (label : List (ℕ × ℤ)) (pair : ℕ × ℤ) → P pair → AllByRecursion P label → AllByRecursion P (with_pair label pair)
all-with P [] pair p h = (p, tt)
all-with P (a ∷ label) pair p h = go (comes_before pair a) (same_pair pair a) (all-with P label pair p h.1)
  where
    go : (b c : Bool) → AllByRecursion P (with_pair label pair) → AllByRecursion P (cond b (pair ∷ a ∷ label) (cond c (a ∷ label) (a ∷ with_pair label pair)))
    go true c r = (p, h)
    go false true r = h
    go false false r = (h.0, r)

before-low : (lower same below : Bool) → (lower || (same && below)) ≡ true → (lower ≡ true) ⊎ (same ≡ true)
before-low true same below h = inl refl
before-low false true below h = inr refl
before-low false false below h = absurd (cc h)

rises-with : (label : List (ℕ × ℤ)) (pair : ℕ × ℤ) → Rises label → Rises (with_pair label pair)
rises-with [] pair h = (tt, tt)
rises-with (a ∷ label) pair h = go (comes_before pair a) refl (same_pair pair a) (rises-with label pair h.1)
  where
    low : comes_before pair a ≡ true → pair.0 ≤ a.0
    low e = ⊎_elim (λ (l : nat_lt pair.0 a.0 ≡ true). let lt : pair.0 < a.0 = ltb-true pair.0 a.0 l in omega arith) (λ (s : (pair.0 == a.0) ≡ true). let same : pair.0 ≡ a.0 = eqb-true pair.0 a.0 s in omega arith)
        (before-low (nat_lt pair.0 a.0) (pair.0 == a.0) (int_lt pair.1 a.1) e)

    high : comes_before pair a ≡ false → a.0 ≤ pair.0
    high e = ⊎_elim (λ (lt : pair.0 < a.0). absurd (cc (lt-ltb pair.0 a.0 lt, (or_parts (nat_lt pair.0 a.0) ((pair.0 == a.0) && int_lt pair.1 a.1) e).0))) (λ (ge : a.0 ≤ pair.0). ge) (cases_lt pair.0 a.0)

    go : (b : Bool) → comes_before pair a ≡ b → (c : Bool) → Rises (with_pair label pair) → Rises (cond b (pair ∷ a ∷ label) (cond c (a ∷ label) (a ∷ with_pair label pair)))
    go true e c r = ((low e, all_weaker (λ (b : ℕ × ℤ). a.0 ≤ b.0) (λ (b : ℕ × ℤ). pair.0 ≤ b.0) (λ b le. let first : pair.0 ≤ a.0 = low e in omega arith) label h.0), h)
    go false e true r = h
    go false e false r = (all-with (λ (b : ℕ × ℤ). a.0 ≤ b.0) label pair (high e) h.0, r)

-- where all points are greater, none is this one
values-above : (p : ℕ) (label : List (ℕ × ℤ)) → AllByRecursion (λ (b : ℕ × ℤ). p < b.0) label → values_at label p ≡ []
values-above p [] h = refl
values-above p (a ∷ label) h = values-other p a label (λ e. absurd (omega (arith, e, h.0))) ∙ values-above p label h.1

-- a value more at this point
value-own : (p : ℕ) (v : ℤ) (label : List (ℕ × ℤ)) → Rises label → values_at (with_pair label (p, v)) p ≡ with_value (values_at label p) v
unfolding with_value
value-own p v [] h = values-own p (p, v) [] refl
value-own p v ((k, w) ∷ label) h = ⊎_elim (λ e. here e (value-own p v label h.1)) (λ (o : (p < k) ⊎ (k < p)). ⊎_elim before (λ lt. after lt (value-own p v label h.1)) o) (cases_order p k)
  where
    here : p ≡ k → values_at (with_pair label (p, v)) p ≡ with_value (values_at label p) v → values_at (with_pair ((k, w) ∷ label) (p, v)) p ≡ with_value (values_at ((k, w) ∷ label) p) v
    here e rest =
        (λ i. values_at (cond (le-ltb p k (let le : k ≤ p = omega arith in le) i || (eq-eqb p k e i && int_lt v w)) ((p, v) ∷ (k, w) ∷ label) (cond (eq-eqb p k e i && int_eq v w) ((k, w) ∷ label) ((k, w) ∷ with_pair label (p, v)))) p)
        ∙ go (int_lt v w) (int_eq v w) ∙ ap (λ l. with_value l v) (sym (values-own p (k, w) label (sym e)))
      where
        go : (b c : Bool) → values_at (cond b ((p, v) ∷ (k, w) ∷ label) (cond c ((k, w) ∷ label) ((k, w) ∷ with_pair label (p, v)))) p ≡ cond b (v ∷ w ∷ values_at label p) (cond c (w ∷ values_at label p) (w ∷ with_value (values_at label p) v))
        go true c = values-own p (p, v) ((k, w) ∷ label) refl ∙ ap (λ l. v ∷ l) (values-own p (k, w) label (sym e))
        go false true = values-own p (k, w) label (sym e)
        go false false = values-own p (k, w) (with_pair label (p, v)) (sym e) ∙ ap (λ l. w ∷ l) rest

    before : p < k → values_at (with_pair ((k, w) ∷ label) (p, v)) p ≡ with_value (values_at ((k, w) ∷ label) p) v
    before lt =
        let none : values_at ((k, w) ∷ label) p ≡ [] = values-above p ((k, w) ∷ label) (lt, all_weaker (λ (b : ℕ × ℤ). k ≤ b.0) (λ (b : ℕ × ℤ). p < b.0) (λ b le. omega arith) label h.0) in
        (λ i. values_at (cond (lt-ltb p k lt i || ((p == k) && int_lt v w)) ((p, v) ∷ (k, w) ∷ label) (cond ((p == k) && int_eq v w) ((k, w) ∷ label) ((k, w) ∷ with_pair label (p, v)))) p)
        ∙ values-own p (p, v) ((k, w) ∷ label) refl ∙ ap (λ l. v ∷ l) none ∙ ap (λ l. with_value l v) (sym none)

    after : k < p → values_at (with_pair label (p, v)) p ≡ with_value (values_at label p) v → values_at (with_pair ((k, w) ∷ label) (p, v)) p ≡ with_value (values_at ((k, w) ∷ label) p) v
    after lt rest =
        let apart : k ≡ p → ⊥ = λ e. absurd (omega arith) in
        (λ i. values_at (cond (le-ltb p k (let le : k ≤ p = omega arith in le) i || (ne_eqb p k (λ e. apart (sym e)) i && int_lt v w)) ((p, v) ∷ (k, w) ∷ label) (cond (ne_eqb p k (λ e. apart (sym e)) i && int_eq v w) ((k, w) ∷ label) ((k, w) ∷ with_pair label (p, v)))) p)
        ∙ values-other p (k, w) (with_pair label (p, v)) apart ∙ rest ∙ ap (λ l. with_value l v) (sym (values-other p (k, w) label apart))

-- a value more at another point
value-other : (p q : ℕ) (v : ℤ) (label : List (ℕ × ℤ)) → (q ≡ p → ⊥) → values_at (with_pair label (q, v)) p ≡ values_at label p
value-other p q v [] ne = values-other p (q, v) [] ne
value-other p q v (a ∷ label) ne = go (comes_before (q, v) a) (same_pair (q, v) a) (value-other p q v label ne)
  where
    go : (b c : Bool) → values_at (with_pair label (q, v)) p ≡ values_at label p → values_at (cond b ((q, v) ∷ a ∷ label) (cond c (a ∷ label) (a ∷ with_pair label (q, v)))) p ≡ values_at (a ∷ label) p
    go true c r = values-other p (q, v) (a ∷ label) ne
    go false true r = refl
    go false false r = values-first p a (with_pair label (q, v)) ∙ ap (λ l. cond (a.0 == p) (a.1 ∷ l) l) r ∙ sym (values-first p a label)

-- all pairs, one after another
values-fold : (p : ℕ) (label pairs : List (ℕ × ℤ)) → Rises label → values_at (fold with_pair label pairs) p ≡ fold with_value (values_at label p) (values_at pairs p)
values-fold p label [] h = refl
values-fold p label ((q, v) ∷ pairs) h = values-fold p (with_pair label (q, v)) pairs (rises-with label (q, v) h) ∙ ⊎_elim own other (cases_eq q p)
  where
    own : q ≡ p → fold with_value (values_at (with_pair label (q, v)) p) (values_at pairs p) ≡ fold with_value (values_at label p) (values_at ((q, v) ∷ pairs) p)
    own e = ap (λ l. fold with_value l (values_at pairs p)) (ap (λ r. values_at (with_pair label (r, v)) p) e ∙ value-own p v label h) ∙ ap (fold with_value (values_at label p)) (sym (values-own p (q, v) pairs e))

    other : (q ≡ p → ⊥) → fold with_value (values_at (with_pair label (q, v)) p) (values_at pairs p) ≡ fold with_value (values_at label p) (values_at ((q, v) ∷ pairs) p)
    other ne = ap (λ l. fold with_value l (values_at pairs p)) (value-other p q v label ne) ∙ ap (fold with_value (values_at label p)) (sym (values-other p (q, v) pairs ne))

-- labels have the same values at points for which the same values were added, in the same order
values-same : (p q : ℕ) (xs ys : List (ℕ × ℤ)) → values_at xs p ≡ values_at ys q → values_at (label_of xs) p ≡ values_at (label_of ys) q
values-same p q xs ys e = values-fold p [] xs tt ∙ ap (fold with_value []) e ∙ sym (values-fold q [] ys tt)

-- ---- pairs of numbered points

module _ {X : Type 0} (has : X → Bool) (values : X → List ℤ) where
  pairs_of : ℕ × X → List (ℕ × ℤ)
  pairs_of x = map (λ v. (x.0, v)) (values x.1)

  pairs : ℕ → List X → List (ℕ × ℤ)
  pairs base xs = flat_map pairs_of (filter (λ (x : ℕ × X). has x.1) (enumerate_from base xs))

  pairs-first : (base : ℕ) (x : X) (xs : List X) → pairs base (x ∷ xs) ≡ cond (has x) (pairs_of (base, x) ++ pairs (base + 1) xs) (pairs (base + 1) xs)
  unfolding pairs
  pairs-first base x xs = go (has x)
    where
      others : List (ℕ × X)
      others = filter (λ (y : ℕ × X). has y.1) (enumerate_from (base + 1) xs)

      go : (b : Bool) → flat_map pairs_of (cond b ((base, x) ∷ others) others) ≡ cond b (pairs_of (base, x) ++ flat_map pairs_of others) (flat_map pairs_of others)
      go true = refl
      go false = refl

  -- no pair is of a point before the first
  pairs-before : (base p : ℕ) (xs : List X) → p < base → values_at (pairs base xs) p ≡ []
  unfolding pairs pairs_of
  pairs-before base p [] lt = refl
  pairs-before base p (x ∷ xs) lt = ap (λ l. values_at l p) (pairs-first base x xs) ∙ go (has x) (pairs-before (base + 1) p xs (omega arith))
    where
      go : (b : Bool) → values_at (pairs (base + 1) xs) p ≡ [] → values_at (cond b (pairs_of (base, x) ++ pairs (base + 1) xs) (pairs (base + 1) xs)) p ≡ []
      go true r = values-append p (pairs_of (base, x)) (pairs (base + 1) xs) ∙ ap (λ l. l ++ values_at (pairs (base + 1) xs) p) (values-of_other p base (values x) (λ e. absurd (omega arith))) ∙ r
      go false r = r

  -- the values of one of the points
  pairs-at : (base k : ℕ) (xs : List X) (d : X) → k < length xs → has (get_or xs k d) ≡ true → values_at (pairs base xs) (base + k) ≡ values (get_or xs k d)
  unfolding pairs_of
  pairs-at base k [] d lt h = absurd (omega arith)
  pairs-at base zero (x ∷ xs) d lt h =
      let first : base + 0 ≡ base = omega arith in
      ap (values_at (pairs base (x ∷ xs))) first ∙ ap (λ l. values_at l base) (pairs-first base x xs ∙ cond-true (has x) _ _ h)
      ∙ values-append base (pairs_of (base, x)) (pairs (base + 1) xs) ∙ both
    where
      both : values_at (pairs_of (base, x)) base ++ values_at (pairs (base + 1) xs) base ≡ values x
      both = (λ i. values-of_own base (values x) i ++ pairs-before (base + 1) base xs (omega arith) i) ∙ append-nil (values x)
  pairs-at base (suc k) (x ∷ xs) d lt h =
      let next : base + suc k ≡ base + 1 + k = omega arith in
      ap (values_at (pairs base (x ∷ xs))) next ∙ ap (λ l. values_at l (base + 1 + k)) (pairs-first base x xs) ∙ go (has x) (pairs-at (base + 1) k xs d (omega arith) h)
    where
      go : (b : Bool) → values_at (pairs (base + 1) xs) (base + 1 + k) ≡ values (get_or xs k d)
          → values_at (cond b (pairs_of (base, x) ++ pairs (base + 1) xs) (pairs (base + 1) xs)) (base + 1 + k) ≡ values (get_or xs k d)
      go true r = values-append (base + 1 + k) (pairs_of (base, x)) (pairs (base + 1) xs)
          ∙ ap (λ l. l ++ values_at (pairs (base + 1) xs) (base + 1 + k)) (values-of_other (base + 1 + k) base (values x) (λ e. absurd (omega arith))) ∙ r
      go false r = r

-- the label of a dimension has at each of its points the values of the point's marks
pub label-marks : (m : Mesh) (points : List Sight) (p : ℕ) (d : Sight) → p < length points
    → values_at (mesh_label m (dim_of (get_or points p d).poly) points) p ≡ labels_at m (point_of (get_or points p d))
unfolding mesh_label labels_at pairs pairs_of
label-marks m points p d lt =
    let s = get_or points p d in
    let dim = dim_of s.poly in
    values-same p 0 _ (map (λ value. (0, value)) (marks_on m (point_of s)))
    (ap (values_at _) (let e : p ≡ 0 + p = omega arith in e) ∙ raw ∙ sym (values-of_own 0 (marks_on m (point_of s))))
  where
    raw : values_at (flat_map (λ (x : ℕ × Sight). map (λ value. (x.0, value)) (marks_on m (point_of x.1))) (filter (λ (x : ℕ × Sight). dim_of x.1.poly == dim_of (get_or points p d).poly) (enumerate_from 0 points))) (0 + p) ≡ marks_on m (point_of (get_or points p d))
    raw = pairs-at (λ (t : Sight). dim_of t.poly == dim_of (get_or points p d).poly) (λ (t : Sight). marks_on m (point_of t)) 0 p points d lt (eq-eqb (dim_of (get_or points p d).poly) (dim_of (get_or points p d).poly) refl)
