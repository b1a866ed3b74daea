-- A text that grows step by step, and a loop that reports it.
use Rattle.std.proofs.Common.{◌≡◌, ℕ, zero, suc, ◌+◌, ◌-◌, ◌<◌, Bool, List, [], ◌∷◌, ◌++◌, length, get_or, map, Option, Result, Ok, Err, refl, sym, ap, ◌∙◌, append_assoc, append-nil, arith}
use Rattle.std.specs.List.{flat_map, enumerate_from}
use Rattle.std.specs.Prelude.{OnOk}
use Rattle.std.specs.Result.{IsErrAnd}
use Rattle.std.proofs.lemmas.List.FromFn.{length-enumerate_from, get_or-enumerate_from}
use Rattle.plain_lists.proofs.Below.{map-below-length}
use Rattle.std.proofs.lemmas.List.Concat.{flat_map-append}
use Rattle.plain_lists.specs.Lists.{below}
use Rattle.cause_defs.specs.declared.ReportFault.{ReportFault}
use Rattle.cause_defs.specs.Reports.{Reports}
use Rattle.cause_defs.proofs.Reporting.{Reports-then, Reports-stop, Reports-exit}

-- what is reported does not depend on the answer's value
pub Reports-ok : {W : Type 0} {written : W → Option (List ℕ)} {flushed faults : W → ℕ} {alone : W → Bool} {A B : Type 0} {x : A} {y : B} {old new : W} {text : List ℕ}
    → Reports written flushed faults alone (Ok x) old new text → Reports written flushed faults alone (Ok y) old new text
Reports-ok p = record {
  prints = p.prints;
  flushed_stay = p.flushed_stay;
  cause = tt;
  never_falls = p.never_falls;
  others = p.others;
  counts_alike = p.counts_alike;
}

-- at each step a piece is added
module _ {X : Type 0} (T S : ℕ → List X) (more : (k : ℕ) → T (k + 1) ≡ T k ++ S k) where
  gap : (p g : ℕ) → (t : List X) × (T (p + 1 + g) ≡ T p ++ (S p ++ t))
  gap p zero =
      let e : p + 1 + zero ≡ p + 1 = omega arith in
      ([], ap T e ∙ more p ∙ ap (λ (s : List X). T p ++ s) (sym (append-nil (S p))))
  gap p (suc g) =
      let r = gap p g in
      let e : p + 1 + suc g ≡ (p + 1 + g) + 1 = omega arith in
      let regroup : (T p ++ (S p ++ r.0)) ++ S (p + 1 + g) ≡ T p ++ (S p ++ (r.0 ++ S (p + 1 + g))) =
      append_assoc (T p) (S p ++ r.0) (S (p + 1 + g)) ∙ ap (λ (s : List X). T p ++ s) (append_assoc (S p) r.0 (S (p + 1 + g))) in
      (r.0 ++ S (p + 1 + g), ap T e ∙ more (p + 1 + g) ∙ ap (λ (s : List X). s ++ S (p + 1 + g)) r.1 ∙ regroup)

  -- what is there later begins with what is there now and the next piece
  pub later : (p n : ℕ) → p < n → (t : List X) × (T n ≡ T p ++ (S p ++ t))
  later p n lt =
      let r = gap p (n - (p + 1)) in
      let e : n ≡ p + 1 + (n - (p + 1)) = omega arith in
      (r.0, ap T e ∙ r.1)

module _ {W : Type 0} {written : W → Option (List ℕ)} {flushed faults : W → ℕ} {alone : W → Bool} (T S : ℕ → List ℕ) (more : (k : ℕ) → T (k + 1) ≡ T k ++ S k) where
  -- one step more
  pub going-next : {A B C : Type 0} {x : A} {y : B} {z : C} {old mid new : W} (i : ℕ)
      → Reports written flushed faults alone (Ok x) old mid (T i) → Reports written flushed faults alone (Ok y) mid new (S i) → Reports written flushed faults alone (Ok z) old new (T (i + 1))
  going-next i p q = rw (more i) (Reports-ok (Reports-then p q))

  -- the loop stops, since a step failed
  pub going-stop : {A B C : Type 0} {x : C} {e : ReportFault} {old mid new : W} (i n : ℕ) (r : Result B ReportFault) → IsErrAnd r (λ h. h ≡ e) → i < n
      → Reports written flushed faults alone (Ok x) old mid (T i) → Reports {A = A} written flushed faults alone (Err e) mid new (S i) → Reports written flushed faults alone r old new (T n)
  going-stop {A} i n r is lt p q =
      let t = later T S more i n lt in
      Reports-exit {A = A} r is (rw t.1 (Reports-then p (Reports-stop t.0 q)))

-- ---- numbers

pub below-push : (k : ℕ) → below (k + 1) ≡ below k ++ k ∷ []
below-push k = ap below (let e : k + 1 ≡ suc k = omega arith in e)

-- the texts of the numbers below one
pub below-more : {Y : Type 0} (f : ℕ → List Y) (k : ℕ) → flat_map f (below (k + 1)) ≡ flat_map f (below k) ++ f k
below-more {Y} f k = ap (flat_map f) (below-push k) ∙ flat_map-append f (below k) (k ∷ []) ∙ ap (λ (t : List Y). flat_map f (below k) ++ t) (append-nil (f k))

flat_map-mapped : {X Y Z : Type 0} (f : Y → List Z) (g : X → Y) (xs : List X) → flat_map f (map g xs) ≡ flat_map (λ x. f (g x)) xs
flat_map-mapped f g [] = refl
flat_map-mapped {X} {Y} {Z} f g (x ∷ xs) = ap (λ (t : List Z). f (g x) ++ t) (flat_map-mapped f g xs)

map-same : {X : Type 0} (xs : List X) → map (λ x. x) xs ≡ xs
map-same [] = refl
map-same (x ∷ xs) = ap (λ t. x ∷ t) (map-same xs)

-- a list with places, by its places
pub by-places : {X : Type 0} (xs : List X) (d : X) → enumerate_from 0 xs ≡ map (λ i. (i, get_or xs i d)) (below (length xs))
by-places {X} xs d =
    let at : (k : ℕ) → k < length (enumerate_from 0 xs) → (k, get_or xs k d) ≡ get_or (enumerate_from 0 xs) k (0, d) = λ k lt.
    let low : k < length xs = omega (arith, lt, length-enumerate_from 0 xs) in
    sym (get_or-enumerate_from 0 xs k (0, d) low ∙ ap (λ (n : ℕ). (n, get_or xs k d)) (let e : 0 + k ≡ k = omega arith in e)) in
    let each : map (λ i. (i, get_or xs i d)) (below (length (enumerate_from 0 xs))) ≡ map (λ x. x) (enumerate_from 0 xs) = map-below-length (λ i. (i, get_or xs i d)) (λ x. x) (enumerate_from 0 xs) (0, d) at in
    sym (map-same (enumerate_from 0 xs)) ∙ sym each ∙ ap (λ (n : ℕ). map (λ i. (i, get_or xs i d)) (below n)) (length-enumerate_from 0 xs)

-- so are texts of its items
pub texts-by_places : {X Y : Type 0} (f : ℕ × X → List Y) (xs : List X) (d : X) → flat_map f (enumerate_from 0 xs) ≡ flat_map (λ i. f (i, get_or xs i d)) (below (length xs))
texts-by_places f xs d = ap (flat_map f) (by-places xs d) ∙ flat_map-mapped f (λ i. (i, get_or xs i d)) (below (length xs))

-- ---- lines

-- two parts, of which the second may fail
pub appended-second : {A E : Type 0} (r : Result A E) (old a b all mid new : List ℕ) → all ≡ a ++ b → mid ≡ old ++ a → OnOk r (new ≡ mid ++ b) → OnOk r (new ≡ old ++ all)
appended-second (Ok x) old a b all mid new e f g = g ∙ ap (λ (t : List ℕ). t ++ b) f ∙ append_assoc old a b ∙ ap (λ (t : List ℕ). old ++ t) (sym e)
appended-second (Err x) old a b all mid new e f g = g
