-- Rows of a flat list: how many, one more, and one of them.
use Rattle.std.proofs.Common.{◌≡◌, ℕ, zero, suc, ◌+◌, ◌*◌, ◌<◌, ◌≤◌, List, [], ◌∷◌, ◌++◌, length, get_or, take, drop, Some, refl, sym, ap, ap₂, ◌∙◌, arith}
use Rattle.std.specs.Prelude.{sum_by}
use Rattle.std.specs.List.{AllByRecursion, slice_get}
use Rattle.std.proofs.lemmas.List.{take-append-le, drop-append-le, length-drop, length-take-le, drop-drop}
use Rattle.std.proofs.lemmas.List.Sums.{sum_by-cons}
use Rattle.std.proofs.Math.Seq.{take-length}
use Rattle.std.proofs.Math.Nat.{zero-mul, suc-mul, mul-le-mul_right}
use Rattle.plex_base.specs.FlatRows.{with_rows}

pub rows-length : {H A R : Type 0} (width : H → ℕ) (make : H → List A → R) (heads : List H) (flat : List A) → length (with_rows width make heads flat) ≡ length heads
unfolding with_rows
rows-length width make [] flat = refl
rows-length width make (head ∷ heads) flat = ap suc (rows-length width make heads (drop (width head) flat))

-- one head more, with a row as wide as it says
pub rows-push : {H A R : Type 0} (width : H → ℕ) (make : H → List A → R) (heads : List H) (flat : List A) (head : H) (row : List A) → length flat ≡ sum_by width heads → length row ≡ width head
    → with_rows width make (heads ++ head ∷ []) (flat ++ row) ≡ with_rows width make heads flat ++ make head row ∷ []
unfolding with_rows
rows-push width make [] [] head row fits wide = ap (λ r. make head r ∷ []) (rw (← wide) (take-length row))
rows-push width make [] (x ∷ flat) head row fits wide = absurd (omega (arith, fits))
rows-push width make (h ∷ heads) flat head row fits wide =
    let sums = sum_by-cons width h heads in
    let within : width h ≤ length flat = omega (arith, sums) in
    let left : length (drop (width h) flat) ≡ sum_by width heads = rw length-drop (omega (arith, sums)) in
    ap₂ (λ r rs. make h r ∷ rs) (take-append-le (width h) flat row within)
    (ap (with_rows width make (heads ++ head ∷ [])) (drop-append-le (width h) flat row within) ∙ rows-push width make heads (drop (width h) flat) head row left wide)

-- the row of a head begins after those of the heads before it
pub rows-get : {H A R : Type 0} (width : H → ℕ) (make : H → List A → R) (heads : List H) (flat : List A) (i : ℕ) (d : H) → i < length heads
    → slice_get (with_rows width make heads flat) i ≡ Some (make (get_or heads i d) (take (width (get_or heads i d)) (drop (sum_by width (take i heads)) flat)))
unfolding with_rows
rows-get width make [] flat i d below = absurd (omega arith)
rows-get width make (h ∷ heads) flat zero d below = refl
rows-get width make (h ∷ heads) flat (suc i) d below =
    let below' : i < length heads = omega arith in
    let sums = sum_by-cons width h (take i heads) in
    rows-get width make heads (drop (width h) flat) i d below'
    ∙ ap (λ rest. Some (make (get_or heads i d) (take (width (get_or heads i d)) rest))) (drop-drop (sum_by width (take i heads)) (width h) flat ∙ ap (λ n. drop n flat) (sym sums))

-- each row is as wide as its head says
pub rows-wide : {H A R : Type 0} (P : R → Type 0) (width : H → ℕ) (make : H → List A → R) → ((head : H) (row : List A) → length row ≡ width head → P (make head row)) → (heads : List H) (flat : List A) → length flat ≡ sum_by width heads
    → AllByRecursion P (with_rows width make heads flat)
unfolding with_rows
rows-wide P width make wide [] flat fits = tt
rows-wide P width make wide (h ∷ heads) flat fits =
    let sums = sum_by-cons width h heads in
    let within : width h ≤ length flat = omega (arith, sums) in
    let left : length (drop (width h) flat) ≡ sum_by width heads = rw length-drop (omega (arith, sums)) in
    (wide h (take (width h) flat) (length-take-le (width h) flat within), rows-wide P width make wide heads (drop (width h) flat) left)

-- ---- heads of one width

pub widths-same : {H : Type 0} (width : ℕ) (heads : List H) → sum_by (λ (h : H). width) heads ≡ length heads * width
widths-same width [] = sym (zero-mul width)
widths-same {H} width (h ∷ heads) = let sums = sum_by-cons (λ (h : H). width) h heads in let rest = widths-same width heads in let more = suc-mul (length heads) width in omega (arith, sums, rest, more)

-- the end of row i of n rows
pub row-within : (i n width : ℕ) → i < n → i * width + width ≤ n * width
row-within i n width below = let step = mul-le-mul_right width below in let more = suc-mul i width in omega (arith, step, more)

-- row i of rows of one width
pub rows-get-same : {H A R : Type 0} (width : ℕ) (make : H → List A → R) (heads : List H) (flat : List A) (i : ℕ) (d : H) → i < length heads
    → slice_get (with_rows (λ h. width) make heads flat) i ≡ Some (make (get_or heads i d) (take width (drop (i * width) flat)))
rows-get-same {H} width make heads flat i d below =
    let offset : sum_by (λ (h : H). width) (take i heads) ≡ i * width = widths-same width (take i heads) ∙ ap (λ n. n * width) (length-take-le i heads (omega arith)) in
    rows-get (λ (h : H). width) make heads flat i d below ∙ ap (λ n. Some (make (get_or heads i d) (take width (drop n flat)))) offset
