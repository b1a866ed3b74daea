-- Lines of points, point by point.
use Rattle.std.proofs.Common.{◌≡◌, ℕ, ◌+◌, ◌<◌, ◌≤◌, Bool, true, false, cond, List, [], ◌∷◌, ◌++◌, length, refl, sym, ap, ◌∙◌, append-nil, length-append, arith}
use Rattle.std.specs.Prelude.{filter, flat_map, if◌then◌else◌}
use Rattle.std.specs.List.{enumerate_from}
use Rattle.std.proofs.lemmas.Bool.{cond-true, cond-false}
use Rattle.std.proofs.lemmas.List.Elements.{filter-append}
use Rattle.std.proofs.lemmas.List.Sums.{length-filter, count_by-le-length}
use Rattle.plain_lists.proofs.Below.{length-below}
use Rattle.std.proofs.lemmas.List.Concat.{flat_map-append}
use Rattle.plain_lists.specs.Lists.{below}
use Rattle.plain_lists.proofs.Each.{all_from}
use Rattle.plain_lists.proofs.Filters.{filter_whole, filter_filter}
use Rattle.walk_defs.specs.step_defs.Points.{points_of, owned_by}
use Rattle.walk_defs.specs.step_defs.Steps.{plain_points, plain_locals, plain_closures, plain_traces}
use Rattle.step_report.specs.declared.desk.Desk.{Desk}
use Rattle.step_report.specs.declared.desk.PointLines.{PointLines}
use Rattle.step_report.specs.declared.desk.PointLines.TheVariants.{Owned, Held, Closures, Traces}
use Rattle.step_report.specs.Desks.{FitsDesk, HasLeaf, is_own, is_cell, has_line, line_of, place_of, next_text, lines_before, lines_of, plain_lines}
use Rattle.step_report.proofs.Going.{later, below-push}

-- ---- filtered numbers

-- the number k, where it passes
abbrev pub passing : (ℕ → Bool) → ℕ → List ℕ
passing s k = cond (s k) (k ∷ []) []

pub passing-more : (s : ℕ → Bool) (k : ℕ) → filter s (below (k + 1)) ≡ filter s (below k) ++ passing s k
passing-more s k = ap (filter s) (below-push k) ∙ filter-append s (below k) (k ∷ [])

pub count-shown : (s : ℕ → Bool) (k : ℕ) → s k ≡ true → length (filter s (below (k + 1))) ≡ length (filter s (below k)) + 1
count-shown s k h =
    let e : filter s (below (k + 1)) ≡ filter s (below k) ++ k ∷ [] = passing-more s k ∙ ap (λ (t : List ℕ). filter s (below k) ++ t) (cond-true (s k) (k ∷ []) [] h) in
    ap length e ∙ length-append (filter s (below k)) (k ∷ [])

pub count-hidden : (s : ℕ → Bool) (k : ℕ) → s k ≡ false → length (filter s (below (k + 1))) ≡ length (filter s (below k))
count-hidden s k h =
    let e : filter s (below (k + 1)) ≡ filter s (below k) ++ [] = passing-more s k ∙ ap (λ (t : List ℕ). filter s (below k) ++ t) (cond-false (s k) (k ∷ []) [] h) in
    ap length (e ∙ append-nil (filter s (below k)))

pub count-below : (s : ℕ → Bool) (k n : ℕ) → k < n → s k ≡ true → length (filter s (below k)) < length (filter s (below n))
count-below s k n lt h =
    let t = later (λ (i : ℕ). filter s (below i)) (passing s) (passing-more s) k n lt in
    let e : length (filter s (below n)) ≡ length (filter s (below k) ++ (passing s k ++ t.0)) = ap length t.1 in
    let one : length (passing s k) ≡ 1 = ap length (cond-true (s k) (k ∷ []) [] h) in
    omega (arith, e, one, length-append (filter s (below k)) (passing s k ++ t.0), length-append (passing s k) t.0)

pub count-le : (s : ℕ → Bool) (k : ℕ) → length (filter s (below k)) ≤ k
count-le s k = omega (arith, length-filter s (below k), count_by-le-length s (below k), length-below k)

-- ---- enumerated items

pub enumerate-append : {X : Type 0} (n : ℕ) (xs ys : List X) → enumerate_from n (xs ++ ys) ≡ enumerate_from n xs ++ enumerate_from (n + length xs) ys
enumerate-append n [] ys = ap (λ (k : ℕ). enumerate_from k ys) (let e : n ≡ n + 0 = omega arith in e)
enumerate-append n (x ∷ xs) ys =
    ap (λ (t : List _). (n, x) ∷ t) (enumerate-append (n + 1) xs ys ∙ ap (λ (k : ℕ). enumerate_from (n + 1) xs ++ enumerate_from k ys) (let e : n + 1 + length xs ≡ n + length (x ∷ xs) = omega arith in e))

-- a text that does not look at places
pub enumerate-unplaced : {X : Type 0} (f : X → List ℕ) (n : ℕ) (xs : List X) → flat_map (λ (x : ℕ × X). f x.1) (enumerate_from n xs) ≡ flat_map f xs
enumerate-unplaced f n [] = refl
enumerate-unplaced f n (x ∷ xs) = ap (λ (t : List ℕ). f x ++ t) (enumerate-unplaced f (n + 1) xs)

-- ---- lines

-- the line of one point, where it has one
shown-one : (f : ℕ × ℕ → List ℕ) (n p : ℕ) (b : Bool) → flat_map f (enumerate_from n (cond b (p ∷ []) [])) ≡ (if b then f (n, p) else [])
shown-one f n p true = append-nil (f (n, p))
shown-one f n p false = refl

pub lines-more : (kind : PointLines) (d : Desk) (p : ℕ) → lines_before kind d (p + 1) ≡ lines_before kind d p ++ next_text kind d p
unfolding lines_before
lines-more kind d p =
    let s = has_line kind d in
    let f = line_of kind d in
    let there = filter s (below p) in
    ap (λ (t : List ℕ). flat_map f (enumerate_from 0 t)) (passing-more s p) ∙ ap (flat_map f) (enumerate-append 0 there (passing s p))
    ∙ flat_map-append f (enumerate_from 0 there) (enumerate_from (0 + length there) (passing s p))
    ∙ ap (λ (n : ℕ). flat_map f (enumerate_from 0 there) ++ flat_map f (enumerate_from n (passing s p))) (let e : 0 + length there ≡ length there = omega arith in e)
    ∙ ap (λ (t : List ℕ). flat_map f (enumerate_from 0 there) ++ t) (shown-one f (length there) p (s p))

pub leaf-there : (kind : PointLines) (d : Desk) (p : ℕ) → FitsDesk d → p < length d.local.now.diagram.points → has_line kind d p ≡ true → HasLeaf kind d (place_of kind d p)
leaf-there Owned d p fits lt h = tt
leaf-there Held d p fits lt h = tt
leaf-there Closures d p fits lt h = tt
leaf-there Traces d p fits lt h = let few = count-below (is_own d) p (length d.local.now.diagram.points) lt h in omega (arith, few, fits.leaves)

-- the lines are those of the definitions
pub lines-plain : (kind : PointLines) (d : Desk) → lines_of kind d ≡ plain_lines kind d.sections d.points.now d.numbers.now d.trace.now (d.rank, d.local.now)
unfolding lines_of lines_before plain_lines plain_points plain_locals plain_closures plain_traces
lines-plain Owned d = enumerate-unplaced (λ p. line_of Owned d (0, p)) 0 (owned_by d.rank d.local.now)
lines-plain Held d =
    enumerate-unplaced (λ p. line_of Held d (0, p)) 0 (filter (has_line Held d) (points_of d.local.now))
    ∙ ap (flat_map (λ p. line_of Held d (0, p))) (filter_whole (has_line Held d) (points_of d.local.now) (all_from (λ p. has_line Held d p ≡ true) (λ p. refl) (points_of d.local.now)))
lines-plain Closures d =
    enumerate-unplaced (λ p. line_of Closures d (0, p)) 0 (filter (has_line Closures d) (points_of d.local.now))
    ∙ ap (flat_map (λ p. line_of Closures d (0, p))) (sym (filter_filter (is_cell d) (is_own d) (points_of d.local.now)))
lines-plain Traces d = refl
