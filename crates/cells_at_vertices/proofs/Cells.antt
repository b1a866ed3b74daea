-- One rank's counts: closures have a point once, and counts grow cell by cell.
use Rattle.std.proofs.Common.{◌≡◌, ℕ, zero, suc, ◌+◌, ◌<◌, ◌≤◌, ◌^◌, Bool, true, false, cond, ◌==◌, ◌||◌, List, [], ◌∷◌, ◌++◌, length, take, replicate, get_or, pos, ℤ, refl, sym, ap, ap₂, ◌∙◌, zero-add, arith}
use Rattle.std.specs.Prelude.{count_by, flat_map}
use Rattle.std.specs.List.{All}
use Rattle.std.proofs.lemmas.Bool.{eqb-true, eq-eqb, ne_eqb, or_right}
use Rattle.std.proofs.lemmas.List.{get_or-replicate, length-replicate, get_or_default, length-map, ext_get_or}
use Rattle.std.proofs.lemmas.List.Sums.{count_by-le-length}
use Rattle.plain_lists.specs.Lists.{below}
use Rattle.plain_lists.proofs.Below.{length-below, get_or-map-below}
use Rattle.plain_lists.proofs.Filters.{count-append, count_nothing}
use Rattle.plain_lists.proofs.Finding.{each_fails}
use Rattle.mesh_defs.specs.declared.ConeEntry.{ConeEntry}
use Rattle.mesh_defs.specs.Tables.{dim_of}
use Rattle.mesh_defs.specs.Diagram.{Diagram}
use Rattle.plex_defs.specs.Closure.{covers, cone_entry, new_points, point_in}
use Rattle.walk_defs.specs.Cones.{facets_by_cone, levels_by_cones, closure_by_cones}
use Rattle.plex_chart.specs.Chart.{stratum_range, chart_size}
use Rattle.rank_laws.specs.cell_laws.Cells.{once, Once}
use Rattle.rank_laws.proofs.cell_laws.Once.{count-cons, once-append}
use Rattle.cells_at_vertices.specs.Own.{closures_with, closure_counts, AreCounts, IsCounted}

-- ---- closures have a point once

-- the entry is of point p
abbrev pub is_of : ℕ → ConeEntry → Bool
is_of p e = e.point == p

-- new points are not there yet
new-apart : (there es : List ConeEntry) (p : ℕ) → covers there p ≡ true → covers (new_points there es) p ≡ false
new-apart there [] p h = refl
new-apart there (e ∷ es) p h = go (covers there e.point) refl (new-apart there es p h) (new-apart (e ∷ there) es p (or_right (e.point == p) (covers there p) h))
  where
    -- the entry that is added is of another point
    other : covers there e.point ≡ false → (b : Bool) → (e.point == p) ≡ b → b ≡ false
    other fresh true same = absurd (cc (sym (ap (covers there) (eqb-true e.point p same) ∙ h) ∙ fresh))
    other fresh false same = refl

    go : (b : Bool) → covers there e.point ≡ b → covers (new_points there es) p ≡ false → covers (new_points (e ∷ there) es) p ≡ false → covers (cond b (new_points there es) (e ∷ new_points (e ∷ there) es)) p ≡ false
    go true known passed added = passed
    go false fresh passed added = ap₂ (λ x y. x || y) (other fresh (e.point == p) refl) added

-- and each stands once
new-once : (there es : List ConeEntry) (p : ℕ) → Once (is_of p) (new_points there es)
new-once there [] p = refl
new-once there (e ∷ es) p = go (covers there e.point) (new-once there es p) (new-once (e ∷ there) es p)
  where
    more : (b : Bool) → (e.point == p) ≡ b → Once (is_of p) (new_points (e ∷ there) es) → once b + count_by (is_of p) (new_points (e ∷ there) es) ≡ once (b || covers (new_points (e ∷ there) es) p)
    more true same added =
        let later : covers (new_points (e ∷ there) es) p ≡ false = new-apart (e ∷ there) es p (ap (λ b. b || covers there p) same) in
        ap (λ n. 1 + n) (count_nothing (is_of p) (new_points (e ∷ there) es) (each_fails (is_of p) (new_points (e ∷ there) es) later))
    more false same added = zero-add (count_by (is_of p) (new_points (e ∷ there) es)) ∙ added

    go : (b : Bool) → Once (is_of p) (new_points there es) → Once (is_of p) (new_points (e ∷ there) es) → Once (is_of p) (cond b (new_points there es) (e ∷ new_points (e ∷ there) es))
    go true passed added = passed
    go false passed added = count-cons (is_of p) e (new_points (e ∷ there) es) ∙ more (e.point == p) refl added

levels-once : (x : Diagram) (n : ℕ) (there last : List ConeEntry) (p : ℕ) → Once (is_of p) there → Once (is_of p) (levels_by_cones x n there last)
levels-once x zero there last p h = h
levels-once x (suc n) there last p h =
    let next = new_points there (flat_map (facets_by_cone x) last) in
    levels-once x n (there ++ next) next p (once-append (is_of p) there next h (new-once there (flat_map (facets_by_cone x) last) p) (new-apart there (flat_map (facets_by_cone x) last) p))

pub closure-once : (x : Diagram) (q p : ℕ) (o : ℤ) → Once (is_of p) (closure_by_cones x q o)
unfolding closure_by_cones
closure-once x q p o = levels-once x (dim_of (point_in x q).poly) (cone_entry q o ∷ []) (cone_entry q o ∷ []) p (count-cons (is_of p) (cone_entry q o) [] ∙ one (q == p))
  where
    one : (b : Bool) → once b + 0 ≡ once (b || false)
    one true = refl
    one false = refl

-- what stands once stands at most once
pub once-few : (p : ℕ) (entries : List ConeEntry) → Once (is_of p) entries → count_by (is_of p) entries ≤ 1
once-few p entries h = go (covers entries p) h
  where
    go : (b : Bool) → count_by (is_of p) entries ≡ once b → count_by (is_of p) entries ≤ 1
    go true e = omega (arith, e)
    go false e = omega (arith, e)

-- ---- counts

-- a part of a list has no more
count-taken : (p n : ℕ) (es : List ConeEntry) → count_by (is_of p) (take n es) ≤ count_by (is_of p) es
count-taken p zero es = omega arith
count-taken p (suc n) [] = omega arith
count-taken p (suc n) (e ∷ es) = omega (arith, count-taken p n es, count-cons (is_of p) e (take n es), count-cons (is_of p) e es)

-- one more fits 64 bits
pub counted-fits : (entries : List ConeEntry) (before now : List ℕ) (i x : ℕ) (d : ConeEntry) → i < length entries → All (λ (e : ConeEntry). e.point < length before) entries → x ≡ get_or now (get_or entries i d).point x → IsCounted (take i entries) before now
    → ((p : ℕ) → count_by (is_of p) entries ≤ 1) → ((p : ℕ) → p < length before → get_or before p 0 < 2 ^ 32) → x + 1 < 2 ^ 64
counted-fits entries before now i x d within low is h few small =
    let k : ℕ = (get_or entries i d).point in
    let k-low : k < length before = low i d within in
    let there : get_or now k x ≡ get_or now k 0 = get_or_default now k x 0 (omega (arith, k-low, h.many)) in
    omega (arith, is, there, h.each k k-low, count-taken k i entries, few k, small k k-low)

-- no counts yet
pub counts-none : (x : Diagram) (size : ℕ) → size ≡ length x.points → AreCounts x 0 (replicate size 0)
counts-none x size e = record { many = long ∙ e; each = λ p low. get_or-replicate size p 0 0 (omega (arith, low, long)) }
  where
    zeros : List ℕ
    zeros = replicate size 0

    long : length zeros ≡ size
    long = length-replicate size 0

-- so many counts are no more than cells
pub counts-low : (x : Diagram) (n : ℕ) (counts : List ℕ) → AreCounts x n counts → (p : ℕ) → p < length counts → get_or counts p 0 ≤ n
counts-low x n counts h p low = omega (arith, h.each p low, count_by-le-length (λ c. covers (closure_by_cones x c (pos 0)) p) (below n), length-below n)

-- the counts with one cell more
pub counts-more : (x : Diagram) (n : ℕ) (entries : List ConeEntry) (before after : List ℕ) → entries ≡ closure_by_cones x n (pos 0) → AreCounts x n before → IsCounted entries before after → AreCounts x (n + 1) after
counts-more x n entries before after same h counted = record {
  many = counted.many ∙ h.many;
  each = λ p low.
      let within : p < length before = omega (arith, low, counted.many) in
      let one : count_by (is_of p) entries ≡ count_by (tests p) (n ∷ []) = ap (count_by (is_of p)) same ∙ closure-once x n p (pos 0) ∙ single (tests p n) ∙ sym (count-cons (tests p) n []) in
      counted.each p within ∙ ap₂ (λ a b. a + b) (h.each p within) one ∙ sym (count-append (tests p) (below n) (n ∷ [])) ∙ ap (λ k. closures_with x k p) (let e : suc n ≡ n + 1 = omega arith in e);
}
  where
    tests : ℕ → ℕ → Bool
    tests p c = covers (closure_by_cones x c (pos 0)) p

    single : (b : Bool) → once b ≡ once b + 0
    single b = omega arith

-- all of them
pub counts-all : (x : Diagram) (counts : List ℕ) → AreCounts x x.cells counts → counts ≡ closure_counts x
counts-all x counts h = ext_get_or 0 counts (closure_counts x) (h.many ∙ sym (length-map (below (length x.points)) (closures_with x x.cells) ∙ length-below (length x.points)))
    (λ p low. h.each p low ∙ sym (get_or-map-below (closures_with x x.cells) (length x.points) p 0 (omega (arith, low, h.many))))

-- the cells stand first
pub cells-range : (x : Diagram) (dim : ℕ) → dim ≡ x.dim → stratum_range x dim ≡ (0, x.cells)
cells-range x dim e = ap (λ b. cond b (0, x.cells) (stratum_below x dim)) (eq-eqb dim x.dim e)
  where
    stratum_below : Diagram → ℕ → ℕ × ℕ
    stratum_below g dim = cond (dim == 0) (g.cells, g.cells + g.vertices) (cond (dim == 2) (g.cells + g.vertices, g.cells + g.vertices + g.faces) (cond (dim == 1) (g.cells + g.vertices + g.faces, chart_size g) (0, 0)))

-- and the vertices behind them
pub vertices-range : (x : Diagram) → 2 ≤ x.dim → stratum_range x 0 ≡ (x.cells, x.cells + x.vertices)
vertices-range x high = ap (λ b. cond b (0, x.cells) (x.cells, x.cells + x.vertices)) (ne_eqb 0 x.dim (λ e. absurd (omega (arith, e, high))))
