-- Adding up the weights of all points of a part, cell by cell.
use Rattle.std.proofs.Common.{◌≡◌, ℕ, zero, suc, ◌+◌, ◌*◌, ◌<◌, ◌≤◌, ◌^◌, Bool, true, false, cond, ◌==◌, List, [], ◌∷◌, ◌++◌, map, length, take, replicate, sum_by, slice_index, sym, ap, ◌∙◌, arith}
use Rattle.std.specs.Prelude.{count_by, filter}
use Rattle.std.specs.List.{AllByRecursion}
use Rattle.std.proofs.lemmas.List.{take_more, take_all, length-map, length-take-le, get_or-map, get_or-replicate, length-replicate, ext_get_or}
use Rattle.std.proofs.lemmas.List.Elements.{filter-append}
use Rattle.std.proofs.lemmas.List.Sums.{sum_by-append, sum_by-cons}
use Rattle.std.proofs.lemmas.Nat.{mul-le}
use Rattle.mesh_defs.specs.Mesh.{Mesh, Cell}
use Rattle.mesh_defs.specs.Points.{Point, Sight, point_of, contains}
use Rattle.rank_defs.specs.Spread.{ScatterPart}
use Rattle.dist_state.specs.scatter_state.Parts.{cell_at}
use Rattle.rank_chart_laws.specs.field_laws.Weights.{no_sight, point_at, weight_in}
use Rattle.rank_chart_laws.proofs.field_laws.Sums.{sum-bound, sum-filter-le}
use Rattle.rank_laws.specs.cell_laws.Cells.{once, IsAdded}
use Rattle.interp_share.specs.own_field_laws.Own.{IsPartOf, part_points, part_weights}
use Rattle.interp_share.specs.part_weights.Places.{cell_places, AreWeights}
use Rattle.interp_share.proofs.own_field_laws.Given.{cells-few, number-low, numbers-low}
use Rattle.interp_share.proofs.part_weights.CellPoints.{here-count, here-few}

-- the sum over one cell more
weight-more : (cells : List (ℕ × Cell)) (c : ℕ × Cell) (p : Point) → weight_in (cells ++ c ∷ []) p ≡ weight_in cells p + (c.0 + 1) * once (contains c.1 p)
weight-more cells c p =
    ap (sum_by added) (filter-append test cells (c ∷ []))
    ∙ (sum_by-append added (filter test cells) (filter test (c ∷ [])) ∙ ap (λ n. weight_in cells p + n) (one (contains c.1 p)))
  where
    added : ℕ × Cell → ℕ
    added d = d.0 + 1

    test : ℕ × Cell → Bool
    test d = contains d.1 p

    one : (b : Bool) → sum_by added (cond b (c ∷ []) []) ≡ (c.0 + 1) * once b
    one true = let whole : (c.0 + 1) * 1 ≡ c.0 + 1 = grind arith in omega (arith, whole, sum_by-cons added c [])
    one false = let none : (c.0 + 1) * 0 ≡ 0 = grind arith in omega (arith, none)

-- no weights yet
pub weights-none : (part : ScatterPart) (size : ℕ) → size ≡ length (part_points part) → AreWeights part 0 (replicate size 0)
weights-none part size e = record { many = length-replicate size 0 ∙ e; each = λ p low. get_or-replicate size p 0 0 (omega arith) }

-- all of them
pub weights-all : (part : ScatterPart) (weights : List ℕ) → AreWeights part (length part.cells) weights → weights ≡ part_weights part
unfolding part_weights
weights-all part weights h = ext_get_or 0 weights (map weigh (part_points part)) (h.many ∙ sym (length-map (part_points part) weigh))
    (λ p low.
    let within : p < length (part_points part) = omega (arith, low, h.many) in
    h.each p within ∙ (ap (λ cells. weight_in cells (point_at (part_points part) p)) (take_all (length part.cells) part.cells (omega arith)) ∙ sym (get_or-map weigh (part_points part) p no_sight 0 within)))
  where
    weigh : Sight → ℕ
    weigh s = weight_in part.cells (point_of s)

module _ (part : ScatterPart) (m : Mesh) (a : List ℕ) (n r : ℕ) (is : IsPartOf part m a n r) where
  taken-low : (k : ℕ) → k ≤ length part.cells → AllByRecursion (λ (c : ℕ × Cell). c.0 + 1 ≤ 250000) (take k part.cells)
  taken-low k low = go k part.cells (numbers-low part m a n r is)
    where
      go : (j : ℕ) (cells : List (ℕ × Cell)) → AllByRecursion (λ (c : ℕ × Cell). c.0 + 1 ≤ 250000) cells → AllByRecursion (λ (c : ℕ × Cell). c.0 + 1 ≤ 250000) (take j cells)
      go zero cells h = tt
      go (suc j) [] h = tt
      go (suc j) (c ∷ cells) h = (h.0, go j cells h.1)

  module _ (i : ℕ) (low : i < length part.cells) where
    abbrev c : ℕ × Cell
    c = cell_at part.cells i

    -- the weights with one cell more
    pub weights-more : (value : ℕ) (places before after : List ℕ) → value ≡ (cell_at part.cells i).0 + 1 → places ≡ cell_places part i (cell_at part.cells i) → AreWeights part i before → IsAdded value places before after → AreWeights part (i + 1) after
    weights-more value places before after worth same w added = record {
      many = added.many ∙ w.many;
      each = λ p within.
          added.each p (omega (arith, within, w.many))
          ∙ ((λ j. w.each p within j + worth j * count_by (λ k. k == p) (same j))
          ∙ (ap (λ k. weight_in (take i part.cells) (point_at (part_points part) p) + (c.0 + 1) * k) (here-count part m a n r is i low p within)
          ∙ sym (ap (λ cells. weight_in cells (point_at (part_points part) p)) (take_more part.cells i (cell_at [] 0) low) ∙ weight-more (take i part.cells) c (point_at (part_points part) p))));
    }

    -- the sums fit 64 bits
    pub weights-fit : (value : ℕ) (places before : List ℕ) → value ≡ (cell_at part.cells i).0 + 1 → places ≡ cell_places part i (cell_at part.cells i) → AreWeights part i before → (p : ℕ) → p < length before → slice_index before p + value * length places < 2 ^ 64
    weights-fit value places before worth same w p within =
        let point = point_at (part_points part) p in
        let step : ℕ × Cell → ℕ = λ (d : ℕ × Cell). d.0 + 1 in
        let few = cells-few part m a n r is in
        let inner = sum-filter-le (λ (d : ℕ × Cell). contains d.1 point) step (take i part.cells) in
        let bound = sum-bound step 250000 (take i part.cells) (taken-low i (omega arith)) in
        let taken : length (take i part.cells) ≡ i = length-take-le i part.cells (omega arith) in
        let cap : length (take i part.cells) * 250000 ≤ 250000 * 250000 = mul-le (length (take i part.cells)) 250000 250000 250000 (omega arith) (omega arith) in
        let more : value * length places ≤ 250000 * 64 = mul-le value (length places) 250000 64 (omega (arith, worth, number-low part m a n r is i low)) (omega (arith, ap length same, here-few part m a n r is i low)) in
        omega (arith, w.each p (omega (arith, within, w.many)), inner, bound, cap, more)
