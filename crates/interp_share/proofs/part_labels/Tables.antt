-- The sets of a part's cells differ, and tell the cells.
use Rattle.std.proofs.Common.{◌≡◌, ℕ, suc, ◌<◌, true, false, not, cond, ◌||◌, nat_lt, List, [], ◌∷◌, ◌++◌, map, length, get_or, take, drop, refl, sym, ap, ap₂, ◌∙◌, subst}
use Rattle.std.specs.Prelude.{position, Some, None}
use Rattle.std.specs.List.{list_any, AllByRecursion, position_or_len}
use Rattle.std.proofs.Math.Seq.{drop-cons}
use Rattle.std.proofs.lemmas.Bool.{and_parts, and_from, or_parts, not-true}
use Rattle.std.proofs.lemmas.List.{length-map, map-append, take-append-drop}
use Rattle.std.proofs.lemmas.List.Folds.{list_any-append}
use Rattle.plain_lists.specs.Lists.{same_list, same_set}
use Rattle.plain_lists.proofs.Each.{all_at, all_both, all_weaker, all_append_first}
use Rattle.plain_lists.proofs.Finding.{any_map, any_agree, position_map, position_agree}
use Rattle.mesh_defs.specs.Tables.{dim_of}
use Rattle.mesh_defs.specs.Mesh.{Mesh, Cell}
use Rattle.mesh_defs.specs.Points.{Sight, point_of, shows, cell_sight, vertex_sight}
use Rattle.mesh_defs.specs.Sights.{points_differ}
use Rattle.mesh_laws.proofs.Firsts.{same_point-sym}
use Rattle.rank_chart_laws.specs.mark_laws.Sets.{filled, IsShort}
use Rattle.rank_chart_laws.proofs.mark_laws.Filled.{filled-same}
use Rattle.local_points.specs.Points.{faces_among, edges_among}
use Rattle.rank_defs.specs.Spread.{ScatterPart}
use Rattle.interp_share.specs.part_labels.Parts.{IsPartOf, cells_among, points_of_part}
use Rattle.interp_share.specs.part_labels.Sets.{set_of}
use Rattle.interp_share.proofs.part_labels.Given.{dims, short-cells, points-differ}
use Rattle.interp_share.proofs.part_labels.Standing.{whole-test}

-- of sights that differ, one is shown by none before it
shown-before : (xs : List Sight) (x : Sight) (ys : List Sight) → points_differ (xs ++ x ∷ ys) ≡ true → list_any (shows (point_of x)) xs ≡ false
shown-before [] x ys h = refl
shown-before (w ∷ xs) x ys h =
    let both = and_parts (not (list_any (shows (point_of w)) (xs ++ x ∷ ys))) (points_differ (xs ++ x ∷ ys)) h in
    let later = or_parts (list_any (shows (point_of w)) xs) (list_any (shows (point_of w)) (x ∷ ys)) (sym (list_any-append (shows (point_of w)) xs (x ∷ ys)) ∙ not-true _ both.0) in
    let other : shows (point_of w) x ≡ false = (or_parts (shows (point_of w) x) (list_any (shows (point_of w)) ys) later.1).0 in
    ap₂ (λ a b. a || b) (same_point-sym (point_of x) (point_of w) ∙ other) (shown-before xs x ys both.1)

-- the first of two lists of sights that differ
differ-first : (xs ys : List Sight) → points_differ (xs ++ ys) ≡ true → points_differ xs ≡ true
differ-first [] ys h = refl
differ-first (x ∷ xs) ys h =
    let both = and_parts (not (list_any (shows (point_of x)) (xs ++ ys))) (points_differ (xs ++ ys)) h in
    let none = or_parts (list_any (shows (point_of x)) xs) (list_any (shows (point_of x)) ys) (sym (list_any-append (shows (point_of x)) xs ys) ∙ not-true _ both.0) in
    and_from (not (list_any (shows (point_of x)) xs)) (points_differ xs) (ap not none.0) (differ-first xs ys both.1)

module _ (part : ScatterPart) (m : Mesh) (a : List ℕ) (n r : ℕ) (is : IsPartOf part m a n r) where
  cells-differ : points_differ (cells_among part.cells) ≡ true
  unfolding points_of_part
  cells-differ =
      let tops = cells_among part.cells in
      let vs = map vertex_sight part.vertices in
      differ-first tops vs (differ-first (tops ++ vs) (faces_among part.cells) (differ-first (tops ++ vs ++ faces_among part.cells) (edges_among part.cells) (points-differ part m a n r is)))

  -- the set of a cell is not among those of the cells before it
  pub set-new : (i : ℕ) (none : ℕ × Cell) → i < length part.cells → list_any (same_list (set_of (get_or part.cells i none))) (map set_of (take i part.cells)) ≡ false
  set-new i none low =
      let cells = part.cells in
      let c = get_or cells i none in
      let before = take i cells in
      let split : before ++ c ∷ drop (suc i) cells ≡ cells = ap (λ l. before ++ l) (sym (drop-cons cells i none low)) ∙ take-append-drop i cells in
      let sights : cells_among before ++ cell_sight c.0 c.1 ∷ cells_among (drop (suc i) cells) ≡ cells_among cells = sym (map-append (λ (d : ℕ × Cell). cell_sight d.0 d.1) before (c ∷ drop (suc i) cells)) ∙ ap cells_among split in
      let Good : ℕ × Cell → Type 0 = λ d. (dim_of d.1.poly ≡ m.dim) × IsShort d.1.vertices in
      let good : AllByRecursion Good cells = all_both (λ (d : ℕ × Cell). dim_of d.1.poly ≡ m.dim) (λ (d : ℕ × Cell). IsShort d.1.vertices) Good (λ d x y. (x, y)) cells (dims part m a n r is) (short-cells part m a n r is) in
      let own : Good c = all_at Good cells i none good low in
      let earlier : AllByRecursion Good before = all_append_first Good before (c ∷ drop (suc i) cells) (subst (AllByRecursion Good) (sym split) good) in
      any_map (same_list (set_of c)) set_of before
      ∙ any_agree (λ (d : ℕ × Cell). same_list (set_of c) (set_of d)) (λ (d : ℕ × Cell). shows (point_of (cell_sight c.0 c.1)) (cell_sight d.0 d.1)) before
      (all_weaker Good (λ (d : ℕ × Cell). same_list (set_of c) (set_of d) ≡ shows (point_of (cell_sight c.0 c.1)) (cell_sight d.0 d.1)) (λ d g. filled-same c.1.vertices d.1.vertices own.1 g.1 ∙ sym (whole-test (dim_of c.1.poly) c.1.vertices d (g.0 ∙ sym own.0))) before earlier)
      ∙ sym (any_map (shows (point_of (cell_sight c.0 c.1))) (λ (d : ℕ × Cell). cell_sight d.0 d.1) before)
      ∙ shown-before (cells_among before) (cell_sight c.0 c.1) (cells_among (drop (suc i) cells)) (ap points_differ sights ∙ cells-differ)

-- a cell is found by its place
sets-found : (vs : List ℕ) (cells : List (ℕ × Cell)) → IsShort vs → AllByRecursion (λ (c : ℕ × Cell). IsShort c.1.vertices) cells → AllByRecursion (λ (c : ℕ × Cell). same_list (filled vs) (set_of c) ≡ same_set vs c.1.vertices) cells
sets-found vs cells is all = all_weaker (λ (c : ℕ × Cell). IsShort c.1.vertices) (λ (c : ℕ × Cell). same_list (filled vs) (set_of c) ≡ same_set vs c.1.vertices) (λ c short. filled-same vs c.1.vertices is short) cells all

pub place-of_set : (vs : List ℕ) (cells : List (ℕ × Cell)) → IsShort vs → AllByRecursion (λ (c : ℕ × Cell). IsShort c.1.vertices) cells → position (same_list (filled vs)) (map set_of cells) ≡ position (λ (c : ℕ × Cell). same_set vs c.1.vertices) cells
place-of_set vs cells is all =
    let place : position_or_len (same_list (filled vs)) (map set_of cells) ≡ position_or_len (λ (c : ℕ × Cell). same_set vs c.1.vertices) cells =
    position_map (same_list (filled vs)) set_of cells ∙ position_agree (λ (c : ℕ × Cell). same_list (filled vs) (set_of c)) (λ (c : ℕ × Cell). same_set vs c.1.vertices) cells (sets-found vs cells is all) in
    λ i. cond (nat_lt (place i) (length-map cells set_of i)) (Some (place i)) None
