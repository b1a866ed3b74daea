-- Counts of points, one point more.
use Rattle.std.proofs.Common.{◌≡◌, ℕ, ◌+◌, ◌<◌, ◌≤◌, Bool, true, false, cond, ◌==◌, List, [], ◌∷◌, ◌++◌, length, get_or, map, refl, sym, ap, ◌∙◌, ⊎_elim, subst, arith, length-append, get_or-set_same, get_or-set_other}
use Rattle.std.specs.Prelude.{filter, count_by, sum_by, set, if◌then◌else◌}
use Rattle.std.specs.List.{enumerate_from}
use Rattle.std.proofs.lemmas.Bool.{cases_eq, cond-true, cond-false, eq-eqb, ne_eqb}
use Rattle.std.proofs.lemmas.List.Sums.{sum_by-append, count_by-le-length, length-filter}
use Rattle.plain_lists.specs.Lists.{below}
use Rattle.plain_lists.proofs.Filters.{count-append}
use Rattle.rank_defs.specs.Spread.{LocalMesh, PlainDist}
use Rattle.mesh_defs.specs.declared.Poly.{Poly}
use Rattle.mesh_defs.specs.declared.Poly.TheVariants.{Vertex, Segment, Triangle, Quad, Tet, Hex}
use Rattle.mesh_defs.specs.Tables.{dim_of}
use Rattle.input_defs.specs.text_defs.Text.{total_line}
use Rattle.report.specs.declared.report_lines.steps.Totals.{Totals}
use Rattle.walk_defs.specs.step_defs.Points.{owned_by, count_of}
use Rattle.walk_defs.specs.step_defs.Steps.{own, own_cells, own_faces, own_in, ranks_of, plain_total}
use Rattle.step_report.specs.Conditions.{local_at}
use Rattle.step_report.specs.Counts.{is_of, has_dim, over_first, AreTotals}
use Rattle.step_report.proofs.Going.{below-push, by-places}
use Rattle.step_report.proofs.Placing.{passing, passing-more, count-le}

-- one more at a place
pub get_or-counted : (xs : List ℕ) (k d : ℕ) → k < length xs → get_or (set xs k (get_or xs k 0 + 1)) d 0 ≡ get_or xs d 0 + cond (k == d) 1 0
get_or-counted xs k d lt = ⊎_elim
    (λ (e : k ≡ d).
    let here : get_or (set xs k (get_or xs k 0 + 1)) k 0 ≡ get_or xs k 0 + 1 = rw get_or-set_same refl in
    subst (λ (j : ℕ). get_or (set xs k (get_or xs k 0 + 1)) j 0 ≡ get_or xs j 0 + 1) e here ∙ ap (λ (n : ℕ). get_or xs d 0 + n) (sym (cond-true (k == d) 1 0 (eq-eqb k d e))))
    (λ (ne : k ≡ d → ⊥).
    let other : d ≡ k → ⊥ = λ e. ne (sym e) in
    let same : get_or (set xs k (get_or xs k 0 + 1)) d 0 ≡ get_or xs d 0 = rw get_or-set_other refl in
    let none : get_or xs d 0 ≡ get_or xs d 0 + 0 = omega arith in
    same ∙ none ∙ ap (λ (n : ℕ). get_or xs d 0 + n) (sym (cond-false (k == d) 1 0 (ne_eqb k d ne))))
    (cases_eq k d)

length-passing : (s : ℕ → Bool) (k : ℕ) → length (passing s k) ≡ cond (s k) 1 0
length-passing s k = go (s k)
  where
    go : (b : Bool) → length (cond b (k ∷ []) []) ≡ cond b 1 0
    go true = refl
    go false = refl

pub count-one : (s : ℕ → Bool) (k : ℕ) → length (filter s (below (k + 1))) ≡ length (filter s (below k)) + cond (s k) 1 0
count-one s k = ap length (passing-more s k) ∙ length-append (filter s (below k)) (passing s k) ∙ ap (λ (n : ℕ). length (filter s (below k)) + n) (length-passing s k)

-- of those that pass, one more that passes a second test
pub count-two : (q s : ℕ → Bool) (k : ℕ) → s k ≡ true → count_by q (filter s (below (k + 1))) ≡ count_by q (filter s (below k)) + cond (q k) 1 0
count-two q s k h =
    ap (count_by q) (passing-more s k ∙ ap (λ (t : List ℕ). filter s (below k) ++ t) (cond-true (s k) (k ∷ []) [] h)) ∙ count-append q (filter s (below k)) (k ∷ [])
    ∙ ap (λ (n : ℕ). count_by q (filter s (below k)) + n) (sym (length-filter q (k ∷ [])) ∙ length-passing q k)

pub count-stays : (q s : ℕ → Bool) (k : ℕ) → s k ≡ false → count_by q (filter s (below (k + 1))) ≡ count_by q (filter s (below k))
count-stays q s k h =
    ap (count_by q) (passing-more s k ∙ ap (λ (t : List ℕ). filter s (below k) ++ t) (cond-false (s k) (k ∷ []) [] h)) ∙ count-append q (filter s (below k)) [] ∙ (let e : count_by q (filter s (below k)) + 0 ≡ count_by q (filter s (below k)) = omega arith in e)

-- ---- sums over ranks

pub over-more : (d : PlainDist) (k : ℕ) (f : ℕ × LocalMesh → ℕ) → over_first d (k + 1) f ≡ over_first d k f + f (k, local_at d k)
over-more d k f =
    let g : ℕ → ℕ = λ r. f (r, local_at d r) in
    let one : sum_by g (k ∷ []) ≡ g k = omega arith in
    ap (sum_by g) (below-push k) ∙ sum_by-append g (below k) (k ∷ []) ∙ ap (λ (n : ℕ). sum_by g (below k) + n) one

sum_by-mapped : {X Y : Type 0} (f : Y → ℕ) (g : X → Y) (xs : List X) → sum_by f (map g xs) ≡ sum_by (λ x. f (g x)) xs
sum_by-mapped f g [] = refl
sum_by-mapped f g (x ∷ xs) =
    sum_by-append f (g x ∷ []) (map g xs) ∙ ap (λ (n : ℕ). sum_by f (g x ∷ []) + n) (sum_by-mapped f g xs) ∙ sym (sum_by-append (λ y. f (g y)) (x ∷ []) xs)

pub over-all : (d : PlainDist) (f : ℕ × LocalMesh → ℕ) → sum_by f (enumerate_from 0 d.locals) ≡ over_first d (length d.locals) f
over-all d f = ap (sum_by f) (by-places d.locals _) ∙ sum_by-mapped f (λ r. (r, local_at d r)) (below (length d.locals))

-- ---- totals

pub dim-few : (p : Poly) → dim_of p < 4
dim-few Vertex = omega arith
dim-few Segment = omega arith
dim-few Triangle = omega arith
dim-few Quad = omega arith
dim-few Tet = omega arith
dim-few Hex = omega arith

own-few : (l : LocalMesh) (r : ℕ) → length (owned_by r l) ≤ length l.diagram.points
own-few l r = count-le (is_of l r) (length l.diagram.points)

of_dim-few : (l : LocalMesh) (r d : ℕ) → count_of d l (owned_by r l) ≤ length l.diagram.points
of_dim-few l r d = let few = own-few l r in let part = count_by-le-length (has_dim l d) (owned_by r l) in omega (arith, few, part)

faces-few : (l : LocalMesh) (r : ℕ) → own_faces (r, l) ≤ length l.diagram.points
faces-few l r = go (l.diagram.dim == 3)
  where
    go : (b : Bool) → (if b then count_of 2 l (owned_by r l) else 0) ≤ length l.diagram.points
    go true = of_dim-few l r 2
    go false = omega arith

-- the totals with one rank more
pub totals-more : (d : PlainDist) (k : ℕ) (t : Totals) (l : LocalMesh) (points cells vertices faces edges : ℕ) → AreTotals d k t → l ≡ local_at d k → length l.diagram.points ≤ 4294967295
    → points ≡ length (own (k, l)) → cells ≡ own_cells (k, l) → vertices ≡ own_in 0 (k, l) → faces ≡ own_faces (k, l) → edges ≡ own_in 1 (k, l)
    → AreTotals d (k + 1) (record { points = t.points + points; cells = t.cells + cells; vertices = t.vertices + vertices; faces = t.faces + faces; edges = t.edges + edges })
totals-more d k t l points cells vertices faces edges h e few p c v f g =
    let more : (value : ℕ × LocalMesh → ℕ) (old one : ℕ) → old ≡ over_first d k value → one ≡ value (k, l) → old + one ≡ over_first d (k + 1) value = λ value old one a b.
    ap (λ (n : ℕ). n + one) a ∙ ap (λ (n : ℕ). over_first d k value + n) (b ∙ ap (λ (x : LocalMesh). value (k, x)) e) ∙ sym (over-more d k value) in
    record {
      points = more (λ r. length (own r)) t.points points h.points p;
      cells = more own_cells t.cells cells h.cells c;
      vertices = more (own_in 0) t.vertices vertices h.vertices v;
      faces = more own_faces t.faces faces h.faces f;
      edges = more (own_in 1) t.edges edges h.edges g;
      few_points = omega (arith, h.few_points, p, own-few l k, few);
      few_cells = omega (arith, h.few_cells, c, of_dim-few l k l.diagram.dim, few);
      few_vertices = omega (arith, h.few_vertices, v, of_dim-few l k 0, few);
      few_faces = omega (arith, h.few_faces, f, faces-few l k, few);
      few_edges = omega (arith, h.few_edges, g, of_dim-few l k 1, few);
    }

-- the line of all of them
pub total-plain : (d : PlainDist) (t : Totals) → AreTotals d (length d.locals) t → total_line t.points t.cells t.vertices t.faces t.edges ≡ plain_total (ranks_of d)
unfolding plain_total
total-plain d t h =
    let p = h.points ∙ sym (over-all d (λ r. length (own r))) in
    let c = h.cells ∙ sym (over-all d own_cells) in
    let v = h.vertices ∙ sym (over-all d (own_in 0)) in
    let f = h.faces ∙ sym (over-all d own_faces) in
    let e = h.edges ∙ sym (over-all d (own_in 1)) in
    ap (λ (n : ℕ). total_line n t.cells t.vertices t.faces t.edges) p ∙ ap (λ (n : ℕ). total_line (sum_by (λ r. length (own r)) (ranks_of d)) n t.vertices t.faces t.edges) c
    ∙ ap (λ (n : ℕ). total_line (sum_by (λ r. length (own r)) (ranks_of d)) (sum_by own_cells (ranks_of d)) n t.faces t.edges) v
    ∙ ap (λ (n : ℕ). total_line (sum_by (λ r. length (own r)) (ranks_of d)) (sum_by own_cells (ranks_of d)) (sum_by (own_in 0) (ranks_of d)) n t.edges) f
    ∙ ap (λ (n : ℕ). total_line (sum_by (λ r. length (own r)) (ranks_of d)) (sum_by own_cells (ranks_of d)) (sum_by (own_in 0) (ranks_of d)) (sum_by own_faces (ranks_of d)) n) e
