-- The vertices and cells of a generated mesh one by one.
use Rattle.std.proofs.Common.{◌≡◌, ℕ, ◌+◌, ◌*◌, ◌/◌, ◌%◌, ◌^◌, ◌<◌, ◌≤◌, Bool, true, false, not, ℤ, pos, List, [], ◌∷◌, ◌++◌, map, length, get_or, take, zero, suc, refl, sym, ap, ap₂, ◌∙◌, subst, arith}
use Rattle.std.proofs.lemmas.List.{length-map, get_or-map, take_more, take-map, length-take-le}
use Rattle.mesh_defs.specs.declared.Poly.{Poly}
use Rattle.mesh_defs.specs.declared.Poly.TheVariants.{Vertex}
use Rattle.mesh_defs.specs.Mesh.{Mesh, Cell}
use Rattle.mesh_defs.specs.RightMesh.{IsSoundCell}
use Rattle.input_defs.specs.declared.Kind.{Kind}
use Rattle.input_defs.specs.declared.Kind.TheVariants.{Tri, Quad, Tet, Hex}
use Rattle.input_defs.specs.Words.{most}
use Rattle.input_defs.specs.Generated.{GridPoint, poly_of, layers, cuts, grid, grid_points, grid_cells, corners_at, cells_at, made}
use Rattle.input_laws.proofs.made_laws.Grids.{length-grid}
use Rattle.input_laws.proofs.made_laws.Made.{points-count, cells-count, right-made}
use Rattle.plex_mesh.proofs.Right.{same_set-turn}
use Rattle.mesh_make.specs.Spots.{no_point, partly}
use Rattle.mesh_make.proofs.Spots.{get_or-each, layer-below}
use Rattle.std.specs.List.{list_any}
use Rattle.std.proofs.lemmas.Bool.{and_parts}
use Rattle.plain_lists.specs.Lists.{same_set, differ_as_sets, picked}
use Rattle.plain_lists.proofs.Each.{all_at}
use Rattle.plain_lists.proofs.Finding.{each_fails}

-- of sets that differ, each is new after those before it
pub new-after : (xss : List (List ℕ)) (j : ℕ) (d : List ℕ) → differ_as_sets xss ≡ true → j < length xss → list_any (same_set (get_or xss j d)) (take j xss) ≡ false
new-after [] j d h low = absurd (omega arith)
new-after (xs ∷ xss) zero d h low = refl
new-after (xs ∷ xss) (suc j) d h low =
    let both = and_parts (not (list_any (same_set xs) xss)) (differ_as_sets xss) h in
    let apart = all_at (λ ys. same_set xs ys ≡ false) xss j d (each_fails (same_set xs) xss (is-false (list_any (same_set xs) xss) both.0)) (omega arith) in
    rw (same_set-turn (get_or xss j d) xs, apart) (new-after xss j d both.1 (omega arith))
  where
    is-false : (b : Bool) → not b ≡ true → b ≡ false
    is-false true h = absurd (cc)
    is-false false h = refl

-- ---- vertices

abbrev pub coordinates_of : GridPoint → List ℤ
coordinates_of p = map (λ c. pos (c * 10 ^ 10)) (p.x ∷ p.y ∷ p.z ∷ [])

at-point : (kind : Kind) (n i : ℕ) (p : GridPoint) → i < layers kind (n + 1) * ((n + 1) * (n + 1)) → get_or (grid (n + 1) (n + 1) (layers kind (n + 1))) i no_point ≡ p → get_or (made kind n).at i [] ≡ coordinates_of p
unfolding made grid_points
at-point kind n i p low is = get_or-map coordinates_of (grid (n + 1) (n + 1) (layers kind (n + 1))) i no_point [] (subst (λ k. i < k) (sym (length-grid (n + 1) (n + 1) (layers kind (n + 1)))) low) ∙ ap coordinates_of is

-- one vertex more
pub points-step : (kind : Kind) (n i : ℕ) (p : GridPoint) → i < layers kind (n + 1) * ((n + 1) * (n + 1)) → get_or (grid (n + 1) (n + 1) (layers kind (n + 1))) i no_point ≡ p
    → take (i + 1) (made kind n).at ≡ take i (made kind n).at ++ coordinates_of p ∷ []
points-step kind n i p low is =
    let inside : i < length (made kind n).at = subst (λ k. i < k) (sym (points-count kind n)) low in
    take_more (made kind n).at i [] inside ∙ ap (λ a. take i (made kind n).at ++ a ∷ []) (at-point kind n i p low is)

-- ---- cells

abbrev no_cell : Cell
no_cell = record { poly = Vertex; vertices = [] }

some-cut : (kind : Kind) → 0 < length (cuts kind)
some-cut Tri = omega arith
some-cut Quad = omega arith
some-cut Tet = omega arith
some-cut Hex = omega arith

-- the spot of a cell is one of the grid's
pub piece-below : (kind : Kind) (each spots j : ℕ) → each ≡ length (cuts kind) → j < spots * length (cuts kind) → j / each < spots
piece-below kind each spots j count low =
    let some = some-cut kind in
    layer-below each spots j (omega (arith, count, some)) (subst (λ k. j < spots * k) (sym count) low)

cell-at : (kind : Kind) (n j : ℕ) (p : GridPoint) → j < layers kind n * (n * n) * length (cuts kind) → get_or (grid n n (layers kind n)) (j / length (cuts kind)) no_point ≡ p
    → get_or (made kind n).cells j no_cell ≡ record { poly = poly_of kind; vertices = picked (corners_at n p) (get_or (cuts kind) (j % length (cuts kind)) []) }
unfolding made grid_cells cells_at
cell-at kind n j p low is =
    let some = some-cut kind in
    let inside : j < length (grid n n (layers kind n)) * length (cuts kind) = subst (λ k. j < k * length (cuts kind)) (sym (length-grid n n (layers kind n))) low in
    let rest : j % length (cuts kind) < length (cuts kind) = omega arith in
    get_or-each (cells_at kind n) (length (cuts kind)) some (λ q. length-map (cuts kind) _) (grid n n (layers kind n)) j no_point no_cell inside
    ∙ ap (λ q. get_or (cells_at kind n q) (j % length (cuts kind)) no_cell) is
    ∙ get_or-map (λ (cut : List ℕ). record { poly = poly_of kind; vertices = picked (corners_at n p) cut }) (cuts kind) (j % length (cuts kind)) [] no_cell rest

-- the cell that comes next in a mesh with the first j cells
pub record IsNext (kind : Kind) (n j : ℕ) (m : Mesh) (cell : Cell) : Type 0 where
  pub few : length m.cells < 250000
  pub sound : IsSoundCell m cell
  pub fresh : list_any (same_set cell.vertices) (map (λ (c : Cell). c.vertices) m.cells) ≡ false
  pub more : take (j + 1) (made kind n).cells ≡ take j (made kind n).cells ++ cell ∷ []

next-is : (kind : Kind) (n j : ℕ) (cell : Cell) → 1 ≤ n → n ≤ most kind → j < length (made kind n).cells → get_or (made kind n).cells j no_cell ≡ cell → IsNext kind n j (partly kind n (made kind n).at (take j (made kind n).cells)) cell
next-is kind n j cell some few low is =
    let right = right-made kind n some few in
    let sound = subst (IsSoundCell (made kind n)) is (all_at (IsSoundCell (made kind n)) (made kind n).cells j no_cell right.sound.cells low) in
    let vertices : get_or (map (λ (c : Cell). c.vertices) (made kind n).cells) j [] ≡ cell.vertices = get_or-map (λ (c : Cell). c.vertices) (made kind n).cells j no_cell [] low ∙ ap (λ (c : Cell). c.vertices) is in
    record {
      few = rw (length-take-le j (made kind n).cells (let h : j ≤ length (made kind n).cells = omega arith in h)) (omega (arith, low, right.few_cells));
      sound = record { dim = sound.dim; corners = sound.corners; in_range = sound.in_range; different = sound.different };
      fresh = ap₂ (λ vs xss. list_any (same_set vs) xss) (sym vertices) (sym (take-map (λ (c : Cell). c.vertices) j (made kind n).cells))
          ∙ new-after (map (λ (c : Cell). c.vertices) (made kind n).cells) j [] right.differ (subst (λ k. j < k) (sym (length-map (made kind n).cells (λ (c : Cell). c.vertices))) low);
      more = take_more (made kind n).cells j no_cell low ∙ ap (λ c. take j (made kind n).cells ++ c ∷ []) is;
    }

pub next-cell : (kind : Kind) (n j each : ℕ) (m : Mesh) (p : GridPoint) (corners vs : List ℕ) (poly : Poly) → 1 ≤ n → n ≤ most kind → each ≡ length (cuts kind) → j < layers kind n * (n * n) * length (cuts kind)
    → m ≡ partly kind n (made kind n).at (take j (made kind n).cells) → get_or (grid n n (layers kind n)) (j / each) no_point ≡ p
    → corners ≡ corners_at n p → vs ≡ picked corners (get_or (cuts kind) (j % each) []) → poly ≡ poly_of kind
    → IsNext kind n j m (record { poly = poly; vertices = vs })
next-cell kind n j each m p corners vs poly some few count low is-m is-p is-corners is-vs is-poly =
    let spot = subst (λ k. get_or (grid n n (layers kind n)) (j / k) no_point ≡ p) count is-p in
    let cell : get_or (made kind n).cells j no_cell ≡ record { poly = poly; vertices = vs } =
    cell-at kind n j p low spot
    ∙ ap₂ (λ q us. record { poly = q; vertices = us }) (sym is-poly)
    (ap (λ cs. picked cs (get_or (cuts kind) (j % length (cuts kind)) [])) (sym is-corners) ∙ ap (λ k. picked corners (get_or (cuts kind) (j % k) [])) (sym count) ∙ sym is-vs) in
    subst (λ (w : Mesh). IsNext kind n j w (record { poly = poly; vertices = vs })) (sym is-m)
    (next-is kind n j (record { poly = poly; vertices = vs }) some few (subst (λ k. j < k) (sym (cells-count kind n)) low) cell)
