-- Keys rise along the sights of cells, so the first sight of a point has the least key.
use Rattle.std.proofs.Common.{◌≡◌, ◌≢◌, ℕ, zero, suc, ◌+◌, ◌*◌, ◌<◌, ◌≤◌, Bool, true, false, cond, ◌==◌, List, [], ◌∷◌, ◌++◌, map, length, get_or, ℤ, Option, Some, None, Contains, refl, ap, ◌∙◌, arith}
use Rattle.std.specs.Prelude.{find, option_map, option_and_then}
use Rattle.std.specs.List.{AllByRecursion, enumerate_from}
use Rattle.std.proofs.lemmas.Bool.{ne_eqb, and_left, both_ways}
use Rattle.mesh_defs.specs.declared.Poly.{Poly}
use Rattle.mesh_defs.specs.declared.Poly.TheVariants.{Vertex, Segment, Triangle, Quad, Tet, Hex}
use Rattle.plain_lists.specs.Lists.{below, same_list, sorted}
use Rattle.plain_lists.proofs.Finding.{none_passes, find-append_none}
use Rattle.plain_lists.proofs.Each.{all_map, all_from, all_weaker, all_at}
use Rattle.mesh_defs.specs.Tables.{dim_of, facets_of, edges_of}
use Rattle.mesh_defs.specs.Orientation.{act, relative}
use Rattle.mesh_defs.specs.Mesh.{Mesh, Cell, placed_cells}
use Rattle.mesh_defs.specs.Points.{Point, Sight, point_on, shows, sights_of, sights, vertex_sight, vertex_sights, first_sight, key, arrangement, cell_face, cell_edge, cell_edges}
use Rattle.mesh_defs.specs.Diagram.{seen_under}
use Rattle.mesh_laws.proofs.Turns.{relative-carries}

-- the keys rise from low on, and stay below high
abbrev pub KeysRise : ℕ → ℕ → List Sight → Type 0
KeysRise low high [] = low ≤ high
KeysRise low high (s ∷ ss) = (low ≤ s.key) × KeysRise (s.key + 1) high ss

-- wider bounds
pub rises-wider : (low low' high high' : ℕ) (ss : List Sight) → low' ≤ low → high ≤ high' → KeysRise low high ss → KeysRise low' high' ss
rises-wider low low' high high' [] l h r = omega arith
rises-wider low low' high high' (s ∷ ss) l h r = (omega (arith, r.0), rises-wider (s.key + 1) (s.key + 1) high high' ss (omega arith) h r.1)

-- two rising lists end to end
pub rises-append : (low mid high : ℕ) (xs ys : List Sight) → KeysRise low mid xs → KeysRise mid high ys → KeysRise low high (xs ++ ys)
rises-append low mid high [] ys p q = rises-wider mid low high high ys p (omega arith) q
rises-append low mid high (x ∷ xs) ys p q = (p.0, rises-append (x.key + 1) mid high xs ys p.1 q)

-- no key is below the lower bound
rises-low : (low high : ℕ) (ss : List Sight) → KeysRise low high ss → AllByRecursion (λ (s : Sight). low ≤ s.key) ss
rises-low low high [] r = tt
rises-low low high (s ∷ ss) r = (r.0, all_weaker (λ (t : Sight). s.key + 1 ≤ t.key) (λ (t : Sight). low ≤ t.key) (λ t h. omega (arith, r.0)) ss (rises-low (s.key + 1) high ss r.1))

-- sights that are numbered one after another
rises-numbered : {X : Type 0} (base : ℕ) (f : ℕ × X → Sight) → ((c : ℕ × X) → (f c).key ≡ base + c.0) → (n : ℕ) (xs : List X) → KeysRise (base + n) (base + n + length xs) (map f (enumerate_from n xs))
rises-numbered base f e n [] = omega arith
rises-numbered base f e n (x ∷ xs) = (
  omega (arith, e (n, x)),
  rises-wider (base + (n + 1)) ((f (n, x)).key + 1) (base + (n + 1) + length xs) (base + n + length (x ∷ xs)) (map f (enumerate_from (n + 1) xs)) (omega (arith, e (n, x))) (omega arith) (rises-numbered base f e (n + 1) xs),
)

-- no polytope has more than 6 facets
few_facets : (p : Poly) → length (facets_of p) ≤ 6
few_facets Vertex = omega arith
few_facets Segment = omega arith
few_facets Triangle = omega arith
few_facets Quad = omega arith
few_facets Tet = omega arith
few_facets Hex = omega arith

-- no polytope has more than 12 edges
few_edges : (p : Poly) → length (edges_of p) ≤ 12
few_edges Vertex = omega arith
few_edges Segment = omega arith
few_edges Triangle = omega arith
few_edges Quad = omega arith
few_edges Tet = omega arith
few_edges Hex = omega arith

-- the keys of cell c rise from 64c on
pub sights_of-rise : (c : ℕ) (cell : Cell) → KeysRise (64 * c) (64 * c + 64) (sights_of (c, cell))
unfolding sights_of
sights_of-rise c cell = (
  omega arith,
  rises-append (64 * c + 1) (64 * c + 8) (64 * c + 64) (faces (dim_of cell.poly == 3)) (cell_edges c cell) (faces-rise (dim_of cell.poly == 3))
      (rises-wider (64 * c + 8 + 0) (64 * c + 8) (64 * c + 8 + 0 + length (edges_of cell.poly)) (64 * c + 64) (cell_edges c cell) (omega arith) (omega (arith, few_edges cell.poly)) (rises-numbered (64 * c + 8) (cell_edge c cell) (λ e. refl) 0 (edges_of cell.poly))),
)
  where
    faces : Bool → List Sight
    faces b = cond b (map (cell_face c cell) (enumerate_from 0 (facets_of cell.poly))) []

    faces-rise : (b : Bool) → KeysRise (64 * c + 1) (64 * c + 8) (faces b)
    faces-rise true = rises-wider (64 * c + 1 + 0) (64 * c + 1) (64 * c + 1 + 0 + length (facets_of cell.poly)) (64 * c + 8) (faces true) (omega arith) (omega (arith, few_facets cell.poly)) (rises-numbered (64 * c + 1) (cell_face c cell) (λ e. refl) 0 (facets_of cell.poly))
    faces-rise false = omega arith

-- the keys of cells from place n on rise from 64n on
sights-rise : (n : ℕ) (cells : List Cell) → KeysRise (64 * n) (64 * (n + length cells)) (sights (enumerate_from n cells))
sights-rise n [] = omega arith
sights-rise n (cell ∷ cells) =
    rises-append (64 * n) (64 * n + 64) (64 * (n + length (cell ∷ cells))) (sights_of (n, cell)) (sights (enumerate_from (n + 1) cells)) (sights_of-rise n cell)
    (rises-wider (64 * (n + 1)) (64 * n + 64) (64 * (n + 1 + length cells)) (64 * (n + length (cell ∷ cells))) (sights (enumerate_from (n + 1) cells)) (omega arith) (omega arith) (sights-rise (n + 1) cells))

-- what is found first has the least key
pub found-least : (p : Point) (low high : ℕ) (ss : List Sight) (d : Sight) → KeysRise low high ss → (i : ℕ) → i < length ss → shows p (get_or ss i d) ≡ true → (t : Sight) × (find (shows p) ss ≡ Some t) × (t.key ≤ (get_or ss i d).key)
found-least p low high [] d r = λ i h s. absurd (omega arith)
found-least p low high (x ∷ xs) d r = go (shows p x) refl (found-least p (x.key + 1) high xs d r.1)
  where
    go : (b : Bool) → shows p x ≡ b → ((i : ℕ) → i < length xs → shows p (get_or xs i d) ≡ true → (t : Sight) × (find (shows p) xs ≡ Some t) × (t.key ≤ (get_or xs i d).key))
        → (i : ℕ) → i < length (x ∷ xs) → shows p (get_or (x ∷ xs) i d) ≡ true → (t : Sight) × (cond b (Some x) (find (shows p) xs) ≡ Some t) × (t.key ≤ (get_or (x ∷ xs) i d).key)
    go true e rest zero h s = (x, refl, omega arith)
    go true e rest (suc i) h s = (x, refl, omega (arith, all_at (λ (t : Sight). x.key + 1 ≤ t.key) xs i d (rises-low (x.key + 1) high xs r.1) (omega arith)))
    go false e rest zero h s = absurd (both_ways (shows p x) e s)
    go false e rest (suc i) h s = rest i (omega arith) s

-- the key of a point is the least key of its sights
pub key-least : (m : Mesh) (p : Point) (s : Sight) → p.dim ≢ 0 → Contains (sights (placed_cells m)) s → shows p s ≡ true → (k : ℕ) × (key m p ≡ Some k) × (k ≤ s.key)
unfolding key first_sight
key-least m p s ne (i, h, at) shown =
    let found = found-least p (64 * 0) (64 * (0 + length m.cells)) (sights (placed_cells m)) s (sights-rise 0 m.cells) i h (ap (shows p) at ∙ shown) in
    let none = none_passes (shows p) (vertex_sights m) (all_map (λ t. shows p t ≡ false) vertex_sight (below (length m.at)) (all_from (λ v. shows p (vertex_sight v) ≡ false) (λ v. and_left (p.dim == 0) (same_list p.vertices (sorted (v ∷ []))) (ne_eqb p.dim 0 ne)) (below (length m.at)))) in
    (found.0.key, ap (option_map (λ (t : Sight). t.key)) (find-append_none (shows p) (vertex_sights m) (sights (placed_cells m)) none ∙ found.1), omega (arith, found.2, ap (λ (t : Sight). t.key) at))

-- the orientation of what is seen carries the own arrangement onto it
pub seen_under-carries : (m : Mesh) (poly : Poly) (list : List ℕ) (o : ℤ) → seen_under m poly list ≡ Some o → (own : List ℕ) × (arrangement m (point_on poly list) ≡ Some own) × (act poly o own ≡ list)
unfolding seen_under
seen_under-carries m poly list o h = go (arrangement m (point_on poly list)) h
  where
    go : (a : Option (List ℕ)) → option_and_then (λ own. relative poly own list) a ≡ Some o → (own : List ℕ) × (a ≡ Some own) × (act poly o own ≡ list)
    go None e = absurd (cc e)
    go (Some own) e = (own, refl, relative-carries poly own list o e)
