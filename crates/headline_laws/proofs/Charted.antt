-- What some cell of a sound mesh contains stands in the chart of all cells.
use Rattle.std.proofs.Common.{◌≡◌, ℕ, ◌<◌, Bool, true, ◌==◌, List, [], ◌∷◌, map, length, refl, sym, ap, ◌∙◌, inl, inr, ◌⊎◌, ⊎_elim, arith}
use Rattle.std.specs.List.{list_any, AllByRecursion, enumerate_from}
use Rattle.std.proofs.lemmas.Bool.{eqb-true, and_parts, or_cases, or_left, or_right}
use Rattle.std.proofs.lemmas.List.Folds.{list_any-append}
use Rattle.plain_lists.specs.Lists.{same_list}
use Rattle.plain_lists.proofs.Each.{all_from, all_weaker, all_both, all_enumerated, each_passes}
use Rattle.plain_lists.proofs.Finding.{any_map, stands, found-any}
use Rattle.mesh_defs.specs.Tables.{Facet, dim_of, facets_of, edges_of}
use Rattle.mesh_defs.specs.Mesh.{Mesh, Cell, placed_cells}
use Rattle.mesh_defs.specs.Points.{Point, Sight, point_of, shows, sights_of, sights, vertex_sight, vertex_sights, contains, cell_face}
use Rattle.mesh_defs.specs.Diagram.{stratum, strata, chart}
use Rattle.mesh_laws.proofs.Containing.{sights_of-any_place, chart-all, all_sights_of}
use Rattle.mesh_laws.proofs.Firsts.{shows-true}
use Rattle.mesh_laws.proofs.Vertices.{vertex_found}
use Rattle.mesh_defs.specs.RightMesh.{IsSoundCell, IsSoundMesh, in_some}
use Rattle.rank_laws.proofs.Found.{shown-in_strata, shown-in_stratum}
use Rattle.rank_laws.proofs.Shapes.{is_face_of, facets-are_faces}

-- what follows from each element that passes follows where some element does
pub each_tells : {X : Type 0} (q : X → Bool) (b : Bool) (xs : List X) → AllByRecursion (λ x. q x ≡ true → b ≡ true) xs → list_any q xs ≡ true → b ≡ true
each_tells q b [] f h = absurd (cc h)
each_tells q b (x ∷ xs) f h = ⊎_elim (λ a. f.0 a) (λ a. each_tells q b xs f.1 a) (or_cases (q x) (list_any q xs) h)

-- what one of some cells sees, the cells see
seen-by : (p : Point) (cells : List (ℕ × Cell)) → list_any (λ c. list_any (shows p) (sights_of c)) cells ≡ true → list_any (shows p) (sights cells) ≡ true
seen-by p [] h = absurd (cc h)
seen-by p (c ∷ cells) h = list_any-append (shows p) (sights_of c) (sights cells)
    ∙ ⊎_elim (λ a. or_left (list_any (shows p) (sights_of c)) (list_any (shows p) (sights cells)) a) (λ a. or_right (list_any (shows p) (sights_of c)) (list_any (shows p) (sights cells)) (seen-by p cells a))
    (or_cases (list_any (shows p) (sights_of c)) (list_any (λ d. list_any (shows p) (sights_of d)) cells) h)

module _ (m : Mesh) where
  -- of the mesh's dimension, an edge, or a face of a solid mesh
  abbrev HasLevel : Sight → Type 0
  HasLevel s = (dim_of s.poly ≡ m.dim) ⊎ ((dim_of s.poly ≡ 1) ⊎ ((dim_of s.poly ≡ 2) × (m.dim ≡ 3)))

  levels : (c : ℕ) (cell : Cell) → IsSoundCell m cell → AllByRecursion HasLevel (sights_of (c, cell))
  levels c cell good = all_sights_of HasLevel c cell (inl good.dim)
      (λ solid. all_weaker (λ (f : ℕ × Facet). is_face_of cell.poly f.1 ≡ true) (λ f. HasLevel (cell_face c cell f))
      (λ f h. inr (inr (eqb-true (dim_of f.1.poly) 2 (and_parts _ _ (and_parts _ _ h).0).1, sym good.dim ∙ solid)))
      (enumerate_from 0 (facets_of cell.poly))
      (all_enumerated (λ f. is_face_of cell.poly f ≡ true) 0 (facets_of cell.poly) (each_passes (is_face_of cell.poly) (facets_of cell.poly) (facets-are_faces cell.poly solid))))
      (all_from _ (λ e. inr (inl refl)) (enumerate_from 0 (edges_of cell.poly)))

module _ (m : Mesh) (sound : IsSoundMesh m) (p : Point) where
  -- a point that cells see at such a level is shown
  level-shown : list_any (shows p) (sights (placed_cells m)) ≡ true → (s : Sight) → HasLevel m s → shows p s ≡ true → list_any (shows p) (strata m) ≡ true
  level-shown seen s level h = go level
    where
      same : p.dim ≡ dim_of s.poly
      same = eqb-true p.dim (dim_of s.poly) (and_parts (p.dim == dim_of s.poly) (same_list p.vertices (point_of s).vertices) h).0

      positive : 0 < m.dim
      positive = ⊎_elim (λ e. omega (arith, e)) (λ e. omega (arith, e)) sound.dim

      go : HasLevel m s → list_any (shows p) (strata m) ≡ true
      go (inl whole) = shown-in_strata m p p.dim refl (shown-in_stratum m p (λ e. absurd (omega (arith, e, same, whole, positive))) seen) (inl (same ∙ whole))
      go (inr (inl edge)) = shown-in_strata m p p.dim refl (shown-in_stratum m p (λ e. absurd (omega (arith, e, same, edge))) seen) (inr (inr (inl (same ∙ edge))))
      go (inr (inr (face, solid))) = shown-in_strata m p p.dim refl (shown-in_stratum m p (λ e. absurd (omega (arith, e, same, face))) seen) (inr (inr (inr (same ∙ face, solid))))

  -- a vertex of the mesh is shown
  vertex-shown : (v : ℕ) → v < length m.at → shows p (vertex_sight v) ≡ true → list_any (shows p) (strata m) ≡ true
  unfolding stratum
  vertex-shown v low h =
      let same : p ≡ point_of (vertex_sight v) = shows-true p (vertex_sight v) h in
      let found : list_any (shows p) (stratum m 0) ≡ true = ap (λ q. list_any (shows q) (vertex_sights m)) same ∙ found-any (shows (point_of (vertex_sight v))) (vertex_sights m) (vertex_sight v) (vertex_found (length m.at) v low) in
      shown-in_strata m p 0 (ap (λ (q : Point). q.dim) same) found (inr (inl refl))

  -- what a cell contains is shown
  cell-shown : (c : ℕ × Cell) → IsSoundCell m c.1 → ((q : ℕ × Cell → Bool) → q c ≡ true → list_any q (placed_cells m) ≡ true) → contains c.1 p ≡ true → list_any (shows p) (strata m) ≡ true
  unfolding contains
  cell-shown c good there h = ⊎_elim
      (λ a. each_tells (λ v. shows p (vertex_sight v)) (list_any (shows p) (strata m)) c.1.vertices
      (all_weaker (λ v. v < length m.at) (λ v. shows p (vertex_sight v) ≡ true → list_any (shows p) (strata m) ≡ true) vertex-shown c.1.vertices good.in_range)
      (sym (any_map (shows p) vertex_sight c.1.vertices) ∙ a))
      (λ a. let own : list_any (shows p) (sights_of c) ≡ true = sights_of-any_place p c.0 0 c.1 ∙ a in
      let seen = seen-by p (placed_cells m) (there (λ d. list_any (shows p) (sights_of d)) own) in
      each_tells (shows p) (list_any (shows p) (strata m)) (sights_of c)
      (all_weaker (HasLevel m) (λ s. shows p s ≡ true → list_any (shows p) (strata m) ≡ true) (level-shown seen) (sights_of c) (levels m c.0 c.1 good)) own)
      (or_cases (list_any (shows p) (map vertex_sight c.1.vertices)) (list_any (shows p) (sights_of (0, c.1))) (sym (list_any-append (shows p) (map vertex_sight c.1.vertices) (sights_of (0, c.1))) ∙ h))

  pub some-charted : in_some p (placed_cells m) ≡ true → list_any (shows p) (chart m (placed_cells m)) ≡ true
  some-charted h = ap (list_any (shows p)) (chart-all m sound.used) ∙ each_tells (λ (c : ℕ × Cell). contains c.1 p) (list_any (shows p) (strata m)) (placed_cells m)
      (all_both (λ (c : ℕ × Cell). IsSoundCell m c.1) (λ c. (q : ℕ × Cell → Bool) → q c ≡ true → list_any q (placed_cells m) ≡ true) (λ c. contains c.1 p ≡ true → list_any (shows p) (strata m) ≡ true) cell-shown (placed_cells m)
      (all_enumerated (IsSoundCell m) 0 m.cells sound.cells) (stands (placed_cells m))) h
