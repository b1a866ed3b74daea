-- Cells that contain a point contain its vertices, so that what ranks share has shared vertices.
use Rattle.std.proofs.Common.{◌≡◌, ◌≢◌, ℕ, ◌<◌, Bool, true, false, not, ◌==◌, nat_lt, List, [], ◌∷◌, ◌++◌, map, length, get_or, refl, sym, ap, ◌∙◌, subst, ⊎_elim}
use Rattle.std.specs.List.{list_any, list_all, AllByRecursion, enumerate_from}
use Rattle.std.proofs.lemmas.Bool.{and_parts, eqb-true, eq-eqb, ne_eqb, ltb-true, not-true, both_ways, or_left, or_right, or_cases}
use Rattle.plain_lists.specs.Lists.{below, picked}
use Rattle.plain_lists.proofs.Each.{all_weaker, all_append, all_map, all_enumerated, each_passes}
use Rattle.plain_lists.proofs.Finding.{stands, among, any_weaker}
use Rattle.plain_lists.proofs.Sorted.{all_sorted}
use Rattle.mesh_defs.proofs.RightMeshes.{are_corners}
use Rattle.mesh_defs.specs.Tables.{Facet, corner_count, facets_of, edges_of}
use Rattle.mesh_defs.specs.Mesh.{Mesh, Cell}
use Rattle.mesh_defs.specs.Points.{Point, Sight, shows, sights_of, vertex_sight, cell_face, cell_edge, contains}
use Rattle.mesh_defs.specs.RightMesh.{IsSoundCell, IsSoundMesh, AreCells, in_some}
use Rattle.mesh_laws.proofs.Firsts.{shows-true}
use Rattle.mesh_laws.proofs.Containing.{all_sights_of, vertex-contained, eqb-sym}
use Rattle.rank_laws.proofs.diagram_laws.Edges.{picked-below}
use Rattle.rank_defs.specs.Ranks.{assigned, held_cells, ranks_at, owner, is_shared}
use Rattle.rank_laws.proofs.Shapes.{is_face_of, facets-are_faces, is_pair, edges-are_pairs}
use Rattle.rank_laws.proofs.TurnedEdges.{pair-below}
use Rattle.rank_laws.proofs.Owning.{in_assigned, owner-assigned, held-are_cells}
use Rattle.rank_laws.proofs.ChartsClosed.{held-cells}
use Rattle.rank_laws.specs.share_laws.Charts.{vertex_point}
use Rattle.rank_laws.proofs.share_laws.Own.{sound-cells}

-- different corners below n are below n
corners-below : (n : ℕ) (cs : List ℕ) → are_corners n cs ≡ true → AllByRecursion (λ c. c < n) cs
corners-below n cs h =
    let both = and_parts (list_all (λ c. nat_lt c n) cs) (list_all (λ k. list_all (λ l. not (get_or cs l 0 == get_or cs k 0)) (below k)) (below (length cs))) h in
    all_weaker (λ c. nat_lt c n ≡ true) (λ c. c < n) (λ c e. ltb-true c n e) cs (each_passes (λ c. nat_lt c n) cs both.0)

-- ---- one cell

module _ (m : Mesh) (cell : Cell) (sound : IsSoundCell m cell) where
  -- the vertex is one of the cell's
  abbrev pub IsHere : ℕ → Type 0
  IsHere v = contains cell (vertex_point v) ≡ true

  -- the cell has its own vertices
  all-here : AllByRecursion IsHere cell.vertices
  all-here = all_weaker (λ v. (q : ℕ → Bool) → q v ≡ true → list_any q cell.vertices ≡ true) IsHere (λ v there. vertex-contained v cell (there (λ w. w == v) (eq-eqb v v refl))) cell.vertices (stands cell.vertices)

  -- and those of its faces and edges
  corners-here : (cs : List ℕ) → AllByRecursion (λ c. c < corner_count cell.poly) cs → AllByRecursion IsHere (picked cell.vertices cs)
  corners-here cs h = picked-below IsHere cell.vertices cs all-here (subst (λ n. AllByRecursion (λ c. c < n) cs) (sym sound.corners) h)

  sights-here : (c : ℕ) → AllByRecursion (λ (s : Sight). AllByRecursion IsHere s.arrangement) (sights_of (c, cell))
  sights-here c = all_sights_of (λ (s : Sight). AllByRecursion IsHere s.arrangement) c cell all-here
      (λ solid. all_weaker (λ (f : ℕ × Facet). is_face_of cell.poly f.1 ≡ true) (λ f. AllByRecursion IsHere (cell_face c cell f).arrangement)
      (λ f h. let both = and_parts _ _ h in let corners = and_parts _ _ both.1 in corners-here f.1.corners (corners-below (corner_count cell.poly) f.1.corners corners.0))
      (enumerate_from 0 (facets_of cell.poly)) (all_enumerated (λ f. is_face_of cell.poly f ≡ true) 0 (facets_of cell.poly) (each_passes (is_face_of cell.poly) (facets_of cell.poly) (facets-are_faces cell.poly solid))))
      (all_weaker (λ (e : ℕ × List ℕ). is_pair (corner_count cell.poly) e.1 ≡ true) (λ e. AllByRecursion IsHere (cell_edge c cell e).arrangement)
      (λ e h. corners-here e.1 (pair-below (corner_count cell.poly) e.1 h))
      (enumerate_from 0 (edges_of cell.poly)) (all_enumerated (λ e. is_pair (corner_count cell.poly) e ≡ true) 0 (edges_of cell.poly) (each_passes (is_pair (corner_count cell.poly)) (edges_of cell.poly) (edges-are_pairs cell.poly))))

  -- the vertices of a point that it contains
  pub point-here : (p : Point) → contains cell p ≡ true → AllByRecursion IsHere p.vertices
  unfolding contains
  point-here p h =
      let (s, here, e) = among (λ (s : Sight). AllByRecursion IsHere s.arrangement) (shows p) (map vertex_sight cell.vertices ++ sights_of (0, cell))
      (all_append (λ (s : Sight). AllByRecursion IsHere s.arrangement) (map vertex_sight cell.vertices) (sights_of (0, cell)) (all_map (λ (s : Sight). AllByRecursion IsHere s.arrangement) vertex_sight cell.vertices (all_weaker IsHere (λ v. AllByRecursion IsHere (v ∷ [])) (λ v g. (g, tt)) cell.vertices all-here)) (sights-here 0)) h in
      subst (λ (q : Point). AllByRecursion IsHere q.vertices) (sym (shows-true p s e)) (all_sorted IsHere s.arrangement here)

-- ---- some cells

-- what has some number, at that number
at-number : (P : ℕ → Type 0) (v : ℕ) (vs : List ℕ) → AllByRecursion P vs → list_any (λ w. w == v) vs ≡ true → P v
at-number P v vs h e = let (w, g, same) = among P (λ w. w == v) vs h e in subst P (eqb-true w v same) g

-- cells of a sound mesh that contain a point contain its vertices
pub vertices-inside : (m : Mesh) (cells : List (ℕ × Cell)) → IsSoundMesh m → AreCells m cells → (p : Point) (v : ℕ) → in_some p cells ≡ true → list_any (λ w. w == v) p.vertices ≡ true → in_some (vertex_point v) cells ≡ true
vertices-inside m cells sound are p v h e = go cells (sound-cells m sound cells are) h
  where
    go : (ds : List (ℕ × Cell)) → AllByRecursion (λ (c : ℕ × Cell). IsSoundCell m c.1) ds → in_some p ds ≡ true → in_some (vertex_point v) ds ≡ true
    go [] s i = i
    go (d ∷ ds) s i = ⊎_elim (λ b. or_left _ _ (at-number (IsHere m d.1 s.0) v p.vertices (point-here m d.1 s.0 p b) e)) (λ b. or_right _ _ (go ds s.1 b)) (or_cases (contains d.1 p) (in_some p ds) i)

-- ---- shared points

module _ (m : Mesh) (a : List ℕ) (sound : IsSoundMesh m) where
  -- a rank that has a point has its vertices
  pub rank-vertices : (r : ℕ) (p : Point) (v : ℕ) → in_some p (assigned m a r) ≡ true → list_any (λ w. w == v) p.vertices ≡ true → in_some (vertex_point v) (assigned m a r) ≡ true
  unfolding held_cells
  rank-vertices r p v h e = vertices-inside m (assigned m a r) sound (held-cells m a r 0) p v h e

  -- two ranks that have a point share it
  two-holders : (q r : ℕ) (p : Point) → q ≢ r → in_some p (assigned m a q) ≡ true → in_some p (assigned m a r) ≡ true → is_shared m a p ≡ true
  unfolding is_shared
  two-holders q r p ne h i = go (owner m a p == q) refl
    where
      other : (s : ℕ) → (owner m a p == s) ≡ false → in_some p (assigned m a s) ≡ true → list_any (λ t. not (t == owner m a p)) (ranks_at m a p) ≡ true
      other s f g = any_weaker (λ t. t == s) (λ t. not (t == owner m a p)) (λ t k. ap not (eqb-sym t (owner m a p) ∙ ap (λ u. owner m a p == u) (eqb-true t s k) ∙ f)) (ranks_at m a p) (sym (in_assigned m a s p) ∙ g)

      go : (b : Bool) → (owner m a p == q) ≡ b → list_any (λ t. not (t == owner m a p)) (ranks_at m a p) ≡ true
      go false f = other q f h
      go true f = other r (ne_eqb (owner m a p) r (λ same. ne (sym (eqb-true (owner m a p) q f) ∙ same))) i

  -- the vertices of a shared point are shared
  pub shared-vertices : (p : Point) (v : ℕ) → is_shared m a p ≡ true → list_any (λ w. w == v) p.vertices ≡ true → is_shared m a (vertex_point v) ≡ true
  unfolding is_shared held_cells
  shared-vertices p v h e =
      let (r, here, ne) = among (λ r. in_some p (assigned m a r) ≡ true) (λ r. not (r == owner m a p)) (ranks_at m a p) holders h in
      two-holders (owner m a p) r (vertex_point v) (λ same. both_ways _ (not-true _ ne) (eq-eqb r (owner m a p) (sym same)))
      (rank-vertices (owner m a p) p v (owner-assigned m a p (held-are_cells m a r 0 (λ (c : ℕ × Cell). contains c.1 p) here)) e) (rank-vertices r p v here e)
    where
      holders : AllByRecursion (λ r. in_some p (assigned m a r) ≡ true) (ranks_at m a p)
      holders = all_weaker (λ r. (q : ℕ → Bool) → q r ≡ true → list_any q (ranks_at m a p) ≡ true) (λ r. in_some p (assigned m a r) ≡ true) (λ r there. in_assigned m a r p ∙ there (λ q. q == r) (eq-eqb r r refl)) (ranks_at m a p) (stands (ranks_at m a p))
