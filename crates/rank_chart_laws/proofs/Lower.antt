-- Points below the cells are told by their sets of vertices, so that the charts of sets tell the forest of shared points.
use Rattle.std.proofs.Common.{◌≡◌, ◌≢◌, ◌⊎◌, ℕ, ◌+◌, ◌*◌, ◌^◌, ◌<◌, ◌≤◌, Bool, true, false, cond, not, ◌==◌, nat_lt, if◌then◌else◌, List, [], ◌∷◌, ◌++◌, map, length, get_or, refl, sym, ap, ap₂, ◌∙◌, subst, inl, inr, ⊎_elim, arith, append_assoc}
use Rattle.std.specs.List.{list_any, list_all, AllByRecursion, filter, enumerate_from}
use Rattle.std.specs.Cmp.Lexicographic.{same_text}
use Rattle.std.proofs.lemmas.Bool.{and_parts, and_from, and_left, eqb-true, eq-eqb, ne_eqb, ltb-true}
use Rattle.std.proofs.lemmas.List.{length-map, map-append}
use Rattle.plain_lists.specs.Lists.{below, same_list, sorted, picked}
use Rattle.plain_lists.proofs.Each.{all_weaker, all_both, all_from, all_append, all_map, all_filter, all_flat_map, all_enumerated, each_passes}
use Rattle.plain_lists.proofs.Below.{below-all}
use Rattle.plain_lists.proofs.Filters.{map_map_same, filter-mapped}
use Rattle.plain_lists.proofs.Finding.{same_tests, none_passes}
use Rattle.plain_lists.proofs.Sorted.{same_list-self, all_sorted}
use Rattle.mesh_defs.proofs.RightMeshes.{are_corners}
use Rattle.mesh_defs.specs.declared.Poly.{Poly}
use Rattle.mesh_defs.specs.declared.Poly.TheVariants.{Vertex, Segment, Triangle, Quad, Tet, Hex}
use Rattle.mesh_defs.specs.Tables.{Facet, dim_of, corner_count, facets_of, edges_of}
use Rattle.mesh_defs.specs.Mesh.{Mesh, Cell}
use Rattle.mesh_defs.specs.Points.{Point, Sight, same_point, point_of, sights_of, sights, vertex_sight, vertex_sights, cell_sight, cell_face, cell_edge}
use Rattle.mesh_defs.specs.RightMesh.{IsSoundCell, IsSoundMesh, CellsDiffer, in_some}
use Rattle.mesh_laws.proofs.Firsts.{same_point-true, firsts-all}
use Rattle.mesh_laws.proofs.Turns.{sorted-one}
use Rattle.mesh_laws.proofs.Containing.{all_sights_of}
use Rattle.rank_laws.proofs.diagram_laws.Edges.{picked-below}
use Rattle.rank_defs.specs.Ranks.{IsAssignment, assigned}
use Rattle.rank_defs.specs.Spread.{point_forest, own_stratum, own_chart}
use Rattle.rank_laws.proofs.Shapes.{HasShape, sights_of-shape, is_face_of, facets-are_faces, is_pair, edges-are_pairs}
use Rattle.rank_laws.proofs.TurnedEdges.{pair-below}
use Rattle.rank_laws.proofs.Found.{length-sorted}
use Rattle.rank_laws.specs.share_laws.Charts.{own_charts, points_of, first_holder, forest_of_charts}
use Rattle.rank_laws.specs.share_laws.Packed.{no_vertex, packed, IsPackable}
use Rattle.rank_laws.proofs.share_laws.Own.{own-of_dim}
use Rattle.rank_laws.proofs.share_laws.Owners.{own-forest}
use Rattle.rank_laws.proofs.share_laws.Packed.{packed-once}
use Rattle.rank_chart_laws.specs.meeting_laws.Sets.{filled, forest_of_sets}
use Rattle.rank_chart_laws.specs.OwnRanks.{own_vertices, own_middle, set_of, own_rank_chart, own_rank_charts}
use Rattle.rank_chart_laws.proofs.Wholes.{own-sound, top-cells, tops-first}
use Rattle.rank_chart_laws.proofs.Forests.{fill, sets-tell}

-- ---- points that their sets tell

-- the dimension of a point below the cells, by how many vertices it has
abbrev pub told_dim : ℕ → ℕ
told_dim n = if n == 1 then 0 else if n == 2 then 1 else 2

pub record IsLower (m : Mesh) (p : Point) : Type 0 where
  pub lower : p.dim ≢ m.dim
  pub packable : IsPackable p.vertices
  pub told : p.dim ≡ told_dim (length p.vertices)

-- equal filled sets are of equal sets
filled-once : (xs ys : List ℕ) → IsPackable xs → IsPackable ys → filled xs ≡ filled ys → xs ≡ ys
unfolding packed
filled-once xs ys p q e = packed-once xs ys p q (ap (λ (l : List ℕ). (get_or l 0 0 * 2 ^ 32 + get_or l 1 0) ∷ (get_or l 2 0 * 2 ^ 32 + get_or l 3 0) ∷ []) e)

pub same-filled : (m : Mesh) (p q : Point) → IsLower m p → IsLower m q → same_point p q ≡ same_list (fill p) (fill q)
same-filled m p q l k = same_tests (same_point p q) (same_list (fill p) (fill q))
    (λ h. ap (λ (x : Point). same_list (fill p) (fill x)) (sym (same_point-true p q h)) ∙ same_list-self (fill p))
    (λ h. let v : p.vertices ≡ q.vertices = filled-once p.vertices q.vertices l.packable k.packable (same_text (fill p) (fill q) (sym h)) in
    and_from (p.dim == q.dim) (same_list p.vertices q.vertices) (eq-eqb p.dim q.dim (l.told ∙ ap (λ (vs : List ℕ). told_dim (length vs)) v ∙ sym k.told)) (ap (same_list p.vertices) (sym v) ∙ same_list-self p.vertices))

-- ---- what cells see

corners-below : (n : ℕ) (cs : List ℕ) → are_corners n cs ≡ true → AllByRecursion (λ c. c < n) cs
corners-below n cs h =
    let both = and_parts (list_all (λ c. nat_lt c n) cs) (list_all (λ k. list_all (λ l. not (get_or cs l 0 == get_or cs k 0)) (below k)) (below (length cs))) h in
    all_weaker (λ c. nat_lt c n ≡ true) (λ c. c < n) (λ c e. ltb-true c n e) cs (each_passes (λ c. nat_lt c n) cs both.0)

module _ (m : Mesh) (cell : Cell) (sound : IsSoundCell m cell) where
  abbrev InRange : List ℕ → Type 0
  InRange vs = AllByRecursion (λ v. v < length m.at) vs

  corners-range : (cs : List ℕ) → AllByRecursion (λ c. c < corner_count cell.poly) cs → InRange (picked cell.vertices cs)
  corners-range cs h = picked-below (λ v. v < length m.at) cell.vertices cs sound.in_range (subst (λ n. AllByRecursion (λ c. c < n) cs) (sym sound.corners) h)

  sights-range : (c : ℕ) → AllByRecursion (λ (s : Sight). InRange s.arrangement) (sights_of (c, cell))
  sights-range c = all_sights_of (λ (s : Sight). InRange s.arrangement) c cell sound.in_range
      (λ solid. all_weaker (λ (f : ℕ × Facet). is_face_of cell.poly f.1 ≡ true) (λ f. InRange (cell_face c cell f).arrangement)
      (λ f h. let both = and_parts _ _ h in let corners = and_parts _ _ both.1 in corners-range f.1.corners (corners-below (corner_count cell.poly) f.1.corners corners.0))
      (enumerate_from 0 (facets_of cell.poly)) (all_enumerated (λ f. is_face_of cell.poly f ≡ true) 0 (facets_of cell.poly) (each_passes (is_face_of cell.poly) (facets_of cell.poly) (facets-are_faces cell.poly solid))))
      (all_weaker (λ (e : ℕ × List ℕ). is_pair (corner_count cell.poly) e.1 ≡ true) (λ e. InRange (cell_edge c cell e).arrangement)
      (λ e h. corners-range e.1 (pair-below (corner_count cell.poly) e.1 h))
      (enumerate_from 0 (edges_of cell.poly)) (all_enumerated (λ e. is_pair (corner_count cell.poly) e ≡ true) 0 (edges_of cell.poly) (each_passes (is_pair (corner_count cell.poly)) (edges_of cell.poly) (edges-are_pairs cell.poly))))

-- edges and polygons have as many corners as tells their dimension
dims-told : (p : Poly) → (dim_of p ≡ 1) ⊎ (dim_of p ≡ 2) → (dim_of p ≡ told_dim (corner_count p)) × (corner_count p ≤ 4)
dims-told Vertex (inl h) = absurd (omega arith)
dims-told Vertex (inr h) = absurd (omega arith)
dims-told Segment h = (refl, omega arith)
dims-told Triangle h = (refl, omega arith)
dims-told Quad h = (refl, omega arith)
dims-told Tet (inl h) = absurd (omega arith)
dims-told Tet (inr h) = absurd (omega arith)
dims-told Hex (inl h) = absurd (omega arith)
dims-told Hex (inr h) = absurd (omega arith)

module _ (m : Mesh) (sound : IsSoundMesh m) (few : length m.at < no_vertex) where
  -- a sight of an edge or a polygon, below the cells
  lower-sight : (s : Sight) → (dim_of s.poly ≡ 1) ⊎ (dim_of s.poly ≡ 2) → dim_of s.poly ≢ m.dim → HasShape s → AllByRecursion (λ v. v < length m.at) s.arrangement → IsLower m (point_of s)
  lower-sight s d ne shape range =
      let told = dims-told s.poly d in
      let long : length (sorted s.arrangement) ≡ corner_count s.poly = length-sorted s.arrangement ∙ shape.corners in
      record {
        lower = ne;
        packable = record { few = omega (arith, long, told.1); numbers = all_sorted (λ v. v < no_vertex) s.arrangement (all_weaker (λ v. v < length m.at) (λ v. v < no_vertex) (λ v low. omega arith) s.arrangement range) };
        told = told.0 ∙ ap told_dim (sym long);
      }

  lower-vertex : (v : ℕ) → v < length m.at → IsLower m (point_of (vertex_sight v))
  lower-vertex v low = subst (λ (vs : List ℕ). IsLower m (record { dim = 0; vertices = vs })) (sym (sorted-one v)) (record {
    lower = λ e. ⊎_elim (λ (f : m.dim ≡ 2). omega arith) (λ (f : m.dim ≡ 3). omega arith) sound.dim;
    packable = record { few = omega arith; numbers = (omega arith, tt) };
    told = refl;
  })

  -- of some cells
  module _ (cells : List (ℕ × Cell)) (are : AllByRecursion (λ (c : ℕ × Cell). IsSoundCell m c.1) cells) where
    abbrev pub Shaped : Sight → Type 0
    Shaped s = HasShape s × AllByRecursion (λ v. v < length m.at) s.arrangement

    pub shaped : AllByRecursion Shaped (sights cells)
    shaped = all_flat_map Shaped sights_of cells (all_weaker (λ (c : ℕ × Cell). IsSoundCell m c.1) (λ c. AllByRecursion Shaped (sights_of c))
        (λ c s. all_both HasShape (λ (t : Sight). AllByRecursion (λ v. v < length m.at) t.arrangement) Shaped (λ t x y. (x, y)) (sights_of c) (sights_of-shape m c.0 c.1 s) (sights-range m c.1 s c.0)) cells are)

    lower-stratum : (d : ℕ) → (d ≡ 1) ⊎ (d ≡ 2) → d ≢ m.dim → AllByRecursion (λ s. IsLower m (point_of s)) (own_stratum cells d)
    lower-stratum d is ne = all_both (λ (s : Sight). dim_of s.poly ≡ d) Shaped (λ s. IsLower m (point_of s))
        (λ s e h. lower-sight s (⊎_elim (λ f. inl (e ∙ f)) (λ f. inr (e ∙ f)) is) (λ f. ne (sym e ∙ f)) h.0 h.1) (own_stratum cells d)
        (own-of_dim m cells d) (firsts-all Shaped (filter (λ s. dim_of s.poly == d) (sights cells)) (all_filter Shaped (λ s. dim_of s.poly == d) (sights cells) shaped))

    lower-middle : AllByRecursion (λ s. IsLower m (point_of s)) (own_middle m cells)
    lower-middle = all_append (λ s. IsLower m (point_of s)) (cond (m.dim == 3) (own_stratum cells 2) []) (own_stratum cells 1) (faces (m.dim == 3) refl)
        (lower-stratum 1 (inl refl) (λ e. ⊎_elim (λ (f : m.dim ≡ 2). omega arith) (λ (f : m.dim ≡ 3). omega arith) sound.dim))
      where
        faces : (b : Bool) → (m.dim == 3) ≡ b → AllByRecursion (λ s. IsLower m (point_of s)) (cond b (own_stratum cells 2) [])
        faces false e = tt
        faces true e = lower-stratum 2 (inr refl) (λ f. let g = eqb-true m.dim 3 e in omega arith)

    abbrev vertices_seen : List Sight
    vertices_seen = filter (λ s. in_some (point_of s) cells) (vertex_sights m)

    lower-vertices : AllByRecursion (λ s. IsLower m (point_of s)) vertices_seen
    lower-vertices = all_filter (λ s. IsLower m (point_of s)) (λ s. in_some (point_of s) cells) (vertex_sights m) (all_map (λ s. IsLower m (point_of s)) vertex_sight (below (length m.at)) (all_weaker (λ v. v < length m.at) (λ v. IsLower m (point_of (vertex_sight v))) lower-vertex (below (length m.at)) (below-all (length m.at))))

    -- the points below the cells
    abbrev pub lower_points : List Point
    lower_points = map point_of vertices_seen ++ map point_of (own_middle m cells)

    pub all-lower : AllByRecursion (IsLower m) lower_points
    all-lower = all_append (IsLower m) (map point_of vertices_seen) (map point_of (own_middle m cells)) (all_map (IsLower m) point_of vertices_seen lower-vertices) (all_map (IsLower m) point_of (own_middle m cells) lower-middle)

    -- all points
    pub chart-split : map point_of (own_chart m cells) ≡ map point_of (own_stratum cells m.dim) ++ lower_points
    unfolding own_chart
    chart-split = ap (map point_of) (append_assoc (own_stratum cells m.dim ++ vertices_seen) (cond (m.dim == 3) (own_stratum cells 2) []) (own_stratum cells 1) ∙ append_assoc (own_stratum cells m.dim) vertices_seen (own_middle m cells))
        ∙ map-append point_of (own_stratum cells m.dim) (vertices_seen ++ own_middle m cells)
        ∙ ap (λ l. map point_of (own_stratum cells m.dim) ++ l) (map-append point_of vertices_seen (own_middle m cells))

    -- their sets
    pub sets-split : map (λ v. filled (v ∷ [])) (own_vertices m cells) ++ map set_of (own_middle m cells) ≡ map fill lower_points
    sets-split = sym (map-append fill (map point_of vertices_seen) (map point_of (own_middle m cells))
        ∙ ap₂ (λ x y. x ++ y) vertices (map_map_same fill point_of set_of (own_middle m cells) (all_from (λ s. fill (point_of s) ≡ set_of s) (λ s. refl) (own_middle m cells))))
      where
        vertices : map fill (map point_of vertices_seen) ≡ map (λ v. filled (v ∷ [])) (own_vertices m cells)
        vertices = ap (λ l. map fill (map point_of l)) (sym (filter-mapped vertex_sight (λ s. in_some (point_of s) cells) (below (length m.at))))
            ∙ ap (map fill) (map_map_same point_of vertex_sight (λ v. point_of (vertex_sight v)) (own_vertices m cells) (all_from (λ v. point_of (vertex_sight v) ≡ point_of (vertex_sight v)) (λ v. refl) (own_vertices m cells)))
            ∙ map_map_same fill (λ v. point_of (vertex_sight v)) (λ v. filled (v ∷ [])) (own_vertices m cells) (all_from (λ v. fill (point_of (vertex_sight v)) ≡ filled (v ∷ [])) (λ v. ap filled (sorted-one v)) (own_vertices m cells))

    -- no cell is one of them
    pub tops-apart : (p : Point) → IsLower m p → list_any (same_point p) (map point_of (own_stratum cells m.dim)) ≡ false
    tops-apart p l = none_passes (same_point p) (map point_of (own_stratum cells m.dim)) (all_map (λ q. same_point p q ≡ false) point_of (own_stratum cells m.dim)
        (all_weaker (λ (s : Sight). dim_of s.poly ≡ m.dim) (λ s. same_point p (point_of s) ≡ false) (λ s e. and_left (p.dim == dim_of s.poly) (same_list p.vertices (point_of s).vertices) (ne_eqb p.dim (dim_of s.poly) (λ f. l.lower (f ∙ e)))) (own_stratum cells m.dim) (own-of_dim m cells m.dim)))

-- ---- over ranks

module _ (m : Mesh) (sound : IsSoundMesh m) (differ : CellsDiffer m) (few : length m.at < no_vertex) (n : ℕ) (a : List ℕ) (parts : IsAssignment m n a) where
  abbrev tops : ℕ → List Point
  tops r = map point_of (own_stratum (assigned m a r) m.dim)

  abbrev lowers : ℕ → List Point
  lowers r = lower_points m sound few (assigned m a r) (own-sound m sound differ a r)

  charts-split : points_of (own_charts m a n) ≡ map (λ r. tops r ++ lowers r) (below n)
  unfolding own_charts
  charts-split = map_map_same (map point_of) (λ r. own_chart m (assigned m a r)) (λ r. tops r ++ lowers r) (below n) (all_from (λ r. map point_of (own_chart m (assigned m a r)) ≡ tops r ++ lowers r) (λ r. chart-split m sound few (assigned m a r) (own-sound m sound differ a r)) (below n))

  pub forest-by_sets : point_forest m a (own_charts m a n) ≡ forest_of_sets (own_rank_charts m a n)
  unfolding own_rank_chart own_rank_charts
  forest-by_sets = own-forest m n a sound parts ∙ ap forest_of_charts charts-split
      ∙ sets-tell n tops lowers (own_rank_chart m a) (IsLower m)
      (λ r. sym (length-map (own_stratum (assigned m a r) m.dim) point_of ∙ ap length (top-cells m sound differ a r) ∙ length-map (assigned m a r) (λ (c : ℕ × Cell). cell_sight c.0 c.1)))
      (λ r. sets-split m sound few (assigned m a r) (own-sound m sound differ a r))
      (λ r low. all_map (λ p. first_holder (map (λ q. tops q ++ lowers q) (below n)) p ≡ r) point_of (own_stratum (assigned m a r) m.dim) (all_weaker (λ s. first_holder (points_of (own_charts m a n)) (point_of s) ≡ r) (λ s. first_holder (map (λ q. tops q ++ lowers q) (below n)) (point_of s) ≡ r) (λ s e. ap (λ cs. first_holder cs (point_of s)) (sym charts-split) ∙ e) (own_stratum (assigned m a r) m.dim) (tops-first m sound differ a n parts r low)))
      (λ r. all-lower m sound few (assigned m a r) (own-sound m sound differ a r))
      (same-filled m)
      (λ r p l. tops-apart m sound few (assigned m a r) (own-sound m sound differ a r) p l)
