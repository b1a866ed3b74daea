-- What ranks have that stands for a mesh: its points by place, and the keys under which they are seen.
use Rattle.std.proofs.Common.{◌≡◌, ℕ, ◌+◌, ◌*◌, ◌<◌, ◌≤◌, Bool, false, ◌==◌, List, [], ◌∷◌, ◌++◌, map, length, get_or, refl, sym, ap, ap₂, ◌∙◌, subst, ⊎_elim, arith}
use Rattle.std.specs.List.{AllByRecursion}
use Rattle.std.proofs.lemmas.Bool.{eq-eqb, ne_eqb, cond-true, cond-false}
use Rattle.std.proofs.lemmas.List.{length-map, map-append}
use Rattle.plain_lists.specs.Lists.{below}
use Rattle.plain_lists.proofs.Below.{below-all, length-below, get_or-map-below}
use Rattle.plain_lists.proofs.Each.{all_from, all_weaker}
use Rattle.plain_lists.proofs.Filters.{map_map_same}
use Rattle.mesh_defs.specs.Tables.{dim_of}
use Rattle.mesh_defs.specs.Mesh.{Mesh, Cell}
use Rattle.mesh_defs.specs.Points.{Sight, point_of, cell_sight, cell_faces}
use Rattle.mesh_defs.specs.Diagram.{firsts}
use Rattle.mesh_defs.specs.RightMesh.{IsRightMesh, IsSoundCell}
use Rattle.local_points.specs.Cells.{faces_seen}
use Rattle.local_points.specs.Points.{faces_among, edges_among}
use Rattle.local_points.proofs.Strata.{faces-stratum, edges-stratum}
use Rattle.rank_defs.specs.Ranks.{IsAssignment, assigned}
use Rattle.rank_defs.specs.Spread.{SharedPart, PlainShared, IsShared, own_stratum, own_chart, point_forest, shared_part, plain_shared}
use Rattle.sf_defs.specs.declared.Leaf.{Leaf}
use Rattle.sf_defs.specs.Forest.{leaves_on}
use Rattle.rank_laws.specs.share_laws.Charts.{own_charts}
use Rattle.rank_laws.specs.share_laws.Packed.{IsPackable}
use Rattle.rank_chart_laws.proofs.Given.{own-chart_vertices}
use Rattle.rank_chart_laws.proofs.Wholes.{own-sound, top-cells}
use Rattle.rank_chart_laws.specs.key_laws.Places.{first_face, face_count, first_edge, edge_count, point_count, part_keys}
use Rattle.rank_chart_laws.specs.key_laws.Words.{part, seen_keys, IsLaidOut}
use Rattle.rank_chart_laws.proofs.key_laws.Charts as charts
use Rattle.rank_chart_laws.proofs.key_laws.WordPlaces.{sets, set-is, middle-packable}

-- cells of polygons have no faces
flat-faces : (cells : List (ℕ × Cell)) → AllByRecursion (λ (c : ℕ × Cell). dim_of c.1.poly ≡ 2) cells → faces_seen cells ≡ []
flat-faces [] h = refl
flat-faces (c ∷ cs) h = ap₂ (λ x y. x ++ y) (none (dim_of c.1.poly == 3) (ne_eqb (dim_of c.1.poly) 3 (λ e. absurd (let two = h.0 in omega (arith, two, e))))) (flat-faces cs h.1)
  where
    none : (b : Bool) → b ≡ false → cell_faces c.0 c.1 ≡ []
    none b e = cond-false (dim_of c.1.poly == 3) _ [] (ne_eqb (dim_of c.1.poly) 3 (λ f. absurd (let two = h.0 in omega (arith, two, f))))

module _ (s : PlainShared) (m : Mesh) (dofs : List (List ℕ)) (a : List ℕ) (n : ℕ) (is : IsShared s m dofs a n) where
  abbrev pub mesh : IsRightMesh m
  mesh = is.mesh

  abbrev pub parts : IsAssignment m n a
  parts = is.assignment.each

  pub ranks-are : length s.parts ≡ n
  unfolding plain_shared
  ranks-are = ap (λ (v : PlainShared). length v.parts) is.value ∙ (length-map (below n) (λ r. shared_part m dofs (assigned m a r) (own_chart m (assigned m a r))) ∙ length-below n)

  pub part-is : (r : ℕ) → r < n → part s r ≡ shared_part m dofs (assigned m a r) (own_chart m (assigned m a r))
  unfolding plain_shared
  part-is r low = ap (λ v. part v r) is.value ∙ get_or-map-below (λ q. shared_part m dofs (assigned m a q) (own_chart m (assigned m a q))) n r _ low

  pub forest-is : s.forest ≡ point_forest m a (own_charts m a n)
  unfolding plain_shared own_charts
  forest-is = ap (λ (v : PlainShared). v.forest) is.value

  -- ---- the points of a rank

  module _ (r : ℕ) (low : r < n) where
    abbrev own : List Sight
    own = charts.own m n a mesh parts r

    pub sets-are : (part s r).sets ≡ sets m n a mesh parts r
    unfolding shared_part
    sets-are = ap (λ (p : SharedPart). p.sets) (part-is r low)

    pub sets-long : length (part s r).sets ≡ length own
    sets-long = ap length sets-are ∙ length-map own (λ (t : Sight). (point_of t).vertices)

    cells-are : (part s r).cells ≡ assigned m a r
    unfolding shared_part
    cells-are = ap (λ (p : SharedPart). p.cells) (part-is r low)

    vertices-are : (part s r).vertices ≡ map (λ (t : Sight). t.key) (charts.corners m n a mesh parts r)
    unfolding shared_part
    vertices-are = ap (λ (p : SharedPart). p.vertices) (part-is r low) ∙ ap (map (λ (t : Sight). t.key)) (own-chart_vertices m mesh.sound.dim (assigned m a r))

    tops-are : charts.tops m n a mesh parts r ≡ map (λ (c : ℕ × Cell). cell_sight c.0 c.1) (assigned m a r)
    tops-are = top-cells m mesh.sound mesh.differ a r

    pub first-face-is : first_face (part s r) ≡ charts.face-from m n a mesh parts r
    first-face-is =
        ap₂ (λ x y. x + y)
        (ap length cells-are ∙ sym (ap length tops-are ∙ length-map (assigned m a r) (λ (c : ℕ × Cell). cell_sight c.0 c.1)))
        (ap length vertices-are ∙ length-map (charts.corners m n a mesh parts r) (λ (t : Sight). t.key))

    cell-dims : AllByRecursion (λ (c : ℕ × Cell). dim_of c.1.poly ≡ m.dim) (assigned m a r)
    cell-dims = all_weaker (λ (c : ℕ × Cell). IsSoundCell m c.1) (λ (c : ℕ × Cell). dim_of c.1.poly ≡ m.dim) (λ c t. t.dim) (assigned m a r) (own-sound m mesh.sound mesh.differ a r)

    faces-are : faces_among (part s r).cells ≡ charts.faces m n a mesh parts r
    faces-are = ap faces_among cells-are ∙ ⊎_elim
        (λ (flat : m.dim ≡ 2).
        ap firsts (flat-faces (assigned m a r) (all_weaker (λ (c : ℕ × Cell). dim_of c.1.poly ≡ m.dim) (λ (c : ℕ × Cell). dim_of c.1.poly ≡ 2) (λ c d. d ∙ flat) (assigned m a r) cell-dims))
        ∙ sym (cond-false (m.dim == 3) (own_stratum (assigned m a r) 2) [] (ne_eqb m.dim 3 (λ e. absurd (omega (arith, flat, e))))))
        (λ (solid : m.dim ≡ 3).
        faces-stratum (assigned m a r) (all_weaker (λ (c : ℕ × Cell). dim_of c.1.poly ≡ m.dim) (λ (c : ℕ × Cell). dim_of c.1.poly ≡ 3) (λ c d. d ∙ solid) (assigned m a r) cell-dims)
        ∙ sym (cond-true (m.dim == 3) (own_stratum (assigned m a r) 2) [] (eq-eqb m.dim 3 solid)))
        mesh.sound.dim

    edges-are : edges_among (part s r).cells ≡ charts.edges m n a mesh parts r
    edges-are = ap edges_among cells-are ∙ edges-stratum (assigned m a r) (all_weaker (λ (c : ℕ × Cell). dim_of c.1.poly ≡ m.dim) (λ (c : ℕ × Cell). 2 ≤ dim_of c.1.poly)
        (λ c d. ⊎_elim (λ (f : m.dim ≡ 2). omega (arith, d, f)) (λ (f : m.dim ≡ 3). omega (arith, d, f)) mesh.sound.dim) (assigned m a r) cell-dims)

    pub face-count-is : face_count (part s r) ≡ length (charts.faces m n a mesh parts r)
    face-count-is = ap length faces-are

    pub edge-count-is : edge_count (part s r) ≡ length (charts.edges m n a mesh parts r)
    edge-count-is = ap length edges-are

    pub first-edge-is : first_edge (part s r) ≡ charts.edge-from m n a mesh parts r
    first-edge-is = ap₂ (λ x y. x + y) first-face-is face-count-is

    pub points-are : length (part s r).sets ≡ point_count (part s r)
    points-are = sets-long ∙ (charts.own-length m n a mesh parts r ∙ sym (ap₂ (λ x y. x + y) first-edge-is edge-count-is))

    -- the keys under which the rank sees its points
    pub keys-are : part_keys (part s r) ≡ map (λ (t : Sight). t.key) own
    unfolding part_keys
    keys-are =
        (λ i. ((first i ++ vertices-are i) ++ map key (faces-are i)) ++ map key (edges-are i))
        ∙ sym (ap (map key) (charts.own-is m n a mesh parts r)
        ∙ (map-append key ((charts.tops m n a mesh parts r ++ charts.corners m n a mesh parts r) ++ charts.faces m n a mesh parts r) (charts.edges m n a mesh parts r)
        ∙ ap (λ l. l ++ map key (charts.edges m n a mesh parts r)) (map-append key (charts.tops m n a mesh parts r ++ charts.corners m n a mesh parts r) (charts.faces m n a mesh parts r)
        ∙ ap (λ l. l ++ map key (charts.faces m n a mesh parts r)) (map-append key (charts.tops m n a mesh parts r) (charts.corners m n a mesh parts r)))))
      where
        key : Sight → ℕ
        key t = t.key

        first : map (λ (c : ℕ × Cell). 64 * c.0) (part s r).cells ≡ map key (charts.tops m n a mesh parts r)
        first = ap (map (λ (c : ℕ × Cell). 64 * c.0)) cells-are
            ∙ sym (ap (map key) tops-are ∙ map_map_same key (λ (c : ℕ × Cell). cell_sight c.0 c.1) (λ (c : ℕ × Cell). 64 * c.0) (assigned m a r) (all_from (λ (c : ℕ × Cell). key (cell_sight c.0 c.1) ≡ 64 * c.0) (λ c. refl) (assigned m a r)))

  -- ---- all ranks

  pub seen-are : seen_keys s ≡ map (λ r. map (λ (t : Sight). t.key) (charts.own m n a mesh parts r)) (below n)
  unfolding seen_keys plain_shared
  seen-are = ap (λ (v : PlainShared). map part_keys v.parts) is.value
      ∙ map_map_same part_keys (λ r. shared_part m dofs (assigned m a r) (own_chart m (assigned m a r))) (λ r. map (λ (t : Sight). t.key) (charts.own m n a mesh parts r)) (below n)
      (all_weaker (λ r. r < n) (λ r. part_keys (shared_part m dofs (assigned m a r) (own_chart m (assigned m a r))) ≡ map (λ (t : Sight). t.key) (charts.own m n a mesh parts r)) (λ r low. ap part_keys (sym (part-is r low)) ∙ keys-are r low) (below n) (below-all n))

  roots-are : s.forest.roots ≡ map (λ (p : SharedPart). length p.sets) s.parts
  unfolding plain_shared point_forest shared_part
  roots-are =
      ap (λ (v : PlainShared). v.forest.roots) is.value
      ∙ (map_map_same length (λ r. own_chart m (assigned m a r)) (λ r. length (own_chart m (assigned m a r))) (below n) (all_from (λ r. length (own_chart m (assigned m a r)) ≡ length (own_chart m (assigned m a r))) (λ r. refl) (below n))
      ∙ sym (ap (λ (v : PlainShared). map (λ (p : SharedPart). length p.sets) v.parts) is.value
      ∙ map_map_same (λ (p : SharedPart). length p.sets) (λ r. shared_part m dofs (assigned m a r) (own_chart m (assigned m a r))) (λ r. length (own_chart m (assigned m a r))) (below n) (all_from (λ r. length (map (λ (t : Sight). (point_of t).vertices) (own_chart m (assigned m a r))) ≡ length (own_chart m (assigned m a r))) (λ r. length-map (own_chart m (assigned m a r)) (λ (t : Sight). (point_of t).vertices)) (below n))))

  pub laid-out : IsLaidOut s
  laid-out = record {
    points = λ r low. points-are r (omega (arith, low, ranks-are));
    sets = λ r i low le inside.
        let below_n : r < n = omega (arith, low, ranks-are) in
        let here : i < length (charts.own m n a mesh parts r) = omega (arith, inside, sets-long r below_n) in
        subst IsPackable (sym (ap (λ l. get_or l i []) (sets-are r below_n) ∙ set-is m n a mesh parts r i here)) (middle-packable m n a mesh parts r i (omega (arith, le, first-face-is r below_n)) here);
    roots = roots-are;
    locals = λ r low.
        let below_n : r < n = omega (arith, low, ranks-are) in
        subst (λ k. AllByRecursion (λ (l : Leaf). l.local < k) (leaves_on s.forest r)) (sym (sets-long r below_n))
        (subst (λ f. AllByRecursion (λ (l : Leaf). l.local < length (charts.own m n a mesh parts r)) (leaves_on f r)) (sym forest-is) (charts.leaves-local m n a mesh parts r below_n));
  }
