-- What a rank knows of its faces and edges by keys and arrangements: each of them as the whole mesh sees it first.
use Rattle.std.proofs.Common.{◌≡◌, ◌≢◌, ℕ, ◌+◌, ◌<◌, true, List, [], ◌++◌, map, take, drop, length, Some, sym, ap, ap₂, ◌∙◌, subst, ⊎_elim, arith, length-append, append_assoc, ◌≤◌}
use Rattle.std.specs.Prelude.{find, unwrap_or, option_map}
use Rattle.std.specs.List.{AllByRecursion}
use Rattle.std.proofs.lemmas.List.{length-map, get_or-map, map-append}
use Rattle.std.proofs.Math.Seq.{take-append_seam, drop-append_seam}
use Rattle.plain_lists.specs.Lists.{below}
use Rattle.plain_lists.proofs.Below.{map-below-length}
use Rattle.plain_lists.proofs.Each.{all_at, all_weaker, all_both, all_enumerated, all_append_first, all_append_second}
use Rattle.plain_lists.proofs.Finding.{find-cases, find-has, find-passes}
use Rattle.mesh_defs.specs.declared.Poly.TheVariants.{Vertex}
use Rattle.mesh_defs.specs.Tables.{dim_of}
use Rattle.mesh_defs.specs.Mesh.{Mesh, Cell, placed_cells}
use Rattle.mesh_defs.specs.Points.{Point, Sight, point_of, shows, sights, first_sight, key, cell_sight, vertex_sight}
use Rattle.mesh_defs.specs.RightMesh.{IsRightMesh, IsSoundCell, in_some}
use Rattle.rank_laws.proofs.Shapes.{HasShape}
use Rattle.rank_defs.specs.Ranks.{assigned}
use Rattle.rank_defs.specs.Spread.{scatter_part, own_chart}
use Rattle.rank_laws.specs.orient_laws.Named.{seen_first}
use Rattle.rank_laws.proofs.orient_laws.Seen.{contained-seen, placed-some, shown-dim}
use Rattle.rank_laws.proofs.orient_laws.OwnSights.{first-of_cells}
use Rattle.rank_laws.proofs.orient_laws.Tops.{assigned-cells}
use Rattle.rank_laws.proofs.share_laws.Own.{own-inside, own-of_dim, sound-cells}
use Rattle.rank_chart_laws.specs.OwnRanks.{own_vertices}
use Rattle.rank_chart_laws.proofs.Few.{vertices-few}
use Rattle.rank_chart_laws.proofs.Given.{given-vertices}
use Rattle.rank_chart_laws.proofs.Lower.{shaped}
use Rattle.rank_chart_laws.specs.meeting_laws.Sets.{filled}
use Rattle.local_points.specs.Points.{Local, faces_among, edges_among, local_points}
use Rattle.local_points.proofs.Strata.{edges-stratum, faces-stratum}
use Rattle.rank_chart_laws.proofs.rank_diagram_laws.Inside.{faces-none}
use Rattle.mesh_defs.specs.Diagram.{firsts}
use Rattle.interp_share.specs.rank_points.Seen.{cell_sights, vertices_seen, part_points}
use Rattle.interp_share.proofs.rank_points.Own.{own-points}
use Rattle.rank_cones.specs.held_points.Held.{Held, AreByKey, given, given_point, face_on, edge_on, no_vertex, held_of}
use Rattle.rank_cones.proofs.held_points.Charts.{held-is}
use Rattle.rank_cones.proofs.rank_drawings.Filled.{face-filled, edge-filled}

-- the key of what a sight shows
abbrev pub key_at : Mesh → Sight → ℕ
key_at m s = unwrap_or (key m (point_of s)) 0

-- its vertices as the cell of the key sees them
abbrev pub four_at : Mesh → Sight → List ℕ
four_at m s = filled (seen_first m s).arrangement

-- points that are given by keys and arrangements are these points
pub given-is : (m : Mesh) (on : ℕ → List ℕ → Sight) (xs : List Sight) → AllByRecursion (λ s. on (key_at m s) (four_at m s) ≡ seen_first m s) xs → given on (map (key_at m) xs) (map (four_at m) xs) ≡ map (seen_first m) xs
given-is m on xs each =
    ap (λ n. map (given_point on (map (key_at m) xs) (map (four_at m) xs)) (below n)) (length-map xs (key_at m))
    ∙ map-below-length (given_point on (map (key_at m) xs) (map (four_at m) xs)) (seen_first m) xs none
    (λ i low. ap₂ on (get_or-map (key_at m) xs i none 0 low) (get_or-map (four_at m) xs i none [] low) ∙ all_at (λ s. on (key_at m s) (four_at m s) ≡ seen_first m s) xs i none each low)
  where
    none : Sight
    none = record { key = 0; poly = Vertex; arrangement = [] }

-- the images of the first of two lists, and of the second one
front : {X : Type 0} (f : Sight → X) (xs ys : List Sight) → take (length xs) (map f xs ++ map f ys) ≡ map f xs
front f xs ys = ap (λ n. take n (map f xs ++ map f ys)) (sym (length-map xs f)) ∙ take-append_seam (map f xs) (map f ys)

behind : {X : Type 0} (f : Sight → X) (xs ys : List Sight) → drop (length xs) (map f xs ++ map f ys) ≡ map f ys
behind f xs ys = ap (λ n. drop n (map f xs ++ map f ys)) (sym (length-map xs f)) ∙ drop-append_seam (map f xs) (map f ys)

module _ (m : Mesh) (right : IsRightMesh m) (a : List ℕ) (r : ℕ) where
  few : length m.at < no_vertex
  few = omega (arith, vertices-few m right)

  -- a point of the rank between cells and vertices has a first sight, which has a shape
  first-shaped : (p : Point) → p.dim ≢ 0 → in_some p (assigned m a r) ≡ true → (t : Sight) × (first_sight m p ≡ Some t) × (HasShape t × AllByRecursion (λ v. v < length m.at) t.arrangement) × (shows p t ≡ true)
  first-shaped p ne here = ⊎_elim
      (λ (w : (t : Sight) × (find (shows p) (sights (placed_cells m)) ≡ Some t)). (
        w.0,
        first-of_cells m p ne ∙ w.1,
        find-has (λ (s : Sight). HasShape s × AllByRecursion (λ v. v < length m.at) s.arrangement) (shows p) (sights (placed_cells m)) w.0 (shaped m right.sound few (placed_cells m) (all_enumerated (IsSoundCell m) 0 m.cells right.sound.cells)) w.1,
        find-passes (shows p) (sights (placed_cells m)) w.0 w.1,
      ))
      (λ none. absurd (cc (sym none ∙ (sym (contained-seen p ne (placed_cells m)) ∙ placed-some m (assigned m a r) p (assigned-cells m a r) here))))
      (find-cases (shows p) (sights (placed_cells m)))

  vertices-low : (vs : List ℕ) → AllByRecursion (λ v. v < length m.at) vs → AllByRecursion (λ v. v < no_vertex) vs
  vertices-low vs h = all_weaker (λ v. v < length m.at) (λ v. v < no_vertex) (λ v low. omega (arith, low, few)) vs h

  known-face : (s : Sight) → dim_of s.poly ≡ 2 → in_some (point_of s) (assigned m a r) ≡ true → face_on (key_at m s) (four_at m s) ≡ seen_first m s
  unfolding key seen_first
  known-face s two here =
      let (t, found, shape, shown) = first-shaped (point_of s) (λ e. absurd (omega (arith, two, e))) here in
      let flat : dim_of t.poly ≡ 2 = sym (shown-dim (point_of s) t shown) ∙ two in
      ap (λ o. face_on (unwrap_or (option_map (λ (u : Sight). u.key) o) 0) (filled (unwrap_or o s).arrangement)) found
      ∙ face-filled t.key t.poly t.arrangement flat shape.0.corners (vertices-low t.arrangement shape.1)
      ∙ sym (ap (λ o. unwrap_or o s) found)

  known-edge : (s : Sight) → dim_of s.poly ≡ 1 → in_some (point_of s) (assigned m a r) ≡ true → edge_on (key_at m s) (four_at m s) ≡ seen_first m s
  unfolding key seen_first
  known-edge s one here =
      let (t, found, shape, shown) = first-shaped (point_of s) (λ e. absurd (omega (arith, one, e))) here in
      let thin : dim_of t.poly ≡ 1 = sym (shown-dim (point_of s) t shown) ∙ one in
      ap (λ o. edge_on (unwrap_or (option_map (λ (u : Sight). u.key) o) 0) (filled (unwrap_or o s).arrangement)) found
      ∙ edge-filled t.key t.poly t.arrangement thin shape.0.corners
      ∙ sym (ap (λ o. unwrap_or o s) found)

  -- ---- the points by strata

  abbrev pub tops : List Sight
  tops = cell_sights (assigned m a r)

  abbrev pub corners : List Sight
  corners = vertices_seen (own_vertices m (assigned m a r))

  abbrev pub faces : List Sight
  faces = faces_among (assigned m a r)

  abbrev pub edges : List Sight
  edges = edges_among (assigned m a r)

  pub chart-is : own_chart m (assigned m a r) ≡ ((tops ++ corners) ++ faces) ++ edges
  unfolding part_points scatter_part
  chart-is = own-points m right a r ∙ ap (λ vs. ((tops ++ vertices_seen vs) ++ faces) ++ edges) (given-vertices m right.sound.dim (assigned m a r))

  pub inside : AllByRecursion (λ s. in_some (point_of s) (assigned m a r) ≡ true) (((tops ++ corners) ++ faces) ++ edges)
  inside = subst (AllByRecursion (λ s. in_some (point_of s) (assigned m a r) ≡ true)) chart-is (own-inside m (assigned m a r))

  pub sounds : AllByRecursion (λ (c : ℕ × Cell). IsSoundCell m c.1) (assigned m a r)
  sounds = sound-cells m right.sound (assigned m a r) (assigned-cells m a r)

  pub edges-dim : AllByRecursion (λ (s : Sight). dim_of s.poly ≡ 1) edges
  edges-dim = subst (AllByRecursion (λ (s : Sight). dim_of s.poly ≡ 1)) (sym (edges-stratum (assigned m a r) (all_weaker (λ (c : ℕ × Cell). IsSoundCell m c.1) (λ (c : ℕ × Cell). 2 ≤ dim_of c.1.poly) (λ c s. ⊎_elim (λ (flat : m.dim ≡ 2). omega (arith, s.dim)) (λ (solid : m.dim ≡ 3). omega (arith, s.dim)) right.sound.dim) (assigned m a r) sounds))) (own-of_dim m (assigned m a r) 1)

  -- a flat mesh has no faces beside its cells
  pub no-flat : m.dim ≡ 2 → faces ≡ []
  no-flat two = ap firsts (faces-none (assigned m a r) (all_weaker (λ (c : ℕ × Cell). IsSoundCell m c.1) (λ (c : ℕ × Cell). dim_of c.1.poly ≡ 2) (λ c s. s.dim ∙ two) (assigned m a r) sounds))

  pub faces-dim : AllByRecursion (λ (s : Sight). dim_of s.poly ≡ 2) faces
  faces-dim = ⊎_elim flat solid right.sound.dim
    where
      flat : m.dim ≡ 2 → AllByRecursion (λ (s : Sight). dim_of s.poly ≡ 2) faces
      flat two = subst (AllByRecursion (λ (s : Sight). dim_of s.poly ≡ 2)) (sym (no-flat two)) tt

      solid : m.dim ≡ 3 → AllByRecursion (λ (s : Sight). dim_of s.poly ≡ 2) faces
      solid three = subst (AllByRecursion (λ (s : Sight). dim_of s.poly ≡ 2)) (sym (faces-stratum (assigned m a r) (all_weaker (λ (c : ℕ × Cell). IsSoundCell m c.1) (λ (c : ℕ × Cell). dim_of c.1.poly ≡ 3) (λ c s. s.dim ∙ three) (assigned m a r) sounds))) (own-of_dim m (assigned m a r) 2)

  pub faces-known : given face_on (map (key_at m) faces) (map (four_at m) faces) ≡ map (seen_first m) faces
  faces-known = given-is m face_on faces (all_both (λ (s : Sight). dim_of s.poly ≡ 2) (λ s. in_some (point_of s) (assigned m a r) ≡ true) (λ s. face_on (key_at m s) (four_at m s) ≡ seen_first m s) known-face faces faces-dim
      (all_append_second (λ s. in_some (point_of s) (assigned m a r) ≡ true) (tops ++ corners) faces (all_append_first (λ s. in_some (point_of s) (assigned m a r) ≡ true) ((tops ++ corners) ++ faces) edges inside)))

  pub edges-known : given edge_on (map (key_at m) edges) (map (four_at m) edges) ≡ map (seen_first m) edges
  edges-known = given-is m edge_on edges (all_both (λ (s : Sight). dim_of s.poly ≡ 1) (λ s. in_some (point_of s) (assigned m a r) ≡ true) (λ s. edge_on (key_at m s) (four_at m s) ≡ seen_first m s) known-edge edges edges-dim
      (all_append_second (λ s. in_some (point_of s) (assigned m a r) ≡ true) ((tops ++ corners) ++ faces) edges inside))

  -- the keys of faces and edges stand behind those of cells and vertices
  pub keys-behind : drop (length (assigned m a r) + length (own_vertices m (assigned m a r))) (map (key_at m) (own_chart m (assigned m a r))) ≡ map (key_at m) faces ++ map (key_at m) edges
  keys-behind =
      ap (λ l. drop (length (assigned m a r) + length (own_vertices m (assigned m a r))) (map (key_at m) l)) (chart-is ∙ append_assoc (tops ++ corners) faces edges)
      ∙ ap (drop (length (assigned m a r) + length (own_vertices m (assigned m a r)))) (map-append (key_at m) (tops ++ corners) (faces ++ edges))
      ∙ ap (λ n. drop n (map (key_at m) (tops ++ corners) ++ map (key_at m) (faces ++ edges))) (sym before)
      ∙ drop-append_seam (map (key_at m) (tops ++ corners)) (map (key_at m) (faces ++ edges))
      ∙ map-append (key_at m) faces edges
    where
      before : length (map (key_at m) (tops ++ corners)) ≡ length (assigned m a r) + length (own_vertices m (assigned m a r))
      before = length-map (tops ++ corners) (key_at m) ∙ length-append tops corners ∙ ap₂ (λ x y. x + y) (length-map (assigned m a r) (λ (c : ℕ × Cell). cell_sight c.0 c.1)) (length-map (own_vertices m (assigned m a r)) vertex_sight)

  pub tops-within : length (assigned m a r) + length (own_vertices m (assigned m a r)) ≤ length (map (key_at m) (own_chart m (assigned m a r)))
  tops-within = omega (
    arith,
    length-map (own_chart m (assigned m a r)) (key_at m),
    ap length chart-is,
    length-append ((tops ++ corners) ++ faces) edges,
    length-append (tops ++ corners) faces,
    length-append tops corners,
    length-map (assigned m a r) (λ (c : ℕ × Cell). cell_sight c.0 c.1),
    length-map (own_vertices m (assigned m a r)) vertex_sight,
  )

  -- what is known of the rank: the keys behind those of cells and vertices, and the arrangements
  module _ (keys : List ℕ) (lists : List (List ℕ)) (local : Local) (keys-are : keys ≡ map (key_at m) faces ++ map (key_at m) edges) (lists-are : lists ≡ map (four_at m) (faces ++ edges)) (local-is : local ≡ local_points (assigned m a r)) where
    pub keys-long : length keys ≡ length local.faces + length local.edges
    keys-long = ap length keys-are ∙ length-append (map (key_at m) faces) (map (key_at m) edges) ∙ ap₂ (λ x y. x + y) (length-map faces (key_at m)) (length-map edges (key_at m)) ∙ sym (ap (λ (l : Local). length l.faces + length l.edges) local-is)

    pub lists-long : length lists ≡ length keys
    lists-long = ap length lists-are ∙ length-map (faces ++ edges) (four_at m) ∙ length-append faces edges ∙ sym (ap (λ (l : Local). length l.faces + length l.edges) local-is) ∙ sym keys-long

    lists-apart : lists ≡ map (four_at m) faces ++ map (four_at m) edges
    lists-apart = lists-are ∙ map-append (four_at m) faces edges

    given-faces : given face_on (take (length local.faces) keys) (take (length local.faces) lists) ≡ map (seen_first m) faces
    given-faces = (λ i. given face_on (take (length (local-is i).faces) (keys-are i)) (take (length (local-is i).faces) (lists-apart i)))
        ∙ ap₂ (given face_on) (front (key_at m) faces edges) (front (four_at m) faces edges)
        ∙ faces-known

    given-edges : given edge_on (drop (length local.faces) keys) (drop (length local.faces) lists) ≡ map (seen_first m) edges
    given-edges = (λ i. given edge_on (drop (length (local-is i).faces) (keys-are i)) (drop (length (local-is i).faces) (lists-apart i)))
        ∙ ap₂ (given edge_on) (behind (key_at m) faces edges) (behind (four_at m) faces edges)
        ∙ edges-known

    -- what stands by these keys is what the rank holds
    pub held-here : (held : Held) → AreByKey (given face_on (take (length local.faces) keys) (take (length local.faces) lists)) held.faces held.face_moves → AreByKey (given edge_on (drop (length local.faces) keys) (drop (length local.faces) lists)) held.edges held.edge_moves → held ≡ held_of m (assigned m a r)
    held-here held f e = held-is m (assigned m a r) held right.sound (assigned-cells m a r)
        (subst (λ own. AreByKey own held.faces held.face_moves) given-faces f) (subst (λ own. AreByKey own held.edges held.edge_moves) given-edges e)
