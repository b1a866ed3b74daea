-- Where the points of a rank's own chart stand in its chart by keys: cells and vertices at the same places, faces and edges
-- where they go by key.
use Rattle.std.proofs.Common.{◌≡◌, ℕ, ◌+◌, ◌<◌, true, List, [], ◌∷◌, ◌++◌, map, length, get_or, refl, sym, ap, ap₂, ◌∙◌, subst, ⊎_elim, arith, length-append, append_assoc}
use Rattle.std.specs.List.{list_any, AllByRecursion}
use Rattle.std.proofs.lemmas.List.{length-map, map-append, get_or_append_left}
use Rattle.plain_lists.specs.Lists.{below}
use Rattle.plain_lists.proofs.Below.{map-below-length}
use Rattle.plain_lists.proofs.Each.{all_weaker, all_both, all_map, all_append_first, all_append_second}
use Rattle.plain_lists.proofs.Filters.{map_map_same}
use Rattle.plain_lists.proofs.Finding.{position-within}
use Rattle.mesh_defs.specs.Tables.{dim_of}
use Rattle.mesh_defs.specs.Mesh.{Mesh, Cell}
use Rattle.mesh_defs.specs.Points.{Sight, point_of, shows, cell_sight, vertex_sight}
use Rattle.mesh_defs.specs.Sights.{points_differ}
use Rattle.mesh_defs.specs.Diagram.{chart, place_in}
use Rattle.mesh_defs.specs.RightMesh.{IsRightMesh, in_some}
use Rattle.mesh_laws.proofs.Firsts.{shows-own}
use Rattle.rank_defs.specs.Ranks.{assigned, held_cells, held}
use Rattle.rank_defs.specs.Spread.{SharedPart}
use Rattle.rank_chart_laws.proofs.field_laws.Places.{place-is}
use Rattle.rank_laws.specs.orient_laws.Named.{chart_stratum}
use Rattle.rank_laws.proofs.orient_laws.Tops.{assigned-cells}
use Rattle.rank_chart_laws.specs.moved_laws.Sames.{moves_between, rank_moves}
use Rattle.rank_chart_laws.proofs.moved_laws.Places.{no_sight}
use Rattle.rank_chart_laws.proofs.moved_laws.Ranks.{same-points}
use Rattle.rank_chart_laws.specs.OwnRanks.{own_vertices}
use Rattle.rank_chart_laws.specs.rank_diagram_laws.Parts.{held_faces}
use Rattle.rank_chart_laws.proofs.rank_diagram_laws.Charted.{solid-faces, stratum-shown, chart-parts, place-face, place-edge, assigned-tops}
use Rattle.rank_chart_laws.proofs.rank_diagram_laws.Fitting.{parts-fit}
use Rattle.local_points.specs.Points.{places_in, faces_among, edges_among}
use Rattle.rank_cones.specs.held_points.Held.{Held, held_of}
use Rattle.rank_cones.proofs.rank_drawings.Known.{tops, corners, faces, edges, chart-is, inside, edges-dim, faces-dim, sounds, no-flat}
use Rattle.orient_iface.specs.dist_assembly.Drawn.{low_count, held_moves, FitHeld}

-- the places of the first of a chart's points are the first numbers
first-places : (xs ys : List Sight) → points_differ (xs ++ ys) ≡ true → map (λ s. place_in (xs ++ ys) (point_of s)) xs ≡ below (length xs)
first-places xs ys differ =
    sym (map-below-length (λ k. k) (λ s. place_in (xs ++ ys) (point_of s)) xs no_sight
    (λ k low. sym (place-is (point_of (get_or xs k no_sight)) (xs ++ ys) no_sight differ k (omega (arith, low, length-append xs ys))
    (ap (shows (point_of (get_or xs k no_sight))) (get_or_append_left xs ys no_sight k low) ∙ shows-own (get_or xs k no_sight)))))
    ∙ itself (below (length xs))
  where
    itself : (ks : List ℕ) → map (λ k. k) ks ≡ ks
    itself [] = refl
    itself (k ∷ ks) = ap (λ l. k ∷ l) (itself ks)

-- the moves, one stratum behind the other
pub moves-put : (p : SharedPart) (h : Held) (low many : ℕ) → low ≡ low_count p → many ≡ length h.faces
    → (none stay faced all : List ℕ) → none ≡ [] → stay ≡ none ++ below low → faced ≡ stay ++ map (λ k. low + k) h.face_moves → all ≡ faced ++ map (λ k. low + many + k) h.edge_moves → all ≡ held_moves p h
unfolding held_moves
moves-put p h low many e f none stay faced all first second third fourth =
    fourth ∙ ap (λ l. l ++ map (λ k. low + many + k) h.edge_moves) (third ∙ ap (λ l. l ++ map (λ k. low + k) h.face_moves) (second ∙ ap (λ l. l ++ below low) first))
    ∙ (λ i. below (e i) ++ map (λ k. e i + k) h.face_moves ++ map (λ k. e i + f i + k) h.edge_moves)

module _ (m : Mesh) (right : IsRightMesh m) (a : List ℕ) (r : ℕ) where
  -- how many cells and vertices the rank has
  abbrev low : ℕ
  low = length (assigned m a r) + length (own_vertices m (assigned m a r))

  -- its chart by keys
  abbrev by_keys : List Sight
  by_keys = chart m (assigned m a r)

  keyed-is : by_keys ≡ ((tops m right a r ++ corners m right a r) ++ held_faces m (assigned m a r)) ++ chart_stratum m (assigned m a r) 1
  keyed-is = chart-parts m (assigned m a r) right.sound (sounds m right a r) (assigned-tops m right.sound right.differ a r)

  keyed-apart : by_keys ≡ (tops m right a r ++ corners m right a r) ++ (held_faces m (assigned m a r) ++ chart_stratum m (assigned m a r) 1)
  keyed-apart = keyed-is ∙ append_assoc (tops m right a r ++ corners m right a r) (held_faces m (assigned m a r)) (chart_stratum m (assigned m a r) 1)

  keyed-differ : points_differ by_keys ≡ true
  unfolding held held_cells
  keyed-differ = (same-points m right a r).new_once

  lows-long : length (tops m right a r ++ corners m right a r) ≡ low
  lows-long = length-append (tops m right a r) (corners m right a r) ∙ ap₂ (λ x y. x + y) (length-map (assigned m a r) (λ (c : ℕ × Cell). cell_sight c.0 c.1)) (length-map (own_vertices m (assigned m a r)) vertex_sight)

  lows-stay : map (λ s. place_in by_keys (point_of s)) (tops m right a r ++ corners m right a r) ≡ below low
  lows-stay =
      ap (λ (c : List Sight). map (λ s. place_in c (point_of s)) (tops m right a r ++ corners m right a r)) keyed-apart
      ∙ first-places (tops m right a r ++ corners m right a r) (held_faces m (assigned m a r) ++ chart_stratum m (assigned m a r) 1) (sym (ap points_differ keyed-apart) ∙ keyed-differ)
      ∙ ap below lows-long

  -- the faces are among those by key, and so are the edges
  faces-shown : AllByRecursion (λ s. (m.dim ≡ 3) × (dim_of s.poly ≡ 2) × (list_any (shows (point_of s)) (held_faces m (assigned m a r)) ≡ true)) (faces m right a r)
  faces-shown = ⊎_elim
      (λ (flat : m.dim ≡ 2). subst (AllByRecursion (λ s. (m.dim ≡ 3) × (dim_of s.poly ≡ 2) × (list_any (shows (point_of s)) (held_faces m (assigned m a r)) ≡ true))) (sym (no-flat m right a r flat)) tt)
      (λ (solid : m.dim ≡ 3). all_both (λ (s : Sight). dim_of s.poly ≡ 2) (λ s. in_some (point_of s) (assigned m a r) ≡ true) (λ s. (m.dim ≡ 3) × (dim_of s.poly ≡ 2) × (list_any (shows (point_of s)) (held_faces m (assigned m a r)) ≡ true))
      (λ s two here. (solid, two, ap (list_any (shows (point_of s))) (solid-faces m (assigned m a r) solid ∙ ap (chart_stratum m (assigned m a r)) (sym two)) ∙ stratum-shown m (assigned m a r) (assigned-cells m a r) (point_of s) (λ e. absurd (omega (arith, two, e))) ∙ here))
      (faces m right a r) (faces-dim m right a r)
      (all_append_second (λ s. in_some (point_of s) (assigned m a r) ≡ true) (tops m right a r ++ corners m right a r) (faces m right a r) (all_append_first (λ s. in_some (point_of s) (assigned m a r) ≡ true) ((tops m right a r ++ corners m right a r) ++ faces m right a r) (edges m right a r) (inside m right a r))))
      right.sound.dim

  edges-shown : AllByRecursion (λ s. (dim_of s.poly ≡ 1) × (list_any (shows (point_of s)) (chart_stratum m (assigned m a r) 1) ≡ true)) (edges m right a r)
  edges-shown = all_both (λ (s : Sight). dim_of s.poly ≡ 1) (λ s. in_some (point_of s) (assigned m a r) ≡ true) (λ s. (dim_of s.poly ≡ 1) × (list_any (shows (point_of s)) (chart_stratum m (assigned m a r) 1) ≡ true))
      (λ s one here. (one, ap (λ d. list_any (shows (point_of s)) (chart_stratum m (assigned m a r) d)) (sym one) ∙ stratum-shown m (assigned m a r) (assigned-cells m a r) (point_of s) (λ e. absurd (omega (arith, one, e))) ∙ here))
      (edges m right a r) (edges-dim m right a r)
      (all_append_second (λ s. in_some (point_of s) (assigned m a r) ≡ true) ((tops m right a r ++ corners m right a r) ++ faces m right a r) (edges m right a r) (inside m right a r))

  faces-go : map (λ s. place_in by_keys (point_of s)) (faces m right a r) ≡ map (λ k. low + k) (places_in (held_faces m (assigned m a r)) (faces m right a r))
  faces-go = sym (map_map_same (λ k. low + k) (λ s. place_in (held_faces m (assigned m a r)) (point_of s)) (λ s. place_in by_keys (point_of s)) (faces m right a r)
      (all_weaker (λ s. (m.dim ≡ 3) × (dim_of s.poly ≡ 2) × (list_any (shows (point_of s)) (held_faces m (assigned m a r)) ≡ true)) (λ s. low + place_in (held_faces m (assigned m a r)) (point_of s) ≡ place_in by_keys (point_of s))
      (λ s h. sym (place-face m (assigned m a r) right.sound (sounds m right a r) (assigned-tops m right.sound right.differ a r) h.0 (point_of s) h.1 h.2)) (faces m right a r) faces-shown))

  edges-go : map (λ s. place_in by_keys (point_of s)) (edges m right a r) ≡ map (λ k. low + length (held_faces m (assigned m a r)) + k) (places_in (chart_stratum m (assigned m a r) 1) (edges m right a r))
  edges-go = sym (map_map_same (λ k. low + length (held_faces m (assigned m a r)) + k) (λ s. place_in (chart_stratum m (assigned m a r) 1) (point_of s)) (λ s. place_in by_keys (point_of s)) (edges m right a r)
      (all_weaker (λ s. (dim_of s.poly ≡ 1) × (list_any (shows (point_of s)) (chart_stratum m (assigned m a r) 1) ≡ true)) (λ s. low + length (held_faces m (assigned m a r)) + place_in (chart_stratum m (assigned m a r) 1) (point_of s) ≡ place_in by_keys (point_of s))
      (λ s h. sym (place-edge m (assigned m a r) right.sound (sounds m right a r) (assigned-tops m right.sound right.differ a r) (point_of s) h.0)) (edges m right a r) edges-shown))

  -- a part with the rank's cells and vertices
  module _ (p : SharedPart) (cells-are : p.cells ≡ assigned m a r) (vertices-are : p.vertices ≡ own_vertices m (assigned m a r)) where
    low-is : low_count p ≡ low
    low-is = λ i. length (cells-are i) + length (vertices-are i)

    -- the moves of the rank
    pub moves-are : held_moves p (held_of m (assigned m a r)) ≡ rank_moves m a r
    unfolding held_moves rank_moves moves_between held held_cells
    moves-are =
        ap (λ n. below n ++ map (λ k. n + k) (places_in (held_faces m (assigned m a r)) (faces m right a r)) ++ map (λ k. n + length (held_faces m (assigned m a r)) + k) (places_in (chart_stratum m (assigned m a r) 1) (edges m right a r))) low-is
        ∙ (λ i. sym lows-stay i ++ sym faces-go i ++ sym edges-go i)
        ∙ ap (λ l. l ++ map (λ s. place_in by_keys (point_of s)) (edges m right a r)) (sym (map-append (λ s. place_in by_keys (point_of s)) (tops m right a r ++ corners m right a r) (faces m right a r)))
        ∙ sym (map-append (λ s. place_in by_keys (point_of s)) ((tops m right a r ++ corners m right a r) ++ faces m right a r) (edges m right a r))
        ∙ ap (map (λ s. place_in by_keys (point_of s))) (sym (chart-is m right a r))

    -- what the rank holds fits
    pub held-fits : FitHeld p (held_of m (assigned m a r))
    held-fits = record {
      few = omega (arith, low-is, (parts-fit m right a r).fits);
      faces = length-map (faces m right a r) (λ s. place_in (held_faces m (assigned m a r)) (point_of s)) ∙ sym (ap (λ cs. length (faces_among cs)) cells-are);
      edges = length-map (edges m right a r) (λ s. place_in (chart_stratum m (assigned m a r) 1) (point_of s)) ∙ sym (ap (λ cs. length (edges_among cs)) cells-are);
      faces_low = all_map (λ k. k < length (held_faces m (assigned m a r))) (λ s. place_in (held_faces m (assigned m a r)) (point_of s)) (faces m right a r)
          (all_weaker (λ s. (m.dim ≡ 3) × (dim_of s.poly ≡ 2) × (list_any (shows (point_of s)) (held_faces m (assigned m a r)) ≡ true)) (λ s. place_in (held_faces m (assigned m a r)) (point_of s) < length (held_faces m (assigned m a r))) (λ s h. position-within (shows (point_of s)) (held_faces m (assigned m a r)) h.2) (faces m right a r) faces-shown);
      edges_low = all_map (λ k. k < length (chart_stratum m (assigned m a r) 1)) (λ s. place_in (chart_stratum m (assigned m a r) 1) (point_of s)) (edges m right a r)
          (all_weaker (λ s. (dim_of s.poly ≡ 1) × (list_any (shows (point_of s)) (chart_stratum m (assigned m a r) 1) ≡ true)) (λ s. place_in (chart_stratum m (assigned m a r) 1) (point_of s) < length (chart_stratum m (assigned m a r) 1)) (λ s h. position-within (shows (point_of s)) (chart_stratum m (assigned m a r) 1) h.1) (edges m right a r) edges-shown);
    }
