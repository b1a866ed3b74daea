-- What a cell contains, as the sights of different points, each of which stands at one of the cell's places.
use Rattle.std.proofs.Common.{◌≡◌, ℕ, ◌+◌, ◌<◌, ◌≤◌, Bool, true, ◌==◌, List, [], ◌∷◌, ◌++◌, map, length, refl, sym, ap, ◌∙◌, subst, length-append, append_assoc, append-nil, arith}
use Rattle.std.specs.Prelude.{count_by}
use Rattle.std.specs.List.{list_any, AllByRecursion}
use Rattle.std.proofs.lemmas.Bool.{eq-eqb, eqb-true}
use Rattle.std.proofs.lemmas.List.{length-map, get_or-map, map-append, get_or_append_left, get_or-append-add}
use Rattle.plain_lists.proofs.Each.{all_weaker, all_from, all_map}
use Rattle.plain_lists.proofs.Filters.{map_map_same}
use Rattle.plain_lists.proofs.Finding.{any_map, any_same, position-within, position_map, position_agree, same_tests, stands}
use Rattle.mesh_defs.specs.Mesh.{Mesh, Cell}
use Rattle.mesh_defs.specs.Points.{Point, Sight, point_of, shows, vertex_sight, cell_sight, cell_faces, cell_edges, contains}
use Rattle.mesh_defs.specs.Diagram.{place_in}
use Rattle.mesh_defs.specs.Sights.{points_differ}
use Rattle.mesh_defs.specs.RightMesh.{IsSoundCell}
use Rattle.mesh_laws.proofs.Firsts.{shows-own}
use Rattle.mesh_laws.proofs.Containing.{shows-vertex}
use Rattle.rank_laws.specs.diagram_laws.Strata.{whole_sights}
use Rattle.rank_defs.specs.Spread.{ScatterPart}
use Rattle.local_points.specs.Points.{places_in, faces_among, edges_among}
use Rattle.dist_state.specs.scatter_state.Parts.{cell_at}
use Rattle.rank_chart_laws.specs.field_laws.Weights.{no_sight, point_at}
use Rattle.rank_laws.specs.cell_laws.Cells.{cell_all, once, places_from}
use Rattle.rank_laws.proofs.cell_laws.Once.{count-map, count_agree, place-is, place-tells, shown-there}
use Rattle.rank_laws.proofs.cell_laws.Cells.{contains-all, once-all, few-all}
use Rattle.interp_share.specs.own_field_laws.Own.{IsPartOf, part_points}
use Rattle.interp_share.specs.part_weights.Places.{vertex_place, before_faces, before_edges, cell_places}
use Rattle.interp_share.proofs.own_field_laws.Given.{points-apart, points-shown, cell-sound, cell-inside, corners-there}
use Rattle.interp_share.proofs.part_weights.Seen.{faces-seen, edges-seen}

-- all that a cell contains it contains
all-contained : (c : ℕ) (cell : Cell) → AllByRecursion (λ s. contains cell (point_of s) ≡ true) (cell_all c cell)
all-contained c cell = all_weaker (λ s. (q : Sight → Bool) → q s ≡ true → list_any q (cell_all c cell) ≡ true) (λ s. contains cell (point_of s) ≡ true)
    (λ s there. sym (contains-all (point_of s) c cell) ∙ there (shows (point_of s)) (shows-own s)) (cell_all c cell) (stands (cell_all c cell))

-- ---- places among parts of a list

-- a point of a part stands behind what stands before the part
place-behind : (before part after : List Sight) (p : Point) → points_differ (before ++ (part ++ after)) ≡ true → list_any (shows p) part ≡ true → place_in (before ++ (part ++ after)) p ≡ length before + place_in part p
place-behind before part after p differ there =
    let k : ℕ = place_in part p in
    let low : k < length part = position-within (shows p) part there in
    place-is p (before ++ (part ++ after)) no_sight differ (length before + k)
    (omega (arith, low, length-append before (part ++ after), length-append part after))
    (ap (shows p) (get_or-append-add before (part ++ after) k no_sight ∙ get_or_append_left part after no_sight k low) ∙ shown-there p part no_sight there)

module _ (part : ScatterPart) (m : Mesh) (a : List ℕ) (n r : ℕ) (is : IsPartOf part m a n r) (i : ℕ) (low : i < length part.cells) where
  abbrev c : ℕ × Cell
  c = cell_at part.cells i

  sound : IsSoundCell m c.1
  sound = cell-sound part m a n r is i low

  abbrev here : List Sight
  here = cell_all (cell_at part.cells i).0 (cell_at part.cells i).1

  abbrev wholes : List Sight
  wholes = whole_sights part.cells

  abbrev vertices : List Sight
  vertices = map vertex_sight part.vertices

  abbrev faces : List Sight
  faces = faces_among part.cells

  abbrev edges : List Sight
  edges = edges_among part.cells

  abbrev place : Sight → ℕ
  place s = place_in (part_points part) (point_of s)

  wholes-long : length wholes ≡ length part.cells
  wholes-long = length-map part.cells (λ (d : ℕ × Cell). cell_sight d.0 d.1)

  vertices-long : length vertices ≡ length part.vertices
  vertices-long = length-map part.vertices vertex_sight

  -- ---- places

  differ : points_differ (part_points part) ≡ true
  differ = points-apart part m a n r is

  whole-place : place (cell_sight c.0 c.1) ≡ i
  whole-place = place-is (point_of (cell_sight c.0 c.1)) (part_points part) no_sight differ i
      (omega (arith, low, wholes-long, length-append (wholes ++ vertices ++ faces) edges, length-append (wholes ++ vertices) faces, length-append wholes vertices))
      (ap (shows (point_of (cell_sight c.0 c.1)))
      (get_or_append_left (wholes ++ vertices ++ faces) edges no_sight i (omega (arith, low, wholes-long, length-append (wholes ++ vertices) faces, length-append wholes vertices))
      ∙ (get_or_append_left (wholes ++ vertices) faces no_sight i (omega (arith, low, wholes-long, length-append wholes vertices))
      ∙ (get_or_append_left wholes vertices no_sight i (omega (arith, low, wholes-long))
      ∙ get_or-map (λ (d : ℕ × Cell). cell_sight d.0 d.1) part.cells i (cell_at [] 0) no_sight low)))
      ∙ shows-own (cell_sight c.0 c.1))

  -- the points in other groupings
  by-vertices : part_points part ≡ wholes ++ (vertices ++ (faces ++ edges))
  by-vertices = append_assoc (wholes ++ vertices) faces edges ∙ append_assoc wholes vertices (faces ++ edges)

  by-faces : part_points part ≡ (wholes ++ vertices) ++ (faces ++ edges)
  by-faces = append_assoc (wholes ++ vertices) faces edges

  by-edges : part_points part ≡ (wholes ++ vertices ++ faces) ++ (edges ++ [])
  by-edges = ap (λ l. (wholes ++ vertices ++ faces) ++ l) (sym (append-nil edges))

  vertex-place : (v : ℕ) → list_any (λ w. w == v) part.vertices ≡ true → length part.cells + vertex_place part.vertices v ≡ place (vertex_sight v)
  vertex-place v there = sym (
      ap (λ l. place_in l (point_of (vertex_sight v))) by-vertices
      ∙ (place-behind wholes vertices (faces ++ edges) (point_of (vertex_sight v)) (ap points_differ (sym by-vertices) ∙ differ) (any_map (shows (point_of (vertex_sight v))) vertex_sight part.vertices ∙ (any_same (λ w. shows (point_of (vertex_sight v)) (vertex_sight w)) (λ w. w == v) turned part.vertices ∙ there))
      ∙ (λ j. wholes-long j + (position_map (shows (point_of (vertex_sight v))) vertex_sight part.vertices ∙ position_agree (λ w. shows (point_of (vertex_sight v)) (vertex_sight w)) (λ w. w == v) part.vertices (all_from (λ w. shows (point_of (vertex_sight v)) (vertex_sight w) ≡ (w == v)) turned part.vertices)) j)))
    where
      turned : (w : ℕ) → shows (point_of (vertex_sight v)) (vertex_sight w) ≡ (w == v)
      turned w = shows-vertex v w ∙ same_tests (v == w) (w == v) (λ e. eq-eqb w v (sym (eqb-true v w e))) (λ e. eq-eqb v w (sym (eqb-true w v e)))

  vertices-placed : places_from (length part.cells) (map (vertex_place part.vertices) c.1.vertices) ≡ map place (map vertex_sight c.1.vertices)
  vertices-placed =
      map_map_same (λ k. length part.cells + k) (vertex_place part.vertices) (λ v. place (vertex_sight v)) c.1.vertices
      (all_weaker (λ v. list_any (λ w. w == v) part.vertices ≡ true) (λ v. length part.cells + vertex_place part.vertices v ≡ place (vertex_sight v)) vertex-place c.1.vertices (corners-there part m a n r is i low))
      ∙ sym (map_map_same place vertex_sight (λ v. place (vertex_sight v)) c.1.vertices (all_from (λ v. place (vertex_sight v) ≡ place (vertex_sight v)) (λ v. refl) c.1.vertices))

  faces-placed : places_from (before_faces part) (places_in faces (cell_faces c.0 c.1)) ≡ map place (cell_faces c.0 c.1)
  faces-placed = map_map_same (λ k. before_faces part + k) (λ s. place_in faces (point_of s)) place (cell_faces c.0 c.1)
      (all_weaker (λ s. list_any (shows (point_of s)) faces ≡ true) (λ s. before_faces part + place_in faces (point_of s) ≡ place s)
      (λ s there. sym (ap (λ l. place_in l (point_of s)) by-faces
      ∙ (place-behind (wholes ++ vertices) faces edges (point_of s) (ap points_differ (sym by-faces) ∙ differ) there
      ∙ ap (λ k. k + place_in faces (point_of s)) before)))
      (cell_faces c.0 c.1) (faces-seen part.cells i low))
    where
      before : length (wholes ++ vertices) ≡ before_faces part
      before = length-append wholes vertices ∙ (λ j. wholes-long j + vertices-long j)

  edges-placed : places_from (before_edges part) (places_in edges (cell_edges c.0 c.1)) ≡ map place (cell_edges c.0 c.1)
  edges-placed = map_map_same (λ k. before_edges part + k) (λ s. place_in edges (point_of s)) place (cell_edges c.0 c.1)
      (all_weaker (λ s. list_any (shows (point_of s)) edges ≡ true) (λ s. before_edges part + place_in edges (point_of s) ≡ place s)
      (λ s there. sym (ap (λ l. place_in l (point_of s)) by-edges
      ∙ (place-behind (wholes ++ vertices ++ faces) edges [] (point_of s) (ap points_differ (sym by-edges) ∙ differ) there
      ∙ ap (λ k. k + place_in edges (point_of s)) before)))
      (cell_edges c.0 c.1) (edges-seen part.cells i low))
    where
      before : length (wholes ++ vertices ++ faces) ≡ before_edges part
      before = length-append (wholes ++ vertices) faces ∙ ap (λ k. k + length faces) (length-append wholes vertices ∙ (λ j. wholes-long j + vertices-long j))

  -- the places of a cell are those of what it contains
  places-here : cell_places part i (cell_at part.cells i) ≡ map place here
  unfolding cell_places
  places-here =
      let whole = cell_sight c.0 c.1 ∷ map vertex_sight c.1.vertices in
      (let first = sym whole-place in λ j. (first j ∷ vertices-placed j) ++ faces-placed j ++ edges-placed j)
      ∙ sym (map-append place (whole ++ cell_faces c.0 c.1) (cell_edges c.0 c.1) ∙ ap (λ l. l ++ map place (cell_edges c.0 c.1)) (map-append place whole (cell_faces c.0 c.1)))

  -- all that it contains is shown
  all-shown : AllByRecursion (λ s. list_any (shows (point_of s)) (part_points part) ≡ true) here
  all-shown = all_weaker (λ s. contains c.1 (point_of s) ≡ true) (λ s. list_any (shows (point_of s)) (part_points part) ≡ true) (λ s h. points-shown part m a n r is (point_of s) (cell-inside part m a n r is i low (point_of s) h)) here (all-contained c.0 c.1)

  -- its places are below the number of points
  pub here-low : AllByRecursion (λ k. k < length (part_points part)) (cell_places part i (cell_at part.cells i))
  here-low = subst (AllByRecursion (λ k. k < length (part_points part))) (sym places-here)
      (all_map (λ k. k < length (part_points part)) place here (all_weaker (λ s. list_any (shows (point_of s)) (part_points part) ≡ true) (λ s. place s < length (part_points part)) (λ s there. position-within (shows (point_of s)) (part_points part) there) here all-shown))

  -- each point that the cell contains stands at one of its places, once, and no other point does
  pub here-count : (p : ℕ) → p < length (part_points part) → count_by (λ k. k == p) (cell_places part i (cell_at part.cells i)) ≡ once (contains (cell_at part.cells i).1 (point_at (part_points part) p))
  here-count p within =
      let point = point_at (part_points part) p in
      ap (count_by (λ k. k == p)) places-here
      ∙ (count-map (λ k. k == p) place here
      ∙ (count_agree (λ s. place s == p) (shows point) here
      (all_weaker (λ s. list_any (shows (point_of s)) (part_points part) ≡ true) (λ s. (place s == p) ≡ shows point s) (λ s there. place-tells (part_points part) no_sight s p differ there within) here all-shown)
      ∙ (once-all m c.0 c.1 sound is.mesh.sound.dim point ∙ ap once (contains-all point c.0 c.1))))

  -- they are few
  pub here-few : length (cell_places part i (cell_at part.cells i)) ≤ 64
  here-few = omega (arith, few-all m c.0 c.1 sound, ap length places-here, length-map here place)
