-- What a rank is given, put together.
use Rattle.std.proofs.Common.{◌≡◌, ℕ, ◌<◌, ◌≤◌, ◌==◌, List, map, length, slice_index, refl, sym, ap, ◌∙◌, subst, arith}
use Rattle.std.specs.List.{AllByRecursion}
use Rattle.std.proofs.lemmas.List.{length-map}
use Rattle.std.proofs.lemmas.List.FromFn.{length-enumerate_from}
use Rattle.std.proofs.lemmas.List.Filters.{length-filter_both}
use Rattle.plain_lists.specs.Lists.{below}
use Rattle.plain_lists.proofs.Below.{length-below, get_or-map-below}
use Rattle.plain_lists.proofs.Each.{all_weaker}
use Rattle.plain_lists.proofs.Filters.{map_same}
use Rattle.std.specs.Prelude.{not}
use Rattle.mesh_defs.specs.declared.Poly.{Poly}
use Rattle.mesh_defs.specs.declared.Place.{Place}
use Rattle.mesh_defs.specs.declared.Place.TheVariants.{Node, Element}
use Rattle.mesh_defs.specs.Mesh.{Mesh, Cell, Section, placed_cells}
use Rattle.mesh_defs.specs.RightMesh.{IsRightMesh, AreCells}
use Rattle.plex_defs.specs.Fields.{row_values}
use Rattle.rank_defs.specs.Ranks.{assigned, rank_of, held_cells, owner}
use Rattle.rank_defs.specs.Spread.{ScatterPart, section_numbers, coordinates_of}
use Rattle.rank_laws.proofs.ChartsClosed.{held-cells}
use Rattle.dist_state.specs.scatter_state.Parts.{cells_of, number_of}
use Rattle.dist_state.proofs.scatter_state.Given.{numbers-cells_of}
use Rattle.headline_laws.specs.seed_laws.Given.{vertices_of, owners_of, marks_on_cells, vertex_point}
use Rattle.headline_laws.specs.seed_laws.Asked.{rank_vertices}
use Rattle.headline_laws.proofs.seed_laws.Parts.{part-of_cells}
use Rattle.headline_laws.proofs.seed_laws.Asking.{rank_vertices-below}
use Rattle.dist_seed.specs.rank_cells.Own.{Held, held_of, IsFull}
use Rattle.dist_seed.specs.section_rows.Last.{numbers_on}
use Rattle.dist_seed.specs.Parts.{part_given}

-- the cells of a rank are cells of the mesh
pub assigned-cells : (m : Mesh) (a : List ℕ) (r : ℕ) → AreCells m (assigned m a r)
unfolding held_cells
assigned-cells m a r = held-cells m a r 0

pub assigned-few : (m : Mesh) (a : List ℕ) (r : ℕ) → IsRightMesh m → length (assigned m a r) ≤ 250000
unfolding assigned
assigned-few m a r right =
    let parts = length-filter_both (λ (c : ℕ × Cell). rank_of a c == r) (λ c. not (rank_of a c == r)) (λ c. refl) (placed_cells m) in
    let all = length-enumerate_from 0 m.cells in
    let few = right.few_cells in
    omega (arith, parts, all, few)

module _ (m : Mesh) (a : List ℕ) (r : ℕ) (held : Held) (is : held ≡ held_of m a r) where
  pub cells-held : held.cells ≡ assigned m a r
  unfolding held_of
  cells-held = ap (λ (h : Held). h.cells) is

  pub vertices-held : held.vertices ≡ rank_vertices m a r
  unfolding held_of
  vertices-held = ap (λ (h : Held). h.vertices) is

  pub are-cells : AreCells m held.cells
  are-cells = subst (AreCells m) (sym cells-held) (assigned-cells m a r)

  pub few-cells : IsRightMesh m → length held.cells ≤ 250000
  few-cells right = subst (λ cells. length cells ≤ 250000) (sym cells-held) (assigned-few m a r right)

  pub own-vertices : held.vertices ≡ vertices_of (length m.at) held.cells
  unfolding rank_vertices
  own-vertices = vertices-held ∙ ap (vertices_of (length m.at)) (sym cells-held)

  pub low-vertices : AllByRecursion (λ v. v < length m.at) held.vertices
  low-vertices = subst (AllByRecursion (λ v. v < length m.at)) (sym vertices-held) (rank_vertices-below m a 0 r)

-- the owners of some vertices by those of all
pub owners-there : (m : Mesh) (a owners vertices : List ℕ) → owners ≡ owners_of m a (below (length m.at)) → AllByRecursion (λ v. v < length m.at) vertices → map (slice_index owners) vertices ≡ owners_of m a vertices
unfolding owners_of
owners-there m a owners vertices are low = map_same (slice_index owners) (λ v. owner m a (vertex_point v)) vertices
    (all_weaker (λ v. v < length m.at) (λ v. slice_index owners v ≡ owner m a (vertex_point v)) (λ v within. ap (λ l. slice_index l v) are ∙ get_or-map-below (λ w. owner m a (vertex_point w)) (length m.at) v 0 within) vertices low)

pub length-owners : (m : Mesh) (a owners : List ℕ) → owners ≡ owners_of m a (below (length m.at)) → length owners ≡ length m.at
unfolding owners_of
length-owners m a owners are = ap length are ∙ length-map (below (length m.at)) (λ v. owner m a (vertex_point v)) ∙ length-below (length m.at)

-- data sections name cells by their places
numbers-of : (on : Place) (cells : List (ℕ × Cell)) (vertices : List ℕ) → numbers_on on (map number_of cells) vertices ≡ section_numbers on cells vertices
numbers-of Node cells vertices = refl
numbers-of Element cells vertices = refl

-- the numbers of a rank's cells
pub numbers-of_cells : (cells : List (ℕ × Cell)) (numbers : List ℕ) (kinds : List Poly) (lists : List (List ℕ)) → IsFull numbers kinds lists → cells_of numbers kinds lists ≡ cells → numbers ≡ map number_of cells
numbers-of_cells cells numbers kinds lists full are = sym (numbers-cells_of numbers kinds lists full.polys full.corners) ∙ ap (map number_of) are

-- the part of a rank from its components
pub assembled : (m : Mesh) (a : List ℕ) (r : ℕ) (part : ScatterPart) (numbers : List ℕ) → IsRightMesh m → part.cells ≡ assigned m a r → numbers ≡ map number_of (assigned m a r) → part.vertices ≡ rank_vertices m a r
    → part.owners ≡ owners_of m a part.vertices → part.at ≡ coordinates_of m part.vertices → part.marks ≡ marks_on_cells m part.cells
    → part.rows ≡ map (λ (f : Section). map (row_values f) (numbers_on f.on numbers part.vertices)) m.fields → part ≡ part_given m a r
unfolding part_given rank_vertices
assembled m a r part numbers right cells places vertices owners at marks rows =
    let own = assigned m a r in
    let vs = vertices_of (length m.at) own in
    (λ i. record {
      cells = cells i;
      vertices = vertices i;
      owners = (owners ∙ ap (owners_of m a) vertices) i;
      at = (at ∙ ap (coordinates_of m) vertices) i;
      marks = (marks ∙ ap (marks_on_cells m) cells) i;
      rows = (rows ∙ (λ j. map (λ (f : Section). map (row_values f) (numbers_on f.on (places j) (vertices j))) m.fields) ∙ (λ j. map (λ (f : Section). map (row_values f) (numbers-of f.on own vs j)) m.fields)) i;
    })
    ∙ sym (part-of_cells m a own right (assigned-cells m a r))
