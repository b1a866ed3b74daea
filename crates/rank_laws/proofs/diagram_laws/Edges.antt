-- The points of each stratum: their dimensions, and the ends of edges.
use Rattle.std.proofs.Common.{◌≡◌, ◌≢◌, ℕ, ◌<◌, true, false, ◌==◌, List, map, length, get_or, slice_index, refl, sym, ◌∙◌, subst, inl, inr, arith}
use Rattle.std.specs.List.{list_any, AllByRecursion, filter, enumerate_from}
use Rattle.std.proofs.lemmas.Bool.{and_parts, and_left, eqb-true, ne_eqb}
use Rattle.std.proofs.lemmas.List.{length-map}
use Rattle.plain_lists.specs.Lists.{below, same_list, picked}
use Rattle.plain_lists.proofs.Each.{all_weaker, all_from, all_map, all_at, all_flat_map, all_enumerated, each_passes}
use Rattle.plain_lists.proofs.Filters.{filter_passing}
use Rattle.plain_lists.proofs.Finding.{none_passes}
use Rattle.mesh_defs.specs.Tables.{dim_of, corner_count, edges_of}
use Rattle.mesh_defs.specs.Mesh.{Mesh, Cell, placed_cells}
use Rattle.mesh_defs.specs.Points.{Point, Sight, point_of, shows, cell_edge, cell_edges, vertex_sight, sights}
use Rattle.mesh_defs.specs.Sights.{IsEdgeSight}
use Rattle.mesh_defs.specs.RightMesh.{IsFlatOrSolid, IsSoundCell, IsSoundMesh}
use Rattle.mesh_laws.proofs.Firsts.{firsts-all}
use Rattle.rank_laws.proofs.Found.{two-entries}
use Rattle.rank_laws.proofs.Shapes.{is_pair, edges-are_pairs, picked-differ}
use Rattle.rank_laws.proofs.TurnedEdges.{pair-below}
use Rattle.mesh_defs.proofs.RightMeshes.{are_corners}
use Rattle.rank_laws.specs.diagram_laws.Strata.{whole_sights, face_sights, edge_sights, mesh_faces, mesh_edges}
use Rattle.rank_laws.proofs.diagram_laws.Parts.{of_dim, faces-filtered, faces-none, edges-filtered, cell-dims}

-- ---- dimensions

-- a sight of this dimension
abbrev pub OfDim : ℕ → Sight → Type 0
OfDim d s = dim_of s.poly ≡ d

-- what passes the test has the dimension
chosen-of_dim : (d : ℕ) (ss : List Sight) → AllByRecursion (OfDim d) (filter (of_dim d) ss)
chosen-of_dim d ss = all_weaker (λ s. of_dim d s ≡ true) (OfDim d) (λ s h. eqb-true (dim_of s.poly) d h) (filter (of_dim d) ss) (filter_passing (of_dim d) ss)

-- sights of one dimension show no point of another
pub none-of_dim : (p : Point) (d : ℕ) (ss : List Sight) → p.dim ≢ d → AllByRecursion (OfDim d) ss → list_any (shows p) ss ≡ false
none-of_dim p d ss ne h = none_passes (shows p) ss (all_weaker (OfDim d) (λ s. shows p s ≡ false) (λ s e. and_left (p.dim == dim_of s.poly) (same_list p.vertices (point_of s).vertices) (ne_eqb p.dim (dim_of s.poly) (λ f. ne (f ∙ e)))) ss h)

-- vertices have dimension 0
pub vertices-of_dim : (n : ℕ) → AllByRecursion (OfDim 0) (map vertex_sight (below n))
vertices-of_dim n = all_map (OfDim 0) vertex_sight (below n) (all_from (λ v. OfDim 0 (vertex_sight v)) (λ v. refl) (below n))

module _ (m : Mesh) (sound : IsSoundMesh m) where
  -- cells have the dimension of the mesh
  pub wholes-of_dim : AllByRecursion (OfDim m.dim) (whole_sights (placed_cells m))
  wholes-of_dim = all_map (OfDim m.dim) _ (placed_cells m) (all_enumerated (λ (cell : Cell). dim_of cell.poly ≡ m.dim) 0 m.cells (cell-dims m sound))

  -- what cells see of faces has dimension 2
  pub face_sights-of_dim : AllByRecursion (OfDim 2) (face_sights (placed_cells m))
  face_sights-of_dim = go sound.dim
    where
      go : IsFlatOrSolid m → AllByRecursion (OfDim 2) (face_sights (placed_cells m))
      go (inl flat) = subst (AllByRecursion (OfDim 2)) (sym (faces-none m sound.dim (cell-dims m sound) flat)) tt
      go (inr solid) = subst (AllByRecursion (OfDim 2)) (faces-filtered m sound.dim (cell-dims m sound) solid) (chosen-of_dim 2 (sights (placed_cells m)))

  -- so have the faces
  pub faces-of_dim : AllByRecursion (OfDim 2) (mesh_faces m)
  faces-of_dim = firsts-all (OfDim 2) (face_sights (placed_cells m)) face_sights-of_dim

  -- edges have dimension 1
  pub edges-of_dim : AllByRecursion (OfDim 1) (mesh_edges m)
  edges-of_dim = firsts-all (OfDim 1) (edge_sights (placed_cells m)) (subst (AllByRecursion (OfDim 1)) (edges-filtered m sound.dim (cell-dims m sound)) (chosen-of_dim 1 (sights (placed_cells m))))

-- ---- ends

-- chosen vertices are in range where all are
pub picked-below : (P : ℕ → Type 0) (vs cs : List ℕ) → AllByRecursion P vs → AllByRecursion (λ k. k < length vs) cs → AllByRecursion P (picked vs cs)
picked-below P vs cs h within = all_map P (λ k. get_or vs k 0) cs (all_weaker (λ k. k < length vs) (λ k. P (get_or vs k 0)) (λ k low. all_at P vs k 0 h low) cs within)

module _ (m : Mesh) (c : ℕ) (cell : Cell) (sound : IsSoundCell m cell) where
  -- an edge of a sound cell has two different vertices
  edge-is : (e : ℕ × List ℕ) → is_pair (corner_count cell.poly) e.1 ≡ true → IsEdgeSight (length m.at) (cell_edge c cell e)
  edge-is e h = record { poly = refl; ends = two-entries list long; first = at 0 (omega arith); second = at 1 (omega arith); apart = different 0 1 (omega arith) (omega (arith, long)) }
    where
      list : List ℕ
      list = picked cell.vertices e.1

      pair : is_pair (length cell.vertices) e.1 ≡ true
      pair = subst (λ n. is_pair n e.1 ≡ true) (sym sound.corners) h

      both : ((length e.1 == 2) ≡ true) × (are_corners (length cell.vertices) e.1 ≡ true)
      both = and_parts (length e.1 == 2) (are_corners (length cell.vertices) e.1) pair

      long : length list ≡ 2
      long = length-map e.1 (λ k. get_or cell.vertices k 0) ∙ eqb-true (length e.1) 2 both.0

      different : (i j : ℕ) → i < j → j < length list → slice_index list i ≢ slice_index list j
      different = picked-differ cell.vertices e.1 sound.different both.1

      at : (i : ℕ) → i < 2 → slice_index list i < length m.at
      at i low = all_at (λ v. v < length m.at) list i 0 (picked-below (λ v. v < length m.at) cell.vertices e.1 sound.in_range (pair-below (length cell.vertices) e.1 pair)) (omega (arith, long))

  -- each of its edges
  pub cell_edges-are : AllByRecursion (IsEdgeSight (length m.at)) (cell_edges c cell)
  cell_edges-are = all_map (IsEdgeSight (length m.at)) (cell_edge c cell) (enumerate_from 0 (edges_of cell.poly))
      (all_weaker (λ (e : ℕ × List ℕ). is_pair (corner_count cell.poly) e.1 ≡ true) (λ e. IsEdgeSight (length m.at) (cell_edge c cell e)) edge-is (enumerate_from 0 (edges_of cell.poly))
      (all_enumerated (λ e. is_pair (corner_count cell.poly) e ≡ true) 0 (edges_of cell.poly) (each_passes (is_pair (corner_count cell.poly)) (edges_of cell.poly) (edges-are_pairs cell.poly))))

-- each edge of a sound mesh has two different vertices of it
pub edges-are : (m : Mesh) → IsSoundMesh m → AllByRecursion (IsEdgeSight (length m.at)) (mesh_edges m)
edges-are m sound = firsts-all (IsEdgeSight (length m.at)) (edge_sights (placed_cells m))
    (all_flat_map (IsEdgeSight (length m.at)) (λ (c : ℕ × Cell). cell_edges c.0 c.1) (placed_cells m)
    (all_weaker (λ (c : ℕ × Cell). IsSoundCell m c.1) (λ c. AllByRecursion (IsEdgeSight (length m.at)) (cell_edges c.0 c.1)) (λ c s. cell_edges-are m c.0 c.1 s) (placed_cells m) (all_enumerated (IsSoundCell m) 0 m.cells sound.cells)))
