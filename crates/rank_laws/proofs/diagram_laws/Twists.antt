-- The faces of cells are among the faces of the mesh, and a twist is told by them.
use Rattle.std.proofs.Common.{◌≡◌, ℕ, ◌+◌, ◌-◌, Bool, true, false, cond, ◌&&◌, ◌==◌, List, [], ◌∷◌, map, length, sym, ap, ◌∙◌, inl, inr, arith}
use Rattle.std.specs.Prelude.{find, option_map, is_none}
use Rattle.std.specs.List.{list_any, AllByRecursion, filter, enumerate_from}
use Rattle.std.proofs.lemmas.Bool.{eq-eqb, ne_eqb}
use Rattle.plain_lists.specs.Lists.{picked}
use Rattle.plain_lists.proofs.Each.{all_weaker, all_both, all_in_flat_map, all_mapped, all_from}
use Rattle.plain_lists.proofs.Filters.{filter_agree, filter_none}
use Rattle.plain_lists.proofs.Finding.{find_agree}
use Rattle.mesh_defs.specs.Tables.{Facet, dim_of, facets_of}
use Rattle.mesh_defs.specs.Mesh.{Mesh, Cell, placed_cells}
use Rattle.mesh_defs.specs.Points.{Sight, point_on, point_of, shows, cell_face, cell_faces, sights}
use Rattle.mesh_defs.specs.Diagram.{place_in, chart, seen_under, twist_key, cone, entry}
use Rattle.mesh_defs.specs.RightMesh.{IsFlatOrSolid, IsSoundMesh, CellsDiffer}
use Rattle.mesh_laws.proofs.Firsts.{shown_among_firsts}
use Rattle.plain_lists.proofs.Filters.{map_same}
use Rattle.rank_laws.specs.diagram_laws.Strata.{face_sights, mesh_faces, turn_among, entry_from, cone_from, first_twist}
use Rattle.rank_laws.proofs.diagram_laws.Parts.{of_dim, faces-filtered, faces-none, cell-dims}
use Rattle.rank_laws.proofs.diagram_laws.Edges.{OfDim, face_sights-of_dim}
use Rattle.rank_laws.proofs.diagram_laws.Cones.{turn-face, entry-face, facets-lower}

-- each facet of a cell is shown by these points
abbrev pub FacetsShown : List Sight → Cell → Type 0
FacetsShown points cell = AllByRecursion (λ (f : Facet). list_any (shows (point_on f.poly (picked cell.vertices f.corners))) points ≡ true) (facets_of cell.poly)

-- the number of a facet does not matter
any-number : (P : Facet → Type 0) (n : ℕ) (fs : List Facet) → AllByRecursion (λ (f : ℕ × Facet). P f.1) (enumerate_from n fs) → AllByRecursion P fs
any-number P n [] h = tt
any-number P n (f ∷ fs) h = (h.0, any-number P (n + 1) fs h.1)

-- the facets of a solid are shown where what it sees of faces is
pub facets-from : (points : List Sight) (c : ℕ) (cell : Cell) → dim_of cell.poly ≡ 3 → AllByRecursion (λ s. list_any (shows (point_of s)) points ≡ true) (cell_faces c cell) → FacetsShown points cell
facets-from points c cell solid h = go (dim_of cell.poly == 3) (eq-eqb (dim_of cell.poly) 3 solid) h
  where
    go : (b : Bool) → b ≡ true → AllByRecursion (λ s. list_any (shows (point_of s)) points ≡ true) (cond b (map (cell_face c cell) (enumerate_from 0 (facets_of cell.poly))) []) → FacetsShown points cell
    go false e k = absurd (cc e)
    go true e k = any-number (λ (f : Facet). list_any (shows (point_on f.poly (picked cell.vertices f.corners))) points ≡ true) 0 (facets_of cell.poly)
        (all_mapped (λ s. list_any (shows (point_of s)) points ≡ true) (cell_face c cell) (enumerate_from 0 (facets_of cell.poly)) k)

module _ (m : Mesh) (sound : IsSoundMesh m) (differ : CellsDiffer m) where
  -- what each cell sees of faces is among the faces
  pub cell_faces-shown : AllByRecursion (λ (c : ℕ × Cell). AllByRecursion (λ s. list_any (shows (point_of s)) (mesh_faces m) ≡ true) (cell_faces c.0 c.1)) (placed_cells m)
  cell_faces-shown = all_in_flat_map (λ s. list_any (shows (point_of s)) (mesh_faces m) ≡ true) (λ (c : ℕ × Cell). cell_faces c.0 c.1) (placed_cells m) (shown_among_firsts (face_sights (placed_cells m)))

  -- the cone of a solid whose facets are shown: its faces
  pub cone-solid : m.dim ≡ 3 → (s : Sight) → dim_of s.poly ≡ 3 → FacetsShown (mesh_faces m) (record { poly = s.poly; vertices = s.arrangement }) → cone m (place_in (chart m (placed_cells m))) s ≡ cone_from (length m.cells + length m.at) (mesh_faces m) s.poly s.arrangement
  unfolding cone
  cone-solid solid s three shown = map_same (entry m (place_in (chart m (placed_cells m))) s.arrangement) (λ (f : Facet). entry_from (length m.cells + length m.at) (mesh_faces m) f.poly (picked s.arrangement f.corners)) (facets_of s.poly)
      (all_both (λ (f : Facet). dim_of f.poly ≡ dim_of s.poly - 1) (λ (f : Facet). list_any (shows (point_on f.poly (picked s.arrangement f.corners))) (mesh_faces m) ≡ true) (λ (f : Facet). entry m (place_in (chart m (placed_cells m))) s.arrangement f ≡ entry_from (length m.cells + length m.at) (mesh_faces m) f.poly (picked s.arrangement f.corners))
      (λ f h k. entry-face m sound differ solid s.arrangement f (omega arith) k) (facets_of s.poly) (facets-lower s.poly) shown)

  -- the twist key is that of the first face that is seen under no orientation of its point among the faces
  pub twist-is : twist_key m ≡ first_twist (mesh_faces m) (face_sights (placed_cells m))
  unfolding twist_key
  twist-is = go sound.dim
    where
      test : Sight → Bool
      test s = (m.dim == 3) && (dim_of s.poly == 2)

      go : IsFlatOrSolid m → option_map (λ (s : Sight). s.key) (find (λ s. is_none (seen_under m s.poly s.arrangement)) (filter (λ s. (m.dim == 3) && (dim_of s.poly == 2)) (sights (placed_cells m)))) ≡ first_twist (mesh_faces m) (face_sights (placed_cells m))
      go (inl flat) =
          ap (λ ss. option_map (λ (s : Sight). s.key) (find (λ s. is_none (seen_under m s.poly s.arrangement)) ss)) (filter_none (λ s. (m.dim == 3) && (dim_of s.poly == 2)) (sights (placed_cells m)) (all_from (λ s. ((m.dim == 3) && (dim_of s.poly == 2)) ≡ false) (λ s. ap (λ b. b && (dim_of s.poly == 2)) (ne_eqb m.dim 3 (λ e. absurd (omega arith)))) (sights (placed_cells m))))
          ∙ sym (ap (first_twist (mesh_faces m)) (faces-none m sound.dim (cell-dims m sound) flat))
      go (inr solid) =
          ap (λ ss. option_map (λ (s : Sight). s.key) (find (λ s. is_none (seen_under m s.poly s.arrangement)) ss))
          (filter_agree (λ s. (m.dim == 3) && (dim_of s.poly == 2)) (of_dim 2) (sights (placed_cells m)) (all_from (λ s. ((m.dim == 3) && (dim_of s.poly == 2)) ≡ of_dim 2 s) (λ s. ap (λ b. b && (dim_of s.poly == 2)) (eq-eqb m.dim 3 solid)) (sights (placed_cells m)))
          ∙ faces-filtered m sound.dim (cell-dims m sound) solid)
          ∙ ap (option_map (λ (s : Sight). s.key))
          (find_agree (λ s. is_none (seen_under m s.poly s.arrangement)) (λ (s : Sight). is_none (turn_among (mesh_faces m) s.poly s.arrangement)) (face_sights (placed_cells m))
          (all_weaker (OfDim 2) (λ s. is_none (seen_under m s.poly s.arrangement) ≡ is_none (turn_among (mesh_faces m) s.poly s.arrangement)) (λ s two. ap is_none (turn-face m sound differ solid s.poly s.arrangement two)) (face_sights (placed_cells m)) (face_sights-of_dim m sound)))
