-- The labels of the points that some cells have, from the marks on these points.
use Rattle.std.proofs.Common.{◌≡◌, ℕ, true, ◌==◌, List, map, ap, sym, subst, ◌∙◌}
use Rattle.std.specs.Prelude.{filter}
use Rattle.std.specs.List.{AllByRecursion, enumerate_from}
use Rattle.plain_lists.proofs.Each.{all_weaker, all_filter, all_enumerated}
use Rattle.plain_lists.proofs.Filters.{filter_passing, filter_within, flat_map_same}
use Rattle.mesh_defs.specs.Tables.{dim_of}
use Rattle.mesh_defs.specs.Mesh.{Mesh, Cell, Mark}
use Rattle.mesh_defs.specs.Points.{Point, Sight, point_of, same_point, marked_point}
use Rattle.mesh_defs.specs.RightMesh.{IsFlatOrSolid, IsSoundMesh, AreCells, in_some}
use Rattle.mesh_laws.proofs.Firsts.{same_point-true}
use Rattle.plex_defs.specs.Labels.{label_of, marks_on, mesh_label}
use Rattle.rank_chart_laws.specs.label_laws.Marks.{IsAmong, marked_pairs}
use Rattle.rank_chart_laws.proofs.label_laws.Marked.{label-of-marks}
use Rattle.rank_defs.specs.Spread.{own_chart}
use Rattle.rank_laws.proofs.share_laws.Own.{own-differ, own-inside, own-members}
use Rattle.rank_chart_laws.specs.field_laws.Kept.{kept_marks}

module _ (m : Mesh) (cells : List (ℕ × Cell)) where
  -- the mesh with the marks on points of the cells alone
  abbrev kept-mesh : Mesh
  kept-mesh = record m { marks = kept_marks m cells }

  -- it has the same marks on each point of the cells
  kept-on : (p : Point) → in_some p cells ≡ true → marks_on kept-mesh p ≡ marks_on m p
  kept-on p h = ap (map (λ (k : Mark). k.value)) (filter_within (λ (k : Mark). same_point p (marked_point k)) (λ (k : Mark). in_some (marked_point k) cells) (λ k same. subst (λ q. in_some q cells ≡ true) (same_point-true p (marked_point k) same) h) m.marks)

  -- and so the same labels
  kept-labels : (points : List Sight) → AllByRecursion (λ s. in_some (point_of s) cells ≡ true) points → (dim : ℕ) → mesh_label kept-mesh dim points ≡ mesh_label m dim points
  unfolding mesh_label
  kept-labels points inside dim = ap label_of (flat_map_same (λ (s : ℕ × Sight). map (λ value. (s.0, value)) (marks_on kept-mesh (point_of s.1))) (λ (s : ℕ × Sight). map (λ value. (s.0, value)) (marks_on m (point_of s.1))) (filter (λ (s : ℕ × Sight). dim_of s.1.poly == dim) (enumerate_from 0 points))
      (all_weaker (λ (s : ℕ × Sight). in_some (point_of s.1) cells ≡ true) (λ (s : ℕ × Sight). map (λ value. (s.0, value)) (marks_on kept-mesh (point_of s.1)) ≡ map (λ value. (s.0, value)) (marks_on m (point_of s.1))) (λ s h. ap (map (λ value. (s.0, value))) (kept-on (point_of s.1) h)) (filter (λ (s : ℕ × Sight). dim_of s.1.poly == dim) (enumerate_from 0 points))
      (all_filter (λ (s : ℕ × Sight). in_some (point_of s.1) cells ≡ true) (λ (s : ℕ × Sight). dim_of s.1.poly == dim) (enumerate_from 0 points) (all_enumerated (λ s. in_some (point_of s) cells ≡ true) 0 points inside))))

  -- the labels of the cells' own chart are those of the kept marks, by the places of their points
  pub own-label : IsFlatOrSolid m → IsSoundMesh m → AreCells m cells → (dim : ℕ) → mesh_label m dim (own_chart m cells) ≡ label_of (marked_pairs (own_chart m cells) dim (kept_marks m cells))
  own-label flat sound are dim =
      sym (kept-labels (own_chart m cells) (own-inside m cells) dim)
      ∙ label-of-marks kept-mesh dim (own_chart m cells) (own-differ m cells flat)
      (all_weaker (λ (k : Mark). in_some (marked_point k) cells ≡ true) (IsAmong (own_chart m cells)) (λ k h. own-members m cells sound are (marked_point k) ∙ h) (kept_marks m cells) (filter_passing (λ (k : Mark). in_some (marked_point k) cells) m.marks))
