-- What a rank is given, by tests on its cells.
use Rattle.std.proofs.Common.{◌≡◌, ℕ, true, ◌&&◌, ◌==◌, List, [], ◌∷◌, map, length, refl, sym, ap, ◌∙◌}
use Rattle.std.specs.List.{list_any, filter}
use Rattle.std.proofs.lemmas.Bool.{and_parts, and_from}
use Rattle.plain_lists.proofs.Each.{all_weaker}
use Rattle.plain_lists.proofs.Filters.{filter_agree, map_map_same}
use Rattle.plain_lists.proofs.Each.{all_from}
use Rattle.plain_lists.proofs.Finding.{any_filter, same_tests, any_weaker}
use Rattle.mesh_defs.specs.Tables.{dim_of}
use Rattle.mesh_defs.specs.Mesh.{Mesh, Cell, Section, placed_cells}
use Rattle.mesh_defs.specs.Points.{Point, Sight, point_of, shows, vertex_sight, marked_point}
use Rattle.mesh_defs.specs.Diagram.{strata, chart}
use Rattle.mesh_defs.specs.RightMesh.{IsRightMesh, IsOnPoint, AreCells, in_some}
use Rattle.mesh_laws.proofs.Containing.{chart-all}
use Rattle.mesh_laws.proofs.Firsts.{shows-true}
use Rattle.plex_defs.specs.Fields.{row_values}
use Rattle.rank_defs.specs.Ranks.{owner}
use Rattle.rank_defs.specs.Spread.{scatter_part, section_numbers, vertices_among, coordinates_of}
use Rattle.headline_laws.proofs.Charted.{some-charted, each_tells}
use Rattle.headline_laws.specs.seed_laws.Given.{vertices_of, vertex_point, owners_of, marks_on_cells, given}
use Rattle.headline_laws.proofs.seed_laws.Vertices.{AreHigh, cells-high, vertices-charted}

map-itself : (xs : List ℕ) → map (λ v. v) xs ≡ xs
map-itself [] = refl
map-itself (x ∷ xs) = ap (λ l. x ∷ l) (map-itself xs)

module _ (m : Mesh) (right : IsRightMesh m) (cells : List (ℕ × Cell)) (high : AreHigh cells) where
  pub vertices-are : vertices_among (chart m cells) ≡ vertices_of (length m.at) cells
  vertices-are = ap (map (λ (s : Sight). s.key)) (vertices-charted m right cells high) ∙ map_map_same (λ (s : Sight). s.key) vertex_sight (λ v. v) (vertices_of (length m.at) cells) (all_from (λ v. v ≡ v) (λ v. refl) (vertices_of (length m.at) cells)) ∙ map-itself (vertices_of (length m.at) cells)

  pub owners-are : (a : List ℕ) → map (λ s. owner m a (point_of s)) (filter (λ s. dim_of s.poly == 0) (chart m cells)) ≡ owners_of m a (vertices_of (length m.at) cells)
  unfolding owners_of
  owners-are a = ap (map (λ s. owner m a (point_of s))) (vertices-charted m right cells high) ∙ map_map_same (λ s. owner m a (point_of s)) vertex_sight (λ v. owner m a (vertex_point v)) (vertices_of (length m.at) cells) (all_from (λ v. owner m a (vertex_point v) ≡ owner m a (vertex_point v)) (λ v. refl) (vertices_of (length m.at) cells))

  -- a point of the mesh is in the chart where some of the cells contains it
  pub charted-is : (p : Point) → in_some p (placed_cells m) ≡ true → list_any (shows p) (chart m cells) ≡ in_some p cells
  unfolding chart
  charted-is p on =
      any_filter (shows p) (λ s. in_some (point_of s) cells) (strata m)
      ∙ same_tests (list_any (λ s. in_some (point_of s) cells && shows p s) (strata m)) (in_some p cells)
      (λ h. each_tells (λ s. in_some (point_of s) cells && shows p s) (in_some p cells) (strata m)
      (all_from (λ s. (in_some (point_of s) cells && shows p s) ≡ true → in_some p cells ≡ true) (λ s both. let parts = and_parts (in_some (point_of s) cells) (shows p s) both in ap (λ q. in_some q cells) (shows-true p s parts.1) ∙ parts.0) (strata m)) h)
      (λ h. any_weaker (shows p) (λ s. in_some (point_of s) cells && shows p s) (λ s shown. and_from (in_some (point_of s) cells) (shows p s) (ap (λ q. in_some q cells) (sym (shows-true p s shown)) ∙ h) shown) (strata m)
      (ap (list_any (shows p)) (sym (chart-all m right.sound.used)) ∙ some-charted m right.sound p on))

  pub marks-are : filter (λ k. list_any (shows (marked_point k)) (chart m cells)) m.marks ≡ marks_on_cells m cells
  unfolding marks_on_cells
  marks-are = filter_agree (λ k. list_any (shows (marked_point k)) (chart m cells)) (λ k. in_some (marked_point k) cells) m.marks
      (all_weaker (IsOnPoint m) (λ k. list_any (shows (marked_point k)) (chart m cells) ≡ in_some (marked_point k) cells) (λ k on. charted-is (marked_point k) on) m.marks right.marks)

  pub part-is : (a : List ℕ) → scatter_part m a cells ≡ given m a cells
  unfolding scatter_part
  part-is a = λ i. record {
    cells = cells;
    vertices = vertices-are i;
    owners = owners-are a i;
    at = coordinates_of m (vertices-are i);
    marks = marks-are i;
    rows = map (λ (f : Section). map (row_values f) (section_numbers f.on cells (vertices-are i))) m.fields;
  }

-- the same of cells of the mesh
pub part-of_cells : (m : Mesh) (a : List ℕ) (cells : List (ℕ × Cell)) → IsRightMesh m → AreCells m cells → scatter_part m a cells ≡ given m a cells
part-of_cells m a cells right are = part-is m right cells (cells-high m right cells are) a
