-- Label values are on points, and cells are elements of the mesh's dimension.
use Rattle.std.proofs.Common.{◌≡◌, Bool, true, Ok, sym, ap, ◌∙◌, subst, eqb-true}
use Rattle.std.specs.Prelude.{map, filter, ◌&&◌}
use Rattle.std.specs.List.{AllByRecursion}
use Rattle.std.proofs.lemmas.Bool.{and_parts}
use Rattle.plain_lists.specs.Lists.{sorted}
use Rattle.plain_lists.proofs.Each.{all_map, all_weaker}
use Rattle.plain_lists.proofs.Filters.{filter_passing}
use Rattle.mesh_defs.specs.Mesh.{Mesh, Mark}
use Rattle.input_defs.specs.Content.{Element, Content}
use Rattle.input_defs.specs.Meshes.{dim, is_top, greatest_dim, vertex_nodes, cell_elements, cell_of, cells_of, kept, is_labelled, is_point_of, point_of_element, mark_of, marks_of, mesh_of, accepted}
use Rattle.input_laws.proofs.Kept.{accepted-mesh}

-- the marks of a content are on points of its cells
pub marks-on_points : (c : Content) → AllByRecursion (λ (mark : Mark). is_point_of (cells_of c) (record { dim = mark.dim; vertices = sorted mark.vertices }) ≡ true) (marks_of c)
unfolding marks_of
marks-on_points c =
    all_map (λ (mark : Mark). is_point_of (cells_of c) (record { dim = mark.dim; vertices = sorted mark.vertices }) ≡ true) (mark_of (vertex_nodes c)) (filter test c.elements)
    (all_weaker (λ e. test e ≡ true) (λ e. is_point_of (cells_of c) (point_of_element (vertex_nodes c) e) ≡ true) (λ e h. (and_parts (is_labelled e) (is_point_of (cells_of c) (point_of_element (vertex_nodes c) e)) h).1) (filter test c.elements) (filter_passing test c.elements))
  where
    test : Element → Bool
    test e = is_labelled e && is_point_of (cells_of c) (point_of_element (vertex_nodes c) e)

-- so are those of its mesh
pub labels-on_points : (c : Content) (m : Mesh) → accepted c ≡ Ok m → AllByRecursion (λ (mark : Mark). is_point_of m.cells (record { dim = mark.dim; vertices = sorted mark.vertices }) ≡ true) m.marks
unfolding mesh_of
labels-on_points c m h = subst (λ (m' : Mesh). AllByRecursion (λ (mark : Mark). is_point_of m'.cells (record { dim = mark.dim; vertices = sorted mark.vertices }) ≡ true) m'.marks) (accepted-mesh c m h) (marks-on_points c)

-- the cells of a mesh
pub cells-made : (c : Content) (m : Mesh) → accepted c ≡ Ok m → m.cells ≡ map (cell_of (vertex_nodes c)) (cell_elements c)
unfolding mesh_of cells_of
cells-made c m h = sym (ap (λ (m' : Mesh). m'.cells) (accepted-mesh c m h))

-- they have its dimension
pub cells-dims : (c : Content) (m : Mesh) → accepted c ≡ Ok m → AllByRecursion (λ (e : Element). dim e ≡ m.dim) (cell_elements c)
unfolding mesh_of cell_elements
cells-dims c m h = all_weaker (λ e. is_top c e ≡ true) (λ (e : Element). dim e ≡ m.dim) (λ e top. eqb-true (dim e) (greatest_dim c) top ∙ ap (λ (m' : Mesh). m'.dim) (accepted-mesh c m h)) (filter (is_top c) (kept c)) (filter_passing (is_top c) (kept c))
