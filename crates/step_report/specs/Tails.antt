-- What stands after the cone in the line of a point.
use Rattle.std.specs.Prelude.{ℕ, ◌-◌, ◌==◌, if◌then◌else◌, List, [], ◌++◌, get_or}
use Rattle.mesh_defs.specs.Tables.{dim_of}
use Rattle.input_defs.specs.text_defs.Text.{at_text}
use Rattle.rank_defs.specs.Spread.{LocalMesh}
use Rattle.walk_defs.specs.step_defs.Points.{poly_of, labels_of, fields_of}

-- the coordinates of a vertex
abbrev pub coordinates_of : LocalMesh → ℕ → List ℕ
coordinates_of l p = if dim_of (poly_of l p) == 0 then at_text (get_or l.at (p - l.diagram.cells) []) else []

-- coordinates, label values, data
unfoldable pub rest_of : ℕ → LocalMesh → ℕ → List ℕ
rest_of sections l p = coordinates_of l p ++ labels_of l p ++ fields_of sections l p
