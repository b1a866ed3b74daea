-- What stands in the line of a point, by what its rank has of it. A point goes by its local number.
use Rattle.std.specs.Prelude.{ℕ, ◌-◌, ◌==◌, if◌then◌else◌, nat_lt, List, [], ◌++◌, length, map, flat_map, filter, count_by, get_or, slice_index, decimal}
use Rattle.std.specs.Fmt.{signed_decimal}
use Rattle.std.specs.List.{enumerate_from}
use Rattle.mesh_defs.specs.declared.Poly.{Poly}
use Rattle.mesh_defs.specs.declared.ConeEntry.{ConeEntry}
use Rattle.mesh_defs.specs.Tables.{dim_of}
use Rattle.plain_lists.specs.Lists.{below}
use Rattle.input_defs.specs.line_defs.Numbers.{fixed_text}
use Rattle.input_defs.specs.text_defs.Text.{tag, tail_text}
use Rattle.plex_defs.specs.Closure.{point_in, cone_entry}
use Rattle.plex_defs.specs.Labels.{values_at}
use Rattle.rank_defs.specs.Spread.{LocalMesh}
use Rattle.input_defs.specs.Further.{label_text, field_text}
use Rattle.walk_defs.specs.step_defs.Words.{signed_of}

-- ---- points of a rank

abbrev pub points_of : LocalMesh → List ℕ
points_of l = below (length l.diagram.points)

abbrev pub owner_of : LocalMesh → ℕ → ℕ
owner_of l p = slice_index l.owners p

-- the points that rank o owns among those that this rank holds
abbrev pub owned_by : ℕ → LocalMesh → List ℕ
owned_by o l = filter (λ p. owner_of l p == o) (points_of l)

abbrev pub poly_of : LocalMesh → ℕ → Poly
poly_of l p = (point_in l.diagram p).poly

-- the cone of a point, by local numbers
abbrev pub covers_of : LocalMesh → ℕ → List ConeEntry
covers_of l p = (point_in l.diagram p).covers

-- how many of these points have a dimension
abbrev pub count_of : ℕ → LocalMesh → List ℕ → ℕ
count_of dim l points = count_by (λ p. dim_of (poly_of l p) == dim) points

-- ---- parts of a line

-- entries under other numbers of their points
abbrev pub renamed : List ℕ → List ConeEntry → List ConeEntry
renamed numbers entries = map (λ (e : ConeEntry). cone_entry (slice_index numbers e.point) e.o) entries

abbrev pub name_of : LocalMesh → ℕ → List ℕ
name_of l p = tag l.diagram.dim (poly_of l p) (slice_index l.keys p)

-- the label values of a point, rising
unfoldable pub labels_of : LocalMesh → ℕ → List ℕ
labels_of l p = let dim = dim_of (poly_of l p) in flat_map (λ v. label_text l.diagram.dim dim ++ signed_decimal v) (values_at (get_or l.labels dim []) p)

-- the words of a point in field i: data, which are fixed-point, in the first fields, and else whole numbers
unfoldable pub words_text : ℕ → ℕ → List ℕ → List ℕ
words_text sections i words = field_text i (if nat_lt i sections then map (λ w. fixed_text (signed_of w)) words else map decimal words)

unfoldable pub fields_of : ℕ → LocalMesh → ℕ → List ℕ
fields_of sections l p = flat_map (λ f. words_text sections f.0 (get_or f.1 p [])) (enumerate_from 0 l.fields)

-- what stands after the tag: the cone, the coordinates of a vertex, label values, data; vertices stand after the cells
unfoldable pub tail_of : ℕ → LocalMesh → List ConeEntry → ℕ → List ℕ
tail_of sections l cone p = tail_text (poly_of l p) cone (get_or l.at (p - l.diagram.cells) []) ++ labels_of l p ++ fields_of sections l p
