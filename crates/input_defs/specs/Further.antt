-- Further lines of the text, and what stands further in a point's line: names, fields, label values and data.
use Rattle.std.specs.Prelude.{ℕ, ◌+◌, ◌==◌, if◌then◌else◌, List, [], ◌∷◌, ◌++◌, length, map, flat_map, get_or, decimal, codes, ℤ, Option, Some, None, option_and_then}
use Rattle.std.specs.Fmt.{signed_decimal}
use Rattle.std.specs.List.{enumerate_from, join_with_byte}
use Rattle.mesh_defs.specs.declared.Place.{Place}
use Rattle.mesh_defs.specs.declared.Place.TheVariants as place
use Rattle.mesh_defs.specs.Mesh.{Mesh, Name, Section}
use Rattle.mesh_defs.specs.Points.{Point, Sight, point_of}
use Rattle.mesh_defs.specs.Diagram.{cone}
use Rattle.input_defs.specs.line_defs.Numbers.{fixed_text}
use Rattle.input_defs.specs.text_defs.Text.{alone, number_of, tag, tail_text, line, mesh_line, ranks_line, step_line, rank_text, total_text, end_line}
use Rattle.plex_defs.specs.Labels.{label_of, values_at, marks_on}
use Rattle.plex_defs.specs.Fields.{row_values, number_on, dof_words}
use Rattle.input_defs.specs.Plans.{DofsLine}

-- ---- lines of the head

abbrev pub in_quotes : List ℕ → List ℕ
in_quotes text = codes " \"" ++ text ++ codes "\""

unfoldable pub name_line : Name → List ℕ
name_line n = line (codes "name " ++ decimal n.dim ++ codes " " ++ signed_decimal n.number ++ in_quotes n.text)

abbrev pub place_text : Place → List ℕ
place_text place.Node = codes " node "
place_text place.Element = codes " element "

-- fields have numbers from 0: the data sections, then the `dofs` lines of the plan
unfoldable pub section_line : ℕ × Section → List ℕ
section_line (i, s) = line (codes "field " ++ decimal i ++ place_text s.on ++ decimal s.comps ++ in_quotes s.name)

unfoldable pub dofs_line : ℕ × DofsLine → List ℕ
dofs_line (i, d) = line (codes "field " ++ decimal i ++ codes " dofs" ++ in_quotes d.name ++ flat_map (λ n. codes " " ++ decimal n) d.dofs)

-- ---- labels

-- the label values of a point, rising
unfoldable pub labels_at : Mesh → Point → List ℤ
labels_at m p = values_at (label_of (map (λ value. (0, value)) (marks_on m p))) 0

-- the label of points of a dimension: Cell Sets, Face Sets, Vertex Sets or Edge Sets
abbrev pub label_text : ℕ → ℕ → List ℕ
label_text whole dim = if dim == whole then codes " cell=" else if dim + 1 == whole then codes " face=" else if dim == 0 then codes " vertex=" else codes " edge="

unfoldable pub labels_text : Mesh → Point → List ℕ
labels_text m p = flat_map (λ v. label_text m.dim p.dim ++ signed_decimal v) (labels_at m p)

-- ---- data

-- the values that a section has for a point
abbrev pub data_at : Mesh → Sight → Section → Option (List ℤ)
data_at m s section = option_and_then (row_values section) (number_on m section.on s)

abbrev pub field_text : ℕ → List (List ℕ) → List ℕ
field_text i [] = []
field_text i (word ∷ words) = codes " d" ++ decimal i ++ codes "=" ++ join_with_byte 44 (word ∷ words)

abbrev pub values_text : ℕ → Option (List ℤ) → List ℕ
values_text i None = []
values_text i (Some values) = field_text i (map fixed_text values)

unfoldable pub data_text : Mesh → List DofsLine → Sight → List ℕ
data_text m dofs s = flat_map (λ (f : ℕ × Section). values_text f.0 (data_at m s f.1)) (enumerate_from 0 m.fields)
    ++ flat_map (λ (d : ℕ × DofsLine). field_text d.0 (map decimal (dof_words m d.1.dofs s))) (enumerate_from (length m.fields) dofs)

-- ---- the text on one rank, with one part and all points shown

-- a point under its number, with its whole tail
unfoldable pub full_point : Mesh → List DofsLine → (Point → ℕ) → ℕ × Sight → List ℕ
full_point m dofs number (n, s) = line (codes "P " ++ decimal n ++ codes " " ++ tag m.dim s.poly s.key ++ tail_text s.poly (cone m number s) (get_or m.at s.key [])
    ++ labels_text m (point_of s) ++ data_text m dofs s)

unfoldable pub full_head : Mesh → List DofsLine → ℕ → List ℕ
full_head m dofs ranks = mesh_line m.dim (length m.cells) (length m.at) m.unused m.loose m.merged ++ flat_map name_line m.names
    ++ flat_map section_line (enumerate_from 0 m.fields) ++ flat_map dofs_line (enumerate_from (length m.fields) dofs) ++ ranks_line ranks

unfoldable pub full_text : Mesh → List DofsLine → List ℕ
full_text m dofs = full_head m dofs 1 ++ step_line 0 ++ rank_text (0, alone m) ++ total_text m (alone m ∷ [])
    ++ flat_map (full_point m dofs (number_of (alone m ∷ []))) (enumerate_from 0 (alone m).owned) ++ end_line
