-- The lines of one step. Names of points, cones, labels and data are those of the text on one rank.
use Rattle.std.specs.Prelude.{ℕ, List, [], ◌++◌, get_or, flat_map, decimal, codes, ℤ}
use Rattle.mesh_defs.specs.declared.ConeEntry.{ConeEntry}
use Rattle.mesh_defs.specs.Mesh.{Mesh}
use Rattle.mesh_defs.specs.Points.{Sight, point_of}
use Rattle.input_defs.specs.line_defs.Numbers.{fixed_text}
use Rattle.input_defs.specs.text_defs.Text.{tag, entry_text, tail_text, line, step_line}
use Rattle.sf_defs.specs.Asks.{Entry}
use Rattle.input_defs.specs.Plans.{Move, Part, Layers, DofsLine}
use Rattle.input_defs.specs.Further.{labels_text, data_text}

-- a number after a blank
abbrev pub also : ℕ → List ℕ
also n = codes " " ++ decimal n

unfoldable pub move_line : ℕ → Move → List ℕ
move_line place (Part spread) = step_line place
move_line place (Layers k) = line (codes "step" ++ also place ++ codes " overlap" ++ also k)

-- a rank holds so many points that another one owns
unfoldable pub ghost_line : ℕ → ℕ → ℕ → List ℕ
ghost_line rank owner count = line (codes "ghost" ++ also rank ++ also owner ++ also count)

-- what stands after the tag of a point: its cone, the coordinates of a vertex, label values, data
unfoldable pub point_tail : Mesh → List DofsLine → List ConeEntry → Sight → List ℕ
point_tail m dofs cone s = tail_text s.poly cone (get_or m.at s.key []) ++ labels_text m (point_of s) ++ data_text m dofs s

-- an owned point under its number; the cone is by numbers
unfoldable pub owned_line : Mesh → List DofsLine → ℕ → List ConeEntry → Sight → List ℕ
owned_line m dofs number cone s = line (codes "P" ++ also number ++ codes " " ++ tag m.dim s.poly s.key ++ point_tail m dofs cone s)

-- a held point under its rank and its local number, with its owner and its local number there; the cone is by local numbers
unfoldable pub held_line : Mesh → List DofsLine → ℕ → ℕ → ℕ → ℕ → List ConeEntry → Sight → List ℕ
held_line m dofs rank local owner root cone s =
    line (codes "L" ++ also rank ++ also local ++ codes " " ++ tag m.dim s.poly s.key ++ also owner ++ also root ++ point_tail m dofs cone s)

-- the closure of a cell, by numbers
unfoldable pub closure_line : ℕ → List ConeEntry → List ℕ
closure_line number entries = line (codes "C" ++ also number ++ flat_map entry_text entries)

-- the rank that owned a point under the first part, and its local number there
unfoldable pub trace_line : ℕ → ℕ → ℕ → List ℕ
trace_line number rank local = line (codes "T" ++ also number ++ also rank ++ also local)

-- an ask in the order of its word: its rank, its value, and what it fetched
unfoldable pub turn_text : Entry → List ℕ
turn_text e = also e.rank ++ codes ":" ++ decimal e.ask.value ++ codes ":" ++ decimal e.got

-- a word of a kept round: its first and last value, and its asks in their order
unfoldable pub window_line : List ℕ → ℕ → ℕ → ℕ → List Entry → List ℕ
window_line name word first last entries = line (codes "W " ++ name ++ also word ++ also first ++ also last ++ flat_map turn_text entries)

-- the sums of a step: points held and owned; cone entries of owned points, and those with a negative orientation; all
-- coordinates of owned vertices; all data and all `dofs` words at owned points
unfoldable pub sum_line : ℕ → ℕ → ℕ → ℕ → ℤ → ℤ → ℕ → List ℕ
sum_line held owned entries back at values dofs =
    line (codes "sum held" ++ also held ++ codes " owned" ++ also owned ++ codes " entries" ++ also entries ++ codes " back" ++ also back
    ++ codes " at " ++ fixed_text at ++ codes " data " ++ fixed_text values ++ codes " dofs" ++ also dofs)
