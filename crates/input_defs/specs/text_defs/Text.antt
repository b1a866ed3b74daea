-- The text of a mesh on its ranks, line by line. A rank's points are numbered from its base, as the global numbering
-- of a DMPlex is. Labels, fields and further lines are further cases of what stands here.
use Rattle.std.specs.Prelude.{ℕ, ◌+◌, ◌/◌, ◌==◌, if◌then◌else◌, List, [], ◌∷◌, ◌++◌, length, sum_by, flat_map, decimal, codes, ℤ}
use Rattle.std.specs.Fmt.{signed_decimal}
use Rattle.std.specs.List.{list_any}
use Rattle.mesh_defs.specs.declared.ConeEntry.{ConeEntry}
use Rattle.mesh_defs.specs.declared.Poly.{Poly}
use Rattle.mesh_defs.specs.Tables.{dim_of}
use Rattle.mesh_defs.specs.Mesh.{Mesh, Cell, placed_cells}
use Rattle.mesh_defs.specs.Points.{Point, Sight, shows}
use Rattle.mesh_defs.specs.Diagram.{chart, cone, count_in, place_in}
use Rattle.input_defs.specs.line_defs.Numbers.{fixed_text}

-- What one rank has: its assigned cells, the points that it holds and those that it owns, in the order of its chart,
-- and the base of its numbers.
pub record Rank : Type 0 where
  pub cells : List (ℕ × Cell)
  pub held : List Sight
  pub owned : List Sight
  pub base : ℕ

-- one rank has the whole mesh
unfoldable pub alone : Mesh → Rank
alone m = record { cells = placed_cells m; held = chart m (placed_cells m); owned = chart m (placed_cells m); base = 0 }

-- the number of a point: the base of its owner, and its place among the points that this rank owns
abbrev pub number_of : List Rank → Point → ℕ
number_of [] p = 0
number_of (r ∷ rs) p = if list_any (shows p) r.owned then r.base + place_in r.owned p else number_of rs p

-- ---- parts of lines

-- how a point is named: `c` with the cell's index, or `v`, `f` or `e` with its key
unfoldable pub tag : ℕ → Poly → ℕ → List ℕ
tag dim poly key =
    if dim_of poly == dim then codes "c" ++ decimal (key / 64)
    else (if dim_of poly == 0 then codes "v" else if dim_of poly == 2 then codes "f" else codes "e") ++ decimal key

unfoldable pub entry_text : ConeEntry → List ℕ
entry_text e = codes " " ++ decimal e.point ++ codes ":" ++ signed_decimal e.o

unfoldable pub at_text : List ℤ → List ℕ
at_text at = codes " @" ++ flat_map (λ x. codes " " ++ fixed_text x) at

-- what stands after the tag: the cone and, for a vertex, its coordinates
unfoldable pub tail_text : Poly → List ConeEntry → List ℤ → List ℕ
tail_text poly cone at = flat_map entry_text cone ++ (if dim_of poly == 0 then at_text at else [])

-- ---- lines

abbrev pub line : List ℕ → List ℕ
line text = text ++ codes "\n"

unfoldable pub mesh_line : ℕ → ℕ → ℕ → ℕ → ℕ → ℕ → List ℕ
mesh_line dim cells vertices unused loose merged = line (codes "mesh dim " ++ decimal dim ++ codes " cells " ++ decimal cells ++ codes " vertices " ++ decimal vertices
    ++ codes " unused " ++ decimal unused ++ codes " loose " ++ decimal loose ++ codes " merged " ++ decimal merged)

unfoldable pub ranks_line : ℕ → List ℕ
ranks_line ranks = line (codes "ranks " ++ decimal ranks)

-- a part is the only kind of step so far
unfoldable pub step_line : ℕ → List ℕ
step_line place = line (codes "step " ++ decimal place ++ codes " part")

unfoldable pub rank_line : ℕ → ℕ → ℕ → ℕ → ℕ → List ℕ
rank_line rank cells held owned base = line (codes "rank " ++ decimal rank ++ codes " cells " ++ decimal cells ++ codes " held " ++ decimal held ++ codes " owned " ++ decimal owned
    ++ codes " base " ++ decimal base)

unfoldable pub total_line : ℕ → ℕ → ℕ → ℕ → ℕ → List ℕ
total_line points cells vertices faces edges = line (codes "total " ++ decimal points ++ codes " cells " ++ decimal cells ++ codes " vertices " ++ decimal vertices
    ++ codes " faces " ++ decimal faces ++ codes " edges " ++ decimal edges)

-- ---- the text

unfoldable pub rank_text : ℕ × Rank → List ℕ
rank_text r = rank_line r.0 (length r.1.cells) (length r.1.held) (length r.1.owned) r.1.base

-- the owned points of a dimension over all ranks
abbrev pub owned_in : ℕ → List Rank → ℕ
owned_in dim ranks = sum_by (λ (r : Rank). count_in dim r.owned) ranks

unfoldable pub total_text : Mesh → List Rank → List ℕ
total_text m ranks =
    total_line (sum_by (λ (r : Rank). length r.owned) ranks) (owned_in m.dim ranks) (owned_in 0 ranks) (if m.dim == 3 then owned_in 2 ranks else 0) (owned_in 1 ranks)

unfoldable pub end_line : List ℕ
end_line = line (codes "end")
