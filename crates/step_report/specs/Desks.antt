-- The lines of the points of a rank.
use Rattle.std.specs.Prelude.{◌≡◌, ℕ, ◌<◌, ◌≤◌, Bool, true, ◌&&◌, ◌==◌, if◌then◌else◌, List, [], length, get_or, slice_index, filter, flat_map, pos}
use Rattle.std.specs.List.{enumerate_from}
use Rattle.plain_lists.specs.Lists.{below}
use Rattle.mesh_defs.specs.Tables.{dim_of}
use Rattle.sf_defs.specs.Forest.{Forest, leaf, leaves_on}
use Rattle.rank_defs.specs.Spread.{LocalMesh}
use Rattle.headline_defs.specs.Lines.{closure_line, trace_line}
use Rattle.walk_defs.specs.Cones.{closure_by_cones}
use Rattle.walk_defs.specs.step_defs.Points.{owned_by, owner_of, poly_of, renamed}
use Rattle.walk_defs.specs.step_defs.Steps.{numbers_on, point_line, local_line, plain_points, plain_locals, plain_closures, plain_traces}
use Rattle.dist_state.specs.Local.{IsLocalMesh}
use Rattle.step_report.specs.declared.desk.Desk.{Desk}
use Rattle.step_report.specs.declared.desk.PointLines.{PointLines}
use Rattle.step_report.specs.declared.desk.PointLines.TheVariants.{Owned, Held, Closures, Traces}

-- each point has a number, the forests know the rank, and each owned point has its leaf of the trace
pub record FitsDesk (d : Desk) : Type 0 where
  pub local : IsLocalMesh d.local.now
  pub rank : d.rank < length d.numbers.now
  pub numbers : length (numbers_on d.numbers.now d.rank) ≡ length d.local.now.diagram.points
  pub points : d.rank < length d.points.now.roots
  pub trace : d.rank < length d.trace.now.roots
  pub leaves : length (owned_by d.rank d.local.now) ≤ length (leaves_on d.trace.now d.rank)

abbrev pub is_own : Desk → ℕ → Bool
is_own d p = owner_of d.local.now p == d.rank

abbrev pub is_cell : Desk → ℕ → Bool
is_cell d p = dim_of (poly_of d.local.now p) == d.local.now.diagram.dim

-- the point has a line of this kind
abbrev pub has_line : PointLines → Desk → ℕ → Bool
has_line Owned d p = is_own d p
has_line Held d p = true
has_line Closures d p = is_own d p && is_cell d p
has_line Traces d p = is_own d p

abbrev pub numbers_of : Desk → List ℕ
numbers_of d = numbers_on d.numbers.now d.rank

-- the line of a point, given with its place among those that have one
abbrev pub line_of : PointLines → Desk → ℕ × ℕ → List ℕ
line_of Owned d x = point_line d.sections (numbers_of d) d.local.now x.1
line_of Held d x = local_line d.sections d.points.now (d.rank, d.local.now) x.1
line_of Closures d x = closure_line (slice_index (numbers_of d) x.1) (renamed (numbers_of d) (closure_by_cones d.local.now.diagram x.1 (pos 0)))
line_of Traces d x = let l = get_or (leaves_on d.trace.now d.rank) x.0 (leaf 0 (0, 0)) in trace_line (slice_index (numbers_of d) x.1) l.rank l.index

-- the trace has a leaf for the point at this place
abbrev pub HasLeaf : PointLines → Desk → ℕ → Type 0
HasLeaf Traces d i = i < length (leaves_on d.trace.now d.rank)
HasLeaf kind d i = Unit {0}

-- how many points before this one have a line
abbrev pub place_of : PointLines → Desk → ℕ → ℕ
place_of kind d p = length (filter (has_line kind d) (below p))

-- what is written at a point
abbrev pub next_text : PointLines → Desk → ℕ → List ℕ
next_text kind d p = if has_line kind d p then line_of kind d (place_of kind d p, p) else []

-- the lines of the points before this one
unfoldable pub lines_before : PointLines → Desk → ℕ → List ℕ
lines_before kind d p = flat_map (line_of kind d) (enumerate_from 0 (filter (has_line kind d) (below p)))

-- all lines of a kind
unfoldable pub lines_of : PointLines → Desk → List ℕ
lines_of kind d = lines_before kind d (length d.local.now.diagram.points)

-- the same by the definitions of the text
unfoldable pub plain_lines : PointLines → ℕ → Forest → List (List ℕ) → Forest → ℕ × LocalMesh → List ℕ
plain_lines Owned sections points numbers trace = plain_points sections numbers
plain_lines Held sections points numbers trace = plain_locals sections points
plain_lines Closures sections points numbers trace = plain_closures numbers
plain_lines Traces sections points numbers trace = plain_traces trace numbers
