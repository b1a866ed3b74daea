-- The lines of a step, over what the ranks hold.
use Rattle.std.specs.Prelude.{ℕ, ◌-◌, not, ◌&&◌, ◌==◌, nat_lt, if◌then◌else◌, List, [], ◌++◌, length, map, flat_map, filter, take, drop, get_or, slice_index, sum, sum_by, count_by, fold, codes, ℤ, pos, ◌+ℤ◌, int_lt, unwrap_or}
use Rattle.std.specs.List.{enumerate_from}
use Rattle.mesh_defs.specs.declared.ConeEntry.{ConeEntry}
use Rattle.mesh_defs.specs.Tables.{dim_of}
use Rattle.plain_lists.specs.Lists.{below}
use Rattle.input_defs.specs.text_defs.Text.{line, rank_line, total_line, step_line}
use Rattle.sf_defs.specs.declared.Tag.{Tag}
use Rattle.sf_defs.specs.declared.Tag.TheVariants as tag
use Rattle.sf_defs.specs.Forest.{Forest, leaf, leaves_on, root_of}
use Rattle.sf_defs.specs.Rounds.{Round}
use Rattle.rank_defs.specs.Spread.{LocalMesh, PlainDist}
use Rattle.input_defs.specs.declared.Show.{Show}
use Rattle.input_defs.specs.declared.Step.{Step}
use Rattle.input_defs.specs.declared.Step.TheVariants as step
use Rattle.input_defs.specs.Plans.{Layers}
use Rattle.headline_defs.specs.Lines.{also, move_line, ghost_line, closure_line, trace_line, sum_line}
use Rattle.headline_defs.specs.StepText.{windows_text, where_shown}
use Rattle.walk_defs.specs.Cones.{closure_by_cones}
use Rattle.walk_defs.specs.step_defs.Words.{signed_of}
use Rattle.walk_defs.specs.step_defs.Points.{points_of, owned_by, owner_of, poly_of, covers_of, count_of, renamed, name_of, tail_of}

-- What a step is printed of: its place and what it does; the distributed mesh; the base of each rank and the number of
-- each held point of each rank; the trace of each owned point; the rounds of this step; and what is shown.
pub record Printed : Type 0 where
  pub place : ℕ
  pub step : Step
  pub dist : PlainDist
  pub bases : List ℕ
  pub numbers : List (List ℕ)
  pub trace : Forest
  pub rounds : List Round
  pub show : Show

-- ---- ranks

-- each rank with what it holds
abbrev pub ranks_of : PlainDist → List (ℕ × LocalMesh)
ranks_of d = enumerate_from 0 d.locals

-- the points that a rank owns
abbrev pub own : ℕ × LocalMesh → List ℕ
own rank = owned_by rank.0 rank.1

-- a rank owns the cells that are assigned to it
unfoldable pub plain_rank : List ℕ → ℕ × LocalMesh → List ℕ
plain_rank bases rank = rank_line rank.0 (count_of rank.1.diagram.dim rank.1 (own rank)) (length rank.1.diagram.points) (length (own rank)) (get_or bases rank.0 0)

-- how many points of each other rank this one holds
unfoldable pub plain_ghosts : ℕ → ℕ × LocalMesh → List ℕ
plain_ghosts ranks rank = flat_map (λ o. let count = length (owned_by o rank.1) in if not (rank.0 == o) && nat_lt 0 count then ghost_line rank.0 o count else []) (below ranks)

-- the owned points of a rank by dimension: cells, vertices, faces of a solid mesh, edges
abbrev pub own_cells : ℕ × LocalMesh → ℕ
own_cells rank = count_of rank.1.diagram.dim rank.1 (own rank)

abbrev pub own_faces : ℕ × LocalMesh → ℕ
own_faces rank = if rank.1.diagram.dim == 3 then count_of 2 rank.1 (own rank) else 0

abbrev pub own_in : ℕ → ℕ × LocalMesh → ℕ
own_in dim rank = count_of dim rank.1 (own rank)

unfoldable pub plain_total : List (ℕ × LocalMesh) → List ℕ
plain_total ranks = total_line (sum_by (λ r. length (own r)) ranks) (sum_by own_cells ranks) (sum_by (own_in 0) ranks) (sum_by own_faces ranks) (sum_by (own_in 1) ranks)

-- ---- points, where they are shown

abbrev pub numbers_on : List (List ℕ) → ℕ → List ℕ
numbers_on numbers rank = get_or numbers rank []

-- an owned point under its number, its cone by numbers
unfoldable pub point_line : ℕ → List ℕ → LocalMesh → ℕ → List ℕ
point_line sections numbers l p = line (codes "P" ++ also (slice_index numbers p) ++ codes " " ++ name_of l p ++ tail_of sections l (renamed numbers (covers_of l p)) p)

unfoldable pub plain_points : ℕ → List (List ℕ) → ℕ × LocalMesh → List ℕ
plain_points sections numbers rank = flat_map (point_line sections (numbers_on numbers rank.0) rank.1) (own rank)

-- the local number of a point at its owner: another rank's points are leaves on it
abbrev pub place_at_owner : Forest → ℕ → ℕ → ℕ
place_at_owner points rank p = (unwrap_or (root_of points rank p) (rank, p)).1

-- a held point under its local number, with its owner and its place there, its cone by local numbers
unfoldable pub local_line : ℕ → Forest → ℕ × LocalMesh → ℕ → List ℕ
local_line sections points rank p =
    line (codes "L" ++ also rank.0 ++ also p ++ codes " " ++ name_of rank.1 p ++ also (owner_of rank.1 p) ++ also (place_at_owner points rank.0 p) ++ tail_of sections rank.1 (covers_of rank.1 p) p)

unfoldable pub plain_locals : ℕ → Forest → ℕ × LocalMesh → List ℕ
plain_locals sections points rank = flat_map (local_line sections points rank) (points_of rank.1)

-- the closures of the owned cells, by numbers
unfoldable pub plain_closures : List (List ℕ) → ℕ × LocalMesh → List ℕ
plain_closures numbers rank =
    let named = numbers_on numbers rank.0 in
    flat_map (λ p. closure_line (slice_index named p) (renamed named (closure_by_cones rank.1.diagram p (pos 0)))) (filter (λ p. dim_of (poly_of rank.1 p) == rank.1.diagram.dim) (own rank))

-- the traces of the owned points: a rank has as many leaves in the trace forest, in the same order
unfoldable pub plain_traces : Forest → List (List ℕ) → ℕ × LocalMesh → List ℕ
plain_traces trace numbers rank =
    flat_map (λ (x : ℕ × ℕ). let l = get_or (leaves_on trace rank.0) x.0 (leaf 0 (0, 0)) in trace_line (slice_index (numbers_on numbers rank.0) x.1) l.rank l.index) (enumerate_from 0 (own rank))

-- the words of a round that is kept
unfoldable pub plain_round : Round → List ℕ
plain_round r = round_named r.tag r
  where
    round_named : Tag → Round → List ℕ
    round_named tag.Home = windows_text (codes "home")
    round_named tag.Number = windows_text (codes "number")
    round_named tag.Free = λ r. []

-- ---- sums

-- a value for each owned point of each rank, in one list
abbrev pub of_owned : {X : Type 0} → (LocalMesh → ℕ → List X) → List (ℕ × LocalMesh) → List X
of_owned values ranks = flat_map (λ rank. flat_map (values rank.1) (own rank)) ranks

-- the words of a point in these fields
abbrev pub words_in : List (List (List ℕ)) → ℕ → List ℕ
words_in fields p = flat_map (λ f. get_or f p []) fields

abbrev pub coordinates_at : LocalMesh → ℕ → List ℤ
coordinates_at l p = if dim_of (poly_of l p) == 0 then get_or l.at (p - l.diagram.cells) [] else []

abbrev pub total_of : List ℤ → ℤ
total_of values = fold ◌+ℤ◌ (pos 0) values

unfoldable pub plain_sums : ℕ → List (ℕ × LocalMesh) → List ℕ
plain_sums sections ranks =
    let entries = of_owned covers_of ranks in
    sum_line (sum_by (λ (r : ℕ × LocalMesh). length r.1.diagram.points) ranks) (sum_by (λ r. length (own r)) ranks)
    (length entries) (count_by (λ (e : ConeEntry). int_lt e.o (pos 0)) entries)
    (total_of (of_owned coordinates_at ranks))
    (total_of (map signed_of (of_owned (λ l p. words_in (take sections l.fields) p) ranks)))
    (sum (of_owned (λ l p. words_in (drop sections l.fields) p) ranks))

-- ---- the step

abbrev pub step_head : ℕ → Step → List ℕ
step_head place step.Part = step_line place
step_head place (step.Overlap k) = move_line place (Layers k)

-- all lines of a step but the first
unfoldable pub plain_details : Printed → List (ℕ × LocalMesh) → List ℕ
plain_details x ranks =
    let sections = x.dist.sections in
    flat_map (plain_rank x.bases) ranks ++ flat_map (plain_ghosts (length ranks)) ranks ++ plain_total ranks
    ++ where_shown x.show.points (flat_map (plain_points sections x.numbers) ranks) ++ where_shown x.show.local (flat_map (plain_locals sections x.dist.points) ranks)
    ++ where_shown x.show.closure (flat_map (plain_closures x.numbers) ranks) ++ where_shown x.show.trace (flat_map (plain_traces x.trace x.numbers) ranks)
    ++ where_shown x.show.windows (flat_map plain_round x.rounds)

unfoldable pub plain_step : Printed → List ℕ
plain_step x = let ranks = ranks_of x.dist in step_head x.place x.step ++ (if x.show.summary then plain_sums x.dist.sections ranks else plain_details x ranks)
