-- The text of a mesh under a plan, step by step, from the rounds that were kept. What a step shows depends on the home
-- round and on the number round of the latest part alone.
use Rattle.std.specs.Prelude.{ℕ, ◌+◌, ◌-◌, Bool, not, ◌&&◌, ◌==◌, nat_lt, if◌then◌else◌, List, [], ◌∷◌, ◌++◌, length, map, flat_map, get_or, sum_by, count_by, fold, codes, ℤ, pos, ◌+ℤ◌, int_lt, Option, Some, None}
use Rattle.std.specs.List.{enumerate_from}
use Rattle.mesh_defs.specs.declared.ConeEntry.{ConeEntry}
use Rattle.plain_lists.specs.Lists.{below}
use Rattle.mesh_defs.specs.Tables.{dim_of}
use Rattle.mesh_defs.specs.Mesh.{Mesh, Section, placed_cells}
use Rattle.mesh_defs.specs.Points.{Sight, point_of}
use Rattle.mesh_defs.specs.Diagram.{strata, cone, diagram, place_in}
use Rattle.input_defs.specs.text_defs.Text.{Rank, number_of, rank_text, total_text, end_line}
use Rattle.sf_defs.specs.declared.Tag.TheVariants.{Free}
use Rattle.plex_defs.specs.Closure.{closure, arrangements}
use Rattle.sf_defs.specs.Rounds.{Round, in_order}
use Rattle.plex_defs.specs.Fields.{dof_words}
use Rattle.rank_defs.specs.Home.{bases_of}
use Rattle.rank_defs.specs.Ranks.{assigned, held, owned, owner}
use Rattle.rank_defs.specs.Spread.{trace}
use Rattle.input_defs.specs.declared.Show.{Show}
use Rattle.input_defs.specs.Plans.{Plan, DofsLine, is_part}
use Rattle.input_defs.specs.Further.{data_at, full_head}
use Rattle.input_defs.specs.States.{State, states, first_ranks}
use Rattle.headline_defs.specs.Lines.{move_line, ghost_line, owned_line, held_line, closure_line, trace_line, window_line, sum_line}

-- What is printed, and of what: the mesh, the plan, and what is shown.
pub record Subject : Type 0 where
  pub mesh : Mesh
  pub plan : Plan
  pub show : Show

-- ---- the ranks of a step

-- what each rank has under these ranks of the cells, with these layers and these bases
unfoldable pub ranks_with : Mesh → ℕ → List ℕ → ℕ → List ℕ → List Rank
ranks_with m n ranks layers bases = map (λ r. record { cells = assigned m ranks r; held = held m ranks r layers; owned = owned m ranks r; base = get_or bases r 0 }) (below n)

-- a round that is not there
abbrev pub no_round : Round
no_round = record { tag = Free; before = []; asks = []; got = []; after = []; order = [] }

-- the number round of the latest part: the home round is kept first, and then a number round with each part
abbrev pub number_round : State → List Round → Round
number_round s rounds = get_or rounds s.parts no_round

abbrev pub home_round : List Round → Round
home_round rounds = get_or rounds 0 no_round

-- ---- the lines of a step, each kind for all ranks

abbrev on_each : {X : Type 0} → List X → (ℕ → X → List ℕ) → List ℕ
on_each xs lines = flat_map (λ x. lines x.0 x.1) (enumerate_from 0 xs)

-- how many points of rank r are another rank's, for each other rank
unfoldable pub ghosts_text : Mesh → List ℕ → List Rank → List ℕ
ghosts_text m ranks all =
    on_each all (λ r mine. on_each all (λ o other. let count = count_by (λ s. owner m ranks (point_of s) == o) mine.held in
    if not (r == o) && nat_lt 0 count then ghost_line r o count else []))

-- the owned points of all ranks with their numbers, by rank and local order
abbrev pub numbered : List Rank → List (ℕ × Sight)
numbered all = flat_map (λ (r : Rank). enumerate_from r.base r.owned) all

unfoldable pub owned_text : Mesh → List DofsLine → List Rank → List ℕ
owned_text m dofs all = flat_map (λ (p : ℕ × Sight). owned_line m dofs p.0 (cone m (number_of all) p.1) p.1) (numbered all)

unfoldable pub held_text : Mesh → List DofsLine → List ℕ → List Rank → List ℕ
held_text m dofs ranks all =
    on_each all (λ r mine. on_each mine.held (λ local s.
    let o = owner m ranks (point_of s) in
    held_line m dofs r local o (place_in (get_or (map (λ (rank : Rank). rank.held) all) o []) (point_of s)) (cone m (place_in mine.held) s) s))

-- the closure of a cell in the diagram of the whole mesh, its points by their numbers
unfoldable pub closure_of : Mesh → List Rank → Sight → List ConeEntry
closure_of m all s =
    let points = strata m in
    map (λ (e : ConeEntry). record { point = number_of all (point_of (get_or points e.point s)); o = e.o }) (closure (diagram m (placed_cells m)) (arrangements points) (place_in points (point_of s)) (pos 0))

unfoldable pub closures_text : Mesh → List Rank → List ℕ
closures_text m all = flat_map (λ (p : ℕ × Sight). if dim_of p.1.poly == m.dim then closure_line p.0 (closure_of m all p.1) else []) (numbered all)

unfoldable pub traces_text : Mesh → List ℕ → List Rank → List ℕ
traces_text m first all = flat_map (λ (p : ℕ × Sight). let t = trace m first (length all) (point_of p.1) in trace_line p.0 t.0 t.1) (numbered all)

-- the words of a kept round
unfoldable pub windows_text : List ℕ → Round → List ℕ
windows_text name r = flat_map (λ w. window_line name w (get_or r.before w 0) (get_or r.after w 0) (in_order r w)) (below (length r.before))

-- ---- the sums of a step

abbrev sum_of : List ℤ → ℤ
sum_of values = fold ◌+ℤ◌ (pos 0) values

abbrev values_in : Option (List ℤ) → List ℤ
values_in None = []
values_in (Some values) = values

-- the cone entries of owned points
abbrev entries_of : Mesh → List Rank → List ConeEntry
entries_of m all = flat_map (λ (p : ℕ × Sight). cone m (number_of all) p.1) (numbered all)

unfoldable pub sums_text : Mesh → List DofsLine → List Rank → List ℕ
sums_text m dofs all =
    let points = map (λ (p : ℕ × Sight). p.1) (numbered all) in
    sum_line (sum_by (λ (r : Rank). length r.held) all) (length points) (length (entries_of m all)) (count_by (λ (e : ConeEntry). int_lt e.o (pos 0)) (entries_of m all))
    (sum_of (flat_map (λ (s : Sight). if dim_of s.poly == 0 then get_or m.at s.key [] else []) points))
    (sum_of (flat_map (λ s. flat_map (λ (f : Section). values_in (data_at m s f)) m.fields) points))
    (sum_by (λ s. sum_by (λ d. fold ◌+◌ 0 (dof_words m d.dofs s)) dofs) points)

-- ---- a step, and the text

abbrev pub where_shown : Bool → List ℕ → List ℕ
where_shown shown text = if shown then text else []

-- all lines of a step but the first, by the home round and the number round of the latest part
unfoldable pub step_details : Subject → State → Round → Round → List Rank → List ℕ
step_details x s home latest all =
    flat_map rank_text (enumerate_from 0 all) ++ ghosts_text x.mesh s.ranks all ++ total_text x.mesh all
    ++ where_shown x.show.points (owned_text x.mesh x.plan.dofs all) ++ where_shown x.show.local (held_text x.mesh x.plan.dofs s.ranks all)
    ++ where_shown x.show.closure (closures_text x.mesh all) ++ where_shown x.show.trace (traces_text x.mesh (first_ranks x.mesh x.plan) all)
    ++ where_shown (x.show.windows && (s.steps == 1)) (windows_text (codes "home") home)
    ++ where_shown (x.show.windows && is_part s.move) (windows_text (codes "number") latest)

unfoldable pub step_lines : Subject → State → Round → Round → List ℕ
step_lines x s home latest =
    let all = ranks_with x.mesh x.plan.ranks s.ranks s.layers (bases_of latest) in
    move_line (s.steps - 1) s.move ++ (if x.show.summary then sums_text x.mesh x.plan.dofs all else step_details x s home latest all)

-- the lines of a step, where these rounds were kept
abbrev pub step_text : Subject → List Round → State → List ℕ
step_text x rounds s = step_lines x s (home_round rounds) (number_round s rounds)

-- the lines before the first step, and those of some first steps
unfoldable pub text_of_steps : Subject → List Round → List State → List ℕ
text_of_steps x rounds steps = full_head x.mesh x.plan.dofs x.plan.ranks ++ flat_map (step_text x rounds) steps

-- the whole text
unfoldable pub whole_text : Subject → List Round → List ℕ
whole_text x rounds = text_of_steps x rounds (states x.mesh x.plan) ++ end_line

-- The steps whose text is known once so many parts have drawn their numbers: those before the next part.
abbrev pub known_steps : ℕ → List State → List State
known_steps parts [] = []
known_steps parts (s ∷ steps) = if nat_lt parts s.parts then [] else s ∷ known_steps parts steps

-- What of the text is known once these rounds are kept: nothing before the first number round; the steps before the first
-- part that has none; the whole text where every part has one.
unfoldable pub known_text : Subject → List Round → Option (List ℕ)
known_text x rounds =
    let steps = states x.mesh x.plan in
    let parts = length rounds - 1 in
    if parts == 0 then None
    else Some (if length (known_steps parts steps) == length steps then whole_text x rounds else text_of_steps x rounds (known_steps parts steps))
