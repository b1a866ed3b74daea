-- Without a plan file the whole text is the text of the mesh on one rank.
use Rattle.std.proofs.Common.{◌≡◌, ℕ, zero, suc, ◌*◌, ◌/◌, ◌<◌, ◌≤◌, ◌==◌, List, [], ◌∷◌, ◌++◌, map, length, get_or, slice_index, fold, min, refl, ap, ◌∙◌, arith, append_assoc, append-nil}
use Rattle.std.specs.Prelude.{flat_map, filter, unwrap_or, decimal, codes}
use Rattle.std.specs.List.{enumerate_from, AllByRecursion}
use Rattle.std.proofs.lemmas.Bool.{eq-eqb}
use Rattle.std.proofs.Math.Nat.{div-eq_of_lt}
use Rattle.plain_lists.specs.Lists.{below}
use Rattle.plain_lists.proofs.Each.{all_from, all_map, all_weaker}
use Rattle.plain_lists.proofs.Filters.{filter_whole, flat_map_same}
use Rattle.plain_lists.proofs.Below.{below-all}
use Rattle.plain_lists.proofs.Least.{least-bound}
use Rattle.mesh_defs.specs.Mesh.{Mesh, Cell, placed_cells}
use Rattle.mesh_defs.specs.Points.{Point, Sight, point_of, contains}
use Rattle.mesh_defs.specs.Diagram.{chart, cone}
use Rattle.input_defs.specs.text_defs.Text.{alone, number_of, tag, line, tail_text, rank_text, total_text, step_line, end_line}
use Rattle.sf_defs.specs.declared.Op.TheVariants.{Sum}
use Rattle.sf_defs.specs.declared.Ask.{Ask}
use Rattle.sf_defs.specs.Asks.{Replays}
use Rattle.sf_defs.specs.PrintedOrder.{printed_order}
use Rattle.sf_defs.specs.Rounds.{Round, entry_at, printed_turns}
use Rattle.rank_defs.specs.Home.{IsNumberRound, number_asks, bases_of}
use Rattle.rank_defs.specs.Ranks.{least, rank_of, assigned, held_cells, held, ranks_at, owner, owned}
use Rattle.input_defs.specs.Plans.{Part, Block, plain_plan, rank_by}
use Rattle.input_defs.specs.Further.{labels_text, data_text, full_point, full_head, full_text}
use Rattle.input_defs.specs.States.{State, states, assignment, first_ranks}
use Rattle.headline_defs.specs.Rounds.{due, AreAll}
use Rattle.headline_defs.specs.Lines.{move_line, point_tail, owned_line}
use Rattle.headline_defs.specs.StepText.{Subject, ranks_with, ghosts_text, owned_text, step_details, step_lines, text_of_steps, whole_text}

-- ---- all cells on rank 0

-- each number is 0
abbrev AreZero : List ℕ → Type 0
AreZero xs = AllByRecursion (λ x. x ≡ 0) xs

zero-at : (xs : List ℕ) → AreZero xs → (i : ℕ) → slice_index xs i ≡ 0
zero-at [] h i = refl
zero-at (x ∷ xs) h zero = h.0
zero-at (x ∷ xs) h (suc i) = zero-at xs h.1 i

least-zero : (xs : List ℕ) → AreZero xs → unwrap_or (least xs) 0 ≡ 0
least-zero [] h = refl
least-zero (x ∷ xs) h = let low : fold min x xs ≤ x = (least-bound x xs).0 in omega (arith, low, h.0)

-- in blocks on one rank each cell has rank 0
block-zero : (cells : ℕ) → AreZero (assignment 1 cells Block)
unfolding rank_by
block-zero cells = all_map (λ x. x ≡ 0) (λ c. c * 1 / cells) (below cells) (all_weaker (λ c. c < cells) (λ c. c * 1 / cells ≡ 0) (λ c h. let low : c * 1 < cells = omega (arith, h) in div-eq_of_lt low) (below cells) (below-all cells))

module _ (m : Mesh) where
  -- the rank of each cell
  abbrev ranks : List ℕ
  ranks = assignment 1 (length m.cells) Block

  all_zero : (i : ℕ) → slice_index ranks i ≡ 0
  all_zero = zero-at ranks (block-zero (length m.cells))

  assigned-all : assigned m ranks 0 ≡ placed_cells m
  unfolding assigned
  assigned-all = filter_whole (λ (c : ℕ × Cell). rank_of ranks c == 0) (placed_cells m) (all_from _ (λ c. eq-eqb (rank_of ranks c) 0 (all_zero c.0)) (placed_cells m))

  owner-zero : (p : Point) → owner m ranks p ≡ 0
  unfolding owner ranks_at
  owner-zero p =
      let cells = filter (λ (c : ℕ × Cell). contains c.1 p) (placed_cells m) in
      least-zero (map (rank_of ranks) cells) (all_map (λ x. x ≡ 0) (rank_of ranks) cells (all_from _ (λ c. all_zero c.0) cells))

  held-all : held m ranks 0 0 ≡ chart m (placed_cells m)
  unfolding held held_cells
  held-all = ap (chart m) assigned-all

  owned-all : owned m ranks 0 ≡ chart m (placed_cells m)
  unfolding owned
  owned-all = filter_whole (λ s. owner m ranks (point_of s) == 0) (held m ranks 0 0) (all_from _ (λ s. eq-eqb (owner m ranks (point_of s)) 0 (owner-zero (point_of s))) (held m ranks 0 0)) ∙ held-all

  -- one rank has the whole mesh
  one-rank : (bases : List ℕ) → get_or bases 0 0 ≡ 0 → ranks_with m 1 ranks 0 bases ≡ alone m ∷ []
  unfolding ranks_with alone
  one-rank bases base = (λ i. record { cells = assigned-all i; held = held-all i; owned = owned-all i; base = base i } ∷ [])

-- ---- the base

abbrev one_ask : ℕ → List (List Ask)
one_ask value = (record { word = 0; op = Sum; value = value } ∷ []) ∷ []

-- the one Sum on a word that is 0 at first fetches 0
sum-fetches : (value got last : ℕ) → Replays 0 (map (entry_at (one_ask value) ((got ∷ []) ∷ [])) (printed_turns (0 ∷ []) (one_ask value) ((got ∷ []) ∷ []) 0)) last → got ≡ 0
unfolding printed_order
sum-fetches value got last h = h.0

-- what one rank fetched with one ask
one-got : (got : List (List ℕ)) → map length got ≡ 1 ∷ [] → (g : ℕ) × (got ≡ (g ∷ []) ∷ [])
one-got [] h = absurd (cc h)
one-got ((g ∷ []) ∷ []) h = (g, refl)
one-got ([] ∷ []) h = absurd (cc h)
one-got ((g ∷ k ∷ ks) ∷ []) h = let one : length (g ∷ k ∷ ks) ≡ 1 = cc h in absurd (omega (arith, one))
one-got (a ∷ b ∷ got) h = absurd (cc h)

-- on one rank the numbers begin with 0
base-zero : (m : Mesh) (ranks : List ℕ) (r : Round) → IsNumberRound m ranks 1 r → get_or (bases_of r) 0 0 ≡ 0
unfolding number_asks
base-zero m ranks r is =
    let value = length (owned m ranks 0) in
    let asks : r.asks ≡ one_ask value = is.asks in
    let (g, got) = one-got r.got (is.legal.fetched ∙ ap (map length) asks) in
    let low : 0 < length r.before = omega (arith, ap length is.words) in
    let order : get_or r.order 0 [] ≡ printed_turns (0 ∷ []) (one_ask value) ((g ∷ []) ∷ []) 0 = is.legal.printed 0 low ∙ (λ i. printed_turns (is.words i) (asks i) (got i) 0) in
    let replays : Replays 0 (map (entry_at (one_ask value) ((g ∷ []) ∷ [])) (printed_turns (0 ∷ []) (one_ask value) ((g ∷ []) ∷ []) 0)) (get_or r.after 0 0)
    = coe 0 1 (i. Replays (get_or (is.words i) 0 0) (map (entry_at (asks i) (got i)) (order i)) (get_or r.after 0 0)) (is.legal.replays 0 low) in
    ap (λ l. get_or (map (λ values. slice_index values 0) l) 0 0) got ∙ sum-fetches value g (get_or r.after 0 0) replays

-- ---- lines

-- parts of a point's line
line-shape : (before tail labels values : List ℕ) → before ++ (tail ++ labels ++ values) ≡ before ++ tail ++ labels ++ values
line-shape before tail labels values = simp append_assoc refl

module _ (m : Mesh) where
  line-same : (number : Point → ℕ) (p : ℕ × Sight) → owned_line m [] p.0 (cone m number p.1) p.1 ≡ full_point m [] number p
  unfolding owned_line full_point point_tail
  line-same number p =
      ap line (line-shape (codes "P " ++ decimal p.0 ++ codes " " ++ tag m.dim p.1.poly p.1.key) (tail_text p.1.poly (cone m number p.1) (get_or m.at p.1.key [])) (labels_text m (point_of p.1)) (data_text m [] p.1))

  points-same : owned_text m [] (alone m ∷ []) ≡ flat_map (full_point m [] (number_of (alone m ∷ []))) (enumerate_from 0 (alone m).owned)
  unfolding owned_text alone
  points-same =
      let points = enumerate_from (alone m).base (alone m).owned in
      let number = number_of (alone m ∷ []) in
      ap (flat_map (λ (p : ℕ × Sight). owned_line m [] p.0 (cone m number p.1) p.1)) (append-nil points)
      ∙ flat_map_same _ (full_point m [] number) points (all_from _ (line-same number) points)

  -- ---- the one step

  abbrev subject : Subject
  subject = record { mesh = m; plan = plain_plan; show = plain_plan.shows }

  abbrev step : State
  step = record { move = Part Block; ranks = ranks m; layers = 0; steps = 1; parts = 1 }

  -- the lines of all points
  abbrev all_points : List ℕ
  all_points = flat_map (full_point m [] (number_of (alone m ∷ []))) (enumerate_from 0 (alone m).owned)

  details-same : (home latest : Round) → step_details subject step home latest (alone m ∷ []) ≡ rank_text (0, alone m) ++ total_text m (alone m ∷ []) ++ all_points
  unfolding step_details ghosts_text
  details-same home latest =
      (λ i. flat_map rank_text (enumerate_from 0 (alone m ∷ [])) ++ [] ++ total_text m (alone m ∷ []) ++ points-same i ++ [] ++ [] ++ [] ++ [] ++ [])
      ∙ simp append-nil

  step-same : (home latest : Round) → IsNumberRound m (ranks m) 1 latest → step_lines subject step home latest ≡ step_line 0 ++ (rank_text (0, alone m) ++ total_text m (alone m ∷ []) ++ all_points)
  unfolding step_lines move_line
  step-same home latest is =
      (λ i. step_line 0 ++ step_details subject step home latest (one-rank m (bases_of latest) (base-zero m (ranks m) latest is) i))
      ∙ ap (λ t. step_line 0 ++ t) (details-same home latest)

  -- ---- the text

  text-shape : (head first rank total points last : List ℕ) → (head ++ (first ++ (rank ++ total ++ points) ++ [])) ++ last ≡ head ++ first ++ rank ++ total ++ points ++ last
  text-shape head first rank total points last = simp (append_assoc, append-nil) refl

  pub plain : (rounds : List Round) → AreAll m 1 (due m plain_plan) rounds → whole_text subject rounds ≡ full_text m []
  unfolding due states first_ranks whole_text text_of_steps full_text
  plain [] h = absurd h
  plain (home ∷ []) h = absurd h.1
  plain (home ∷ latest ∷ []) h =
      (λ i. (full_head m [] 1 ++ (step-same home latest h.1.0 i ++ [])) ++ end_line)
      ∙ text-shape (full_head m [] 1) (step_line 0) (rank_text (0, alone m)) (total_text m (alone m ∷ [])) all_points end_line
  plain (home ∷ latest ∷ more ∷ others) h = absurd h.1.1
