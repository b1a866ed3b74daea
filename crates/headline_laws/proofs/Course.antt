-- Going through the steps of a plan: the rounds that are added one by one are the first that are due, and what is written is
-- the beginning of what is known.
use Rattle.std.proofs.Common.{◌≡◌, ◌≢◌, ℕ, zero, suc, ◌+◌, ◌-◌, ◌≤◌, Bool, true, false, cond, ◌==◌, nat_lt, List, [], ◌∷◌, ◌++◌, length, map, filter, take, drop, slice_get, get_or, Some, None, refl, sym, ap, subst, ◌∙◌, arith, append_assoc, length-append}
use Rattle.std.specs.Prelude.{flat_map}
use Rattle.std.specs.List.{AllByRecursion}
use Rattle.std.proofs.lemmas.Bool.{eqb-true, eqb-false, ltb-true}
use Rattle.std.proofs.lemmas.List.{append-nil}
use Rattle.std.proofs.lemmas.Grind.{flat_map-append}
use Rattle.mesh_defs.specs.Mesh.{Mesh}
use Rattle.input_defs.specs.text_defs.Text.{end_line}
use Rattle.sf_defs.specs.Rounds.{Round}
use Rattle.rank_defs.specs.Home.{IsHomeRound, IsNumberRound}
use Rattle.input_defs.specs.Further.{full_head}
use Rattle.input_defs.specs.Plans.{Plan, Move, Part, Layers, is_part}
use Rattle.input_defs.specs.States.{State, states, states_after, after_move, before_any_step, first_ranks}
use Rattle.headline_defs.specs.Rounds.{Due, Keys, Numbers, due, IsDue, AreFirst, AreAll}
use Rattle.headline_defs.specs.StepText.{Subject, step_text, text_of_steps, whole_text, known_steps, known_text, no_round, number_round}
use Rattle.headline_laws.proofs.Begins.{same_texts}
use Rattle.headline_laws.specs.Course.{parts_in, IsAt}

-- ---- lists

-- up to place i, and what stands there
take-get : {X : Type 0} (xs : List X) (i : ℕ) (x : X) → slice_get xs i ≡ Some x → take (suc i) xs ≡ take i xs ++ x ∷ []
take-get [] i x h = absurd (cc h)
take-get (y ∷ ys) zero x h = ap (λ z. z ∷ []) (cc h)
take-get (y ∷ ys) (suc i) x h = ap (λ l. y ∷ l) (take-get ys i x h)

split-at : {X : Type 0} (i : ℕ) (xs : List X) → xs ≡ take i xs ++ drop i xs
split-at zero xs = refl
split-at (suc i) [] = refl
split-at (suc i) (x ∷ xs) = ap (λ l. x ∷ l) (split-at i xs)

take-all : {X : Type 0} (xs : List X) → take (length xs) xs ≡ xs
take-all [] = refl
take-all (x ∷ xs) = ap (λ l. x ∷ l) (take-all xs)

drop-all : {X : Type 0} (xs : List X) → drop (length xs) xs ≡ []
drop-all [] = refl
drop-all (x ∷ xs) = drop-all xs

take-front : {X : Type 0} (xs ys : List X) → take (length xs) (xs ++ ys) ≡ xs
take-front [] ys = refl
take-front (x ∷ xs) ys = ap (λ l. x ∷ l) (take-front xs ys)

last-of : {X : Type 0} (xs : List X) (x d : X) → get_or (xs ++ x ∷ []) (length xs) d ≡ x
last-of [] x d = refl
last-of (y ∷ ys) x d = last-of ys x d

-- what passes at place i stands behind those that pass before it
filter-at : {X : Type 0} (q : X → Bool) (xs : List X) (i : ℕ) (x : X) → slice_get xs i ≡ Some x → q x ≡ true → (rest : List X) × (drop (length (filter q (take i xs))) (filter q xs) ≡ x ∷ rest)
filter-at q [] i x h k = absurd (cc h)
filter-at q (y ∷ ys) zero x h k =
    let is : y ≡ x = cc h in
    (filter q ys, subst (λ z. drop 0 (cond (q y) (y ∷ filter q ys) (filter q ys)) ≡ z ∷ filter q ys) is (ap (λ b. cond b (y ∷ filter q ys) (filter q ys)) (ap q is ∙ k)))
filter-at q (y ∷ ys) (suc i) x h k = go (q y) (filter-at q ys i x h k)
  where
    go : (b : Bool) → (rest : List _) × (drop (length (filter q (take i ys))) (filter q ys) ≡ x ∷ rest)
        → (rest : List _) × (drop (length (cond b (y ∷ filter q (take i ys)) (filter q (take i ys)))) (cond b (y ∷ filter q ys) (filter q ys)) ≡ x ∷ rest)
    go true r = r
    go false r = r

-- ---- rounds

-- one more of those that are due
first-more : (m : Mesh) (n : ℕ) (dues rest : List Due) (rs : List Round) (d : Due) (r : Round) → AreFirst m n dues rs → drop (length rs) dues ≡ d ∷ rest → IsDue m n d r → AreFirst m n dues (rs ++ r ∷ [])
first-more m n [] rest [] d r first h is = absurd (cc h)
first-more m n (e ∷ dues) rest [] d r first h is = (subst (λ d. IsDue m n d r) (cc h) is, tt)
first-more m n [] rest (q ∷ qs) d r first h is = first
first-more m n (e ∷ dues) rest (q ∷ qs) d r first h is = (first.0, first-more m n dues rest qs d r first.1 h is)

-- as many as are due are all
first-all : (m : Mesh) (n : ℕ) (dues : List Due) (rs : List Round) → AreFirst m n dues rs → length rs ≡ length dues → AreAll m n dues rs
first-all m n [] [] first h = tt
first-all m n (d ∷ dues) [] first h = absurd (omega (arith, h))
first-all m n [] (r ∷ rs) first h = first
first-all m n (d ∷ dues) (r ∷ rs) first h = (first.0, first-all m n dues rs first.1 (omega (arith, h)))

drop-map : {X Y : Type 0} (f : X → Y) (k : ℕ) (xs : List X) → drop k (map f xs) ≡ map f (drop k xs)
drop-map f zero xs = refl
drop-map f (suc k) [] = refl
drop-map f (suc k) (x ∷ xs) = drop-map f k xs

length-map : {X Y : Type 0} (f : X → Y) (xs : List X) → length (map f xs) ≡ length xs
length-map f [] = refl
length-map f (x ∷ xs) = ap suc (length-map f xs)

-- one more step
parts-append : (steps : List State) (s : State) → parts_in (steps ++ s ∷ []) ≡ parts_in steps + cond (is_part s.move) 1 0
parts-append [] s = go (is_part s.move)
  where
    go : (b : Bool) → length (cond b (s ∷ []) []) ≡ 0 + cond b 1 0
    go true = refl
    go false = refl
parts-append (t ∷ steps) s = go (is_part t.move) (parts-append steps s)
  where
    go : (b : Bool) → parts_in (steps ++ s ∷ []) ≡ parts_in steps + cond (is_part s.move) 1 0
        → length (cond b (t ∷ filter (λ (u : State). is_part u.move) (steps ++ s ∷ [])) (filter (λ (u : State). is_part u.move) (steps ++ s ∷ []))) ≡ length (cond b (t ∷ filter (λ (u : State). is_part u.move) steps) (filter (λ (u : State). is_part u.move) steps)) + cond (is_part s.move) 1 0
    go true r = ap suc r ∙ omega arith
    go false r = r

module _ (m : Mesh) (plan : Plan) where
  -- the states of the plan's parts
  parts : List State
  parts = filter (λ (s : State). is_part s.move) (states m plan)

  due-is : due m plan ≡ Keys (first_ranks m plan) ∷ map (λ (s : State). Numbers s.ranks) parts
  unfolding due parts
  due-is = refl

  -- before the first step the home round is kept
  pub at-home : (r : Round) → IsHomeRound m (first_ranks m plan) plan.ranks r → IsAt m plan 0 (r ∷ [])
  at-home r is = record { first = subst (λ dues. AreFirst m plan.ranks dues (r ∷ [])) (sym due-is) (is, tt); count = refl }

  -- a part adds its number round
  pub at-part : (i : ℕ) (added : List Round) (s : State) (r : Round) → IsAt m plan i added → slice_get (states m plan) i ≡ Some s → is_part s.move ≡ true
      → IsNumberRound m s.ranks plan.ranks r → IsAt m plan (suc i) (added ++ r ∷ [])
  unfolding parts
  at-part i added s r here is part round =
      let next : (rest : List State) × (drop (parts_in (take i (states m plan))) parts ≡ s ∷ rest) = filter-at (λ (t : State). is_part t.move) (states m plan) i s is part in
      let count : length added ≡ suc (parts_in (take i (states m plan))) = omega (arith, here.count) in
      let drawn : drop (length added) (due m plan) ≡ Numbers s.ranks ∷ map (λ (t : State). Numbers t.ranks) next.0 =
      ap (λ dues. drop (length added) dues) due-is ∙ ap (λ k. drop k (Keys (first_ranks m plan) ∷ map (λ (t : State). Numbers t.ranks) parts)) count
      ∙ drop-map (λ (t : State). Numbers t.ranks) (parts_in (take i (states m plan))) parts ∙ ap (map (λ (t : State). Numbers t.ranks)) next.1 in
      record {
        first = first-more m plan.ranks (due m plan) _ added (Numbers s.ranks) r here.first drawn round;
        count = length-append added (r ∷ []) ∙ ap (λ k. k + 1) (here.count ∙ more);
      }
    where
      more : parts_in (take i (states m plan)) + 1 ≡ parts_in (take (suc i) (states m plan))
      more = sym (ap parts_in (take-get (states m plan) i s is) ∙ parts-append (take i (states m plan)) s ∙ ap (λ b. parts_in (take i (states m plan)) + cond b 1 0) part)

  -- another step adds none
  pub at-layers : (i : ℕ) (added : List Round) (s : State) → IsAt m plan i added → slice_get (states m plan) i ≡ Some s → is_part s.move ≡ false → IsAt m plan (suc i) added
  at-layers i added s here is none = record { first = here.first; count = here.count ∙ ap (λ k. k + 1) (sym same) }
    where
      same : parts_in (take (suc i) (states m plan)) ≡ parts_in (take i (states m plan))
      same =
          let more : parts_in (take (suc i) (states m plan)) ≡ parts_in (take i (states m plan)) + 0 =
          ap parts_in (take-get (states m plan) i s is) ∙ parts-append (take i (states m plan)) s ∙ ap (λ b. parts_in (take i (states m plan)) + cond b 1 0) none in
          omega (arith, more)

  -- after the last step all are added
  pub at-end : (added : List Round) → IsAt m plan (length (states m plan)) added → AreAll m plan.ranks (due m plan) added
  unfolding parts
  at-end added here =
      let all : parts_in (take (length (states m plan)) (states m plan)) ≡ length parts = ap parts_in (take-all (states m plan)) in
      let count : length (due m plan) ≡ suc (length parts) = ap length due-is ∙ ap suc (length-map (λ (s : State). Numbers s.ranks) parts) in
      first-all m plan.ranks (due m plan) added here.first (omega (arith, here.count, all, count))

-- ---- states

-- a state after a move has the move
after-moves : (n cells : ℕ) (s : State) (move : Move) → (after_move n cells s move).move ≡ move
after-moves n cells s (Part spread) = refl
after-moves n cells s (Layers k) = refl

after-parts : (n cells : ℕ) (s : State) (move : Move) → (after_move n cells s move).parts ≡ s.parts + cond (is_part move) 1 0
after-parts n cells s (Part spread) = refl
after-parts n cells s (Layers k) = omega arith

after-steps : (n cells : ℕ) (s : State) (move : Move) → (after_move n cells s move).steps ≡ s.steps + 1
after-steps n cells s (Part spread) = refl
after-steps n cells s (Layers k) = refl

parts-first : (s : State) (steps : List State) → parts_in (s ∷ steps) ≡ cond (is_part s.move) 1 0 + parts_in steps
parts-first s steps = go (is_part s.move)
  where
    go : (b : Bool) → length (cond b (s ∷ filter (λ (t : State). is_part t.move) steps) (filter (λ (t : State). is_part t.move) steps)) ≡ cond b 1 0 + parts_in steps
    go true = omega arith
    go false = omega arith

-- the state at place i is after i + 1 moves, of which so many are parts
pub state-counts : (n cells : ℕ) (s : State) (moves : List Move) (i : ℕ) (t : State) → slice_get (states_after n cells s moves) i ≡ Some t
    → (t.steps ≡ s.steps + (i + 1)) × (t.parts ≡ s.parts + parts_in (take (suc i) (states_after n cells s moves)))
state-counts n cells s [] i t h = absurd (cc h)
state-counts n cells s (move ∷ moves) zero t h =
    let is : after_move n cells s move ≡ t = cc h in
    let after : State = after_move n cells s move in
    let none : parts_in (after ∷ []) ≡ cond (is_part move) 1 0 + 0 = parts-first after [] ∙ ap (λ v. cond (is_part v) 1 0 + 0) (after-moves n cells s move) in
    let steps : after.steps ≡ t.steps = ap (λ (u : State). u.steps) is in
    let parts : after.parts ≡ t.parts = ap (λ (u : State). u.parts) is in
    (omega (arith, steps, after-steps n cells s move), omega (arith, parts, none, after-parts n cells s move))
state-counts n cells s (move ∷ moves) (suc i) t h =
    let after : State = after_move n cells s move in
    let rest : (t.steps ≡ after.steps + (i + 1)) × (t.parts ≡ after.parts + parts_in (take (suc i) (states_after n cells after moves))) = state-counts n cells after moves i t h in
    let first : parts_in (after ∷ take (suc i) (states_after n cells after moves)) ≡ cond (is_part move) 1 0 + parts_in (take (suc i) (states_after n cells after moves)) =
    parts-first after (take (suc i) (states_after n cells after moves)) ∙ ap (λ v. cond (is_part v) 1 0 + parts_in (take (suc i) (states_after n cells after moves))) (after-moves n cells s move) in
    (omega (arith, rest.0, after-steps n cells s move), omega (arith, rest.1, after-parts n cells s move, first))

-- no earlier state has more parts
parts-rise : (n cells : ℕ) (s : State) (moves : List Move) (k : ℕ) → AllByRecursion (λ (t : State). t.parts ≤ s.parts + parts_in (take k (states_after n cells s moves))) (take k (states_after n cells s moves))
parts-rise n cells s [] zero = tt
parts-rise n cells s [] (suc k) = tt
parts-rise n cells s (move ∷ moves) zero = tt
parts-rise n cells s (move ∷ moves) (suc k) =
    let after : State = after_move n cells s move in
    let later : List State = take k (states_after n cells after moves) in
    let first : parts_in (after ∷ later) ≡ cond (is_part move) 1 0 + parts_in later = parts-first after later ∙ ap (λ v. cond (is_part v) 1 0 + parts_in later) (after-moves n cells s move) in
    let same : s.parts + parts_in (after ∷ later) ≡ after.parts + parts_in later = omega (arith, first, after-parts n cells s move) in
    (omega (arith, same), subst (λ most. AllByRecursion (λ (t : State). t.parts ≤ most) later) (sym same) (parts-rise n cells after moves k))

-- ---- what is known

-- steps whose parts have drawn are known, and then those after them
known-front : (parts : ℕ) (steps later : List State) → AllByRecursion (λ (s : State). s.parts ≤ parts) steps → known_steps parts (steps ++ later) ≡ steps ++ known_steps parts later
known-front parts [] later all = refl
known-front parts (s ∷ steps) later all = go (nat_lt parts s.parts) refl (known-front parts steps later all.1)
  where
    go : (b : Bool) → nat_lt parts s.parts ≡ b → known_steps parts (steps ++ later) ≡ steps ++ known_steps parts later
        → cond b [] (s ∷ known_steps parts (steps ++ later)) ≡ s ∷ (steps ++ known_steps parts later)
    go true h r = absurd (omega (arith, all.0, ltb-true parts s.parts h))
    go false h r = ap (λ l. s ∷ l) r

module _ (x : Subject) (i : ℕ) (added : List Round) (here : IsAt x.mesh x.plan i added) where
  steps : List State
  steps = states x.mesh x.plan

  done : List State
  done = take i steps

  -- so many parts have drawn
  drawn : length added - 1 ≡ parts_in done
  unfolding steps done
  drawn = omega (arith, here.count)

  known : known_steps (length added - 1) steps ≡ done ++ known_steps (length added - 1) (drop i steps)
  unfolding steps done states
  known =
      let none : 0 + parts_in done ≡ parts_in done = omega arith in
      let all : AllByRecursion (λ (s : State). s.parts ≤ parts_in done) done =
      subst (λ n. AllByRecursion (λ (s : State). s.parts ≤ n) done) none (parts-rise x.plan.ranks (length x.mesh.cells) before_any_step (map (λ (move : ℕ × Move). move.1) x.plan.moves) i) in
      ap (known_steps (length added - 1)) (split-at i steps) ∙ known-front (length added - 1) done (drop i steps) (subst (λ n. AllByRecursion (λ (s : State). s.parts ≤ n) done) (sym drawn) all)

  head : List ℕ
  head = full_head x.mesh x.plan.dofs x.plan.ranks

  -- the steps that are done begin a text of more of them
  begins : (later : List State) → text_of_steps x added (done ++ later) ≡ text_of_steps x added done ++ flat_map (step_text x added) later
  unfolding text_of_steps head
  begins later = ap (λ t. head ++ t) (flat_map-append (step_text x added) done later) ∙ sym (append_assoc head (flat_map (step_text x added) done) (flat_map (step_text x added) later))

  -- once the first part has drawn, the text of the steps that are done begins what is known
  pub known-at : parts_in (take i (states x.mesh x.plan)) ≢ 0 → (text rest : List ℕ) × (known_text x added ≡ Some text) × (text ≡ text_of_steps x added (take i (states x.mesh x.plan)) ++ rest)
  unfolding done whole_text text_of_steps states steps known_text
  known-at some = go (length added - 1 == 0) (length (known_steps (length added - 1) steps) == length steps) refl
    where
      go : (a b : Bool) → (length added - 1 == 0) ≡ a
          → (text rest : List ℕ) × (cond a None (Some (cond b (whole_text x added) (text_of_steps x added (known_steps (length added - 1) steps)))) ≡ Some text) × (text ≡ text_of_steps x added done ++ rest)
      go true b h = absurd (some (omega (arith, here.count, eqb-true (length added - 1) 0 h)))
      go false true h = (
        whole_text x added,
        flat_map (step_text x added) (drop i steps) ++ end_line,
        refl,
        ap (λ l. text_of_steps x added l ++ end_line) (split-at i steps) ∙ ap (λ t. t ++ end_line) (begins (drop i steps))
            ∙ append_assoc (text_of_steps x added done) (flat_map (step_text x added) (drop i steps)) end_line,
      )
      go false false h = (
        text_of_steps x added (known_steps (length added - 1) steps),
        flat_map (step_text x added) (known_steps (length added - 1) (drop i steps)),
        refl,
        ap (text_of_steps x added) known ∙ begins (known_steps (length added - 1) (drop i steps)),
      )

  known-all : i ≡ length (states x.mesh x.plan) → known_steps (length added - 1) steps ≡ steps
  unfolding done steps
  known-all last =
      let whole : take i (states x.mesh x.plan) ≡ states x.mesh x.plan = ap (λ k. take k (states x.mesh x.plan)) last ∙ take-all (states x.mesh x.plan) in
      let none : drop i (states x.mesh x.plan) ≡ [] = ap (λ k. drop k (states x.mesh x.plan)) last ∙ drop-all (states x.mesh x.plan) in
      known ∙ ap (λ l. done ++ known_steps (length added - 1) l) none ∙ append-nil done ∙ whole

  -- after the last step the whole text is known
  pub known-end : parts_in (take i (states x.mesh x.plan)) ≢ 0 → i ≡ length (states x.mesh x.plan) → known_text x added ≡ Some (whole_text x added)
  unfolding known_text states steps
  known-end some last = go (length added - 1 == 0) (length (known_steps (length added - 1) steps) == length steps) refl refl
    where
      go : (a b : Bool) → (length added - 1 == 0) ≡ a → (length (known_steps (length added - 1) steps) == length steps) ≡ b
          → cond a None (Some (cond b (whole_text x added) (text_of_steps x added (known_steps (length added - 1) steps)))) ≡ Some (whole_text x added)
      go true b h k = absurd (some (omega (arith, here.count, eqb-true (length added - 1) 0 h)))
      go false true h k = refl
      go false false h k = absurd (eqb-false (length (known_steps (length added - 1) steps)) (length steps) k (ap length (known-all last)))

  -- the text of the steps that are done stays as rounds are added
  pub texts-stay : (more : List Round) → text_of_steps x (added ++ more) (take i (states x.mesh x.plan)) ≡ text_of_steps x added (take i (states x.mesh x.plan))
  unfolding text_of_steps done steps states
  texts-stay more =
      let none : 0 + parts_in done ≡ parts_in done = omega arith in
      let all : AllByRecursion (λ (s : State). s.parts ≤ parts_in done) done =
      subst (λ n. AllByRecursion (λ (s : State). s.parts ≤ n) done) none (parts-rise x.plan.ranks (length x.mesh.cells) before_any_step (map (λ (move : ℕ × Move). move.1) x.plan.moves) i) in
      let same : flat_map (step_text x (take (length added) (added ++ more))) done ≡ flat_map (step_text x (added ++ more)) done =
      same_texts x (added ++ more) (length added) (parts_in done) done (omega (arith, here.count)) all in
      ap (λ t. full_head x.mesh x.plan.dofs x.plan.ranks ++ t) (sym same ∙ ap (λ rounds. flat_map (step_text x rounds) done) (take-front added more))

-- the text of one more step
pub one-more : (x : Subject) (rounds : List Round) (i : ℕ) (s : State) → slice_get (states x.mesh x.plan) i ≡ Some s
    → text_of_steps x rounds (take (suc i) (states x.mesh x.plan)) ≡ text_of_steps x rounds (take i (states x.mesh x.plan)) ++ step_text x rounds s
unfolding text_of_steps
one-more x rounds i s is =
    let head : List ℕ = full_head x.mesh x.plan.dofs x.plan.ranks in
    let done : List State = take i (states x.mesh x.plan) in
    let last : step_text x rounds s ++ [] ≡ step_text x rounds s = append-nil (step_text x rounds s) in
    ap (λ l. head ++ flat_map (step_text x rounds) l) (take-get (states x.mesh x.plan) i s is) ∙ ap (λ t. head ++ t) (flat_map-append (step_text x rounds) done (s ∷ []))
    ∙ ap (λ t. head ++ (flat_map (step_text x rounds) done ++ t)) last ∙ sym (append_assoc head (flat_map (step_text x rounds) done) (step_text x rounds s))

-- a round that was added last is the latest one of its part
pub latest-last : (s : State) (added : List Round) (r : Round) → s.parts ≡ length added → number_round s (added ++ r ∷ []) ≡ r
latest-last s added r h = ap (λ k. get_or (added ++ r ∷ []) k no_round) h ∙ last-of added r no_round

-- ---- the states of a plan by their places

moves-at : (n cells : ℕ) (s : State) (moves : List Move) (i : ℕ) (t : State) → slice_get (states_after n cells s moves) i ≡ Some t → slice_get moves i ≡ Some t.move
moves-at n cells s [] i t h = absurd (cc h)
moves-at n cells s (move ∷ moves) zero t h = ap Some (sym (after-moves n cells s move) ∙ ap (λ (u : State). u.move) (some-same h))
  where
    some-same : {a b : State} → Some a ≡ Some b → a ≡ b
    some-same e = cc e
moves-at n cells s (move ∷ moves) (suc i) t h = moves-at n cells (after_move n cells s move) moves i t h

moves-counted : (n cells : ℕ) (s : State) (moves : List Move) → length (states_after n cells s moves) ≡ length moves
moves-counted n cells s [] = refl
moves-counted n cells s (move ∷ moves) = ap suc (moves-counted n cells (after_move n cells s move) moves)

module _ (m : Mesh) (plan : Plan) where
  -- as many as there are moves
  pub states-counted : length (states m plan) ≡ length plan.moves
  unfolding states
  states-counted = moves-counted plan.ranks (length m.cells) before_any_step (map (λ (move : ℕ × Move). move.1) plan.moves) ∙ length-map (λ (move : ℕ × Move). move.1) plan.moves

  -- the state at place i is after i + 1 steps and the parts among them
  pub state-place : (i : ℕ) (s : State) → slice_get (states m plan) i ≡ Some s → (s.steps ≡ i + 1) × (s.parts ≡ parts_in (take (suc i) (states m plan)))
  unfolding states
  state-place i s is =
      let counts : (s.steps ≡ 0 + (i + 1)) × (s.parts ≡ 0 + parts_in (take (suc i) (states m plan))) = state-counts plan.ranks (length m.cells) before_any_step (map (λ (move : ℕ × Move). move.1) plan.moves) i s is in
      (omega (arith, counts.0), omega (arith, counts.1))

  -- it is after move i
  pub state-move : (i : ℕ) (s : State) → slice_get (states m plan) i ≡ Some s → slice_get (map (λ (move : ℕ × Move). move.1) plan.moves) i ≡ Some s.move
  unfolding states
  state-move i s is = moves-at plan.ranks (length m.cells) before_any_step (map (λ (move : ℕ × Move). move.1) plan.moves) i s is

  -- where the first state is of a part, so are some of each first ones
  pub some-parts : (i : ℕ) (s : State) → slice_get (states m plan) 0 ≡ Some s → is_part s.move ≡ true → parts_in (take (suc i) (states m plan)) ≢ 0
  some-parts i s first part = go (states m plan) first
    where
      go : (steps : List State) → slice_get steps 0 ≡ Some s → parts_in (take (suc i) steps) ≢ 0
      go [] h = absurd (cc h)
      go (t ∷ steps) h =
          let is : t ≡ s = cc h in
          let one : parts_in (t ∷ take i steps) ≡ 1 + parts_in (take i steps) = parts-first t (take i steps) ∙ ap (λ b. cond b 1 0 + parts_in (take i steps)) (ap (λ (u : State). is_part u.move) is ∙ part) in
          λ none. omega (arith, one, none)
