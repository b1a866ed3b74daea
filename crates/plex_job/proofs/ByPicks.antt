-- The rounds of a task that go by picks are the first of those that the picks give.
use Rattle.std.proofs.Common.{◌≡◌, ℕ, List, [], ◌∷◌, map, length, take, Some, Ok, Err, refl, sym, ◌∙◌}
use Rattle.std.specs.Prelude.{Result}
use Rattle.std.specs.List.{AllByRecursion}
use Rattle.mesh_defs.specs.Mesh.{Mesh}
use Rattle.sf_defs.specs.Rounds.{Round}
use Rattle.sf_defs.specs.Script.{scripted}
use Rattle.input_defs.specs.Refused.{Task, Refusal, where_even}
use Rattle.headline_defs.specs.Rounds.{Due, Keys, Numbers, IsDue, AreFirst}
use Rattle.headline_defs.specs.Headline.{AreFirstRounds, due_where}
use Rattle.headline_defs.specs.Tops.{run, AreByPicks}
use Rattle.plex_job.specs.Picked.{by_picks, picks_told, told_before}

-- the round goes by these picks
abbrev pub IsByPicks : List ℕ → Round → Type 0
IsByPicks picks r = r ≡ by_picks picks r

-- the round of picks has the words and asks of the round that it is made of
by-same : (picks : List ℕ) (r : Round) → by_picks picks (by_picks picks r) ≡ by_picks picks r
unfolding scripted
by-same picks r = refl

all-by : (picks : List ℕ) (rounds : List Round) → AllByRecursion (IsByPicks picks) (map (by_picks picks) rounds)
all-by picks [] = tt
all-by picks (r ∷ rounds) = (sym (by-same picks r), all-by picks rounds)

abbrev first_words : List Round → List ℕ
first_words [] = []
first_words (r ∷ rounds) = r.before

abbrev others : List Round → List Round
others [] = []
others (r ∷ rounds) = rounds

-- rounds that were told after the picks go by them
pub told-by : (picks told : List ℕ) (rounds added : List Round) → told_before told rounds ≡ picks_told picks ∷ added → AllByRecursion (IsByPicks picks) added
told-by picks told rounds added is = coe 0 1 (i. AllByRecursion (IsByPicks (first_words (is i))) (others (is i))) (all-by told rounds)

module _ (m : Mesh) (n : ℕ) (picks : List ℕ) where
  due-runs : (due : Due) (r : Round) → IsDue m n due r → IsByPicks picks r → r ≡ run m n picks due
  due-runs (Keys ranks) r is by = by ∙ (λ i. scripted (is.tag i) (is.words i) (is.asks i) picks)
  due-runs (Numbers ranks) r is by = by ∙ (λ i. scripted (is.tag i) (is.words i) (is.asks i) picks)

  first-runs : (dues : List Due) (rounds : List Round) → AllByRecursion (IsByPicks picks) rounds → AreFirst m n dues rounds → rounds ≡ take (length rounds) (map (run m n picks) dues)
  first-runs dues [] by first = refl
  first-runs [] (r ∷ rounds) by first = absurd first
  first-runs (d ∷ dues) (r ∷ rounds) by first = (λ i. due-runs d r first.0 by.0 i ∷ first-runs dues rounds by.1 first.1 i)

-- the rounds of a call that go by picks are those that the picks give
pub by-picks : (picks : List ℕ) (given : Result Task Refusal) (added : List Round) → AllByRecursion (IsByPicks picks) added → AreFirstRounds given added → AreByPicks (Some picks) given added
by-picks picks (Err refusal) added by first = first
by-picks picks (Ok task) added by first = first-runs task.mesh task.plan.ranks picks (due_where (where_even task) task) added by first
