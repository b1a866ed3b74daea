-- The two top calls: one whose rounds any fabric runs, and one whose rounds go by picks.
use Rattle.std.specs.Prelude.{◌≡◌, ℕ, List, [], ◌∷◌, length, map, take, Option, Some, None, Result, Ok, Err}
use Rattle.plain_lists.specs.Lists.{below}
use Rattle.mesh_defs.specs.Mesh.{Mesh}
use Rattle.input_defs.specs.text_defs.Refusals.{words_refused}
use Rattle.sf_defs.specs.declared.Tag.TheVariants.{Home, Number}
use Rattle.sf_defs.specs.Rounds.{Round}
use Rattle.sf_defs.specs.Script.{scripted}
use Rattle.rank_defs.specs.Home.{home_points, home_words, home_asks, number_asks}
use Rattle.input_defs.specs.declared.Status.TheVariants.{Words}
use Rattle.input_defs.specs.Words.{plan_name, mesh_name}
use Rattle.input_defs.specs.Refused.{Task, Refusal, refuse, fitting_task, where_even}
use Rattle.input_defs.specs.Ahead.{built_task}
use Rattle.headline_defs.specs.Picks.{picks_of}
use Rattle.headline_defs.specs.Rounds.{Due, Keys, Numbers}
use Rattle.headline_defs.specs.Headline.{Call, Asking, Headline, fitting_given, due_where}

-- ---- over any fabric

-- what words ask
unfoldable pub asking : List (List ℕ) → Asking
asking words = record { plan_name = plan_name words; mesh_name = mesh_name words; fitting = fitting_task words }

-- the same as long as some lines of plans are not built
unfoldable pub asking_built : List (List ℕ) → Asking
asking_built words = record (asking words) { fitting = built_task words }

abbrev pub IsJob : Call → Type 0
IsJob c = Headline (asking c.words) c

-- ---- by picks

-- a round that is due, by picks
abbrev pub run : Mesh → ℕ → List ℕ → Due → Round
run m n picks (Keys ranks) = let points = home_points m ranks n in scripted Home (home_words m ranks points) (map (home_asks m ranks points) (below n)) picks
run m n picks (Numbers ranks) = scripted Number (0 ∷ []) (number_asks m ranks n) picks

-- the rounds of a task, each from the first pick on
abbrev pub runs : List ℕ → Task → List Round
runs picks task = map (run task.mesh task.plan.ranks picks) (due_where (where_even task) task)

-- words whose first one is no list of picks are refused
abbrev pub asking_where : Option (List ℕ) → List (List ℕ) → Asking
asking_where None words = record { plan_name = None; mesh_name = None; fitting = λ plan_file mesh_file. refuse Words words_refused }
asking_where (Some picks) words = asking words

abbrev pub picks_in : List (List ℕ) → Option (List ℕ)
picks_in [] = None
picks_in (word ∷ words) = picks_of word

abbrev pub after_picks : List (List ℕ) → List (List ℕ)
after_picks [] = []
after_picks (word ∷ words) = words

-- what the words of a replay ask
unfoldable pub replay_asking : List (List ℕ) → Asking
replay_asking words = asking_where (picks_in words) (after_picks words)

-- the rounds are the first that the picks give
abbrev pub AreByPicks : Option (List ℕ) → Result Task Refusal → List Round → Type 0
AreByPicks None result added = added ≡ []
AreByPicks (Some picks) (Err refusal) added = added ≡ []
AreByPicks (Some picks) (Ok task) added = added ≡ take (length added) (runs picks task)

-- a replay starts with no kept rounds, and its rounds go by its picks
pub record IsReplay (c : Call) : Type 0 where
  pub headline : Headline (replay_asking c.words) c
  pub no_rounds : c.kept_before ≡ []
  pub by_picks : AreByPicks (picks_in c.words) (fitting_given (replay_asking c.words) headline.files) headline.added

-- ---- by picks, as long as some lines of plans are not built

abbrev pub asking_built_where : Option (List ℕ) → List (List ℕ) → Asking
asking_built_where None words = asking_where None words
asking_built_where (Some picks) words = asking_built words

-- what the words of a replay ask
unfoldable pub replay_asking_built : List (List ℕ) → Asking
replay_asking_built words = asking_built_where (picks_in words) (after_picks words)

-- a replay starts with no kept rounds, and its rounds go by its picks
pub record IsReplayBuilt (c : Call) : Type 0 where
  pub headline : Headline (replay_asking_built c.words) c
  pub no_rounds : c.kept_before ≡ []
  pub by_picks : AreByPicks (picks_in c.words) (fitting_given (replay_asking_built c.words) headline.files) headline.added
