-- The text of a task as far as number rounds make it known, and what a call leaves that writes it.
use Rattle.std.specs.Prelude.{◌≡◌, ℕ, ◌≤◌, Bool, ◌==◌, if◌then◌else◌, List, [], ◌∷◌, ◌++◌, length, take, Option, Result, OnOk}
use Rattle.std.specs.List.{AllByRecursion}
use Rattle.cause_defs.specs.declared.ReportFault.{ReportFault}
use Rattle.cause_defs.specs.Reports.{Reports}
use Rattle.input_defs.specs.text_defs.Text.{end_line}
use Rattle.sf_defs.specs.Rounds.{Round}
use Rattle.input_defs.specs.Further.{full_head}
use Rattle.input_defs.specs.States.{states}
use Rattle.headline_defs.specs.StepText.{Subject, text_of_steps}
use Rattle.report.specs.Delivery.{Delivers}
use Rattle.plex_job.specs.Once.{IsDrawn}

-- what stands before the lines of step i: the head before the first
abbrev pub before_step : Subject → ℕ → List ℕ
before_step x i = if i == 0 then full_head x.mesh x.plan.dofs x.plan.ranks else []

-- the text up to the last step that has its number round: nothing while there is none
unfoldable pub begun : Subject → Round → List Round → List ℕ
begun x home [] = []
begun x home (r ∷ rounds) = text_of_steps x (home ∷ r ∷ rounds) (take (length (r ∷ rounds)) (states x.mesh x.plan))

-- with the last line, where each step has its round
unfoldable pub known : Subject → Round → List Round → List ℕ
known x home rounds = begun x home rounds ++ (if length rounds == length (states x.mesh x.plan) then end_line else [])

-- These number rounds have been kept, no more than there are steps, and after an Ok one for each.
pub record AreKept {F A : Type 0} (kept : F → List Round) (x : Subject) (result : Result A ReportFault) (fabric fabric_then : F) (rounds : List Round) : Type 0 where
  pub kept_are : kept fabric_then ≡ kept fabric ++ rounds
  pub drawn : AllByRecursion (IsDrawn x.mesh x.plan) rounds
  pub few : length rounds ≤ length (states x.mesh x.plan)
  pub all : OnOk result (length rounds ≡ length (states x.mesh x.plan))

-- The steps are reported as far as the number rounds make them known. The meanings of the sink's and the fabric's types come
-- first, then what is printed and the home round, the answer, and sink and fabric before and after the call.
pub record ReportsSteps {W F A : Type 0} (written : W → Option (List ℕ)) (flushed faults : W → ℕ) (counts_failures_alone : W → Bool) (kept : F → List Round)
    (x : Subject) (home : Round) (result : Result A ReportFault) (old new : W) (fabric fabric_then : F) : Type 0 where
  pub rounds : List Round
  pub kept_are : AreKept kept x result fabric fabric_then rounds
  pub reports : Reports written flushed faults counts_failures_alone result old new (begun x home rounds)

-- The same with the end of the text: it is delivered.
pub record DeliversText {W F A : Type 0} (written : W → Option (List ℕ)) (flushed faults : W → ℕ) (counts_failures_alone : W → Bool) (kept : F → List Round)
    (x : Subject) (home : Round) (result : Result A ReportFault) (old new : W) (fabric fabric_then : F) : Type 0 where
  pub rounds : List Round
  pub kept_are : AreKept kept x result fabric fabric_then rounds
  pub delivers : Delivers written flushed faults counts_failures_alone result old new (known x home rounds)
