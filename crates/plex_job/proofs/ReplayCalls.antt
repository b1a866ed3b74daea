-- A replay is a call whose rounds its picks give.
use Rattle.std.proofs.Common.{◌≡◌, ℕ, ◌-◌, Bool, List, [], ◌∷◌, ◌++◌, map, length, take, drop, Option, Some, None, Result, Ok, Err, refl, sym, ap, ◌∙◌, subst}
use Rattle.std.proofs.lemmas.List.{take_rest}
use Rattle.std.specs.List.{AllByRecursion}
use Rattle.cause_defs.specs.Told.{Told}
use Rattle.cause_defs.specs.declared.ReportFault.{ReportFault}
use Rattle.input_defs.specs.text_defs.Refusals.{words_refused}
use Rattle.sf_defs.specs.Rounds.{Round}
use Rattle.input_defs.specs.declared.Status.{Status}
use Rattle.input_defs.specs.declared.Status.TheVariants.{Words, NoMemory}
use Rattle.input_defs.specs.Refused.{Task, Refusal}
use Rattle.headline_defs.specs.Headline.{Call, Asking, Headline, fitting_given}
use Rattle.headline_defs.specs.Tops.{asking_built, asking_built_where, asking_where, picks_in, after_picks, replay_asking_built, AreByPicks, IsReplayBuilt}
use Rattle.report.specs.declared.refusal.Refusal.TheVariants as refusal
use Rattle.report.specs.Delivery.{Delivers}
use Rattle.plex_job.specs.Seen.{seen, seen_replay, Replays}
use Rattle.plex_job.specs.Statuses.{ending}
use Rattle.plex_job.proofs.Calls.{refused-call, unread-memory, unread-none}
use Rattle.plex_job.specs.Picked.{picks_told, told_before}
use Rattle.plex_job.proofs.ByPicks.{IsByPicks, by-picks, told-by}
use Rattle.plex_job.proofs.Alone.{by-itself}

abbrev IsPicked : (c : Call) → Option (List ℕ) → Asking → Type 0
IsPicked c picks a = (h : Headline a c) × AreByPicks picks (fitting_given a h.files) h.added

-- the headline of what the words ask, with the rounds of the picks
is-replay : (c : Call) (a : Asking) → a ≡ replay_asking_built c.words → c.kept_before ≡ [] → IsPicked c (picks_in c.words) a → IsReplayBuilt c
is-replay c a same none picked = let p = subst (IsPicked c (picks_in c.words)) same picked in record { headline = p.0; no_rounds = none; by_picks = p.1 }

none-picked : (picks : Option (List ℕ)) (given : Result Task Refusal) → AreByPicks picks given []
none-picked None given = refl
none-picked (Some picks) (Err refusal) = refl
none-picked (Some picks) (Ok task) = refl

-- what words with picks ask
asked-picks : (words rest : List (List ℕ)) (picks : Option (List ℕ)) → picks ≡ picks_in words → rest ≡ after_picks words → asking_built_where picks rest ≡ replay_asking_built words
unfolding replay_asking_built
asked-picks words rest picks first others = (λ i. asking_built_where (first i) (others i))

module _ {S W : Type 0} (file : S → List ℕ → Told (List ℕ)) (shelf_faults : S → ℕ) (last_failed : S → Told (List ℕ)) (written : W → Option (List ℕ)) (flushed faults : W → ℕ) (alone : W → Bool)
    (words : List (List ℕ)) (shelf shelf_then : S) (out out_then : W) where
  abbrev call : Status → List Round → Call
  call = seen_replay file shelf_faults last_failed written flushed faults words shelf shelf_then out out_then

  -- over a fabric that is seen with its picks before its rounds
  pub picked : {F : Type 0} (kept : F → List Round) (fabric fabric_then : F) (rest : List (List ℕ)) (picks told : List ℕ) (rounds : List Round) (s : Status) → kept fabric ≡ picks_told picks ∷ [] → kept fabric_then ≡ told_before told rounds
      → Some picks ≡ picks_in words → rest ≡ after_picks words → Headline (asking_built rest) (seen file shelf_faults last_failed written flushed faults kept words shelf shelf_then out out_then fabric fabric_then s) → Replays (call s)
  picked kept fabric fabric_then rest picks told rounds s before after first others h =
      let a = asking_built rest in
      let own = by-itself a (seen file shelf_faults last_failed written flushed faults kept words shelf shelf_then out out_then fabric fabric_then s) h in
      let by = subst (AllByRecursion (IsByPicks picks)) own.kept (told-by picks told rounds h.added (sym after ∙ h.kept ∙ ap (λ l. l ++ h.added) before)) in
      record {
        rounds = h.added;
        replay = is-replay (call s h.added) a (asked-picks words rest (Some picks) first others) refl (own, subst (λ p. AreByPicks p (fitting_given a own.files) own.added) first (by-picks picks (fitting_given a own.files) own.added by own.rounds));
      }

  no_kept : Unit {0} → List Round
  no_kept u = []

  -- the first word is no list of picks
  pub unpicked : {A : Type 0} (result : Result A ReportFault) → None ≡ picks_in words → Delivers written flushed faults alone result out out_then words_refused → Replays (call (ending result Words))
  unfolding no_kept
  unpicked result first delivers =
      let a = asking_where None (after_picks words) in
      let h : Headline a (call (ending result Words) []) = refused-call file shelf_faults last_failed written flushed faults alone no_kept words shelf shelf_then out out_then tt tt a refusal.Words result
      (record { files = record { plan = None; mesh = None }; agree = record { plan = tt; mesh = tt }; gives = refl }) refl delivers in
      record { rounds = []; replay = is-replay (call (ending result Words) []) a (asked-picks words (after_picks words) None first refl) refl (h, subst (λ p. AreByPicks p (fitting_given a h.files) h.added) first h.rounds) }

  -- memory ran out
  pub unpicked-memory : out_then ≡ out → Replays (call NoMemory)
  unfolding no_kept
  unpicked-memory same =
      let a = replay_asking_built words in
      let h : Headline a (call NoMemory []) = unread-memory file shelf_faults last_failed written flushed faults alone no_kept words shelf shelf_then out out_then tt tt a refl same in
      let none : h.added ≡ [] = unread-none file shelf_faults last_failed written flushed faults alone no_kept words shelf shelf_then out out_then tt tt a refl same in
      record { rounds = []; replay = is-replay (call NoMemory []) a refl refl (h, subst (AreByPicks (picks_in words) (fitting_given a h.files)) (sym none) (none-picked (picks_in words) (fitting_given a h.files))) }

-- the words after the first one
pub rest-after : {X : Type 0} (f : X → List ℕ) (xs : List X) → map f (take (length xs - 1) (drop 1 xs)) ≡ after_picks (map f xs)
rest-after f [] = refl
rest-after f (x ∷ xs) = ap (map f) (take_rest (x ∷ xs) 1)
