-- What is seen of a call from outside.
use Rattle.std.specs.Prelude.{ℕ, List, [], Option, None, Result}
use Rattle.cause_defs.specs.Told.{Told, untold}
use Rattle.sf_defs.specs.Rounds.{Round}
use Rattle.input_defs.specs.declared.Status.{Status}
use Rattle.input_defs.specs.Refused.{Task, Refusal}
use Rattle.headline_defs.specs.Headline.{Call, Asking}
use Rattle.headline_defs.specs.Tops.{IsReplayBuilt}

-- A call to the top. The meanings of the shelf's, the sink's and the fabric's types come first, then the words, then the
-- shelf, the sink and the fabric, each before and after the call, and the status.
abbrev pub seen : {S W F : Type 0} → (S → List ℕ → Told (List ℕ)) → (S → ℕ) → (S → Told (List ℕ)) → (W → Option (List ℕ)) → (W → ℕ) → (W → ℕ) → (F → List Round)
    → List (List ℕ) → S → S → W → W → F → F → Status → Call
seen file shelf_faults last_failed written flushed sink_faults kept words shelf shelf_then out out_then fabric fabric_then status = record {
  words = words;
  file = file shelf;
  shelf_before = shelf_faults shelf;
  shelf_after = shelf_faults shelf_then;
  last_failed = last_failed shelf_then;
  sink_before = sink_faults out;
  sink_after = sink_faults out_then;
  written_before = written out;
  written_after = written out_then;
  flushed = flushed out_then;
  kept_before = kept fabric;
  kept_after = kept fabric_then;
  status = status;
}

-- A replay, whose rounds are kept from the first on by no fabric of its caller.
abbrev pub seen_replay : {S W : Type 0} → (S → List ℕ → Told (List ℕ)) → (S → ℕ) → (S → Told (List ℕ)) → (W → Option (List ℕ)) → (W → ℕ) → (W → ℕ)
    → List (List ℕ) → S → S → W → W → Status → List Round → Call
seen_replay file shelf_faults last_failed written flushed sink_faults words shelf shelf_then out out_then status rounds = record {
  words = words;
  file = file shelf;
  shelf_before = shelf_faults shelf;
  shelf_after = shelf_faults shelf_then;
  last_failed = last_failed shelf_then;
  sink_before = sink_faults out;
  sink_after = sink_faults out_then;
  written_before = written out;
  written_after = written out_then;
  flushed = flushed out_then;
  kept_before = [];
  kept_after = rounds;
  status = status;
}

-- for some rounds that are kept the call is a replay
pub record Replays (call : List Round → Call) : Type 0 where
  pub rounds : List Round
  pub replay : IsReplayBuilt (call rounds)

-- A call that has no shelf and no words.
abbrev pub seen_alone : {W F : Type 0} → (W → Option (List ℕ)) → (W → ℕ) → (W → ℕ) → (F → List Round) → W → W → F → F → Status → Call
seen_alone written flushed sink_faults kept out out_then fabric fabric_then status = record {
  words = [];
  file = λ name. untold;
  shelf_before = 0;
  shelf_after = 0;
  last_failed = untold;
  sink_before = sink_faults out;
  sink_after = sink_faults out_then;
  written_before = written out;
  written_after = written out_then;
  flushed = flushed out_then;
  kept_before = kept fabric;
  kept_after = kept fabric_then;
  status = status;
}

-- what is asked is known without any file
abbrev pub just : Result Task Refusal → Asking
just given = record { plan_name = None; mesh_name = None; fitting = λ plan_file mesh_file. given }
