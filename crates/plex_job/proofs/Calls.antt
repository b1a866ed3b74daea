-- A call that has read its files, and then did what they give.
use Rattle.std.proofs.Common.{◌≡◌, ℕ, Bool, List, [], ◌++◌, Option, Result, Ok, Err, refl, sym, ap, ◌∙◌, subst, inl, inr, arith, append-nil}
use Rattle.std.specs.Prelude.{Contains, ◌⊎◌}
use Rattle.cause_defs.specs.Told.{Told}
use Rattle.cause_defs.specs.declared.ReportFault.{ReportFault}
use Rattle.cause_defs.specs.Faults.{Rises, FailsTake}
use Rattle.input_defs.specs.text_defs.Refusals.{read_refused}
use Rattle.sf_defs.specs.Rounds.{Round}
use Rattle.input_defs.specs.declared.Status.{Status}
use Rattle.input_defs.specs.declared.Status.TheVariants.{Done, Words, Plan, ReadFault, WriteFault, NoMemory, TooLong}
use Rattle.input_defs.specs.declared.Status.TheVariants as status
use Rattle.input_defs.specs.Causes.{◌>>=◌}
use Rattle.input_defs.specs.Refused.{Task, Refusal, where_even}
use Rattle.headline_defs.specs.Headline.{Call, Asking, AskedFiles, given, names_asked, AreFirstRounds, AreAllRounds, IsRefused, MayBegin, refusing, unread, telling, WritesPart, HasCause, status_given, Headline}
use Rattle.report.specs.declared.refusal.Refusal as declared
use Rattle.report.specs.declared.refusal.Refusal.TheVariants as refusal
use Rattle.report.specs.Refusals.{refusal_line, refusal_status}
use Rattle.report.specs.Delivery.{Delivers}
use Rattle.plex_job.specs.job_task.Reading as reading
use Rattle.plex_job.specs.job_task.Reading.{Gives, refusal_view}
use Rattle.plex_job.proofs.job_task.Giving.{some-files}
use Rattle.plex_job.specs.Seen.{just, seen, seen_alone}
use Rattle.plex_job.specs.Statuses.{ending}
use Rattle.plex_job.proofs.Endings.{none-first, failed-cause, rose, refuses}

-- nothing is asked for
none-asked : {P : Type 0} (name : List ℕ) → Contains [] name → P
none-asked name (k, low, is) = absurd (omega (arith, low))

stays : Rises 0 0 → ⊥
stays (inl lt) = omega (arith, lt)
stays (inr top) = absurd (cc top)

module _ {S W F : Type 0} (file : S → List ℕ → Told (List ℕ)) (shelf_faults : S → ℕ) (last_failed : S → Told (List ℕ)) (written : W → Option (List ℕ)) (flushed faults : W → ℕ) (alone : W → Bool) (kept : F → List Round)
    (words : List (List ℕ)) (shelf shelf_then : S) (out out_then : W) (fabric fabric_then : F) where
  abbrev call : Status → Call
  call s = seen file shelf_faults last_failed written flushed faults kept words shelf shelf_then out out_then fabric fabric_then s

  abbrev done : Status → Call
  done s = seen_alone written flushed faults kept out out_then fabric fabric_then s

  module _ (a : Asking) (r : Result Task Refusal) (g : Gives a (file shelf) r) where
    same : given a g.files ≡ (r >>= where_even)
    same = ap (λ x. x >>= where_even) g.gives

    moved-part : (s : Status) (files : AskedFiles) (added : List Round) → WritesPart (just r) (done s) files added → WritesPart a (call s) g.files added
    moved-part s files added (inl is) = inl is
    moved-part s files added (inr (text, may, part)) = inr (text, begun may, part)
      where
        begun : {text : List ℕ} → MayBegin (just r) (done s) files added text → MayBegin a (call s) g.files added text
        begun (refusing refusal is) = refusing refusal (same ∙ is)
        begun (unread name failed) = none-asked name failed.asked
        begun (telling task text is known) = telling task text (same ∙ is) known

    moved-refused : (s : Status) (files : AskedFiles) (added : List Round) → IsRefused (just r) (done s) files added → IsRefused a (call s) g.files added
    moved-refused s files added d = record { refusal = d.refusal; refused = same ∙ d.refused; status = d.status; rounds = subst (λ x. AreAllRounds x added) (sym g.gives) d.rounds; answered = record { written = d.answered.written; flushed = d.answered.flushed } }

    moved-cause : (s : Status) (files : AskedFiles) (added : List Round) → HasCause (just r) (done s) files added s → HasCause a (call s) g.files added s
    moved-cause Done files added d = record { task = d.task; asked = same ∙ d.asked; rounds = subst (λ x. AreAllRounds x added) (sym g.gives) d.rounds; answered = record { written = d.answered.written; flushed = d.answered.flushed } }
    moved-cause Words files added d = moved-refused Words files added d
    moved-cause Plan files added d = moved-refused Plan files added d
    moved-cause status.Mesh files added d = moved-refused status.Mesh files added d
    moved-cause ReadFault files added d = none-asked d.name d.failed.asked
    moved-cause WriteFault files added d = record { rose = d.rose; part = moved-part WriteFault files added d.part }
    moved-cause NoMemory files added d = moved-part NoMemory files added d
    moved-cause TooLong files added d = moved-refused TooLong files added d

    -- what is done is what the files give
    pub moved : (s : Status) → Headline (just r) (done s) → Headline a (call s)
    moved s h = record {
      files = g.files;
      agree = g.agree;
      added = h.added;
      kept = h.kept;
      rounds = subst (λ x. AreFirstRounds x h.added) (sym g.gives) h.rounds;
      cause = moved-cause s h.files h.added h.cause;
      complete = λ told shelf sink. subst (λ x. (s ≡ status_given x) ⊎ (s ≡ NoMemory)) (sym same) (h.complete (λ name there. none-asked name there) stays sink);
    }

  -- a file could not be read
  pub unread-file : {A : Type 0} (a : Asking) (name : List ℕ) (result : Result A ReportFault) → Contains (names_asked a) name → FailsTake shelf_faults last_failed shelf shelf_then name
      → fabric_then ≡ fabric → Delivers written flushed faults alone result out out_then (read_refused name) → Headline a (call (ending result ReadFault))
  unread-file {A} a name result there failed alike delivers = go result delivers
    where
      none : kept fabric_then ≡ kept fabric ++ []
      none = ap kept alike ∙ sym (append-nil (kept fabric))

      go : (o : Result A ReportFault) → Delivers written flushed faults alone o out out_then (read_refused name) → Headline a (call (ending o ReadFault))
      go (Ok x) d = record {
        files = (some-files a (file shelf)).0;
        agree = (some-files a (file shelf)).1;
        added = [];
        kept = none;
        rounds = none-first _;
        cause = record { name = name; failed = record { rose = failed.rose; asked = there; last = failed.last }; none = refl; answered = record { written = d.prints; flushed = d.all_flushed } };
        complete = λ told still sink. absurd (still failed.rose);
      }
      go (Err e) d = record {
        files = (some-files a (file shelf)).0;
        agree = (some-files a (file shelf)).1;
        added = [];
        kept = none;
        rounds = none-first _;
        cause = failed-cause A _ _ _ _ e ReadFault (inr (read_refused name, unread name (record { rose = failed.rose; asked = there; last = failed.last }), d.prints)) (rose A e d.cause);
        complete = λ told still sink. absurd (still failed.rose);
      }

  -- a refusal of words or files
  pub refused-call : {A : Type 0} (a : Asking) (r : declared.Refusal) (result : Result A ReportFault) → reading.HasCause a (file shelf) (FailsTake shelf_faults last_failed shelf shelf_then) r
      → fabric_then ≡ fabric → Delivers written flushed faults alone result out out_then (refusal_line r) → Headline a (call (ending result (refusal_status r)))
  refused-call {A} a r result cause alike delivers = go r cause delivers
    where
      none : kept fabric_then ≡ kept fabric ++ []
      none = ap kept alike ∙ sym (append-nil (kept fabric))

      go : (r : declared.Refusal) → reading.HasCause a (file shelf) (FailsTake shelf_faults last_failed shelf shelf_then) r → Delivers written flushed faults alone result out out_then (refusal_line r)
          → Headline a (call (ending result (refusal_status r)))
      go refusal.Words g d = moved a _ g _ (refuses written flushed faults alone kept out out_then fabric fabric_then (Err (refusal_view refusal.Words)) (refusal_view refusal.Words) [] result refl tt none refl d)
      go (refusal.Read name) g d = unread-file a name.now result g.0 g.1 alike d
      go (refusal.TooLong name) g d = moved a _ g _ (refuses written flushed faults alone kept out out_then fabric fabric_then (Err (refusal_view (refusal.TooLong name))) (refusal_view (refusal.TooLong name)) [] result refl tt none refl d)
      go (refusal.Plan fault) g d = moved a _ g _ (refuses written flushed faults alone kept out out_then fabric fabric_then (Err (refusal_view (refusal.Plan fault))) (refusal_view (refusal.Plan fault)) [] result refl tt none refl d)
      go (refusal.Msh fault) g d = moved a _ g _ (refuses written flushed faults alone kept out out_then fabric fabric_then (Err (refusal_view (refusal.Msh fault))) (refusal_view (refusal.Msh fault)) [] result refl tt none refl d)
      go (refusal.Mesh fault) g d = moved a _ g _ (refuses written flushed faults alone kept out out_then fabric fabric_then (Err (refusal_view (refusal.Mesh fault))) (refusal_view (refusal.Mesh fault)) [] result refl tt none refl d)
      go (refusal.Twist key) g d = absurd g

  -- memory ran out before anything was read
  pub unread-memory : (a : Asking) → fabric_then ≡ fabric → out_then ≡ out → Headline a (call NoMemory)
  unread-memory a alike same = record {
    files = (some-files a (file shelf)).0;
    agree = (some-files a (file shelf)).1;
    added = [];
    kept = ap kept alike ∙ sym (append-nil (kept fabric));
    rounds = none-first _;
    cause = inl (ap written same);
    complete = λ told still sink. inr refl;
  }

  -- no round was run then
  pub unread-none : (a : Asking) (alike : fabric_then ≡ fabric) (same : out_then ≡ out) → (unread-memory a alike same).added ≡ []
  unfolding unread-memory
  unread-none a alike same = refl
