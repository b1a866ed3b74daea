-- A call keeps its promise whatever was kept before it.
use Rattle.std.proofs.Common.{ℕ, List, [], refl, inl, inr}
use Rattle.sf_defs.specs.Rounds.{Round}
use Rattle.input_defs.specs.declared.Status.{Status}
use Rattle.input_defs.specs.declared.Status.TheVariants.{Done, Words, Plan, ReadFault, WriteFault, NoMemory, TooLong}
use Rattle.input_defs.specs.declared.Status.TheVariants as status
use Rattle.headline_defs.specs.Headline.{Call, Asking, AskedFiles, HasFailed, IsRefused, MayBegin, refusing, unread, telling, WritesPart, HasCause, Headline}

module _ (a : Asking) (c : Call) (before after : List Round) where
  -- the same call, seen with these rounds
  abbrev pub d : Call
  d = record c { kept_before = before; kept_after = after }

  failed-same : (name : List ℕ) → HasFailed a c name → HasFailed a d name
  failed-same name f = record { rose = f.rose; asked = f.asked; last = f.last }

  part-same : (files : AskedFiles) (added : List Round) → WritesPart a c files added → WritesPart a d files added
  part-same files added (inl is) = inl is
  part-same files added (inr (text, may, part)) = inr (text, begun may, part)
    where
      begun : {text : List ℕ} → MayBegin a c files added text → MayBegin a d files added text
      begun (refusing refusal is) = refusing refusal is
      begun (unread name failed) = unread name (failed-same name failed)
      begun (telling task text is known) = telling task text is known

  refused-same : (files : AskedFiles) (added : List Round) → IsRefused a c files added → IsRefused a d files added
  refused-same files added r = record { refusal = r.refusal; refused = r.refused; status = r.status; rounds = r.rounds; answered = record { written = r.answered.written; flushed = r.answered.flushed } }

  cause-same : (s : Status) (files : AskedFiles) (added : List Round) → HasCause a c files added s → HasCause a d files added s
  cause-same Done files added r = record { task = r.task; asked = r.asked; rounds = r.rounds; answered = record { written = r.answered.written; flushed = r.answered.flushed } }
  cause-same Words files added r = refused-same files added r
  cause-same Plan files added r = refused-same files added r
  cause-same status.Mesh files added r = refused-same files added r
  cause-same ReadFault files added r = record { name = r.name; failed = failed-same r.name r.failed; none = r.none; answered = record { written = r.answered.written; flushed = r.answered.flushed } }
  cause-same WriteFault files added r = record { rose = r.rose; part = part-same files added r.part }
  cause-same NoMemory files added r = part-same files added r
  cause-same TooLong files added r = refused-same files added r

-- nothing was kept before it, and what it added afterwards
pub by-itself : (a : Asking) (c : Call) (h : Headline a c) → Headline a (record c { kept_before = []; kept_after = h.added })
by-itself a c h = record {
  files = h.files;
  agree = record { plan = h.agree.plan; mesh = h.agree.mesh };
  added = h.added;
  kept = refl;
  rounds = h.rounds;
  cause = cause-same a c [] h.added c.status h.files h.added h.cause;
  complete = h.complete;
}
