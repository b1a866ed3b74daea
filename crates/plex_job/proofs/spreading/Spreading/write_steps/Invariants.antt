use Rattle.std.proofs.Common.{◌≡◌, ◌==◌, if◌then◌else◌, [], ◌∷◌}
use Rattle.plex_job.specs.Spreading.{printed}
use Rattle.plex_job.proofs.Course.{AreDone}
use Rattle.plex_job.proofs.spreading.Spreading.write_steps.Given as goal

-- the steps up to here are reported, and the home round waits for the first of them
abbrev pub invariant-loop-i : goal.invariant-loop-i
invariant-loop-i g l =
    AreDone g.W.Sink.written g.W.Sink.flushed g.W.Sink.faults g.W.Sink.counts_failures_alone g.F.Fabric.kept (printed l.self) l.fn.home l.i l.fn.out l.out l.fn.fabric l.fabric
    × (l.rounds.items ≡ (if l.i == 0 then l.fn.home ∷ [] else []))
