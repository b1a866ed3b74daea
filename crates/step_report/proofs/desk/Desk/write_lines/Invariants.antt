use Rattle.std.proofs.Common.{◌≡◌, Ok}
use Rattle.cause_defs.specs.Reports.{Reports}
use Rattle.step_report.specs.Desks.{place_of, lines_before}
use Rattle.step_report.proofs.desk.Desk.write_lines.Given as goal

-- the lines of the points up to here are reported, and counted
abbrev pub invariant-loop-p : goal.invariant-loop-p
invariant-loop-p g l =
    (l.before ≡ place_of l.kind l.self l.p) × Reports g.W.Sink.written g.W.Sink.flushed g.W.Sink.faults g.W.Sink.counts_failures_alone (Ok (tt {0})) l.fn.out l.out (lines_before l.kind l.self l.p)
