use Rattle.std.specs.Io.KnownBytes.{Keeps}
use Rattle.shelf_io.proofs.waiting.write_some.Given as goal

-- a write that was cut short added nothing
abbrev pub invariant-loop : goal.invariant-loop
invariant-loop g l = Keeps (g.W.Write.contents l.initial.writer) (g.W.Write.contents l.writer)
