use Rattle.std.proofs.Common.{◌≡◌, ◌+◌, ◌++◌, sum, drop}
use Rattle.plex_section.specs.Starts.{ends, starts}
use Rattle.plex_section.proofs.section.Section.layout.Given as goal

abbrev pub invariant-loop-dof : goal.invariant-loop-dof
invariant-loop-dof l = record {
  rest : l.offsets.items ++ ends l.end (drop l.dof-index l.dofs) ≡ starts l.dofs;
  fits : l.end + sum (drop l.dof-index l.dofs) ≡ sum l.dofs;
}
