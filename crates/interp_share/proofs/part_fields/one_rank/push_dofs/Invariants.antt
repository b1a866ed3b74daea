use Rattle.std.proofs.Common.{◌≡◌, ◌++◌, take}
use Rattle.dist_state.specs.scatter_state.Whole.{part_at}
use Rattle.interp_share.specs.own_field_laws.Own.{part_dofs}
use Rattle.interp_share.proofs.part_fields.one_rank.push_dofs.Given as goal

-- the lines up to here
abbrev pub invariant-loop-i : goal.invariant-loop-i
invariant-loop-i l = l.all.items ≡ l.initial.all.items ++ part_dofs (take l.i l.scatter.dofs) (part_at l.scatter.parts l.rank) l.weights
