use Rattle.std.proofs.Common.{sym, subst}
use Rattle.rank_defs.specs.Ranks.{assigned}
use Rattle.dist_state.specs.Local.{IsLocalMesh}
use Rattle.orient_iface.proofs.dist_assembly.Marks.{local-whole}
use Rattle.orient_iface.proofs.dist_assembly.local.rank_mesh.Goals as goal

pub of-requires : goal.of-requires
of-requires c =
    let may = c.requires in
    subst IsLocalMesh (sym (c.in_ok-parts.ensures may.m may.dofs may.a may.n may.is)) (local-whole may.m may.dofs may.a (assigned may.m may.a c.args.rank))
