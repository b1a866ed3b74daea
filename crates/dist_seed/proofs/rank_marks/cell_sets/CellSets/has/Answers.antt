use Rattle.std.proofs.Common.{ap, ◌∙◌}
use Rattle.std.specs.Prelude.{position, is_some}
use Rattle.plain_lists.specs.Lists.{same_list}
use Rattle.dist_seed.proofs.rank_marks.Sets.{position-any, sets-on}
use Rattle.rank_chart_laws.specs.mark_laws.Sets.{filled}
use Rattle.dist_seed.proofs.rank_marks.cell_sets.CellSets.has.Goals as goal

pub set_on-requires : goal.set_on-requires
set_on-requires c = c.requires.short.few

pub returns : goal.returns
returns c =
    let keys = c.args.self.now.sets.keys in
    let vertices = c.args.vertices.now in
    c.is_some.ensures ∙ ap is_some c.get_index_of.ensures.index
    ∙ (λ i. is_some (position (same_list (c.set_on.ensures i)) keys))
    ∙ position-any (same_list (filled vertices)) keys
    ∙ sets-on c.args.own.now.cells keys vertices c.requires.sets c.requires.cells c.requires.short
