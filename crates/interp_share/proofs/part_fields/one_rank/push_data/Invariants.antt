use Rattle.std.proofs.Common.{◌≡◌, ◌++◌, map}
use Rattle.plain_lists.specs.Lists.{below}
use Rattle.dist_state.specs.scatter_state.Parts.{rows_at}
use Rattle.dist_state.specs.scatter_state.Whole.{part_at}
use Rattle.interp_share.specs.rank_fields.Words.{section_words}
use Rattle.interp_share.specs.own_field_laws.Own.{part_sizes, place_at}
use Rattle.interp_share.proofs.part_fields.one_rank.push_data.Given as goal

-- the sections up to here
abbrev pub invariant-loop-f : goal.invariant-loop-f
invariant-loop-f l = l.all.items ≡ l.initial.all.items ++ map (λ f. section_words (part_sizes (part_at l.scatter.parts l.rank)) (place_at l.scatter.sections f) (rows_at (part_at l.scatter.parts l.rank).rows f)) (below l.f)
