use Rattle.std.proofs.Common.{ap₂}
use Rattle.plex_section.specs.Words.{words_by}
use Rattle.interp_share.proofs.rank_fields.builder.FieldBuilder.new.Goals as goal

pub returns : goal.returns
unfolding words_by
returns c = ap₂ words_by c.new.ensures.items c.new-2.ensures.items
