use Rattle.std.proofs.Common.{◌∙◌}
use Rattle.interp_share.proofs.part_labels.Given.{labels-are}
use Rattle.interp_share.proofs.part_labels.labels.part_labels.Goals as goal

pub returns : goal.returns
returns c = λ m a n r is. c.in_ok-found.ensures ∙ labels-are c.args.part.now m a n r is
