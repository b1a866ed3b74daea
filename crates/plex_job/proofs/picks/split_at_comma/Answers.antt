use Rattle.std.proofs.Common.{arith}
use Rattle.plex_job.proofs.PickLemmas.{last-part, first-part}
use Rattle.plex_job.proofs.picks.split_at_comma.Goals as goal

pub returns-then-end-word : goal.returns-then-end-word
returns-then-end-word c = last-part c.args.word.now c.end_of_pick-end.result c.end_of_pick-end.ensures.value c.if-end-word.true

pub returns : goal.returns
returns c = first-part c.args.word.now c.end_of_pick-end.result c.end_of_pick-end.ensures.value (omega arith)
