use Rattle.std.proofs.Common.{◌==◌, rules, tests}
use Rattle.std.proofs.lemmas.Iterator.{YieldsList-from_slice}
use Rattle.std.proofs.lemmas.Iterator.Search.{position_from_yields_List}
use Rattle.plan_reader.proofs.Lines.{place_or_length}
use Rattle.plex_job.proofs.picks.end_of_pick.Goals as goal

pub returns-clause-value : goal.returns-clause-value
returns-clause-value c =
    let e = position_from_yields_List (λ b. b == 44) _ _ c.position-end.result c.position-end.ensures.ran (YieldsList-from_slice c.args.word.now cc) (λ x b q k. search (rules, tests)) in
    place_or_length (λ b. b == 44) c.args.word.now c.position-end.result c.unwrap_or.result e c.unwrap_or.ensures
