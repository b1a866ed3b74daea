use Rattle.std.proofs.Common.{sym, Ok, Err}
use Rattle.std.proofs.lemmas.List.Sorted.{searched}
use Rattle.rank_chart_laws.proofs.meeting_laws.Loops.{rising_place, not_missed, rising_le}
use Rattle.shared_forest.proofs.vertices.place_of.Goals as goal

pub returns-in-Ok : goal.returns-in-Ok
returns-in-Ok c =
    let found = searched c.args.vertices.now c.args.vertex (Ok c.in-Ok.place) c.in-Ok.ensures.position (rising_le c.args.vertices.now c.requires.rising) in
    sym (rising_place c.args.vertices.now c.args.vertex c.in-Ok.place c.requires.rising found.0 found.1)

pub returns-in-Err : goal.returns-in-Err
returns-in-Err c =
    let found = searched c.args.vertices.now c.args.vertex (Err c.in-Err.place) c.in-Err.ensures.position (rising_le c.args.vertices.now c.requires.rising) in
    absurd (not_missed c.args.vertices.now c.args.vertex c.in-Err.place c.requires.there found.1 found.2)
