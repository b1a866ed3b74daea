use Rattle.report.proofs.report_lines.Appending.{words_text-by}
use Rattle.report.proofs.report_lines.words.append_words.Goals as goal

pub returns : goal.returns
returns c =
    let told = rw c.from.ensures at c.append_words_by.ensures in
    rw (words_text-by c.args.sections c.args.i c.args.words.now) told
