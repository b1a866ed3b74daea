use Rattle.report.specs.report_lines.Words.{word_text}
use Rattle.report.proofs.report_lines.Appending.{joined, appended-words}
use Rattle.report.proofs.report_lines.words.append_some.Goals as goal

pub returns : goal.returns
returns c =
    appended-words c.append_more.result _ _ _ (word_text c.args.is_data c.args.first) _ _ _ _ _ _ (joined (word_text c.args.is_data) (word_text c.args.is_data c.args.first) c.args.others.now)
    c.in_ok-append_field.ensures c.in_ok-push.ensures.items c.in_ok-append_word.ensures c.append_more.ensures
