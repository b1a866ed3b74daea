use Rattle.std.proofs.Common.{sym, ◌∙◌}
use Rattle.input_defs.specs.DataSections.{faults_at}
use Rattle.input_laws.specs.reading_laws.Lexemes.{beyond, end_line}
use Rattle.input_laws.proofs.reading_laws.Quoting.{quoted-ok, quoted-err, beyond-quoted}
use Rattle.msh_data.proofs.msh_body.texts.quoted.Goals as goal

pub returns-in-Ok : goal.returns-in-Ok
returns-in-Ok c = record {
  stays = beyond-quoted _ _ _ c.quoted.ensures.ahead c.quoted.ensures.bytes;
  reads = quoted-ok (faults_at (end_line (beyond c.args.scan.now))) _ _ c.in-Ok.token _ (sym c.in-Ok.is ∙ c.quoted.ensures.by_items) c.in-Ok.ensures.ahead c.quoted.ensures.bytes c.text.ensures;
  stands = tt;
}

pub returns-in_ok-next_word-in-Err : goal.returns-in_ok-next_word-in-Err
returns-in_ok-next_word-in-Err c = record {
  stays = c.next_word.ensures.stays ∙ beyond-quoted _ _ _ c.quoted.ensures.ahead c.quoted.ensures.bytes;
  reads = λ ne. quoted-err (faults_at (end_line (beyond c.args.scan.now))) _ c.quoted.new.self c.in-Err.line _ _ _ (sym c.in-Err.is ∙ c.quoted.ensures.by_items) c.in-Err.ensures.ahead c.quoted.ensures.bytes c.in_ok-next_word-in-Err.ensures.next;
  stands = λ e. absurd (cc e);
}
