use Rattle.std.proofs.Common.{sym, ap, ◌∙◌, Ok}
use Rattle.input_defs.specs.declared.DataFault.TheVariants.{BadCount}
use Rattle.input_defs.specs.DataSections.{faults_at}
use Rattle.input_laws.specs.reading_laws.Lexemes.{lexemes, beyond, end_line}
use Rattle.input_laws.proofs.reading_laws.Readers.{end-ok}
use Rattle.msh_data.proofs.msh_body.tokens.end_of_body.Goals as goal

pub returns-in-Err-clause-goes : goal.returns-in-Err-clause-goes
returns-in-Err-clause-goes c = record {
  stays = c.next_word.ensures.stays;
  reads = end-ok BadCount (faults_at (end_line (beyond c.args.scan.now))) (lexemes c.args.scan.now) c.in-Err.ensures.nothing ∙ ap (λ left. Ok (tt, left)) (c.in-Err.ensures.nothing ∙ sym c.in-Err.ensures.left);
  stands = tt;
}
