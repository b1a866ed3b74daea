use Rattle.input_laws.proofs.written_laws.NumberTexts.{uint-back, int-back, fixed-back}
use Rattle.input_laws.proofs.written_laws.written_numbers_are_read_back.Goals as goal

pub returns-clause-unsigned : goal.returns-clause-unsigned
returns-clause-unsigned c = uint-back

pub returns-clause-signed : goal.returns-clause-signed
returns-clause-signed c = int-back

pub returns-clause-fixed : goal.returns-clause-fixed
returns-clause-fixed c = fixed-back
