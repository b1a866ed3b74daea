use Rattle.input_laws.proofs.written_laws.WrittenFiles.{written-back}
use Rattle.input_laws.proofs.written_laws.written_content_is_read_back.Goals as goal

pub returns : goal.returns
returns c = written-back
