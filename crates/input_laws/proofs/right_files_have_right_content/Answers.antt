use Rattle.input_laws.proofs.RightFiles.{content-right}
use Rattle.input_laws.proofs.right_files_have_right_content.Goals as goal

pub returns : goal.returns
returns c = content-right
