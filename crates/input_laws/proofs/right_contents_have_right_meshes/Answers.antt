use Rattle.input_laws.proofs.RightFiles.{content-right}
use Rattle.input_laws.proofs.RightAccepted.{right-accepted}
use Rattle.input_laws.proofs.right_contents_have_right_meshes.Goals as goal

pub returns : goal.returns
returns c = record { contents = right-accepted; files = λ bytes content m read accepted. right-accepted content m (content-right bytes content read) accepted }
