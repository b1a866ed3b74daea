use Rattle.mesh_check.proofs.accepted_laws.WithoutLoose.{same-mesh}
use Rattle.mesh_check.proofs.accepted_laws.loose_elements_may_go.Goals as goal

pub returns : goal.returns
returns c content m right named h = same-mesh content right m named h
