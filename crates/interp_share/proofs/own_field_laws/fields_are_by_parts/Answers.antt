use Rattle.interp_share.proofs.own_field_laws.Words.{fields-by_part}
use Rattle.interp_share.proofs.own_field_laws.fields_are_by_parts.Goals as goal

pub returns : goal.returns
returns c = λ m dofs a r right counts. fields-by_part m right a r dofs
