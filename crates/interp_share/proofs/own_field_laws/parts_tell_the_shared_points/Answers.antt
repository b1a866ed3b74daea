use Rattle.interp_share.proofs.own_field_laws.Forests.{forest-of_parts}
use Rattle.interp_share.proofs.own_field_laws.parts_tell_the_shared_points.Goals as goal

pub returns : goal.returns
returns c = forest-of_parts
