use Rattle.input_laws.proofs.LocalBytes.{fault-local, last-local}
use Rattle.input_laws.proofs.fault_is_local.Goals as goal

pub returns-clause-before_the_last_line : goal.returns-clause-before_the_last_line
returns-clause-before_the_last_line c = fault-local

pub returns-clause-on_the_last_line : goal.returns-clause-on_the_last_line
returns-clause-on_the_last_line c = last-local
