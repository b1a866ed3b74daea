use Rattle.headline_laws.proofs.Charted.{some-charted}
use Rattle.headline_laws.proofs.Cones.{chart-number, cone-numbers, printed-numbers}
use Rattle.headline_laws.proofs.cones_name_printed_numbers.Goals as goal

pub returns : goal.returns
returns c = record {
  points = chart-number;
  sound = λ m n ranks layers bases p good parts h. chart-number m n ranks layers bases p parts (some-charted m good p h);
  cones = cone-numbers;
  printed = λ m n ranks layers bases x dim. printed-numbers m n ranks layers bases dim x;
}
