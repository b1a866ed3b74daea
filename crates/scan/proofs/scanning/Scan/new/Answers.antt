use Rattle.scan.proofs.Places.{at-start}
use Rattle.scan.proofs.scanning.Scan.new.Goals as goal

pub invariant_of-result : goal.invariant_of-result
invariant_of-result c = record { short = c.requires; is_at = at-start c.args.bytes.now }
