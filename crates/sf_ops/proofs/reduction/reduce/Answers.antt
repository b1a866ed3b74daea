use Rattle.plain_lists.specs.Vectors.{lists_of}
use Rattle.sf_ops.specs.Asked.{asks_of, words_of}
use Rattle.sf_ops.proofs.Folds.{AreFolds-legal}
use Rattle.sf_ops.proofs.reduction.reduce.Goals as goal

pub returns-clause-folds : goal.returns-clause-folds
returns-clause-folds g c =
    let ok = c.in_ok-fetch_and_op.ensures in
    AreFolds-legal c.in_ok-fetch_and_op.field-0 (asks_of c.args.forest.now c.args.op (lists_of c.args.leaves.now)) (words_of (lists_of c.args.roots.now)) (words_of (lists_of c.fetch_and_op.new.roots)) ok.legal ok.before ok.asks ok.after
