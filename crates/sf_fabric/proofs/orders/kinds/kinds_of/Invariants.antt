use Rattle.std.proofs.Common.{◌≡◌, ℕ, length, get_or, drop}
use Rattle.sf_defs.specs.declared.Op.TheVariants.{Load}
use Rattle.sf_defs.specs.PrintedOrder.{kind_of}
use Rattle.sf_defs.specs.Rounds.{asks_on}
use Rattle.sf_fabric.specs.orders.Places.{then_kind}
use Rattle.sf_fabric.proofs.orders.kinds.kinds_of.Given as goal

abbrev pub invariant-loop-rank : goal.invariant-loop-rank
invariant-loop-rank l = record {
  count : length l.kinds.items ≡ l.words;
  rest : (w : ℕ) → then_kind (get_or l.kinds.items w Load) (asks_on w (drop l.rank l.asks)) ≡ kind_of (asks_on w l.asks);
}
