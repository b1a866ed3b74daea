use Rattle.std.proofs.Common.{◌≡◌, ℕ, ◌++◌, List, length, get_or, drop}
use Rattle.std.specs.Prelude.{filter}
use Rattle.sf_defs.specs.declared.Op.TheVariants.{Load}
use Rattle.sf_defs.specs.declared.Ask.{Ask}
use Rattle.sf_fabric.specs.orders.Places.{is_on, then_kind}
use Rattle.sf_fabric.proofs.orders.kinds.note_kinds.Given as goal

abbrev pub invariant-loop-ask : goal.invariant-loop-ask
invariant-loop-ask l = record {
  length : length l.kinds.items ≡ length l.initial.kinds.items;
  kinds : (w : ℕ) (rest : List Ask) → then_kind (get_or l.kinds.items w Load) (filter (is_on w) (drop l.ask-index l.asks) ++ rest) ≡ then_kind (get_or l.initial.kinds.items w Load) (filter (is_on w) l.asks ++ rest);
}
