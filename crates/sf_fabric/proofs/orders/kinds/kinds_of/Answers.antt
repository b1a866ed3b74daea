use Rattle.std.proofs.Common.{ℕ, ◌+◌, ◌<◌, [], ◌++◌, List, length, get_or, drop, arith, sym, ap, subst, ◌∙◌}
use Rattle.std.specs.Prelude.{filter}
use Rattle.std.specs.List.{AllByRecursion}
use Rattle.sf_defs.specs.declared.Op.TheVariants.{Load}
use Rattle.sf_defs.specs.declared.Ask.{Ask}
use Rattle.sf_defs.specs.Rounds.{asks_on}
use Rattle.sf_fabric.specs.orders.Places.{is_on, then_kind}
use Rattle.sf_fabric.proofs.orders.Entered.{rank_asks, asks_on-rank}
use Rattle.sf_fabric.proofs.orders.kinds.kinds_of.Goals as goal

pub note_kinds-requires : goal.note_kinds-requires
note_kinds-requires c =
    subst (λ (asks : List Ask). AllByRecursion (λ (a : Ask). a.word < length c.loop-rank.kinds.items) asks) (sym c.list.ensures)
    (subst (λ (n : ℕ). AllByRecursion (λ (a : Ask). a.word < n) (get_or c.args.asks.now c.loop-rank.rank [])) (sym c.loop-rank.invariant.count) (rank_asks (λ (a : Ask). a.word < c.args.words) c.args.asks.now c.loop-rank.rank c.requires (omega arith)))

pub loop-rank-preserved : goal.loop-rank-preserved
loop-rank-preserved c =
    record {
      count = c.note_kinds.ensures.length ∙ c.loop-rank.invariant.count;
      rest = λ w. c.note_kinds.ensures.kinds w (asks_on w (drop (c.loop-rank.rank + 1) c.args.asks.now))
          ∙ ap (λ (asks : List Ask). then_kind (get_or c.loop-rank.kinds.items w Load) (filter (is_on w) asks ++ asks_on w (drop (c.loop-rank.rank + 1) c.args.asks.now))) c.list.ensures
          ∙ ap (then_kind (get_or c.loop-rank.kinds.items w Load)) (sym (asks_on-rank w c.loop-rank.rank c.args.asks.now (omega arith)))
          ∙ c.loop-rank.invariant.rest w;
    }
