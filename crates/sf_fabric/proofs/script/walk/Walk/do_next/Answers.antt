use Rattle.std.proofs.Common.{◌<◌, [], List, length, get_or, arith, sym, ap, subst, ◌∙◌}
use Rattle.std.proofs.lemmas.List.{get_or_past}
use Rattle.plain_lists.proofs.Each.{all_at}
use Rattle.sf_defs.specs.declared.Ask.{Ask}
use Rattle.sf_fabric.proofs.orders.Entered.{rank_asks}
use Rattle.sf_fabric.specs.script.Walks.{done}
use Rattle.sf_fabric.proofs.script.Ends.{none, next-some, next-none}
use Rattle.sf_fabric.proofs.script.walk.Walk.do_next.Goals as goal

pub returns-then-rank-len-clause-at : goal.returns-then-rank-len-clause-at
returns-then-rank-len-clause-at c =
    let gone = ap (length {A = Ask}) (get_or_past c.args.asks.now c.args.rank [] (omega arith)) in
    sym (next-none c.args.asks.now c.args.self.now.at c.args.rank (omega arith))

pub fetch-requires-clause-word : goal.fetch-requires-clause-word
fetch-requires-clause-word c =
    let own = ap (length {A = Ask}) c.list-own.ensures in
    subst (λ (asks : List Ask). (get_or asks c.fetched-next.result none).word < length c.args.self.now.at.words) (sym c.list-own.ensures)
    (all_at (λ (a : Ask). a.word < length c.args.self.now.at.words) (get_or c.args.asks.now c.args.rank []) c.fetched-next.result none
    (rank_asks (λ (a : Ask). a.word < length c.args.self.now.at.words) c.args.asks.now c.args.rank c.requires.in_range (omega arith)) (omega arith))

pub returns-then-next-own-clause-at : goal.returns-then-next-own-clause-at
returns-then-next-own-clause-at c =
    let own = ap (length {A = Ask}) c.list-own.ensures in
    c.fetch.ensures.at
    ∙ (λ i. done c.args.self.now.at c.args.rank (get_or (c.list-own.ensures i) (c.fetched-next.ensures i) none))
    ∙ sym (next-some c.args.asks.now c.args.self.now.at c.args.rank (omega arith))

pub returns-else-next-own-clause-at : goal.returns-else-next-own-clause-at
returns-else-next-own-clause-at c =
    let own = ap (length {A = Ask}) c.list-own.ensures in
    sym (next-none c.args.asks.now c.args.self.now.at c.args.rank (omega arith))
