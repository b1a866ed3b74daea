use Rattle.std.proofs.Common.{◌+◌, [], ◌∷◌, ◌++◌, length, get_or, refl, sym, ap, ◌∙◌, arith}
use Rattle.std.proofs.lemmas.List.{length-set}
use Rattle.atomic_table.specs.Table.{Me}
use Rattle.sf_defs.specs.declared.Op.TheVariants.{Load}
use Rattle.sf_defs.specs.declared.Ask.{Ask}
use Rattle.sf_threads.specs.declared.thread_rule.view.View.{View}
use Rattle.sf_threads.specs.thread_rule.Rule.{view}
use Rattle.sf_threads.proofs.Done.{dones-more, dones-none}
use Rattle.sf_threads.proofs.asking.do_asks.Goals as goal

-- an ask that is not there
abbrev no_ask : Ask
no_ask = record { word = 0; op = Load; value = 0 }

pub loop-i-init : goal.loop-i-init
loop-i-init g c = (refl, refl, c.requires.got, c.requires.seat ∙ ap (λ done. (view c.args.rank (c.args.rank + 1) done, [])) (sym (dones-none c.args.rank)))

pub loop-i-preserved : goal.loop-i-preserved
loop-i-preserved g c = (
  c.do_ask.ensures.same.0 ∙ c.loop-i.invariant.0,
  c.do_ask.ensures.same.1 ∙ c.loop-i.invariant.1,
  length-set c.loop-i.got c.loop-i.i c.do_ask.result ∙ c.loop-i.invariant.2,
  c.do_ask.ensures.done
      ∙ (ap (λ (m : Me (Unit {0}) View). (view m.0.first m.0.end (m.0.done ++ record { rank = m.0.first; index = length m.0.done; ask = get_or c.args.asks.now c.loop-i.i no_ask; got = c.do_ask.result } ∷ []), [])) c.loop-i.invariant.3
      ∙ ap (λ done. (view c.args.rank (c.args.rank + 1) done, [])) (sym (dones-more c.args.rank c.loop-i.i c.do_ask.result c.args.asks.now c.loop-i.got no_ask (omega (arith, c.loop-i-test.true)) c.loop-i.invariant.2))),
)
