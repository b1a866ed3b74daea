use Rattle.std.proofs.Common.{◌≡◌, ℕ, List, [], ◌∷◌, ◌++◌, get_or, sym, ◌∙◌, arith}
use Rattle.std.proofs.lemmas.List.{length-set, take_more, take_more_set}
use Rattle.std.specs.Mem.Slots.{slots_items}
use Rattle.sf_threads.proofs.Found.{found-at, found-within}
use Rattle.sf_threads.proofs.play.read_words.Goals as goal

pub loop-i-preserved : goal.loop-i-preserved
loop-i-preserved c =
    let items : List ℕ = slots_items c.args.closed.now.words in
    let found : get_or items c.loop-i.i 0 ≡ c.word.result = found-at items c.loop-i.i c.word.result 0 c.word.ensures in (
      length-set c.loop-i.after c.loop-i.i c.word.result ∙ c.loop-i.invariant.0,
      take_more_set c.loop-i.after c.loop-i.i c.word.result (omega (arith, c.loop-i-test.true, c.loop-i.invariant.0)) ∙ (λ k. c.loop-i.invariant.1 k ++ sym found k ∷ [])
          ∙ sym (take_more items c.loop-i.i 0 (found-within items c.loop-i.i c.word.result c.word.ensures)),
    )
