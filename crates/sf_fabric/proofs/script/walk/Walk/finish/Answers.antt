use Rattle.std.proofs.Common.{◌≡◌, ℕ, ◌+◌, ◌<◌, ◌≤◌, [], length, get_or, arith, sym, ap, subst, ◌∙◌, ⊎_elim}
use Rattle.std.proofs.lemmas.Bool.{cases_lt}
use Rattle.sf_defs.specs.declared.Ask.{Ask}
use Rattle.sf_fabric.specs.script.Walks.{Standing, ending}
use Rattle.sf_fabric.proofs.script.Ends.{ending-least, next-ranks, next-words, next-others, next-own}
use Rattle.sf_fabric.proofs.script.walk.Walk.finish.Goals as goal

pub loop-self-preserved : goal.loop-self-preserved
loop-self-preserved c =
    let is = c.do_next.ensures.at in
    record {
      ranks = ap (λ (s : Standing). length s.got) is ∙ next-ranks c.args.asks.now c.loop-self.self.at c.args.rank ∙ c.loop-self.invariant.ranks;
      rooms = c.do_next.ensures.rooms ∙ c.loop-self.invariant.rooms;
      words = ap (λ (s : Standing). length s.words) is ∙ next-words c.args.asks.now c.loop-self.self.at c.args.rank ∙ c.loop-self.invariant.words;
      before = λ k lt. subst (λ (n : ℕ). length (get_or c.args.asks.now k []) ≤ n) (sym (ap (λ (s : Standing). length (get_or s.got k [])) is ∙ ap length (next-others c.args.asks.now c.loop-self.self.at c.args.rank k (λ e. omega arith)))) (c.loop-self.invariant.before k lt);
      ending = ap (λ (s : Standing). ending c.args.asks.now s []) is ∙ ending-least c.args.asks.now c.loop-self.self.at c.args.rank c.loop-self.invariant.ranks c.loop-self.invariant.before ∙ c.loop-self.invariant.ending;
    }

pub loop-self-smaller : goal.loop-self-smaller
loop-self-smaller c =
    let own = ap (length {A = Ask}) c.list.ensures in
    let some : length (get_or c.loop-self.self.at.got c.args.rank []) < length (get_or c.args.asks.now c.args.rank []) = omega arith in
    let more : length (get_or c.do_next.new.self.at.got c.args.rank []) ≡ length (get_or c.loop-self.self.at.got c.args.rank []) + 1 = ap (λ (s : Standing). length (get_or s.got c.args.rank [])) c.do_next.ensures.at ∙ next-own c.args.asks.now c.loop-self.self.at c.args.rank (omega arith) some in
    omega arith

pub returns-clause-upto : goal.returns-clause-upto
returns-clause-upto c =
    let own = ap (length {A = Ask}) c.list.ensures in
    λ k lt. ⊎_elim (λ below. c.loop-self.invariant.before k below) (λ here. let at : c.args.rank ≡ k = omega arith in subst (λ (r : ℕ). length (get_or c.args.asks.now r []) ≤ length (get_or c.loop-self.self.at.got r [])) at (omega arith)) (cases_lt k c.args.rank)
