use Rattle.std.proofs.Common.{rules, replicate, ◌≡◌, ℕ, ◌<◌, List, length, map, get_or, drop, arith, sym, ap, subst, ◌∙◌, add-one, drop-cons}
use Rattle.std.specs.List.{AllByRecursion}
use Rattle.sf_defs.specs.declared.Ask.{Ask}
use Rattle.sf_defs.specs.Rounds.{all_asks}
use Rattle.sf_fabric.specs.script.Walks.{Standing, taken, done_next, ending}
use Rattle.std.proofs.lemmas.List.{length-map}
use Rattle.sf_fabric.proofs.script.Taken.{taken-start}
use Rattle.sf_fabric.proofs.script.Ends.{empty, ending-pick, ending-end, ending-words, ending-got, next-ranks, next-words}
use Rattle.sf_fabric.proofs.script.walk.Walk.through.Goals as goal

pub loop-pick-init : goal.loop-pick-init
loop-pick-init c =
    let many : length c.in_ok-alike.field-0 ≡ length c.args.asks.now = sym (length-map c.in_ok-alike.field-0 length) ∙ ap length c.in_ok-alike.ensures.lengths ∙ length-map c.args.asks.now length in
    let zeros : c.in_ok-vec.field-0.items ≡ replicate c.len.result 0 = search rules in
    let nothing : taken c.in_ok-vec.field-0.items c.in_ok-alike.field-0 ≡ map (λ (own : List Ask). empty) c.args.asks.now =
    ap (λ (ns : List ℕ). taken ns c.in_ok-alike.field-0) zeros ∙ taken-start c.len.result c.in_ok-alike.field-0 c.args.asks.now many c.len.ensures in
    record {
      ranks = ap length nothing ∙ length-map c.args.asks.now (λ (own : List Ask). empty);
      rooms = c.in_ok-alike.ensures.lengths;
      words = ap length c.in_ok-from_slice.ensures.items;
      ending = (λ i. ending c.args.asks.now (record { words = c.in_ok-from_slice.ensures.items i; got = nothing i }) c.args.picks.now);
    }

pub do_next-requires-clause-in_range : goal.do_next-requires-clause-in_range
do_next-requires-clause-in_range c = subst (λ (n : ℕ). AllByRecursion (λ (a : Ask). a.word < n) (all_asks c.args.asks.now)) (sym c.loop-pick.invariant.words) c.requires

pub loop-pick-preserved : goal.loop-pick-preserved
loop-pick-preserved c =
    let pick : ℕ = get_or c.args.picks.now c.loop-pick.pick-index 0 in
    let is : c.do_next.new.self.at ≡ done_next c.args.asks.now c.loop-pick.walk.at pick = c.do_next.ensures.at in
    record {
      ranks = ap (λ (s : Standing). length s.got) is ∙ next-ranks c.args.asks.now c.loop-pick.walk.at pick ∙ c.loop-pick.invariant.ranks;
      rooms = c.do_next.ensures.rooms ∙ c.loop-pick.invariant.rooms;
      words = ap (λ (s : Standing). length s.words) is ∙ next-words c.args.asks.now c.loop-pick.walk.at pick ∙ c.loop-pick.invariant.words;
      ending = (λ i. ending c.args.asks.now (is i) (drop (add-one c.loop-pick.pick-index i) c.args.picks.now))
          ∙ ending-pick c.args.asks.now c.loop-pick.walk.at pick _ c.loop-pick.invariant.ranks
          ∙ ap (ending c.args.asks.now c.loop-pick.walk.at) (sym (drop-cons c.args.picks.now c.loop-pick.pick-index 0 (omega arith)))
          ∙ c.loop-pick.invariant.ending;
    }

pub finish-requires-clause-in_range : goal.finish-requires-clause-in_range
finish-requires-clause-in_range c = subst (λ (n : ℕ). AllByRecursion (λ (a : Ask). a.word < n) (all_asks c.args.asks.now)) (sym c.loop-rank.invariant.words) c.requires

pub returns-clause-words : goal.returns-clause-words
returns-clause-words c =
    ap (λ (s : Standing). s.words) (sym (ending-end c.args.asks.now c.loop-rank.walk.at (λ k lt. c.loop-rank.invariant.before k (omega arith))) ∙ c.loop-rank.invariant.ending)
    ∙ ending-words c.args.asks.now c.args.words.now c.args.picks.now

pub returns-clause-got : goal.returns-clause-got
returns-clause-got c =
    ap (λ (s : Standing). s.got) (sym (ending-end c.args.asks.now c.loop-rank.walk.at (λ k lt. c.loop-rank.invariant.before k (omega arith))) ∙ c.loop-rank.invariant.ending)
    ∙ ending-got c.args.asks.now c.args.words.now c.args.picks.now
