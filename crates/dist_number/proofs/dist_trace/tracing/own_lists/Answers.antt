use Rattle.std.proofs.Common.{◌≡◌, ◌+◌, ◌<◌, ◌^◌, [], ◌∷◌, ◌++◌, map, length, sym, ap, ◌∙◌, arith}
use Rattle.std.specs.Prelude.{sum_by}
use Rattle.std.specs.List.{enumerate_from}
use Rattle.std.proofs.lemmas.List.{map-append, take_all}
use Rattle.std.proofs.lemmas.List.FromFn.{length-enumerate_from}
use Rattle.std.proofs.lemmas.List.Sums.{sum_by_push}
use Rattle.plain_lists.specs.Vectors.{lists_of}
use Rattle.dist_number.specs.dist_trace.Own.{own_list}
use Rattle.dist_number.proofs.dist_trace.Traces.{list-more}
use Rattle.dist_number.proofs.dist_trace.tracing.own_lists.Goals as goal

pub loop-rank-preserved : goal.loop-rank-preserved
loop-rank-preserved c =
    let locals = c.args.d.now.locals in
    let k = c.loop-rank.rank in
    let before = c.loop-rank.lists.items in
    let leaves = c.in_ok-leaves.leaves in
    let pushed : lists_of c.push.new.self.items ≡ lists_of before ++ leaves.items ∷ [] = ap lists_of c.in_ok-push.ensures.items ∙ map-append (λ v. v.items) before (leaves ∷ []) in
    let size : c.len-total.result ≡ length leaves.items = omega (arith, c.len-total.ensures, leaves.ok.0) in
    let room : c.loop-rank.total + c.len-total.result < 2 ^ 32 = omega (arith, c.if-len-total.false, c.len.ensures, c.len-total.ensures, c.loop-rank.invariant.2) in (
      pushed ∙ (λ i. c.loop-rank.invariant.0 i ++ c.in_ok-leaves.ensures i ∷ []) ∙ sym (list-more locals k c.local.result.now c.local.ensures),
      ap (sum_by length) pushed ∙ sum_by_push length (lists_of before) leaves.items ∙ (λ i. c.loop-rank.invariant.1 i + sym size i),
      room,
    )

pub returns-clause-lists : goal.returns-clause-lists
returns-clause-lists c =
    let locals = c.args.d.now.locals in
    c.loop-rank.invariant.0 ∙ ap (map own_list) (take_all c.loop-rank.rank (enumerate_from 0 locals) (omega (arith, c.loop-rank-test.false, c.ranks-rank-end.ensures.ranks, length-enumerate_from 0 locals)))
