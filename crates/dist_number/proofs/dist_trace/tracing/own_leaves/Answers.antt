use Rattle.std.proofs.Common.{◌<◌, length, sym, ap, ◌∙◌, arith}
use Rattle.dist_number.proofs.dist_trace.Traces.{own-yes, own-no}
use Rattle.dist_number.proofs.dist_trace.tracing.own_leaves.Goals as goal
use Rattle.dist_number.proofs.dist_trace.tracing.own_leaves.Goals.{then-owner-rank+in_ok-push, else-owner-rank}

pub loop-p-preserved : goal.loop-p-preserved
loop-p-preserved c =
    let owners = c.args.local.now.owners in
    let low : c.loop-p.p < length owners = omega (arith, c.loop-p-test.true, c.chart-p-end.ensures.count, c.plex.ensures.whole.owners, ap (λ g. length g.points) c.plex.ensures.plex) in
    elim c.if-owner-rank.branch [
      | then-owner-rank+in_ok-push w ↦
          ap (λ v. v.items) w.leaves-is ∙ own-yes c.args.rank owners c.loop-p.p c.loop-p.leaves.items w.push.new.self.items low (sym c.owner.ensures ∙ w.if-owner-rank.true) c.loop-p.invariant w.in_ok-push.ensures.items
      | else-owner-rank w ↦ ap (λ v. v.items) w.leaves-is ∙ own-no c.args.rank owners c.loop-p.p c.loop-p.leaves.items low (λ e. w.if-owner-rank.false (c.owner.ensures ∙ e)) c.loop-p.invariant
    ]
