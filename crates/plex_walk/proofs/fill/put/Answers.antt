use Rattle.std.proofs.Common.{◌≡◌, ◌+◌, true, false, take, sym, ◌∙◌}
use Rattle.std.specs.Prelude.{pos}
use Rattle.plex_defs.specs.Closure.{covers}
use Rattle.plex_walk.specs.Filling.{IsPut}
use Rattle.plex_walk.proofs.Putting.{entry_of, put-again, put-more, covers-part, covers-of}
use Rattle.plex_walk.proofs.fill.put.Goals as goal
use Rattle.plex_walk.proofs.fill.put.Goals.{then-not-is_there, else-not-is_there}

pub loop-k-preserved : goal.loop-k-preserved
loop-k-preserved c =
    let cone = c.args.cone.now in
    let k = c.loop-k.k in
    elim c.if-not-is_there.branch as (λ _. IsPut c.args.q (take (k + 1) cone) c.args.ends.now c.args.points.now c.if-not-is_there.ends c.if-not-is_there.points) [
      | then-not-is_there w ↦
          let new : covers (take k cone) (entry_of cone k).point ≡ false = sym c.is_there.ensures ∙ w.if-not-is_there.true in
          rw (w.ends-is, w.points-is)
          (put-more c.args.q cone k c.args.ends.now c.args.points.now c.loop-k.ends c.loop-k.points c.loop-k-test.true new
          (c.requires.entries k (record { point = 0; o = pos 0 }) c.loop-k-test.true) (covers-of cone k c.loop-k-test.true) (λ p h. covers-part cone k p h) c.requires.room c.loop-k.invariant)
      | else-not-is_there w ↦
          let again : covers (take k cone) (entry_of cone k).point ≡ true = sym c.is_there.ensures ∙ w.if-not-is_there.false in
          rw (w.ends-is, w.points-is) (put-again c.args.q cone k c.args.ends.now c.args.points.now c.loop-k.ends c.loop-k.points c.loop-k-test.true again c.loop-k.invariant)
    ]
