use Rattle.std.proofs.Common.{◌≡◌, length, sym, ap, ◌∙◌, arith}
use Rattle.std.proofs.lemmas.List.{take_at}
use Rattle.std.proofs.lemmas.Result.{IfOk-weaker}
use Rattle.interp_share.proofs.rank_points.Filling.{all-filled}
use Rattle.interp_share.proofs.rank_points.ranks.see_all.Goals as goal

pub returns : goal.returns
returns g c =
    let parts = c.args.scatter.now.parts in
    let slots = c.each_rank.new.items in
    let same : length slots ≡ length c.in_ok-slots.slots.items = c.each_rank.ensures.count ∙ ap length c.deref_mut.ensures.value in
    let ranks : length c.in_ok-slots.slots.items ≡ c.ranks.result = c.in_ok-slots.ensures in
    let long : length slots ≡ c.in_ok-slots.slots.len = same ∙ sym c.in_ok-slots.slots.ok.0 in
    IfOk-weaker c.filled_slots.result _ _
    (λ v h. all-filled parts slots v.items (same ∙ ranks ∙ c.ranks.ensures.ranks) (λ r d low. c.each_rank.ensures.changes r d (omega (arith, low, c.each_rank.ensures.count))) (sym (take_at slots _ c.in_ok-slots.slots.len long) ∙ h))
    c.filled_slots.ensures
