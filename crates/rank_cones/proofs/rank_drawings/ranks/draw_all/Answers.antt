use Rattle.std.proofs.Common.{◌≡◌, List, map, length, sym, ap, ◌∙◌, arith}
use Rattle.std.proofs.lemmas.List.{take_at}
use Rattle.std.proofs.lemmas.Result.{IfOk-weaker}
use Rattle.plain_lists.specs.Vectors.{lists_of}
use Rattle.rank_cones.specs.rank_drawings.Told.{IsDrawing}
use Rattle.rank_cones.specs.declared.rank_drawings.desks.Desk.{Desk}
use Rattle.rank_cones.proofs.rank_drawings.AllRanks.{desks-many, told-at, all-drawn, some-weaker}
use Rattle.rank_cones.proofs.rank_drawings.ranks.draw_all.Goals as goal

pub each_rank-requires-clause-few : goal.each_rank-requires-clause-few
each_rank-requires-clause-few g c κs within =
    let before : List Desk = c.deref_mut.result.now in
    let lie : map (λ (d : Desk). d.arrangements.items) before ≡ lists_of c.args.arrangements.items = ap (map (λ (d : Desk). d.arrangements.items)) c.deref_mut.ensures.value ∙ c.in_ok-desks.ensures in
    let all = c.requires in
    omega (arith, desks-many c.args.shared.now (lists_of c.args.keys.now) before (lists_of c.args.arrangements.items) lie all.m all.dofs all.a all.n all.are, all.are.shared.assignment.few_ranks)

pub each_rank-requires-clause-accepts : goal.each_rank-requires-clause-accepts
each_rank-requires-clause-accepts g c κs within = λ rank d low.
    let before : List Desk = c.deref_mut.result.now in
    let lie : map (λ (d : Desk). d.arrangements.items) before ≡ lists_of c.args.arrangements.items = ap (map (λ (d : Desk). d.arrangements.items)) c.deref_mut.ensures.value ∙ c.in_ok-desks.ensures in
    let all = c.requires in
    let many = desks-many c.args.shared.now (lists_of c.args.keys.now) before (lists_of c.args.arrangements.items) lie all.m all.dofs all.a all.n all.are in
    record {
      m = all.m;
      dofs = all.dofs;
      a = all.a;
      n = all.n;
      told = told-at c.args.shared.now (lists_of c.args.keys.now) before (lists_of c.args.arrangements.items) lie all.m all.dofs all.a all.n all.are rank d (omega (arith, low, many));
      dim_is = c.dim_of_mesh.ensures all.m all.dofs all.a all.n all.are.shared;
    }

pub returns : goal.returns
returns g c =
    let before : List Desk = c.deref_mut.result.now in
    let after : List Desk = c.each_rank.new.items in
    let lie : map (λ (d : Desk). d.arrangements.items) before ≡ lists_of c.args.arrangements.items = ap (map (λ (d : Desk). d.arrangements.items)) c.deref_mut.ensures.value ∙ c.in_ok-desks.ensures in
    let same : length after ≡ length before = c.each_rank.ensures.count in
    let long : length after ≡ c.in_ok-desks.desks.len = same ∙ ap length c.deref_mut.ensures.value ∙ sym c.in_ok-desks.desks.ok.0 in
    IfOk-weaker c.drawings_on.result _ _
    (λ v h m dofs a n are.
    let many : length before ≡ n = desks-many c.args.shared.now (lists_of c.args.keys.now) before (lists_of c.args.arrangements.items) lie m dofs a n are in
    all-drawn m a n after v.items (same ∙ many)
    (λ r d low.
    let told = told-at c.args.shared.now (lists_of c.args.keys.now) before (lists_of c.args.arrangements.items) lie m dofs a n are r d (omega (arith, low, same, many)) in
    some-weaker _ (IsDrawing m a r) _ (λ x drawn. drawn m dofs a n told (c.dim_of_mesh.ensures m dofs a n are.shared)) (c.each_rank.ensures.changes r d (omega (arith, low, same))))
    (ap (map (λ (d : Desk). d.drawing)) (sym (take_at after _ c.in_ok-desks.desks.len long)) ∙ h))
    c.drawings_on.ensures
