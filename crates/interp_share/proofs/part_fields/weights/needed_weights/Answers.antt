use Rattle.std.proofs.Common.{◌≡◌, ℕ, List, Vec, Global, map, sym, ap, subst, ◌∙◌}
use Rattle.std.proofs.lemmas.Result.{IfOk-weaker}
use Rattle.plain_lists.specs.Vectors.{lists_of}
use Rattle.sf_ops.specs.Asked.{AreRootValues, CoverLeaves}
use Rattle.sf_defs.specs.sums.Sums.{AreSums, SumsFit}
use Rattle.interp_share.specs.own_field_laws.Own.{part_weights}
use Rattle.interp_share.specs.part_fields.Ranks.{AreNeeded}
use Rattle.interp_share.proofs.part_fields.Totals.{part-roots, part-leaves, part-sums_fit, sums-needed}
use Rattle.interp_share.proofs.part_fields.weights.needed_weights.Goals as goal

pub sum_copies-requires-clause-places : goal.sum_copies-requires-clause-places
sum_copies-requires-clause-places g c =
    let s = c.args.scatter.now in
    let f = c.args.forest.now in
    subst (AreRootValues f) (sym (ap (λ l. lists_of l) c.deref.ensures.value ∙ c.in_ok-own.ensures)) (part-roots s f c.requires.shared)

pub sum_copies-requires-clause-leaves : goal.sum_copies-requires-clause-leaves
sum_copies-requires-clause-leaves g c =
    let s = c.args.scatter.now in
    let f = c.args.forest.now in
    subst (CoverLeaves f) (sym (ap (λ l. lists_of l) c.deref.ensures.value ∙ c.in_ok-own.ensures)) (part-leaves s f c.requires.shared)

pub sum_copies-requires-clause-fit : goal.sum_copies-requires-clause-fit
sum_copies-requires-clause-fit g c =
    let s = c.args.scatter.now in
    let f = c.args.forest.now in
    subst (SumsFit f) (sym (ap (λ l. lists_of l) c.deref.ensures.value ∙ c.in_ok-own.ensures)) (part-sums_fit s f c.requires.shared)

pub returns-clause-weights : goal.returns-clause-weights
returns-clause-weights g c =
    let s = c.args.scatter.now in
    let f = c.args.forest.now in
    let same : lists_of c.deref.result.now ≡ map part_weights s.parts = ap (λ l. lists_of l) c.deref.ensures.value ∙ c.in_ok-own.ensures in
    IfOk-weaker c.sum_copies.result (λ (w : Vec (Vec ℕ Global) Global). AreSums f (lists_of c.deref.result.now) (lists_of w.items)) (λ (w : Vec (Vec ℕ Global) Global). AreNeeded s (lists_of w.items))
    (λ w h. sums-needed s f c.requires.shared (lists_of w.items) (subst (λ (l : List (List ℕ)). AreSums f l (lists_of w.items)) same h)) c.sum_copies.ensures.sums
