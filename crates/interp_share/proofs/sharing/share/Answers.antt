use Rattle.std.proofs.Common.{sym, ◌∙◌, subst, arith}
use Rattle.rank_defs.specs.Spread.{PlainShared, IsShared}
use Rattle.interp_share.proofs.rank_points.Own.{parts-fit}
use Rattle.interp_share.proofs.Whole.{is-whole, is-shared, locals-seen}
use Rattle.interp_share.proofs.sharing.share.Goals as goal

pub see_all-requires : goal.see_all-requires
see_all-requires g c = let (m, dofs, a, n, is) = c.requires in (c.type_bounds.sync-R, parts-fit c.args.s m dofs a n is)

pub all_fields-requires-clause-shared : goal.all_fields-requires-clause-shared
all_fields-requires-clause-shared g c =
    let (m, dofs, a, n, is) = c.requires in
    record { some = record { m = m; dofs = dofs; a = a; n = n; is = is }; forest = c.in_ok-forest.ensures.forest m dofs a n is }

pub all_fields-requires-clause-locals : goal.all_fields-requires-clause-locals
all_fields-requires-clause-locals g c = locals-seen c.args.s.parts c.deref-2.result.now (c.deref-2.ensures.value ∙ c.in_ok-seen.ensures)

pub all_points-requires-clause-fields : goal.all_points-requires-clause-fields
all_points-requires-clause-fields g c = record { are = c.in_ok-fields.ensures.fields }

pub of-requires : goal.of-requires
of-requires g c =
    let (m, dofs, a, n, is) = c.requires in
    is-whole c.args.s m dofs a n is c.in_ok-points.points.items (c.in_ok-points.ensures.are m dofs a n is) c.in_ok-forest.forest (c.in_ok-forest.ensures.forest m dofs a n is) (omega (arith, c.sections.ensures, c.dofs.ensures))

pub returns-clause-shared : goal.returns-clause-shared
returns-clause-shared g c = λ m dofs a n is.
    subst (λ (x : PlainShared). IsShared x m dofs a n) (sym c.of.ensures)
    (is-shared c.args.s m dofs a n is c.in_ok-points.points.items (c.in_ok-points.ensures.are m dofs a n is) c.in_ok-forest.forest (c.in_ok-forest.ensures.forest m dofs a n is))
