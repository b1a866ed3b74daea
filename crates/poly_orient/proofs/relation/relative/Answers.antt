use Rattle.std.proofs.Common.{◌≡◌, ◌≢◌, ℤ, w8, Some, get_or, sym, ap, ◌∙◌, subst}
use Rattle.std.specs.Prelude.{◌==◌, IfNone}
use Rattle.std.specs.List.{position}
use Rattle.std.proofs.lemmas.Bool.{false≢true}
use Rattle.std.proofs.lemmas.Int.{to_z-of_z}
use Rattle.plain_lists.specs.Lists.{picked}
use Rattle.mesh_defs.specs.Orientation.{act}
use Rattle.poly_orient.specs.Group.{IsOrientation}
use Rattle.poly_orient.specs.Symmetries.{corners_listed, second, telling_place}
use Rattle.poly_orient.proofs.Acting.{few_symmetries}
use Rattle.poly_orient.proofs.Listed.{places_in}
use Rattle.poly_orient.proofs.Relating.{relative-leads, relative-none, act-orientation_of, act-symmetry_of, none-lost, settle-found}
use Rattle.poly_orient.proofs.relation.relative.Goals as goal
use Rattle.poly_orient.proofs.relation.relative.Goals.{After-from_residual, After-from_residual-in_err-second, After-from_residual-in_err-third, After-orientation_of, Else-leads}

-- ---- a vertex is not found

none_at_first : (c : After-from_residual) → (o : ℤ) → IsOrientation c.args.p o → act c.args.p o c.args.from.now ≢ c.args.to.now
none_at_first c = none-lost c.args.p c.args.from.now c.args.to.now 0 c.requires.from_corners c.requires.differ (places_in c.args.p).0 (sym c.place_of.ensures ∙ c.in_err-first.was)

pub returns-in_err-first-clause-value : goal.returns-in_err-first-clause-value
returns-in_err-first-clause-value c = c.from_residual.ensures ∙ sym (relative-none c.args.p c.args.from.now c.args.to.now (none_at_first c))

pub returns-in_err-first-clause-none : goal.returns-in_err-first-clause-none
returns-in_err-first-clause-none c =
    subst (λ r. IfNone r ((o : ℤ) → IsOrientation c.args.p o → act c.args.p o c.args.from.now ≢ c.args.to.now)) (sym c.from_residual.ensures) (none_at_first c)

none_at_second : (c : After-from_residual-in_err-second) → (o : ℤ) → IsOrientation c.args.p o → act c.args.p o c.args.from.now ≢ c.args.to.now
none_at_second c =
    none-lost c.args.p c.args.from.now c.args.to.now (second c.args.p) c.requires.from_corners c.requires.differ (places_in c.args.p).1
    (ap (λ k. position (λ v. v == get_or c.args.to.now k 0) c.args.from.now) (sym c.second.ensures.second) ∙ sym c.place_of-2.ensures ∙ c.in_err-second.was)

pub returns-in_err-second-clause-value : goal.returns-in_err-second-clause-value
returns-in_err-second-clause-value c = c.from_residual-in_err-second.ensures ∙ sym (relative-none c.args.p c.args.from.now c.args.to.now (none_at_second c))

pub returns-in_err-second-clause-none : goal.returns-in_err-second-clause-none
returns-in_err-second-clause-none c =
    subst (λ r. IfNone r ((o : ℤ) → IsOrientation c.args.p o → act c.args.p o c.args.from.now ≢ c.args.to.now)) (sym c.from_residual-in_err-second.ensures) (none_at_second c)

none_at_third : (c : After-from_residual-in_err-third) → (o : ℤ) → IsOrientation c.args.p o → act c.args.p o c.args.from.now ≢ c.args.to.now
none_at_third c =
    none-lost c.args.p c.args.from.now c.args.to.now (telling_place c.args.p) c.requires.from_corners c.requires.differ (places_in c.args.p).2
    (ap (λ k. position (λ v. v == get_or c.args.to.now k 0) c.args.from.now) (sym c.telling_place.ensures.place) ∙ sym c.place_of-3.ensures ∙ c.in_err-third.was)

pub returns-in_err-third-clause-value : goal.returns-in_err-third-clause-value
returns-in_err-third-clause-value c = c.from_residual-in_err-third.ensures ∙ sym (relative-none c.args.p c.args.from.now c.args.to.now (none_at_third c))

pub returns-in_err-third-clause-none : goal.returns-in_err-third-clause-none
returns-in_err-third-clause-none c =
    subst (λ r. IfNone r ((o : ℤ) → IsOrientation c.args.p o → act c.args.p o c.args.from.now ≢ c.args.to.now)) (sym c.from_residual-in_err-third.ensures) (none_at_third c)

-- ---- the settled symmetry leads there

pub orientation_of-requires : goal.orientation_of-requires
orientation_of-requires c = few_symmetries c.args.p c.settle-symmetry.result c.settle-symmetry.ensures.has

-- the answer
answer_leads : (c : After-orientation_of) → IsOrientation c.args.p c.orientation_of.result × (act c.args.p c.orientation_of.result c.args.from.now ≡ c.args.to.now)
answer_leads c = (
  c.orientation_of.ensures.of_each c.args.p c.settle-symmetry.ensures.has,
  ap (λ o. act c.args.p o c.args.from.now) c.orientation_of.ensures.number ∙ act-orientation_of c.args.p c.settle-symmetry.result c.args.from.now ∙ c.leads.ensures.0 c.if-leads.true,
)

pub returns-then-leads-clause-some : goal.returns-then-leads-clause-some
returns-then-leads-clause-some c =
    subst (λ o. IsOrientation c.args.p o × (act c.args.p o c.args.from.now ≡ c.args.to.now)) (sym (to_z-of_z w8 c.orientation_of.result (record { sfits = c.orientation_of.type_inv }))) (answer_leads c)

pub returns-then-leads-clause-value : goal.returns-then-leads-clause-value
returns-then-leads-clause-value c =
    ap Some (to_z-of_z w8 c.orientation_of.result (record { sfits = c.orientation_of.type_inv }))
    ∙ sym (relative-leads c.args.p c.orientation_of.result c.args.from.now c.args.to.now (answer_leads c).0 c.requires.from_corners c.requires.differ (answer_leads c).1)

-- ---- it does not

none_settled : (c : Else-leads) → (o : ℤ) → IsOrientation c.args.p o → act c.args.p o c.args.from.now ≢ c.args.to.now
none_settled c o has leads =
    let from = c.args.from.now in
    let to = c.args.to.now in
    let at_second = ap (λ k. position (λ v. v == get_or to k 0) from) (sym c.second.ensures.second) ∙ sym c.place_of-2.ensures ∙ c.in_ok-second.was in
    let at_telling = ap (λ k. position (λ v. v == get_or to k 0) from) (sym c.telling_place.ensures.place) ∙ sym c.place_of-3.ensures ∙ c.in_ok-third.was in
    let symmetry = c.settle-symmetry.ensures.symmetry ∙ settle-found c.args.p o from to _ _ _ has c.requires.from_corners c.requires.differ leads (sym c.place_of.ensures ∙ c.in_ok-first.was) at_second at_telling in
    false≢true (sym c.if-leads.false ∙ c.leads.ensures.1 (ap (λ t. picked from (corners_listed c.args.p t)) symmetry ∙ sym (act-symmetry_of c.args.p o from) ∙ leads))

pub returns-else-leads-clause-none : goal.returns-else-leads-clause-none
returns-else-leads-clause-none c = none_settled c

pub returns-else-leads-clause-value : goal.returns-else-leads-clause-value
returns-else-leads-clause-value c = sym (relative-none c.args.p c.args.from.now c.args.to.now (none_settled c))
