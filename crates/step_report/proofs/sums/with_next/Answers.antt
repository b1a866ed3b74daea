use Rattle.std.proofs.Common.{◌≡◌, true, false, sym, ◌∙◌}
use Rattle.std.proofs.lemmas.Bool.{eq-eqb, ne_eqb}
use Rattle.step_report.specs.Conditions.{local_at}
use Rattle.step_report.specs.Counts.{is_of}
use Rattle.step_report.proofs.Paging.{local-found}
use Rattle.step_report.proofs.Summing.{if-ok, sums-owned, sums-other}
use Rattle.step_report.proofs.sums.with_next.Goals as goal

pub returns-then-owner-rank : goal.returns-then-owner-rank
returns-then-owner-rank c =
    let d = c.args.d.now in
    let l = c.local-local.result.now in
    let found : l ≡ local_at d c.args.rank = local-found d c.args.rank l c.local-local.ensures in
    let own : is_of l c.args.rank c.args.p ≡ true = eq-eqb _ _ (sym c.owner.ensures ∙ c.if-owner-rank.true) in
    let here = rw found at own in
    let told = rw (found, c.sections.ensures) at c.with_point.ensures in
    if-ok c.with_point.result (λ new a. sums-owned d c.args.rank c.args.p c.args.sums new c.requires.sums a here) told

pub returns : goal.returns
returns c =
    let d = c.args.d.now in
    let l = c.local-local.result.now in
    let found : l ≡ local_at d c.args.rank = local-found d c.args.rank l c.local-local.ensures in
    let other : is_of l c.args.rank c.args.p ≡ false = ne_eqb _ _ (λ e. c.if-owner-rank.false (c.owner.ensures ∙ e)) in
    let here = rw found at other in
    sums-other d c.args.rank c.args.p c.args.sums c.requires.sums here
