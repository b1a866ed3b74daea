use Rattle.std.proofs.Common.{◌≡◌, ◌∙◌, sym, length, refl}
use Rattle.std.specs.Prelude.{find, nat_le, Some, None}
use Rattle.plan_reader.proofs.FitLemmas.{ranks_fit-is}
use Rattle.plan_reader.proofs.fits.list_fits.Goals as goal

pub returns-in-Some : goal.returns-in-Some
returns-in-Some c =
    let each = c.args.list.now.ranks.items in
    let all : length each ≡ c.args.cells = rw (← c.deref.ensures.value) (c.deref.ensures.len ∙ (sym c.len-got.ensures ∙ c.if-got-cells.false)) in
    let found : find (nat_le c.args.ranks) each ≡ Some c.in-Some.rank = rw (← c.deref.ensures.value) (sym c.rank_above.ensures ∙ c.in-Some.is) in
    rw (ranks_fit-is c.args.ranks c.args.cells c.args.line each all, found) refl

pub returns-in-None : goal.returns-in-None
returns-in-None c =
    let each = c.args.list.now.ranks.items in
    let all : length each ≡ c.args.cells = rw (← c.deref.ensures.value) (c.deref.ensures.len ∙ (sym c.len-got.ensures ∙ c.if-got-cells.false)) in
    let found : find (nat_le c.args.ranks) each ≡ None = rw (← c.deref.ensures.value) (sym c.rank_above.ensures ∙ c.in-None.is) in
    rw (ranks_fit-is c.args.ranks c.args.cells c.args.line each all, found) refl
