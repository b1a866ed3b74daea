use Rattle.std.proofs.Common.{◌||◌, [], ◌∷◌, sym, ap, ◌∙◌, rules}
use Rattle.std.specs.Prelude.{slice_index}
use Rattle.std.proofs.lemmas.Bool.{or_left}
use Rattle.plain_lists.specs.Lists.{same_list}
use Rattle.rank_cones.proofs.Seeing.{same-ends}
use Rattle.rank_cones.proofs.sides.are_between.Goals as goal

pub returns-then-eq : goal.returns-then-eq
returns-then-eq c = c.if-eq.true ∙ sym (or_left _ (same_list c.args.ends (slice_index c.args.others 1 ∷ slice_index c.args.others 0 ∷ [])) (sym c.eq.ensures ∙ c.if-eq.true)) ∙ same-ends c.args.ends c.args.others (search rules) (search rules)

pub returns-else-eq : goal.returns-else-eq
returns-else-eq c =
    c.eq-else-eq.ensures ∙ sym (ap (λ b. b || same_list c.args.ends (slice_index c.args.others 1 ∷ slice_index c.args.others 0 ∷ [])) (sym c.eq.ensures ∙ c.if-eq.false))
    ∙ same-ends c.args.ends c.args.others (search rules) (search rules)
