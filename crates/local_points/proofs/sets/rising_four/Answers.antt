use Rattle.std.proofs.Common.{rules, ◌≡◌, ℕ, List, [], ◌∷◌, get_or, refl, sym, ap, ◌∙◌}
use Rattle.plain_lists.specs.Lists.{inserted, sorted}
use Rattle.local_points.proofs.Arrays.{four-of}
use Rattle.local_points.proofs.sets.rising_four.Goals as goal

-- the first two of some numbers go in last
sorted-more : (a b : ℕ) (l : List ℕ) → sorted (a ∷ b ∷ l) ≡ inserted a (inserted b (sorted l))
unfolding sorted
sorted-more a b l = refl

pub returns : goal.returns
returns c =
    c.into_three.ensures ∙ ap (inserted (get_or c.args.corners 0 0)) (c.into_two.ensures ∙ ap (inserted (get_or c.args.corners 1 0)) c.rising_two.ensures)
    ∙ sym (sorted-more (get_or c.args.corners 0 0) (get_or c.args.corners 1 0) (get_or c.args.corners 2 0 ∷ get_or c.args.corners 3 0 ∷ []))
    ∙ ap sorted (sym (four-of c.args.corners (search rules)))
