use Rattle.std.proofs.Common.{◌≡◌, get_or, sym, ap, ◌∙◌, subst}
use Rattle.poly_orient.specs.Symmetries.{corners_listed, IsSymmetry, combine_senses, second}
use Rattle.poly_orient.proofs.Composition.{composed_symmetry, composed_symmetry-by_corners, is_symmetry-composed_symmetry, corners-composed_symmetry}
use Rattle.poly_orient.proofs.group.compose_symmetries.Goals as goal

-- the call answers the composition
answer_is : (c : goal.After-combine_senses) → c.combine_senses.result ≡ composed_symmetry c.args.p c.args.a c.args.b
answer_is c =
    let listed = corners_listed c.args.p in
    let first : c.corner-first.result ≡ get_or (listed c.args.b) (get_or (listed c.args.a) 0 0) 0 =
    c.corner-first.ensures.corner ∙ (λ j. get_or (listed c.args.b) (c.corner.ensures.corner j) 0) in
    let other : c.corner-second.result ≡ get_or (listed c.args.b) (get_or (listed c.args.a) (second c.args.p) 0) 0 =
    c.corner-second.ensures.corner ∙ (λ j. get_or (listed c.args.b) ((c.corner-2.ensures.corner ∙ (λ i. get_or (listed c.args.a) (c.second.ensures.second i) 0)) j) 0) in
    c.combine_senses.ensures ∙ (λ j. combine_senses c.args.a c.args.b (c.place.ensures j)) ∙ composed_symmetry-by_corners c.args.p c.args.a c.args.b _ _ c.requires.after first other

pub returns-clause-symmetry : goal.returns-clause-symmetry
returns-clause-symmetry c = subst (IsSymmetry c.args.p) (sym (answer_is c)) (is_symmetry-composed_symmetry c.args.p c.args.a c.args.b c.requires.after c.requires.before)

pub returns-clause-corners : goal.returns-clause-corners
returns-clause-corners c = ap (corners_listed c.args.p) (answer_is c) ∙ corners-composed_symmetry c.args.p c.args.a c.args.b c.requires.after c.requires.before
