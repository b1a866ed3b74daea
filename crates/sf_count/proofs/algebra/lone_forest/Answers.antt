use Rattle.std.proofs.Common.{◌<◌, ◌∷◌, [], ℕ, List, ap, sym, subst, ◌∙◌}
use Rattle.std.specs.Prelude.{slice_index, get_or}
use Rattle.std.specs.List.{AllByRecursion}
use Rattle.plain_lists.specs.Vectors.{lists_of}
use Rattle.sf_defs.specs.declared.Leaf.{Leaf}
use Rattle.sf_defs.specs.Forest.{Forest}
use Rattle.sf_count.proofs.Fits.{four-fit}
use Rattle.sf_count.proofs.algebra.lone_forest.Goals as goal

pub returns-clause-locals : goal.returns-clause-locals
returns-clause-locals c = λ rank.
    let n : ℕ = c.args.leaves in
    let made = ap (λ (f : Forest). f.leaves) c.in_ok-new.ensures.ok ∙ ap (λ vs. lists_of vs) c.in_ok-own.ensures.items in
    subst (λ (own : List (List Leaf)). AllByRecursion (λ (l : Leaf). l.local < slice_index (n ∷ n ∷ n ∷ n ∷ []) rank) (get_or own rank [])) (sym made)
    (four-fit n c.in_ok-lone_leaves.field-0.items c.in_ok-lone_leaves-2.field-0.items c.in_ok-lone_leaves-3.field-0.items c.in_ok-lone_leaves-4.field-0.items
    c.in_ok-lone_leaves.ensures.locals c.in_ok-lone_leaves-2.ensures.locals c.in_ok-lone_leaves-3.ensures.locals c.in_ok-lone_leaves-4.ensures.locals rank)
