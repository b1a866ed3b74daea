use Rattle.std.proofs.Common.{◌≡◌, ℕ, List, map, length, ap, sym, subst, ◌∙◌}
use Rattle.std.proofs.lemmas.List.{length-map}
use Rattle.plain_lists.specs.Vectors.{lists_of}
use Rattle.sf_defs.specs.declared.Op.TheVariants.{Replace}
use Rattle.sf_defs.specs.Forest.{Forest, IsForest}
use Rattle.sf_ops.specs.Asked.{asks_of, words_of, MayAsk}
use Rattle.sf_ops.specs.Folds.{AreFolds}
use Rattle.sf_ops.proofs.Words.{length-lists_of}
use Rattle.sf_ops.proofs.slots.Draws.{zeros_for, zeros-shape}
use Rattle.sf_ops.proofs.slots.Gathers.{gathered-shape, gathers-may, gathers, written-back}
use Rattle.sf_ops.proofs.slots.moving.gather.Goals as goal

pub reduce-requires-clause-roots : goal.reduce-requires-clause-roots
reduce-requires-clause-roots g c = ap (λ vs. map length (lists_of vs)) c.deref_mut.ensures.value ∙ (ap (map length) c.in_ok-slots.ensures.zeros ∙ (zeros-shape c.forest.result.now.roots ∙ ap (λ (f : Forest). f.roots) (c.forest.ensures.forest ∙ sym c.forest-2.ensures.forest)))

pub reduce-requires-clause-asks : goal.reduce-requires-clause-asks
reduce-requires-clause-asks g c =
    let m : Forest = c.args.m.now.forest in
    let leaves : List (List ℕ) = lists_of c.args.leaves.now in
    let right : IsForest m = subst IsForest c.forest.ensures.forest c.in_ok-slots.ensures.right in
    let zeros : lists_of c.deref_mut.result.now ≡ zeros_for m.roots = ap (λ vs. lists_of vs) c.deref_mut.ensures.value ∙ (c.in_ok-slots.ensures.zeros ∙ ap (λ (f : Forest). zeros_for f.roots) c.forest.ensures.forest) in
    subst (λ (f : Forest). MayAsk f Replace leaves (lists_of c.deref_mut.result.now)) (sym c.forest-2.ensures.forest) (subst (MayAsk m Replace leaves) (sym zeros) (gathers-may m leaves right c.forest-2.ensures.alone))

pub returns-clause-gathered : goal.returns-clause-gathered
returns-clause-gathered g c =
    let m : Forest = c.args.m.now.forest in
    let leaves : List (List ℕ) = lists_of c.args.leaves.now in
    let right : IsForest m = subst IsForest c.forest.ensures.forest c.in_ok-slots.ensures.right in
    let zeros : lists_of c.deref_mut.result.now ≡ zeros_for m.roots = ap (λ vs. lists_of vs) c.deref_mut.ensures.value ∙ (c.in_ok-slots.ensures.zeros ∙ ap (λ (f : Forest). zeros_for f.roots) c.forest.ensures.forest) in
    let shape : map length (lists_of c.reduce.new.roots) ≡ m.roots = c.in_ok-reduce.ensures.shape ∙ ap (λ (f : Forest). f.roots) c.forest-2.ensures.forest in
    let old_shape : map length (lists_of c.in_ok-slots.slots.items) ≡ m.roots = ap (map length) c.in_ok-slots.ensures.zeros ∙ (zeros-shape c.forest.result.now.roots ∙ ap (λ (f : Forest). f.roots) c.forest.ensures.forest) in
    let same : length c.reduce.new.roots ≡ length c.in_ok-slots.slots.items = sym (length-lists_of c.reduce.new.roots) ∙ (sym (length-map (lists_of c.reduce.new.roots) length) ∙ (ap length (shape ∙ sym old_shape) ∙ (length-map (lists_of c.in_ok-slots.slots.items) length ∙ length-lists_of c.in_ok-slots.slots.items))) in
    let back = written-back c.reduce.new.roots c.in_ok-slots.slots.items c.in_ok-slots.slots.len same (sym (ap length c.deref_mut.ensures.value) ∙ c.deref_mut.ensures.len) in
    let folds = subst (λ (f : Forest). AreFolds (asks_of f Replace leaves) (words_of (lists_of c.deref_mut.result.now)) (words_of (lists_of c.reduce.new.roots))) c.forest-2.ensures.forest c.in_ok-reduce.ensures.folds in
    ap (λ vs. lists_of vs) back ∙ gathers m leaves (lists_of c.reduce.new.roots) (lists_of c.deref_mut.result.now) right c.forest-2.ensures.alone zeros shape folds

pub returns-clause-slots : goal.returns-clause-slots
returns-clause-slots g c = ap (map length) (returns-clause-gathered g c) ∙ gathered-shape c.args.m.now.forest (lists_of c.args.leaves.now)
