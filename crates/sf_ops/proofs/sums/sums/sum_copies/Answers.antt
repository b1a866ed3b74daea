use Rattle.std.proofs.Common.{◌≡◌, ℕ, List, length, map, ap, sym, subst, ◌∙◌}
use Rattle.std.specs.declared.vec.Vec.{Vec}
use Rattle.std.specs.declared.alloc.Global.{Global}
use Rattle.plain_lists.specs.Vectors.{lists_of}
use Rattle.sf_defs.specs.declared.Op.TheVariants.{Sum}
use Rattle.sf_defs.specs.Forest.{Forest}
use Rattle.sf_ops.specs.Asked.{asks_of, words_of, MayAsk}
use Rattle.sf_ops.specs.Copies.{AreCopies}
use Rattle.sf_ops.specs.Folds.{AreFolds}
use Rattle.sf_defs.specs.sums.Sums.{AreSums}
use Rattle.sf_ops.proofs.sums.Lists.{covers-same, vectors-same, written-back}
use Rattle.sf_ops.proofs.sums.Summed.{all-summed, may-sum}
use Rattle.sf_ops.proofs.sums.sums.sum_copies.Goals as goal

pub reduce-requires-clause-asks : goal.reduce-requires-clause-asks
reduce-requires-clause-asks g c =
    let f : Forest = c.args.forest.now in
    let words : List (List ℕ) = lists_of c.args.words.now in
    subst (MayAsk f Sum words) (sym (ap lists_of c.deref_mut.ensures.value ∙ c.in_ok-at_roots.ensures)) (may-sum f words c.ranks-ranks.ensures.right c.requires.places c.requires.fit)

pub bcast-requires-clause-leaves : goal.bcast-requires-clause-leaves
bcast-requires-clause-leaves g c =
    let f : Forest = c.args.forest.now in
    let words : List (List ℕ) = lists_of c.args.words.now in
    let roots : List (Vec ℕ Global) = c.reduce.new.roots in
    let old : List (Vec ℕ Global) = c.in_ok-at_roots.at_roots.items in
    let shape : map length (lists_of roots) ≡ map length words = c.in_ok-reduce.ensures.shape ∙ sym c.requires.places in
    let size : length roots ≡ length old = vectors-same roots old (shape ∙ ap (map length) (sym c.in_ok-at_roots.ensures)) in
    let back = written-back roots old c.in_ok-at_roots.at_roots.len size (sym (ap length c.deref_mut.ensures.value) ∙ c.deref_mut.ensures.len) in
    let lent : lists_of c.deref_mut-2.result.now ≡ lists_of roots = ap lists_of c.deref_mut-2.ensures.value ∙ (c.in_ok-sums.ensures ∙ ap lists_of (c.deref.ensures.value ∙ back)) in
    covers-same f words (lists_of c.deref_mut-2.result.now) (ap (map length) lent ∙ shape) c.requires.leaves

pub returns-clause-sums : goal.returns-clause-sums
returns-clause-sums g c =
    let f : Forest = c.args.forest.now in
    let words : List (List ℕ) = lists_of c.args.words.now in
    let roots : List (Vec ℕ Global) = c.reduce.new.roots in
    let old : List (Vec ℕ Global) = c.in_ok-at_roots.at_roots.items in
    let shape : map length (lists_of roots) ≡ map length words = c.in_ok-reduce.ensures.shape ∙ sym c.requires.places in
    let size : length roots ≡ length old = vectors-same roots old (shape ∙ ap (map length) (sym c.in_ok-at_roots.ensures)) in
    let back = written-back roots old c.in_ok-at_roots.at_roots.len size (sym (ap length c.deref_mut.ensures.value) ∙ c.deref_mut.ensures.len) in
    let copied : lists_of c.in_ok-sums.sums.items ≡ lists_of roots = c.in_ok-sums.ensures ∙ ap lists_of (c.deref.ensures.value ∙ back) in
    let lent : lists_of c.deref_mut-2.result.now ≡ lists_of roots = ap lists_of c.deref_mut-2.ensures.value ∙ copied in
    let sent : lists_of c.deref-2.result.now ≡ lists_of roots = ap lists_of (c.deref-2.ensures.value ∙ back) in
    let sums : List (Vec ℕ Global) = c.bcast.new.leaves in
    let same : map length (lists_of sums) ≡ map length (lists_of roots) = c.in_ok-bcast.ensures.shape ∙ ap (map length) lent in
    let count : length sums ≡ length c.in_ok-sums.sums.items = vectors-same sums c.in_ok-sums.sums.items (same ∙ ap (map length) (sym copied)) in
    let again = written-back sums c.in_ok-sums.sums.items c.in_ok-sums.sums.len count (sym (ap length c.deref_mut-2.ensures.value) ∙ c.deref_mut-2.ensures.len) in
    let copies : AreCopies f (lists_of roots) (lists_of roots) (lists_of sums) = subst (λ vs. AreCopies f vs (lists_of roots) (lists_of sums)) sent (subst (λ vs. AreCopies f (lists_of c.deref-2.result.now) vs (lists_of sums)) lent c.in_ok-bcast.ensures.copies) in
    let folds : AreFolds (asks_of f Sum words) (words_of words) (words_of (lists_of roots)) = subst (λ vs. AreFolds (asks_of f Sum words) (words_of vs) (words_of (lists_of roots))) (ap lists_of c.deref_mut.ensures.value ∙ c.in_ok-at_roots.ensures) c.in_ok-reduce.ensures.folds in
    subst (λ vs. AreSums f words (lists_of vs)) (sym again) (all-summed f words c.ranks-ranks.ensures.right c.requires.places (lists_of roots) (lists_of sums) c.requires.fit folds c.in_ok-reduce.ensures.shape copies same)
