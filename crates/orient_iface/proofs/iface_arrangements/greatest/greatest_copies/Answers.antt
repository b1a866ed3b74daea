use Rattle.std.proofs.Common.{◌≡◌, ℕ, List, length, map, Vec, Global, ap, sym, subst, ◌∙◌}
use Rattle.plain_lists.specs.Vectors.{lists_of}
use Rattle.rank_chart_laws.proofs.meeting_laws.Loops.{shape_count}
use Rattle.sf_defs.specs.declared.Op.TheVariants.{Max}
use Rattle.sf_defs.specs.Forest.{Forest}
use Rattle.sf_ops.specs.Asked.{asks_of, words_of, MayAsk}
use Rattle.sf_ops.specs.Copies.{AreCopies}
use Rattle.sf_ops.specs.Folds.{AreFolds}
use Rattle.orient_iface.proofs.iface_keys.Steps.{written-back}
use Rattle.rank_cones.specs.arrangement_laws.Told.{AreGreatest}
use Rattle.orient_iface.proofs.iface_arrangements.Asking.{covers-same, may-ask}
use Rattle.orient_iface.proofs.iface_arrangements.greatest.greatest_copies.Goals as goal

pub reduce-requires-clause-asks : goal.reduce-requires-clause-asks
reduce-requires-clause-asks g c =
    subst (λ vs. MayAsk c.args.forest.now Max (lists_of c.args.words.now) (lists_of vs)) (sym c.deref_mut.ensures.value)
    (may-ask c.args.forest.now (lists_of c.args.words.now) (lists_of c.in_ok-at_roots.at_roots.items) c.in_ok-at_roots.ensures.low)

pub bcast-requires-clause-leaves : goal.bcast-requires-clause-leaves
bcast-requires-clause-leaves g c =
    let f : Forest = c.args.forest.now in
    let words : List (List ℕ) = lists_of c.args.words.now in
    let roots : List (Vec ℕ Global) = c.reduce.new.roots in
    let old : List (Vec ℕ Global) = c.in_ok-at_roots.at_roots.items in
    let shape : map length (lists_of roots) ≡ map length words = c.in_ok-reduce.ensures.shape ∙ sym c.requires.places in
    let size : length roots ≡ length old = shape_count roots old (shape ∙ ap (map length) (sym c.in_ok-at_roots.ensures.same)) in
    let back = written-back roots old c.in_ok-at_roots.at_roots.len size (sym (ap length c.deref_mut.ensures.value) ∙ c.deref_mut.ensures.len) in
    let lent : lists_of c.deref_mut-2.result.now ≡ lists_of roots = ap lists_of c.deref_mut-2.ensures.value ∙ (c.in_ok-greatest.ensures.same ∙ ap lists_of (c.deref.ensures.value ∙ back)) in
    covers-same f words (lists_of c.deref_mut-2.result.now) (ap (map length) lent ∙ shape) c.requires.leaves

pub returns-clause-greatest : goal.returns-clause-greatest
returns-clause-greatest g c =
    let f : Forest = c.args.forest.now in
    let words : List (List ℕ) = lists_of c.args.words.now in
    let roots : List (Vec ℕ Global) = c.reduce.new.roots in
    let old : List (Vec ℕ Global) = c.in_ok-at_roots.at_roots.items in
    let shape : map length (lists_of roots) ≡ map length words = c.in_ok-reduce.ensures.shape ∙ sym c.requires.places in
    let size : length roots ≡ length old = shape_count roots old (shape ∙ ap (map length) (sym c.in_ok-at_roots.ensures.same)) in
    let back = written-back roots old c.in_ok-at_roots.at_roots.len size (sym (ap length c.deref_mut.ensures.value) ∙ c.deref_mut.ensures.len) in
    let copied : lists_of c.in_ok-greatest.greatest.items ≡ lists_of roots = c.in_ok-greatest.ensures.same ∙ ap lists_of (c.deref.ensures.value ∙ back) in
    let lent : lists_of c.deref_mut-2.result.now ≡ lists_of roots = ap lists_of c.deref_mut-2.ensures.value ∙ copied in
    let sent : lists_of c.deref-2.result.now ≡ lists_of roots = ap lists_of (c.deref-2.ensures.value ∙ back) in
    let heard : List (Vec ℕ Global) = c.bcast.new.leaves in
    let same : map length (lists_of heard) ≡ map length (lists_of roots) = c.in_ok-bcast.ensures.shape ∙ ap (map length) lent in
    let count : length heard ≡ length c.in_ok-greatest.greatest.items = shape_count heard c.in_ok-greatest.greatest.items (same ∙ ap (map length) (sym copied)) in
    let again = written-back heard c.in_ok-greatest.greatest.items c.in_ok-greatest.greatest.len count (sym (ap length c.deref_mut-2.ensures.value) ∙ c.deref_mut-2.ensures.len) in
    subst (λ vs. AreGreatest f words (lists_of vs)) (sym again) (record {
      roots = lists_of roots;
      shape = c.in_ok-reduce.ensures.shape;
      folds = subst (λ vs. AreFolds (asks_of f Max words) (words_of vs) (words_of (lists_of roots))) (ap lists_of c.deref_mut.ensures.value ∙ c.in_ok-at_roots.ensures.same) c.in_ok-reduce.ensures.folds;
      copies = subst (λ vs. AreCopies f vs (lists_of roots) (lists_of heard)) sent (subst (λ vs. AreCopies f (lists_of c.deref-2.result.now) vs (lists_of heard)) lent c.in_ok-bcast.ensures.copies);
      same = same;
    })
