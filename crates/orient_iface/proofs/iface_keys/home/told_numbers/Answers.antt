use Rattle.std.proofs.Common.{◌≡◌, ℕ, List, map, length, Vec, Global, ap, sym, subst, ◌∙◌}
use Rattle.plain_lists.specs.Vectors.{lists_of}
use Rattle.sf_defs.specs.Forest.{Forest}
use Rattle.sf_ops.specs.Asked.{CoverLeaves}
use Rattle.sf_ops.specs.Copies.{AreCopies}
use Rattle.rank_chart_laws.proofs.meeting_laws.Loops.{shape_count}
use Rattle.rank_chart_laws.specs.key_laws.Words.{word_numbers}
use Rattle.orient_iface.proofs.iface_keys.Steps.{written-back}
use Rattle.orient_iface.proofs.iface_keys.Rounds.{numbers-shape, covered}
use Rattle.orient_iface.proofs.iface_keys.home.told_numbers.Goals as goal

pub bcast-requires-clause-roots : goal.bcast-requires-clause-roots
bcast-requires-clause-roots g c =
    ap (map length) (ap lists_of c.deref.ensures.value ∙ c.in_ok-own.ensures) ∙ (numbers-shape c.args.shared.now c.requires.laid_out (lists_of c.args.places.now) ∙ sym (ap (λ (f : Forest). f.roots) c.forest.ensures))

pub bcast-requires-clause-leaves : goal.bcast-requires-clause-leaves
bcast-requires-clause-leaves g c =
    let lent = ap lists_of c.deref_mut.ensures.value ∙ c.in_ok-told.ensures in
    subst (λ (f : Forest). CoverLeaves f (lists_of c.deref_mut.result.now)) (sym c.forest.ensures)
    (covered c.args.shared.now c.requires.laid_out (lists_of c.deref_mut.result.now) (ap (map length) lent ∙ numbers-shape c.args.shared.now c.requires.laid_out (lists_of c.args.places.now)))

pub returns-clause-told : goal.returns-clause-told
returns-clause-told g c =
    let f : Forest = c.args.shared.now.forest in
    let all : List (List ℕ) = word_numbers c.args.shared.now (lists_of c.args.places.now) in
    let old : List (Vec ℕ Global) = c.in_ok-told.told.items in
    let now : List (Vec ℕ Global) = c.bcast.new.leaves in
    let lent : lists_of c.deref_mut.result.now ≡ word_numbers c.args.shared.now (lists_of c.args.places.now) = ap lists_of c.deref_mut.ensures.value ∙ c.in_ok-told.ensures in
    let same : map length (lists_of now) ≡ map length (word_numbers c.args.shared.now (lists_of c.args.places.now)) = c.in_ok-bcast.ensures.shape ∙ ap (map length) lent in
    let back = written-back now old c.in_ok-told.told.len (shape_count now old (same ∙ ap (map length) (sym c.in_ok-told.ensures))) (sym (ap length c.deref_mut.ensures.value) ∙ c.deref_mut.ensures.len) in
    let sent : lists_of c.deref.result.now ≡ word_numbers c.args.shared.now (lists_of c.args.places.now) = ap lists_of c.deref.ensures.value ∙ c.in_ok-own.ensures in
    let copies : AreCopies f all all (lists_of now) = subst (λ (t : Forest). AreCopies t all all (lists_of now)) c.forest.ensures (subst (λ vs. AreCopies c.forest.result.now vs all (lists_of now)) sent (subst (λ vs. AreCopies c.forest.result.now (lists_of c.deref.result.now) vs (lists_of now)) lent c.in_ok-bcast.ensures.copies)) in
    subst (λ vs. AreCopies f all all (lists_of vs)) (sym back) copies

pub returns-clause-shape : goal.returns-clause-shape
returns-clause-shape g c =
    let old : List (Vec ℕ Global) = c.in_ok-told.told.items in
    let now : List (Vec ℕ Global) = c.bcast.new.leaves in
    let lent : lists_of c.deref_mut.result.now ≡ word_numbers c.args.shared.now (lists_of c.args.places.now) = ap lists_of c.deref_mut.ensures.value ∙ c.in_ok-told.ensures in
    let same : map length (lists_of now) ≡ map length (word_numbers c.args.shared.now (lists_of c.args.places.now)) = c.in_ok-bcast.ensures.shape ∙ ap (map length) lent in
    let back = written-back now old c.in_ok-told.told.len (shape_count now old (same ∙ ap (map length) (sym c.in_ok-told.ensures))) (sym (ap length c.deref_mut.ensures.value) ∙ c.deref_mut.ensures.len) in
    ap (λ vs. map length (lists_of vs)) back ∙ (same ∙ numbers-shape c.args.shared.now c.requires.laid_out (lists_of c.args.places.now))
