use Rattle.std.proofs.Common.{◌≡◌, ℕ, List, length, map, ap, ◌∙◌, subst, sym}
use Rattle.plain_lists.specs.Vectors.{lists_of}
use Rattle.sf_defs.specs.Forest.{Forest, IsForest}
use Rattle.sf_ops.specs.Asked.{AreRootValues, CoverLeaves}
use Rattle.sf_ops.specs.Copies.{AreCopies}
use Rattle.sf_ops.specs.slots.Gathered.{gathered}
use Rattle.sf_defs.specs.meeting.Meeting.{AreMet}
use Rattle.sf_ops.proofs.Words.{length-lists_of}
use Rattle.shared_forest.proofs.sf_meet.Agree.{least-counted, leaves-met, slots-covered, words-counted}
use Rattle.shared_forest.proofs.sf_meet.Ranks.{vectors-same, written-back}
use Rattle.shared_forest.proofs.sf_meet.Slotted.{keys-cover}
use Rattle.shared_forest.proofs.sf_meet.meeting.meet.Goals as goal

pub gather-requires : goal.gather-requires
gather-requires g c = slots-covered c.args.f.now c.in_ok-slots.slots (lists_of c.deref.result.now) c.in_ok-slots.ensures.slots
    (subst (CoverLeaves c.args.f.now) (sym (ap lists_of c.deref.ensures.value ∙ c.in_ok-key_words.ensures.words)) (keys-cover c.args.f.now (lists_of c.args.keys.now) 0 c.requires.keys))

pub gather-requires-2 : goal.gather-requires-2
gather-requires-2 g c = slots-covered c.args.f.now c.in_ok-slots.slots (lists_of c.deref-2.result.now) c.in_ok-slots.ensures.slots
    (subst (CoverLeaves c.args.f.now) (sym (ap lists_of c.deref-2.ensures.value ∙ c.in_ok-key_words-2.ensures.words)) (keys-cover c.args.f.now (lists_of c.args.keys.now) 1 c.requires.keys))

pub gather-requires-3 : goal.gather-requires-3
gather-requires-3 g c = slots-covered c.args.f.now c.in_ok-slots.slots (lists_of c.args.ids.now) c.in_ok-slots.ensures.slots c.requires.ids

pub least_on_ranks-requires-clause-firsts : goal.least_on_ranks-requires-clause-firsts
least_on_ranks-requires-clause-firsts g c = words-counted c.args.f.now c.in_ok-slots.slots (lists_of c.deref.result.now) (lists_of c.deref-3.result.now) c.in_ok-slots.ensures.slots (ap lists_of c.deref-3.ensures.value ∙ c.in_ok-firsts.ensures.gathered)

pub least_on_ranks-requires-clause-seconds : goal.least_on_ranks-requires-clause-seconds
least_on_ranks-requires-clause-seconds g c = words-counted c.args.f.now c.in_ok-slots.slots (lists_of c.deref-2.result.now) (lists_of c.deref-4.result.now) c.in_ok-slots.ensures.slots (ap lists_of c.deref-4.ensures.value ∙ c.in_ok-seconds.ensures.gathered)

pub least_on_ranks-requires-clause-ids : goal.least_on_ranks-requires-clause-ids
least_on_ranks-requires-clause-ids g c = words-counted c.args.f.now c.in_ok-slots.slots (lists_of c.args.ids.now) (lists_of c.deref-5.result.now) c.in_ok-slots.ensures.slots (ap lists_of c.deref-5.ensures.value ∙ c.in_ok-own.ensures.gathered)

pub scatter-requires-clause-slots : goal.scatter-requires-clause-slots
scatter-requires-clause-slots g c =
    subst (λ vs. AreRootValues c.in_ok-slots.slots.forest (lists_of vs)) (sym c.deref-6.ensures.value)
    (least-counted c.args.f.now c.in_ok-slots.slots (lists_of c.args.ids.now) (lists_of c.deref-3.result.now) (lists_of c.deref-4.result.now) (lists_of c.deref-5.result.now) (lists_of c.in_ok-least.least.items) c.in_ok-slots.ensures.slots
    (ap lists_of c.deref-5.ensures.value ∙ c.in_ok-own.ensures.gathered) (length-lists_of c.in_ok-least.least.items ∙ c.in_ok-least.ensures.count) c.in_ok-least.ensures.least)

pub scatter-requires-clause-leaves : goal.scatter-requires-clause-leaves
scatter-requires-clause-leaves g c = slots-covered c.args.f.now c.in_ok-slots.slots (lists_of c.deref_mut.result.now) c.in_ok-slots.ensures.slots (subst (CoverLeaves c.args.f.now) (sym (ap lists_of c.deref_mut.ensures.value ∙ c.in_ok-met.ensures)) c.requires.ids)

pub returns-clause-met : goal.returns-clause-met
returns-clause-met g c =
    let f : Forest = c.args.f.now in
    let m : Forest = c.in_ok-slots.slots.forest in
    let keys : List (List (List ℕ)) = lists_of c.args.keys.now in
    let ids : List (List ℕ) = lists_of c.args.ids.now in
    let lent : lists_of c.deref_mut.result.now ≡ ids = ap lists_of c.deref_mut.ensures.value ∙ c.in_ok-met.ensures in
    let shape : map length (lists_of c.scatter.new.leaves) ≡ map length ids = c.in_ok-scatter.ensures.shape ∙ ap (map length) lent in
    let copied : map length ids ≡ map length (lists_of c.in_ok-met.met.items) = ap (map length) (sym c.in_ok-met.ensures) in
    let size : length c.scatter.new.leaves ≡ length c.in_ok-met.met.items = vectors-same c.scatter.new.leaves c.in_ok-met.met.items (shape ∙ copied) in
    let back = written-back c.scatter.new.leaves c.in_ok-met.met.items c.in_ok-met.met.len size (sym (ap length c.deref_mut.ensures.value) ∙ c.deref_mut.ensures.len) in
    let first = ap lists_of c.deref-3.ensures.value ∙ (c.in_ok-firsts.ensures.gathered ∙ ap (gathered m) (ap lists_of c.deref.ensures.value ∙ c.in_ok-key_words.ensures.words)) in
    let second = ap lists_of c.deref-4.ensures.value ∙ (c.in_ok-seconds.ensures.gathered ∙ ap (gathered m) (ap lists_of c.deref-2.ensures.value ∙ c.in_ok-key_words-2.ensures.words)) in
    let id = ap lists_of c.deref-5.ensures.value ∙ c.in_ok-own.ensures.gathered in
    let copies : AreCopies m (lists_of c.in_ok-least.least.items) ids (lists_of c.scatter.new.leaves) = subst (λ ws. AreCopies m (lists_of ws) ids (lists_of c.scatter.new.leaves)) c.deref-6.ensures.value (subst (λ old. AreCopies m (lists_of c.deref-6.result.now) old (lists_of c.scatter.new.leaves)) lent c.in_ok-scatter.ensures.copies) in
    subst (λ ws. AreMet f keys ids (lists_of ws)) (sym back)
    (leaves-met f c.in_ok-slots.slots keys ids (lists_of c.deref-3.result.now) (lists_of c.deref-4.result.now) (lists_of c.deref-5.result.now) (lists_of c.in_ok-least.least.items) (lists_of c.scatter.new.leaves)
    c.in_ok-slots.ensures.slots c.in_ok-least.ensures.right c.in_ok-least.ensures.for_ranks c.requires.keys c.in_ok-key_words.ensures.pairs (subst IsForest c.forest.ensures.forest c.ranks-ranks.ensures.right) c.forest.ensures.alone
    first second id c.in_ok-least.ensures.least copies shape)
