use Rattle.std.proofs.Common.{◌≡◌, ℕ, List, [], ◌∷◌, subst, sym}
use Rattle.sf_ops.specs.Asked.{CoverLeaves}
use Rattle.sf_defs.specs.meeting.Meeting.{HaveKeys}
use Rattle.sf_tests.specs.meet_tests.TwoRoots.{two_roots}
use Rattle.sf_tests.proofs.meet_tests.Covered.{keys, ids, have_keys, cover_ids}
use Rattle.sf_tests.proofs.meet_tests.meeting.meet_on.Goals as goal

pub meet-requires-clause-keys : goal.meet-requires-clause-keys
meet-requires-clause-keys g c =
    let given : c.in_ok-first.first.items ∷ c.in_ok-second.second.items ∷ [] ≡ keys = λ i. c.in_ok-first.ensures.items i ∷ c.in_ok-second.ensures.items i ∷ [] in
    subst (λ f. HaveKeys f (c.in_ok-first.first.items ∷ c.in_ok-second.second.items ∷ [])) (sym c.in_ok-forest.ensures) (subst (λ (ks : List (List (List ℕ))). HaveKeys two_roots ks) (sym given) have_keys)

pub meet-requires-clause-ids : goal.meet-requires-clause-ids
meet-requires-clause-ids g c =
    let given : c.in_ok-first-2.first.items ∷ c.in_ok-second-2.second.items ∷ [] ≡ ids = λ i. c.in_ok-first-2.ensures.items i ∷ c.in_ok-second-2.ensures.items i ∷ [] in
    subst (λ f. CoverLeaves f (c.in_ok-first-2.first.items ∷ c.in_ok-second-2.second.items ∷ [])) (sym c.in_ok-forest.ensures) (subst (λ (is : List (List ℕ)). CoverLeaves two_roots is) (sym given) cover_ids)
