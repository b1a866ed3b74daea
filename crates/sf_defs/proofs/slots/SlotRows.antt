-- A worked row: one root with a leaf of rank 0 and two of rank 1, which drew 1, 0 and 2.
use Rattle.std.proofs.Common.{◌≡◌, [], ◌∷◌, refl}
use Rattle.sf_defs.specs.Forest.{Forest, leaf, degree}
use Rattle.sf_defs.specs.slots.Slots.{first_slot, first_slots, slot_counts, slotted, drawn_at}

abbrev one_root : Forest
one_root = record { roots = 1 ∷ 0 ∷ []; leaves = (leaf 0 (0, 0) ∷ []) ∷ (leaf 0 (0, 0) ∷ leaf 1 (0, 0) ∷ []) ∷ [] }

on_slots : slotted one_root ((1 ∷ []) ∷ (0 ∷ 2 ∷ []) ∷ []) ≡ record { roots = 3 ∷ 0 ∷ []; leaves = (leaf 0 (0, 1) ∷ []) ∷ (leaf 0 (0, 0) ∷ leaf 1 (0, 2) ∷ []) ∷ [] }
unfolding degree first_slot slot_counts slotted
on_slots = refl

slots_begin : first_slots one_root ≡ (0 ∷ 3 ∷ []) ∷ (0 ∷ []) ∷ []
unfolding degree first_slot first_slots
slots_begin = refl

drawn : drawn_at one_root ((1 ∷ []) ∷ (0 ∷ 2 ∷ []) ∷ []) (0, 0) ≡ 1 ∷ 0 ∷ 2 ∷ []
unfolding drawn_at
drawn = refl
