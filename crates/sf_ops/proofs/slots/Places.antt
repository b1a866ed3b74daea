-- Where the slots of a root stand on its rank.
use Rattle.std.proofs.Common.{◌≡◌, ℕ, zero, suc, ◌+◌, ◌-◌, ◌<◌, ◌≤◌, Bool, true, false, ◌&&◌, ◌==◌, arith, refl, ap, sym, subst, ◌∙◌, ⊎_elim}
use Rattle.std.proofs.lemmas.Bool.{cases_lt, eq-eqb, eqb-true}
use Rattle.std.proofs.lemmas.List.Sums.{sum_by_push}
use Rattle.plain_lists.specs.Lists.{below}
use Rattle.plain_lists.proofs.Finding.{same_tests}
use Rattle.sf_defs.specs.declared.Leaf.{Leaf}
use Rattle.sf_defs.specs.Forest.{Forest, degree, is_on_root}
use Rattle.sf_defs.specs.slots.Slots.{first_slot, slot_leaf}

-- the first root of a rank has the first slots
pub first_slot-none : (f : Forest) (rank : ℕ) → first_slot f rank 0 ≡ 0
unfolding first_slot
first_slot-none f rank = refl

-- the slots of the next root stand behind those of this one
pub first_slot-more : (f : Forest) (rank k : ℕ) → first_slot f rank (suc k) ≡ first_slot f rank k + degree f rank k
unfolding first_slot
first_slot-more f rank k = sum_by_push (degree f rank) (below k) k

-- the slots of a root stand before those of any later one
pub first_slot-within : (f : Forest) (rank index k : ℕ) → index < k → first_slot f rank index + degree f rank index ≤ first_slot f rank k
first_slot-within f rank index zero h = absurd (omega arith)
first_slot-within f rank index (suc k) h = let more = first_slot-more f rank k in ⊎_elim
    (λ lt. let r = first_slot-within f rank index k lt in omega arith)
    (λ ge. let same : k ≡ index = omega arith in subst (λ i. first_slot f rank i + degree f rank i ≤ first_slot f rank (suc k)) same (omega arith))
    (cases_lt index k)

-- a slot is the nth of some root
pub record IsSlotOf (f : Forest) (rank k slot : ℕ) : Type 0 where
  pub index : ℕ
  pub n : ℕ
  pub before : index < k
  pub drawn : n < degree f rank index
  pub is : slot ≡ first_slot f rank index + n

pub slot_of : (f : Forest) (rank k slot : ℕ) → slot < first_slot f rank k → IsSlotOf f rank k slot
slot_of f rank zero slot h = let none = first_slot-none f rank in absurd (omega arith)
slot_of f rank (suc k) slot h = let more = first_slot-more f rank k in ⊎_elim
    (λ lt. let r = slot_of f rank k slot lt in record { index = r.index; n = r.n; before = let b = r.before in omega arith; drawn = r.drawn; is = r.is })
    (λ ge. record { index = k; n = slot - first_slot f rank k; before = omega arith; drawn = omega arith; is = omega arith })
    (cases_lt slot (first_slot f rank k))

-- and of no other one
pub same_slot : (f : Forest) (rank i n j m : ℕ) → n < degree f rank i → m < degree f rank j → first_slot f rank i + n ≡ first_slot f rank j + m → (i ≡ j) × (n ≡ m)
same_slot f rank i n j m low high e = ⊎_elim
    (λ lt. let w = first_slot-within f rank i j lt in absurd (omega arith))
    (λ ge. ⊎_elim
    (λ lt. let w = first_slot-within f rank j i lt in absurd (omega arith))
    (λ le. let same : i ≡ j = omega arith in (same, let first = ap (first_slot f rank) same in omega arith))
    (cases_lt j i))
    (cases_lt i j)

-- a leaf is on a slot where it is on its root and drew the slot's place
pub on_slot : (f : Forest) (rank index n d : ℕ) (l : Leaf) → n < degree f rank index → d < degree f l.rank l.index → is_on_root (rank, first_slot f rank index + n) (slot_leaf f (l, d)) ≡ is_on_root (rank, index) l && (d == n)
on_slot f rank index n d l low high = go (l.rank == rank) refl
  where
    go : (b : Bool) → (l.rank == rank) ≡ b → (b && ((first_slot f l.rank l.index + d) == (first_slot f rank index + n))) ≡ (b && (l.index == index)) && (d == n)
    go false e = refl
    go true e =
        let same : l.rank ≡ rank = eqb-true l.rank rank e in
        same_tests ((first_slot f l.rank l.index + d) == (first_slot f rank index + n)) ((l.index == index) && (d == n))
        (λ h.
        let both = same_slot f rank l.index d index n (subst (λ r. d < degree f r l.index) same high) low (ap (λ r. first_slot f r l.index + d) (sym same) ∙ eqb-true (first_slot f l.rank l.index + d) (first_slot f rank index + n) h) in
        (λ i. eq-eqb l.index index both.0 i && eq-eqb d n both.1 i))
        (λ h. eq-eqb (first_slot f l.rank l.index + d) (first_slot f rank index + n) (λ i. first_slot f (same i) (eqb-true l.index index (fst_true (l.index == index) (d == n) h) i) + eqb-true d n (snd_true (l.index == index) (d == n) h) i))
      where
        fst_true : (a b : Bool) → (a && b) ≡ true → a ≡ true
        fst_true true b h = refl
        fst_true false b h = h

        snd_true : (a b : Bool) → (a && b) ≡ true → b ≡ true
        snd_true true b h = h
        snd_true false b h = absurd (cc h)
