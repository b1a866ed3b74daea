-- Where the slots of a root stand on its rank.
use Rattle.std.proofs.Common.{◌≡◌, ℕ, zero, suc, ◌+◌, ◌-◌, ◌<◌, ◌≤◌, List, [], ◌++◌, length, get_or, replicate, arith, refl, ap, sym, subst, ◌∙◌, ⊎_elim}
use Rattle.std.proofs.lemmas.Bool.{cases_lt}
use Rattle.std.proofs.lemmas.List.{length-append, length-replicate, get_or_append_left, get_or-append-add, get_or-replicate}
use Rattle.std.proofs.lemmas.List.Sums.{sum_by_push}
use Rattle.plain_lists.specs.Lists.{below}
use Rattle.sf_defs.specs.Forest.{Forest, degree}
use Rattle.sf_defs.specs.slots.Slots.{first_slot}
use Rattle.shared_forest.specs.sf_meet.SlotRoots.{AreSlotRoots}

-- the first root of a rank has the first slots
pub first_slot-none : (f : Forest) (rank : ℕ) → first_slot f rank 0 ≡ 0
unfolding first_slot
first_slot-none f rank = refl

-- the slots of the next root stand behind those of this one
pub first_slot-more : (f : Forest) (rank k : ℕ) → first_slot f rank (suc k) ≡ first_slot f rank k + degree f rank k
unfolding first_slot
first_slot-more f rank k = sum_by_push (degree f rank) (below k) k

-- the slots of a root stand before those of any later one
pub first_slot-within : (f : Forest) (rank index k : ℕ) → index < k → first_slot f rank index + degree f rank index ≤ first_slot f rank k
first_slot-within f rank index zero h = absurd (omega arith)
first_slot-within f rank index (suc k) h = let more = first_slot-more f rank k in ⊎_elim
    (λ lt. let r = first_slot-within f rank index k lt in omega arith)
    (λ ge. let same : k ≡ index = omega arith in subst (λ i. first_slot f rank i + degree f rank i ≤ first_slot f rank (suc k)) same (omega arith))
    (cases_lt index k)

-- a slot is the nth of some root
pub record IsSlotOf (f : Forest) (rank k slot : ℕ) : Type 0 where
  pub index : ℕ
  pub n : ℕ
  pub before : index < k
  pub drawn : n < degree f rank index
  pub is : slot ≡ first_slot f rank index + n

pub slot_of : (f : Forest) (rank k slot : ℕ) → slot < first_slot f rank k → IsSlotOf f rank k slot
slot_of f rank zero slot h = let none = first_slot-none f rank in absurd (omega arith)
slot_of f rank (suc k) slot h = let more = first_slot-more f rank k in ⊎_elim
    (λ lt. let r = slot_of f rank k slot lt in record { index = r.index; n = r.n; before = let b = r.before in omega arith; drawn = r.drawn; is = r.is })
    (λ ge. record { index = k; n = slot - first_slot f rank k; before = omega arith; drawn = omega arith; is = omega arith })
    (cases_lt slot (first_slot f rank k))

-- no root has a slot
pub slot-roots-none : (f : Forest) (rank : ℕ) → AreSlotRoots f rank 0 []
slot-roots-none f rank = record { count = sym (first_slot-none f rank); each = λ index n h d. absurd (omega arith) }

-- one root more has its slots behind the others
pub slot-roots-more : (f : Forest) (rank k : ℕ) (roots all : List ℕ) → AreSlotRoots f rank k roots → all ≡ roots ++ replicate (degree f rank k) k → AreSlotRoots f rank (k + 1) all
slot-roots-more f rank k roots all before is = record {
  count = let c = before.count in let next = first_slot-more f rank k in let e : k + 1 ≡ suc k = omega arith in
      subst (λ j. length all ≡ first_slot f rank j) (sym e) (ap length is ∙ (length-append roots (replicate (degree f rank k) k) ∙ (ap (λ n. length roots + n) (length-replicate (degree f rank k) k) ∙ omega arith)));
  each = λ index n low drawn. ap (λ xs. get_or xs (first_slot f rank index + n) 0) is ∙ ⊎_elim (earlier index n drawn) (last index n low drawn) (cases_lt index k);
}
  where
    more : List ℕ
    more = replicate (degree f rank k) k

    earlier : (index n : ℕ) → n < degree f rank index → index < k → get_or (roots ++ more) (first_slot f rank index + n) 0 ≡ index
    earlier index n drawn lt =
        let c = before.count in
        let within = first_slot-within f rank index k lt in
        get_or_append_left roots more 0 (first_slot f rank index + n) (omega arith) ∙ before.each index n lt drawn

    last : (index n : ℕ) → index < k + 1 → n < degree f rank index → k ≤ index → get_or (roots ++ more) (first_slot f rank index + n) 0 ≡ index
    last index n low drawn ge =
        let here : index ≡ k = omega arith in
        let c = before.count in
        let start : first_slot f rank index + n ≡ length roots + n = ap (λ j. first_slot f rank j + n) here ∙ omega arith in
        let in-more : n < degree f rank k = subst (λ j. n < degree f rank j) here drawn in
        ap (λ j. get_or (roots ++ more) j 0) start ∙ (get_or-append-add roots more n 0 ∙ (get_or-replicate (degree f rank k) n k 0 in-more ∙ sym here))
