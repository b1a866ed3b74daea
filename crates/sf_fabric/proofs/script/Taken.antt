-- The first items of each of some lists.
use Rattle.std.proofs.Common.{◌≡◌, ℕ, zero, suc, ◌+◌, ◌<◌, List, [], ◌∷◌, ◌++◌, map, length, get_or, set, take, replicate, refl, sym, ap, ◌∙◌, ⊎_elim, arith}
use Rattle.std.proofs.lemmas.Bool.{cases_eq}
use Rattle.std.proofs.lemmas.List.{length-take, length-set, length-replicate, map-set, take_all, take_more_set, get_or-map, get_or-set_same, get_or-set_other, set-get_or}
use Rattle.sf_defs.specs.declared.Ask.{Ask}
use Rattle.sf_fabric.specs.script.Walks.{taken, AreThere}
use Rattle.sf_fabric.proofs.script.Ends.{empty}

pub get_or-taken : (ns : List ℕ) (ls : List (List ℕ)) (k : ℕ) → length ns ≡ length ls → get_or (taken ns ls) k [] ≡ take (get_or ns k 0) (get_or ls k [])
get_or-taken [] [] k h = refl
get_or-taken [] (l ∷ ls) k h = absurd (omega (arith, h))
get_or-taken (n ∷ ns) [] k h = absurd (omega (arith, h))
get_or-taken (n ∷ ns) (l ∷ ls) zero h = refl
get_or-taken (n ∷ ns) (l ∷ ls) (suc k) h = get_or-taken ns ls k (omega (arith, h))

pub length-taken : (ns : List ℕ) (ls : List (List ℕ)) → length ns ≡ length ls → length (taken ns ls) ≡ length ls
length-taken [] [] h = refl
length-taken [] (l ∷ ls) h = absurd (omega (arith, h))
length-taken (n ∷ ns) [] h = absurd (omega (arith, h))
length-taken (n ∷ ns) (l ∷ ls) h = ap suc (length-taken ns ls (omega (arith, h)))

taken-set : (ns : List ℕ) (ls : List (List ℕ)) (k n : ℕ) (l : List ℕ) → taken (set ns k n) (set ls k l) ≡ set (taken ns ls) k (take n l)
taken-set [] ls k n l = refl
taken-set (m ∷ ns) [] zero n l = refl
taken-set (m ∷ ns) [] (suc k) n l = refl
taken-set (m ∷ ns) (x ∷ ls) zero n l = refl
taken-set (m ∷ ns) (x ∷ ls) (suc k) n l = ap (λ r. take m x ∷ r) (taken-set ns ls k n l)

-- nothing, before the first ask
pub taken-start : (n : ℕ) (ls : List (List ℕ)) (asks : List (List Ask)) → length ls ≡ length asks → n ≡ length asks → taken (replicate n 0) ls ≡ map (λ (own : List Ask). empty) asks
taken-start zero [] [] h k = refl
taken-start zero [] (a ∷ asks) h k = absurd (omega (arith, k))
taken-start zero (l ∷ ls) [] h k = absurd (omega (arith, h))
taken-start zero (l ∷ ls) (a ∷ asks) h k = absurd (omega (arith, k))
taken-start (suc n) [] [] h k = absurd (omega (arith, k))
taken-start (suc n) [] (a ∷ asks) h k = absurd (omega (arith, h))
taken-start (suc n) (l ∷ ls) [] h k = absurd (omega (arith, k))
taken-start (suc n) (l ∷ ls) (a ∷ asks) h k = ap (λ r. empty ∷ r) (taken-start n ls asks (omega (arith, h)) (omega (arith, k)))

none-there : (n k : ℕ) → get_or {A = ℕ} (replicate n 0) k 0 ≡ 0
none-there zero k = refl
none-there (suc n) zero = refl
none-there (suc n) (suc k) = none-there n k

pub there-start : (n : ℕ) (ls : List (List ℕ)) → n ≡ length ls → AreThere (replicate n 0) ls
there-start n ls h = record { each = length-replicate {A = ℕ} n 0 ∙ h; low = λ k. let none = none-there n k in omega (arith, none) }

-- all, once as many are taken
pub taken-whole : (ns : List ℕ) (ls : List (List ℕ)) → length ns ≡ length ls → map length (taken ns ls) ≡ map length ls → taken ns ls ≡ ls
taken-whole [] [] h e = refl
taken-whole [] (l ∷ ls) h e = absurd (omega (arith, h))
taken-whole (n ∷ ns) [] h e = absurd (omega (arith, h))
taken-whole (n ∷ ns) (l ∷ ls) h e =
    let first : length (take n l) ≡ length l = cc e in
    let rest : map length (taken ns ls) ≡ map length ls = cc e in
    (λ i. take_all n l (omega (arith, first, length-take n l)) i ∷ taken-whole ns ls (omega (arith, h)) rest i)

module _ (ns : List ℕ) (ls : List (List ℕ)) (there : AreThere ns ls) where
  pub length-there : (k : ℕ) → length (get_or (taken ns ls) k []) ≡ get_or ns k 0
  length-there k = ap length (get_or-taken ns ls k there.each) ∙ length-take (get_or ns k 0) (get_or ls k []) ∙ (let low = there.low k in omega arith)

  -- one value more of a list
  module _ (k x : ℕ) (listed : k < length ls) (room : get_or ns k 0 < length (get_or ls k [])) where
    pub taken-more : taken (set ns k (get_or ns k 0 + 1)) (set ls k (set (get_or ls k []) (get_or ns k 0) x)) ≡ set (taken ns ls) k (get_or (taken ns ls) k [] ++ x ∷ [])
    taken-more =
        taken-set ns ls k (get_or ns k 0 + 1) (set (get_or ls k []) (get_or ns k 0) x)
        ∙ ap (set (taken ns ls) k) (take_more_set (get_or ls k []) (get_or ns k 0) x room ∙ ap (λ (l : List ℕ). l ++ x ∷ []) (sym (get_or-taken ns ls k there.each)))

    same_length : length (set (get_or ls k []) (get_or ns k 0) x) ≡ length (get_or ls k [])
    same_length = length-set (get_or ls k []) (get_or ns k 0) x

    pub rooms-more : map length (set ls k (set (get_or ls k []) (get_or ns k 0) x)) ≡ map length ls
    rooms-more =
        map-set length ls k (set (get_or ls k []) (get_or ns k 0) x)
        ∙ ap (set (map length ls) k) (same_length ∙ sym (get_or-map length ls k [] 0 listed)) ∙ set-get_or (map length ls) k 0

    pub there-more : AreThere (set ns k (get_or ns k 0 + 1)) (set ls k (set (get_or ls k []) (get_or ns k 0) x))
    there-more = record {
      each = length-set ns k (get_or ns k 0 + 1) ∙ there.each ∙ sym (length-set ls k (set (get_or ls k []) (get_or ns k 0) x));
      low = λ j. ⊎_elim
          (λ same.
          let more : get_or (set ns k (get_or ns k 0 + 1)) j 0 ≡ get_or ns k 0 + 1 = ap (λ m. get_or (set ns k (get_or ns k 0 + 1)) m 0) same ∙ get_or-set_same ns k (get_or ns k 0 + 1) 0 (let each = there.each in omega arith) in
          let list : length (get_or (set ls k (set (get_or ls k []) (get_or ns k 0) x)) j []) ≡ length (get_or ls k []) =
          ap length (ap (λ m. get_or (set ls k (set (get_or ls k []) (get_or ns k 0) x)) m []) same ∙ get_or-set_same ls k (set (get_or ls k []) (get_or ns k 0) x) [] listed) ∙ same_length in
          omega (arith, more, list, room))
          (λ other.
          let kept = get_or-set_other ns k j (get_or ns k 0 + 1) 0 other in
          let list = ap length (get_or-set_other ls k j (set (get_or ls k []) (get_or ns k 0) x) [] other) in
          let low = there.low j in
          omega (arith, kept, list, low))
          (cases_eq j k);
    }

-- where there is room for one more
pub room-there : (ns : List ℕ) (ls : List (List ℕ)) (k : ℕ) → AreThere ns ls → k < length (taken ns ls) → length (get_or (taken ns ls) k []) < get_or (map length ls) k 0
    → (k < length ns) × (k < length ls) × (get_or ns k 0 < length (get_or ls k []))
room-there ns ls k there listed room =
    let size = length-taken ns ls there.each in
    let here : k < length ls = omega (arith, size) in
    let so_far = length-there ns ls there k in
    let all = get_or-map length ls k [] 0 here in
    (omega (arith, size, there.each), here, omega (arith, so_far, all))
