-- Slots that are all filled.
use Rattle.std.proofs.Common.{◌≡◌, ℕ, ◌<◌, List, [], ◌∷◌, ◌++◌, map, length, get_or, Option, Some, sym, ap, ◌∙◌, subst, arith, append_assoc, append-nil}
use Rattle.std.specs.Prelude.{IfSome}
use Rattle.std.proofs.lemmas.List.{length-map, get_or-map, map-append, ext_get_or}
use Rattle.rank_defs.specs.Spread.{ScatterPart}
use Rattle.dist_state.specs.scatter_state.Whole.{part_at}
use Rattle.interp_share.specs.rank_points.Seen.{Seen, seen_of, all_seen}

-- the next slot is filled too
pub slot-filled : {X : Type 0} (slots : List (Option X)) (all now : List X) (slot : Option X) (x : X) (rest left : List (Option X)) → slots ≡ map Some all ++ rest → rest ≡ slot ∷ left → slot ≡ Some x → now ≡ all ++ x ∷ [] → slots ≡ map Some now ++ left
slot-filled {X} slots all now slot x rest left before next is pushed =
    before
    ∙ ap (λ l. map Some all ++ l) (next ∙ ap (λ o. o ∷ left) is)
    ∙ sym (append_assoc (map Some all) (Some x ∷ []) left)
    ∙ ap (λ l. l ++ left) (sym (map-append Some all (x ∷ [])) ∙ ap (map Some) (sym pushed))

-- no slot is left
pub slots-filled : {X : Type 0} (slots : List (Option X)) (all : List X) (rest : List (Option X)) → slots ≡ map Some all ++ rest → rest ≡ [] → slots ≡ map Some all
slots-filled slots all rest before none = before ∙ ap (λ l. map Some all ++ l) none ∙ append-nil (map Some all)

-- where each rank has put what it sees, this is what all ranks see
pub all-filled : (parts : List ScatterPart) (slots : List (Option Seen)) (seen : List Seen) → length slots ≡ length parts → ((r : ℕ) (d : Option Seen) → r < length slots → IfSome (get_or slots r d) (λ s. s ≡ seen_of (part_at parts r).cells)) → slots ≡ map Some seen → seen ≡ all_seen parts
all-filled parts slots seen count each filled =
    let many : length slots ≡ length seen = ap length filled ∙ length-map seen Some in
    let d : Seen = seen_of [] in
    ext_get_or d seen (all_seen parts) (omega (arith, many, count, length-map parts (λ (part : ScatterPart). seen_of part.cells)))
    (λ i low.
    let there : get_or slots i (Some d) ≡ Some (get_or seen i d) = ap (λ l. get_or l i (Some d)) filled ∙ get_or-map Some seen i d (Some d) low in
    subst (λ o. IfSome o (λ s. s ≡ seen_of (part_at parts i).cells)) there (each i (Some d) (omega (arith, many, low)))
    ∙ sym (get_or-map (λ (part : ScatterPart). seen_of part.cells) parts i (part_at [] 0) d (omega (arith, many, count, low))))
