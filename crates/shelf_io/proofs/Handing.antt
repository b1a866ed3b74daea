-- What a writer holds after several writes, and what waits for it.
use Rattle.std.proofs.Common.{◌≡◌, ℕ, ◌+◌, ◌-◌, ◌≤◌, List, ◌++◌, length, Option, None, Some, take, drop, refl, sym, ap, ◌∙◌, append_assoc, arith}
use Rattle.std.proofs.KnownBytes.{Appends-trans}
use Rattle.std.proofs.Math.Seq.{take-add}
use Rattle.std.proofs.lemmas.List.{take_rest, drop-take, drop-drop, take_at, take-append-drop, length-drop, length-take, drop-append-le, length-append}
use Rattle.std.specs.Io.KnownBytes.{Appends}
use Rattle.cause_defs.specs.Written.{appended}
use Rattle.shelf_io.specs.Known.{StayWhereKnown}

-- a front of the bytes, and then a front of the rest
pub appends_front : (old mid new : Option (List ℕ)) (n m : ℕ) (bytes : List ℕ) → Appends old mid (take n bytes) → Appends mid new (take m (take (length bytes - n) (drop n bytes))) → Appends old new (take (n + m) bytes)
appends_front old mid new n m bytes p q =
    let r = rw (take_rest bytes n) at q in
    rw (take-add n m bytes) (Appends-trans old mid new (take n bytes) (take m (drop n bytes)) p r)

-- what waits when a front of it was handed on
pub rest_of_range : (room : List ℕ) (start done end : ℕ) → done ≤ end - start → take (end - (start + done)) (drop (start + done) room) ≡ drop done (take (end - start) (drop start room))
rest_of_range room start done end h =
    let e : end - start ≡ done + (end - (start + done)) = omega arith in
    rw (e, drop-take done (end - (start + done)) (drop start room), drop-drop done start room) refl

-- what was given stays when a front of what waits was handed on
pub given_stays : (old new : Option (List ℕ)) (done : ℕ) (waiting : List ℕ) → Appends old new (take done waiting) → StayWhereKnown (appended old waiting) (appended new (drop done waiting))
given_stays None new done waiting p = tt
given_stays (Some x) None done waiting p = absurd p
given_stays (Some x) (Some y) done waiting p =
    ap (λ (z : List ℕ). Some z) (ap (λ (z : List ℕ). z ++ drop done waiting) p ∙ append_assoc x (take done waiting) (drop done waiting) ∙ ap (λ (z : List ℕ). x ++ z) (take-append-drop done waiting))

-- what waits when bytes were put after it
pub range_extended : (room bytes rest : List ℕ) (start end : ℕ) → start ≤ end → end ≤ length room → take (end + length bytes - start) (drop start (take end room ++ (bytes ++ rest))) ≡ take (end - start) (drop start room) ++ bytes
range_extended room bytes rest start end h f =
    let front : List ℕ = take (end - start) (drop start room) in
    let e : end ≡ start + (end - start) = omega arith in
    let dropped : drop start (take end room) ≡ front = ap (λ (n : ℕ). drop start (take n room)) e ∙ drop-take start (end - start) room in
    let edge : start ≤ length (take end room) = omega (arith, length-take end room) in
    let whole : drop start (take end room ++ (bytes ++ rest)) ≡ (front ++ bytes) ++ rest = drop-append-le start (take end room) (bytes ++ rest) edge ∙ ap (λ (z : List ℕ). z ++ (bytes ++ rest)) dropped ∙ sym (append_assoc front bytes rest) in
    let size : length (front ++ bytes) ≡ end + length bytes - start = omega (arith, length-append front bytes, length-take (end - start) (drop start room), length-drop start room) in
    ap (take (end + length bytes - start)) whole ∙ take_at (front ++ bytes) rest (end + length bytes - start) size
