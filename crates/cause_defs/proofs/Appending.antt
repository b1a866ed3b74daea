-- Texts that are appended one after another, whole or in part.
use Rattle.std.proofs.Common.{◌≡◌, ℕ, zero, suc, ◌+◌, List, [], ◌∷◌, ◌++◌, length, take, Option, Some, None, Result, Ok, Err, refl, sym, ap, ◌∙◌, append_assoc, arith}
use Rattle.std.proofs.Math.Seq.{take-append-add}
use Rattle.std.proofs.lemmas.List.{append-nil, take_all}
use Rattle.cause_defs.specs.Written.{appended, AppendsPart, Prints}

-- nothing is appended
pub appended-nil : (old : Option (List ℕ)) → appended old [] ≡ old
appended-nil None = refl
appended-nil (Some bytes) = ap (λ (x : List ℕ). Some x) (append-nil bytes)

-- twice
pub appended-appended : (old : Option (List ℕ)) (x y : List ℕ) → appended (appended old x) y ≡ appended old (x ++ y)
appended-appended None x y = refl
appended-appended (Some bytes) x y = ap (λ (z : List ℕ). Some z) (append_assoc bytes x y)

-- what is taken of a front is taken of the whole
take_front : (n : ℕ) (x y : List ℕ) → (m : ℕ) × (take n x ≡ take m (x ++ y))
take_front zero x y = (0, refl)
take_front (suc n) [] y = (0, refl)
take_front (suc n) (a ∷ x) y =
    let q = take_front n x y in
    (suc q.0, ap (λ (z : List ℕ). a ∷ z) q.1)

pub AppendsPart-none : (old : Option (List ℕ)) (x : List ℕ) → AppendsPart old old x
AppendsPart-none old x = (0, sym (appended-nil old))

pub AppendsPart-whole : (old new : Option (List ℕ)) (x : List ℕ) → new ≡ appended old x → AppendsPart old new x
AppendsPart-whole old new x e = (length x, e ∙ ap (appended old) (sym (take_all (length x) x (omega arith))))

-- a part of the first text is a part of both
pub AppendsPart-first : (old new : Option (List ℕ)) (x y : List ℕ) → AppendsPart old new x → AppendsPart old new (x ++ y)
AppendsPart-first old new x y p =
    let q = take_front p.0 x y in
    (q.0, p.1 ∙ ap (appended old) q.1)

-- the first text, and a part of the second
pub AppendsPart-second : (old mid new : Option (List ℕ)) (x y : List ℕ) → mid ≡ appended old x → AppendsPart mid new y → AppendsPart old new (x ++ y)
AppendsPart-second old mid new x y e p =
    let both : new ≡ appended old (x ++ take p.0 y) = p.1 ∙ ap (λ (o : Option (List ℕ)). appended o (take p.0 y)) e ∙ appended-appended old x (take p.0 y) in
    (length x + p.0, both ∙ ap (appended old) (sym (take-append-add x y p.0)))

-- both texts in turn, however the second went
pub Prints-second : {A E : Type 0} (r : Result A E) (old mid new : Option (List ℕ)) (x y : List ℕ) → mid ≡ appended old x → Prints r mid new y → Prints r old new (x ++ y)
Prints-second (Ok v) old mid new x y e p = p ∙ ap (λ (o : Option (List ℕ)). appended o y) e ∙ appended-appended old x y
Prints-second (Err v) old mid new x y e p = AppendsPart-second old mid new x y e p
