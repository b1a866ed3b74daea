-- What an answer without a fault says of the causes, and elements of lists.
use Rattle.std.proofs.Common.{◌≡◌, Bool, true, false, cond, List, [], ◌∷◌, Option, Some, None, Ok, Err, refl}
use Rattle.std.specs.Prelude.{Result, find, option_map}
use Rattle.std.specs.List.{AllByRecursion}
use Rattle.input_defs.specs.Causes.{first_cause, unless, ◌>>=◌}

-- no fault stands, and this is the answer
pub unless-ok : {A E : Type 0} (o : Option E) (x y : A) → unless o x ≡ Ok y → (o ≡ None) × (x ≡ y)
unless-ok (Some e) x y h = absurd (cc h)
unless-ok None x y h = (refl, cc h)

-- no cause stands
pub first_cause-none : {E : Type 0} (causes : List (Bool × E)) → first_cause causes ≡ None → AllByRecursion (λ (c : Bool × E). c.0 ≡ false) causes
first_cause-none [] h = tt
first_cause-none {E} (c ∷ cs) h = go c.0 refl h (first_cause-none cs)
  where
    go : (b : Bool) → c.0 ≡ b → option_map (λ (d : Bool × E). d.1) (cond b (Some c) (find (λ d. d.0) cs)) ≡ None → (first_cause cs ≡ None → AllByRecursion (λ (d : Bool × E). d.0 ≡ false) cs) → AllByRecursion (λ (d : Bool × E). d.0 ≡ false) (c ∷ cs)
    go true e g r = absurd (cc g)
    go false e g r = (e, r g)

-- an answer of two steps
pub bind-ok : {A B E : Type 0} (r : Result A E) (k : A → Result B E) (y : B) → (r >>= k) ≡ Ok y → (x : A) × (r ≡ Ok x) × (k x ≡ Ok y)
bind-ok (Ok x) k y h = (x, refl, h)
bind-ok (Err e) k y h = absurd (cc h)

-- the same, by a name
abbrev pub bind : {A B E : Type 0} → Result A E → (A → Result B E) → Result B E
bind r k = r >>= k
