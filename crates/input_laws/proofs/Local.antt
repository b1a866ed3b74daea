-- What a body says up to a line does not depend on what stands after that line: readers are local.
use Rattle.std.proofs.Common.{◌≡◌, ℕ, zero, suc, ◌<◌, ◌≤◌, Bool, true, false, cond, ◌==◌, List, [], ◌∷◌, ◌++◌, Option, Some, None, Ok, Err, refl, sym, ap, ◌∙◌, subst, arith}
use Rattle.std.specs.Prelude.{Result}
use Rattle.std.specs.List.{AllByRecursion}
use Rattle.std.proofs.lemmas.Bool.{ne_eqb, cond-false}
use Rattle.input_defs.specs.declared.scan_defs.NumberFault.{NumberFault}
use Rattle.input_defs.specs.Bodies.{Lexeme, Faults, Reader, give, ◌>>=◌, read_on, many, with_rest, number_where, tested, after_line, text_where, quoted, nothing_left, whole}

-- tokens after a line, and tokens up to it
abbrev pub Beyond : ℕ → List Lexeme → Type 0
Beyond l ws = AllByRecursion (λ (w : Lexeme). l < w.line) ws

abbrev pub Upto : ℕ → List Lexeme → Type 0
Upto l ws = AllByRecursion (λ (w : Lexeme). w.line ≤ l) ws

-- where `at` is the line of a fault: the faults of a body are on the lines that they are told
pub record TellLines {E : Type 0} (at : E → ℕ) (f : Faults E) : Type 0 where
  pub number : (e : NumberFault) (l : ℕ) → at (f.number e l) ≡ l
  pub name : (l : ℕ) → at (f.name l) ≡ l

-- two bodies have the same faults but for their ends
pub record SameButEnd {E : Type 0} (f g : Faults E) : Type 0 where
  pub number : (e : NumberFault) (l : ℕ) → f.number e l ≡ g.number e l
  pub name : (l : ℕ) → f.name l ≡ g.name l

-- the fault is after a line, or so are all tokens that are left
abbrev pub Late : {E A : Type 0} → (E → ℕ) → ℕ → Result (A × List Lexeme) E → Type 0
Late at l (Ok got) = Beyond l got.1
Late at l (Err e) = l < at e

-- What a reader does with tokens up to a line, and others after it: it comes to those after, or it stops before them in
-- the same way whatever they are.
pub data Outcome {E A : Type 0} (at : E → ℕ) (l : ℕ) (r : Reader E A) (f : Faults E) (ps xs : List Lexeme) : Type 0 where
  passes : Late at l (r f (ps ++ xs)) → Outcome at l r f ps xs
  reads : (x : A) (qs : List Lexeme) → Upto l qs → ((g : Faults E) (ys : List Lexeme) → SameButEnd f g → Beyond l ys → r g (ps ++ ys) ≡ Ok (x, qs ++ ys)) → Outcome at l r f ps xs
  fails : (e : E) → ((g : Faults E) (ys : List Lexeme) → SameButEnd f g → Beyond l ys → r g (ps ++ ys) ≡ Err e) → Outcome at l r f ps xs

pub record IsLocal {E A : Type 0} (at : E → ℕ) (r : Reader E A) : Type 0 where
  pub beyond : (l : ℕ) (f : Faults E) (xs : List Lexeme) → TellLines at f → l < at f.ended → Beyond l xs → Late at l (r f xs)
  pub before : (l : ℕ) (f : Faults E) (ps xs : List Lexeme) → TellLines at f → l < at f.ended → Upto l ps → Beyond l xs → Outcome at l r f ps xs

same-refl : {E : Type 0} (f : Faults E) → SameButEnd f f
same-refl f = record { number = λ e l. refl; name = λ l. refl }

-- ---- nothing, and one after the other

pub give-local : {E A : Type 0} (at : E → ℕ) (x : A) → IsLocal at (give {E = E} x)
give-local at x = record {
  beyond = λ l f xs tell end late. late;
  before = λ l f ps xs tell end upto late. reads x ps upto (λ g ys same beyond. refl);
}

pub bind-local : {E A B : Type 0} (at : E → ℕ) (r : Reader E A) (k : A → Reader E B) → IsLocal at r → ((x : A) → IsLocal at (k x)) → IsLocal at (r >>= k)
bind-local {E} {A} {B} at r k first second = record {
  beyond = λ l f xs tell end late. on l f tell end (r f xs) (first.beyond l f xs tell end late);
  before = λ l f ps xs tell end upto late. go l f ps xs tell end late (first.before l f ps xs tell end upto late);
}
  where
    on : (l : ℕ) (f : Faults E) → TellLines at f → l < at f.ended → (o : Result (A × List Lexeme) E) → Late at l o → Late at l (read_on k f o)
    on l f tell end (Ok got) late = (second got.0).beyond l f got.1 tell end late
    on l f tell end (Err e) late = late

    further : (l : ℕ) (f : Faults E) (ps xs : List Lexeme) (x : A) (qs : List Lexeme) → ((g : Faults E) (ys : List Lexeme) → SameButEnd f g → Beyond l ys → r g (ps ++ ys) ≡ Ok (x, qs ++ ys)) → Beyond l xs → Outcome at l (k x) f qs xs → Outcome at l (r >>= k) f ps xs
    further l f ps xs x qs h beyond (passes t) = passes (subst (λ o. Late at l (read_on k f o)) (sym (h f xs (same-refl f) beyond)) t)
    further l f ps xs x qs h beyond (reads y os upto t) = reads y os upto (λ g ys same b. ap (read_on k g) (h g ys same b) ∙ t g ys same b)
    further l f ps xs x qs h beyond (fails e t) = fails e (λ g ys same b. ap (read_on k g) (h g ys same b) ∙ t g ys same b)

    go : (l : ℕ) (f : Faults E) (ps xs : List Lexeme) → TellLines at f → l < at f.ended → Beyond l xs → Outcome at l r f ps xs → Outcome at l (r >>= k) f ps xs
    go l f ps xs tell end beyond (passes t) = passes (on l f tell end (r f (ps ++ xs)) t)
    go l f ps xs tell end beyond (reads x qs upto h) = further l f ps xs x qs h beyond ((second x).before l f qs xs tell end upto beyond)
    go l f ps xs tell end beyond (fails e h) = fails e (λ g ys same b. ap (read_on k g) (h g ys same b))

pub many-local : {E A : Type 0} (at : E → ℕ) (r : Reader E A) (n : ℕ) → IsLocal at r → IsLocal at (many n r)
many-local at r zero first = give-local at []
many-local {E} at r (suc n) first = bind-local at r (λ x. many n r >>= (λ xs. give {E = E} (x ∷ xs))) first (λ x. bind-local at (many n r) (λ xs. give {E = E} (x ∷ xs)) (many-local at r n first) (λ xs. give-local at (x ∷ xs)))

-- ---- one token

pub tested-local : {E A B : Type 0} (at : E → ℕ) (number_of : List ℕ → Result A NumberFault) (test : ℕ → A → Result B E) → ((l : ℕ) (x : A) (e : E) → test l x ≡ Err e → at e ≡ l) → IsLocal at (tested number_of test)
tested-local {E} {A} {B} at number_of test told = record { beyond = beyond-of; before = before-of }
  where
    line_of_fault : (f : Faults E) → TellLines at f → (l : ℕ) (o : Result A NumberFault) (e : E) → number_where f l test o ≡ Err e → at e ≡ l
    line_of_fault f tell l (Ok x) e h = told l x e h
    line_of_fault f tell l (Err n) e h = let same : f.number n l ≡ e = cc h in ap at (sym same) ∙ tell.number n l

    late_of : (l line : ℕ) (o : Result B E) (rest : List Lexeme) → l < line → Beyond l rest → ((e : E) → o ≡ Err e → at e ≡ line) → Late at l (with_rest rest o)
    late_of l line (Ok x) rest less beyond where_fault = beyond
    late_of l line (Err e) rest less beyond where_fault = omega (arith, where_fault e refl, less)

    beyond-of : (l : ℕ) (f : Faults E) (xs : List Lexeme) → TellLines at f → l < at f.ended → Beyond l xs → Late at l (tested number_of test f xs)
    beyond-of l f [] tell end late = end
    beyond-of l f (w ∷ ws) tell end late = late_of l w.line (number_where f w.line test (number_of w.text)) ws late.0 late.1 (λ e h. line_of_fault f tell w.line (number_of w.text) e h)

    same_answer : (f g : Faults E) (l : ℕ) (o : Result A NumberFault) → SameButEnd f g → number_where g l test o ≡ number_where f l test o
    same_answer f g l (Ok x) same = refl
    same_answer f g l (Err n) same = ap Err (sym (same.number n l))

    outcome : (l : ℕ) (f : Faults E) (w : Lexeme) (ps xs : List Lexeme) → Upto l ps → (o : Result B E) → number_where f w.line test (number_of w.text) ≡ o → Outcome at l (tested number_of test) f (w ∷ ps) xs
    outcome l f w ps xs upto (Ok x) is = reads x ps upto (λ g ys same b. ap (with_rest (ps ++ ys)) (same_answer f g w.line (number_of w.text) same ∙ is))
    outcome l f w ps xs upto (Err e) is = fails e (λ g ys same b. ap (with_rest (ps ++ ys)) (same_answer f g w.line (number_of w.text) same ∙ is))

    before-of : (l : ℕ) (f : Faults E) (ps xs : List Lexeme) → TellLines at f → l < at f.ended → Upto l ps → Beyond l xs → Outcome at l (tested number_of test) f ps xs
    before-of l f [] xs tell end upto beyond = passes (beyond-of l f xs tell end beyond)
    before-of l f (w ∷ ps) xs tell end upto beyond = outcome l f w ps xs upto.1 (number_where f w.line test (number_of w.text)) refl

-- ---- a quoted text

-- what all tokens have, those after the tokens of a line have
after_line-all : (P : Lexeme → Type 0) (line : ℕ) (ws : List Lexeme) → AllByRecursion P ws → AllByRecursion P (after_line line ws)
after_line-all P line [] h = tt
after_line-all P line (w ∷ ws) h = go (w.line == line) (after_line-all P line ws h.1)
  where
    go : (b : Bool) → AllByRecursion P (after_line line ws) → AllByRecursion P (cond b (after_line line ws) (w ∷ ws))
    go true r = r
    go false r = h

after_line-append : (l line : ℕ) (ps ys : List Lexeme) → line ≤ l → Beyond l ys → after_line line (ps ++ ys) ≡ after_line line ps ++ ys
after_line-append l line [] [] low late = refl
after_line-append l line [] (w ∷ ws) low late = cond-false (w.line == line) (after_line line ws) (w ∷ ws) (ne_eqb w.line line (λ same. absurd (omega (arith, same, late.0, low))))
after_line-append l line (p ∷ ps) ys low late = go (p.line == line) (after_line-append l line ps ys low late)
  where
    go : (b : Bool) → after_line line (ps ++ ys) ≡ after_line line ps ++ ys → cond b (after_line line (ps ++ ys)) (p ∷ (ps ++ ys)) ≡ cond b (after_line line ps) (p ∷ ps) ++ ys
    go true r = r
    go false r = refl

pub quoted-local : {E : Type 0} (at : E → ℕ) → IsLocal at (quoted {E = E})
quoted-local {E} at = record { beyond = beyond-of; before = before-of }
  where
    late_of : (l : ℕ) (f : Faults E) (line : ℕ) (rest : List Lexeme) (text : Option (List ℕ)) → TellLines at f → l < line → Beyond l rest → Late at l (text_where f line rest text)
    late_of l f line rest None tell less late = omega (arith, tell.name line, less)
    late_of l f line rest (Some text) tell less late = after_line-all (λ (v : Lexeme). l < v.line) line rest late

    beyond-of : (l : ℕ) (f : Faults E) (xs : List Lexeme) → TellLines at f → l < at f.ended → Beyond l xs → Late at l (quoted f xs)
    beyond-of l f [] tell end late = end
    beyond-of l f (w ∷ ws) tell end late = late_of l f w.line ws w.quoted tell late.0 late.1

    outcome : (l : ℕ) (f : Faults E) (w : Lexeme) (ps xs : List Lexeme) → w.line ≤ l → Upto l ps → (text : Option (List ℕ)) → w.quoted ≡ text → Outcome at l quoted f (w ∷ ps) xs
    outcome l f w ps xs low upto None is = fails (f.name w.line) (λ g ys same b. ap (text_where g w.line (ps ++ ys)) is ∙ ap Err (sym (same.name w.line)))
    outcome l f w ps xs low upto (Some text) is = reads text (after_line w.line ps) (after_line-all (λ (v : Lexeme). v.line ≤ l) w.line ps upto) (λ g ys same b. ap (text_where g w.line (ps ++ ys)) is ∙ ap (λ rest. Ok (text, rest)) (after_line-append l w.line ps ys low b))

    before-of : (l : ℕ) (f : Faults E) (ps xs : List Lexeme) → TellLines at f → l < at f.ended → Upto l ps → Beyond l xs → Outcome at l quoted f ps xs
    before-of l f [] xs tell end upto beyond = passes (beyond-of l f xs tell end beyond)
    before-of l f (w ∷ ps) xs tell end upto beyond = outcome l f w ps xs upto.0 upto.1 w.quoted refl

-- ---- a whole body

-- a fault of what is left after a line is after it
left_beyond : {E A : Type 0} (at : E → ℕ) (extra : ℕ → E) → ((l : ℕ) → at (extra l) ≡ l) → (l : ℕ) (o : Result (A × List Lexeme) E) (e : E) → Late at l o → nothing_left extra o ≡ Err e → l < at e
left_beyond at extra told l (Ok (x, [])) e late h = absurd (cc h)
left_beyond at extra told l (Ok (x, w ∷ ws)) e late h = let same : extra w.line ≡ e = cc h in let on : at e ≡ w.line = ap at (sym same) ∙ told w.line in omega (arith, on, late.0)
left_beyond at extra told l (Err e') e late h = let same : e' ≡ e = cc h in let on : at e' ≡ at e = ap at same in omega (arith, on, late)

-- a fault of tokens after a line is after it
pub whole-beyond : {E A : Type 0} (at : E → ℕ) (extra : ℕ → E) (r : Reader E A) → ((l : ℕ) → at (extra l) ≡ l) → IsLocal at r
    → (l : ℕ) (f : Faults E) (xs : List Lexeme) (e : E) → TellLines at f → l < at f.ended → Beyond l xs → whole extra r f xs ≡ Err e → l < at e
whole-beyond {E} {A} at extra r told local l f xs e tell end beyond h = left_beyond at extra told l (r f xs) e (local.beyond l f xs tell end beyond) h

-- a fault up to a line is there whatever stands after it
pub whole-before : {E A : Type 0} (at : E → ℕ) (extra : ℕ → E) (r : Reader E A) → ((l : ℕ) → at (extra l) ≡ l) → IsLocal at r
    → (l : ℕ) (f g : Faults E) (ps xs ys : List Lexeme) (e : E) → TellLines at f → l < at f.ended → SameButEnd f g → Upto l ps → Beyond l xs → Beyond l ys
    → whole extra r f (ps ++ xs) ≡ Err e → at e ≤ l → whole extra r g (ps ++ ys) ≡ Err e
whole-before {E} {A} at extra r told local l f g ps xs ys e tell end same upto xs_beyond ys_beyond h low = go (local.before l f ps xs tell end upto xs_beyond)
  where
    rest : (x : A) (qs : List Lexeme) → nothing_left extra (Ok (x, qs ++ xs)) ≡ Err e → nothing_left extra (Ok (x, qs ++ ys)) ≡ Err e
    rest x [] t = absurd (omega (arith, low, left_beyond at extra told l (Ok (x, xs)) e xs_beyond t))
    rest x (q ∷ qs) t = t

    go : Outcome at l r f ps xs → whole extra r g (ps ++ ys) ≡ Err e
    go (passes t) = absurd (omega (arith, low, left_beyond at extra told l (r f (ps ++ xs)) e t h))
    go (reads x qs upto t) = ap (nothing_left extra) (t g ys same ys_beyond) ∙ rest x qs (sym (ap (nothing_left extra) (t f xs (same-refl f) xs_beyond)) ∙ h)
    go (fails e' t) = ap (nothing_left extra) (t g ys same ys_beyond) ∙ (sym (ap (nothing_left extra) (t f xs (same-refl f) xs_beyond)) ∙ h)
