-- Readers one after the other, and a number with a test.
use Rattle.std.proofs.Common.{◌≡◌, ℕ, zero, suc, List, [], ◌∷◌, ◌++◌, get_or, length, Ok, Err, subst, refl, sym, ap, ◌∙◌, ◌+◌, append_assoc, add-zero, arith}
use Rattle.std.specs.Prelude.{Result}
use Rattle.std.specs.List.{AllByRecursion}
use Rattle.std.proofs.lemmas.List.{append-nil, length-append}
use Rattle.std.proofs.Math.Path.{fun_ext}
use Rattle.input_defs.specs.declared.scan_defs.NumberFault.{NumberFault}
use Rattle.input_defs.specs.Bodies.{Lexeme, Faults, Reader, give, read_on, ◌>>=◌, many, with_rest, number_where, tested, number, nothing_left, whole}
use Rattle.input_laws.specs.reading_laws.Lexemes.{IsNext}
use Rattle.input_laws.specs.reading_laws.Going.{lined, checked, passed, first_of, onto, end_of_body, closed}

-- ---- one after the other

pub then-ok : {E A B : Type 0} (r : Reader E A) (k : A → Reader E B) (faults : Faults E) (before after : List Lexeme) (x : A) → r faults before ≡ Ok (x, after) → (r >>= k) faults before ≡ k x faults after
then-ok r k faults before after x h = rw h refl

pub then-err : {E A B : Type 0} (r : Reader E A) (k : A → Reader E B) (faults : Faults E) (before : List Lexeme) (e : E) → r faults before ≡ Err e → (r >>= k) faults before ≡ Err e
then-err r k faults before e h = rw h refl

-- ---- a number

pub lined-ok : {E A : Type 0} (number_of : List ℕ → Result A NumberFault) (faults : Faults E) (text : List ℕ) (line : ℕ) (before after : List Lexeme) (x : A)
    → IsNext text line before after → Ok x ≡ number_of text → lined number_of faults before ≡ Ok ((x, line), after)
lined-ok number_of faults text line before after x next is = rw (next.first, next.text_is, next.line_is, ← is) refl

pub lined-err : {E A : Type 0} (number_of : List ℕ → Result A NumberFault) (faults : Faults E) (text : List ℕ) (line : ℕ) (before after : List Lexeme) (e : NumberFault)
    → IsNext text line before after → Err e ≡ number_of text → lined number_of faults before ≡ Err (faults.number e line)
lined-err number_of faults text line before after e next is = rw (next.first, next.text_is, next.line_is, ← is) refl

pub lined-ended : {E A : Type 0} (number_of : List ℕ → Result A NumberFault) (faults : Faults E) (before : List Lexeme) → before ≡ [] → lined number_of faults before ≡ Err faults.ended
lined-ended number_of faults before e = rw e refl

-- ---- readers that read the same

pub same : {E A : Type 0} {r s : Reader E A} → ((faults : Faults E) (body : List Lexeme) → r faults body ≡ s faults body) → r ≡ s
same each = fun_ext (λ faults. fun_ext (λ body. each faults body))

-- the second reader can be changed
pub bind-same : {E A B : Type 0} (r : Reader E A) {k l : A → Reader E B} → ((x : A) → k x ≡ l x) → (r >>= k) ≡ (r >>= l)
bind-same {E} {A} {B} r each = ap (λ (f : A → Reader E B). r >>= f) (fun_ext each)

assoc-at : {E A B C : Type 0} (k : A → Reader E B) (l : B → Reader E C) (faults : Faults E) (answer : Result (A × List Lexeme) E) → read_on l faults (read_on k faults answer) ≡ read_on (λ x. k x >>= l) faults answer
assoc-at k l faults (Ok got) = refl
assoc-at k l faults (Err e) = refl

pub bind-assoc : {E A B C : Type 0} (r : Reader E A) (k : A → Reader E B) (l : B → Reader E C) → ((r >>= k) >>= l) ≡ (r >>= (λ x. k x >>= l))
bind-assoc r k l = same (λ faults body. assoc-at k l faults (r faults body))

-- what comes next is part of the second reader
pub bind-pull : {E A B C : Type 0} (r : Reader E A) (k : A → Reader E B) (l : B → Reader E C) {m : A → Reader E C} → ((x : A) → m x ≡ (k x >>= l)) → (r >>= m) ≡ ((r >>= k) >>= l)
bind-pull r k l each = bind-same r each ∙ sym (bind-assoc r k l)

-- a number that has to pass a test is a number with its line, and then the test
tested-answer : {E A B : Type 0} (test : ℕ → A → Result B E) (faults : Faults E) (line : ℕ) (rest : List Lexeme) (answer : Result A NumberFault)
    → with_rest rest (number_where faults line test answer) ≡ read_on (λ (x : A × ℕ). checked (test x.1 x.0)) faults (with_rest rest (number_where faults line (λ l x. Ok (x, l)) answer))
tested-answer test faults line rest (Ok x) = refl
tested-answer test faults line rest (Err e) = refl

tested-at : {E A B : Type 0} (number_of : List ℕ → Result A NumberFault) (test : ℕ → A → Result B E) (faults : Faults E) (before : List Lexeme)
    → tested number_of test faults before ≡ (lined number_of >>= (λ x. checked (test x.1 x.0))) faults before
tested-at number_of test faults [] = refl
tested-at number_of test faults (token ∷ rest) = tested-answer test faults token.line rest (number_of token.text)

pub tested-lined : {E A B : Type 0} (number_of : List ℕ → Result A NumberFault) (test : ℕ → A → Result B E) → tested number_of test ≡ (lined number_of >>= (λ x. checked (test x.1 x.0)))
tested-lined number_of test = same (tested-at number_of test)

-- a number without its line
pub number-lined : {E A : Type 0} (number_of : List ℕ → Result A NumberFault) → number {E = E} number_of ≡ (lined number_of >>= (λ x. give x.0))
number-lined number_of = tested-lined number_of (λ line x. Ok x)

-- what two readers read, from what they read one after the other
pub bind-ok : {E A B : Type 0} (r : Reader E A) (k : A → Reader E B) (faults : Faults E) (body rest : List Lexeme) (y : B) → (r >>= k) faults body ≡ Ok (y, rest)
    → (x : A) × (mid : List Lexeme) × (r faults body ≡ Ok (x, mid)) × (k x faults mid ≡ Ok (y, rest))
bind-ok {E} {A} {B} r k faults body rest y h = go (r faults body) refl h
  where
    go : (answer : Result (A × List Lexeme) E) → r faults body ≡ answer → read_on k faults answer ≡ Ok (y, rest) → (x : A) × (mid : List Lexeme) × (r faults body ≡ Ok (x, mid)) × (k x faults mid ≡ Ok (y, rest))
    go (Ok got) e g = (got.0, got.1, e, g)
    go (Err e) f g = absurd (cc g)

-- ---- many

-- what is read and dropped, one by one
pub passed-many : {E A : Type 0} (r : Reader E A) (n : ℕ) → passed (many (suc n) r) ≡ (r >>= (λ x. passed (many n r)))
passed-many r n = bind-assoc r (λ x. many n r >>= (λ xs. give (x ∷ xs))) (λ xs. give (tt {0})) ∙ bind-same r (λ x. bind-assoc (many n r) (λ xs. give (x ∷ xs)) (λ xs. give (tt {0})))

-- the first of some is read, and the others are passed
pub first-some : {E A : Type 0} (none : A) (r : Reader E A) (n : ℕ) → first_of none (suc n) r ≡ (r >>= (λ x. passed (many n r) >>= (λ _. give x)))
first-some none r n =
    bind-assoc r (λ x. many n r >>= (λ xs. give (x ∷ xs))) (λ xs. give (get_or xs 0 none))
    ∙ bind-same r (λ x. bind-assoc (many n r) (λ xs. give (x ∷ xs)) (λ xs. give (get_or xs 0 none)) ∙ sym (bind-assoc (many n r) (λ xs. give (tt {0})) (λ _. give x)))

-- where no more than the first of some is used
pub first-used : {E A B : Type 0} (none : A) (r : Reader E A) (n : ℕ) (k : A → Reader E B) → (many n r >>= (λ xs. k (get_or xs 0 none))) ≡ (first_of none n r >>= k)
first-used none r n k = sym (bind-assoc (many n r) (λ xs. give (get_or xs 0 none)) k)

-- where none is used
pub passed-used : {E A B : Type 0} (r : Reader E A) (k : Reader E B) → (r >>= (λ x. k)) ≡ (passed r >>= (λ _. k))
passed-used r k = sym (bind-assoc r (λ x. give (tt {0})) (λ _. k))

-- so many, put after what was there
pub many-onto : {E A : Type 0} (r : Reader E A) (before : List A) (n : ℕ) → (many n r >>= (λ xs. give (before ++ xs))) ≡ onto (λ _. r) before n
many-onto r before zero = same (λ faults body. ap (λ xs. Ok (xs, body)) (append-nil before))
many-onto r before (suc n) =
    bind-assoc r (λ x. many n r >>= (λ xs. give (x ∷ xs))) (λ xs. give (before ++ xs))
    ∙ bind-same r (λ x. bind-assoc (many n r) (λ xs. give (x ∷ xs)) (λ xs. give (before ++ xs))
    ∙ bind-same (many n r) (λ xs. same (λ faults body. ap (λ ys. Ok (ys, body)) (sym (append_assoc before (x ∷ []) xs))))
    ∙ many-onto r (before ++ x ∷ []) n)

-- nothing more is read
give-at : {E A : Type 0} (faults : Faults E) (answer : Result (A × List Lexeme) E) → read_on give faults answer ≡ answer
give-at faults (Ok got) = refl
give-at faults (Err e) = refl

pub bind-give : {E A : Type 0} (r : Reader E A) → (r >>= give) ≡ r
bind-give r = same (λ faults body. give-at faults (r faults body))

-- so many, put after nothing
pub many-nothing : {E A : Type 0} (r : Reader E A) (n : ℕ) → many n r ≡ onto (λ _. r) [] n
many-nothing r n = sym (bind-give (many n r)) ∙ many-onto r [] n

pub onto-length : {E A : Type 0} (r : List A → Reader E A) (before : List A) (n : ℕ) (faults : Faults E) (body rest : List Lexeme) (xs : List A) → onto r before n faults body ≡ Ok (xs, rest) → length xs ≡ length before + n
onto-length {E} {A} r before zero faults body rest xs h = let got : List A × List Lexeme = (before, body) in let same : got ≡ (xs, rest) = cc h in ap (λ (p : List A × List Lexeme). length p.0) (sym same) ∙ sym (add-zero (length before))
onto-length {E} {A} r before (suc n) faults body rest xs h =
    let one = bind-ok (r before) (λ x. onto r (before ++ x ∷ []) n) faults body rest xs h in
    onto-length r (before ++ one.0 ∷ []) n faults one.1 rest xs one.3 ∙ (let more = length-append before (one.0 ∷ []) in omega (arith, more))

-- so many are as many
pub many-length : {E A : Type 0} (r : Reader E A) (n : ℕ) (faults : Faults E) (body rest : List Lexeme) (xs : List A) → many n r faults body ≡ Ok (xs, rest) → length xs ≡ n
many-length {E} {A} r zero faults body rest xs h = let got : List A × List Lexeme = ([], body) in let same : got ≡ (xs, rest) = cc h in ap (λ (p : List A × List Lexeme). length p.0) (sym same)
many-length {E} {A} r (suc n) faults body rest xs h =
    let one = bind-ok r (λ x. many n r >>= (λ ys. give (x ∷ ys))) faults body rest xs h in
    let more = bind-ok (many n r) (λ ys. give (one.0 ∷ ys)) faults one.1 rest xs one.3 in
    let got : List A × List Lexeme = (one.0 ∷ more.0, more.1) in
    let same : got ≡ (xs, rest) = cc more.3 in
    ap (λ (p : List A × List Lexeme). length p.0) (sym same) ∙ ap suc (many-length r n faults one.1 more.1 more.0 more.2)

-- what holds of each that is read holds of all
pub many-all : {E A : Type 0} (P : A → Type 0) (r : Reader E A) (n : ℕ) (faults : Faults E) (body rest : List Lexeme) (xs : List A)
    → ((before after : List Lexeme) (x : A) → r faults before ≡ Ok (x, after) → P x) → many n r faults body ≡ Ok (xs, rest) → AllByRecursion P xs
many-all {E} {A} P r zero faults body rest xs each h = let got : List A × List Lexeme = ([], body) in let same : got ≡ (xs, rest) = cc h in subst (λ (p : List A × List Lexeme). AllByRecursion P p.0) same tt
many-all {E} {A} P r (suc n) faults body rest xs each h =
    let one = bind-ok r (λ x. many n r >>= (λ ys. give (x ∷ ys))) faults body rest xs h in
    let more = bind-ok (many n r) (λ ys. give (one.0 ∷ ys)) faults one.1 rest xs one.3 in
    let got : List A × List Lexeme = (one.0 ∷ more.0, more.1) in
    let same : got ≡ (xs, rest) = cc more.3 in
    subst (λ (p : List A × List Lexeme). AllByRecursion P p.0) same (each body one.1 one.0 one.2, many-all P r n faults one.1 more.1 more.0 each more.2)

-- ---- a whole body

pub whole-ok : {E A : Type 0} (extra : ℕ → E) (r : Reader E A) (faults : Faults E) (body rest : List Lexeme) (x : A) → closed extra r faults body ≡ Ok (x, rest) → whole extra r faults body ≡ Ok x
whole-ok {E} {A} extra r faults body rest x h = go (r faults body) h
  where
    go : (answer : Result (A × List Lexeme) E) → read_on (λ x. end_of_body extra >>= (λ _. give x)) faults answer ≡ Ok (x, rest) → nothing_left extra answer ≡ Ok x
    go (Ok (y, [])) e = let read : A × List Lexeme = (y, []) in let same : read ≡ (x, rest) = cc e in ap (λ (p : A × List Lexeme). Ok p.0) same
    go (Ok (y, (token ∷ left))) e = absurd (cc e)
    go (Err f) e = absurd (cc e)

pub whole-err : {E A : Type 0} (extra : ℕ → E) (r : Reader E A) (faults : Faults E) (body : List Lexeme) (e : E) → closed extra r faults body ≡ Err e → whole extra r faults body ≡ Err e
whole-err {E} {A} extra r faults body e h = go (r faults body) h
  where
    go : (answer : Result (A × List Lexeme) E) → read_on (λ x. end_of_body extra >>= (λ _. give x)) faults answer ≡ Err e → nothing_left extra answer ≡ Err e
    go (Ok (y, [])) g = absurd (cc g)
    go (Ok (y, (token ∷ left))) g = let same : extra token.line ≡ e = cc g in ap (λ z. Err z) same
    go (Err f) g = let same : f ≡ e = cc g in ap (λ z. Err z) same

pub end-ok : {E : Type 0} (extra : ℕ → E) (faults : Faults E) (body : List Lexeme) → body ≡ [] → end_of_body extra faults body ≡ Ok (tt, body)
end-ok extra faults body e = rw e refl

pub end-err : {E : Type 0} (extra : ℕ → E) (faults : Faults E) (text : List ℕ) (line : ℕ) (before after : List Lexeme) → IsNext text line before after → end_of_body extra faults before ≡ Err (extra line)
end-err extra faults text line before after next = rw (next.first, next.line_is) refl
