-- What readers of bodies yield, whatever they read.
use Rattle.std.proofs.Common.{◌≡◌, ℕ, zero, suc, List, [], ◌∷◌, length, Ok, Err, refl, ap, ◌∙◌, subst}
use Rattle.std.specs.Prelude.{Result}
use Rattle.std.specs.List.{AllByRecursion}
use Rattle.input_defs.specs.declared.scan_defs.NumberFault.{NumberFault}
use Rattle.input_defs.specs.Bodies.{Lexeme, Faults, Reader, give, ◌>>=◌, read_on, many, with_rest, number_where, tested, whole, nothing_left}

abbrev pub ok : {A E : Type 0} → A → Result A E
ok x = Ok x

-- the same answer
pub ok-same : {A E : Type 0} {x y : A} → ok {E = E} x ≡ ok y → x ≡ y
ok-same h = cc h

-- ---- what readers yield

-- what is read has the property
pub Yields : {E A : Type 0} → (A → Type 0) → Reader E A → Type 0
Yields {E} {A} P r = (f : Faults E) (body rest : List Lexeme) (x : A) → r f body ≡ Ok (x, rest) → P x

pub yields-anything : {E A : Type 0} (r : Reader E A) → Yields (λ x. Unit {0}) r
unfolding Yields
yields-anything r f body rest x h = tt

pub give-yields : (E : Type 0) {A : Type 0} (P : A → Type 0) (x : A) → P x → Yields P (give {E = E} x)
unfolding Yields
give-yields E {A} P x p f body rest y h = let same : x ≡ y = ap (λ (g : A × List Lexeme). g.0) (ok-same h) in subst P same p

pub bind-yields : {E A B : Type 0} (Q : A → Type 0) (P : B → Type 0) (r : Reader E A) (k : A → Reader E B) → Yields Q r → ((x : A) → Q x → Yields P (k x)) → Yields P (r >>= k)
unfolding Yields
bind-yields {E} {A} {B} Q P r k first second f body rest y h = go (r f body) refl h
  where
    go : (o : Result (A × List Lexeme) E) → r f body ≡ o → read_on k f o ≡ Ok (y, rest) → P y
    go (Ok got) is t = second got.0 (first f body got.1 got.0 is) f got.1 rest y t
    go (Err e) is t = absurd (cc t)

pub many-yields : {E A : Type 0} (P : A → Type 0) (r : Reader E A) (n : ℕ) → Yields P r → Yields (AllByRecursion P) (many n r)
many-yields {E} P r zero each = give-yields E (AllByRecursion P) [] tt
many-yields {E} P r (suc n) each = bind-yields P (AllByRecursion P) r (λ x. many n r >>= (λ xs. give {E = E} (x ∷ xs))) each (λ x p.
    bind-yields (AllByRecursion P) (AllByRecursion P) (many n r) (λ xs. give {E = E} (x ∷ xs)) (many-yields P r n each) (λ xs q. give-yields E (AllByRecursion P) (x ∷ xs) (p, q)))

-- what is read has two properties
pub both-yield : {E A : Type 0} (P Q : A → Type 0) (r : Reader E A) → Yields P r → Yields Q r → Yields (λ x. P x × Q x) r
unfolding Yields
both-yield P Q r p q f body rest x h = (p f body rest x h, q f body rest x h)

-- the first property implies the second
pub weaker-yields : {E A : Type 0} (P Q : A → Type 0) (r : Reader E A) → ((x : A) → P x → Q x) → Yields P r → Yields Q r
unfolding Yields
weaker-yields P Q r weaker p f body rest x h = weaker x (p f body rest x h)

pub many-yields-length : {E A : Type 0} (r : Reader E A) (n : ℕ) → Yields (λ xs. length xs ≡ n) (many n r)
many-yields-length {E} r zero = give-yields E (λ xs. length xs ≡ 0) [] refl
many-yields-length {E} {A} r (suc n) = bind-yields (λ x. Unit {0}) (λ xs. length xs ≡ suc n) r (λ x. many n r >>= (λ xs. give {E = E} (x ∷ xs))) (yields-anything r) (λ x p.
    bind-yields (λ xs. length xs ≡ n) (λ xs. length xs ≡ suc n) (many n r) (λ xs. give {E = E} (x ∷ xs)) (many-yields-length r n) (λ xs q. give-yields E (λ ys. length ys ≡ suc n) (x ∷ xs) (ap suc q)))

-- a number that passes a test
pub tested-yields : {E A B : Type 0} (P : B → Type 0) (number_of : List ℕ → Result A NumberFault) (test : ℕ → A → Result B E) → ((text : List ℕ) (l : ℕ) (x : A) (y : B) → number_of text ≡ Ok x → test l x ≡ Ok y → P y) → Yields P (tested number_of test)
unfolding Yields
tested-yields P number_of test passes f [] rest y h = absurd (cc h)
tested-yields {E} {A} {B} P number_of test passes f (w ∷ ws) rest y h = go (number_of w.text) refl h
  where
    on : (x : A) (o : Result B E) → number_of w.text ≡ Ok x → test w.line x ≡ o → with_rest ws o ≡ Ok (y, rest) → P y
    on x (Ok z) read is t = let same : z ≡ y = ap (λ (g : B × List Lexeme). g.0) (ok-same t) in passes w.text w.line x y read (is ∙ ap Ok same)
    on x (Err e) read is t = absurd (cc t)

    go : (o : Result A NumberFault) → number_of w.text ≡ o → with_rest ws (number_where f w.line test o) ≡ Ok (y, rest) → P y
    go (Ok x) read t = on x (test w.line x) read refl t
    go (Err n) read t = absurd (cc t)

pub whole-yields : {E A : Type 0} (P : A → Type 0) (extra : ℕ → E) (r : Reader E A) (f : Faults E) (body : List Lexeme) (x : A) → Yields P r → whole extra r f body ≡ Ok x → P x
unfolding Yields
whole-yields {E} {A} P extra r f body x each h = go (r f body) refl h
  where
    go : (o : Result (A × List Lexeme) E) → r f body ≡ o → nothing_left extra o ≡ Ok x → P x
    go (Ok (y, [])) is t = subst P (ok-same t) (each f body [] y is)
    go (Ok (y, w ∷ ws)) is t = absurd (cc t)
    go (Err e) is t = absurd (cc t)
