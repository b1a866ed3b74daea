-- What a call reads that goes over a part of the body of a data section.
use Rattle.std.specs.Prelude.{◌≡◌, ◌≢◌, ℕ, zero, suc, List, [], ◌∷◌, ◌++◌, get_or, Result, Ok, Err}
use Rattle.input_defs.specs.scan_defs.Items.{Spot}
use Rattle.input_defs.specs.declared.scan_defs.NumberFault.{NumberFault}
use Rattle.input_defs.specs.declared.DataFault.{DataFault}
use Rattle.input_defs.specs.declared.DataFault.TheVariants.{Ended, NoMemory}
use Rattle.input_defs.specs.Bodies.{Reader, give, ◌>>=◌, many, tested, with_rest}
use Rattle.input_defs.specs.DataSections.{faults_at}
use Rattle.input_laws.specs.reading_laws.Lexemes.{lexemes, beyond, end_line, at_end}

-- a number with its line
abbrev pub lined : {E A : Type 0} → (List ℕ → Result A NumberFault) → Reader E (A × ℕ)
lined number_of = tested number_of (λ line x. Ok (x, line))

-- what a test made of what was read
abbrev pub checked : {E B : Type 0} → Result B E → Reader E B
checked answer faults body = with_rest body answer

-- what is read and dropped
abbrev pub passed : {E A : Type 0} → Reader E A → Reader E (Unit {0})
passed r = r >>= (λ x. give tt)

-- the first of so many, or this where there are none
abbrev pub first_of : {E A : Type 0} → A → ℕ → Reader E A → Reader E A
first_of none n r = many n r >>= (λ xs. give (get_or xs 0 none))

-- so many, each put after what was read before, which its reader is handed
abbrev pub onto : {E A : Type 0} → (List A → Reader E A) → List A → ℕ → Reader E (List A)
onto r before zero = give before
onto r before (suc n) = r before >>= (λ x. onto r (before ++ x ∷ []) n)

-- so often, each time from what was made before
abbrev pub repeated : {E S : Type 0} → (S → Reader E S) → S → ℕ → Reader E S
repeated r s zero = give s
repeated r s (suc n) = r s >>= (λ t. repeated r t n)

-- the body has to end here; `extra` is the fault of a further token
abbrev pub end_of_body : {E : Type 0} → (ℕ → E) → Reader E (Unit {0})
end_of_body extra faults [] = Ok (tt, [])
end_of_body extra faults (token ∷ rest) = Err (extra token.line)

-- a whole body
abbrev pub closed : {E A : Type 0} → (ℕ → E) → Reader E A → Reader E A
closed extra r = r >>= (λ x. end_of_body extra >>= (λ _. give x))

-- a call that puts what it reads into its argument answers this
abbrev pub ok_as : {A E : Type 0} → A → Result (Unit {0}) E → Result A E
ok_as x (Ok _) = Ok x
ok_as x (Err e) = Err e

-- the answer is what the reader gives from one place to another, up to want of memory
abbrev pub Reads : {A : Type 0} → Reader DataFault A → Spot → Result A DataFault → Spot → Type 0
Reads r old (Ok x) new = r (faults_at (end_line (beyond old))) (lexemes old) ≡ Ok (x, lexemes new)
Reads r old (Err e) new = e ≢ NoMemory → r (faults_at (end_line (beyond old))) (lexemes old) ≡ Err e

-- where the body has ended too early, the scan stands at its end
abbrev pub StandsAtEnd : {A : Type 0} → Result A DataFault → Spot → Spot → Type 0
StandsAtEnd (Ok x) old new = Unit {0}
StandsAtEnd (Err e) old new = e ≡ Ended (end_line (beyond old)) → new ≡ at_end (beyond old)

-- a call that stays in the body and reads this
pub record Goes {A : Type 0} (r : Reader DataFault A) (old : Spot) (answer : Result A DataFault) (new : Spot) : Type 0 where
  pub stays : beyond new ≡ beyond old
  pub reads : Reads r old answer new
  pub stands : StandsAtEnd answer old new

-- what is left to read gives what the whole gives
pub record Resumes {A : Type 0} (r : Reader DataFault A) (old : Spot) (rest : Reader DataFault A) (now : Spot) : Type 0 where
  pub stays : beyond now ≡ beyond old
  pub reads : r (faults_at (end_line (beyond old))) (lexemes old) ≡ rest (faults_at (end_line (beyond old))) (lexemes now)
