-- Calls one after the other, over the body of a data section.
use Rattle.std.proofs.Common.{◌≡◌, ℕ, suc, List, [], ◌∷◌, ◌++◌, Ok, Err, refl, sym, ap, subst, ◌∙◌}
use Rattle.std.specs.Prelude.{Result, IfErr}
use Rattle.input_defs.specs.scan_defs.Items.{Spot}
use Rattle.input_defs.specs.declared.scan_defs.NumberFault.{NumberFault}
use Rattle.input_defs.specs.declared.DataFault.{DataFault}
use Rattle.input_defs.specs.declared.DataFault.TheVariants.{Ended, NoMemory}
use Rattle.input_defs.specs.Causes.{map_ok}
use Rattle.input_defs.specs.Bodies.{Reader, give, ◌>>=◌, many, tested, number}
use Rattle.input_defs.specs.DataSections.{faults_at}
use Rattle.input_laws.specs.reading_laws.Lexemes.{lexemes, beyond, end_line}
use Rattle.input_laws.specs.reading_laws.Going.{lined, checked, passed, first_of, onto, repeated, Reads, StandsAtEnd, Goes, Resumes}
use Rattle.input_laws.proofs.reading_laws.Readers.{then-ok, then-err, tested-lined, number-lined, passed-many, passed-used, first-some}

-- where the second call reads, the two read one after the other
reads-then : {A B : Type 0} (r : Reader DataFault A) (k : A → Reader DataFault B) (old mid new : Spot) (x : A) (answer : Result B DataFault)
    → Reads r old (Ok x) mid → beyond mid ≡ beyond old → Reads (k x) mid answer new → Reads (r >>= k) old answer new
reads-then r k old mid new x (Ok y) first same second = then-ok r k _ _ _ x first ∙ rw (← same) second
reads-then r k old mid new x (Err e) first same second = λ ne. then-ok r k _ _ _ x first ∙ rw (← same) (second ne)

stands-then : {B : Type 0} (old mid new : Spot) (answer : Result B DataFault) → beyond mid ≡ beyond old → StandsAtEnd answer mid new → StandsAtEnd answer old new
stands-then old mid new (Ok y) same second = tt
stands-then old mid new (Err e) same second = rw (← same) second

pub goes-then : {A B : Type 0} {r : Reader DataFault A} (k : A → Reader DataFault B) {old mid new : Spot} {x : A} {answer : Result B DataFault}
    → Goes r old (Ok x) mid → Goes (k x) mid answer new → Goes (r >>= k) old answer new
goes-then {r = r} k {old = old} {mid = mid} {new = new} {x = x} {answer = answer} first second = record {
  stays = second.stays ∙ first.stays;
  reads = reads-then r k old mid new x answer first.reads first.stays second.reads;
  stands = stands-then old mid new answer first.stays second.stands;
}

-- a fault of the first is that of both
pub goes-fault : {A B : Type 0} {r : Reader DataFault A} (k : A → Reader DataFault B) {old new : Spot} {e : DataFault}
    → Goes r old (Err e) new → Goes (r >>= k) old (Err e) new
goes-fault {r = r} k {old = old} {new = new} {e = e} first = record {
  stays = first.stays;
  reads = λ ne. then-err r k _ _ e (first.reads ne);
  stands = first.stands;
}

-- a call that reads nothing
pub goes-give : {A : Type 0} (x : A) (s : Spot) → Goes (give x) s (Ok x) s
goes-give x s = record { stays = refl; reads = refl; stands = tt }

-- a call for which memory ran out
pub goes-memory : {A : Type 0} (r : Reader DataFault A) {old new : Spot} → beyond new ≡ beyond old → Goes r old (Err NoMemory) new
goes-memory r stays = record { stays = stays; reads = λ ne. absurd (ne refl); stands = λ e. absurd (cc e) }

-- a reader that reads the same
pub goes-same : {A : Type 0} {r s : Reader DataFault A} {old new : Spot} {answer : Result A DataFault} → s ≡ r → Goes r old answer new → Goes s old answer new
goes-same {old = old} {new = new} {answer = answer} is first = subst (λ t. Goes t old answer new) (sym is) first

-- ---- a number that is read with its line

-- the test passes, or gives a fault
checked-goes : {B : Type 0} (s : Spot) (answer : Result B DataFault) → (IfErr answer (λ e. e ≡ Ended (end_line (beyond s)) → ⊥)) → Goes (checked answer) s answer s
checked-goes s (Ok y) ok = record { stays = refl; reads = refl; stands = tt }
checked-goes s (Err e) ok = record { stays = refl; reads = λ ne. refl; stands = λ is. absurd (ok is) }

pub goes-tested : {A B : Type 0} (number_of : List ℕ → Result A NumberFault) (test : ℕ → A → Result B DataFault) {old new : Spot} {x : A} {line : ℕ} (answer : Result B DataFault)
    → (IfErr answer (λ e. e ≡ Ended (end_line (beyond new)) → ⊥)) → answer ≡ test line x → Goes (lined number_of) old (Ok (x, line)) new → Goes (tested number_of test) old answer new
goes-tested number_of test {new = new} {x = x} {line = line} answer ok is first =
    goes-same (tested-lined number_of test) (goes-then (λ x. checked (test x.1 x.0)) first (rw (← is) (checked-goes new answer ok)))

pub goes-untested : {A B : Type 0} (number_of : List ℕ → Result A NumberFault) (test : ℕ → A → Result B DataFault) {old new : Spot} {e : DataFault}
    → Goes (lined number_of) old (Err e) new → Goes (tested number_of test) old (Err e) new
goes-untested number_of test first = goes-same (tested-lined number_of test) (goes-fault (λ x. checked (test x.1 x.0)) first)

pub goes-number : {A : Type 0} (number_of : List ℕ → Result A NumberFault) {old new : Spot} {answer : Result (A × ℕ) DataFault}
    → Goes (lined number_of) old answer new → Goes (number number_of) old (map_ok (λ x. x.0) answer) new
goes-number number_of {old = old} {new = new} {answer = Ok x} first = record {
  stays = first.stays;
  reads = ap (λ r. r (faults_at (end_line (beyond old))) (lexemes old)) (number-lined number_of) ∙ then-ok (lined number_of) (λ x. give x.0) (faults_at (end_line (beyond old))) _ _ x first.reads;
  stands = tt;
}
goes-number number_of {old = old} {new = new} {answer = Err e} first = record {
  stays = first.stays;
  reads = λ ne. ap (λ r. r (faults_at (end_line (beyond old))) (lexemes old)) (number-lined number_of) ∙ then-err (lined number_of) (λ x. give x.0) (faults_at (end_line (beyond old))) _ e (first.reads ne);
  stands = first.stands;
}

-- ---- step by step

pub resumes-start : {A : Type 0} (r : Reader DataFault A) (s : Spot) → Resumes r s r s
resumes-start r s = record { stays = refl; reads = refl }

pub resumes-same : {A : Type 0} {r s t : Reader DataFault A} {old now : Spot} → s ≡ t → Resumes r old s now → Resumes r old t now
resumes-same {r = r} {old = old} {now = now} is before = subst (λ u. Resumes r old u now) is before

pub resumes-then : {A B : Type 0} {r : Reader DataFault B} {s : Reader DataFault A} (k : A → Reader DataFault B) {old mid new : Spot} {x : A} → Resumes r old (s >>= k) mid → Goes s mid (Ok x) new → Resumes r old (k x) new
resumes-then {s = s} k {old = old} {mid = mid} {new = new} {x = x} before first = record {
  stays = first.stays ∙ before.stays;
  reads = before.reads ∙ then-ok s k _ _ _ x (rw (← before.stays) first.reads);
}

pub resumes-goes : {A : Type 0} {r s : Reader DataFault A} {old mid new : Spot} {answer : Result A DataFault} → Resumes r old s mid → Goes s mid answer new → Goes r old answer new
resumes-goes {old = old} {mid = mid} {new = new} {answer = Ok x} before first = record {
  stays = first.stays ∙ before.stays;
  reads = before.reads ∙ rw (← before.stays) first.reads;
  stands = tt;
}
resumes-goes {old = old} {mid = mid} {new = new} {answer = Err e} before first = record {
  stays = first.stays ∙ before.stays;
  reads = λ ne. before.reads ∙ rw (← before.stays) (first.reads ne);
  stands = rw (← before.stays) first.stands;
}

-- ---- many that are passed, and many that are kept

pub pass-step : {A : Type 0} {whole : Reader DataFault (Unit {0})} (r : Reader DataFault A) (n m : ℕ) {old mid new : Spot} {x : A} → n ≡ suc m
    → Resumes whole old (passed (many n r)) mid → Goes r mid (Ok x) new → Resumes whole old (passed (many m r)) new
pass-step r n m e before first = resumes-then (λ x. passed (many m r)) (resumes-same (passed-many r m) (rw e at before)) first

pub pass-fault : {A : Type 0} {whole : Reader DataFault (Unit {0})} (r : Reader DataFault A) (n m : ℕ) {old mid new : Spot} {e : DataFault} → n ≡ suc m
    → Resumes whole old (passed (many n r)) mid → Goes r mid (Err e) new → Goes whole old (Err e) new
pass-fault r n m is before first = resumes-goes (resumes-same (passed-many r m) (rw is at before)) (goes-fault (λ x. passed (many m r)) first)

pub pass-done : {A : Type 0} {whole : Reader DataFault (Unit {0})} (r : Reader DataFault A) (n : ℕ) {old mid : Spot} → n ≡ 0 → Resumes whole old (passed (many n r)) mid → Goes whole old (Ok tt) mid
pass-done r n {mid = mid} e before = resumes-goes (rw e at before) (goes-give (tt {0}) mid)

-- the first of some, of which there is one
pub first-step : {A : Type 0} (none : A) (r : Reader DataFault A) (n m : ℕ) {old mid new : Spot} {x : A} {u : Unit {0}} → n ≡ suc m → Goes r old (Ok x) mid → Goes (passed (many m r)) mid (Ok u) new → Goes (first_of none n r) old (Ok x) new
first-step none r n m {new = new} {x = x} is first others =
    rw is (goes-same (first-some none r m) (goes-then _ first (goes-then _ others (goes-give x new))))

pub first-fault : {A : Type 0} (none : A) (r : Reader DataFault A) (n m : ℕ) {old new : Spot} {e : DataFault} → n ≡ suc m → Goes r old (Err e) new → Goes (first_of none n r) old (Err e) new
first-fault none r n m is first = rw is (goes-same (first-some none r m) (goes-fault _ first))

pub others-fault : {A : Type 0} (none : A) (r : Reader DataFault A) (n m : ℕ) {old mid new : Spot} {x : A} {e : DataFault} → n ≡ suc m → Goes r old (Ok x) mid → Goes (passed (many m r)) mid (Err e) new → Goes (first_of none n r) old (Err e) new
others-fault none r n m is first others = rw is (goes-same (first-some none r m) (goes-then _ first (goes-fault _ others)))

-- the same, where each one is read by a call that passes it
pub drop-step : {A : Type 0} {whole : Reader DataFault (Unit {0})} (r : Reader DataFault A) (n m : ℕ) {old mid new : Spot} {x : Unit {0}} → n ≡ suc m
    → Resumes whole old (passed (many n r)) mid → Goes (passed r) mid (Ok x) new → Resumes whole old (passed (many m r)) new
drop-step r n m e before first = resumes-then (λ x. passed (many m r)) (resumes-same (passed-many r m ∙ passed-used r (passed (many m r))) (rw e at before)) first

pub drop-fault : {A : Type 0} {whole : Reader DataFault (Unit {0})} (r : Reader DataFault A) (n m : ℕ) {old mid new : Spot} {e : DataFault} → n ≡ suc m
    → Resumes whole old (passed (many n r)) mid → Goes (passed r) mid (Err e) new → Goes whole old (Err e) new
drop-fault r n m is before first = resumes-goes (resumes-same (passed-many r m ∙ passed-used r (passed (many m r))) (rw is at before)) (goes-fault (λ x. passed (many m r)) first)

pub onto-step : {A : Type 0} {whole : Reader DataFault (List A)} (r : List A → Reader DataFault A) (xs : List A) (n m : ℕ) {old mid new : Spot} {x : A} → n ≡ suc m
    → Resumes whole old (onto r xs n) mid → Goes (r xs) mid (Ok x) new → Resumes whole old (onto r (xs ++ x ∷ []) m) new
onto-step r xs n m e before first = resumes-then (λ x. onto r (xs ++ x ∷ []) m) (rw e at before) first

pub onto-fault : {A : Type 0} {whole : Reader DataFault (List A)} (r : List A → Reader DataFault A) (xs : List A) (n m : ℕ) {old mid new : Spot} {e : DataFault} → n ≡ suc m
    → Resumes whole old (onto r xs n) mid → Goes (r xs) mid (Err e) new → Goes whole old (Err e) new
onto-fault r xs n m is before first = resumes-goes (rw is at before) (goes-fault (λ x. onto r (xs ++ x ∷ []) m) first)

pub onto-done : {A : Type 0} {whole : Reader DataFault (List A)} (r : List A → Reader DataFault A) (xs : List A) (n : ℕ) {old mid : Spot} → n ≡ 0 → Resumes whole old (onto r xs n) mid → Goes whole old (Ok xs) mid
onto-done r xs n {mid = mid} e before = resumes-goes (rw e at before) (goes-give xs mid)

pub repeat-step : {S : Type 0} {whole : Reader DataFault S} (r : S → Reader DataFault S) (s : S) (n m : ℕ) {old mid new : Spot} {t : S} → n ≡ suc m
    → Resumes whole old (repeated r s n) mid → Goes (r s) mid (Ok t) new → Resumes whole old (repeated r t m) new
repeat-step r s n m e before first = resumes-then (λ t. repeated r t m) (rw e at before) first

pub repeat-fault : {S : Type 0} {whole : Reader DataFault S} (r : S → Reader DataFault S) (s : S) (n m : ℕ) {old mid new : Spot} {e : DataFault} → n ≡ suc m
    → Resumes whole old (repeated r s n) mid → Goes (r s) mid (Err e) new → Goes whole old (Err e) new
repeat-fault r s n m is before first = resumes-goes (rw is at before) (goes-fault (λ t. repeated r t m) first)

pub repeat-done : {S : Type 0} {whole : Reader DataFault S} (r : S → Reader DataFault S) (s : S) (n : ℕ) {old mid : Spot} → n ≡ 0 → Resumes whole old (repeated r s n) mid → Goes whole old (Ok s) mid
repeat-done r s n {mid = mid} e before = resumes-goes (rw e at before) (goes-give s mid)
