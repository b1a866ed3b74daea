-- Calls one after the other, over the body of a section of a mesh file.
use Rattle.std.proofs.Common.{◌≡◌, ◌≢◌, ℕ, suc, List, [], ◌∷◌, ◌++◌, Ok, Err, refl, sym, ap, subst, ◌∙◌}
use Rattle.std.specs.Prelude.{Option, Some, None, Result}
use Rattle.input_defs.specs.scan_defs.Items.{Spot}
use Rattle.input_defs.specs.declared.scan_defs.NumberFault.{NumberFault}
use Rattle.input_defs.specs.declared.scan_defs.NumberFault.TheVariants as numbers
use Rattle.input_defs.specs.declared.DataFault.{DataFault}
use Rattle.input_defs.specs.declared.DataFault.TheVariants as data_fault
use Rattle.input_defs.specs.declared.MshFault.{MshFault}
use Rattle.input_defs.specs.declared.MshFault.TheVariants.{BadCount}
use Rattle.input_defs.specs.Bodies.{Lexeme, Reader, give, ◌>>=◌, many, tested, number, quoted, with_rest, number_where, text_where, after_line}
use Rattle.input_defs.specs.Sections.{faults_of}
use Rattle.input_defs.specs.DataSections.{faults_at}
use Rattle.input_laws.specs.reading_laws.Lexemes.{beyond, end_line}
use Rattle.input_laws.specs.reading_laws.Going.{lined, checked, passed, first_of, onto, repeated, end_of_body}
use Rattle.input_laws.specs.reading_laws.Going as data_going
use Rattle.input_laws.proofs.reading_laws.Readers.{then-ok, then-err, tested-lined, number-lined, passed-many, first-some}
use Rattle.msh_reader.specs.declared.trouble.Trouble.{Trouble}
use Rattle.msh_reader.specs.declared.trouble.Trouble.TheVariants.{Fault}
use Rattle.msh_reader.specs.Going.{trouble_of, fault_where, no_memory, Goes, Resumes}

pub goes-then : {A B : Type 0} {r : Reader MshFault A} (k : A → Reader MshFault B) {old mid new : Spot} {x : A} {answer : Result B Trouble}
    → Goes r old (Ok x) mid → Goes (k x) mid answer new → Goes (r >>= k) old answer new
goes-then {r = r} k {x = x} {answer = Ok y} first second = record { stays = second.stays ∙ first.stays; reads = λ ended. then-ok r k _ _ _ x (first.reads ended) ∙ second.reads ended }
goes-then {r = r} k {x = x} {answer = Err t} first second = record { stays = second.stays ∙ first.stays; reads = λ ne ended. then-ok r k _ _ _ x (first.reads ended) ∙ second.reads ne ended }

-- trouble of the first is that of both
pub goes-fault : {A B : Type 0} {r : Reader MshFault A} (k : A → Reader MshFault B) {old new : Spot} {e : Trouble} → Goes r old (Err e) new → Goes (r >>= k) old (Err e) new
goes-fault {r = r} k {e = e} first = record { stays = first.stays; reads = λ ne ended. then-err r k _ _ (fault_where ended e) (first.reads ne ended) }

-- a call that reads nothing
pub goes-give : {A : Type 0} (x : A) (s : Spot) → Goes (give x) s (Ok x) s
goes-give x s = record { stays = refl; reads = λ ended. refl }

-- a call for which memory ran out
pub goes-memory : {A : Type 0} (r : Reader MshFault A) {old new : Spot} → beyond new ≡ beyond old → Goes r old (Err no_memory) new
goes-memory r stays = record { stays = stays; reads = λ ne. absurd (ne refl) }

-- a reader that reads the same
pub goes-same : {A : Type 0} {r s : Reader MshFault A} {old new : Spot} {answer : Result A Trouble} → s ≡ r → Goes r old answer new → Goes s old answer new
goes-same {old = old} {new = new} {answer = answer} is first = subst (λ t. Goes t old answer new) (sym is) first

-- ---- numbers and texts are read by the calls that read them for data sections

lined-ok-at : {A : Type 0} (number_of : List ℕ → Result A NumberFault) (end : ℕ) (ended : MshFault) (before after : List Lexeme) (x : A × ℕ) → lined number_of (faults_at end) before ≡ Ok (x, after) → lined number_of (faults_of ended) before ≡ Ok (x, after)
lined-ok-at number_of end ended [] after x h = absurd (cc h)
lined-ok-at {A} number_of end ended (token ∷ rest) after x h = go (number_of token.text) h
  where
    go : (o : Result A NumberFault) → with_rest {A = A × ℕ} rest (number_where (faults_at end) token.line (λ line y. Ok (y, line)) o) ≡ Ok (x, after) → with_rest {A = A × ℕ} rest (number_where (faults_of ended) token.line (λ line y. Ok (y, line)) o) ≡ Ok (x, after)
    go (Ok y) g = let read : (A × ℕ) × List Lexeme = ((y, token.line), rest) in let is : read ≡ (x, after) = cc g in ap Ok is
    go (Err f) g = absurd (cc g)

lined-err-at : {A : Type 0} (number_of : List ℕ → Result A NumberFault) (end : ℕ) (ended : MshFault) (before : List Lexeme) (e : DataFault) → lined number_of (faults_at end) before ≡ Err e → lined number_of (faults_of ended) before ≡ Err (fault_where ended (trouble_of e))
lined-err-at number_of end ended [] e h = let is : data_fault.Ended end ≡ e = cc h in ap (λ f. Err (fault_where ended (trouble_of f))) is
lined-err-at {A} number_of end ended (token ∷ rest) e h = go (number_of token.text) h
  where
    go : (o : Result A NumberFault) → with_rest {A = A × ℕ} rest (number_where (faults_at end) token.line (λ line y. Ok (y, line)) o) ≡ Err e → with_rest {A = A × ℕ} rest (number_where (faults_of ended) token.line (λ line y. Ok (y, line)) o) ≡ Err (fault_where ended (trouble_of e))
    go (Ok y) g = absurd (cc g)
    go (Err numbers.NotNumber) g = let is : data_fault.BadNumber token.line ≡ e = cc g in ap (λ f. Err (fault_where ended (trouble_of f))) is
    go (Err numbers.OutOfRange) g = let is : data_fault.OutOfRange token.line ≡ e = cc g in ap (λ f. Err (fault_where ended (trouble_of f))) is

pub goes-lined : {A : Type 0} (number_of : List ℕ → Result A NumberFault) {old new : Spot} {x : A × ℕ} → data_going.Goes (lined number_of) old (Ok x) new → Goes (lined number_of) old (Ok x) new
goes-lined number_of {x = x} first = record { stays = first.stays; reads = λ ended. lined-ok-at number_of _ ended _ _ x first.reads }

-- memory ran out in one just where it did in the other
memory-is : (e : DataFault) → trouble_of e ≢ no_memory → e ≢ data_fault.NoMemory
memory-is e ne is = ne (ap trouble_of is)

pub goes-unlined : {A : Type 0} (number_of : List ℕ → Result A NumberFault) {old new : Spot} {e : DataFault} → data_going.Goes (lined number_of) old (Err e) new → Goes (lined number_of) old (Err (trouble_of e)) new
goes-unlined number_of {e = e} first = record { stays = first.stays; reads = λ ne ended. lined-err-at number_of _ ended _ e (first.reads (memory-is e ne)) }

text-ok-at : (end : ℕ) (ended : MshFault) (before after : List Lexeme) (x : List ℕ) → quoted (faults_at end) before ≡ Ok (x, after) → quoted (faults_of ended) before ≡ Ok (x, after)
text-ok-at end ended [] after x h = absurd (cc h)
text-ok-at end ended (token ∷ rest) after x h = go token.quoted h
  where
    go : (o : Option (List ℕ)) → text_where (faults_at end) token.line rest o ≡ Ok (x, after) → text_where (faults_of ended) token.line rest o ≡ Ok (x, after)
    go (Some y) g = let read : List ℕ × List Lexeme = (y, after_line token.line rest) in let is : read ≡ (x, after) = cc g in ap Ok is
    go None g = absurd (cc g)

text-err-at : (end : ℕ) (ended : MshFault) (before : List Lexeme) (e : DataFault) → quoted (faults_at end) before ≡ Err e → quoted (faults_of ended) before ≡ Err (fault_where ended (trouble_of e))
text-err-at end ended [] e h = let is : data_fault.Ended end ≡ e = cc h in ap (λ f. Err (fault_where ended (trouble_of f))) is
text-err-at end ended (token ∷ rest) e h = go token.quoted h
  where
    go : (o : Option (List ℕ)) → text_where (faults_at end) token.line rest o ≡ Err e → text_where (faults_of ended) token.line rest o ≡ Err (fault_where ended (trouble_of e))
    go (Some y) g = absurd (cc g)
    go None g = let is : data_fault.BadName token.line ≡ e = cc g in ap (λ f. Err (fault_where ended (trouble_of f))) is

pub goes-text : {old new : Spot} {x : List ℕ} → data_going.Goes quoted old (Ok x) new → Goes quoted old (Ok x) new
goes-text {x = x} first = record { stays = first.stays; reads = λ ended. text-ok-at _ ended _ _ x first.reads }

pub goes-no_text : {old new : Spot} {e : DataFault} → data_going.Goes quoted old (Err e) new → Goes quoted old (Err (trouble_of e)) new
goes-no_text {e = e} first = record { stays = first.stays; reads = λ ne ended. text-err-at _ ended _ e (first.reads (memory-is e ne)) }

end-ok-at : (end : ℕ) (ended : MshFault) (before after : List Lexeme) (x : Unit {0}) → end_of_body data_fault.BadCount (faults_at end) before ≡ Ok (x, after) → end_of_body BadCount (faults_of ended) before ≡ Ok (x, after)
end-ok-at end ended [] after x h = let read : Unit {0} × List Lexeme = (tt, []) in let is : read ≡ (x, after) = cc h in ap Ok is
end-ok-at end ended (token ∷ rest) after x h = absurd (cc h)

end-err-at : (end : ℕ) (ended : MshFault) (before : List Lexeme) (e : DataFault) → end_of_body data_fault.BadCount (faults_at end) before ≡ Err e → end_of_body BadCount (faults_of ended) before ≡ Err (fault_where ended (trouble_of e))
end-err-at end ended [] e h = absurd (cc h)
end-err-at end ended (token ∷ rest) e h = let is : data_fault.BadCount token.line ≡ e = cc h in ap (λ f. Err (fault_where ended (trouble_of f))) is

pub goes-end : {old new : Spot} {x : Unit {0}} → data_going.Goes (end_of_body data_fault.BadCount) old (Ok x) new → Goes (end_of_body BadCount) old (Ok x) new
goes-end {old = old} {x = x} first = record { stays = first.stays; reads = λ ended. end-ok-at (end_line (beyond old)) ended _ _ x first.reads }

pub goes-no_end : {old new : Spot} {e : DataFault} → data_going.Goes (end_of_body data_fault.BadCount) old (Err e) new → Goes (end_of_body BadCount) old (Err (trouble_of e)) new
goes-no_end {old = old} {e = e} first = record { stays = first.stays; reads = λ ne ended. end-err-at (end_line (beyond old)) ended _ e (first.reads (memory-is e ne)) }

-- ---- a number that is read with its line

-- the test passes, or gives a fault
pub goes-tested : {A B : Type 0} (number_of : List ℕ → Result A NumberFault) (test : ℕ → A → Result B MshFault) {old new : Spot} {x : A} {line : ℕ} (y : B) → Ok y ≡ test line x → data_going.Goes (lined number_of) old (Ok (x, line)) new → Goes (tested number_of test) old (Ok y) new
goes-tested number_of test {old = old} {new = new} {x = x} {line = line} y is first =
    let read : Goes (lined number_of) old (Ok (x, line)) new = goes-lined number_of first in
    let give_y : Goes (checked (test line x)) new (Ok y) new = rw (← is) (goes-give y new) in
    goes-same (tested-lined number_of test) (goes-then (λ x. checked (test x.1 x.0)) read give_y)

pub goes-failed : {A B : Type 0} (number_of : List ℕ → Result A NumberFault) (test : ℕ → A → Result B MshFault) {old new : Spot} {x : A} {line : ℕ} (e : MshFault) → Err e ≡ test line x → data_going.Goes (lined number_of) old (Ok (x, line)) new → Goes (tested number_of test) old (Err (Fault e)) new
goes-failed number_of test {old = old} {new = new} {x = x} {line = line} e is first =
    let read : Goes (lined number_of) old (Ok (x, line)) new = goes-lined number_of first in
    let fault : Goes (checked (test line x)) new (Err (Fault e)) new = rw (← is) (record { stays = refl; reads = λ ne ended. refl }) in
    goes-same (tested-lined number_of test) (goes-then (λ x. checked (test x.1 x.0)) read fault)

pub goes-untested : {A B : Type 0} (number_of : List ℕ → Result A NumberFault) (test : ℕ → A → Result B MshFault) {old new : Spot} {e : DataFault} → data_going.Goes (lined number_of) old (Err e) new → Goes (tested number_of test) old (Err (trouble_of e)) new
goes-untested number_of test first = goes-same (tested-lined number_of test) (goes-fault (λ x. checked (test x.1 x.0)) (goes-unlined number_of first))

pub goes-number : {A : Type 0} (number_of : List ℕ → Result A NumberFault) {old new : Spot} {x : A × ℕ} → data_going.Goes (lined number_of) old (Ok x) new → Goes (number number_of) old (Ok x.0) new
goes-number number_of {new = new} {x = x} first = goes-same (number-lined number_of) (goes-then (λ x. give x.0) (goes-lined number_of first) (goes-give x.0 new))

pub goes-no_number : {A : Type 0} (number_of : List ℕ → Result A NumberFault) {old new : Spot} {e : DataFault} → data_going.Goes (lined number_of) old (Err e) new → Goes (number number_of) old (Err (trouble_of e)) new
goes-no_number number_of first = goes-same (number-lined number_of) (goes-fault (λ x. give x.0) (goes-unlined number_of first))

-- ---- step by step

pub resumes-start : {A : Type 0} (r : Reader MshFault A) (s : Spot) → Resumes r s r s
resumes-start r s = record { stays = refl; reads = λ ended. refl }

pub resumes-same : {A : Type 0} {r s t : Reader MshFault A} {old now : Spot} → s ≡ t → Resumes r old s now → Resumes r old t now
resumes-same {r = r} {old = old} {now = now} is before = subst (λ u. Resumes r old u now) is before

pub resumes-then : {A B : Type 0} {r : Reader MshFault B} {s : Reader MshFault A} (k : A → Reader MshFault B) {old mid new : Spot} {x : A} → Resumes r old (s >>= k) mid → Goes s mid (Ok x) new → Resumes r old (k x) new
resumes-then {s = s} k {x = x} before first = record {
  stays = first.stays ∙ before.stays;
  reads = λ ended. before.reads ended ∙ then-ok s k _ _ _ x (first.reads ended);
}

pub resumes-goes : {A : Type 0} {r s : Reader MshFault A} {old mid new : Spot} {answer : Result A Trouble} → Resumes r old s mid → Goes s mid answer new → Goes r old answer new
resumes-goes {answer = Ok x} before first = record { stays = first.stays ∙ before.stays; reads = λ ended. before.reads ended ∙ first.reads ended }
resumes-goes {answer = Err t} before first = record { stays = first.stays ∙ before.stays; reads = λ ne ended. before.reads ended ∙ first.reads ne ended }

-- ---- many that are passed, and many that are kept

pub pass-step : {A : Type 0} {whole : Reader MshFault (Unit {0})} (r : Reader MshFault A) (n m : ℕ) {old mid new : Spot} {x : A} → n ≡ suc m
    → Resumes whole old (passed (many n r)) mid → Goes r mid (Ok x) new → Resumes whole old (passed (many m r)) new
pass-step r n m e before first = resumes-then (λ x. passed (many m r)) (resumes-same (passed-many r m) (rw e at before)) first

pub pass-fault : {A : Type 0} {whole : Reader MshFault (Unit {0})} (r : Reader MshFault A) (n m : ℕ) {old mid new : Spot} {e : Trouble} → n ≡ suc m
    → Resumes whole old (passed (many n r)) mid → Goes r mid (Err e) new → Goes whole old (Err e) new
pass-fault r n m is before first = resumes-goes (resumes-same (passed-many r m) (rw is at before)) (goes-fault (λ x. passed (many m r)) first)

pub pass-done : {A : Type 0} {whole : Reader MshFault (Unit {0})} (r : Reader MshFault A) (n : ℕ) {old mid : Spot} → n ≡ 0 → Resumes whole old (passed (many n r)) mid → Goes whole old (Ok tt) mid
pass-done r n {mid = mid} e before = resumes-goes (rw e at before) (goes-give (tt {0}) mid)

-- the first of some, of which there is one
pub first-step : {A : Type 0} (none : A) (r : Reader MshFault A) (n m : ℕ) {old mid new : Spot} {x : A} {u : Unit {0}} → n ≡ suc m → Goes r old (Ok x) mid → Goes (passed (many m r)) mid (Ok u) new → Goes (first_of none n r) old (Ok x) new
first-step none r n m {new = new} {x = x} is first others =
    rw is (goes-same (first-some none r m) (goes-then _ first (goes-then _ others (goes-give x new))))

pub first-fault : {A : Type 0} (none : A) (r : Reader MshFault A) (n m : ℕ) {old new : Spot} {e : Trouble} → n ≡ suc m → Goes r old (Err e) new → Goes (first_of none n r) old (Err e) new
first-fault none r n m is first = rw is (goes-same (first-some none r m) (goes-fault _ first))

pub others-fault : {A : Type 0} (none : A) (r : Reader MshFault A) (n m : ℕ) {old mid new : Spot} {x : A} {e : Trouble} → n ≡ suc m → Goes r old (Ok x) mid → Goes (passed (many m r)) mid (Err e) new → Goes (first_of none n r) old (Err e) new
others-fault none r n m is first others = rw is (goes-same (first-some none r m) (goes-then _ first (goes-fault _ others)))

pub onto-step : {A : Type 0} {whole : Reader MshFault (List A)} (r : List A → Reader MshFault A) (xs : List A) (n m : ℕ) {old mid new : Spot} {x : A} → n ≡ suc m
    → Resumes whole old (onto r xs n) mid → Goes (r xs) mid (Ok x) new → Resumes whole old (onto r (xs ++ x ∷ []) m) new
onto-step r xs n m e before first = resumes-then (λ x. onto r (xs ++ x ∷ []) m) (rw e at before) first

pub onto-fault : {A : Type 0} {whole : Reader MshFault (List A)} (r : List A → Reader MshFault A) (xs : List A) (n m : ℕ) {old mid new : Spot} {e : Trouble} → n ≡ suc m
    → Resumes whole old (onto r xs n) mid → Goes (r xs) mid (Err e) new → Goes whole old (Err e) new
onto-fault r xs n m is before first = resumes-goes (rw is at before) (goes-fault (λ x. onto r (xs ++ x ∷ []) m) first)

pub onto-done : {A : Type 0} {whole : Reader MshFault (List A)} (r : List A → Reader MshFault A) (xs : List A) (n : ℕ) {old mid : Spot} → n ≡ 0 → Resumes whole old (onto r xs n) mid → Goes whole old (Ok xs) mid
onto-done r xs n {mid = mid} e before = resumes-goes (rw e at before) (goes-give xs mid)

pub repeat-step : {S : Type 0} {whole : Reader MshFault S} (r : S → Reader MshFault S) (s : S) (n m : ℕ) {old mid new : Spot} {t : S} → n ≡ suc m
    → Resumes whole old (repeated r s n) mid → Goes (r s) mid (Ok t) new → Resumes whole old (repeated r t m) new
repeat-step r s n m e before first = resumes-then (λ t. repeated r t m) (rw e at before) first

pub repeat-fault : {S : Type 0} {whole : Reader MshFault S} (r : S → Reader MshFault S) (s : S) (n m : ℕ) {old mid new : Spot} {e : Trouble} → n ≡ suc m
    → Resumes whole old (repeated r s n) mid → Goes (r s) mid (Err e) new → Goes whole old (Err e) new
repeat-fault r s n m is before first = resumes-goes (rw is at before) (goes-fault (λ t. repeated r t m) first)

pub repeat-done : {S : Type 0} {whole : Reader MshFault S} (r : S → Reader MshFault S) (s : S) (n : ℕ) {old mid : Spot} → n ≡ 0 → Resumes whole old (repeated r s n) mid → Goes whole old (Ok s) mid
repeat-done r s n {mid = mid} e before = resumes-goes (rw e at before) (goes-give s mid)
