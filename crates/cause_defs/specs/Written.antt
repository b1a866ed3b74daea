-- The bytes of a sink, where it tells them, and what a call leaves of them.
use Rattle.std.specs.Prelude.{◌≡◌, ℕ, List, ◌++◌, length, take, Option, Some, None, Result, Ok, Err, IfSome}

-- the told bytes with more at their end
abbrev pub appended : Option (List ℕ) → List ℕ → Option (List ℕ)
appended None more = None
appended (Some bytes) more = Some (bytes ++ more)

-- a call has added the first n of these bytes and nothing else, for some n
abbrev pub AppendsPart : Option (List ℕ) → Option (List ℕ) → List ℕ → Type 0
AppendsPart old new text = (n : ℕ) × (new ≡ appended old (take n text))

-- a call has added the text where it was answered Ok, and otherwise a part of it, from its beginning
abbrev pub Prints : {A E : Type 0} → Result A E → Option (List ℕ) → Option (List ℕ) → List ℕ → Type 0
Prints (Ok x) old new text = new ≡ appended old text
Prints (Err e) old new text = AppendsPart old new text

-- where the bytes are told, all of them are flushed
abbrev pub AreFlushed : Option (List ℕ) → ℕ → Type 0
AreFlushed bytes flushed = IfSome bytes (λ told. flushed ≡ length told)
