-- What an object of the outside tells of itself. A clause on content has as its premise that the content is told.
use Rattle.std.specs.Prelude.{◌≡◌, ℕ, ◌≤◌, List, length, take}

-- what is told of a thing: nothing, that there is none, or the thing itself
pub data Told (A : Type 0) : Type 0 where
  untold : Told A
  absent : Told A
  told : A → Told A

-- where anything is told of the thing, it is this one
abbrev pub IsWhereTold : {A : Type 0} → Told A → A → Type 0
IsWhereTold untold x = Unit {0}
IsWhereTold absent x = ⊥
IsWhereTold (told y) x = x ≡ y

-- where anything is told of a file, it has at least n bytes, and these are its first n
abbrev pub IsFrontWhereTold : Told (List ℕ) → ℕ → List ℕ → Type 0
IsFrontWhereTold untold n bytes = Unit {0}
IsFrontWhereTold absent n bytes = ⊥
IsFrontWhereTold (told file) n bytes = (n ≤ length file) × (bytes ≡ take n file)
