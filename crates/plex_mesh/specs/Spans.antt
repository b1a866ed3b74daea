-- Rows of a flat list, each where its span says.
use Rattle.std.specs.Prelude.{ℕ, ◌+◌, ◌≤◌, List, length, map, take, drop}
use Rattle.std.specs.List.{AllByRecursion}
use Rattle.plex_mesh.specs.declared.span.Span.{Span}

-- the part of a flat list where a span says
abbrev pub part_at : List ℕ → Span → List ℕ
part_at flat span = take span.len (drop span.start flat)

-- what is stored, each with its row
abbrev pub with_parts : {S R : Type 0} → (S → Span) → (S → List ℕ → R) → List S → List ℕ → List R
with_parts span make stored flat = map (λ s. make s (part_at flat (span s))) stored

-- each span lies within the flat list
abbrev pub AreWithin : {S : Type 0} → List ℕ → (S → Span) → List S → Type 0
AreWithin flat span stored = AllByRecursion (λ s. (span s).start + (span s).len ≤ length flat) stored
