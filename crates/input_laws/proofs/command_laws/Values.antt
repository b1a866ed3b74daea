-- The values of the rows of a walk.
use Rattle.std.proofs.Common.{◌≡◌, Bool, true, false, List, [], ◌∷◌, ◌++◌, refl, sym, ap, ◌∙◌}
use Rattle.std.specs.Str.{bytes_eq}
use Rattle.std.specs.Cmp.Lexicographic.{same_text}
use Rattle.plain_lists.proofs.Sorted.{same_list-self}
use Rattle.clap.specs.Walk.{Row, Text, has_row, with_values, without}
use Rattle.clap.specs.declared.builder.value_parser.Reading.{Reading}
use Rattle.clap.specs.declared.parser.matches.ValueSource.{ValueSource}
use Rattle.input_laws.specs.command_laws.Command.{values_at}

module _ (id : Text) (how : Reading) (s : ValueSource) (vs : List Text) where
  -- the values of this argument
  here : (r : Row) (rows : List Row) (b : Bool) → bytes_eq r.id id ≡ b → values_at id (with_values id how s vs rows) ≡ values_at id rows ++ vs
      → values_at id (with_values id how s vs (r ∷ rows)) ≡ values_at id (r ∷ rows) ++ vs
  here r rows true e so = rw e (rw e refl)
  here r rows false e so = rw e (rw e so)

  pub put_same : (rows : List Row) → values_at id (with_values id how s vs rows) ≡ values_at id rows ++ vs
  put_same [] = rw (same_list-self id) refl
  put_same (r ∷ rows) = here r rows _ refl (put_same rows)

  there : (r : Row) (rows : List Row) (b : Bool) → bytes_eq r.id id ≡ b → has_row id (with_values id how s vs rows) ≡ true → has_row id (with_values id how s vs (r ∷ rows)) ≡ true
  there r rows true e so = rw e (rw e refl)
  there r rows false e so = rw e (rw e so)

  pub has_same : (rows : List Row) → has_row id (with_values id how s vs rows) ≡ true
  has_same [] = rw (same_list-self id) refl
  has_same (r ∷ rows) = there r rows _ refl (has_same rows)

  -- the values of another one
  module _ (other : Text) (differ : bytes_eq id other ≡ false) where
    unlike : (r : Row) → bytes_eq r.id id ≡ true → bytes_eq r.id other ≡ false
    unlike r e = ap (λ t. bytes_eq t other) (same_text r.id id (sym e)) ∙ differ

    beside : (r : Row) (rows : List Row) (b c : Bool) → bytes_eq r.id id ≡ b → bytes_eq r.id other ≡ c → values_at other (with_values id how s vs rows) ≡ values_at other rows
        → values_at other (with_values id how s vs (r ∷ rows)) ≡ values_at other (r ∷ rows)
    beside r rows true c e f so = rw e (rw (unlike r e) refl)
    beside r rows false true e f so = rw e (rw f refl)
    beside r rows false false e f so = rw e (rw f so)

    pub put_other : (rows : List Row) → values_at other (with_values id how s vs rows) ≡ values_at other rows
    put_other [] = rw differ refl
    put_other (r ∷ rows) = beside r rows _ _ refl refl (put_other rows)

    beyond : (r : Row) (rows : List Row) (b c : Bool) → bytes_eq r.id id ≡ b → bytes_eq r.id other ≡ c → has_row other (with_values id how s vs rows) ≡ has_row other rows
        → has_row other (with_values id how s vs (r ∷ rows)) ≡ has_row other (r ∷ rows)
    beyond r rows true c e f so = rw e (rw (unlike r e) refl)
    beyond r rows false true e f so = rw e (rw f refl)
    beyond r rows false false e f so = rw e (rw f so)

    pub has_other : (rows : List Row) → has_row other (with_values id how s vs rows) ≡ has_row other rows
    has_other [] = rw differ refl
    has_other (r ∷ rows) = beyond r rows _ _ refl refl (has_other rows)

-- an argument that has no row has no values, and none to take away
at_none : (id : Text) (r : Row) (rows : List Row) (b : Bool) → bytes_eq r.id id ≡ b → has_row id (r ∷ rows) ≡ false → (has_row id rows ≡ false → without id rows ≡ rows) → without id (r ∷ rows) ≡ r ∷ rows
at_none id r rows true e none so = let bad = rw e at none in cc
at_none id r rows false e none so = rw e (ap (λ rs. r ∷ rs) (so (rw e at none)))

pub without_none : (id : Text) (rows : List Row) → has_row id rows ≡ false → without id rows ≡ rows
without_none id [] none = refl
without_none id (r ∷ rows) none = at_none id r rows _ refl none (without_none id rows)
