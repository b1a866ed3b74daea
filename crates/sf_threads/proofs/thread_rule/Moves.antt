-- What each step of a seat owes.
use Rattle.std.proofs.Common.{◌≡◌, ℕ, zero, suc, ◌<◌, ◌≤◌, [], ◌∷◌, ◌++◌, length, get_or, set, refl, sym, subst, ◌∙◌, arith}
use Rattle.std.specs.Prelude.{slice_index}
use mathlib.Core.Option.{some, none, some-injective, some-ne-none}
use lib.ListN.{get_elem?}
use Rattle.atomic_table.proofs.Lists.{set_else}
use Rattle.atomic_table.specs.Table.{Me, step, keeps, opening, Allows, Splits, Joins}
use Rattle.sf_defs.specs.declared.Op.{Op}
use Rattle.sf_defs.specs.Asks.{step as op_step}
use Rattle.sf_threads.specs.declared.thread_rule.view.Done.{Done}
use Rattle.sf_threads.specs.declared.thread_rule.view.View.{View}
use Rattle.sf_threads.specs.declared.thread_rule.view.Key.{Key}
use Rattle.sf_threads.specs.thread_rule.Rule.{entry_of, view, HasRank, everyone, nobody, first_of, others_of, joined, Plays, Kept, Knows, Does}
use Rattle.sf_threads.proofs.thread_rule.Playing.{plays-length, plays-more}
use Rattle.sf_threads.proofs.thread_rule.Seats.{seats-do, seats-split, seats-join}

-- a table to begin with
pub begins : (k : Key) → Kept k (opening k.words.items [] (everyone k))
begins k = record { log = []; plays = refl; seats = record { know = know; apart = apart; no_others = λ rank h. refl } }
  where
    know : (seat : ℕ) (v : View) → get_elem? (everyone k ∷ []) seat ≡ some v → Knows [] k.ranks v
    know zero v e = subst (Knows [] k.ranks) (some-injective _ _ e) (record { own = λ rank r. refl; inside = tt; within = omega arith })
    know (suc seat) v e = absurd (some-ne-none v (sym e))

    apart : (seat other : ℕ) (v w : View) (rank : ℕ) → get_elem? (everyone k ∷ []) seat ≡ some v → get_elem? (everyone k ∷ []) other ≡ some w → HasRank v rank → HasRank w rank → seat ≡ other
    apart zero zero v w rank e f r s = refl
    apart zero (suc other) v w rank e f r s = absurd (some-ne-none w (sym f))
    apart (suc seat) other v w rank e f r s = absurd (some-ne-none v (sym e))

-- an ask of the one rank of a seat; f is what the step does to the word
pub does : (op : Op) (f : ℕ → ℕ) (k : Key) (slots id i value : ℕ) (v : View) → v.first < v.end → i < length k.words.items → ((n : ℕ) → f n ≡ op_step op value n)
    → Allows (Kept k) slots id (v, []) i f (Does op (step slots i value 0 none) (v, []))
does op f k slots id i value v some-rank within same s kept many at small =
    let d : Done = record { rank = v.first; index = length v.done; ask = record { word = i; op = op; value = value }; got = slice_index s.words i } in
    let inside : i < length s.words = omega (arith, within, plays-length k.words.items kept.log s.words kept.plays) in
    let more : Plays k.words.items (kept.log ++ entry_of d ∷ []) (set s.words i (op_step op value (get_or s.words i 0))) = plays-more k.words.items kept.log s.words (entry_of d) kept.plays inside refl in (
      view v.first v.end (v.done ++ d ∷ []),
      keeps,
      tt,
      record {
        log = kept.log ++ entry_of d ∷ [];
        plays = subst (λ n. Plays k.words.items (kept.log ++ entry_of d ∷ []) (set s.words i n)) (sym (same (slice_index s.words i))) more;
        seats = seats-do kept.log k.ranks s.views kept.seats id v at d (record { from = omega arith; below = some-rank });
      },
      refl,
    )

-- a seat that has done nothing gives all its ranks but the first to a new one
pub splits : (k : Key) (id : ℕ) (v : View) → v.done ≡ [] → v.first < v.end → Splits (Kept k) id v (first_of v) (others_of v)
splits k id v idle some-rank s kept at = record { log = kept.log; plays = kept.plays; seats = seats-split kept.log k.ranks s.views kept.seats id v at idle some-rank }

-- a seat takes in the one whose ranks follow
pub joins : (k : Key) (id other : ℕ) (v w : View) → w.first ≡ v.end → v.first ≤ v.end → w.first ≤ w.end → Joins (Kept k) id v other w (joined v w) nobody
joins k id other v w follows ordered more s kept at else found =
    let there : get_elem? s.views other ≡ some w = sym (set_else s.views id other (joined v w) else) ∙ found in
    record { log = kept.log; plays = kept.plays; seats = seats-join kept.log k.ranks s.views kept.seats id v at other w else there follows ordered more }

-- the same of a seat that holds no slot
pub does-bare : (op : Op) (f : ℕ → ℕ) (k : Key) (slots id i value : ℕ) (me : Me (Unit {0}) View) → me.1 ≡ [] → me.0.first < me.0.end → i < length k.words.items → ((n : ℕ) → f n ≡ op_step op value n)
    → Allows (Kept k) slots id me i f (Does op (step slots i value 0 none) me)
does-bare op f k slots id i value me bare some-rank within same =
    let is : (me.0, []) ≡ me = (λ j. (me.0, sym bare j)) in
    subst (λ (m : Me (Unit {0}) View). Allows (Kept k) slots id m i f (Does op (step slots i value 0 none) m)) is (does op f k slots id i value me.0 some-rank within same)
