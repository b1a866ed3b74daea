-- A walk along the order of one word: what each of its turns has to be.
use Rattle.std.specs.Prelude.{ℕ, ◌+◌, ◌^◌, Bool, true, false, not, ◌&&◌, ◌||◌, ◌==◌, nat_lt, nat_le, List, [], ◌∷◌, length, map, get_or, set, replicate, Option, Some, None}
use Rattle.sf_defs.specs.declared.Op.{Op}
use Rattle.sf_defs.specs.declared.Op.TheVariants.{Load, Replace}
use Rattle.sf_defs.specs.declared.Ask.{Ask}
use Rattle.sf_defs.specs.declared.Turn.{Turn}
use Rattle.sf_defs.specs.Asks.{Entry, after_ask}
use Rattle.sf_defs.specs.PrintedOrder.{is_load, kind_of, stands_before}
use Rattle.sf_defs.specs.Rounds.{Round, added, same_op, entry_at}
use Rattle.sf_fabric.specs.declared.replays.walk.Walk.{Walk}

-- the ask that a turn names, and a Load where it names none
abbrev pub ask_of : List (List Ask) → Turn → Ask
ask_of asks t = get_or (get_or asks t.rank []) t.index (record { word = 0; op = Load; value = 0 })

-- a turn names an ask on word w
abbrev pub names : List (List Ask) → ℕ → Turn → Bool
names asks w t = nat_lt t.rank (length asks) && (nat_lt t.index (length (get_or asks t.rank [])) && ((ask_of asks t).word == w))

-- an entry may come after the last one
abbrev pub follows : Op → ℕ → Option Entry → Entry → Bool
follows kind first None e = true
follows kind first (Some d) e = stands_before kind first d e

-- after such turns an entry may come: in its rank's order and in the printed one, with the word as it stands, of the
-- word's kind, no second Replace, no Sum past the last number
unfoldable pub takes : Walk → Entry → Bool
takes s e =
    nat_le (get_or s.next e.rank 0) e.index && ((e.got == s.word) && ((is_load e.ask.op || same_op e.ask.op s.kind)
    && (not (s.replaced && same_op e.ask.op Replace) && (nat_lt (s.total + added e.ask) (2 ^ 64) && follows s.kind s.first s.last e))))

-- and so the walk goes on
unfoldable pub taken : Walk → Entry → Walk
taken s e = record s {
  next = set s.next e.rank (e.index + 1);
  word = after_ask e.ask e.got;
  replaced = s.replaced || same_op e.ask.op Replace;
  total = s.total + added e.ask;
  last = Some e;
}

-- from here on the turns name asks on word w that may come, and leave the word as `last`
abbrev pub goes_on : List (List Ask) → List (List ℕ) → ℕ → ℕ → Walk → List Turn → Bool
goes_on asks got w last s [] = s.word == last
goes_on asks got w last s (t ∷ ts) = names asks w t && (takes s (entry_at asks got t) && goes_on asks got w last (taken s (entry_at asks got t)) ts)

-- before the first turn
unfoldable pub start : Op → ℕ → Walk
start kind first = record { kind = kind; first = first; next = replicate 64 0; word = first; replaced = false; total = first; last = None }

-- the whole order of word w
unfoldable pub is_right_order : Round → ℕ → Bool
is_right_order r w =
    goes_on r.asks r.got w (get_or r.after w 0) (start (kind_of (map (ask_of r.asks) (get_or r.order w []))) (get_or r.before w 0)) (get_or r.order w [])
