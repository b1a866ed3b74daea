-- A walk through the asks of a round: where it stands, and what is still to come.
use Rattle.std.specs.Prelude.{◌≡◌, ℕ, ◌≤◌, nat_lt, if◌then◌else◌, List, [], ◌∷◌, ◌++◌, length, map, get_or, set, take, drop}
use Rattle.plain_lists.specs.Lists.{below}
use Rattle.sf_defs.specs.declared.Op.TheVariants.{Load}
use Rattle.sf_defs.specs.declared.Ask.{Ask}
use Rattle.sf_defs.specs.Asks.{after_ask}
use Rattle.sf_defs.specs.Script.{Event, queues, walk}

-- the words, and what each rank's asks fetched so far
pub record Standing : Type 0 where
  pub words : List ℕ
  pub got : List (List ℕ)

-- so many of each list
abbrev pub taken : List ℕ → List (List ℕ) → List (List ℕ)
taken [] lists = []
taken (n ∷ ns) [] = []
taken (n ∷ ns) (l ∷ ls) = take n l ∷ taken ns ls

-- so many of each list are there
pub record AreThere (counts : List ℕ) (lists : List (List ℕ)) : Type 0 where
  pub each : length counts ≡ length lists
  pub low : (k : ℕ) → get_or counts k 0 ≤ length (get_or lists k [])

-- where a walk stands, and for how many values of each rank it has room
pub record Course : Type 0 where
  pub at : Standing
  pub rooms : List ℕ

-- after an ask of a rank
abbrev pub done : Standing → ℕ → Ask → Standing
done s rank ask = record {
  words = set s.words ask.word (after_ask ask (get_or s.words ask.word 0));
  got = set s.got rank (get_or s.got rank [] ++ get_or s.words ask.word 0 ∷ []);
}

-- after the next ask of a rank, where it has one
unfoldable pub done_next : List (List Ask) → Standing → ℕ → Standing
done_next asks s rank =
    if nat_lt (length (get_or s.got rank [])) (length (get_or asks rank []))
    then done s rank (get_or (get_or asks rank []) (length (get_or s.got rank [])) (record { word = 0; op = Load; value = 0 })) else s

-- after these events
abbrev pub done_all : Standing → List Event → Standing
done_all s [] = s
done_all s (e ∷ es) = done_all (done s e.rank e.ask) es

-- what is left of each rank's queue
unfoldable pub left : List (List Ask) → List (List ℕ) → List (List Event)
left asks got = map (λ rank. drop (length (get_or got rank [])) (get_or (queues asks) rank [])) (below (length asks))

-- where the walk ends, with these picks to come
unfoldable pub ending : List (List Ask) → Standing → List ℕ → Standing
ending asks s picks = done_all s (walk picks (left asks s.got))

-- before the first ask
abbrev pub start : List (List Ask) → List ℕ → Standing
start asks words = record { words = words; got = map (λ own. []) asks }
