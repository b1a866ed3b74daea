-- What was played on a table is a legal round.
use Rattle.std.proofs.Common.{◌≡◌, ℕ, ◌+◌, ◌<◌, ◌^◌, List, [], ◌∷◌, ◌++◌, length, map, get_or, zip, refl, sym, ap, ◌∙◌, arith}
use Rattle.std.specs.Prelude.{flat_map, Result, Ok, Err, IfOk}
use Rattle.std.specs.List.{AllByRecursion, enumerate_from}
use Rattle.std.proofs.lemmas.List.{length-map, map-append}
use Rattle.plain_lists.proofs.Below.{length-below, get_or-map-below}
use Rattle.plain_lists.specs.Lists.{below}
use Rattle.sf_defs.specs.declared.Tag.{Tag}
use Rattle.sf_defs.specs.declared.Ask.{Ask}
use Rattle.sf_defs.specs.declared.Op.TheVariants.{Load}
use Rattle.sf_defs.specs.Rounds.{Round, MeetsConditions, IsLegal, all_asks, rank_entries, printed_turns}
use Rattle.round_laws.specs.ReplayingOrders.{IsPrinted}
use Rattle.round_laws.proofs.Legal.{legal-from-orders}
use Rattle.sf_fabric.specs.orders.Places.{AreAsked}
use Rattle.sf_threads.specs.declared.thread_rule.view.Key.{Key}
use Rattle.sf_threads.specs.thread_rule.Rule.{entry_of, view}
use Rattle.sf_threads.proofs.thread_rule.Ending.{ends}
use Rattle.sf_threads.specs.Doing.{IsDoable, AreDoable, dones, all_dones}
use Rattle.sf_threads.specs.Played.{HasPlayed, IsPlayable, HaveOrders}

-- ---- what was done, as entries

entries-from : (rank n : ℕ) (l : List (Ask × ℕ)) → map entry_of (map (λ (x : ℕ × (Ask × ℕ)). record { rank = rank; index = x.0; ask = x.1.0; got = x.1.1 }) (enumerate_from n l)) ≡ map (λ (x : ℕ × (Ask × ℕ)). record { rank = rank; index = x.0; ask = x.1.0; got = x.1.1 }) (enumerate_from n l)
entries-from rank n [] = refl
entries-from rank n (x ∷ xs) = ap (λ l. record { rank = rank; index = n; ask = x.0; got = x.1 } ∷ l) (entries-from rank (n + 1) xs)

dones-are : (rank : ℕ) (asks : List Ask) (got : List ℕ) → map entry_of (dones rank asks got) ≡ rank_entries rank asks got
unfolding dones
dones-are rank asks got = entries-from rank 0 (zip asks got)

all-from : (first : ℕ) (asks : List (List Ask)) (got : List (List ℕ)) → map entry_of (all_dones first asks got) ≡ flat_map (λ (x : ℕ × (List Ask × List ℕ)). rank_entries x.0 x.1.0 x.1.1) (enumerate_from first (zip asks got))
all-from first [] got = refl
all-from first (own ∷ asks) [] = refl
all-from first (own ∷ asks) (mine ∷ got) =
    map-append entry_of (dones first own mine) (all_dones (first + 1) asks got) ∙ (λ i. dones-are first own mine i ++ all-from (first + 1) asks got i)

-- ---- what may be played

split-all : {X : Type 0} (p : X → Type 0) (xs ys : List X) → AllByRecursion p (xs ++ ys) → AllByRecursion p xs × AllByRecursion p ys
split-all p [] ys a = (tt, a)
split-all p (x ∷ xs) ys a = let r = split-all p xs ys a.1 in ((a.0, r.0), r.1)

doable-own : (n : ℕ) (own : List Ask) → AllByRecursion (λ (a : Ask). a.word < n) own → AllByRecursion (λ (a : Ask). a.op ≡ Load → a.value ≡ 0) own → AllByRecursion (IsDoable n) own
doable-own n [] a b = tt
doable-own n (x ∷ own) a b = (record { in_range = a.0; plain_load = b.0 }, doable-own n own a.1 b.1)

doable-all : (n : ℕ) (asks : List (List Ask)) → AllByRecursion (λ (own : List Ask). length own < 2 ^ 32) asks → AllByRecursion (λ (a : Ask). a.word < n) (all_asks asks) → AllByRecursion (λ (a : Ask). a.op ≡ Load → a.value ≡ 0) (all_asks asks) → AllByRecursion (AreDoable n) asks
doable-all n [] few a b = tt
doable-all n (own ∷ asks) few a b =
    let range : AllByRecursion (λ (x : Ask). x.word < n) own × AllByRecursion (λ (x : Ask). x.word < n) (all_asks asks) = split-all (λ (x : Ask). x.word < n) own (all_asks asks) a in
    let loads : AllByRecursion (λ (x : Ask). x.op ≡ Load → x.value ≡ 0) own × AllByRecursion (λ (x : Ask). x.op ≡ Load → x.value ≡ 0) (all_asks asks) = split-all (λ (x : Ask). x.op ≡ Load → x.value ≡ 0) own (all_asks asks) b in
    (record { few = few.0; each = doable-own n own range.0 loads.0 }, doable-all n asks few.1 range.1 loads.1)

pub playable : (key : Key) (asks : List (List Ask)) → 0 < length key.words.items → key.ranks ≡ length asks → MeetsConditions key.words.items asks → IsPlayable key asks
playable key asks some ranks met = record {
  some_word = some;
  ranks = ranks;
  few_ranks = omega (arith, met.few_ranks);
  doable = doable-all (length key.words.items) asks met.few_asks met.in_range met.plain_loads;
}

pub asked : (words : List ℕ) (asks : List (List Ask)) (got : List (List ℕ)) → MeetsConditions words asks → map length got ≡ map length asks → AreAsked words asks got
asked words asks got met many = record { few_words = met.few_words; few_ranks = omega (arith, met.few_ranks); few_asks = met.few_asks; in_range = met.in_range; fetched = many }

-- ---- orders and legality

pub no-words : (words : List ℕ) (asks : List (List Ask)) (got : List (List ℕ)) (after : List ℕ) → length words ≡ 0 → HaveOrders words asks got after
no-words words asks got after none w h = absurd (omega (arith, none, h))

pub played-orders : (tag : Tag) (key : Key) (asks : List (List Ask)) (got : List (List ℕ)) (after : List ℕ) → HasPlayed key asks got after → HaveOrders key.words.items asks got after
played-orders tag key asks got after p =
    ends key p.state p.kept p.seat (view 0 key.ranks (all_dones 0 asks got)) p.has_all refl refl
    (record { tag = tag; before = key.words.items; asks = asks; got = got; after = after; order = [] }) refl (sym p.words) (all-from 0 asks got)

pub legal-of : (r : Round) → MeetsConditions r.before r.asks → map length r.got ≡ map length r.asks → length r.after ≡ length r.before → r.order ≡ map (printed_turns r.before r.asks r.got) (below (length r.before))
    → HaveOrders r.before r.asks r.got r.after → IsLegal r
legal-of r met many lasts order orders = legal-from-orders r printed orders
  where
    count : length r.order ≡ length r.before
    count = ap length order ∙ length-map (below (length r.before)) (printed_turns r.before r.asks r.got) ∙ length-below (length r.before)

    printed : IsPrinted r
    printed = record {
      conditions = met;
      fetched = many;
      lasts = lasts;
      orders = count;
      printed = λ w h. ap (λ l. get_or l w []) order ∙ get_or-map-below (printed_turns r.before r.asks r.got) (length r.before) w [] h;
    }

-- what follows from an answer
pub if-ok : {A E : Type 0} (p q : A → Type 0) (r : Result A E) → ((a : A) → p a → q a) → IfOk r p → IfOk r q
if-ok p q (Ok a) f h = f a h
if-ok p q (Err e) f h = tt
