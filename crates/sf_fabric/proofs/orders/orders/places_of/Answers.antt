use Rattle.std.proofs.Common.{◌≡◌, ℕ, ◌^◌, ◌<◌, [], ◌++◌, List, map, length, get_or, arith, sym, ap, subst, ◌∙◌, ⊎_elim}
use Rattle.std.specs.List.{AllByRecursion}
use Rattle.plain_lists.proofs.Each.{all_at}
use Rattle.std.proofs.lemmas.Bool.{cases_lt}
use Rattle.sf_defs.specs.declared.Ask.{Ask}
use Rattle.sf_defs.specs.Rounds.{entries}
use Rattle.round_laws.proofs.Entries.{same_lengths}
use Rattle.sf_fabric.specs.declared.orders.place.Place.{Place}
use Rattle.sf_fabric.specs.orders.Places.{place_in, entries_of}
use Rattle.sf_fabric.proofs.orders.Entered.{rank_asks, entered-more, entered-all, places-kinds, as_many}
use Rattle.sf_fabric.proofs.orders.orders.places_of.Goals as goal

pub list-requires-in-loop-rank : goal.list-requires-in-loop-rank
list-requires-in-loop-rank c = let count = as_many c.args.asks.now c.args.got.now c.requires.fetched in omega arith

pub add_places-requires-clause-few : goal.add_places-requires-clause-few
add_places-requires-clause-few c =
    subst (λ (asks : List Ask). length asks < 2 ^ 32) (sym c.list.ensures) (all_at (λ own. length own < 2 ^ 32) c.args.asks.now c.loop-rank.rank [] c.requires.few_asks (omega arith))

pub add_places-requires-clause-fetched : goal.add_places-requires-clause-fetched
add_places-requires-clause-fetched c =
    ap length c.list-in-loop-rank.ensures ∙ same_lengths c.loop-rank.rank c.args.asks.now c.args.got.now c.requires.fetched ∙ sym (ap length c.list.ensures)

pub add_places-requires-clause-in_range : goal.add_places-requires-clause-in_range
add_places-requires-clause-in_range c =
    subst (AllByRecursion (λ (a : Ask). a.word < length c.args.words.now)) (sym c.list.ensures) (rank_asks (λ (a : Ask). a.word < length c.args.words.now) c.args.asks.now c.loop-rank.rank c.requires.in_range (omega arith))

pub loop-rank-preserved : goal.loop-rank-preserved
loop-rank-preserved c =
    let kinds : c.deref.result.now ≡ c.in_ok-kinds.kinds.items = c.deref.ensures.value in
    let before : List Place = c.loop-rank.places.items in
    let added : c.add_places.new.places.items ≡ before ++ map (place_in c.in_ok-kinds.kinds.items c.args.words.now) (entries_of c.loop-rank.rank 0 (get_or c.args.asks.now c.loop-rank.rank []) (get_or c.args.got.now c.loop-rank.rank [])) =
    c.in_ok-add_places.ensures.added
    ∙ (λ i. before ++ map (place_in (kinds i) c.args.words.now) (entries_of c.loop-rank.rank 0 (c.list.ensures i) (c.list-in-loop-rank.ensures i))) in
    let count = as_many c.args.asks.now c.args.got.now c.requires.fetched in
    record {
      small = λ rank k lt. ⊎_elim (λ below. c.loop-rank.invariant.small rank k below) (λ here. let at : c.loop-rank.rank ≡ rank = omega arith in subst (λ r. get_or (get_or c.args.got.now r []) k 0 < 2 ^ 64) at (subst (λ (got : List ℕ). get_or got k 0 < 2 ^ 64) c.list-in-loop-rank.ensures (c.in_ok-add_places.ensures.small k))) (cases_lt rank c.loop-rank.rank);
      entered = entered-more (place_in c.in_ok-kinds.kinds.items c.args.words.now) before c.add_places.new.places.items c.loop-rank.rank c.args.asks.now c.args.got.now (map (place_in c.in_ok-kinds.kinds.items c.args.words.now) (entries c.args.asks.now c.args.got.now)) (omega arith) (omega arith) c.loop-rank.invariant.entered added;
    }

pub returns-clause-places : goal.returns-clause-places
returns-clause-places c =
    entered-all (place_in c.in_ok-kinds.kinds.items c.args.words.now) c.loop-rank.places.items c.loop-rank.rank c.args.asks.now c.args.got.now (omega arith) c.loop-rank.invariant.entered
    ∙ places-kinds c.in_ok-kinds.kinds.items c.args.words.now c.args.asks.now c.args.got.now c.in_ok-kinds.ensures.kinds
