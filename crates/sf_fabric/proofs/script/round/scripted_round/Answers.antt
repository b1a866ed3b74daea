use Rattle.std.proofs.Common.{◌≡◌, ◌<◌, ℕ, List, length, map, sym, ap, subst, ◌∙◌}
use Rattle.std.specs.List.{AllByRecursion}
use Rattle.plain_lists.specs.Lists.{below}
use Rattle.plain_lists.specs.Vectors.{lists_of}
use Rattle.sf_defs.specs.declared.Ask.{Ask}
use Rattle.sf_defs.specs.Rounds.{Round, IsLegal, all_asks, printed_turns}
use Rattle.sf_defs.specs.Script.{scripted, fetched_by_rank, fetching, walk, queues, words_after_all}
use Rattle.round_laws.proofs.Scripts.{scripted-legal}
use Rattle.sf_fabric.specs.orders.Places.{AreAsked}
use Rattle.sf_fabric.proofs.script.Scripted.{scripted-of, scripted-asked, scripted-tag, scripted-before, scripted-asks}
use Rattle.sf_fabric.proofs.script.round.scripted_round.Goals as goal

pub through-requires : goal.through-requires
through-requires c =
    subst (λ (n : ℕ). AllByRecursion (λ (a : Ask). a.word < n) (all_asks c.in_ok-asks.asks)) (sym (ap length c.deref.ensures.value))
    (subst (λ (own : List (List Ask)). AllByRecursion (λ (a : Ask). a.word < length c.args.words.items) (all_asks own)) (sym c.in_ok-asks.ensures) c.requires.in_range)

pub into_parts-after-requires : goal.into_parts-after-requires
into_parts-after-requires c =
    let got : c.in_ok-walk.walk.at.got ≡ fetched_by_rank (length (lists_of c.args.asks.items)) (fetching c.args.words.items (walk c.args.picks.now (queues (lists_of c.args.asks.items)))) =
    c.in_ok-walk.ensures.got ∙ (λ i. fetched_by_rank (length (c.in_ok-asks.ensures i)) (fetching (c.deref.ensures.value i) (walk c.args.picks.now (queues (c.in_ok-asks.ensures i))))) in
    (scripted-asked c.args.words.items (lists_of c.args.asks.items) c.args.picks.now c.in_ok-walk.walk.at.got c.requires got).fetched
    ∙ ap (map length) (sym c.in_ok-asks.ensures) ∙ sym c.in_ok-walk.ensures.rooms

pub printed_orders-requires : goal.printed_orders-requires
printed_orders-requires c =
    let got : c.into_parts-after.result.1 ≡ fetched_by_rank (length (lists_of c.args.asks.items)) (fetching c.args.words.items (walk c.args.picks.now (queues (lists_of c.args.asks.items)))) =
    c.into_parts-after.ensures.1 ∙ (c.in_ok-walk.ensures.got ∙ (λ i. fetched_by_rank (length (c.in_ok-asks.ensures i)) (fetching (c.deref.ensures.value i) (walk c.args.picks.now (queues (c.in_ok-asks.ensures i)))))) in
    let asked = scripted-asked c.args.words.items (lists_of c.args.asks.items) c.args.picks.now c.into_parts-after.result.1 c.requires got in
    subst (λ (ws : List ℕ). AreAsked ws c.in_ok-asks.asks c.into_parts-after.result.1) (sym c.deref-2.ensures.value)
    (subst (λ (own : List (List Ask)). AreAsked c.args.words.items own c.into_parts-after.result.1) (sym c.in_ok-asks.ensures) asked)

pub returns : goal.returns
returns c =
    let own : c.in_ok-asks.asks ≡ lists_of c.args.asks.items = c.in_ok-asks.ensures in
    let got : c.into_parts-after.result.1 ≡ fetched_by_rank (length (lists_of c.args.asks.items)) (fetching c.args.words.items (walk c.args.picks.now (queues (lists_of c.args.asks.items)))) =
    c.into_parts-after.ensures.1 ∙ (c.in_ok-walk.ensures.got ∙ (λ i. fetched_by_rank (length (own i)) (fetching (c.deref.ensures.value i) (walk c.args.picks.now (queues (own i)))))) in
    let after : c.into_parts-after.result.0.items ≡ words_after_all c.args.words.items (walk c.args.picks.now (queues (lists_of c.args.asks.items))) =
    c.into_parts-after.ensures.0 ∙ (c.in_ok-walk.ensures.words ∙ (λ i. words_after_all (c.deref.ensures.value i) (walk c.args.picks.now (queues (own i))))) in
    let order : c.in_ok-order.order ≡ map (printed_turns c.args.words.items (lists_of c.args.asks.items) c.into_parts-after.result.1) (below (length c.args.words.items)) =
    c.in_ok-order.ensures ∙ (λ i. map (printed_turns (c.deref-2.ensures.value i) (own i) c.into_parts-after.result.1) (below (length (c.deref-2.ensures.value i)))) in
    let is : c.flat.result ≡ scripted c.args.tag c.args.words.items (lists_of c.args.asks.items) c.args.picks.now =
    c.flat.ensures ∙ ((λ i. record { tag = c.args.tag; before = c.args.words.items; asks = own i; got = c.into_parts-after.result.1; after = c.into_parts-after.result.0.items; order = order i })
    ∙ scripted-of c.args.tag c.args.words.items (lists_of c.args.asks.items) c.args.picks.now c.into_parts-after.result.1 c.into_parts-after.result.0.items got after) in
    record {
      round = is;
      legal = subst IsLegal (sym is) (scripted-legal c.args.tag c.args.words.items (lists_of c.args.asks.items) c.args.picks.now c.requires);
      tag = ap (λ (r : Round). r.tag) is ∙ scripted-tag c.args.tag c.args.words.items (lists_of c.args.asks.items) c.args.picks.now;
      before = ap (λ (r : Round). r.before) is ∙ scripted-before c.args.tag c.args.words.items (lists_of c.args.asks.items) c.args.picks.now;
      asks = ap (λ (r : Round). r.asks) is ∙ scripted-asks c.args.tag c.args.words.items (lists_of c.args.asks.items) c.args.picks.now;
    }
