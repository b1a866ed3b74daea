use Rattle.std.proofs.Common.{◌≡◌, ℕ, List, length, map, refl, sym, ap, subst, ◌∙◌}
use Rattle.std.specs.List.{sum_by}
use Rattle.std.specs.declared.vec.Vec.{Vec}
use Rattle.std.specs.declared.alloc.Global.{Global}
use Rattle.std.specs.Vec.{with_items}
use Rattle.std.proofs.lemmas.List.{with_items_is}
use Rattle.plain_lists.specs.Lists.{below}
use Rattle.plain_lists.specs.Vectors.{lists_of}
use Rattle.sf_defs.specs.declared.Ask.{Ask}
use Rattle.sf_defs.specs.Rounds.{IsLegal, printed_turns}
use Rattle.sf_fabric.specs.Cut.{shared}
use Rattle.sf_fabric.specs.orders.Places.{AreAsked}
use Rattle.sf_threads.specs.Played.{HaveOrders}
use Rattle.sf_threads.proofs.Legal.{asked, legal-of}
use Rattle.sf_threads.proofs.round.thread_round.Goals as goal

pub alike-requires : goal.alike-requires
alike-requires g c =
    let size : length c.play_all.new.got ≡ c.in_ok-got.got.len =
    c.in_ok-after.ensures.got ∙ ap (λ (v : List (Vec Ask Global)). sum_by length (lists_of v)) (c.deref-2.ensures.value ∙ sym c.deref.ensures.value) ∙ sym c.in_ok-got.ensures ∙ sym c.in_ok-got.got.ok.0 in
    ap length (with_items_is c.in_ok-got.got c.play_all.new.got size) ∙ c.in_ok-after.ensures.got
    ∙ ap (λ (v : List (Vec Ask Global)). sum_by length (lists_of v)) c.deref-2.ensures.value ∙ ap (sum_by length) (sym c.in_ok-asks.ensures)

pub printed_orders-requires : goal.printed_orders-requires
printed_orders-requires g c =
    let many : map length c.in_ok-got-2.got ≡ map length (lists_of c.args.asks.items) = c.in_ok-got-2.ensures.lengths ∙ ap (map length) c.in_ok-asks.ensures in
    subst (λ (ws : List ℕ). AreAsked ws c.in_ok-asks.asks c.in_ok-got-2.got) (sym c.deref-3.ensures.value)
    (subst (λ (own : List (List Ask)). AreAsked c.args.words.items own c.in_ok-got-2.got) (sym c.in_ok-asks.ensures)
    (asked c.args.words.items (lists_of c.args.asks.items) c.in_ok-got-2.got c.requires many))

pub returns-clause-legal : goal.returns-clause-legal
returns-clause-legal g c =
    let words : List ℕ = c.args.words.items in
    let asks : List (List Ask) = lists_of c.args.asks.items in
    let got : List (List ℕ) = c.in_ok-got-2.got in
    let size : length c.play_all.new.got ≡ c.in_ok-got.got.len =
    c.in_ok-after.ensures.got ∙ ap (λ (v : List (Vec Ask Global)). sum_by length (lists_of v)) (c.deref-2.ensures.value ∙ sym c.deref.ensures.value) ∙ sym c.in_ok-got.ensures ∙ sym c.in_ok-got.got.ok.0 in
    let values : (with_items c.in_ok-got.got c.play_all.new.got).items ≡ c.play_all.new.got = with_items_is c.in_ok-got.got c.play_all.new.got size in
    let lists : got ≡ shared (map length asks) c.play_all.new.got = c.in_ok-got-2.ensures.lists ∙ (λ i. shared (map length (c.in_ok-asks.ensures i)) (values i)) in
    let order : c.in_ok-order.order ≡ map (printed_turns words asks got) (below (length words)) =
    c.in_ok-order.ensures ∙ (λ i. map (printed_turns (c.deref-3.ensures.value i) (c.in_ok-asks.ensures i) got) (below (length (c.deref-3.ensures.value i)))) in
    let is : c.flat.result ≡ record { tag = c.args.tag; before = words; asks = asks; got = got; after = c.in_ok-after.after.items; order = map (printed_turns words asks got) (below (length words)) } =
    c.flat.ensures ∙ (λ i. record { tag = c.args.tag; before = words; asks = c.in_ok-asks.ensures i; got = got; after = c.in_ok-after.after.items; order = order i }) in
    let many : map length got ≡ map length asks = c.in_ok-got-2.ensures.lengths ∙ ap (map length) c.in_ok-asks.ensures in
    let played : HaveOrders words asks (shared (map length asks) c.play_all.new.got) c.in_ok-after.after.items =
    subst (λ (v : List (Vec Ask Global)). HaveOrders words (lists_of v) (shared (map length (lists_of v)) c.play_all.new.got) c.in_ok-after.after.items) c.deref-2.ensures.value c.in_ok-after.ensures.orders in
    let orders : HaveOrders words asks got c.in_ok-after.after.items = subst (λ (values : List (List ℕ)). HaveOrders words asks values c.in_ok-after.after.items) (sym lists) played in
    subst IsLegal (sym is) (legal-of (record { tag = c.args.tag; before = words; asks = asks; got = got; after = c.in_ok-after.after.items; order = map (printed_turns words asks got) (below (length words)) }) c.requires many c.in_ok-after.ensures.count refl orders)
