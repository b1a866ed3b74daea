use Rattle.std.proofs.Common.{◌≡◌, ◌+◌, length, ap, ◌∙◌, arith}
use Rattle.atomic_table.specs.Table.{Me}
use Rattle.sf_threads.specs.declared.thread_rule.view.View.{View}
use Rattle.sf_threads.proofs.thread_rule.Moves.{splits, joins}
use Rattle.sf_threads.proofs.Parts.{got-after, both-done}
use Rattle.sf_threads.proofs.ranks.+ranks.Goals as goal

pub do_all-split_seat-rest-requires : goal.do_all-split_seat-rest-requires
do_all-split_seat-rest-requires g t c =
    let first : c.args.seat.now.me.0.first ≡ c.args.first = ap (λ (m : Me (Unit {0}) View). m.0.first) c.requires.seat in
    let end : c.args.seat.now.me.0.end ≡ c.args.first + length c.args.asks.now = ap (λ (m : Me (Unit {0}) View). m.0.end) c.requires.seat in
    (c.requires.table, c.requires.some_word, splits c.args.words.now.key c.args.seat.now.id c.args.seat.now.me.0 (ap (λ (m : Me (Unit {0}) View). m.0.done) c.requires.seat) (omega (arith, first, end, c.in-Some.ensures.cases.1)))

pub do_all-join_seat-requires : goal.do_all-join_seat-requires
do_all-join_seat-requires g t c =
    let v : View = c.do_both.new.seat.me.0 in
    let w : View = c.do_both.new.rest.me.0 in
    let v-first : v.first ≡ c.args.first = ap (λ (m : Me (Unit {0}) View). m.0.first) c.do_both.ensures.own in
    let v-end : v.end ≡ c.args.first + 1 = ap (λ (m : Me (Unit {0}) View). m.0.end) c.do_both.ensures.own in
    let w-first : w.first ≡ c.args.first + 1 = ap (λ (m : Me (Unit {0}) View). m.0.first) c.do_both.ensures.others in
    let w-end : w.end ≡ c.args.first + 1 + length c.in-Some.others.now = ap (λ (m : Me (Unit {0}) View). m.0.end) c.do_both.ensures.others in (
      c.do_both.ensures.same.0 ∙ (c.split_seat-rest.ensures.0 ∙ c.requires.table),
      c.do_both.ensures.same.2 ∙ (c.split_seat-rest.ensures.3 ∙ c.requires.table),
      ap (λ (m : Me (Unit {0}) View). m.1) c.do_both.ensures.others,
      c.requires.some_word,
      joins c.args.words.now.key c.do_both.new.seat.id c.do_both.new.rest.id v w (omega (arith, w-first, v-end)) (omega (arith, v-first, v-end)) (omega (arith, w-first, w-end)),
    )

pub do_all-returns-clause-got : goal.do_all-returns-clause-got
do_all-returns-clause-got g t c =
    got-after c.do_both.new.mine c.do_both.new.theirs c.in-Some.own.now c.deref.result.now c.in-Some.others.now c.args.asks.now
    c.do_both.ensures.got.0 c.deref.ensures.value c.do_both.ensures.got.1 c.in-Some.ensures.cases.0

pub do_all-returns-clause-done : goal.do_all-returns-clause-done
do_all-returns-clause-done g t c =
    c.join_seat.ensures.2
    ∙ both-done c.args.first c.do_both.new.mine c.do_both.new.theirs c.in-Some.own.now c.deref.result.now c.in-Some.others.now c.args.asks.now c.do_both.new.seat.me c.do_both.new.rest.me
    c.do_both.ensures.got.0 c.deref.ensures.value c.in-Some.ensures.cases.0 c.do_both.ensures.own c.do_both.ensures.others
