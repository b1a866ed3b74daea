use Rattle.std.proofs.Common.{◌<◌, ◌+◌, ◌%◌, ◌^◌, min, max, refl, subst, sym}
use Rattle.std.specs.Prelude.{bit_and, bit_or}
use Rattle.sf_defs.specs.declared.Op.TheVariants.{Load, Sum, Min, Max, Or, And, Replace}
use Rattle.sf_defs.specs.Asks as asks
use Rattle.sf_threads.proofs.thread_rule.Moves.{does-bare}
use Rattle.sf_threads.proofs.asking.do_ask.Goals as goal

pub load-requires : goal.load-requires
unfolding asks.step
load-requires c = (
  c.requires.table,
  subst (λ n. c.args.ask.word < n) (sym c.requires.count) c.requires.ask.in_range,
  does-bare Load (λ n. n) c.args.words.now.key c.args.words.now.table_id.slots c.args.seat.now.id c.args.ask.word 0 c.args.seat.now.me c.requires.slots c.requires.rank c.requires.ask.in_range (λ n. refl),
)

pub fetch_add-requires : goal.fetch_add-requires
unfolding asks.step
fetch_add-requires c = (
  c.requires.table,
  subst (λ n. c.args.ask.word < n) (sym c.requires.count) c.requires.ask.in_range,
  does-bare Sum (λ n. (n + c.args.ask.value) % 2 ^ 64) c.args.words.now.key c.args.words.now.table_id.slots c.args.seat.now.id c.args.ask.word c.args.ask.value c.args.seat.now.me c.requires.slots c.requires.rank c.requires.ask.in_range (λ n. refl),
)

pub fetch_min-requires : goal.fetch_min-requires
unfolding asks.step
fetch_min-requires c = (
  c.requires.table,
  subst (λ n. c.args.ask.word < n) (sym c.requires.count) c.requires.ask.in_range,
  does-bare Min (λ n. min n c.args.ask.value) c.args.words.now.key c.args.words.now.table_id.slots c.args.seat.now.id c.args.ask.word c.args.ask.value c.args.seat.now.me c.requires.slots c.requires.rank c.requires.ask.in_range (λ n. refl),
)

pub fetch_max-requires : goal.fetch_max-requires
unfolding asks.step
fetch_max-requires c = (
  c.requires.table,
  subst (λ n. c.args.ask.word < n) (sym c.requires.count) c.requires.ask.in_range,
  does-bare Max (λ n. max n c.args.ask.value) c.args.words.now.key c.args.words.now.table_id.slots c.args.seat.now.id c.args.ask.word c.args.ask.value c.args.seat.now.me c.requires.slots c.requires.rank c.requires.ask.in_range (λ n. refl),
)

pub fetch_or-requires : goal.fetch_or-requires
unfolding asks.step
fetch_or-requires c = (
  c.requires.table,
  subst (λ n. c.args.ask.word < n) (sym c.requires.count) c.requires.ask.in_range,
  does-bare Or (λ n. bit_or n c.args.ask.value) c.args.words.now.key c.args.words.now.table_id.slots c.args.seat.now.id c.args.ask.word c.args.ask.value c.args.seat.now.me c.requires.slots c.requires.rank c.requires.ask.in_range (λ n. refl),
)

pub fetch_and-requires : goal.fetch_and-requires
unfolding asks.step
fetch_and-requires c = (
  c.requires.table,
  subst (λ n. c.args.ask.word < n) (sym c.requires.count) c.requires.ask.in_range,
  does-bare And (λ n. bit_and n c.args.ask.value) c.args.words.now.key c.args.words.now.table_id.slots c.args.seat.now.id c.args.ask.word c.args.ask.value c.args.seat.now.me c.requires.slots c.requires.rank c.requires.ask.in_range (λ n. refl),
)

pub swap-requires : goal.swap-requires
unfolding asks.step
swap-requires c = (
  c.requires.table,
  subst (λ n. c.args.ask.word < n) (sym c.requires.count) c.requires.ask.in_range,
  does-bare Replace (λ n. c.args.ask.value) c.args.words.now.key c.args.words.now.table_id.slots c.args.seat.now.id c.args.ask.word c.args.ask.value c.args.seat.now.me c.requires.slots c.requires.rank c.requires.ask.in_range (λ n. refl),
)
