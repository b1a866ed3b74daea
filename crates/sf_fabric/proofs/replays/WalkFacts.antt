-- What a walk along the order of a word finds out.
use Rattle.std.proofs.Common.{◌≡◌, ℕ, ◌+◌, ◌^◌, ◌<◌, ◌≤◌, Bool, true, false, cond, not, ◌&&◌, ◌||◌, ◌==◌, nat_lt, nat_le, List, [], ◌∷◌, map, get_or, set, count_by, sum_by, Option, Some, None, refl, sym, ap, subst, ◌∙◌, arith}
use Rattle.std.specs.List.{AllByRecursion}
use Rattle.std.proofs.lemmas.Bool.{false≢true, leb-true, le-leb, ltb-true, lt-ltb, eqb-true, eq-eqb}
use Rattle.std.proofs.lemmas.List.Sums.{sum_by-cons}
use Rattle.sf_defs.specs.declared.Op.{Op}
use Rattle.sf_defs.specs.declared.Op.TheVariants.{Replace}
use Rattle.sf_defs.specs.declared.Ask.{Ask}
use Rattle.sf_defs.specs.declared.Turn.{Turn}
use Rattle.sf_defs.specs.Asks.{Entry, after_ask, Replays}
use Rattle.sf_defs.specs.PrintedOrder.{is_load, stands_before}
use Rattle.sf_defs.specs.Rounds.{added, same_op, entry_at}
use Rattle.sf_fabric.specs.declared.replays.walk.Walk.{Walk}
use Rattle.sf_fabric.specs.replays.Walks.{names, follows, takes, taken, goes_on}
use Rattle.sf_fabric.proofs.replays.OwnTurns.{OwnFrom}

-- each entry may come after the one before it
abbrev pub InOrder : Op → ℕ → Option Entry → List Entry → Type 0
InOrder kind first last [] = Unit {0}
InOrder kind first last (e ∷ es) = (follows kind first last e ≡ true) × InOrder kind first (Some e) es

-- it is a Replace
abbrev pub replaces : Entry → Bool
replaces e = same_op e.ask.op Replace

-- it may stand on a word of this kind
abbrev pub is_of : Op → Entry → Bool
is_of kind e = is_load e.ask.op || same_op e.ask.op kind

both : (b c : Bool) → (b && c) ≡ true → (b ≡ true) × (c ≡ true)
both true c h = (refl, h)
both false c h = absurd (false≢true h)

joined : (b c : Bool) → b ≡ true → c ≡ true → (b && c) ≡ true
joined b c h k = ap (λ x. x && c) h ∙ k

-- what it takes that an entry may come
record Comes (s : Walk) (e : Entry) : Type 0 where
  own : get_or s.next e.rank 0 ≤ e.index
  got : e.got ≡ s.word
  kind : is_of s.kind e ≡ true
  replace : not (s.replaced && replaces e) ≡ true
  fits : s.total + added e.ask < 2 ^ 64
  printed : follows s.kind s.first s.last e ≡ true

comes : (s : Walk) (e : Entry) → takes s e ≡ true → Comes s e
unfolding takes
comes s e h =
    let a = both _ _ h in let b = both _ _ a.1 in let c = both _ _ b.1 in let d = both _ _ c.1 in let f = both _ _ d.1 in
    record { own = leb-true _ _ a.0; got = eqb-true _ _ b.0; kind = c.0; replace = d.0; fits = ltb-true _ _ f.0; printed = f.1 }

may_come : (s : Walk) (e : Entry) → Comes s e → takes s e ≡ true
unfolding takes
may_come s e h = joined _ _ (le-leb _ _ h.own) (joined _ _ (eq-eqb _ _ h.got) (joined _ _ h.kind (joined _ _ h.replace (joined _ _ (lt-ltb _ _ h.fits) h.printed))))

once : (a b : Bool) (n : ℕ) → not (a && b) ≡ true → cond a 1 0 + (cond b 1 0 + n) ≡ cond (a || b) 1 0 + n
once true true n h = absurd (false≢true h)
once true false n h = omega arith
once false true n h = omega arith
once false false n h = omega arith

not_twice : (a b : Bool) (n : ℕ) → cond a 1 0 + (cond b 1 0 + n) ≤ 1 → not (a && b) ≡ true
not_twice true true n h = absurd (omega arith)
not_twice true false n h = refl
not_twice false b n h = refl

module _ (asks : List (List Ask)) (got : List (List ℕ)) (w last : ℕ) where
  -- the turns name asks on word w, each rank's in its order; replayed they give what they fetched and the last value;
  -- they have one kind, one Replace and Sums that fit, and each may come after the one before it
  pub record Walked (s : Walk) (ts : List Turn) : Type 0 where
    pub named : AllByRecursion (λ t. names asks w t ≡ true) ts
    pub own : OwnFrom s.next ts
    pub replays : Replays s.word (map (entry_at asks got) ts) last
    pub one_kind : AllByRecursion (λ e. is_of s.kind e ≡ true) (map (entry_at asks got) ts)
    pub one_replace : cond s.replaced 1 0 + count_by replaces (map (entry_at asks got) ts) ≤ 1
    pub fits : s.total + sum_by (λ (e : Entry). added e.ask) (map (entry_at asks got) ts) < 2 ^ 64
    pub printed : InOrder s.kind s.first s.last (map (entry_at asks got) ts)

  -- a walk that goes on to the end finds this
  pub walked : (ts : List Turn) (s : Walk) → s.total < 2 ^ 64 → goes_on asks got w last s ts ≡ true → Walked s ts
  unfolding taken
  walked [] s small h = record { named = tt; own = tt; replays = eqb-true _ _ h; one_kind = tt; one_replace = few s.replaced; fits = omega arith; printed = tt }
    where
      few : (b : Bool) → cond b 1 0 + 0 ≤ 1
      few true = omega arith
      few false = omega arith
  walked (t ∷ ts) s small h =
      let a = both _ _ h in
      let b = both _ _ a.1 in
      let e : Entry = entry_at asks got t in
      let es : List Entry = map (entry_at asks got) ts in
      let here = comes s e b.0 in
      let rest = walked ts (taken s e) here.fits b.1 in
      let counted : count_by replaces (e ∷ es) ≡ cond (replaces e) 1 0 + count_by replaces es = sum_by-cons (λ (x : Entry). cond (replaces x) 1 0) e es in
      let summed : sum_by (λ (x : Entry). added x.ask) (e ∷ es) ≡ added e.ask + sum_by (λ (x : Entry). added x.ask) es = sum_by-cons (λ (x : Entry). added x.ask) e es in
      record {
        named = (a.0, rest.named);
        own = (here.own, rest.own);
        replays = (here.got, subst (λ n. Replays (after_ask e.ask n) es last) here.got rest.replays);
        one_kind = (here.kind, rest.one_kind);
        one_replace = subst (λ n. n ≤ 1) (sym (ap (λ n. cond s.replaced 1 0 + n) counted ∙ once s.replaced (replaces e) (count_by replaces es) here.replace)) rest.one_replace;
        fits = let fits = rest.fits in omega (arith, summed);
        printed = (here.printed, rest.printed);
      }

  -- and one that would find it goes on to the end
  pub walks : (ts : List Turn) (s : Walk) → Walked s ts → goes_on asks got w last s ts ≡ true
  unfolding taken
  walks [] s h = eq-eqb _ _ h.replays
  walks (t ∷ ts) s h =
      let e : Entry = entry_at asks got t in
      let es : List Entry = map (entry_at asks got) ts in
      let counted : count_by replaces (e ∷ es) ≡ cond (replaces e) 1 0 + count_by replaces es = sum_by-cons (λ (x : Entry). cond (replaces x) 1 0) e es in
      let summed : sum_by (λ (x : Entry). added x.ask) (e ∷ es) ≡ added e.ask + sum_by (λ (x : Entry). added x.ask) es = sum_by-cons (λ (x : Entry). added x.ask) e es in
      let few : cond s.replaced 1 0 + (cond (replaces e) 1 0 + count_by replaces es) ≤ 1 = subst (λ n. cond s.replaced 1 0 + n ≤ 1) counted h.one_replace in
      let fits = h.fits in
      let apart = not_twice s.replaced (replaces e) (count_by replaces es) few in
      let here : Comes s e = record { own = h.own.0; got = h.replays.0; kind = h.one_kind.0; replace = apart; fits = omega (arith, summed); printed = h.printed.0 } in
      joined _ _ h.named.0 (joined _ _ (may_come s e here) (walks ts (taken s e) (record {
        named = h.named.1;
        own = h.own.1;
        replays = subst (λ n. Replays (after_ask e.ask n) es last) (sym h.replays.0) h.replays.1;
        one_kind = h.one_kind.1;
        one_replace = subst (λ n. n ≤ 1) (once s.replaced (replaces e) (count_by replaces es) apart) few;
        fits = omega (arith, summed);
        printed = h.printed.1;
      })))
