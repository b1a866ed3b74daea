-- The order in which entries are printed is a total order, and strict between entries of different ranks.
use Rattle.std.proofs.Common.{◌≡◌, ◌≢◌, ◌⊎◌, ℕ, Bool, true, false, not, ◌&&◌, ◌==◌, nat_lt, nat_le, refl, sym, ap, ◌∙◌, inl, inr, ⊎_elim, arith}
use Rattle.std.proofs.lemmas.Bool.{true≢false, false≢true, lt-ltb, le-ltb, ltb-true, le-leb, leb-true, leb-false, and_parts, cases_lt}
use Rattle.sf_defs.specs.declared.Op.{Op}
use Rattle.sf_defs.specs.declared.Op.TheVariants.{Load, Sum, Min, Max, Or, And, Replace}
use Rattle.sf_defs.specs.Asks.{Entry}
use Rattle.sf_defs.specs.PrintedOrder.{fetched_before, changes, then_by, stands_before}

-- a strict order of classes: what is between two classes is in one of them or apart from one
pub record IsStrict {X : Type 0} (lt : X → X → Bool) : Type 0 where
  pub asym : (x y : X) → lt x y ≡ true → lt y x ≡ false
  pub between : (x y z : X) → lt x z ≡ true → (lt x y ≡ true) ⊎ (lt y z ≡ true)

-- a total order of classes
pub record IsTotal {X : Type 0} (le : X → X → Bool) : Type 0 where
  pub total : (x y : X) → le x y ≡ false → le y x ≡ true
  pub trans : (x y z : X) → le x y ≡ true → le y z ≡ true → le x z ≡ true

-- ---- strict orders

-- nothing goes before itself
pub strict_irreflexive : {X : Type 0} (lt : X → X → Bool) → IsStrict lt → (x : X) → lt x x ≡ false
strict_irreflexive lt s x = go (lt x x) (s.asym x x)
  where
    go : (b : Bool) → (b ≡ true → b ≡ false) → b ≡ false
    go true h = h refl
    go false h = refl

pub strict_trans : {X : Type 0} (lt : X → X → Bool) → IsStrict lt → (x y z : X) → lt x y ≡ true → lt y z ≡ true → lt x z ≡ true
strict_trans lt s x y z h k = ⊎_elim (λ e. e) (λ e. absurd (true≢false (sym e ∙ s.asym y z k))) (s.between x z y h)

-- by a number, rising
pub strict_rising : {X : Type 0} (f : X → ℕ) → IsStrict (λ x y. nat_lt (f x) (f y))
strict_rising f = record {
  asym = λ x y h. le-ltb (f y) (f x) (omega (arith, ltb-true (f x) (f y) h));
  between = λ x y z h. ⊎_elim (λ k. inl (lt-ltb (f x) (f y) k)) (λ k. inr (lt-ltb (f y) (f z) (omega (arith, ltb-true (f x) (f z) h)))) (cases_lt (f x) (f y));
}

-- by a number, falling
strict_falling : {X : Type 0} (f : X → ℕ) → IsStrict (λ x y. nat_lt (f y) (f x))
strict_falling f = record {
  asym = λ x y h. (strict_rising f).asym y x h;
  between = λ x y z h. ⊎_elim (λ k. inr k) (λ k. inl k) ((strict_rising f).between z y x h);
}

-- what passes a test before what does not
strict_passing : {X : Type 0} (u v : X → Bool) → ((x : X) → v x ≡ not (u x)) → IsStrict (λ x y. u x && v y)
strict_passing u v other = record {
  asym = λ x y h. apart (u x) (v x) (u y) (v y) (other y) h;
  between = λ x y z h. split (u x) (u y) (v y) (v z) (other y) h;
}
  where
    apart : (ux vx uy vy : Bool) → vy ≡ not uy → (ux && vy) ≡ true → (uy && vx) ≡ false
    apart ux vx true vy e h = absurd (false≢true (sym e ∙ (and_parts ux vy h).1))
    apart ux vx false vy e h = refl

    split : (ux uy vy vz : Bool) → vy ≡ not uy → (ux && vz) ≡ true → ((ux && vy) ≡ true) ⊎ ((uy && vz) ≡ true)
    split ux true vy vz e h = inr (and_parts ux vz h).1
    split ux false vy vz e h = inl (ap (λ t. ux && t) e ∙ ap (λ t. t && true) (and_parts ux vz h).0)

-- fetched values, in the direction of each operation
pub strict_fetched : (kind : Op) (first : ℕ) → IsStrict (fetched_before kind first)
unfolding fetched_before
strict_fetched Load first = strict_rising (λ n. n)
strict_fetched Sum first = strict_rising (λ n. n)
strict_fetched Min first = strict_falling (λ n. n)
strict_fetched Max first = strict_rising (λ n. n)
strict_fetched Or first = strict_rising (λ n. n)
strict_fetched And first = strict_falling (λ n. n)
strict_fetched Replace first = strict_passing (λ n. n == first) (λ n. not (n == first)) (λ n. refl)

-- ---- one strict order, and what it leaves open by another

-- the later test decides totally, so both do
either_total : (a b c d : Bool) → (c ≡ false → d ≡ true) → then_by a b c ≡ false → then_by b a d ≡ true
either_total true b c d h e = absurd (true≢false e)
either_total false true c d h e = refl
either_total false false c d h e = h e

either_trans : (a a' b b' c c' p q r : Bool) → (a ≡ true → (c ≡ true) ⊎ (b' ≡ true)) → (b' ≡ true → b ≡ false) → (b ≡ true → (a' ≡ true) ⊎ (c ≡ true)) → (c' ≡ true → (b' ≡ true) ⊎ (a' ≡ true)) → (p ≡ true → q ≡ true → r ≡ true)
    → then_by a a' p ≡ true → then_by b b' q ≡ true → then_by c c' r ≡ true
either_trans a a' b b' true c' p q r f g k l m x y = refl
either_trans true a' true true false c' p q r f g k l m x y = absurd (true≢false (g refl))
either_trans true a' false true false c' p q r f g k l m x y = absurd (false≢true y)
either_trans true a' b false false c' p q r f g k l m x y = absurd (⊎_elim (λ e. false≢true e) (λ e. false≢true e) (f refl))
either_trans false true b b' false c' p q r f g k l m x y = absurd (false≢true x)
either_trans false false true b' false c' p q r f g k l m x y = absurd (⊎_elim (λ e. false≢true e) (λ e. false≢true e) (k refl))
either_trans false false false true false c' p q r f g k l m x y = absurd (false≢true y)
either_trans false false false false false true p q r f g k l m x y = absurd (⊎_elim (λ e. false≢true e) (λ e. false≢true e) (l refl))
either_trans false false false false false false p q r f g k l m x y = m x y

-- a strict order, then a total one
total_then : {X : Type 0} (lt le : X → X → Bool) → IsStrict lt → IsTotal le → IsTotal (λ x y. then_by (lt x y) (lt y x) (le x y))
total_then lt le s t = record {
  total = λ x y h. either_total (lt x y) (lt y x) (le x y) (le y x) (t.total x y) h;
  trans = λ x y z h k. either_trans (lt x y) (lt y x) (lt y z) (lt z y) (lt x z) (lt z x) (le x y) (le y z) (le x z) (s.between x z y) (s.asym z y) (s.between y x z) (s.between z y x) (t.trans x y z) h k;
}

-- what is strict by the first or by the rest is strict by both
either_strict : (a b c d : Bool) → (a ≡ true → b ≡ false) → (c ≡ true → d ≡ false) → then_by a b c ≡ true → then_by b a d ≡ false
either_strict true true c d f g h = absurd (true≢false (f refl))
either_strict true false c d f g h = refl
either_strict false true c d f g h = absurd (false≢true h)
either_strict false false c d f g h = g h

-- ---- the printed order

total_rising : {X : Type 0} (f : X → ℕ) → IsTotal (λ x y. nat_le (f x) (f y))
total_rising f = record {
  total = λ x y h. le-leb (f y) (f x) (omega (arith, leb-false (f x) (f y) h));
  trans = λ x y z h k. le-leb (f x) (f z) (omega (arith, leb-true (f x) (f y) h, leb-true (f y) (f z) k));
}

double_not : (b : Bool) → b ≡ not (not b)
double_not true = refl
double_not false = refl

by_fetched : (kind : Op) (first : ℕ) → IsStrict (λ (d e : Entry). fetched_before kind first d.got e.got)
by_fetched kind first = let s = strict_fetched kind first in record {
  asym = λ d e h. s.asym d.got e.got h;
  between = λ d e f h. s.between d.got e.got f.got h;
}

-- the printed order is total
pub total_printed : (kind : Op) (first : ℕ) → IsTotal (stands_before kind first)
unfolding stands_before
total_printed kind first =
    total_then (λ (d e : Entry). fetched_before kind first d.got e.got) _ (by_fetched kind first)
    (total_then (λ (d e : Entry). not (changes d) && changes e) _ (strict_passing (λ e. not (changes e)) changes (λ e. double_not (changes e)))
    (total_then (λ (d e : Entry). nat_lt d.rank e.rank) _ (strict_rising (λ (e : Entry). e.rank)) (total_rising (λ (e : Entry). e.index))))

-- of two entries of different ranks one stands before the other, and not the other way round
pub strict_by_rank : (kind : Op) (first : ℕ) (d e : Entry) → d.rank ≢ e.rank → stands_before kind first d e ≡ true → stands_before kind first e d ≡ false
unfolding stands_before
strict_by_rank kind first d e apart =
    either_strict _ _ _ _ ((by_fetched kind first).asym d e)
    (either_strict _ _ _ _ ((strict_passing (λ (x : Entry). not (changes x)) changes (λ x. double_not (changes x))).asym d e)
    (λ h. ranks (nat_lt d.rank e.rank) (nat_lt e.rank d.rank) _ _ ((strict_rising (λ (x : Entry). x.rank)).asym d e) one_way h))
  where
    one_way : (nat_lt d.rank e.rank ≡ true) ⊎ (nat_lt e.rank d.rank ≡ true)
    one_way = ⊎_elim (λ lt. inl (lt-ltb d.rank e.rank lt)) (λ ge. inr (lt-ltb e.rank d.rank (omega (arith, apart)))) (cases_lt d.rank e.rank)

    ranks : (a b x y : Bool) → (a ≡ true → b ≡ false) → (a ≡ true) ⊎ (b ≡ true) → then_by a b x ≡ true → then_by b a y ≡ false
    ranks true b x y f w h = ap (λ t. then_by t true y) (f refl)
    ranks false true x y f w h = absurd (false≢true h)
    ranks false false x y f w h = absurd (⊎_elim (λ e. false≢true e) (λ e. false≢true e) w)
