-- Accepted words, item by item.
use Rattle.std.proofs.Common.{◌≡◌, ℕ, Bool, true, false, leb, List, [], ◌∷◌, ◌++◌, length, take, drop, codes, Option, Some, None, refl, sym, ap, ◌∙◌, inl, inr}
use Rattle.std.specs.Prelude.{◌⊎◌, ◌==◌, if◌then◌else◌, option_and_then, option_map, flat_map}
use Rattle.std.specs.List.{AllByRecursion}
use Rattle.std.specs.Cmp.Lexicographic.{same_text}
use Rattle.std.proofs.lemmas.Bool.{and_parts, not-true}
use Rattle.std.proofs.lemmas.List.{take-append-drop, append-nil}
use Rattle.plain_lists.specs.Lists.{same_list}
use Rattle.input_defs.specs.Words.{Asked, File, Flag, Make, Plan, Request, Source, is_file_name, made_of, request, request_from, request_of, with_plan, with_source, with_word, no_more}
use Rattle.input_laws.specs.word_laws.Items.{Item, PlanItem, MadeItem, SummaryItem, MeshItem, IsListed, IsRight, MadeOfItems, listed_name, plans_of, sources_of, summaries_of, words_of}

-- ---- what is asked once an item is met

abbrev Adds : Asked → Item → Asked → Type 0
Adds asked (PlanItem joined name) after = (asked.plan ≡ None) × (after ≡ record asked { plan = Some name })
Adds asked (MadeItem joined text source) after = (asked.source ≡ None) × (after ≡ record asked { source = Some source })
Adds asked SummaryItem after = (asked.summary ≡ false) × (after ≡ record asked { summary = true })
Adds asked (MeshItem name) after = (asked.source ≡ None) × (after ≡ record asked { source = Some (File name) })

abbrev listed_source : Option Source → List Source
listed_source None = []
listed_source (Some source) = source ∷ []

abbrev listed_summary : Bool → List Bool
listed_summary summary = if summary then true ∷ [] else []

-- what is asked, and these items after it, are what is asked in all
record IsListedAfter (asked : Asked) (items : List Item) (r : Request) : Type 0 where
  right : AllByRecursion IsRight items
  plan : listed_name asked.plan ++ plans_of items ≡ listed_name r.plan
  source : listed_source asked.source ++ sources_of items ≡ r.source ∷ []
  summary : listed_summary asked.summary ++ summaries_of items ≡ listed_summary r.summary

abbrev nothing_asked : Asked
nothing_asked = record { plan = None; source = None; summary = false }

-- an item before others
item_first : (asked after : Asked) (item : Item) (items : List Item) (r : Request) → IsRight item → Adds asked item after → IsListedAfter after items r → IsListedAfter asked (item ∷ items) r
item_first asked after (PlanItem joined name) items r right adds l =
    let m = rw adds.1 at l in
    record { right = (right, m.right); plan = rw adds.0 m.plan; source = m.source; summary = m.summary }
item_first asked after (MadeItem joined text source) items r right adds l =
    let m = rw adds.1 at l in
    record { right = (right, m.right); plan = m.plan; source = rw adds.0 m.source; summary = m.summary }
item_first asked after SummaryItem items r right adds l =
    let m = rw adds.1 at l in
    record { right = (right, m.right); plan = m.plan; source = m.source; summary = rw adds.0 m.summary }
item_first asked after (MeshItem name) items r right adds l =
    let m = rw adds.1 at l in
    record { right = (right, m.right); plan = m.plan; source = rw adds.0 m.source; summary = m.summary }

-- no two names, sources or summaries
one_name : (before : Option (List ℕ)) (name : List ℕ) (names : List (List ℕ)) (all : Option (List ℕ)) → listed_name before ++ name ∷ names ≡ listed_name all → before ≡ None
one_name None name names all e = refl
one_name (Some n) name names (Some m) e = cc
one_name (Some n) name names None e = cc

one_source : (before : Option Source) (source : Source) (sources : List Source) (all : Source) → listed_source before ++ source ∷ sources ≡ all ∷ [] → before ≡ None
one_source None source sources all e = refl
one_source (Some s) source sources all e = cc

one_summary : (before : Bool) (others : List Bool) (all : Bool) → listed_summary before ++ true ∷ others ≡ listed_summary all → before ≡ false
one_summary false others all e = refl
one_summary true others true e = cc
one_summary true others false e = cc

-- the first item, and those after it
record Splits (asked : Asked) (item : Item) (items : List Item) (r : Request) : Type 0 where
  after : Asked
  right : IsRight item
  adds : Adds asked item after
  rest : IsListedAfter after items r

item_of_first : (asked : Asked) (item : Item) (items : List Item) (r : Request) → IsListedAfter asked (item ∷ items) r → Splits asked item items r
item_of_first asked (PlanItem joined name) items r l =
    let none = one_name asked.plan name (plans_of items) r.plan l.plan in
    record { after = record asked { plan = Some name }; right = l.right.0; adds = (none, refl); rest = record { right = l.right.1; plan = rw none at l.plan; source = l.source; summary = l.summary } }
item_of_first asked (MadeItem joined text source) items r l =
    let none = one_source asked.source source (sources_of items) r.source l.source in
    record { after = record asked { source = Some source }; right = l.right.0; adds = (none, refl); rest = record { right = l.right.1; plan = l.plan; source = rw none at l.source; summary = l.summary } }
item_of_first asked SummaryItem items r l =
    let none = one_summary asked.summary (summaries_of items) r.summary l.summary in
    record { after = record asked { summary = true }; right = l.right.0; adds = (none, refl); rest = record { right = l.right.1; plan = l.plan; source = l.source; summary = rw none at l.summary } }
item_of_first asked (MeshItem name) items r l =
    let none = one_source asked.source (File name) (sources_of items) r.source l.source in
    record { after = record asked { source = Some (File name) }; right = l.right.0; adds = (none, refl); rest = record { right = l.right.1; plan = l.plan; source = rw none at l.source; summary = l.summary } }

-- ---- listed items are accepted

file_word : (asked : Asked) (name : List ℕ) → is_file_name name ≡ true → with_word asked name ≡ no_more (with_source asked (Some (File name)))
unfolding with_word
file_word asked [] e = cc
file_word asked (b ∷ bs) e =
    let some : leb 1 (length (b ∷ bs)) ≡ true = (and_parts _ _ e).0 in
    let plain : (b == 45) ≡ false = not-true (b == 45) (and_parts _ _ e).1 in
    rw (plain, some) refl

item_read : (asked after : Asked) (item : Item) (rest : List (List ℕ)) → IsRight item → Adds asked item after → request_from asked None (words_of item ++ rest) ≡ request_from after None rest
unfolding request_from with_word
item_read asked after (PlanItem true name) rest right adds = rw (right, adds.0, adds.1) refl
item_read asked after (PlanItem false name) rest right adds = rw (right, adds.0, adds.1) refl
item_read asked after (MadeItem true text source) rest right adds = rw (right, adds.0, adds.1) refl
item_read asked after (MadeItem false text source) rest right adds = rw (right, adds.0, adds.1) refl
item_read asked after SummaryItem rest right adds = rw (adds.0, adds.1) refl
item_read asked after (MeshItem name) rest right adds = rw (file_word asked name right, adds.0, adds.1) refl

same_name : (a b : Option (List ℕ)) → listed_name a ++ [] ≡ listed_name b → a ≡ b
same_name None None e = refl
same_name None (Some n) e = cc
same_name (Some m) None e = cc
same_name (Some m) (Some n) e = cc

same_source : (a : Option Source) (s : Source) → listed_source a ++ [] ≡ s ∷ [] → a ≡ Some s
same_source None s e = cc
same_source (Some t) s e = cc

same_summary : (a b : Bool) → listed_summary a ++ [] ≡ listed_summary b → a ≡ b
same_summary true true e = refl
same_summary false false e = refl
same_summary true false e = cc
same_summary false true e = cc

items_end : (plan : Option (List ℕ)) (source : Option Source) (summary : Bool) (p : Option (List ℕ)) (s : Source) (m : Bool) → listed_name plan ++ [] ≡ listed_name p → listed_source source ++ [] ≡ s ∷ [] → listed_summary summary ++ [] ≡ listed_summary m
    → option_map {T = Source} {U = Request} (λ source. record { plan = plan; source = source; summary = summary }) source ≡ Some (record { plan = p; source = s; summary = m })
items_end plan source summary p s m e f g = rw (same_name plan p e, same_source source s f, same_summary summary m g) refl

items_read : (items : List Item) (asked : Asked) (r : Request) → IsListedAfter asked items r → request_from asked None (flat_map words_of items) ≡ Some r
unfolding request_from
items_read [] asked r l = items_end asked.plan asked.source asked.summary r.plan r.source r.summary l.plan l.source l.summary
items_read (item ∷ items) asked r l =
    let s = item_of_first asked item items r l in
    item_read asked s.after item (flat_map words_of items) s.right s.adds ∙ items_read items s.after r s.rest

pub listed_are_accepted : (items : List Item) (r : Request) → IsListed items r → request (flat_map words_of items) ≡ Some r
unfolding request
listed_are_accepted items r l = items_read items _ r (record { right = l.right; plan = l.plan; source = l.source; summary = l.summary })

-- ---- accepted words are listed items

and_then_some : {X Y : Type 0} (o : Option X) (f : X → Option Y) (y : Y) → option_and_then f o ≡ Some y → (x : X) × (o ≡ Some x) × (f x ≡ Some y)
and_then_some None f y e = cc
and_then_some (Some x) f y e = (x, refl, e)

abbrev Next : Type 0
Next = Option Flag × Asked

plan_at : (asked : Asked) (name : List ℕ) (next : Next) (named : Bool) (plan : Option (List ℕ)) → is_file_name name ≡ named → asked.plan ≡ plan → no_more (with_plan asked name) ≡ Some next
    → (is_file_name name ≡ true) × (asked.plan ≡ None) × (next ≡ (None, record asked { plan = Some name }))
plan_at asked name next true None e f h = let g = rw (e, f) at h in (e, f, cc)
plan_at asked name next true (Some p) e f h = let g = rw (e, f) at h in cc
plan_at asked name next false plan e f h = let g = rw e at h in cc

-- a name was added
plan_added : (asked : Asked) (name : List ℕ) (next : Next) → no_more (with_plan asked name) ≡ Some next → (is_file_name name ≡ true) × (asked.plan ≡ None) × (next ≡ (None, record asked { plan = Some name }))
plan_added asked name next h = plan_at asked name next _ _ refl refl h

source_at : (asked : Asked) (found : Option Source) (next : Next) (source : Option Source) → asked.source ≡ source → no_more (with_source asked found) ≡ Some next
    → (s : Source) × (found ≡ Some s) × (asked.source ≡ None) × (next ≡ (None, record asked { source = Some s }))
source_at asked None next source e h = cc
source_at asked (Some s) next None e h = let g = rw e at h in (s, refl, e, cc)
source_at asked (Some s) next (Some t) e h = let g = rw e at h in cc

-- a source was added
source_added : (asked : Asked) (found : Option Source) (next : Next) → no_more (with_source asked found) ≡ Some next → (s : Source) × (found ≡ Some s) × (asked.source ≡ None) × (next ≡ (None, record asked { source = Some s }))
source_added asked found next h = source_at asked found next _ refl h

-- a word that is an item
record Says (asked : Asked) (word : List ℕ) (next : Next) : Type 0 where
  item : Item
  spelled : words_of item ≡ word ∷ []
  right : IsRight item
  adds : Adds asked item next.1
  none : next.0 ≡ None

-- a word begins an item in two words, or is an item
abbrev Outcome : Asked → List ℕ → Next → Type 0
Outcome asked word next = ((word ≡ codes "--plan") × (next ≡ (Some Plan, asked))) ⊎ (((word ≡ codes "--make") × (next ≡ (Some Make, asked))) ⊎ Says asked word next)

-- the tests that a word passed or failed
record Tests (word : List ℕ) (plan make summary plan_is make_is : Bool) : Type 0 where
  t_plan : same_list word (codes "--plan") ≡ plan
  t_make : same_list word (codes "--make") ≡ make
  t_summary : same_list word (codes "--summary") ≡ summary
  t_plan_is : same_list (take 7 word) (codes "--plan=") ≡ plan_is
  t_make_is : same_list (take 7 word) (codes "--make=") ≡ make_is

joined : (option word : List ℕ) → same_list (take 7 word) option ≡ true → (option ++ drop 7 word) ∷ [] ≡ word ∷ []
joined option word e = let front = same_text (take 7 word) option (sym e) in ap (λ w. w ∷ []) (rw (← front) (take-append-drop 7 word))

summary_added : (asked : Asked) (next : Next) (summary : Bool) → asked.summary ≡ summary → no_more (if asked.summary then None else Some (record asked { summary = true })) ≡ Some next → (asked.summary ≡ false) × (next ≡ (None, record asked { summary = true }))
summary_added asked next true e h = let g = rw e at h in cc
summary_added asked next false e h = let g = rw e at h in (e, cc)

outcome_at : (asked : Asked) (word : List ℕ) (next : Next) (plan make summary plan_is make_is file : Bool) → Tests word plan make summary plan_is make_is → is_file_name word ≡ file → with_word asked word ≡ Some next → Outcome asked word next
unfolding with_word
outcome_at asked word next true make summary plan_is make_is file t f h = let g = rw t.t_plan at h in inl (same_text word (codes "--plan") (sym t.t_plan), cc)
outcome_at asked word next false true summary plan_is make_is file t f h = let g = rw (t.t_plan, t.t_make) at h in inr (inl (same_text word (codes "--make") (sym t.t_make), cc))
outcome_at asked word next false false true plan_is make_is file t f h =
    let g = rw (t.t_plan, t.t_make, t.t_summary) at h in
    let a = summary_added asked next _ refl g in
    inr (inr (record { item = SummaryItem; spelled = ap (λ w. w ∷ []) (sym (same_text word (codes "--summary") (sym t.t_summary))); right = tt; adds = (a.0, ap (λ (n : Next). n.1) a.1); none = ap (λ (n : Next). n.0) a.1 }))
outcome_at asked word next false false false true make_is file t f h =
    let g = rw (t.t_plan, t.t_make, t.t_summary, t.t_plan_is) at h in
    let a = plan_added asked (drop 7 word) next g in
    inr (inr (record { item = PlanItem true (drop 7 word); spelled = joined (codes "--plan=") word t.t_plan_is; right = a.0; adds = (a.1, ap (λ (n : Next). n.1) a.2); none = ap (λ (n : Next). n.0) a.2 }))
outcome_at asked word next false false false false true file t f h =
    let g = rw (t.t_plan, t.t_make, t.t_summary, t.t_plan_is, t.t_make_is) at h in
    let a = source_added asked (made_of (drop 7 word)) next g in
    inr (inr (record { item = MadeItem true (drop 7 word) a.0; spelled = joined (codes "--make=") word t.t_make_is; right = a.1; adds = (a.2, ap (λ (n : Next). n.1) a.3); none = ap (λ (n : Next). n.0) a.3 }))
outcome_at asked word next false false false false false true t f h =
    let g = rw (t.t_plan, t.t_make, t.t_summary, t.t_plan_is, t.t_make_is, f) at h in
    let a = source_added asked (Some (File word)) next g in
    let same : File word ≡ a.0 = cc in
    inr (inr (record { item = MeshItem word; spelled = refl; right = f; adds = (a.2, ap (λ (n : Next). n.1) a.3 ∙ ap (λ s. record asked { source = Some s }) (sym same)); none = ap (λ (n : Next). n.0) a.3 }))
outcome_at asked word next false false false false false false t f h = let g = rw (t.t_plan, t.t_make, t.t_summary, t.t_plan_is, t.t_make_is, f) at h in cc

outcome : (asked : Asked) (word : List ℕ) (next : Next) → with_word asked word ≡ Some next → Outcome asked word next
outcome asked word next h = outcome_at asked word next _ _ _ _ _ _ (record { t_plan = refl; t_make = refl; t_summary = refl; t_plan_is = refl; t_make_is = refl }) refl h

-- ---- all words

record Rest (asked : Asked) (words : List (List ℕ)) (r : Request) : Type 0 where
  items : List Item
  spelled : words ≡ flat_map words_of items
  listed : IsListedAfter asked items r

-- the words after an option whose value follows
record PlanRest (asked : Asked) (words : List (List ℕ)) (r : Request) : Type 0 where
  name : List ℕ
  others : List (List ℕ)
  words_are : words ≡ name ∷ others
  right : is_file_name name ≡ true
  none : asked.plan ≡ None
  rest : Rest (record asked { plan = Some name }) others r

record MadeRest (asked : Asked) (words : List (List ℕ)) (r : Request) : Type 0 where
  text : List ℕ
  source : Source
  others : List (List ℕ)
  words_are : words ≡ text ∷ others
  right : made_of text ≡ Some source
  none : asked.source ≡ None
  rest : Rest (record asked { source = Some source }) others r

abbrev Found : Asked → Option Flag → List (List ℕ) → Request → Type 0
Found asked None words r = Rest asked words r
Found asked (Some Plan) words r = PlanRest asked words r
Found asked (Some Make) words r = MadeRest asked words r

end_found : (asked : Asked) (source : Option Source) (r : Request) → asked.source ≡ source → request_of asked None ≡ Some r → Rest asked [] r
end_found asked None r e h = let g = rw e at h in cc
end_found asked (Some s) r e h =
    let g = rw e at h in
    let is : record { plan = asked.plan; source = s; summary = asked.summary } ≡ r = cc in
    record {
      items = [];
      spelled = refl;
      listed = record {
        right = tt;
        plan = append-nil (listed_name asked.plan) ∙ ap (λ (r : Request). listed_name r.plan) is;
        source = append-nil (listed_source asked.source) ∙ (ap listed_source e ∙ ap (λ (r : Request). r.source ∷ []) is);
        summary = append-nil (listed_summary asked.summary) ∙ ap (λ (r : Request). listed_summary r.summary) is;
      };
    }

with_item : (asked : Asked) (after : Asked) (item : Item) (words others : List (List ℕ)) (r : Request) → IsRight item → Adds asked item after → words ≡ words_of item ++ others → Rest after others r → Rest asked words r
with_item asked after item words others r right adds e rest =
    record { items = item ∷ rest.items; spelled = e ∙ ap (λ ws. words_of item ++ ws) rest.spelled; listed = item_first asked after item rest.items r right adds rest.listed }

two_words : {word option value : List ℕ} {words others : List (List ℕ)} → word ≡ option → words ≡ value ∷ others → word ∷ words ≡ option ∷ value ∷ others
two_words e f = rw (e, f) refl

found : (words : List (List ℕ)) (asked : Asked) (waiting : Option Flag) (r : Request) → request_from asked waiting words ≡ Some r → Found asked waiting words r
unfolding request_from
found [] asked None r h = end_found asked _ r refl h
found [] asked (Some Plan) r h = cc
found [] asked (Some Make) r h = cc
found (word ∷ words) asked (Some Plan) r h =
    let s = and_then_some (no_more (with_plan asked word)) (λ next. request_from next.1 next.0 words) r h in
    let a = plan_added asked word s.0 s.1 in
    record { name = word; others = words; words_are = refl; right = a.0; none = a.1; rest = found words (record asked { plan = Some word }) None r (rw a.2 at s.2) }
found (word ∷ words) asked (Some Make) r h =
    let s = and_then_some (no_more (with_source asked (made_of word))) (λ next. request_from next.1 next.0 words) r h in
    let a = source_added asked (made_of word) s.0 s.1 in
    record { text = word; source = a.0; others = words; words_are = refl; right = a.1; none = a.2; rest = found words (record asked { source = Some a.0 }) None r (rw a.3 at s.2) }
found (word ∷ words) asked None r h =
    let s = and_then_some (with_word asked word) (λ next. request_from next.1 next.0 words) r h in
    elim (outcome asked word s.0 s.1) [
      | inl a ↦
          let p = found words asked (Some Plan) r (rw a.1 at s.2) in
          with_item asked (record asked { plan = Some p.name }) (PlanItem false p.name) _ p.others r p.right (p.none, refl) (two_words a.0 p.words_are) p.rest
      | inr (inl a) ↦
          let p = found words asked (Some Make) r (rw a.1 at s.2) in
          with_item asked (record asked { source = Some p.source }) (MadeItem false p.text p.source) _ p.others r p.right (p.none, refl) (two_words a.0 p.words_are) p.rest
      | inr (inr a) ↦ with_item asked s.0.1 a.item _ words r a.right a.adds (ap (λ front. front ++ words) (sym a.spelled)) (found words s.0.1 None r (rw a.none at s.2))
    ]

pub accepted_are_listed : (words : List (List ℕ)) (r : Request) → request words ≡ Some r → MadeOfItems words r
unfolding request
accepted_are_listed words r h =
    let f = found words nothing_asked None r h in
    record { items = f.items; spelled = f.spelled; listed = record { right = f.listed.right; plan = f.listed.plan; source = f.listed.source; summary = f.listed.summary } }
