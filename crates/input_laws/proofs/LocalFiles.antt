-- What the blocks of a file say up to a line does not depend on what stands after that line.
use Rattle.std.proofs.Common.{◌≡◌, ℕ, ◌<◌, ◌≤◌, Bool, true, false, cond, not, List, [], ◌∷◌, ◌++◌, Option, Some, None, Ok, Err, refl, sym, ap, ap₂, ◌∙◌, subst, arith}
use Rattle.std.specs.Prelude.{Result, find, option_map, is_none}
use Rattle.std.specs.List.{AllByRecursion}
use Rattle.plain_lists.specs.Lists.{same_list}
use Rattle.mesh_defs.specs.declared.Place.TheVariants as place
use Rattle.input_defs.specs.Content.{Content}
use Rattle.input_defs.specs.declared.DataFault.{DataFault}
use Rattle.input_defs.specs.declared.DataFault.TheVariants as data_fault
use Rattle.input_defs.specs.declared.MshFault.{MshFault}
use Rattle.input_defs.specs.declared.MshFault.TheVariants.{NotMsh, Header, BadNumber, BadCount, BadName, Unclosed, MissingSection, Components, UnknownNumber, OutOfRange}
use Rattle.input_defs.specs.Causes.{◌>>=◌, map_ok, first_cause, unless}
use Rattle.input_defs.specs.Bodies.{Lexeme, whole}
use Rattle.input_defs.specs.Sections.{faults_of, format, names, nodes, elements}
use Rattle.input_defs.specs.DataSections.{faults_at, section, section_of}
use Rattle.input_defs.specs.Files.{Block, Known, Format, Names, Nodes, Elements, Data, known, closing, closes, Parts, causes, misplaced, unfinished, of_data, file_numbers, with_section, ending_line, cut_short, Expected, Opening, Closing, Skipping, is_wrong_header, begun, with_block, content_of, finished, said}
use Rattle.input_laws.specs.FaultLines.{line_of, data_line_of}
use Rattle.input_laws.proofs.Local.{Beyond, Upto, SameButEnd, whole-beyond, whole-before}
use Rattle.input_laws.proofs.LocalSections.{format-local, names-local, nodes-local, elements-local, section-local, msh-tell, data-tell}

-- ---- faults of answers

map_ok-err : {A B E : Type 0} (f : A → B) (o : Result A E) (e : E) → map_ok f o ≡ Err e → o ≡ Err e
map_ok-err f (Ok x) e h = absurd (cc h)
map_ok-err f (Err e') e h = ap Err (cc h)

-- all causes are of one line, and so is the first that stands
AllOn : ℕ → List (Bool × MshFault) → Type 0
AllOn l causes = AllByRecursion (λ (c : Bool × MshFault). line_of c.1 ≡ l) causes

first_cause-line : (l : ℕ) (causes : List (Bool × MshFault)) (e : MshFault) → AllOn l causes → first_cause causes ≡ Some e → line_of e ≡ l
unfolding AllOn
first_cause-line l [] e all h = absurd (cc h)
first_cause-line l (c ∷ cs) e all h = go c.0 h (first_cause-line l cs e all.1)
  where
    go : (b : Bool) → option_map (λ (d : Bool × MshFault). d.1) (cond b (Some c) (find (λ d. d.0) cs)) ≡ Some e → (first_cause cs ≡ Some e → line_of e ≡ l) → line_of e ≡ l
    go true t r = let same : c.1 ≡ e = cc t in ap line_of (sym same) ∙ all.0
    go false t r = r t

misplaced-line : (parts : Parts) (l : ℕ) (k : Known) (e : MshFault) → misplaced parts l k ≡ Some e → line_of e ≡ l
unfolding misplaced AllOn
misplaced-line parts l Format e h = first_cause-line l (causes parts l Format) e (refl, tt) h
misplaced-line parts l Names e h = first_cause-line l (causes parts l Names) e (refl, (refl, tt)) h
misplaced-line parts l Nodes e h = first_cause-line l (causes parts l Nodes) e (refl, (refl, tt)) h
misplaced-line parts l Elements e h = first_cause-line l (causes parts l Elements) e (refl, (refl, (refl, tt))) h
misplaced-line parts l (Data place.Node) e h = first_cause-line l (causes parts l (Data place.Node)) e (refl, (refl, (refl, tt))) h
misplaced-line parts l (Data place.Element) e h = first_cause-line l (causes parts l (Data place.Element)) e (refl, (refl, (refl, tt))) h

unfinished-line : (parts : Parts) (l : ℕ) (e : MshFault) → unfinished parts l ≡ Some e → line_of e ≡ l
unfolding unfinished AllOn
unfinished-line parts l e h = first_cause-line l ((not parts.format, NotMsh l) ∷ (is_none parts.nodes, MissingSection l true) ∷ (is_none parts.elements, MissingSection l false) ∷ []) e (refl, (refl, (refl, tt))) h

-- ---- one section

-- a section's answer is local, where the body ends after the line
record IsSectionLocal (answer : ℕ → MshFault → List Lexeme → Result Parts MshFault) : Type 0 where
  beyond : (l end : ℕ) (ended : MshFault) (xs : List Lexeme) (e : MshFault) → l < end → l < line_of ended → Beyond l xs → answer end ended xs ≡ Err e → l < line_of e
  before : (l end end' : ℕ) (ended ended' : MshFault) (ps xs ys : List Lexeme) (e : MshFault) → l < end → l < line_of ended → Upto l ps → Beyond l xs → Beyond l ys
      → answer end ended (ps ++ xs) ≡ Err e → line_of e ≤ l → answer end' ended' (ps ++ ys) ≡ Err e

same-msh : (ended ended' : MshFault) → SameButEnd (faults_of ended) (faults_of ended')
same-msh ended ended' = record { number = λ e l. refl; name = λ l. refl }

same-data : (end end' : ℕ) → SameButEnd (faults_at end) (faults_at end')
same-data end end' = record { number = λ e l. refl; name = λ l. refl }

-- what a fault of a data section is in the file
of_data-line : {A : Type 0} (ended : MshFault) (end l : ℕ) (d : DataFault) (e : MshFault) → l < line_of ended → l < data_line_of d → of_data {A = A} ended (Err d) ≡ Err e → l < line_of e
of_data-line ended end l (data_fault.BadNumber k) e late less h = let same : BadNumber k ≡ e = cc h in subst (λ x. l < line_of x) same less
of_data-line ended end l (data_fault.BadCount k) e late less h = let same : BadCount k ≡ e = cc h in subst (λ x. l < line_of x) same less
of_data-line ended end l (data_fault.BadName k) e late less h = let same : BadName k ≡ e = cc h in subst (λ x. l < line_of x) same less
of_data-line ended end l (data_fault.Components k n) e late less h = let same : Components k n ≡ e = cc h in subst (λ x. l < line_of x) same less
of_data-line ended end l (data_fault.UnknownNumber k n) e late less h = let same : UnknownNumber k n ≡ e = cc h in subst (λ x. l < line_of x) same less
of_data-line ended end l (data_fault.OutOfRange k) e late less h = let same : OutOfRange k ≡ e = cc h in subst (λ x. l < line_of x) same less
of_data-line ended end l (data_fault.Ended k) e late less h = let same : ended ≡ e = cc h in subst (λ x. l < line_of x) same late
of_data-line ended end l data_fault.NoMemory e late less h = absurd (omega (arith, less))

-- a fault up to the line is not that the body ended, and is the same in any other file
of_data-low : {A : Type 0} (ended ended' : MshFault) (l : ℕ) (d : DataFault) (e : MshFault) → l < line_of ended → line_of e ≤ l → of_data {A = A} ended (Err d) ≡ Err e → (data_line_of d ≤ l) × (of_data {A = A} ended' (Err d) ≡ Err e)
of_data-low ended ended' l (data_fault.BadNumber k) e late low h = let same : BadNumber k ≡ e = cc h in (subst (λ x. line_of x ≤ l) (sym same) low, h)
of_data-low ended ended' l (data_fault.BadCount k) e late low h = let same : BadCount k ≡ e = cc h in (subst (λ x. line_of x ≤ l) (sym same) low, h)
of_data-low ended ended' l (data_fault.BadName k) e late low h = let same : BadName k ≡ e = cc h in (subst (λ x. line_of x ≤ l) (sym same) low, h)
of_data-low ended ended' l (data_fault.Components k n) e late low h = let same : Components k n ≡ e = cc h in (subst (λ x. line_of x ≤ l) (sym same) low, h)
of_data-low ended ended' l (data_fault.UnknownNumber k n) e late low h = let same : UnknownNumber k n ≡ e = cc h in (subst (λ x. line_of x ≤ l) (sym same) low, h)
of_data-low ended ended' l (data_fault.OutOfRange k) e late low h = let same : OutOfRange k ≡ e = cc h in (subst (λ x. line_of x ≤ l) (sym same) low, h)
of_data-low ended ended' l (data_fault.Ended k) e late low h = let same : ended ≡ e = cc h in let on : line_of ended ≡ line_of e = ap line_of same in absurd (omega (arith, on, late, low))
of_data-low ended ended' l data_fault.NoMemory e late low h = (omega arith, h)

of_data-err : {A : Type 0} (ended : MshFault) (o : Result A DataFault) (e : MshFault) → of_data ended o ≡ Err e → (d : DataFault) × (o ≡ Err d)
of_data-err ended (Ok x) e h = absurd (cc h)
of_data-err ended (Err d) e h = (d, refl)

with_section-local : (parts : Parts) (k : Known) → IsSectionLocal (λ end ended body. with_section end ended parts k body)
unfolding with_section section_of
with_section-local parts Format = record {
  beyond = λ l end ended xs e less late beyond h. whole-beyond line_of BadCount format (λ k. refl) format-local l (faults_of ended) xs e (msh-tell ended) late beyond (map_ok-err _ _ e h);
  before = λ l end end' ended ended' ps xs ys e less late upto x y h low. ap (map_ok _) (whole-before line_of BadCount format (λ k. refl) format-local l (faults_of ended) (faults_of ended') ps xs ys e (msh-tell ended) late (same-msh ended ended') upto x y (map_ok-err _ _ e h) low);
}
with_section-local parts Names = record {
  beyond = λ l end ended xs e less late beyond h. whole-beyond line_of BadCount names (λ k. refl) names-local l (faults_of ended) xs e (msh-tell ended) late beyond (map_ok-err _ _ e h);
  before = λ l end end' ended ended' ps xs ys e less late upto x y h low. ap (map_ok _) (whole-before line_of BadCount names (λ k. refl) names-local l (faults_of ended) (faults_of ended') ps xs ys e (msh-tell ended) late (same-msh ended ended') upto x y (map_ok-err _ _ e h) low);
}
with_section-local parts Nodes = record {
  beyond = λ l end ended xs e less late beyond h. whole-beyond line_of BadCount nodes (λ k. refl) nodes-local l (faults_of ended) xs e (msh-tell ended) late beyond (map_ok-err _ _ e h);
  before = λ l end end' ended ended' ps xs ys e less late upto x y h low. ap (map_ok _) (whole-before line_of BadCount nodes (λ k. refl) nodes-local l (faults_of ended) (faults_of ended') ps xs ys e (msh-tell ended) late (same-msh ended ended') upto x y (map_ok-err _ _ e h) low);
}
with_section-local parts Elements = record {
  beyond = λ l end ended xs e less late beyond h. whole-beyond line_of BadCount (elements (file_numbers parts place.Node)) (λ k. refl) (elements-local (file_numbers parts place.Node)) l (faults_of ended) xs e (msh-tell ended) late beyond (map_ok-err _ _ e h);
  before = λ l end end' ended ended' ps xs ys e less late upto x y h low. ap (map_ok _) (whole-before line_of BadCount (elements (file_numbers parts place.Node)) (λ k. refl) (elements-local (file_numbers parts place.Node)) l (faults_of ended) (faults_of ended') ps xs ys e (msh-tell ended) late (same-msh ended ended') upto x y (map_ok-err _ _ e h) low);
}
with_section-local parts (Data on) = record {
  beyond = λ l end ended xs e less late beyond h.
      let g = map_ok-err _ _ e h in
      let d = of_data-err ended (whole data_fault.BadCount (section on (file_numbers parts on)) (faults_at end) xs) e g in
      of_data-line ended end l d.0 e late (whole-beyond data_line_of data_fault.BadCount (section on (file_numbers parts on)) (λ k. refl) (section-local on (file_numbers parts on)) l (faults_at end) xs d.0 (data-tell end) less beyond d.1) (sym (ap (of_data ended) d.1) ∙ g);
  before = λ l end end' ended ended' ps xs ys e less late upto x y h low.
      let g = map_ok-err _ _ e h in
      let d = of_data-err ended (whole data_fault.BadCount (section on (file_numbers parts on)) (faults_at end) (ps ++ xs)) e g in
      let both = of_data-low ended ended' l d.0 e late low (sym (ap (of_data ended) d.1) ∙ g) in
      ap (map_ok _) (ap (of_data ended') (whole-before data_line_of data_fault.BadCount (section on (file_numbers parts on)) (λ k. refl) (section-local on (file_numbers parts on)) l (faults_at end) (faults_at end') ps xs ys d.0 (data-tell end) less (same-data end end') upto x y d.1 both.0) ∙ both.1);
}

-- ---- blocks after a line

unfoldable pub BeyondBlock : ℕ → Block → Type 0
BeyondBlock l b = (l < b.line) × Beyond l b.body

abbrev pub AllBeyond : ℕ → List Block → Type 0
AllBeyond l bs = AllByRecursion (BeyondBlock l) bs

ending-beyond : (l end : ℕ) (bs : List Block) → l < end → AllBeyond l bs → l < ending_line end bs
unfolding BeyondBlock
ending-beyond l end [] less beyond = less
ending-beyond l end (b ∷ bs) less beyond = beyond.0.0

cut_short-beyond : (l end : ℕ) (name : List ℕ) (bs : List Block) → l < end → AllBeyond l bs → l < line_of (cut_short end name bs)
unfolding BeyondBlock
cut_short-beyond l end name [] less beyond = less
cut_short-beyond l end name (b ∷ bs) less beyond = go (closes name b)
  where
    go : (t : Bool) → l < line_of (cond t (BadCount b.line) (Unclosed b.line))
    go true = beyond.0.0
    go false = beyond.0.0

-- a fault of a header line
abbrev the_err : MshFault → Result Content MshFault
the_err e = Err e

abbrev the_step : Result (Expected × Parts) MshFault → Result (Expected × Parts) MshFault
the_step o = o

at_line : (l line : ℕ) (e f : MshFault) → line_of f ≡ line → l < line → the_err f ≡ the_err e → l < line_of e
at_line l line e f on less h = let same : f ≡ e = cc h in let same_line : line_of f ≡ line_of e = ap line_of same in omega (arith, on, less, same_line)

begun-beyond : (l end : ℕ) (parts : Parts) (b : Block) (bs : List Block) (k : Option Known) (e : MshFault) → l < end → BeyondBlock l b → AllBeyond l bs → begun end parts b bs k ≡ Err e → l < line_of e
unfolding BeyondBlock
begun-beyond l end parts b bs (Some k) e less here beyond h = go (misplaced parts b.line k) refl h
  where
    section_of_block : Result Parts MshFault
    section_of_block = with_section (ending_line end bs) (cut_short end b.name bs) parts k b.body

    read : (o : Result Parts MshFault) → section_of_block ≡ o → (o >>= (λ with. Ok (Closing b.name, with))) ≡ the_step (Err e) → l < line_of e
    read (Ok with) is t = absurd (cc t)
    read (Err d) is t = let same : d ≡ e = cc t in
        (with_section-local parts k).beyond l (ending_line end bs) (cut_short end b.name bs) b.body e (ending-beyond l end bs less beyond) (cut_short-beyond l end b.name bs less beyond) here.1 (is ∙ ap Err same)

    go : (o : Option MshFault) → misplaced parts b.line k ≡ o → (unless o parts >>= (λ before. with_section (ending_line end bs) (cut_short end b.name bs) before k b.body >>= (λ with. Ok (Closing b.name, with)))) ≡ the_step (Err e) → l < line_of e
    go (Some f) is t = at_line l b.line e f (misplaced-line parts b.line k f is) here.0 (cc t)
    go None is t = read section_of_block refl t
begun-beyond l end parts b bs None e less here beyond h = go (is_wrong_header b.name) h
  where
    go : (t : Bool) → cond t (Err (Header b.line)) (Ok (Skipping b.name, parts)) ≡ the_step (Err e) → l < line_of e
    go true t = at_line l b.line e (Header b.line) refl here.0 (cc t)
    go false t = absurd (cc t)

step-beyond : (l end : ℕ) (due : Expected) (parts : Parts) (b : Block) (bs : List Block) (e : MshFault) → l < end → BeyondBlock l b → AllBeyond l bs → with_block end due parts b bs ≡ Err e → l < line_of e
unfolding with_block BeyondBlock
step-beyond l end Opening parts b bs e less here beyond h = begun-beyond l end parts b bs (known b.name) e less here beyond h
step-beyond l end (Closing name) parts b bs e less here beyond h = go (closes name b) h
  where
    go : (t : Bool) → cond t (Ok (Opening, parts)) (Err (Unclosed b.line)) ≡ the_step (Err e) → l < line_of e
    go true t = absurd (cc t)
    go false t = at_line l b.line e (Unclosed b.line) refl here.0 (cc t)
step-beyond l end (Skipping name) parts b bs e less here beyond h = absurd (cc h)

finished-beyond : (l end : ℕ) (due : Expected) (parts : Parts) (e : MshFault) → l < end → finished end due parts ≡ Err e → l < line_of e
finished-beyond l end Opening parts e less h = go (unfinished parts end) refl h
  where
    go : (o : Option MshFault) → unfinished parts end ≡ o → unless o (content_of parts) ≡ Err e → l < line_of e
    go (Some f) is t = at_line l end e f (unfinished-line parts end f is) less t
    go None is t = absurd (cc t)
finished-beyond l end (Closing name) parts e less h = at_line l end e (Unclosed end) refl less h
finished-beyond l end (Skipping name) parts e less h = at_line l end e (Unclosed end) refl less h

-- a fault of blocks after a line is after it
pub said-beyond : (l end : ℕ) (due : Expected) (parts : Parts) (bs : List Block) (e : MshFault) → l < end → AllBeyond l bs → said end due parts bs ≡ Err e → l < line_of e
unfolding said
said-beyond l end due parts [] e less beyond h = finished-beyond l end due parts e less h
said-beyond l end due parts (b ∷ bs) e less beyond h = go (with_block end due parts b bs) refl h (λ due' parts'. said-beyond l end due' parts' bs e less beyond.1)
  where
    go : (o : Result (Expected × Parts) MshFault) → with_block end due parts b bs ≡ o → (o >>= (λ next. said end next.0 next.1 bs)) ≡ Err e → ((due' : Expected) (parts' : Parts) → said end due' parts' bs ≡ Err e → l < line_of e) → l < line_of e
    go (Ok next) is t r = r next.0 next.1 t
    go (Err d) is t r = let same : d ≡ e = cc t in step-beyond l end due parts b bs e less beyond.0 beyond.1 (is ∙ ap Err same)

-- ---- blocks up to a line

abbrev pub block_of : List ℕ → ℕ → List Lexeme → Block
block_of name line body = record { name = name; line = line; body = body }

-- what stands after the line in one file and in the other
pub record Rests (l end : ℕ) (ps xs ys : List Lexeme) (us : List Block) : Type 0 where
  pub less : l < end
  pub upto : Upto l ps
  pub first : Beyond l xs
  pub second : Beyond l ys
  pub blocks : AllBeyond l us

begun-before : (l end end' : ℕ) (parts : Parts) (name : List ℕ) (line : ℕ) (ps xs ys : List Lexeme) (us bs : List Block) (k : Option Known) (e : MshFault) → Rests l end ps xs ys us → line_of e ≤ l
    → (begun end parts (block_of name line (ps ++ xs)) us k >>= (λ next. said end next.0 next.1 us)) ≡ Err e → (begun end' parts (block_of name line (ps ++ ys)) bs k >>= (λ next. said end' next.0 next.1 bs)) ≡ Err e
begun-before l end end' parts name line ps xs ys us bs (Some k) e rests low h = go (misplaced parts line k) refl h
  where
    second : Parts → Result Parts MshFault
    second before = with_section (ending_line end' bs) (cut_short end' name bs) before k (ps ++ ys)

    first : Result Parts MshFault
    first = with_section (ending_line end us) (cut_short end name us) parts k (ps ++ xs)

    read : (o : Result Parts MshFault) → first ≡ o → ((o >>= (λ with. the_step (Ok (Closing name, with)))) >>= (λ next. said end next.0 next.1 us)) ≡ Err e → ((second parts >>= (λ with. the_step (Ok (Closing name, with)))) >>= (λ next. said end' next.0 next.1 bs)) ≡ Err e
    read (Ok with) is t = absurd (omega (arith, low, said-beyond l end (Closing name) with us e rests.less rests.blocks t))
    read (Err d) is t = let same : d ≡ e = cc t in
        ap (λ o. (o >>= (λ with. the_step (Ok (Closing name, with)))) >>= (λ next. said end' next.0 next.1 bs))
        ((with_section-local parts k).before l (ending_line end us) (ending_line end' bs) (cut_short end name us) (cut_short end' name bs) ps xs ys e (ending-beyond l end us rests.less rests.blocks) (cut_short-beyond l end name us rests.less rests.blocks) rests.upto rests.first rests.second (is ∙ ap Err same) low)

    go : (o : Option MshFault) → misplaced parts line k ≡ o
        → ((unless o parts >>= (λ before. with_section (ending_line end us) (cut_short end name us) before k (ps ++ xs) >>= (λ with. the_step (Ok (Closing name, with))))) >>= (λ next. said end next.0 next.1 us)) ≡ Err e
        → ((unless (misplaced parts line k) parts >>= (λ before. second before >>= (λ with. the_step (Ok (Closing name, with))))) >>= (λ next. said end' next.0 next.1 bs)) ≡ Err e
    go (Some f) is t = ap (λ o. (unless o parts >>= (λ before. second before >>= (λ with. the_step (Ok (Closing name, with))))) >>= (λ next. said end' next.0 next.1 bs)) is ∙ t
    go None is t = ap (λ o. (unless o parts >>= (λ before. second before >>= (λ with. the_step (Ok (Closing name, with))))) >>= (λ next. said end' next.0 next.1 bs)) is ∙ read first refl t
begun-before l end end' parts name line ps xs ys us bs None e rests low h = go (is_wrong_header name) h
  where
    go : (t : Bool) → (cond t (the_step (Err (Header line))) (Ok (Skipping name, parts)) >>= (λ next. said end next.0 next.1 us)) ≡ Err e → (cond t (the_step (Err (Header line))) (Ok (Skipping name, parts)) >>= (λ next. said end' next.0 next.1 bs)) ≡ Err e
    go true t = t
    go false t = absurd (omega (arith, low, said-beyond l end (Skipping name) parts us e rests.less rests.blocks t))

-- the block in which the line ends
cut-before : (l end end' : ℕ) (due : Expected) (parts : Parts) (name : List ℕ) (line : ℕ) (ps xs ys : List Lexeme) (us bs : List Block) (e : MshFault) → Rests l end ps xs ys us → line_of e ≤ l
    → said end due parts (block_of name line (ps ++ xs) ∷ us) ≡ Err e → said end' due parts (block_of name line (ps ++ ys) ∷ bs) ≡ Err e
unfolding said with_block
cut-before l end end' Opening parts name line ps xs ys us bs e rests low h = begun-before l end end' parts name line ps xs ys us bs (known name) e rests low h
cut-before l end end' (Closing wanted) parts name line ps xs ys us bs e rests low h = go (same_list name (closing wanted)) h
  where
    go : (t : Bool) → (cond t (the_step (Ok (Opening, parts))) (Err (Unclosed line)) >>= (λ next. said end next.0 next.1 us)) ≡ Err e → (cond t (the_step (Ok (Opening, parts))) (Err (Unclosed line)) >>= (λ next. said end' next.0 next.1 bs)) ≡ Err e
    go true t = absurd (omega (arith, low, said-beyond l end Opening parts us e rests.less rests.blocks t))
    go false t = t
cut-before l end end' (Skipping wanted) parts name line ps xs ys us bs e rests low h = absurd (omega (arith, low, said-beyond l end (cond (same_list name (closing wanted)) Opening (Skipping wanted)) parts us e rests.less rests.blocks h))

-- a block before that one
step-same : (end end' : ℕ) (due : Expected) (parts : Parts) (b : Block) (us bs : List Block) → ending_line end us ≡ ending_line end' bs → ((name : List ℕ) → cut_short end name us ≡ cut_short end' name bs) → with_block end due parts b us ≡ with_block end' due parts b bs
unfolding with_block
step-same end end' Opening parts b us bs p q = go (known b.name)
  where
    go : (k : Option Known) → begun end parts b us k ≡ begun end' parts b bs k
    go (Some k) = ap₂ (λ i s. unless (misplaced parts b.line k) parts >>= (λ before. with_section i s before k b.body >>= (λ with. the_step (Ok (Closing b.name, with))))) p (q b.name)
    go None = refl
step-same end end' (Closing name) parts b us bs p q = refl
step-same end end' (Skipping name) parts b us bs p q = refl

-- a fault up to a line is there whatever stands after it
pub said-before : (l end end' : ℕ) (due : Expected) (parts : Parts) (cs : List Block) (name : List ℕ) (line : ℕ) (ps xs ys : List Lexeme) (us bs : List Block) (e : MshFault) → Rests l end ps xs ys us → line_of e ≤ l
    → said end due parts (cs ++ block_of name line (ps ++ xs) ∷ us) ≡ Err e → said end' due parts (cs ++ block_of name line (ps ++ ys) ∷ bs) ≡ Err e
unfolding said
said-before l end end' due parts [] name line ps xs ys us bs e rests low h = cut-before l end end' due parts name line ps xs ys us bs e rests low h
said-before l end end' due parts (c ∷ cs) name line ps xs ys us bs e rests low h =
    ap (λ o. o >>= (λ next. said end' next.0 next.1 (cs ++ block_of name line (ps ++ ys) ∷ bs))) (sym (same cs)) ∙ go (with_block end due parts c (cs ++ block_of name line (ps ++ xs) ∷ us)) h (λ due' parts'. said-before l end end' due' parts' cs name line ps xs ys us bs e rests low)
  where
    same : (ds : List Block) → with_block end due parts c (ds ++ block_of name line (ps ++ xs) ∷ us) ≡ with_block end' due parts c (ds ++ block_of name line (ps ++ ys) ∷ bs)
    same [] = step-same end end' due parts c (block_of name line (ps ++ xs) ∷ us) (block_of name line (ps ++ ys) ∷ bs) refl (λ n. refl)
    same (d ∷ ds) = step-same end end' due parts c (d ∷ (ds ++ block_of name line (ps ++ xs) ∷ us)) (d ∷ (ds ++ block_of name line (ps ++ ys) ∷ bs)) refl (λ n. refl)

    go : (o : Result (Expected × Parts) MshFault) → (o >>= (λ next. said end next.0 next.1 (cs ++ block_of name line (ps ++ xs) ∷ us))) ≡ Err e
        → ((due' : Expected) (parts' : Parts) → said end due' parts' (cs ++ block_of name line (ps ++ xs) ∷ us) ≡ Err e → said end' due' parts' (cs ++ block_of name line (ps ++ ys) ∷ bs) ≡ Err e)
        → (o >>= (λ next. said end' next.0 next.1 (cs ++ block_of name line (ps ++ ys) ∷ bs))) ≡ Err e
    go (Ok next) t r = r next.0 next.1 t
    go (Err d) t r = t
