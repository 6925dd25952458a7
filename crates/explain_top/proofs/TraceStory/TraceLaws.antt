-- The text of a trace: its lines by their kinds, and that it spells one trace.
use Rattle.std.proofs.Common.{◌≡◌, ◌≢◌, ◌⊎◌, ℕ, suc, ◌^◌, ◌<◌, ◌≤◌, Bool, true, false, cond, nat_eq, List, [], ◌∷◌, ◌++◌, codes, take, inl, inr, refl, sym, ap, ◌∙◌, subst, arith, Option, None, Some, MatchOption, length}
use Rattle.std.specs.Fmt.{decimal}
use Rattle.std.proofs.lemmas.Bool.{eqb-true, false≢true}
use Rattle.std.proofs.lemmas.Bool.Decides.{nat_tests}
use Rattle.outer_io.specs.Lines.{lines_of}
use Rattle.trace_replay.proofs.Decimals.{decimal_injective}
use Rattle.race_core.specs.declared.ends.Cause.{Cause}
use Rattle.race_core.specs.declared.ends.Cause.TheVariants.{Rounds, Whole, Number, Product}
use Rattle.race_verdicts.specs.Texts.{cause_name}
use Rattle.rank_lasso.specs.LassoText.{AreShort, letters_text, letters_line}
use Rattle.rank_lasso.specs.Lines.{HasNo, line_text, Lacks, Stops, GoesOn, natural, letters}
use Rattle.rank_lasso.proofs.Cuts.{same_line}
use Rattle.rank_lasso.proofs.Contents.{content_has_no_end, same_letters}
use Rattle.rank_lasso.proofs.LineLaws.{no_members}
use Rattle.rank_lasso.proofs.FaultLaws.{AreOfKinds, AreWords, lines_are, first_fault_among}
use Rattle.explain_top.specs.TraceStory.TraceText.{PlainTrace, IsInBounds, trace_lines, trace_text}
use Rattle.explain_top.specs.TraceStory.Ties.TraceLines.{cause_word, cause_kind, rounds_kind, letters_kind, trace_kinds}
use Rattle.explain_top.specs.TraceStory.TraceFaults.{AreOfTrace, IsFirstFault, IsTraceFault}
use Rattle.explain_top.specs.declared.trace_story.traces.TraceFault.{TraceFault}
use Rattle.explain_top.specs.declared.trace_story.traces.TraceFault.TheVariants.{Syntax, Memory}

-- ---- causes by their names

abbrev first : List ℕ → ℕ
first [] = 0
first (b ∷ bs) = b

abbrev cause_by : ℕ → Cause
cause_by n = cond (nat_eq n 114) Rounds (cond (nat_eq n 119) Whole (cond (nat_eq n 110) Number Product))

by_first : (c : Cause) → cause_by (first (cause_name c)) ≡ c
by_first Rounds = refl
by_first Whole = refl
by_first Number = refl
by_first Product = refl

same_cause : (c d : Cause) → cause_name c ≡ cause_name d → c ≡ d
same_cause c d e = sym (by_first c) ∙ ap (λ (name : List ℕ). cause_by (first name)) e ∙ by_first d

same_or : (c d : Cause) → (c ≡ d) ⊎ (cause_name c ≢ cause_name d)
same_or c d = by_test (nat_eq (first (cause_name c)) (first (cause_name d))) refl
  where
    by_test : (b : Bool) → nat_eq (first (cause_name c)) (first (cause_name d)) ≡ b → (c ≡ d) ⊎ (cause_name c ≢ cause_name d)
    by_test true e = inl (sym (by_first c) ∙ ap cause_by (eqb-true (first (cause_name c)) (first (cause_name d)) e) ∙ by_first d)
    by_test false e = inr (λ f. (let g : first (cause_name c) ≡ first (cause_name d) = ap first f in grind (arith, nat_tests)))

name_has_no_end : (c : Cause) → HasNo 10 (cause_name c)
name_has_no_end Rounds = refl
name_has_no_end Whole = refl
name_has_no_end Number = refl
name_has_no_end Product = refl

-- a line of a cause, by its name
named : (c : Cause) (content rest : List ℕ) → content ≡ [] → line_text (cause_word c) content ++ rest ≡ line_text (codes "unknown ") (cause_name c) ++ rest
named Rounds content rest e = ap (λ (x : List ℕ). line_text (cause_word Rounds) x ++ rest) e
named Whole content rest e = ap (λ (x : List ℕ). line_text (cause_word Whole) x ++ rest) e
named Number content rest e = ap (λ (x : List ℕ). line_text (cause_word Number) x ++ rest) e
named Product content rest e = ap (λ (x : List ℕ). line_text (cause_word Product) x ++ rest) e

-- a name that is none of a cause
pub no_cause : (text content rest : List ℕ) → HasNo 10 content × (text ≡ line_text (codes "unknown ") content ++ rest) → (c : Cause) → content ≢ cause_name c → Lacks (cause_kind c) text
no_cause text content rest read c none other more is spelled =
    none (same_line (codes "unknown ") content (cause_name c) rest more read.0 (name_has_no_end c) (sym read.1 ∙ spelled ∙ named c other more is)).0

-- a line of a cause
pub of_cause : (text content rest : List ℕ) (c : Cause) → text ≡ line_text (codes "unknown ") content ++ rest → content ≡ cause_name c → text ≡ line_text (cause_word c) [] ++ rest
of_cause text content rest c read e = read ∙ ap (λ (x : List ℕ). line_text (codes "unknown ") x ++ rest) e ∙ sym (named c [] rest refl)

-- ---- lines by their kinds

words : (c : Cause) → AreWords (trace_kinds c)
words Rounds = (refl, (refl, (refl, tt)))
words Whole = (refl, (refl, (refl, tt)))
words Number = (refl, (refl, (refl, tt)))
words Product = (refl, (refl, (refl, tt)))

abbrev pub trace_of : Cause → ℕ → List ℕ → PlainTrace
trace_of c n ns = record { cause = c; rounds = n; letters = ns }

made : (c : Cause) (lines : List (List ℕ)) → AreOfKinds (trace_kinds c) lines → AreOfTrace lines
made c [] h = absurd h
made c (l ∷ []) h = absurd h.1
made c (l ∷ m ∷ []) h = absurd h.1.1
made c (l ∷ m ∷ k ∷ (j ∷ js)) h = absurd h.1.1.1
made c (l ∷ m ∷ k ∷ []) h =
    let one = h.0 in
    let two = h.1.0 in
    let three = h.1.1.0 in
    let l_is = one.2 ∙ ap (line_text (cause_word c)) one.1 in
    let m_is = two.2 ∙ ap (line_text (codes "rounds ")) two.1.2 in
    let k_is = three.2 ∙ ap (line_text (codes "trace")) three.1.2 in
    (trace_of c two.1.0 three.1.0, record { rounds = two.1.1; letters = three.1.1 }, (λ i. l_is i ∷ (m_is i ∷ (k_is i ∷ []))))

pub lines_of_kinds : (u : PlainTrace) → IsInBounds u → AreOfKinds (trace_kinds u.cause) (trace_lines u)
lines_of_kinds u w = (([], refl, refl), ((decimal u.rounds, (u.rounds, w.rounds, refl), refl), ((letters_text u.letters, (u.letters, w.letters, refl), refl), tt)))

parts : (lines : List (List ℕ)) → AreOfTrace lines → (c : Cause) × AreOfKinds (trace_kinds c) lines
parts lines h = (h.0.cause, subst (AreOfKinds (trace_kinds h.0.cause)) (sym h.2) (lines_of_kinds h.0 h.1))

pub lines_of-trace_text : (u : PlainTrace) → IsInBounds u → lines_of (trace_text u) ≡ trace_lines u
lines_of-trace_text u w = lines_are (trace_kinds u.cause) (trace_lines u) (words u.cause) (lines_of_kinds u w)

-- ---- faults

-- no line of another cause goes farther
others : (c : Cause) (text rest : List ℕ) (n : ℕ) → text ≡ line_text (cause_word c) [] ++ rest → Stops GoesOn (trace_kinds c) text n → (d : Cause) → (m : ℕ) × Stops GoesOn (trace_kinds d) text m × (m ≤ n)
others c text rest n is s d = elim (same_or c d) [
  | inl e ↦ subst (λ (x : Cause). (m : ℕ) × Stops GoesOn (trace_kinds x) text m × (m ≤ n)) e (n, s, omega arith)
  | inr h ↦ (0, no_cause text (cause_name c) rest (name_has_no_end c, is ∙ named c [] rest refl) d h, omega arith)
]

stops_at : (c : Cause) (text rest : List ℕ) (n : ℕ) → text ≡ line_text (cause_word c) [] ++ rest → Stops GoesOn (trace_kinds c) text n → IsFirstFault text (suc n)
stops_at c text rest n is s = first_fault_among AreOfTrace (trace_kinds c) trace_kinds (words c) words (made c) parts text n s (others c text rest n is s)

pub first_line_fault : (text : List ℕ) → ((c : Cause) → Lacks (cause_kind c) text) → IsFirstFault text 1
first_line_fault text h = first_fault_among AreOfTrace (trace_kinds Rounds) trace_kinds (words Rounds) words (made Rounds) parts text 0 (h Rounds) (λ c. (0, h c, omega arith))

pub second_line_fault : (c : Cause) (text rest : List ℕ) → text ≡ line_text (cause_word c) [] ++ rest → Lacks rounds_kind rest → IsFirstFault text 2
second_line_fault c text rest is h = stops_at c text rest 1 is ([], rest, refl, is, h)

pub third_line_fault : (c : Cause) (n : ℕ) (text rest more : List ℕ) → text ≡ line_text (cause_word c) [] ++ rest → (n < 2 ^ 64) × (rest ≡ line_text (codes "rounds ") (decimal n) ++ more) → Lacks letters_kind more →
    IsFirstFault text 3
third_line_fault c n text rest more is two h = stops_at c text rest 2 is ([], rest, refl, is, (decimal n, more, (n, two.0, refl), two.1, h))

pub last_line_fault : (c : Cause) (n : ℕ) (ns : List ℕ) (text rest more end : List ℕ) → text ≡ line_text (cause_word c) [] ++ rest → (n < 2 ^ 64) × (rest ≡ line_text (codes "rounds ") (decimal n) ++ more) →
    AreShort ns × (more ≡ letters_line (codes "trace") ns ++ end) → end ≢ [] → IsFirstFault text 4
last_line_fault c n ns text rest more end is two three h =
    stops_at c text rest 3 is ([], rest, refl, is, (decimal n, more, (n, two.0, refl), two.1, (letters_text ns, end, (ns, three.0, refl), three.1, (refl, h))))

-- ---- one trace

-- its lines were read one after the other
pub trace_read : (c : Cause) (n : ℕ) (ns : List ℕ) (text rest more end : List ℕ) → text ≡ line_text (cause_word c) [] ++ rest → rest ≡ line_text (codes "rounds ") (decimal n) ++ more →
    more ≡ letters_line (codes "trace") ns ++ end → end ≡ [] → text ≡ trace_text (trace_of c n ns)
trace_read c n ns text rest more end is two three none =
    is ∙ ap (λ (x : List ℕ). line_text (cause_word c) [] ++ x) (two ∙ ap (λ (x : List ℕ). line_text (codes "rounds ") (decimal n) ++ x) (three ∙ ap (λ (x : List ℕ). letters_line (codes "trace") ns ++ x) none))

trace_text-injective : (u v : PlainTrace) → IsInBounds u → IsInBounds v → trace_text u ≡ trace_text v → u ≡ v
trace_text-injective u v w x e =
    let number = λ (n : ℕ) (l : n < 2 ^ 64). content_has_no_end natural (decimal n) (n, l, refl) in
    let a = same_line (codes "unknown ") (cause_name u.cause) (cause_name v.cause) _ _ (name_has_no_end u.cause) (name_has_no_end v.cause) e in
    let b = same_line (codes "rounds ") (decimal u.rounds) (decimal v.rounds) _ _ (number u.rounds w.rounds) (number v.rounds x.rounds) a.1 in
    let c = same_line (codes "trace") (letters_text u.letters) (letters_text v.letters) [] [] (content_has_no_end letters (letters_text u.letters) (u.letters, w.letters, refl))
    (content_has_no_end letters (letters_text v.letters) (v.letters, x.letters, refl)) b.1 in
    let cause = same_cause u.cause v.cause a.0 in
    let rounds = decimal_injective u.rounds v.rounds (omega (arith, w.rounds)) (omega (arith, x.rounds)) b.0 in
    let ids = same_letters u.letters v.letters w.letters x.letters c.0 in
    (λ i. record { cause = cause i; rounds = rounds i; letters = ids i })

-- what is read of the text of a trace is that trace
pub trace_is_read : (text : List ℕ) (v : PlainTrace) → IsInBounds v → text ≡ trace_text v → (u : PlainTrace) → IsInBounds u → text ≡ trace_text u → v ≡ u
trace_is_read text v x f u w e = trace_text-injective v u x w (sym f ∙ e)

-- the fault of the text of a trace is want of memory
pub fault_is_memory : (text : List ℕ) (e : TraceFault) → IsTraceFault text e → (u : PlainTrace) → IsInBounds u → text ≡ trace_text u → e ≡ Memory
fault_is_memory text (Syntax line) f u w e = absurd (f.here (trace_lines u, (u, w, refl), ap (take line) (ap lines_of e ∙ lines_of-trace_text u w)))
fault_is_memory text Memory f u w e = refl

-- ---- what was read, or not

pub match_none : {X : Type 0} (o : Option X) (A : Type 0) (B : X → Type 0) → o ≡ None → MatchOption o A B → A
match_none None A B e h = h
match_none (Some x) A B e h = absurd (let n : ⊥ = cc in n)

pub match_some : {X : Type 0} (o : Option X) (A : Type 0) (B : X → Type 0) (x : X) → o ≡ Some x → MatchOption o A B → B x
match_some None A B x e h = absurd (let n : ⊥ = cc in n)
match_some (Some y) A B x e h = let same : y ≡ x = cc in subst B same h

pub nothing_left : (bs : List ℕ) (b : Bool) → b ≡ nat_eq (length bs) 0 → b ≡ true → bs ≡ []
nothing_left bs b e f = no_members bs (eqb-true (length bs) 0 (sym e ∙ f))

pub something_left : (bs : List ℕ) (b : Bool) → b ≡ nat_eq (length bs) 0 → b ≡ false → bs ≢ []
something_left bs b e f n = false≢true (sym f ∙ e ∙ ap (λ (x : List ℕ). nat_eq (length x) 0) n)
