-- No verdict says that the rounds are over where the program has no more words, and none that Decide has a gap where all rows are difference rows.
use Rattle.std.proofs.Common.{◌≡◌, ℕ, ◌≤◌, List, length, get_or, Option, Some, ap, refl, sym, ◌∙◌, subst, arith}
use Rattle.std.specs.Prelude.{IfSome}
use Rattle.nwa_base.specs.declared.letters.Letter.{Letter}
use Rattle.nwa_base.specs.Automata.{Automaton}
use Rattle.typed_tree.specs.TypedTree.{TypedProgram}
use Rattle.lowered_graph.specs.Lowered.{lowered}
use Rattle.race_core.specs.declared.ends.Cause.{Cause}
use Rattle.race_core.specs.declared.ends.Cause.TheVariants.{Rounds, Whole, Number, Product}
use Rattle.race_core.specs.declared.ends.End.{End}
use Rattle.race_core.specs.declared.ends.End.TheVariants as ends
use Rattle.race_core.specs.declared.events.Entry.{Entry}
use Rattle.race_core.specs.Histories.{IsLegal}
use Rattle.race_core.specs.Races.{Race}
use Rattle.itp_automaton.specs.Certified.{Certificate, IsFeasibleFor}
use Rattle.race_rounds.specs.declared.limits.Limits.{Limits}
use Rattle.race_rounds.specs.Ends.{EndMeets, no_word, one_word}
use Rattle.race_rounds.specs.Rounds.{automaton_in}
use Rattle.race_verdicts.specs.RaceCompleteness.Words.{HasWordsAmong}
use Rattle.race_verdicts.specs.RaceCompleteness.Laws.{RoundsAreEnough}
use Rattle.race_verdicts.specs.declared.verdicts.Verdict.{Verdict}
use Rattle.race_verdicts.specs.declared.verdicts.Verdict.TheVariants.{Safe, Unsafe, Unknown}
use Rattle.race_verdicts.specs.Verdicts.{IsVerdict}
use Rattle.race_verdicts.specs.Texts.{verdict_text, unknown_text}
use Rattle.text_reports.specs.ReportTexts.{Answer}
use Rattle.automizer_top.specs.Report.{ReportsVerdict}
use Rattle.automizer_top.specs.Completeness.{HasDifferenceRows, SaysUnknown}

-- ---- which cause a text says

-- the first letter of the cause
abbrev letter_of : Cause → ℕ
letter_of Rounds = 114
letter_of Whole = 119
letter_of Number = 110
letter_of Product = 112

unknown_letter : (cause : Cause) (n : ℕ) (w : List Letter) → get_or (unknown_text cause n w) 8 0 ≡ letter_of cause
unknown_letter Rounds n w = omega arith
unknown_letter Whole n w = omega arith
unknown_letter Number n w = omega arith
unknown_letter Product n w = omega arith

same_letter : (a b : Cause) → letter_of a ≡ letter_of b → a ≡ b
same_letter Rounds Rounds e = refl
same_letter Rounds Whole e = absurd (omega arith)
same_letter Rounds Number e = absurd (omega arith)
same_letter Rounds Product e = absurd (omega arith)
same_letter Whole Rounds e = absurd (omega arith)
same_letter Whole Whole e = refl
same_letter Whole Number e = absurd (omega arith)
same_letter Whole Product e = absurd (omega arith)
same_letter Number Rounds e = absurd (omega arith)
same_letter Number Whole e = absurd (omega arith)
same_letter Number Number e = refl
same_letter Number Product e = absurd (omega arith)
same_letter Product Rounds e = absurd (omega arith)
same_letter Product Whole e = absurd (omega arith)
same_letter Product Number e = absurd (omega arith)
same_letter Product Product e = refl

third_letter : (cause : Cause) (n : ℕ) (w : List Letter) → get_or (unknown_text cause n w) 2 0 ≡ 107
third_letter Rounds n w = omega arith
third_letter Whole n w = omega arith
third_letter Number n w = omega arith
third_letter Product n w = omega arith

-- the verdict says that nothing is known, for this cause
abbrev SaysCause : Cause → Verdict → Type 0
SaysCause cause v = (w : List Letter) × (v ≡ Unknown cause w)

of_text : (cause : Cause) (m n : ℕ) (w : List Letter) (v : Verdict) → verdict_text m v ≡ unknown_text cause n w → SaysCause cause v
of_text cause m n w (Safe coarse a) e =
    absurd (let f : get_or (verdict_text m (Safe coarse a)) 2 0 ≡ 107 = ap (λ (xs : List ℕ). get_or xs 2 0) e ∙ third_letter cause n w in let no : ⊥ = omega arith in no)
of_text cause m n w (Unsafe f) e =
    absurd (let g : get_or (verdict_text m (Unsafe f)) 2 0 ≡ 107 = ap (λ (xs : List ℕ). get_or xs 2 0) e ∙ third_letter cause n w in let no : ⊥ = omega arith in no)
of_text cause m n w (Unknown other u) e =
    let f : letter_of other ≡ letter_of cause = sym (unknown_letter other m u) ∙ ap (λ (xs : List ℕ). get_or xs 8 0) e ∙ unknown_letter cause n w in
    (u, ap (λ (c : Cause). Unknown c u) (same_letter other cause f))

-- ---- the end behind it

record EndsUnknown (t : TypedProgram) (limits : Limits) (cause : Cause) : Type 0 where
  race : Race Certificate
  word : List Letter
  legal : IsLegal automaton_in IsFeasibleFor (lowered t).automaton race.history
  meets : EndMeets automaton_in t limits race.history (ends.Unknown cause word)

ends_so : (given : Option (Entry Certificate)) (limits : Limits) (t : TypedProgram) (a : Answer) (cause : Cause) → ReportsVerdict given limits t a → SaysUnknown cause a → EndsUnknown t limits cause
ends_so given limits t a cause v s =
    let text : verdict_text (length v.race.history) v.verdict ≡ unknown_text cause s.0 s.1 = sym (ap (λ (b : Answer). b.bytes) v.is) ∙ s.2 in
    let k = of_text cause (length v.race.history) s.0 s.1 v.verdict text in
    let end : v.race.end ≡ Some (ends.Unknown cause k.0) = subst (IsVerdict t v.race) k.1 v.of_end in
    record {
      race = v.race;
      word = k.0;
      legal = subst (λ (m : Automaton). IsLegal automaton_in IsFeasibleFor m v.race.history) v.closed.race.program v.closed.legal;
      meets = subst (λ (x : Option End). IfSome x (EndMeets automaton_in t limits v.race.history)) end v.closed.race.end;
    }

pub never_rounds : RoundsAreEnough → (given : Option (Entry Certificate)) (limits : Limits) (t : TypedProgram) (a : Answer) (ws : List (List Letter)) → ReportsVerdict given limits t a →
    HasWordsAmong (lowered t).automaton ws →
    length ws ≤ limits.rounds → SaysUnknown Rounds a → ⊥
never_rounds law given limits t a ws v f le s =
    let e = ends_so given limits t a Rounds v s in
    law t limits e.race.history e.word ws f le e.legal e.meets

gap_of : (limits : Limits) (t : TypedProgram) (e : EndsUnknown t limits Whole) → HasDifferenceRows t → EndMeets automaton_in t limits e.race.history (ends.Unknown Whole e.word) → ⊥
gap_of limits t e d (no_word is n) = let no : ⊥ = cc in no
gap_of limits t e d (one_word w k s) = s.1.others (d w k.error)

pub never_whole : (given : Option (Entry Certificate)) (limits : Limits) (t : TypedProgram) (a : Answer) → ReportsVerdict given limits t a → HasDifferenceRows t → SaysUnknown Whole a → ⊥
never_whole given limits t a v d s = let e = ends_so given limits t a Whole v s in gap_of limits t e d e.meets
