-- The explanation of a trace: there is one, but for its story, and with status 0 a word leads to a failure.
use Rattle.std.proofs.Common.{◌≡◌, ℕ, Bool, List, None, Some, inl, inr, ◌⊎◌, ap, sym, ◌∙◌, subst}
use Rattle.std.proofs.lemmas.Bool.{cases_order}
use Rattle.std.proofs.lemmas.Option.{none-some, same_Some}
use Rattle.boogie_tree.specs.Tree.{Declaration}
use Rattle.boogie_parse.specs.Rules.GrammarLimits.{IsProgram}
use Rattle.boogie_parse.proofs.Rules.WholeText.{one_program}
use Rattle.typed_tree.specs.TypedTree.{TypedProgram}
use Rattle.nwa_base.specs.declared.letters.Letter.{Letter}
use Rattle.nwa_base.specs.Runs.{IsAcceptingRun}
use Rattle.letter_acts.specs.Invariant.{Graph}
use Rattle.explain_top.specs.TraceStory.TraceText.{PlainTrace}
use Rattle.explain_top.specs.TraceStory.TraceFaults.{IsFirstFault}
use Rattle.explain_top.specs.TraceStory.TraceStory.{letters_of, IsTraceStory}
use Rattle.explain_top.specs.declared.trace_story.traces.TraceFault.TheVariants.{Syntax, Memory}
use Rattle.explain_top.proofs.TraceStory.TraceLaws.{trace_is_read, fault_is_memory}
use Rattle.text_reports.specs.ReportTexts.{Answer, answer, syntax_answer}
use Rattle.explain_top.specs.Report.{IsTraceText, ExplainsTrace, no_trace, no_letter, no_run, of_trace}
use Rattle.explain_top.proofs.ExplainLaws.{one_is_not_zero}

-- one line is the first that cannot stand there
one_first_fault : (x : List ℕ) (m n : ℕ) → IsFirstFault x m → IsFirstFault x n → m ≡ n
one_first_fault x m n f h = elim (cases_order m n) [ inl e ↦ e | inr w ↦ elim w [ inl less ↦ absurd (f.here (h.before m less)) | inr more ↦ absurd (h.here (f.before n more)) ] ]

syntax_or_memory : (line : ℕ) → Syntax line ≡ Memory → ⊥
syntax_or_memory line e = let no : ⊥ = cc in no

module _ (program : List ℕ) (all : Bool) (t : TypedProgram) (g : Graph) (x : List ℕ) where
  -- the answers are stories of one trace of the text
  pub record TellOne (a b : Answer) : Type 0 where
    pub tree : List Declaration
    pub trace : PlainTrace
    pub one : List ℕ
    pub other : List ℕ
    pub spelled : IsProgram program tree
    pub read : IsTraceText x trace
    pub tells_one : IsTraceStory t tree g all trace one
    pub tells_other : IsTraceStory t tree g all trace other
    pub is_one : a ≡ answer one 0
    pub is_other : b ≡ answer other 0

  faulty_or_not : (line : ℕ) (u : PlainTrace) → IsFirstFault x line → IsTraceText x u → ⊥
  faulty_or_not line u f h = syntax_or_memory line (fault_is_memory x (Syntax line) f u h.bounds h.spelled)

  one_trace : (u v : PlainTrace) → IsTraceText x u → IsTraceText x v → v ≡ u
  one_trace u v h k = trace_is_read x v k.bounds k.spelled u h.bounds h.spelled

  one_word : (u v : PlainTrace) (w z : List Letter) → IsTraceText x u → IsTraceText x v → letters_of g u.letters ≡ Some w → letters_of g v.letters ≡ Some z → z ≡ w
  one_word u v w z h k l m = same_Some z w (sym m ∙ ap (λ (s : PlainTrace). letters_of g s.letters) (one_trace u v h k) ∙ l)

  letters_or_not : (u v : PlainTrace) (w : List Letter) → IsTraceText x u → IsTraceText x v → letters_of g u.letters ≡ None → letters_of g v.letters ≡ Some w → ⊥
  letters_or_not u v w h k none l = none-some w (sym none ∙ ap (λ (s : PlainTrace). letters_of g s.letters) (sym (one_trace u v h k)) ∙ l)

  run_or_not : (u v : PlainTrace) (w : List Letter) (ds : List Declaration) (story : List ℕ) → IsTraceText x u → IsTraceText x v → letters_of g u.letters ≡ Some w →
      (((places : List ℕ) × IsAcceptingRun g.automaton w places) → ⊥) → IsTraceStory t ds g all v story → ⊥
  run_or_not u v w ds story h k l none told =
      none (told.places, subst (λ (z : List Letter). IsAcceptingRun g.automaton z told.places) (one_word u v w told.word h k l told.letters) told.run)

  pub trace_explained_once : (a b : Answer) → ExplainsTrace program all t g x a → ExplainsTrace program all t g x b → (a ≡ b) ⊎ TellOne a b
  trace_explained_once a b (no_trace line f is) (no_trace other f' is') = inl (is ∙ ap syntax_answer (one_first_fault x line other f f') ∙ sym is')
  trace_explained_once a b (no_trace line f is) (no_letter v k none is') = absurd (faulty_or_not line v f k)
  trace_explained_once a b (no_trace line f is) (no_run v w k l none is') = absurd (faulty_or_not line v f k)
  trace_explained_once a b (no_trace line f is) (of_trace v ds story k spelled told is') = absurd (faulty_or_not line v f k)
  trace_explained_once a b (no_letter u h none is) (no_trace line f is') = absurd (faulty_or_not line u f h)
  trace_explained_once a b (no_letter u h none is) (no_letter v k none' is') = inl (is ∙ sym is')
  trace_explained_once a b (no_letter u h none is) (no_run v w k l none' is') = absurd (letters_or_not u v w h k none l)
  trace_explained_once a b (no_letter u h none is) (of_trace v ds story k spelled told is') = absurd (letters_or_not u v told.word h k none told.letters)
  trace_explained_once a b (no_run u w h l none is) (no_trace line f is') = absurd (faulty_or_not line u f h)
  trace_explained_once a b (no_run u w h l none is) (no_letter v k none' is') = absurd (letters_or_not v u w k h none' l)
  trace_explained_once a b (no_run u w h l none is) (no_run v z k m none' is') = inl (is ∙ sym is')
  trace_explained_once a b (no_run u w h l none is) (of_trace v ds story k spelled told is') = absurd (run_or_not u v w ds story h k l none told)
  trace_explained_once a b (of_trace u ds story h spelled told is) (no_trace line f is') = absurd (faulty_or_not line u f h)
  trace_explained_once a b (of_trace u ds story h spelled told is) (no_letter v k none is') = absurd (letters_or_not v u told.word k h none told.letters)
  trace_explained_once a b (of_trace u ds story h spelled told is) (no_run v w k l none is') = absurd (run_or_not v u w ds story k h l none told)
  trace_explained_once a b (of_trace u ds story h spelled told is) (of_trace v es other k spelled' told' is') =
      let trees : es ≡ ds = one_program program es ds spelled' spelled in
      let mine : IsTraceStory t ds g all v other = subst (λ (us : List Declaration). IsTraceStory t us g all v other) trees told' in
      inr (record {
        tree = ds;
        trace = u;
        one = story;
        other = other;
        spelled = spelled;
        read = h;
        tells_one = told;
        tells_other = subst (λ (s : PlainTrace). IsTraceStory t ds g all s other) (one_trace u v h k) mine;
        is_one = is;
        is_other = is';
      })

  -- with status 0 a run is told
  pub told_leads : (a : Answer) → ExplainsTrace program all t g x a → a.status ≡ 0 → (w : List Letter) × (places : List ℕ) × IsAcceptingRun g.automaton w places
  told_leads a (no_trace line f is) zero = absurd (one_is_not_zero a (ap (λ (b : Answer). b.status) is) zero)
  told_leads a (no_letter u h none is) zero = absurd (one_is_not_zero a (ap (λ (b : Answer). b.status) is) zero)
  told_leads a (no_run u w h l none is) zero = absurd (one_is_not_zero a (ap (λ (b : Answer). b.status) is) zero)
  told_leads a (of_trace u ds story h spelled told is) zero = (told.word, told.places, told.run)
