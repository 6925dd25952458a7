-- What is answered to a failure: its cases exclude each other.
use Rattle.std.proofs.Common.{◌≡◌, ℕ, ℤ, List, [], ◌∷◌, ◌++◌, length, Option, refl, sym, ap, ◌∙◌, subst, arith}
use Rattle.std.specs.Prelude.{codes}
use Rattle.std.specs.Fmt.{decimal}
use Rattle.std.specs.Option.{option_to_list}
use Rattle.std.proofs.lemmas.List.{append-nil}
use Rattle.typed_tree.specs.TypedTree.{TypedProgram}
use Rattle.boogie_run.specs.Configurations.{Config}
use Rattle.boogie_run.specs.Steps.{Went, start}
use Rattle.boogie_run.specs.StepView.{line_at}
use Rattle.boogie_run.specs.declared.types.AssertId.{AssertId}
use Rattle.trace_replay.specs.declared.causes.ReplayCause.{ReplayCause}
use Rattle.trace_replay.specs.FailureText.{PlainFailure}
use Rattle.trace_replay.specs.FailureFaults.{IsFirstFault}
use Rattle.trace_replay.specs.Replays.{choices_among, Replays, IsReplayed}
use Rattle.trace_replay.specs.ReplayCauses.{HasMade, StopsAt}
use Rattle.trace_replay.proofs.FailureLaws.{failure_text_injective, no_failure_text, one_first_fault}
use Rattle.trace_replay.proofs.ReplayRuns.{GoesBy, made_by}
use Rattle.trace_replay.proofs.ReplayTurns.{Replayed, IsTurn, fails_turn, one_end}
use Rattle.trace_replay.proofs.ReplayLaws.{choices_among-append, choices_among-one, front_fits, back_fits, one_assertion_replays, replays_and_stops, one_cause}
use Rattle.text_reports.specs.ReportTexts.{Answer, answer, syntax_answer, replayed_answer, stopped_answer}
use Rattle.text_reports.specs.ReportCases.{IsFailureText, ReportsFailure, no_failure, replayed, stopped}

-- ---- where a failure fails

-- the steps before the last one
made_before : (t : TypedProgram) (n : ℕ) (choices : List ℤ) (i : ℕ) (r : Replays t n choices i) → HasMade t choices (length r.taken) r.before (option_to_list r.last)
made_before t n choices i r = record {
  taken = r.taken;
  many = refl;
  used = ap (λ zs. choices_among r.taken ++ zs) (sym (choices_among-one r.last)) ∙ sym (choices_among-append r.taken (r.last ∷ [])) ∙ r.all_used;
  leads = r.leads;
  fit = front_fits t (start t) r.taken (r.last ∷ []) r.fit;
}

last_turn : (t : TypedProgram) (n : ℕ) (choices : List ℤ) (i : ℕ) (r : Replays t n choices i) → IsTurn t r.before (option_to_list r.last) (Replayed i)
last_turn t n choices i r =
    fails_turn t r.before (option_to_list r.last) i
    (record {
      choice = r.last;
      first = sym (append-nil (option_to_list r.last));
      fit = (back_fits t (start t) r.before r.taken (r.last ∷ []) r.leads r.fit).0;
      ends = r.fails;
    })

same_went : (c d : Config) → Went c ≡ Went d → c ≡ d
same_went c d e = cc

nothing_more : (t : TypedProgram) (c d : Config) (left rest : List ℤ) (more : List (Option ℤ)) → GoesBy t c left d rest more → length more ≡ 0 → c ≡ d
nothing_more t c d left rest [] h none = same_went c d h.leads
nothing_more t c d left rest (x ∷ xs) h none = absurd (omega arith)

one_place : (t : TypedProgram) (n : ℕ) (choices : List ℤ) (i j : ℕ) (p : Replays t n choices i) (q : Replays t n choices j) → p.before ≡ q.before
one_place t n choices i j p q =
    let a = made_before t n choices i p in
    let b = made_before t n choices j q in
    let same = (one_end t choices (length p.taken) (length q.taken) p.before q.before (option_to_list p.last) (option_to_list q.last) (Replayed i) (Replayed j) a b
    (last_turn t n choices i p) (last_turn t n choices j q) (λ e. let no : ⊥ = cc in no) (λ e. let no : ⊥ = cc in no)).0 in
    let by = made_by t choices (length p.taken) (length q.taken) p.before q.before (option_to_list p.last) (option_to_list q.last) a b (omega arith) in
    nothing_more t p.before q.before (option_to_list p.last) (option_to_list q.last) by.0 by.2 (omega (arith, by.1))

-- values lead to the failure of one assertion at most
one_replay : (t : TypedProgram) (n : ℕ) (choices : List ℤ) (a b : AssertId) → IsReplayed t n choices a → IsReplayed t n choices b → replayed_answer a ≡ replayed_answer b
one_replay t n choices a b p q =
    let numbers : a.number ≡ b.number = one_assertion_replays t n choices a.number b.number p.replays q.replays in
    let lines : a.line ≡ b.line = p.line ∙ ap (line_at t) (one_place t n choices a.number b.number p.replays q.replays) ∙ sym q.line in
    λ i. answer (codes "replayed assertion " ++ (decimal (numbers i) ++ (codes " line " ++ (decimal (lines i) ++ 10 ∷ [])))) 0

-- ---- one answer

one_failure : (x : List ℕ) (f g : PlainFailure) → IsFailureText x f → IsFailureText x g → g ≡ f
one_failure x f g h k = failure_text_injective g f k.bounds h.bounds (sym k.spelled ∙ h.spelled)

pub faulty_or_not : (x : List ℕ) (line : ℕ) (f : PlainFailure) → IsFirstFault x line → IsFailureText x f → ⊥
faulty_or_not x line f fault k = no_failure_text x line fault f k.bounds k.spelled

replays_or_stops : (t : TypedProgram) (f g : PlainFailure) (id : AssertId) (step : ℕ) (cause : ReplayCause) → g ≡ f → IsReplayed t f.steps f.choices id → StopsAt t g.steps g.choices step cause → ⊥
replays_or_stops t f g id step cause same r s =
    replays_and_stops t f.steps f.choices id.number step cause r.replays (subst (λ (h : PlainFailure). StopsAt t h.steps h.choices step cause) same s)

pub failure_once : (t : TypedProgram) (x : List ℕ) (a b : Answer) → ReportsFailure t x a → ReportsFailure t x b → a ≡ b
failure_once t x a b (no_failure line fault is) (no_failure other fault' is') = is ∙ ap syntax_answer (one_first_fault x line other fault fault') ∙ sym is'
failure_once t x a b (no_failure line fault is) (replayed g id k r is') = absurd (faulty_or_not x line g fault k)
failure_once t x a b (no_failure line fault is) (stopped g step cause k s is') = absurd (faulty_or_not x line g fault k)
failure_once t x a b (replayed f id h r is) (no_failure line fault is') = absurd (faulty_or_not x line f fault h)
failure_once t x a b (replayed f id h r is) (replayed g jd k s is') =
    let mine : IsReplayed t f.steps f.choices jd = subst (λ (u : PlainFailure). IsReplayed t u.steps u.choices jd) (one_failure x f g h k) s in
    is ∙ one_replay t f.steps f.choices id jd r mine ∙ sym is'
failure_once t x a b (replayed f id h r is) (stopped g step cause k s is') = absurd (replays_or_stops t f g id step cause (one_failure x f g h k) r s)
failure_once t x a b (stopped f step cause h s is) (no_failure line fault is') = absurd (faulty_or_not x line f fault h)
failure_once t x a b (stopped f step cause h s is) (replayed g id k r is') = absurd (replays_or_stops t g f id step cause (one_failure x g f k h) r s)
failure_once t x a b (stopped f step cause h s is) (stopped g step' cause' k s' is') =
    let mine : StopsAt t f.steps f.choices step' cause' = subst (λ (u : PlainFailure). StopsAt t u.steps u.choices step' cause') (one_failure x f g h k) s' in
    let both = one_cause t f.steps f.choices step step' cause cause' s mine in
    is ∙ (λ i. stopped_answer (both.0 i) (both.1 i)) ∙ sym is'
