-- What a verdict is worth, and that it can be written.
use Rattle.std.proofs.Common.{◌≡◌, ◌+◌, ◌≤◌, ℕ, List, length, ◌∷◌, [], Option, None, ap, sym, ◌∙◌, subst, arith}
use Rattle.std.specs.Prelude.{Result, Ok, Err, IfOk, IfSome}
use Rattle.std.specs.declared.alloc.AllocError.{AllocError}
use Rattle.nwa_base.specs.Acceptance.{Accepts}
use Rattle.letter_acts.specs.Invariant.{Graph, IsGraph}
use Rattle.letter_acts.specs.Kept.{Keeps}
use Rattle.typed_tree.specs.TypedTree.{TypedProgram}
use Rattle.lowered_graph.specs.Lowered.{lowered}
use Rattle.proof_check.specs.Proves.{Proves}
use Rattle.proof_check.proofs.ProvedLaws.{proved_infeasible}
use Rattle.race_core.specs.Histories.{IsLegal}
use Rattle.race_core.specs.Histories as histories
use Rattle.race_core.specs.declared.events.Entry.{Entry}
use Rattle.race_core.specs.Races.{Race}
use Rattle.itp_automaton.specs.Certified.{Certificate, IsFeasibleFor}
use Rattle.race_rounds.specs.declared.limits.Limits.{Limits}
use Rattle.race_rounds.specs.Rounds.{automaton_in, IsGiven, IsRaceOf}
use Rattle.race_verdicts.specs.declared.verdicts.Verdict.{Verdict}
use Rattle.race_verdicts.specs.declared.verdicts.Verdict.TheVariants.{Safe, Unsafe, Unknown}
use Rattle.race_verdicts.specs.Verdicts.{IsVerdict}
use Rattle.race_verdicts.specs.Texts.{verdict_text, ChoicesFit}
use Rattle.automizer_top.specs.Verdicts.{verdict_status}
use Rattle.automizer_top.specs.Report.{second_limit, IsTypedText, ReportsVerdict, ReportsVerify, of_typed, of_lowered}
use Rattle.text_reports.specs.Answers.{IsGraphOf, HasNoErrorWord, TextIsSafe}
use Rattle.automizer_top.specs.Ties.Answers.{answered}
use Rattle.automizer_top.specs.Ties.EarlierViews.{IsGivenOver}
use Rattle.automizer_top.specs.declared.answer.Answer as code
use Rattle.text_reports.proofs.TextLaws.{text_is_safe}

kept_graph : (g : Graph) → Keeps g → IsGraph g
unfolding Keeps
kept_graph g k = k

-- an entry with which a race over the program may begin is one for its graph
pub given_over : (t : TypedProgram) (g : Graph) (first : Option (Entry Certificate)) → g ≡ lowered t → IfSome first (IsGivenOver t) →
    IfSome first (λ e. Accepts g.automaton e.word × IsGiven t e)
given_over t g first same h = subst (λ (x : Graph). IfSome first (λ e. Accepts x.automaton e.word × IsGiven t e)) (sym same) h

-- the values of a verdict's failure fit
pub fits : (t : TypedProgram) (r : Race Certificate) (v : Verdict) → IsVerdict t r v → ChoicesFit v
fits t r (Safe coarse a) h = tt
fits t r (Unsafe f) h = h.failure.bounds.choices
fits t r (Unknown cause w) h = tt

pub reports : (given : Option (Entry Certificate)) (limits : Limits) (t : TypedProgram) (r : Race Certificate) (v : Verdict) (text : List ℕ) (left rounds : ℕ) →
    IsRaceOf t given limits r → IsVerdict t r v →
    IsLegal automaton_in IsFeasibleFor r.program r.history → histories.Keeps automaton_in r.program r.history r.kept → left + length r.history ≡ r.limit → rounds ≡ length r.history → text ≡ verdict_text rounds v →
    ReportsVerdict given limits t (record { bytes = text; status = verdict_status v; races = r ∷ [] })
reports given limits t r v text left rounds race of_end legal kept room n same_text = record {
  race = r;
  verdict = v;
  closed = record { race = race; legal = legal; kept = kept; within = let l = race.limit in omega (arith, room, l) };
  of_end = of_end;
  is = λ i. record { bytes = (same_text ∙ ap (λ (k : ℕ). verdict_text k v) n) i; status = verdict_status v; races = r ∷ [] };
}

-- the graph of a program that is said to be safe has no feasible error word
pub safe_is_infeasible : (t : TypedProgram) (g : Graph) (r : Race Certificate) (v : Verdict) → IsGraphOf t g → Keeps g → IsVerdict t r v → verdict_status v ≡ 0 → HasNoErrorWord g
safe_is_infeasible t g r (Safe coarse a) h k s z = proved_infeasible g a (kept_graph g k) s.2 (subst (λ (x : Graph). Proves x a) (sym h.value) s.1)
safe_is_infeasible t g r (Unsafe f) h k s z = absurd (omega arith)
safe_is_infeasible t g r (Unknown cause w) h k s z = absurd (omega arith)

-- ---- what was decided, of a text

pub decided_reported : (entry : List ℕ) (l : Limits) (text : List ℕ) (t : TypedProgram) (g : Graph) (r : Result code.Answer AllocError) → IsTypedText entry text t → IsGraphOf t g →
    IfOk r (λ a. ReportsVerdict None l t (answered a)) → IfOk r (λ a. length (answered a).bytes ≤ second_limit) → IfOk r (λ a. ReportsVerify entry l text (answered a))
decided_reported entry l text t g (Ok a) w h v few = of_typed t w (of_lowered h.fits (v, few))
decided_reported entry l text t g (Err e) w h v few = tt

pub decided_is_safe : {E : Type 0} (entry text : List ℕ) (t : TypedProgram) (g : Graph) (r : Result code.Answer E) → IsTypedText entry text t → IsGraphOf t g →
    IfOk r (λ a. (answered a).status ≡ 0 → HasNoErrorWord g) → IfOk r (λ a. (answered a).status ≡ 0 → TextIsSafe entry text)
decided_is_safe entry text t g (Ok a) w h s = λ z. text_is_safe entry text t g w h (s z)
decided_is_safe entry text t g (Err e) w h s = tt
