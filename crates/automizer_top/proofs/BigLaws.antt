-- The generated program: its report, and that it is safe where the verdict says so.
use Rattle.std.proofs.Common.{◌≡◌, ℕ, ◌+◌, List, [], ◌∷◌, length, Option, None, Some, Err, inl, inr, ◌⊎◌, ap, refl, sym, ◌∙◌, subst, arith}
use Rattle.std.specs.Prelude.{Result, Ok, IfOk, IsErr, IfSome, codes}
use Rattle.std.proofs.lemmas.Option.{none-some}
use Rattle.boogie_run.specs.RunRules.Runs.{IsSafe}
use Rattle.letter_acts.specs.Invariant.{Graph}
use Rattle.boogie_tree.specs.Tree.{Declaration}
use Rattle.typed_tree.specs.TypedTree.{TypedProgram}
use Rattle.typed_tree.specs.declared.fault.TypeFault.{TypeFault}
use Rattle.typed_tree.specs.declared.fault.TypeFault.TheVariants as type_faults
use Rattle.boogie_types.specs.Resolved.{resolved_program}
use Rattle.lowered_graph.specs.Items.{first_fault}
use Rattle.proof_check.specs.Proves.{Proves}
use Rattle.race_core.specs.Histories.{Keeps, IsLegal}
use Rattle.race_core.specs.Races.{Race}
use Rattle.itp_automaton.specs.Certified.{Certificate, IsFeasibleFor}
use Rattle.race_rounds.specs.declared.limits.Limits.{Limits}
use Rattle.race_rounds.specs.Rounds.{automaton_in, IsRaceOf}
use Rattle.race_verdicts.specs.declared.verdicts.Verdict.{Verdict}
use Rattle.race_verdicts.specs.declared.verdicts.Verdict.TheVariants.{Safe, Unsafe, Unknown}
use Rattle.race_verdicts.specs.Verdicts.{IsVerdict}
use Rattle.automizer_top.specs.GeneratedProgram.Generated.{generated}
use Rattle.automizer_top.specs.GeneratedProgram.Laws.{IsTyped}
use Rattle.automizer_top.specs.Verdicts.{verdict_status}
use Rattle.automizer_top.specs.Summary.{summary_text}
use Rattle.automizer_top.specs.declared.answer.Answer as code
use Rattle.text_reports.specs.declared.reading.Halt.{Halt}
use Rattle.automizer_top.specs.declared.words.Mode.{Mode}
use Rattle.automizer_top.specs.declared.words.Mode.TheVariants as modes
use Rattle.automizer_top.specs.declared.words.Options as read
use Rattle.automizer_top.specs.CommandLine.{Check, Replay, Print, Verify, Big, Lasso, Ranked, Settings}
use Rattle.text_reports.specs.Answers.{IsGraphOf, HasNoErrorWord}
use Rattle.automizer_top.specs.Ties.Answers.{answered, Asks, VerdictProves, CheckedIsSafe, VerifiedIsSafe, BuiltIsSafe}
use Rattle.automizer_top.specs.Ties.Asked.{settings}
use Rattle.text_reports.specs.ReportTexts.{Answer}
use Rattle.automizer_top.specs.ReportTexts.{verdict_answer, summary_answer}
use Rattle.automizer_top.specs.Report.{Ask, Reports, generating, ReportsBig, ReportsVerdict, RefusesLowering}
use Rattle.automizer_top.proofs.RequestLaws.{same_task, only_one}
use Rattle.text_reports.proofs.SafetyLaws.{graph_is_safe}

pub summary_reported : (limits : Limits) (count : ℕ) (t : TypedProgram) (r : Race Certificate) (v : Verdict) (text : List ℕ) (left : ℕ) →
    resolved_program (generated count) (codes "main") ≡ Some t → first_fault t ≡ None → IsRaceOf t None limits r → IsVerdict t r v →
    IsLegal automaton_in IsFeasibleFor r.program r.history → Keeps automaton_in r.program r.history r.kept → left + length r.history ≡ r.limit → text ≡ summary_text count v →
    ReportsBig limits count (record { bytes = text; status = verdict_status v; races = r ∷ [] })
summary_reported limits count t r v text left typed lowers race of_end legal kept room same_text = record {
  program = t;
  typed = typed;
  lowers = lowers;
  race = r;
  verdict = v;
  closed = record { race = race; legal = legal; kept = kept; within = let l = race.limit in omega (arith, room, l) };
  of_end = of_end;
  is = λ i. record { bytes = same_text i; status = verdict_status v; races = r ∷ [] };
}

-- a verdict's annotation proves the graph of the program
pub verdict_is_proved : (t : TypedProgram) (g : Graph) (r : Race Certificate) (v : Verdict) → IsGraphOf t g → IsVerdict t r v → VerdictProves g v
verdict_is_proved t g r (Safe coarse a) h of_end = subst (λ (x : Graph). Proves x a) (sym h.value) of_end.1
verdict_is_proved t g r (Unsafe f) h of_end = tt
verdict_is_proved t g r (Unknown cause w) h of_end = tt

memory_of_two : {A : Type 0} (r : Result A TypeFault) (f : TypeFault) (count : ℕ) (ds : List Declaration) → r ≡ Err f → ds ≡ generated count → IsTyped count →
    (r ≡ Err type_faults.Memory) ⊎ (resolved_program ds (codes "main") ≡ None) → f ≡ type_faults.Memory
memory_of_two r f count ds is same typed (inl memory) = cc
memory_of_two r f count ds is same typed (inr none) =
    absurd (none-some typed.1.0 (sym none ∙ (ap (λ (xs : List Declaration). resolved_program xs (codes "main")) same ∙ typed.1.1)))

-- nothing but want of memory is said against a program that is typed
pub only_memory : {A : Type 0} (r : Result A TypeFault) (f : TypeFault) (count : ℕ) (ds : List Declaration) → r ≡ Err f → ds ≡ generated count → IsTyped count →
    (IsErr r → (r ≡ Err type_faults.Memory) ⊎ (resolved_program ds (codes "main") ≡ None)) → f ≡ type_faults.Memory
only_memory (Ok x) f count ds is same typed only = cc
only_memory (Err e) f count ds is same typed only = memory_of_two (Err e) f count ds is same typed (only refl)

-- a program that can be lowered has a graph
pub never_refused : (t : TypedProgram) (a : Answer) → first_fault t ≡ None → RefusesLowering t a → ⊥
never_refused t a lowers h = none-some h.fault (sym lowers ∙ h.first)

one_program : (count : ℕ) (t u : TypedProgram) → resolved_program (generated count) (codes "main") ≡ Some t → resolved_program (generated count) (codes "main") ≡ Some u → t ≡ u
one_program count t u e f =
    let same : Some t ≡ Some u = sym e ∙ f in
    cc

pub big_is_safe : (count : ℕ) (t : TypedProgram) (g : Graph) → resolved_program (generated count) (codes "main") ≡ Some t → IsGraphOf t g → HasNoErrorWord g →
    (u : TypedProgram) → resolved_program (generated count) (codes "main") ≡ Some u → IsSafe u
big_is_safe count t g typed h none u other = subst IsSafe (one_program count t u typed other) (graph_is_safe t g h none)

-- a summary is of a verdict that could be told
pub summary_is_verdict : (l : Limits) (count : ℕ) (a : Answer) → ReportsBig l count a →
    (t : TypedProgram) × (r : Race Certificate) × (v : Verdict) × (resolved_program (generated count) (codes "main") ≡ Some t) × ReportsVerdict None l t (verdict_answer r v)
    × (a ≡ summary_answer count r v)
summary_is_verdict l count a big = (
  big.program,
  big.race,
  big.verdict,
  big.typed,
  record { race = big.race; verdict = big.verdict; closed = big.closed; of_end = big.of_end; is = refl },
  big.is,
)

-- ---- the report

abbrev Texts : Type 0
Texts = List (List ℕ × List ℕ)

pub big_reported : (words : List (List ℕ)) (s : Settings) (count : ℕ) (a : Answer) (texts : Option Texts) → Ask words s (Big count) → ReportsBig s.limits count a →
    IfSome texts (λ shown. Reports words shown a)
big_reported words s count a None asked big = tt
big_reported words s count a (Some shown) asked big = generating s count asked big

-- words that ask for the generated program ask for no check and for no verdict
pub no_check : (words : List (List ℕ)) (s : Settings) (count : ℕ) (texts : Option Texts) → Ask words s (Big count) → IfSome texts (λ shown. CheckedIsSafe words shown)
no_check words s count None asked = tt
no_check words s count (Some shown) asked = λ t k. absurd (only_one words s k.settings (Big count) (Check k.program k.second) asked k.asked (λ (e : 4 ≡ 0). omega arith))

pub no_verdict : (words : List (List ℕ)) (s : Settings) (count : ℕ) (texts : Option Texts) → Ask words s (Big count) → IfSome texts (λ shown. VerifiedIsSafe words shown)
no_verdict words s count None asked = tt
no_verdict words s count (Some shown) asked = λ t k. absurd (only_one words s k.settings (Big count) (Verify k.program) asked k.asked (λ (e : 4 ≡ 3). omega arith))

one_count : (m n : ℕ) → Big m ≡ Big n → m ≡ n
one_count m n e = cc

pub big_built : (words : List (List ℕ)) (s : Settings) (count : ℕ) (a : Answer) → Ask words s (Big count) →
    (a.status ≡ 0 → (t : TypedProgram) → resolved_program (generated count) (codes "main") ≡ Some t → IsSafe t) → a.status ≡ 0 → BuiltIsSafe words
big_built words s count a asked safe z = λ u other t asked' typed.
    let same : other ≡ count = sym (one_count count other (same_task words s u (Big count) (Big other) asked asked')) in
    safe z t (subst (λ (n : ℕ). resolved_program (generated n) (codes "main") ≡ Some t) same typed)

-- words that ask for something with texts do not ask for the generated program
not_big : (words : List (List ℕ)) (mode : Mode) (o : read.Options) (s : Settings) (count : ℕ) → Asks words mode o → Ask words s (Big count) → ⊥
not_big words (modes.Check program second) o s count ask big = only_one words (settings o) s (Check program.now second.now) (Big count) ask big (λ (e : 0 ≡ 4). omega arith)
not_big words (modes.Replay program second) o s count ask big = only_one words (settings o) s (Replay program.now second.now) (Big count) ask big (λ (e : 1 ≡ 4). omega arith)
not_big words (modes.Print program) o s count ask big = only_one words (settings o) s (Print program.now) (Big count) ask big (λ (e : 2 ≡ 4). omega arith)
not_big words (modes.Verify program) o s count ask big = only_one words (settings o) s (Verify program.now) (Big count) ask big (λ (e : 3 ≡ 4). omega arith)
not_big words (modes.Lasso program second) o s count ask big = only_one words (settings o) s (Lasso program.now second.now) (Big count) ask big (λ (e : 5 ≡ 4). omega arith)
not_big words (modes.Ranked program second) o s count ask big = only_one words (settings o) s (Ranked program.now second.now) (Big count) ask big (λ (e : 6 ≡ 4). omega arith)

pub unbuilt : (words : List (List ℕ)) (mode : Mode) (o : read.Options) (r : Result code.Answer Halt) → Asks words mode o →
    IfOk r (λ a. (answered a).status ≡ 0 → BuiltIsSafe words)
unbuilt words mode o (Err e) ask = tt
unbuilt words mode o (Ok a) ask = λ z s count t big typed. absurd (not_big words mode o s count ask big)
