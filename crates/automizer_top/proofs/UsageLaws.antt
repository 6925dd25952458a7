-- The status 4 is that of faulty words alone.
use Rattle.std.proofs.Common.{◌≡◌, ℕ, List, Option, None, Some, Ok, Err, ap, sym, ◌∙◌, arith}
use Rattle.std.specs.Prelude.{◌≢◌, Result, IfOk, option_map}
use Rattle.std.proofs.lemmas.Option.{none-some}
use Rattle.typed_tree.specs.TypedTree.{TypedProgram}
use Rattle.race_rounds.specs.declared.limits.Limits.{Limits}
use Rattle.race_verdicts.specs.declared.verdicts.Verdict.{Verdict}
use Rattle.race_verdicts.specs.declared.verdicts.Verdict.TheVariants.{Safe, Unsafe, Unknown}
use Rattle.text_reports.specs.declared.answers.TextAnswer.{TextAnswer}
use Rattle.text_reports.specs.Answers.{answer_of}
use Rattle.automizer_top.specs.declared.answer.Answer as code
use Rattle.text_reports.specs.declared.reading.Halt.{Halt}
use Rattle.automizer_top.specs.declared.words.Mode.{Mode}
use Rattle.automizer_top.specs.declared.words.Task.{Task}
use Rattle.automizer_top.specs.declared.words.Task.TheVariants as tasks
use Rattle.automizer_top.specs.declared.words.Request as read
use Rattle.automizer_top.specs.CommandLine.{Request, Big, requested}
use Rattle.automizer_top.specs.Ties.Asked.{asked, task, settings}
use Rattle.automizer_top.specs.Ties.Answers.{answered, Asks}
use Rattle.automizer_top.specs.Verdicts.{verdict_status}
use Rattle.text_reports.specs.ReportTexts.{Answer}
use Rattle.automizer_top.specs.Report.{Ask, RefusesTyped, refused, of_typed, RefusesLowering, unlowered, of_lowered, ReportsVerify, ReportsBig}
use Rattle.modular_cut.specs.Parts.{PlainPart, parts_of}
use Rattle.automizer_top.specs.Earlier.{ReportsReuse, no_earlier, of_earlier}
use Rattle.automizer_top.specs.Parts.{free, of_parts, part_unlowered, parts_lowered, ReportsParts, all_safe, one_is_not, ReportsVerifyParts}
use Rattle.text_reports.proofs.RefusalLaws.{typed_is_three, lowering_is_three}
use Rattle.text_reports.proofs.TextLaws.{below_four}

-- an answer of another status does not have the status 4
not_three : (n : ℕ) → n ≡ 3 → n ≢ 4
not_three n e = λ f. omega (arith, e, f)

not_one : (n : ℕ) → n ≡ 1 → n ≢ 4
not_one n e = λ f. omega (arith, e, f)

not_zero : (n : ℕ) → n ≡ 0 → n ≢ 4
not_zero n e = λ f. omega (arith, e, f)

abbrev status_of : Answer → ℕ
status_of a = a.status

-- no answer to a text has it
pub on_text_not_four : (a : TextAnswer) → (answer_of a).status ≢ 4
on_text_not_four a = λ e. let b = below_four a in omega (arith, b, e)

pub typed_not_four : (entry text : List ℕ) (a : Answer) → RefusesTyped entry text a → a.status ≢ 4
typed_not_four entry text a r = not_three a.status (typed_is_three entry text a r)

pub lowering_not_four : (t : TypedProgram) (a : Answer) → RefusesLowering t a → a.status ≢ 4
lowering_not_four t a r = not_three a.status (lowering_is_three t a r)

verdict_not_four : (v : Verdict) → verdict_status v ≢ 4
verdict_not_four (Safe coarse a) = λ e. omega (arith, e)
verdict_not_four (Unsafe f) = λ e. omega (arith, e)
verdict_not_four (Unknown cause w) = λ e. omega (arith, e)

pub verify_not_four : (entry : List ℕ) (l : Limits) (text : List ℕ) (a : Answer) → ReportsVerify entry l text a → a.status ≢ 4
verify_not_four entry l text a (refused r) = typed_not_four entry text a r
verify_not_four entry l text a (of_typed t w (unlowered r)) = lowering_not_four t a r
verify_not_four entry l text a (of_typed t w (of_lowered none (v, few))) = λ e. verdict_not_four v.verdict (sym (ap status_of v.is) ∙ e)

-- with an earlier annotation
pub reuse_not_four : (l : Limits) (t : TypedProgram) (text : List ℕ) (a : Answer) → ReportsReuse l t text a → a.status ≢ 4
reuse_not_four l t text a (no_earlier line wrong is) = not_one a.status (ap status_of is)
reuse_not_four l t text a (of_earlier coarse old c given spelled reused first v few) = λ e. verdict_not_four v.verdict (sym (ap status_of v.is) ∙ e)

-- the same by parts
parts_not_four : (l : Limits) (ps : List PlainPart) (a : Answer) → ReportsParts l ps a → a.status ≢ 4
parts_not_four l ps a (all_safe bs h is) = not_zero a.status (ap status_of is)
parts_not_four l ps a (one_is_not before after p bs b same h v other is) = λ e. verdict_not_four v.verdict (sym (ap status_of is ∙ ap status_of v.is) ∙ e)

pub verify_parts_not_four : (entry : List ℕ) (l : Limits) (text : List ℕ) (a : Answer) → ReportsVerifyParts entry l text a → a.status ≢ 4
verify_parts_not_four entry l text a (refused r) = typed_not_four entry text a r
verify_parts_not_four entry l text a (of_typed t w (free at first is)) = not_three a.status (ap status_of is)
verify_parts_not_four entry l text a (of_typed t w (of_parts none (part_unlowered f first is))) = not_three a.status (ap status_of is)
verify_parts_not_four entry l text a (of_typed t w (of_parts none (parts_lowered lowers (v, few)))) = parts_not_four l (parts_of t) a v

-- what was read of the words is what they ask for
pub asks_by : (words : List (List ℕ)) (o : Option read.Request) (q : read.Request) → o ≡ Some q → option_map asked o ≡ requested words → requested words ≡ Some (asked q)
asks_by words o q is e = sym e ∙ ap (option_map asked) is

-- the words ask for something, and the answer has another status
abbrev pub IsUsage : List (List ℕ) → ℕ → Type 0
IsUsage words status = (status ≡ 4 → requested words ≡ None) × (requested words ≡ None → status ≡ 4)

pub used : (words : List (List ℕ)) (q : Request) (status : ℕ) → requested words ≡ Some q → status ≢ 4 → IsUsage words status
used words q status ask other = (λ e. absurd (other e), λ none. absurd (none-some q (sym none ∙ ask)))

pub used_by_code : (words : List (List ℕ)) (q : Request) (r : Result code.Answer Halt) → requested words ≡ Some q → IfOk r (λ a. (answered a).status ≢ 4) →
    IfOk r (λ a. IsUsage words (answered a).status)
used_by_code words q (Ok a) ask other = used words q (answered a).status ask other
used_by_code words q (Err e) ask other = tt

pub used_by_verify : (words : List (List ℕ)) (q : Request) (entry : List ℕ) (l : Limits) (text : List ℕ) (a : Answer) → requested words ≡ Some q →
    ReportsVerify entry l text a → IsUsage words a.status
used_by_verify words q entry l text a ask r = used words q a.status ask (verify_not_four entry l text a r)

pub used_by_summary : (words : List (List ℕ)) (q : Request) (l : Limits) (count : ℕ) (a : Answer) → requested words ≡ Some q → ReportsBig l count a → IsUsage words a.status
used_by_summary words q l count a ask r = used words q a.status ask (λ e. verdict_not_four r.verdict (sym (ap status_of r.is) ∙ e))

-- ---- what was read of the words, by its task

pub asks_texts : (words : List (List ℕ)) (q : read.Request) (mode : Mode) → q.task ≡ tasks.Texts mode → requested words ≡ Some (asked q) → Asks words mode q.options
asks_texts words q mode is ask = ask ∙ ap (λ (x : Task). Some (record { task = task x; settings = settings q.options })) is

pub asks_big : (words : List (List ℕ)) (q : read.Request) (count : ℕ) → q.task ≡ tasks.Generated count → requested words ≡ Some (asked q) → Ask words (settings q.options) (Big count)
asks_big words q count is ask = ask ∙ ap (λ (x : Task). Some (record { task = task x; settings = settings q.options })) is
