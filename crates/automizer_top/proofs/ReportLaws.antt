-- Cases of the report, and what an accepted annotation is worth.
use Rattle.std.proofs.lemmas.List.{length-append}
use Rattle.std.proofs.Common.{◌≡◌, ℕ, zero, suc, ◌+◌, ◌<◌, ◌≤◌, List, [], ◌∷◌, ◌++◌, length, get_or, take, Bool, true, false, Option, None, Some, Err, ap, refl, sym, ◌∙◌, subst, arith, ◌⊎◌, inl, inr}
use Rattle.std.specs.Prelude.{Result, Ok, IfOk, IfSome, IsSome, codes}
use Rattle.std.specs.Borrow.{Bor}
use Rattle.outer_io.specs.Texts.{text_named, GainsFront}
use Rattle.typed_tree.specs.TypedTree.{TypedProgram}
use Rattle.lowered_graph.specs.Lowered.{lowered}
use Rattle.race_rounds.specs.declared.limits.Limits.{Limits}
use Rattle.automizer_top.specs.declared.answer.Answer as code
use Rattle.text_reports.specs.declared.reading.Halt.{Halt}
use Rattle.automizer_top.specs.declared.words.Mode.{Mode}
use Rattle.automizer_top.specs.declared.words.Mode.TheVariants as modes
use Rattle.automizer_top.specs.declared.words.Options.{Options}
use Rattle.automizer_top.specs.CommandLine.{Task, Check, Replay, Print, Verify, Lasso, Ranked, Settings}
use Rattle.automizer_top.specs.Ties.Asked.{of_texts, settings, program_name}
use Rattle.text_reports.specs.Answers.{TextIsSafe}
use Rattle.automizer_top.specs.Ties.Answers.{answered, Asks, CheckedIsSafe, VerifiedIsSafe, BuiltIsSafe, RankedIsGraph}
use Rattle.text_reports.specs.ReportTexts.{Answer, too_long_answer, accepted_answer}
use Rattle.automizer_top.specs.Report.{program_limit, Ask, too_long, ReportsPrint, refused_print, printed, RefusesTyped, refused_text, IsTypedText, refused, of_typed, unlowered, of_lowered, second_too_long, of_second, ReportsCheck, ReportsFailure, no_failure, replayed, stopped, ReportsReplay, ReportsVerify, ReportsCheckBy, ReportsReplayBy, ReportsVerifyBy, Reports, usage, printing, checking, replaying, verifying, seeking, ranking, generating}
use Rattle.automizer_top.specs.Earlier.{ReportsReuse, no_earlier, of_earlier, ReportsVerifyWith}
use Rattle.automizer_top.specs.PartClaims.{PartFails}
use Rattle.automizer_top.specs.RankingClaims.{AskedLassoEnds, RankedLassoEnds}
use Rattle.automizer_top.specs.ReportClaims.{GeneratedIsSafe, PrintsProgram, AsksForCheck, AsksForVerdict, ProgramIsSafe, ProgramFails, WhereTold}
use Rattle.automizer_top.proofs.PrintedTexts.{begins_otherwise}
use Rattle.automizer_top.proofs.VerdictTexts.{verdict_begins}
use Rattle.text_reports.proofs.RefusalLaws.{typed_is_not_zero, lowering_is_not_zero, refused_is_not_zero, too_long_is_not_zero, IsAccepted, proof_zero, second_letter, e_is_not_c, typed_begins, lowering_begins, refused_begins, too_long_begins, proof_begins, failure_begins}
use Rattle.automizer_top.proofs.PartAnswers.{verify_parts_zero, verify_parts_begins, check_parts_zero, check_parts_begins, replay_parts_zero, replay_parts_begins}
use Rattle.automizer_top.proofs.RankingLaws.{lasso_zero, lasso_begins, ranked_zero, ranked_begins}
use Rattle.automizer_top.proofs.RequestLaws.{only_one, program_of, same_task, same_settings}

abbrev Texts : Type 0
Texts = List (List ℕ × List ℕ)

-- what holds of all texts holds of those that are told
pub told : (P : Texts → Type 0) (texts : Option Texts) → ((shown : Texts) → P shown) → IfSome texts P
told P None h = tt
told P (Some shown) h = h shown

-- ---- what is answered to words

-- a program text that is refused is so by parts, too
refused_check : (m : Bool) (entry text : List ℕ) (second : Option (List ℕ)) (a : Answer) → RefusesTyped entry text a → ReportsCheckBy m entry text second a
refused_check false entry text second a r = refused r
refused_check true entry text second a r = refused r

refused_replay : (m : Bool) (entry text : List ℕ) (second : Option (List ℕ)) (a : Answer) → RefusesTyped entry text a → ReportsReplayBy m entry text second a
refused_replay false entry text second a r = refused r
refused_replay true entry text second a r = refused r

refused_verify : (m : Bool) (reuse : Option (List ℕ)) (texts : Texts) (entry : List ℕ) (l : Limits) (text : List ℕ) (a : Answer) → RefusesTyped entry text a →
    ReportsVerifyBy m reuse texts entry l text a
refused_verify false None texts entry l text a r = refused r
refused_verify false (Some old) texts entry l text a r = refused r
refused_verify true reuse texts entry l text a r = refused r

-- a program text that is past its limit is refused, whatever the words ask for
too_long_asked : (words : List (List ℕ)) (mode : Mode) (o : Options) (text : List ℕ) (shown : List (List ℕ × List ℕ)) → Asks words mode o →
    text_named (program_name mode) shown ≡ Some text → program_limit < length text → Reports words shown too_long_answer
too_long_asked words (modes.Check program second) o text shown ask e past =
    checking (settings o) program.now second.now text ask e (refused_check o.modular o.entry.now text (text_named second.now shown) too_long_answer (refused_text (too_long past refl)))
too_long_asked words (modes.Replay program second) o text shown ask e past =
    replaying (settings o) program.now second.now text ask e (refused_replay o.modular o.entry.now text (text_named second.now shown) too_long_answer (refused_text (too_long past refl)))
too_long_asked words (modes.Print program) o text shown ask e past = printing (settings o) program.now text ask e (refused_print (too_long past refl))
too_long_asked words (modes.Verify program) o text shown ask e past =
    verifying (settings o) program.now text ask e (refused_verify o.modular (settings o).reuse shown o.entry.now o.limits text too_long_answer (refused_text (too_long past refl)))
too_long_asked words (modes.Lasso program second) o text shown ask e past = seeking (settings o) program.now second.now text ask e (refused (refused_text (too_long past refl)))
too_long_asked words (modes.Ranked program second) o text shown ask e past = ranking (settings o) program.now second.now text ask e (refused (refused_text (too_long past refl)))

-- the program text is past its limit
pub program_reported : (words : List (List ℕ)) (mode : Mode) (o : Options) (name : List ℕ) (texts : Option (List (List ℕ × List ℕ))) → Asks words mode o → name ≡ program_name mode →
    IfSome texts (λ shown. IsSome (text_named name shown) × IfSome (text_named name shown) (λ text. program_limit < length text)) →
    IfSome texts (λ shown. Reports words shown too_long_answer)
program_reported words mode o name None ask same h = tt
program_reported words mode o name (Some shown) ask same h = by_text (text_named name shown) refl h.0 h.1
  where
    by_text : (found : Option (List ℕ)) → text_named name shown ≡ found → IsSome found → IfSome found (λ text. program_limit < length text) →
        Reports words shown too_long_answer
    by_text None e some past = cc
    by_text (Some text) e some past =
        too_long_asked words mode o text shown ask (ap (λ (n : List ℕ). text_named n shown) (sym same) ∙ e) past

-- the words ask for this, where the mode is known
pub asks_for : (words : List (List ℕ)) (mode known : Mode) (o : Options) → Asks words mode o → mode ≡ known → Asks words known o
asks_for words mode known o ask is = subst (λ (m : Mode). Asks words m o) is ask

-- the text of that name, where the mode is known
pub text_of : (mode known : Mode) (name text : List ℕ) (shown : Texts) → mode ≡ known → name ≡ program_name mode → text_named name shown ≡ Some text →
    text_named (program_name known) shown ≡ Some text
text_of mode known name text shown is same h = ap (λ (n : List ℕ). text_named n shown) (sym (same ∙ ap program_name is)) ∙ h

-- the program text was read, and is to be checked
check_reported : (words : List (List ℕ)) (mode : Mode) (o : Options) (program second : Bor (List ℕ)) (name text : List ℕ) (a : Answer) (texts : Option (List (List ℕ × List ℕ))) →
    Asks words mode o → mode ≡ modes.Check program second → name ≡ program_name mode →
    IfSome texts (λ shown. (text_named name shown ≡ Some text) × (length text ≤ program_limit)) →
    IfSome texts (λ shown. ReportsCheckBy o.modular o.entry.now text (text_named second.now shown) a) → IfSome texts (λ shown. Reports words shown a)
check_reported words mode o program second name text a None ask is same h r = tt
check_reported words mode o program second name text a (Some shown) ask is same h r =
    checking (settings o) program.now second.now text (asks_for words mode (modes.Check program second) o ask is)
    (text_of mode (modes.Check program second) name text shown is same h.0) r

-- and this is what the code answered
pub check_answered : (words : List (List ℕ)) (mode : Mode) (o : Options) (program second : Bor (List ℕ)) (name text : List ℕ) (r : Result code.Answer Halt) (texts : Option (List (List ℕ × List ℕ))) →
    Asks words mode o → mode ≡ modes.Check program second → name ≡ program_name mode →
    IfSome texts (λ shown. (text_named name shown ≡ Some text) × (length text ≤ program_limit)) →
    IfOk r (λ a. IfSome texts (λ shown. ReportsCheckBy o.modular o.entry.now text (text_named second.now shown) (answered a))) →
    IfOk r (λ a. IfSome texts (λ shown. Reports words shown (answered a)))
check_answered words mode o program second name text (Ok a) texts ask is same h r = check_reported words mode o program second name text (answered a) texts ask is same h r
check_answered words mode o program second name text (Err e) texts ask is same h r = tt

-- the program text was read, and a failure is to be replayed
replay_reported : (words : List (List ℕ)) (mode : Mode) (o : Options) (program second : Bor (List ℕ)) (name text : List ℕ) (a : Answer) (texts : Option (List (List ℕ × List ℕ))) →
    Asks words mode o → mode ≡ modes.Replay program second → name ≡ program_name mode →
    IfSome texts (λ shown. (text_named name shown ≡ Some text) × (length text ≤ program_limit)) →
    IfSome texts (λ shown. ReportsReplayBy o.modular o.entry.now text (text_named second.now shown) a) → IfSome texts (λ shown. Reports words shown a)
replay_reported words mode o program second name text a None ask is same h r = tt
replay_reported words mode o program second name text a (Some shown) ask is same h r =
    replaying (settings o) program.now second.now text (asks_for words mode (modes.Replay program second) o ask is)
    (text_of mode (modes.Replay program second) name text shown is same h.0) r

pub replay_answered : (words : List (List ℕ)) (mode : Mode) (o : Options) (program second : Bor (List ℕ)) (name text : List ℕ) (r : Result code.Answer Halt) (texts : Option (List (List ℕ × List ℕ))) →
    Asks words mode o → mode ≡ modes.Replay program second → name ≡ program_name mode →
    IfSome texts (λ shown. (text_named name shown ≡ Some text) × (length text ≤ program_limit)) →
    IfOk r (λ a. IfSome texts (λ shown. ReportsReplayBy o.modular o.entry.now text (text_named second.now shown) (answered a))) →
    IfOk r (λ a. IfSome texts (λ shown. Reports words shown (answered a)))
replay_answered words mode o program second name text (Ok a) texts ask is same h r = replay_reported words mode o program second name text (answered a) texts ask is same h r
replay_answered words mode o program second name text (Err e) texts ask is same h r = tt

-- the program text was read, and is to be printed
pub print_reported : (words : List (List ℕ)) (mode : Mode) (o : Options) (program : Bor (List ℕ)) (name text : List ℕ) (a : Answer) (texts : Option (List (List ℕ × List ℕ))) →
    Asks words mode o → mode ≡ modes.Print program → name ≡ program_name mode →
    IfSome texts (λ shown. (text_named name shown ≡ Some text) × (length text ≤ program_limit)) →
    ReportsPrint text a → IfSome texts (λ shown. Reports words shown a)
print_reported words mode o program name text a None ask is same h r = tt
print_reported words mode o program name text a (Some shown) ask is same h r =
    printing (settings o) program.now text (asks_for words mode (modes.Print program) o ask is) (text_of mode (modes.Print program) name text shown is same h.0) r

-- the program text was read, and its verdict is asked for
verify_reported : (words : List (List ℕ)) (mode : Mode) (o : Options) (program : Bor (List ℕ)) (name text : List ℕ) (a : Answer) (texts : Option (List (List ℕ × List ℕ))) →
    Asks words mode o → mode ≡ modes.Verify program → name ≡ program_name mode →
    IfSome texts (λ shown. (text_named name shown ≡ Some text) × (length text ≤ program_limit)) →
    IfSome texts (λ shown. ReportsVerifyBy o.modular (settings o).reuse shown o.entry.now o.limits text a) → IfSome texts (λ shown. Reports words shown a)
verify_reported words mode o program name text a None ask is same h r = tt
verify_reported words mode o program name text a (Some shown) ask is same h r =
    verifying (settings o) program.now text (asks_for words mode (modes.Verify program) o ask is) (text_of mode (modes.Verify program) name text shown is same h.0) r

pub verify_answered : (words : List (List ℕ)) (mode : Mode) (o : Options) (program : Bor (List ℕ)) (name text : List ℕ) (r : Result code.Answer Halt) (texts : Option (List (List ℕ × List ℕ))) →
    Asks words mode o → mode ≡ modes.Verify program → name ≡ program_name mode →
    IfSome texts (λ shown. (text_named name shown ≡ Some text) × (length text ≤ program_limit)) →
    IfOk r (λ a. IfSome texts (λ shown. ReportsVerifyBy o.modular (settings o).reuse shown o.entry.now o.limits text (answered a))) →
    IfOk r (λ a. IfSome texts (λ shown. Reports words shown (answered a)))
verify_answered words mode o program name text (Ok a) texts ask is same h r = verify_reported words mode o program name text (answered a) texts ask is same h r
verify_answered words mode o program name text (Err e) texts ask is same h r = tt

-- ---- what has the status 0

check_zero : (entry : List ℕ) (text : List ℕ) (second : Option (List ℕ)) (a : Answer) → ReportsCheck entry text second a → a.status ≡ 0 → IsAccepted entry text a
check_zero entry text second a (refused r) z = absurd (typed_is_not_zero entry text a r z)
check_zero entry text second a (of_typed t w (unlowered r)) z = absurd (lowering_is_not_zero t a r z)
check_zero entry text second a (of_typed t w (of_lowered none (second_too_long x e past is))) z = absurd (too_long_is_not_zero a is z)
check_zero entry text second a (of_typed t w (of_lowered none (of_second x e l r))) z = record { meant = t; typed = w; is = proof_zero (lowered t) x a r z }

printed_by : (words : List (List ℕ)) (texts : List (List ℕ × List ℕ)) (s : Settings) (program text : List ℕ) (a : Answer) → Ask words s (Print program) →
    text_named program texts ≡ Some text → ReportsPrint text a → a.status ≡ 0 → PrintsProgram words texts
printed_by words texts s program text a asked found (refused_print r) zero_status = absurd (refused_is_not_zero text a r zero_status)
printed_by words texts s program text a asked found (printed ds l w is) zero_status = (s, program, text, ds, asked, found, w)

fails_by : (words : List (List ℕ)) (texts : List (List ℕ × List ℕ)) (s : Settings) (program second text x : List ℕ) (t : TypedProgram) (a : Answer) → Ask words s (Replay program second) →
    text_named program texts ≡ Some text → IsTypedText s.entry text t → text_named second texts ≡ Some x → ReportsFailure t x a → a.status ≡ 0 → ProgramFails words texts
fails_by words texts s program second text x t a asked found typed e (no_failure line fault is) zero_status = absurd (let e : 1 ≡ 0 = sym (ap (λ (b : Answer). b.status) is) ∙ zero_status in omega arith)
fails_by words texts s program second text x t a asked found typed e (replayed f id h r is) zero_status =
    (program, second, text, x, t, f, id, record { settings = s; asked = asked; found = found; typed = typed; told = e; read = h; replays = r })
fails_by words texts s program second text x t a asked found typed e (stopped f step cause h k is) zero_status = absurd (let e : 1 ≡ 0 = sym (ap (λ (b : Answer). b.status) is) ∙ zero_status in omega arith)

replayed_by : (words : List (List ℕ)) (texts : List (List ℕ × List ℕ)) (s : Settings) (program second text : List ℕ) (a : Answer) → Ask words s (Replay program second) →
    text_named program texts ≡ Some text → ReportsReplay s.entry text (text_named second texts) a → a.status ≡ 0 → ProgramFails words texts
replayed_by words texts s program second text a asked found (refused r) zero_status = absurd (typed_is_not_zero s.entry text a r zero_status)
replayed_by words texts s program second text a asked found (of_typed t h (second_too_long x e past is)) zero_status = absurd (too_long_is_not_zero a is zero_status)
replayed_by words texts s program second text a asked found (of_typed t h (of_second x e l r)) zero_status =
    fails_by words texts s program second text x t a asked found h e r zero_status

-- of the program, or of a part
replayed_one : (words : List (List ℕ)) (texts : List (List ℕ × List ℕ)) (s : Settings) (program second text : List ℕ) (a : Answer) (m : Bool) → s.modular ≡ m → Ask words s (Replay program second) →
    text_named program texts ≡ Some text → ReportsReplayBy m s.entry text (text_named second texts) a → a.status ≡ 0 → ProgramFails words texts ⊎ PartFails words texts
replayed_one words texts s program second text a false is asked found r z = inl (replayed_by words texts s program second text a asked found r z)
replayed_one words texts s program second text a true is asked found r z = inr (replay_parts_zero words texts s program second text a is asked found r z)

-- what is accepted is safe, where that is so of the program whose check is asked for
accepted_is_safe : (words : List (List ℕ)) (texts : Texts) (s : Settings) (program second text : List ℕ) (a : Answer) → Ask words s (Check program second) → text_named program texts ≡ Some text →
    IsAccepted s.entry text a → (a ≡ accepted_answer → CheckedIsSafe words texts) → ProgramIsSafe words texts
accepted_is_safe words texts s program second text a asked found h safe =
    let asks : AsksForCheck words texts h.meant = record { settings = s; program = program; second = second; asked = asked; text = text; found = found; typed = h.typed } in
    (h.meant, inl asks, safe h.is h.meant asks)

check_by_zero : (m : Bool) (entry text : List ℕ) (second : Option (List ℕ)) (a : Answer) → ReportsCheckBy m entry text second a → a.status ≡ 0 → IsAccepted entry text a
check_by_zero false entry text second a r z = check_zero entry text second a r z
check_by_zero true entry text second a r z = check_parts_zero entry text second a r z

-- a text whose verdict has status 0 is that of a typed program
verify_by_zero : (m : Bool) (reuse : Option (List ℕ)) (texts : Texts) (entry : List ℕ) (l : Limits) (text : List ℕ) (a : Answer) → ReportsVerifyBy m reuse texts entry l text a → a.status ≡ 0 →
    (t : TypedProgram) × IsTypedText entry text t
verify_by_zero true reuse texts entry l text a r z = verify_parts_zero entry l text a r z
verify_by_zero false None texts entry l text a (refused r) z = absurd (typed_is_not_zero entry text a r z)
verify_by_zero false None texts entry l text a (of_typed t w r) z = (t, w)
verify_by_zero false (Some old) texts entry l text a (refused r) z = absurd (typed_is_not_zero entry text a r z)
verify_by_zero false (Some old) texts entry l text a (of_typed t w r) z = (t, w)

-- a verdict of status 0 is asked for a program that is safe, where that is so of the program whose verdict is asked for
verified_is_safe : (words : List (List ℕ)) (texts : Texts) (s : Settings) (program text : List ℕ) (a : Answer) (m : Bool) (reuse : Option (List ℕ)) → Ask words s (Verify program) →
    text_named program texts ≡ Some text → ReportsVerifyBy m reuse texts s.entry s.limits text a → a.status ≡ 0 → VerifiedIsSafe words texts → ProgramIsSafe words texts
verified_is_safe words texts s program text a m reuse asked found r z safe =
    let w = verify_by_zero m reuse texts s.entry s.limits text a r z in
    let asks : AsksForVerdict words texts w.0 = record { settings = s; program = program; asked = asked; text = text; found = found; typed = w.1 } in
    (w.0, inr asks, safe w.0 asks)

-- what is worth saying of a status 0
abbrev pub ZeroSays : List (List ℕ) → Texts → Type 0
ZeroSays words texts = PrintsProgram words texts ⊎ (ProgramIsSafe words texts ⊎ (ProgramFails words texts ⊎ (GeneratedIsSafe words ⊎ (PartFails words texts
    ⊎ (AskedLassoEnds words texts ⊎ RankedLassoEnds words texts)))))

failing : (words : List (List ℕ)) (texts : Texts) → ProgramFails words texts ⊎ PartFails words texts → ZeroSays words texts
failing words texts (inl f) = inr (inr (inl f))
failing words texts (inr f) = inr (inr (inr (inr (inl f))))

-- what the functions of the report know of the words beyond it
pub record IsKnown (words : List (List ℕ)) (texts : Texts) (a : Answer) : Type 0 where
  pub accepted : a ≡ accepted_answer → CheckedIsSafe words texts
  pub verified : a.status ≡ 0 → VerifiedIsSafe words texts
  pub built : a.status ≡ 0 → BuiltIsSafe words
  pub ranked : a.status ≡ 0 → RankedIsGraph words texts

-- an answer of status 0 is a printed program, or is safe, or fails, or it is a lasso that ends
reports_safe : (words : List (List ℕ)) (texts : Texts) (a : Answer) → Reports words texts a → IsKnown words texts a → a.status ≡ 0 → ZeroSays words texts
reports_safe words texts a (usage none is) known z = absurd (let e : 4 ≡ 0 = sym (ap (λ (b : Answer). b.status) is) ∙ z in omega arith)
reports_safe words texts a (printing s program text asked found print) known z = inl (printed_by words texts s program text a asked found print z)
reports_safe words texts a (checking s program second text asked found check) known z =
    inr (inl (accepted_is_safe words texts s program second text a asked found (check_by_zero s.modular s.entry text (text_named second texts) a check z) known.accepted))
reports_safe words texts a (replaying s program second text asked found replay) known z =
    failing words texts (replayed_one words texts s program second text a s.modular refl asked found replay z)
reports_safe words texts a (verifying s program text asked found verify) known z =
    inr (inl (verified_is_safe words texts s program text a s.modular s.reuse asked found verify z (known.verified z)))
reports_safe words texts a (generating s count asked big) known z =
    inr (inr (inr (inl (s, count, big.program, asked, big.typed, known.built z s count big.program asked big.typed))))
reports_safe words texts a (seeking s program second text asked found seek) known z =
    inr (inr (inr (inr (inr (inl (lasso_zero words texts s program second text a found (known.ranked z) asked seek z))))))
reports_safe words texts a (ranking s program second text asked found check) known z =
    inr (inr (inr (inr (inr (inr (ranked_zero words texts s program second text a found (known.ranked z) asked check z))))))

check_begins : (entry : List ℕ) (text : List ℕ) (second : Option (List ℕ)) (a : Answer) → ReportsCheck entry text second a → second_letter a ≡ 99 → IsAccepted entry text a
check_begins entry text second a (refused r) begin = absurd (typed_begins entry text a r begin)
check_begins entry text second a (of_typed t w (unlowered r)) begin = absurd (lowering_begins t a r begin)
check_begins entry text second a (of_typed t w (of_lowered none (second_too_long x e past is))) begin = absurd (too_long_begins a is begin)
check_begins entry text second a (of_typed t w (of_lowered none (of_second x e l r))) begin = record { meant = t; typed = w; is = proof_begins (lowered t) x a r begin }

print_begins : (text : List ℕ) (a : Answer) → ReportsPrint text a → second_letter a ≡ 99 → ⊥
print_begins text a (refused_print r) begin = refused_begins text a r begin
print_begins text a (printed ds l w is) begin = begins_otherwise ds (sym (ap second_letter is) ∙ begin)

replay_begins : (entry : List ℕ) (text : List ℕ) (second : Option (List ℕ)) (a : Answer) → ReportsReplay entry text second a → second_letter a ≡ 99 → ⊥
replay_begins entry text second a (refused r) begin = typed_begins entry text a r begin
replay_begins entry text second a (of_typed t h (second_too_long x e past is)) begin = too_long_begins a is begin
replay_begins entry text second a (of_typed t h (of_second x e l r)) begin = failure_begins t x a r begin

verify_begins : (entry : List ℕ) (l : Limits) (text : List ℕ) (a : Answer) → ReportsVerify entry l text a → second_letter a ≡ 99 → ⊥
verify_begins entry l text a (refused r) begin = typed_begins entry text a r begin
verify_begins entry l text a (of_typed t w (unlowered r)) begin = lowering_begins t a r begin
verify_begins entry l text a (of_typed t w (of_lowered none (v, few))) begin = verdict_begins (length v.race.history) v.verdict (sym (ap second_letter v.is) ∙ begin)

check_by_begins : (m : Bool) (entry text : List ℕ) (second : Option (List ℕ)) (a : Answer) → ReportsCheckBy m entry text second a → second_letter a ≡ 99 → IsAccepted entry text a
check_by_begins false entry text second a r begin = check_begins entry text second a r begin
check_by_begins true entry text second a r begin = check_parts_begins entry text second a r begin

replay_by_begins : (m : Bool) (entry text : List ℕ) (second : Option (List ℕ)) (a : Answer) → ReportsReplayBy m entry text second a → second_letter a ≡ 99 → ⊥
replay_by_begins false entry text second a r begin = replay_begins entry text second a r begin
replay_by_begins true entry text second a r begin = replay_parts_begins entry text second a r begin

reuse_begins : (l : Limits) (t : TypedProgram) (x : List ℕ) (a : Answer) → ReportsReuse l t x a → second_letter a ≡ 99 → ⊥
reuse_begins l t x a (no_earlier line wrong is) begin = e_is_not_c (second_letter a) (ap second_letter is) begin
reuse_begins l t x a (of_earlier coarse old c given spelled reused first v few) begin = verdict_begins (length v.race.history) v.verdict (sym (ap second_letter v.is) ∙ begin)

verify_with_begins : (entry : List ℕ) (l : Limits) (text : List ℕ) (second : Option (List ℕ)) (a : Answer) → ReportsVerifyWith entry l text second a → second_letter a ≡ 99 → ⊥
verify_with_begins entry l text second a (refused r) begin = typed_begins entry text a r begin
verify_with_begins entry l text second a (of_typed t w (unlowered r)) begin = lowering_begins t a r begin
verify_with_begins entry l text second a (of_typed t w (of_lowered none (second_too_long x e past is))) begin = too_long_begins a is begin
verify_with_begins entry l text second a (of_typed t w (of_lowered none (of_second x e few r))) begin = reuse_begins l t x a r begin

verify_by_begins : (m : Bool) (reuse : Option (List ℕ)) (texts : Texts) (entry : List ℕ) (l : Limits) (text : List ℕ) (a : Answer) → ReportsVerifyBy m reuse texts entry l text a →
    second_letter a ≡ 99 → ⊥
verify_by_begins false None texts entry l text a r begin = verify_begins entry l text a r begin
verify_by_begins false (Some old) texts entry l text a r begin = verify_with_begins entry l text (text_named old texts) a r begin
verify_by_begins true reuse texts entry l text a r begin = verify_parts_begins entry l text a r begin

-- what is worth saying of `accepted`
abbrev pub AcceptedSays : List (List ℕ) → Texts → Type 0
AcceptedSays words texts = ProgramIsSafe words texts ⊎ RankedLassoEnds words texts

-- an answer that begins as `accepted` does is safe, or it is a lasso that ends
reports_begin : (words : List (List ℕ)) (texts : Texts) (a : Answer) → Reports words texts a → IsKnown words texts a → second_letter a ≡ 99 → AcceptedSays words texts
reports_begin words texts a (usage none is) known begin = absurd (let e : 115 ≡ 99 = sym (ap second_letter is) ∙ begin in omega arith)
reports_begin words texts a (printing s program text asked found print) known begin = absurd (print_begins text a print begin)
reports_begin words texts a (checking s program second text asked found check) known begin =
    inl (accepted_is_safe words texts s program second text a asked found (check_by_begins s.modular s.entry text (text_named second texts) a check begin) known.accepted)
reports_begin words texts a (replaying s program second text asked found replay) known begin = absurd (replay_by_begins s.modular s.entry text (text_named second texts) a replay begin)
reports_begin words texts a (generating s count asked big) known begin = absurd (let e : 105 ≡ 99 = sym (ap second_letter big.is) ∙ begin in omega arith)
reports_begin words texts a (verifying s program text asked found verify) known begin = absurd (verify_by_begins s.modular s.reuse texts s.entry s.limits text a verify begin)
reports_begin words texts a (seeking s program second text asked found seek) known begin =
    absurd (lasso_begins s.entry s.limits.depth text (text_named second texts) a seek begin)
reports_begin words texts a (ranking s program second text asked found check) known begin =
    let z : a.status ≡ 0 = ap (λ (b : Answer). b.status) (ranked_begins s.entry text (text_named second texts) a check begin) in
    inr (ranked_zero words texts s program second text a found (known.ranked z) asked check z)

seam : (b xs : List ℕ) → get_or (b ++ xs) (suc (length b)) 0 ≡ get_or xs 1 0
seam [] xs = refl
seam (x ∷ b) xs = seam b xs

second_taken : (k : ℕ) (xs : List ℕ) → get_or (take k xs) 1 0 ≡ 99 → get_or xs 1 0 ≡ 99
second_taken zero xs h = absurd (omega arith)
second_taken (suc k) [] h = h
second_taken (suc zero) (x ∷ xs) h = absurd (omega arith)
second_taken (suc (suc k)) (x ∷ []) h = h
second_taken (suc (suc k)) (x ∷ y ∷ xs) h = h

same_Some : (xs ys : List ℕ) → Some xs ≡ Some ys → xs ≡ ys
same_Some xs ys e = cc

-- bytes after which the sink has gained `accepted` begin so
begins : (before bytes : List ℕ) → Some (before ++ bytes) ≡ Some (before ++ codes "accepted\n") → get_or bytes 1 0 ≡ 99
begins before bytes e =
    let same : before ++ bytes ≡ before ++ codes "accepted\n" = same_Some (before ++ bytes) (before ++ codes "accepted\n") e in
    sym (seam before bytes) ∙ ap (λ (xs : List ℕ). get_or xs (suc (length before)) 0) same ∙ seam before (codes "accepted\n")

-- what is said where the sink has gained `accepted`
abbrev pub WhereAccepted : List (List ℕ) → Option Texts → Option (List ℕ) → Option (List ℕ) → (Texts → Type 0) → Type 0
WhereAccepted words texts old new P = WhereTold texts old (λ shown before. new ≡ Some (before ++ codes "accepted\n") → P shown)

-- where nothing was taken, `accepted` was not
pub nothing_is_safe : (words : List (List ℕ)) (texts : Option Texts) (taken : Option (List ℕ)) → WhereAccepted words texts taken taken (AcceptedSays words)
nothing_is_safe words None taken = tt
nothing_is_safe words (Some shown) None = tt
nothing_is_safe words (Some shown) (Some before) = λ e.
    let same : before ≡ before ++ codes "accepted\n" = same_Some before (before ++ codes "accepted\n") e in
    let longer : length (before ++ codes "accepted\n") ≡ length before + 9 = length-append before (codes "accepted\n") in
    let as_long : length before ≡ length (before ++ codes "accepted\n") = ap (λ (xs : List ℕ). length xs) same in
    absurd (omega arith)

-- the same of texts, where they are told
abbrev pub KnownOf : List (List ℕ) → Option Texts → Answer → Type 0
KnownOf words texts a = IfSome texts (λ shown. IsKnown words shown a)

pub known_of : (words : List (List ℕ)) (texts : Option Texts) (a : Answer) → (a ≡ accepted_answer → IfSome texts (λ shown. CheckedIsSafe words shown)) →
    (a.status ≡ 0 → IfSome texts (λ shown. VerifiedIsSafe words shown)) → (a.status ≡ 0 → BuiltIsSafe words) → (a.status ≡ 0 → IfSome texts (λ shown. RankedIsGraph words shown)) →
    KnownOf words texts a
known_of words None a s v b r = tt
known_of words (Some shown) a s v b r = record { accepted = s; verified = v; built = b; ranked = r }

-- where a front of an answer was taken, and is `accepted`, the program is safe, or the lasso ends
pub front_is_safe : (words : List (List ℕ)) (texts : Option Texts) (old new : Option (List ℕ)) (a : Answer) → IfSome texts (λ shown. Reports words shown a) → KnownOf words texts a →
    IfSome old (λ before. GainsFront a.bytes before new) → WhereAccepted words texts old new (AcceptedSays words)
front_is_safe words None old new a r s g = tt
front_is_safe words (Some shown) None new a r s g = tt
front_is_safe words (Some shown) (Some before) new a r s (k, l, taken) = λ e.
    reports_begin words shown a r s (second_taken k a.bytes (begins before (take k a.bytes) (sym taken ∙ e)))

-- and where all of it was
pub whole_is_safe : (words : List (List ℕ)) (texts : Option Texts) (old new : Option (List ℕ)) (a : Answer) → IfSome texts (λ shown. Reports words shown a) → KnownOf words texts a →
    IfSome old (λ before. new ≡ Some (before ++ a.bytes)) → WhereAccepted words texts old new (AcceptedSays words)
whole_is_safe words None old new a r s g = tt
whole_is_safe words (Some shown) None new a r s g = tt
whole_is_safe words (Some shown) (Some before) new a r s taken = λ e.
    reports_begin words shown a r s (begins before a.bytes (sym taken ∙ e))

-- words that ask for a check ask for no ranking
pub check_is_accepted : (words : List (List ℕ)) (texts : Option Texts) (old new : Option (List ℕ)) → WhereAccepted words texts old new (AcceptedSays words) →
    (s : Settings) (program second : List ℕ) → Ask words s (Check program second) → WhereAccepted words texts old new (ProgramIsSafe words)
check_is_accepted words None old new h s program second ask = tt
check_is_accepted words (Some shown) None new h s program second ask = tt
check_is_accepted words (Some shown) (Some before) new h s program second ask = λ e. safe (h e)
  where
    safe : AcceptedSays words shown → ProgramIsSafe words shown
    safe (inl k) = k
    safe (inr k) = absurd (only_one words s k.3.settings (Check program second) (Ranked k.3.program k.3.second) ask k.3.asked (λ (e : 0 ≡ 6). omega arith))

-- what a status 0 says
pub zero_is_safe : (words : List (List ℕ)) (texts : Option Texts) (a : Answer) → IfSome texts (λ shown. Reports words shown a) → KnownOf words texts a → a.status ≡ 0 →
    IfSome texts (λ shown. ZeroSays words shown)
zero_is_safe words None a r s z = tt
zero_is_safe words (Some shown) a r s z = reports_safe words shown a r s z

-- ---- what is accepted is safe

one_text : (x y : List ℕ) → Some x ≡ Some y → x ≡ y
one_text x y e = cc

-- what the text that was read means is what the words ask for
pub meant_by : (words : List (List ℕ)) (mode : Mode) (o : Options) (name text : List ℕ) (shown : Texts) (s : Settings) (x : Task) (read : List ℕ) (t : TypedProgram) →
    Asks words mode o → name ≡ program_name mode → program_of (of_texts mode) ≡ program_name mode → text_named name shown ≡ Some text →
    Ask words s x → text_named (program_of x) shown ≡ Some read → IsTypedText s.entry read t → IsTypedText o.entry.now text t
meant_by words mode o name text shown s x read t ask same is h asked found typed =
    let named : program_of x ≡ name = sym (same ∙ sym is ∙ ap program_of (same_task words (settings o) s (of_texts mode) x ask asked)) in
    let same_texts : read ≡ text = one_text read text (sym found ∙ ap (λ (n : List ℕ). text_named n shown) named ∙ h) in
    let entries : s.entry ≡ o.entry.now = sym (ap (λ (u : Settings). u.entry) (same_settings words (settings o) s (of_texts mode) x ask asked)) in
    subst (λ (e : List ℕ). IsTypedText e text t) entries (subst (λ (y : List ℕ). IsTypedText s.entry y t) same_texts typed)

pub program_is : (mode : Mode) → program_of (of_texts mode) ≡ program_name mode
program_is (modes.Check program second) = refl
program_is (modes.Replay program second) = refl
program_is (modes.Print program) = refl
program_is (modes.Verify program) = refl
program_is (modes.Lasso program second) = refl
program_is (modes.Ranked program second) = refl

-- the words ask for the check of a program that is safe
pub check_is_safe : (words : List (List ℕ)) (mode : Mode) (o : Options) (name text : List ℕ) (r : Result code.Answer Halt) (texts : Option Texts) →
    Asks words mode o → name ≡ program_name mode → IfSome texts (λ shown. (text_named name shown ≡ Some text) × (length text ≤ program_limit)) →
    IfOk r (λ a. answered a ≡ accepted_answer → TextIsSafe o.entry.now text) →
    IfOk r (λ a. answered a ≡ accepted_answer → IfSome texts (λ shown. CheckedIsSafe words shown))
check_is_safe words mode o name text (Err e) texts ask same h s = tt
check_is_safe words mode o name text (Ok a) None ask same h s = λ e. tt
check_is_safe words mode o name text (Ok a) (Some shown) ask same h s = λ e t k.
    s e t (meant_by words mode o name text shown k.settings (Check k.program k.second) k.text t ask same (program_is mode) h.0 k.asked k.found k.typed)

-- ---- what is verified is safe

-- the words do not ask for a verdict
abbrev pub IsNoVerify : Mode → Type 0
IsNoVerify (modes.Check program second) = Unit {0}
IsNoVerify (modes.Replay program second) = Unit {0}
IsNoVerify (modes.Print program) = Unit {0}
IsNoVerify (modes.Verify program) = ⊥
IsNoVerify (modes.Lasso program second) = Unit {0}
IsNoVerify (modes.Ranked program second) = Unit {0}

not_verified : (words : List (List ℕ)) (mode : Mode) (o : Options) (s : Settings) (p : List ℕ) → Asks words mode o → IsNoVerify mode → Ask words s (Verify p) → ⊥
not_verified words (modes.Check program second) o s p ask n v =
    only_one words (settings o) s (Check program.now second.now) (Verify p) ask v (λ (e : 0 ≡ 3). omega arith)
not_verified words (modes.Replay program second) o s p ask n v =
    only_one words (settings o) s (Replay program.now second.now) (Verify p) ask v (λ (e : 1 ≡ 3). omega arith)
not_verified words (modes.Print program) o s p ask n v =
    only_one words (settings o) s (Print program.now) (Verify p) ask v (λ (e : 2 ≡ 3). omega arith)
not_verified words (modes.Verify program) o s p ask n v = n
not_verified words (modes.Lasso program second) o s p ask n v =
    only_one words (settings o) s (Lasso program.now second.now) (Verify p) ask v (λ (e : 5 ≡ 3). omega arith)
not_verified words (modes.Ranked program second) o s p ask n v =
    only_one words (settings o) s (Ranked program.now second.now) (Verify p) ask v (λ (e : 6 ≡ 3). omega arith)

-- the words do not ask for a verdict, so nothing is to be shown of one
pub unverified : (words : List (List ℕ)) (mode : Mode) (o : Options) (r : Result code.Answer Halt) (texts : Option Texts) → Asks words mode o → IsNoVerify mode →
    IfOk r (λ a. (answered a).status ≡ 0 → IfSome texts (λ shown. VerifiedIsSafe words shown))
unverified words mode o (Err e) texts ask n = tt
unverified words mode o (Ok a) texts ask n =
    λ z. told (λ shown. VerifiedIsSafe words shown) texts (λ shown t k. absurd (not_verified words mode o k.settings k.program ask n k.asked))

-- words that ask for something else than a check
abbrev pub IsNoCheck : Mode → Type 0
IsNoCheck (modes.Check program second) = ⊥
IsNoCheck (modes.Replay program second) = Unit {0}
IsNoCheck (modes.Print program) = Unit {0}
IsNoCheck (modes.Verify program) = Unit {0}
IsNoCheck (modes.Lasso program second) = Unit {0}
IsNoCheck (modes.Ranked program second) = Unit {0}

not_checked : (words : List (List ℕ)) (mode : Mode) (o : Options) (s : Settings) (p q : List ℕ) → Asks words mode o → IsNoCheck mode → Ask words s (Check p q) → ⊥
not_checked words (modes.Check program second) o s p q ask n k = n
not_checked words (modes.Replay program second) o s p q ask n k =
    only_one words (settings o) s (Replay program.now second.now) (Check p q) ask k (λ (e : 1 ≡ 0). omega arith)
not_checked words (modes.Print program) o s p q ask n k = only_one words (settings o) s (Print program.now) (Check p q) ask k (λ (e : 2 ≡ 0). omega arith)
not_checked words (modes.Verify program) o s p q ask n k = only_one words (settings o) s (Verify program.now) (Check p q) ask k (λ (e : 3 ≡ 0). omega arith)
not_checked words (modes.Lasso program second) o s p q ask n k =
    only_one words (settings o) s (Lasso program.now second.now) (Check p q) ask k (λ (e : 5 ≡ 0). omega arith)
not_checked words (modes.Ranked program second) o s p q ask n k =
    only_one words (settings o) s (Ranked program.now second.now) (Check p q) ask k (λ (e : 6 ≡ 0). omega arith)

pub unchecked : (words : List (List ℕ)) (mode : Mode) (o : Options) (r : Result code.Answer Halt) (texts : Option Texts) → Asks words mode o → IsNoCheck mode →
    IfOk r (λ a. answered a ≡ accepted_answer → IfSome texts (λ shown. CheckedIsSafe words shown))
unchecked words mode o (Err e) texts ask n = tt
unchecked words mode o (Ok a) texts ask n =
    λ z. told (λ shown. CheckedIsSafe words shown) texts (λ shown t k. absurd (not_checked words mode o k.settings k.program k.second ask n k.asked))

-- the program is as safe as the text that was read
pub verify_is_safe : (words : List (List ℕ)) (mode : Mode) (o : Options) (name text : List ℕ) (r : Result code.Answer Halt) (texts : Option Texts) →
    Asks words mode o → name ≡ program_name mode → IfSome texts (λ shown. (text_named name shown ≡ Some text) × (length text ≤ program_limit)) →
    IfOk r (λ a. (answered a).status ≡ 0 → TextIsSafe o.entry.now text) → IfOk r (λ a. (answered a).status ≡ 0 → IfSome texts (λ shown. VerifiedIsSafe words shown))
verify_is_safe words mode o name text (Err e) texts ask same h s = tt
verify_is_safe words mode o name text (Ok a) None ask same h s = λ z. tt
verify_is_safe words mode o name text (Ok a) (Some shown) ask same h s = λ z t k.
    s z t (meant_by words mode o name text shown k.settings (Verify k.program) k.text t ask same (program_is mode) h.0 k.asked k.found k.typed)
