-- What `verify` writes is confirmed: `check` accepts it where it says `safe`, and `replay` replays it where it says `unsafe`.
use Rattle.std.proofs.Common.{◌≡◌, ℕ, ◌^◌, ◌<◌, ◌≤◌, ℤ, List, length, Bool, true, false, Option, None, Some, inl, inr, ◌⊎◌, ap, refl, sym, ◌∙◌, subst, arith}
use Rattle.std.specs.Prelude.{IsTrue}
use Rattle.std.proofs.lemmas.Bool.{false≢true}
use Rattle.std.proofs.lemmas.Option.{none-some}
use Rattle.outer_io.specs.Texts.{text_named}
use Rattle.boogie_run.specs.declared.types.AssertId.{AssertId}
use Rattle.typed_tree.specs.TypedTree.{TypedProgram}
use Rattle.lowered_graph.specs.Items.{first_fault}
use Rattle.lowered_graph.specs.Lowered.{lowered}
use Rattle.proof_form.specs.Annotations.{Content, is_annotation, safe_text}
use Rattle.proof_names.specs.CoarseLines.CoarseLetters.{coarse_letters}
use Rattle.proof_names.proofs.CoarseLines.ToldLaws.{letters_are_short}
use Rattle.proof_check.specs.Proves.{Proves}
use Rattle.trace_replay.specs.declared.failure.Failure.{Failure}
use Rattle.trace_replay.specs.FailureText.{PlainFailure, plain}
use Rattle.trace_replay.specs.Replays.{IsReplayed}
use Rattle.race_core.specs.declared.events.Entry.{Entry}
use Rattle.race_core.specs.Races.{Race}
use Rattle.itp_automaton.specs.Certified.{Certificate}
use Rattle.race_rounds.specs.declared.limits.Limits.{Limits}
use Rattle.race_verdicts.specs.declared.verdicts.Verdict.{Verdict}
use Rattle.race_verdicts.specs.declared.verdicts.Verdict.TheVariants.{Safe, Unsafe, Unknown}
use Rattle.race_verdicts.specs.Verdicts.{IsVerdict, IsFailureOf}
use Rattle.text_reports.specs.ReportTexts.{Answer, accepted_answer, replayed_answer}
use Rattle.automizer_top.specs.ReportTexts.{verdict_answer}
use Rattle.automizer_top.specs.Report.{second_limit, Ask, IsTypedText, refused, of_typed, unlowered, of_lowered, second_too_long, of_second, IsSafeText, ReportsProof, of_annotation, accepted, IsFailureText, replayed, ReportsVerdict, ReportsCheck, ReportsReplay, ReportsVerify, ReportsCheckBy, ReportsReplayBy, ReportsVerifyBy, Reports, checking, replaying}
use Rattle.automizer_top.specs.Earlier.{no_earlier, of_earlier, ReportsVerifyWith}
use Rattle.automizer_top.specs.ReportClaims.{IsVerdictOn, RefusesEarlier, IsHandedOver}
use Rattle.text_reports.proofs.RefusalLaws.{typed_is_three, lowering_is_three}
use Rattle.automizer_top.specs.CommandLine.{Check, Replay, Verify, Settings}
use Rattle.automizer_top.proofs.RequestLaws.{rounds_fit}
use Rattle.automizer_top.proofs.TaskLaws.{task_reported}
use Rattle.automizer_top.proofs.ReportUnique.{AreOne, report_once, one_of_task}

abbrev pub Texts : Type 0
Texts = List (List ℕ × List ℕ)

-- ---- a status below 3 is that of a verdict

record IsVerdictOf (s : Settings) (program : List ℕ) (texts : Texts) (a : Answer) : Type 0 where
  pub text : List ℕ
  pub meant : TypedProgram
  pub found : text_named program texts ≡ Some text
  pub typed : IsTypedText s.entry text meant
  pub lowers : first_fault meant ≡ None
  pub given : Option (Entry Certificate)
  pub begins : s.reuse ≡ None → given ≡ None
  pub verdict : ReportsVerdict given s.limits meant a
  pub short : length a.bytes ≤ second_limit

not_three : (n : ℕ) → n ≡ 3 → n < 3 → ⊥
not_three n e l = omega arith

not_four : (n : ℕ) → n ≡ 4 → n < 3 → ⊥
not_four n e l = omega arith

of_text : (s : Settings) (program text : List ℕ) (texts : Texts) (a : Answer) → text_named program texts ≡ Some text → ReportsVerify s.entry s.limits text a → a.status < 3 →
    IsVerdictOf s program texts a
of_text s program text texts a found (refused r) l = absurd (not_three a.status (typed_is_three s.entry text a r) l)
of_text s program text texts a found (of_typed t w (unlowered r)) l = absurd (not_three a.status (lowering_is_three t a r) l)
of_text s program text texts a found (of_typed t w (of_lowered none (v, few))) l =
    record { text = text; meant = t; found = found; typed = w; lowers = none; given = None; begins = λ e. refl; verdict = v; short = few }

-- an answer with a status below 3: the text of an earlier annotation is none, or it is a verdict
abbrev IsTold : Settings → List ℕ → Texts → Answer → Type 0
IsTold s program texts a = RefusesEarlier s texts a ⊎ IsVerdictOf s program texts a

of_two_texts : (s : Settings) (program text old : List ℕ) (texts : Texts) (a : Answer) → s.reuse ≡ Some old → text_named program texts ≡ Some text →
    ReportsVerifyWith s.entry s.limits text (text_named old texts) a → a.status < 3 → IsTold s program texts a
of_two_texts s program text old texts a named found (refused r) l = absurd (not_three a.status (typed_is_three s.entry text a r) l)
of_two_texts s program text old texts a named found (of_typed t w (unlowered r)) l = absurd (not_three a.status (lowering_is_three t a r) l)
of_two_texts s program text old texts a named found (of_typed t w (of_lowered none (second_too_long x e past is))) l = absurd (not_three a.status (ap (λ (b : Answer). b.status) is) l)
of_two_texts s program text old texts a named found (of_typed t w (of_lowered none (of_second x e few (no_earlier line wrong is)))) l = inl (old, x, line, named, e, wrong, is)
of_two_texts s program text old texts a named found (of_typed t w (of_lowered none (of_second x e few (of_earlier coarse w' c given spelled reused first v short)))) l =
    inr (record { text = text; meant = t; found = found; typed = w; lowers = none; given = given; begins = λ none. absurd (none-some old (sym none ∙ named)); verdict = v; short = short })

-- without the flag it is the whole program that is answered for
whole_verify : (m : Bool) (reuse : Option (List ℕ)) (s : Settings) (program text : List ℕ) (texts : Texts) (a : Answer) → m ≡ false → s.reuse ≡ reuse → text_named program texts ≡ Some text →
    ReportsVerifyBy m reuse texts s.entry s.limits text a → a.status < 3 → IsTold s program texts a
whole_verify false None s program text texts a off named found r l = inr (of_text s program text texts a found r l)
whole_verify false (Some old) s program text texts a off named found r l = of_two_texts s program text old texts a named found r l
whole_verify true reuse s program text texts a off named found r l = absurd (false≢true (sym off))

whole_check : (m : Bool) (entry text : List ℕ) (second : Option (List ℕ)) (a : Answer) → m ≡ false → ReportsCheck entry text second a → ReportsCheckBy m entry text second a
whole_check false entry text second a off r = r
whole_check true entry text second a off r = absurd (false≢true (sym off))

whole_replay : (m : Bool) (entry text : List ℕ) (second : Option (List ℕ)) (a : Answer) → m ≡ false → ReportsReplay entry text second a → ReportsReplayBy m entry text second a
whole_replay false entry text second a off r = r
whole_replay true entry text second a off r = absurd (false≢true (sym off))

verdict_of : (words : List (List ℕ)) (s : Settings) (program : List ℕ) (texts : Texts) (a : Answer) → Ask words s (Verify program) → s.modular ≡ false → Reports words texts a → a.status < 3 →
    IsTold s program texts a
verdict_of words s program texts a ask off given l =
    let r = task_reported words texts a s (Verify program) ask given in
    whole_verify s.modular s.reuse s program r.0 texts a off refl r.1 r.2 l

told_on : (words : List (List ℕ)) (texts : Texts) (s : Settings) (program : List ℕ) (a : Answer) → Ask words s (Verify program) → IsTold s program texts a →
    RefusesEarlier s texts a ⊎ ((t : TypedProgram) × IsVerdictOn words texts t a)
told_on words texts s program a ask (inl r) = inl r
told_on words texts s program a ask (inr d) = inr (d.meant, (s, program, d.text, ask, d.found, d.typed, d.given, d.begins, d.verdict))

-- so it is one on the program of the text, if it does not refuse an earlier annotation
pub verdict_told : (words : List (List ℕ)) (texts : Texts) (s : Settings) (program : List ℕ) (a : Answer) → Ask words s (Verify program) → s.modular ≡ false → Reports words texts a → a.status < 3 →
    RefusesEarlier s texts a ⊎ ((t : TypedProgram) × IsVerdictOn words texts t a)
verdict_told words texts s program a ask off gives l = told_on words texts s program a ask (verdict_of words s program texts a ask off gives l)

-- ---- `safe`

-- the bytes are the `safe` text of an annotation that proves the program, with the coarse letters that its triples name
pub record IsSafeOf (t : TypedProgram) (r : Race Certificate) (a : Answer) : Type 0 where
  pub annotation : Content
  pub spelled : a.bytes ≡ safe_text (length r.history) (coarse_letters (lowered t) annotation) annotation
  pub lines : IsTrue (is_annotation annotation)
  pub proves : Proves (lowered t) annotation

pub safe_of : (t : TypedProgram) (r : Race Certificate) (v : Verdict) (a : Answer) → IsVerdict t r v → a ≡ verdict_answer r v → a.status ≡ 0 → IsSafeOf t r a
safe_of t r (Safe coarse w) a h is z = record {
  annotation = w;
  spelled = ap (λ (b : Answer). b.bytes) is ∙ ap (λ (ns : List ℕ). safe_text (length r.history) ns w) h.3;
  lines = h.2;
  proves = h.1;
}
safe_of t r (Unsafe f) a h is z = absurd (let e : 1 ≡ 0 = sym (ap (λ (b : Answer). b.status) is) ∙ z in omega arith)
safe_of t r (Unknown cause w) a h is z = absurd (let e : 2 ≡ 0 = sym (ap (λ (b : Answer). b.status) is) ∙ z in omega arith)

-- that text is read as the annotation
pub safe_spelled : (given : Option (Entry Certificate)) (l : Limits) (t : TypedProgram) (a : Answer) → l.rounds ≤ 100000 → (v : ReportsVerdict given l t a) (f : IsSafeOf t v.race a) →
    IsSafeText a.bytes (coarse_letters (lowered t) f.annotation) f.annotation
safe_spelled given l t a few v f =
    let within : length v.race.history ≤ l.rounds = v.closed.within in
    let small : length v.race.history < 2 ^ 64 = omega (arith, within, few) in
    record { rounds = length v.race.history; small = small; short = letters_are_short (lowered t) f.annotation; lines = f.lines; spelled = f.spelled }

proof_of : (given : Option (Entry Certificate)) (s : Settings) (t : TypedProgram) (a : Answer) → s.limits.rounds ≤ 100000 → ReportsVerdict given s.limits t a → a.status ≡ 0 →
    ReportsProof (lowered t) a.bytes accepted_answer
proof_of given s t a few v z =
    let f = safe_of t v.race v.verdict a v.of_end v.is z in
    of_annotation (coarse_letters (lowered t) f.annotation) f.annotation (safe_spelled given s.limits t a few v f) (accepted refl f.proves refl)

check_answer : (again : List (List ℕ)) (r s : Settings) (program second : List ℕ) (before after : Texts) (a : Answer) → r.modular ≡ false → Ask again s (Check program second) → r.limits.rounds ≤ 100000 →
    IsVerdictOf r program before a → a.status ≡ 0 → IsHandedOver program second r s before after a → Reports again after accepted_answer
check_answer again r s program second before after a off ask few d z h =
    checking s program second d.text ask (h.same ∙ d.found)
    (whole_check s.modular s.entry d.text (text_named second after) accepted_answer (h.modular ∙ off) (of_typed d.meant (subst (λ (e : List ℕ). IsTypedText e d.text d.meant) (sym h.entry) d.typed)
    (of_lowered d.lowers (of_second a.bytes h.given d.short (proof_of d.given r d.meant a few d.verdict z)))))

-- words that ask for a check have no two verdicts, and an answer of status 0 is no typing refusal
pub one_of_check : (words : List (List ℕ)) (s : Settings) (program second : List ℕ) (texts : Texts) (a b : Answer) → Ask words s (Check program second) → a.status ≡ 0 →
    AreOne words texts a b → b ≡ a
one_of_check words s program second texts a b ask z one =
    one_of_task words texts s (Check program second) a b ask (λ (e : 0 ≡ 3). omega arith) (λ (e : 0 ≡ 4). omega arith) (λ (e : 0 ≡ 5). omega arith) z one

-- status 0 refuses no earlier annotation
told_zero : (s : Settings) (program : List ℕ) (texts : Texts) (a : Answer) → IsTold s program texts a → a.status ≡ 0 → IsVerdictOf s program texts a
told_zero s program texts a (inl r) z = absurd (let e : 1 ≡ 0 = sym (ap (λ (b : Answer). b.status) r.6) ∙ z in omega arith)
told_zero s program texts a (inr d) z = d

pub check_accepts : (words again : List (List ℕ)) (r s : Settings) (program second : List ℕ) (before after : Texts) (a b : Answer) → r.modular ≡ false → Ask words r (Verify program) →
    Ask again s (Check program second) → Reports words before a → a.status ≡ 0 → IsHandedOver program second r s before after a → Reports again after b → b ≡ accepted_answer
check_accepts words again r s program second before after a b off ask asked given z h gives =
    let below : a.status < 3 = omega (arith, z) in
    let few = rounds_fit words (record { task = Verify program; settings = r }) ask in
    let first = check_answer again r s program second before after a off asked few (told_zero r program before a (verdict_of words r program before a ask off given below) z) z h in
    one_of_check again s program second after accepted_answer b asked refl (report_once again after accepted_answer b first gives)

-- ---- `unsafe`

-- the bytes are the text of a failure that replays
pub record IsUnsafeOf (t : TypedProgram) (a : Answer) : Type 0 where
  pub failure : PlainFailure
  pub id : AssertId
  pub read : IsFailureText a.bytes failure
  pub replays : IsReplayed t failure.steps failure.choices id

failing : (t : TypedProgram) (r : Race Certificate) (f : Failure) (a : Answer) → IsFailureOf t r f → a ≡ verdict_answer r (Unsafe f) → IsUnsafeOf t a
failing t r f a h is = record {
  failure = plain f;
  id = f.id;
  read = record { bounds = h.failure.bounds; spelled = ap (λ (b : Answer). b.bytes) is };
  replays = subst (λ (zs : List ℤ). IsReplayed t f.trail.steps zs f.id) (sym h.failure.values_are) h.failure.replays;
}

pub unsafe_of : (t : TypedProgram) (r : Race Certificate) (v : Verdict) (a : Answer) → IsVerdict t r v → a ≡ verdict_answer r v → a.status ≡ 1 → IsUnsafeOf t a
unsafe_of t r (Safe coarse w) a h is z = absurd (let e : 0 ≡ 1 = sym (ap (λ (b : Answer). b.status) is) ∙ z in omega arith)
unsafe_of t r (Unsafe f) a h is z = failing t r f a h is
unsafe_of t r (Unknown cause w) a h is z = absurd (let e : 2 ≡ 1 = sym (ap (λ (b : Answer). b.status) is) ∙ z in omega arith)

replay_answer : (again : List (List ℕ)) (r s : Settings) (program second : List ℕ) (before after : Texts) (a : Answer) → r.modular ≡ false → Ask again s (Replay program second) →
    (d : IsVerdictOf r program before a) (u : IsUnsafeOf d.meant a) → IsHandedOver program second r s before after a → Reports again after (replayed_answer u.id)
replay_answer again r s program second before after a off ask d u h =
    replaying s program second d.text ask (h.same ∙ d.found)
    (whole_replay s.modular s.entry d.text (text_named second after) (replayed_answer u.id) (h.modular ∙ off) (of_typed d.meant (subst (λ (e : List ℕ). IsTypedText e d.text d.meant) (sym h.entry) d.typed)
    (of_second a.bytes h.given d.short (replayed u.failure u.id u.read u.replays refl))))

pub one_of_replay : (words : List (List ℕ)) (s : Settings) (program second : List ℕ) (texts : Texts) (a b : Answer) → Ask words s (Replay program second) → a.status ≡ 0 →
    AreOne words texts a b → b ≡ a
one_of_replay words s program second texts a b ask z one =
    one_of_task words texts s (Replay program second) a b ask (λ (e : 1 ≡ 3). omega arith) (λ (e : 1 ≡ 4). omega arith) (λ (e : 1 ≡ 5). omega arith) z one

pub replay_replays : (words again : List (List ℕ)) (r s : Settings) (program second : List ℕ) (before after : Texts) (a b : Answer) → r.modular ≡ false → Ask words r (Verify program) →
    Ask again s (Replay program second) → Reports words before a → a.status ≡ 1 → IsHandedOver program second r s before after a → Reports again after b →
    RefusesEarlier r before a ⊎ ((id : AssertId) × (b ≡ replayed_answer id))
replay_replays words again r s program second before after a b off ask asked given z h gives =
    let below : a.status < 3 = omega (arith, z) in
    by_told (verdict_of words r program before a ask off given below)
  where
    by_told : IsTold r program before a → RefusesEarlier r before a ⊎ ((id : AssertId) × (b ≡ replayed_answer id))
    by_told (inl refusal) = inl refusal
    by_told (inr d) =
        let u = unsafe_of d.meant d.verdict.race d.verdict.verdict a d.verdict.of_end d.verdict.is z in
        inr (
          u.id,
          one_of_replay again s program second after (replayed_answer u.id) b asked refl
              (report_once again after (replayed_answer u.id) b (replay_answer again r s program second before after a off asked d u h) gives),
        )
