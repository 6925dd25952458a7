-- What a verdict says is so. Two verdicts on one program do not contradict each other, and where it has no error word the verdict is `safe` after no
-- round.
use Rattle.std.proofs.Common.{◌≡◌, ℕ, ℤ, List, [], ◌∷◌, length, Option, None, Some, inl, inr, ap, refl, sym, ◌∙◌, subst, arith}
use Rattle.std.specs.Prelude.{IfSome, IsTrue}
use Rattle.std.specs.List.{AllByRecursion}
use Rattle.std.specs.declared.vec.Vec.{Vec}
use Rattle.std.specs.declared.alloc.Global.{Global}
use Rattle.nwa_base.specs.declared.letters.Letter.{Letter}
use Rattle.nwa_base.specs.Automata.{Automaton}
use Rattle.nwa_base.specs.Acceptance.{Accepts}
use Rattle.letter_acts.specs.Acts.{Alphabet}
use Rattle.letter_acts.specs.Feasible.{IsFeasible}
use Rattle.letter_acts.specs.Invariant.{alphabet_of}
use Rattle.typed_tree.specs.TypedTree.{TypedProgram}
use Rattle.typed_tree.specs.TypingRules.ValidProgram.{is_valid}
use Rattle.boogie_run.specs.RunRules.Runs.{Fails, IsSafe}
use Rattle.lowered_graph.specs.Lowered.{lowered}
use Rattle.lowered_graph.specs.Laws.{LoweringIsFaithful}
use Rattle.trace_replay.specs.Replays.{Replays}
use Rattle.proof_form.specs.Annotations.{Content, safe_text}
use Rattle.proof_names.specs.CoarseLines.CoarseLetters.{coarse_letters}
use Rattle.race_core.specs.declared.ends.End.{End}
use Rattle.race_core.specs.declared.ends.End.TheVariants as ends
use Rattle.race_core.specs.declared.events.Entry.{Entry}
use Rattle.race_core.specs.Histories.{Removed, IsLegal}
use Rattle.race_core.specs.Races.{Race}
use Rattle.itp_automaton.specs.Certified.{Certificate, IsCertified, IsFeasibleFor}
use Rattle.race_rounds.specs.declared.limits.Limits.{Limits}
use Rattle.race_rounds.specs.Ends.{WordIsKept, EndMeets, no_word, one_word}
use Rattle.race_rounds.specs.Rounds.{automaton_in, IsOwn, AreOwn, IsRaceOf}
use Rattle.race_verdicts.specs.declared.verdicts.Verdict.{Verdict}
use Rattle.race_verdicts.specs.declared.verdicts.Verdict.TheVariants.{Safe, Unsafe, Unknown}
use Rattle.race_verdicts.specs.Verdicts.{IsVerdict}
use Rattle.text_reports.specs.ReportTexts.{Answer}
use Rattle.automizer_top.specs.ReportTexts.{verdict_answer}
use Rattle.automizer_top.specs.Report.{ReportsVerdict}
use Rattle.automizer_top.specs.ReportClaims.{PrintsFailure}
use Rattle.text_reports.proofs.SafetyLaws.{faithful_is_safe}
use Rattle.automizer_top.proofs.ConfirmedLaws.{unsafe_of}

-- no word that a certified automaton accepts is feasible
abbrev pub CertifiedIsInfeasible : Type 0
CertifiedIsInfeasible = (al : Alphabet) (c : Certificate) → IsCertified al c → (w : List Letter) → Accepts c.automaton w → IsFeasible al w → ⊥

-- an end that the race has is met
met : (t : TypedProgram) (given : Option (Entry Certificate)) (limits : Limits) (r : Race Certificate) (e : End) → IsRaceOf t given limits r → r.end ≡ Some e → EndMeets automaton_in t limits r.history e
met t given limits r e race is = subst (λ (x : Option End). IfSome x (EndMeets automaton_in t limits r.history)) is race.end

-- ---- safe and unsafe

removed_is_infeasible : CertifiedIsInfeasible → (t : TypedProgram) (h : List (Entry Certificate)) (w : List Letter) → AllByRecursion (IsOwn t) h →
    IsFeasible (alphabet_of (lowered t)) w → Removed automaton_in h w → ⊥
removed_is_infeasible law t [] w own f r = r
removed_is_infeasible law t (e ∷ h) w own f (inl a) = law (alphabet_of (lowered t)) e.evidence own.0.certified w a f
removed_is_infeasible law t (e ∷ h) w own f (inr r) = removed_is_infeasible law t h w own.1 f r

-- nor does the automaton of the entry that was given
none_removed : CertifiedIsInfeasible → (t : TypedProgram) (given : Option (Entry Certificate)) (h : List (Entry Certificate)) (w : List Letter) → AreOwn t given h →
    IsFeasible (alphabet_of (lowered t)) w → Removed automaton_in h w → ⊥
none_removed law t None h w own f r = removed_is_infeasible law t h w own f r
none_removed law t (Some e) [] w own f r = r
none_removed law t (Some e) (x ∷ h) w own f (inl a) =
    law (alphabet_of (lowered t)) e.evidence own.1.certified w (subst (λ (y : Entry Certificate). Accepts y.evidence.automaton w) own.0 a) f
none_removed law t (Some e) (x ∷ h) w own f (inr r) = removed_is_infeasible law t h w own.2 f r

none_kept : (t : TypedProgram) (limits : Limits) (h : List (Entry Certificate)) → EndMeets automaton_in t limits h ends.Safe → (w : List Letter) →
    WordIsKept automaton_in (lowered t).automaton h w → ⊥
none_kept t limits h (no_word e n) w k = n w k
none_kept t limits h (one_word v k s) w x = absurd s

record IsErrorWord (t : TypedProgram) (w : List Letter) : Type 0 where
  pub accepted : Accepts (lowered t).automaton w
  pub feasible : IsFeasible (alphabet_of (lowered t)) w

error_word : (t : TypedProgram) (limits : Limits) (h : List (Entry Certificate)) (w : List Letter) (steps : ℕ) (choices : Vec ℤ Global) →
    EndMeets automaton_in t limits h (ends.Unsafe w steps choices) → (v : List Letter) × IsErrorWord t v
error_word t limits h w steps choices (no_word e n) = absurd (cc)
error_word t limits h w steps choices (one_word v k s) = (v, record { accepted = k.error; feasible = s.1 })

ends_safe : (t : TypedProgram) (r : Race Certificate) (v : Verdict) (a : Answer) → IsVerdict t r v → a ≡ verdict_answer r v → a.status ≡ 0 → r.end ≡ Some ends.Safe
ends_safe t r (Safe coarse w) a h is z = h.0
ends_safe t r (Unsafe f) a h is z = absurd (let e : 1 ≡ 0 = sym (ap (λ (b : Answer). b.status) is) ∙ z in omega arith)
ends_safe t r (Unknown cause w) a h is z = absurd (let e : 2 ≡ 0 = sym (ap (λ (b : Answer). b.status) is) ∙ z in omega arith)

fails_at : (t : TypedProgram) (given : Option (Entry Certificate)) (limits : Limits) (r : Race Certificate) (v : Verdict) (a : Answer) → IsRaceOf t given limits r → IsVerdict t r v → a ≡ verdict_answer r v → a.status ≡ 1 →
    (w : List Letter) × IsErrorWord t w
fails_at t given limits r (Safe coarse w) a race h is z = absurd (let e : 0 ≡ 1 = sym (ap (λ (b : Answer). b.status) is) ∙ z in omega arith)
fails_at t given limits r (Unsafe f) a race h is z = error_word t limits r.history h.word f.trail.steps h.choices (met t given limits r (ends.Unsafe h.word f.trail.steps h.choices) race h.end)
fails_at t given limits r (Unknown cause w) a race h is z = absurd (let e : 2 ≡ 1 = sym (ap (λ (b : Answer). b.status) is) ∙ z in omega arith)

pub never_both : CertifiedIsInfeasible → (given other : Option (Entry Certificate)) (limits p : Limits) (t : TypedProgram) (a b : Answer) → ReportsVerdict given limits t a →
    ReportsVerdict other p t b → a.status ≡ 0 → b.status ≡ 1 → ⊥
never_both law given other limits p t a b v u z s =
    let safe = met t given limits v.race ends.Safe v.closed.race (ends_safe t v.race v.verdict a v.of_end v.is z) in
    let e = fails_at t other p u.race u.verdict b u.closed.race u.of_end u.is s in
    none_kept t limits v.race.history safe e.0
    (record { error = e.1.accepted; left = λ r. none_removed law t given v.race.history e.0 v.closed.race.own e.1.feasible r })

-- ---- what a verdict says is so

pub safe_is_true : CertifiedIsInfeasible → LoweringIsFaithful → (given : Option (Entry Certificate)) (limits : Limits) (t : TypedProgram) (a : Answer) → IsTrue (is_valid t) →
    ReportsVerdict given limits t a → a.status ≡ 0 → IsSafe t
safe_is_true law faithful given limits t a valid v z =
    let safe = met t given limits v.race ends.Safe v.closed.race (ends_safe t v.race v.verdict a v.of_end v.is z) in
    faithful_is_safe t (lowered t) refl (faithful t valid)
    (λ w accepted feasible. none_kept t limits v.race.history safe w
    (record { error = accepted; left = λ r. none_removed law t given v.race.history w v.closed.race.own feasible r }))

-- what replays is a run that fails
abbrev pub WhatReplaysFails : Type 0
WhatReplaysFails = (t : TypedProgram) (n : ℕ) (choices : List ℤ) (i : ℕ) → Replays t n choices i → Fails t i

pub unsafe_is_true : WhatReplaysFails → (given : Option (Entry Certificate)) (limits : Limits) (t : TypedProgram) (a : Answer) → ReportsVerdict given limits t a → a.status ≡ 1 →
    PrintsFailure t a
unsafe_is_true law given limits t a v z =
    let u = unsafe_of t v.race v.verdict a v.of_end v.is z in
    (u.failure, u.id, law t u.failure.steps u.failure.choices u.id.number u.replays.replays, u.read, u.replays)

-- ---- no error word

abbrev pub HasNoWord : TypedProgram → Type 0
HasNoWord t = (w : List Letter) → Accepts (lowered t).automaton w → ⊥

no_entry : (t : TypedProgram) (p : Automaton) (h : List (Entry Certificate)) → p ≡ (lowered t).automaton → HasNoWord t → IsLegal automaton_in IsFeasibleFor p h → h ≡ []
no_entry t p [] is none l = refl
no_entry t p (e ∷ h) is none l = absurd (none e.word (subst (λ (m : Automaton). Accepts m e.word) is l.0.error))

only_safe : (t : TypedProgram) (limits : Limits) (h : List (Entry Certificate)) (e : End) → HasNoWord t → EndMeets automaton_in t limits h e → e ≡ ends.Safe
only_safe t limits h e none (no_word is n) = is
only_safe t limits h e none (one_word w k s) = absurd (none w k.error)

safe_at_once : (t : TypedProgram) (given : Option (Entry Certificate)) (limits : Limits) (r : Race Certificate) (v : Verdict) (a : Answer) → HasNoWord t → IsRaceOf t given limits r → r.history ≡ [] → IsVerdict t r v →
    a ≡ verdict_answer r v → (w : Content) × (a.bytes ≡ safe_text 0 (coarse_letters (lowered t) w) w) × (a.status ≡ 0)
safe_at_once t given limits r (Safe coarse w) a none race empty h is =
    (w, ap (λ (b : Answer). b.bytes) is ∙ ap (λ (x : List (Entry Certificate)). safe_text (length x) coarse.items w) empty ∙ ap (λ (ns : List ℕ). safe_text 0 ns w) h.3, ap (λ (b : Answer). b.status) is)
safe_at_once t given limits r (Unsafe f) a none race empty h is =
    absurd (let e = only_safe t limits r.history (ends.Unsafe h.word f.trail.steps h.choices) none (met t given limits r (ends.Unsafe h.word f.trail.steps h.choices) race h.end) in let no : ⊥ = cc in no)
safe_at_once t given limits r (Unknown cause w) a none race empty h is =
    absurd (let e = only_safe t limits r.history (ends.Unknown cause w) none (met t given limits r (ends.Unknown cause w) race h) in let no : ⊥ = cc in no)

pub without_error_words : (given : Option (Entry Certificate)) (limits : Limits) (t : TypedProgram) (a : Answer) → ReportsVerdict given limits t a → HasNoWord t →
    (w : Content) × (a.bytes ≡ safe_text 0 (coarse_letters (lowered t) w) w) × (a.status ≡ 0)
without_error_words given limits t a v none =
    safe_at_once t given limits v.race v.verdict a none v.closed.race (no_entry t v.race.program v.race.history v.closed.race.program none v.closed.legal) v.of_end v.is
