-- What `verify` writes by parts is confirmed: `check` accepts it where all parts are safe, and `replay` replays it where one is unsafe.
use Rattle.std.proofs.Common.{◌≡◌, ℕ, ◌+◌, ◌<◌, ◌≤◌, List, [], ◌∷◌, ◌++◌, length, Bool, true, false, Option, None, Some, ◌⊎◌, inr, ap, refl, sym, ◌∙◌, subst, arith}
use Rattle.std.proofs.lemmas.Bool.{false≢true}
use Rattle.std.proofs.lemmas.List.{length-append}
use Rattle.outer_io.specs.Texts.{text_named}
use Rattle.boogie_run.specs.declared.types.AssertId.{AssertId}
use Rattle.typed_tree.specs.TypedTree.{TypedProgram}
use Rattle.modular_cut.specs.Parts.{PlainPart, parts_of}
use Rattle.modular_cut.specs.FreeConditions.{free_spans}
use Rattle.lowered_graph.specs.Lowered.{lowered}
use Rattle.proof_names.specs.CoarseLines.CoarseLetters.{coarse_letters}
use Rattle.race_rounds.specs.declared.limits.Limits.{Limits}
use Rattle.automizer_top.specs.CommandLine.{Check, Replay, Verify, Settings}
use Rattle.automizer_top.specs.PartTexts.{modular_line, part_line, front_lines, front_text, rest_text}
use Rattle.text_reports.specs.ReportTexts.{Answer, accepted_answer, replayed_answer}
use Rattle.automizer_top.specs.Report.{second_limit, Ask, IsTypedText, refused, of_typed, of_second, IsSafeText, replayed, ReportsVerdict, ReportsCheckBy, ReportsReplayBy, ReportsVerifyBy, Reports, checking, replaying}
use Rattle.automizer_top.specs.Parts.{free, of_parts, first_part_fault, part_unlowered, parts_lowered, AreSafe, part_texts, ReportsParts, all_safe, one_is_not, ReportsVerifyParts, ProvesPart, right_part, ChecksParts, of_part_proofs, ReportsPartProofs, ReportsCheckParts, of_part_failure, ReportsReplayParts}
use Rattle.automizer_top.specs.ReportClaims.{RefusesEarlier, IsHandedOver}
use Rattle.automizer_top.specs.PartClaims.{AreVerdictsOn}
use Rattle.text_reports.proofs.RefusalLaws.{typed_is_three}
use Rattle.automizer_top.proofs.RequestLaws.{rounds_fit}
use Rattle.automizer_top.proofs.TaskLaws.{task_reported}
use Rattle.automizer_top.proofs.ReportUnique.{report_once}
use Rattle.automizer_top.proofs.ConfirmedLaws.{Texts, safe_of, safe_spelled, one_of_check, IsUnsafeOf, unsafe_of, one_of_replay, check_accepts, replay_replays}
use Rattle.text_reports.proofs.ProofOnce.{fits_in_memory}
use Rattle.automizer_top.proofs.PartFronts.{behind_append, safe_is_front}
use Rattle.automizer_top.proofs.PartNames.{part_is_named}

-- ---- a status below 3 is that of verdicts on parts

record ArePartsOf (s : Settings) (program : List ℕ) (texts : Texts) (a : Answer) : Type 0 where
  pub text : List ℕ
  pub meant : TypedProgram
  pub found : text_named program texts ≡ Some text
  pub typed : IsTypedText s.entry text meant
  pub none_free : free_spans meant ≡ []
  pub lowers : first_part_fault (parts_of meant) ≡ None
  pub verdicts : ReportsParts s.limits (parts_of meant) a
  pub short : length a.bytes ≤ second_limit

not_three : (n : ℕ) → n ≡ 3 → n < 3 → ⊥
not_three n e l = omega arith

of_text : (s : Settings) (program text : List ℕ) (texts : Texts) (a : Answer) → text_named program texts ≡ Some text → ReportsVerifyParts s.entry s.limits text a → a.status < 3 →
    ArePartsOf s program texts a
of_text s program text texts a found (refused r) l = absurd (not_three a.status (typed_is_three s.entry text a r) l)
of_text s program text texts a found (of_typed t w (free at first is)) l = absurd (not_three a.status (ap (λ (b : Answer). b.status) is) l)
of_text s program text texts a found (of_typed t w (of_parts none (part_unlowered f first is))) l = absurd (not_three a.status (ap (λ (b : Answer). b.status) is) l)
of_text s program text texts a found (of_typed t w (of_parts none (parts_lowered lowers (v, few)))) l =
    record { text = text; meant = t; found = found; typed = w; none_free = none; lowers = lowers; verdicts = v; short = few }

-- with the flag it is the parts that are answered for
parts_verify : (m : Bool) (reuse : Option (List ℕ)) (texts : Texts) (entry : List ℕ) (l : Limits) (text : List ℕ) (a : Answer) → m ≡ true → ReportsVerifyBy m reuse texts entry l text a →
    ReportsVerifyParts entry l text a
parts_verify true reuse texts entry l text a on r = r
parts_verify false reuse texts entry l text a on r = absurd (false≢true on)

parts_check : (m : Bool) (entry text : List ℕ) (second : Option (List ℕ)) (a : Answer) → m ≡ true → ReportsCheckParts entry text second a → ReportsCheckBy m entry text second a
parts_check true entry text second a on r = r
parts_check false entry text second a on r = absurd (false≢true on)

parts_replay : (m : Bool) (entry text : List ℕ) (second : Option (List ℕ)) (a : Answer) → m ≡ true → ReportsReplayParts entry text second a → ReportsReplayBy m entry text second a
parts_replay true entry text second a on r = r
parts_replay false entry text second a on r = absurd (false≢true on)

verdicts_of : (words : List (List ℕ)) (s : Settings) (program : List ℕ) (texts : Texts) (a : Answer) → Ask words s (Verify program) → s.modular ≡ true → Reports words texts a → a.status < 3 →
    ArePartsOf s program texts a
verdicts_of words s program texts a ask on given l =
    let r = task_reported words texts a s (Verify program) ask given in
    of_text s program r.0 texts a r.1 (parts_verify s.modular s.reuse texts s.entry s.limits r.0 a on r.2) l

-- so they are verdicts on the parts of the program of the text
pub parts_told : (words : List (List ℕ)) (texts : Texts) (s : Settings) (program : List ℕ) (a : Answer) → Ask words s (Verify program) → s.modular ≡ true → Reports words texts a → a.status < 3 →
    (t : TypedProgram) × AreVerdictsOn words texts t a
parts_told words texts s program a ask on given l =
    let d = verdicts_of words s program texts a ask on given l in
    (d.meant, (s, program, d.text, ask, on, d.found, d.typed, d.verdicts))

-- ---- all parts are safe

-- the text of a safe verdict is the annotation at the front of what follows it
record IsAnnotated (t : TypedProgram) (a : Answer) (more : List ℕ) : Type 0 where
  pub proves : ProvesPart (lowered t) (front_text (a.bytes ++ more))
  pub rest : rest_text (a.bytes ++ more) ≡ more

annotated : (l : Limits) (t : TypedProgram) (a : Answer) (more : List ℕ) → l.rounds ≤ 100000 → ReportsVerdict None l t a → a.status ≡ 0 → length a.bytes ≤ second_limit → IsAnnotated t a more
annotated l t a more small v z few =
    let f = safe_of t v.race v.verdict a v.of_end v.is z in
    let letters : List ℕ = coarse_letters (lowered t) f.annotation in
    let s : IsSafeText a.bytes letters f.annotation = safe_spelled None l t a small v f in
    let front = safe_is_front s.rounds letters f.annotation more s.small s.short s.lines (fits_in_memory a.bytes letters f.annotation s few) in
    let text : front_text (a.bytes ++ more) ≡ a.bytes =
    subst (λ (bytes : List ℕ). front_text (bytes ++ more) ≡ bytes) (sym s.spelled) front.0 in
    let own : ProvesPart (lowered t) a.bytes = record { coarse = letters; annotation = f.annotation; spelled = s; letters = refl; proves = f.proves } in
    record {
      proves = subst (ProvesPart (lowered t)) (sym text) own;
      rest = subst (λ (bytes : List ℕ). rest_text (bytes ++ more) ≡ more) (sym s.spelled) front.1;
    }

-- a front and what is behind it are no longer than the whole
front_length : (x y z : List ℕ) (n : ℕ) → length (x ++ (y ++ z)) ≤ n → (length y ≤ n) × (length z ≤ n)
front_length x y z n h =
    let a : length (x ++ (y ++ z)) ≡ length x + length (y ++ z) = length-append x (y ++ z) in
    let b : length (y ++ z) ≡ length y + length z = length-append y z in
    (omega (arith, a, b, h), omega (arith, a, b, h))

checks_all : (l : Limits) (ps : List PlainPart) (bs : List Answer) (before : ℕ) → l.rounds ≤ 100000 → AreSafe l ps bs → length (part_texts ps bs) ≤ second_limit →
    ChecksParts ps before (part_texts ps bs) accepted_answer
checks_all l [] [] before small h few = refl
checks_all l [] (b ∷ bs) before small h few = absurd h
checks_all l (p ∷ ps) [] before small h few = absurd h
checks_all l (p ∷ ps) (b ∷ bs) before small h few =
    let more : List ℕ = part_texts ps bs in
    let short = front_length (part_line p.name) b.bytes more second_limit few in
    let n = annotated l p.program b more small h.0 h.1 short.0 in
    right_part (b.bytes ++ more) (behind_append (part_line p.name) (b.bytes ++ more)) n.proves
    (subst (λ (rest : List ℕ). ChecksParts ps (before + 1 + length (front_lines (b.bytes ++ more))) rest accepted_answer) (sym n.rest)
    (checks_all l ps bs (before + 1 + length (front_lines (b.bytes ++ more))) small h.2 short.1))

no_zero : (b : Answer) (n : ℕ) → n ≡ b.status → n ≡ 0 → (b.status ≡ 0 → ⊥) → ⊥
no_zero b n e z other = other (sym e ∙ z)

behind_length : (x y : List ℕ) (n : ℕ) → length (x ++ y) ≤ n → length y ≤ n
behind_length x y n h = let a : length (x ++ y) ≡ length x + length y = length-append x y in omega (arith, a, h)

proofs_of : (l : Limits) (ps : List PlainPart) (a : Answer) → l.rounds ≤ 100000 → ReportsParts l ps a → a.status ≡ 0 → length a.bytes ≤ second_limit → ReportsPartProofs ps a.bytes accepted_answer
proofs_of l ps a small (all_safe bs h is) z few =
    let bytes : a.bytes ≡ modular_line (length ps) ++ part_texts ps bs = ap (λ (b : Answer). b.bytes) is in
    let short : length (part_texts ps bs) ≤ second_limit = behind_length (modular_line (length ps)) (part_texts ps bs) second_limit (subst (λ (x : List ℕ). length x ≤ second_limit) bytes few) in
    subst (λ (x : List ℕ). ReportsPartProofs ps x accepted_answer) (sym bytes)
    (of_part_proofs (part_texts ps bs) (behind_append (modular_line (length ps)) (part_texts ps bs)) (checks_all l ps bs 1 small h short))
proofs_of l ps a small (one_is_not before after p bs b same h v other is) z few = absurd (no_zero b a.status (ap (λ (c : Answer). c.status) is) z other)

check_answer : (again : List (List ℕ)) (r s : Settings) (program second : List ℕ) (before after : Texts) (a : Answer) → r.modular ≡ true → Ask again s (Check program second) → r.limits.rounds ≤ 100000 →
    ArePartsOf r program before a → a.status ≡ 0 → IsHandedOver program second r s before after a → Reports again after accepted_answer
check_answer again r s program second before after a on ask small d z h =
    checking s program second d.text ask (h.same ∙ d.found)
    (parts_check s.modular s.entry d.text (text_named second after) accepted_answer (h.modular ∙ on)
    (of_typed d.meant (subst (λ (e : List ℕ). IsTypedText e d.text d.meant) (sym h.entry) d.typed)
    (of_parts d.none_free (parts_lowered d.lowers (of_second a.bytes h.given d.short (proofs_of r.limits (parts_of d.meant) a small d.verdicts z d.short))))))

check_accepts_parts : (words again : List (List ℕ)) (r s : Settings) (program second : List ℕ) (before after : Texts) (a b : Answer) → r.modular ≡ true → Ask words r (Verify program) →
    Ask again s (Check program second) → Reports words before a → a.status ≡ 0 → IsHandedOver program second r s before after a → Reports again after b → b ≡ accepted_answer
check_accepts_parts words again r s program second before after a b on ask asked given z h gives =
    let below : a.status < 3 = omega (arith, z) in
    let few = rounds_fit words (record { task = Verify program; settings = r }) ask in
    let first = check_answer again r s program second before after a on asked few (verdicts_of words r program before a ask on given below) z h in
    one_of_check again s program second after accepted_answer b asked refl (report_once again after accepted_answer b first gives)

-- ---- one is unsafe

-- the bytes are the line of a part and the text of a failure that replays in it
record IsUnsafePart (t : TypedProgram) (a : Answer) : Type 0 where
  pub before : List PlainPart
  pub after : List PlainPart
  pub part : PlainPart
  pub split : parts_of t ≡ before ++ part ∷ after
  pub own : Answer
  pub fails : IsUnsafeOf part.program own
  pub verdict_is : own.status ≡ 1
  pub spelled : a.bytes ≡ part_line part.name ++ own.bytes

zero_or_one : (a : Answer) → a.status ≡ 0 → a.status ≡ 1 → ⊥
zero_or_one a e f = omega (arith, e, f)

unsafe_part : (l : Limits) (t : TypedProgram) (a : Answer) → ReportsParts l (parts_of t) a → a.status ≡ 1 → IsUnsafePart t a
unsafe_part l t a (all_safe bs h is) z = absurd (zero_or_one a (ap (λ (b : Answer). b.status) is) z)
unsafe_part l t a (one_is_not before after p bs b same h v other is) z =
    let status : b.status ≡ 1 = sym (ap (λ (c : Answer). c.status) is) ∙ z in
    record {
      before = before;
      after = after;
      part = p;
      split = same;
      own = b;
      fails = unsafe_of p.program v.race v.verdict b v.of_end v.is status;
      verdict_is = status;
      spelled = ap (λ (c : Answer). c.bytes) is;
    }

replay_answer : (again : List (List ℕ)) (r s : Settings) (program second : List ℕ) (before after : Texts) (a : Answer) → r.modular ≡ true → Ask again s (Replay program second) →
    (d : ArePartsOf r program before a) (u : IsUnsafePart d.meant a) → IsHandedOver program second r s before after a → Reports again after (replayed_answer u.fails.id)
replay_answer again r s program second before after a on ask d u h =
    let typed : IsTypedText s.entry d.text d.meant = subst (λ (e : List ℕ). IsTypedText e d.text d.meant) (sym h.entry) d.typed in
    replaying s program second d.text ask (h.same ∙ d.found)
    (parts_replay s.modular s.entry d.text (text_named second after) (replayed_answer u.fails.id) (h.modular ∙ on)
    (of_typed d.meant typed
    (of_parts d.none_free (of_second (part_line u.part.name ++ u.own.bytes) (h.given ∙ ap (λ (x : List ℕ). Some x) u.spelled) (subst (λ (x : List ℕ). length x ≤ second_limit) u.spelled d.short)
    (of_part_failure u.part u.own.bytes u.fails.failure (part_is_named typed.tree s.entry d.meant u.before u.after u.part u.own.bytes typed.typed u.split) u.fails.read
    (replayed u.fails.failure u.fails.id u.fails.read u.fails.replays refl))))))

replay_replays_parts : (words again : List (List ℕ)) (r s : Settings) (program second : List ℕ) (before after : Texts) (a b : Answer) → r.modular ≡ true → Ask words r (Verify program) →
    Ask again s (Replay program second) → Reports words before a → a.status ≡ 1 → IsHandedOver program second r s before after a → Reports again after b →
    (id : AssertId) × (b ≡ replayed_answer id)
replay_replays_parts words again r s program second before after a b on ask asked given z h gives =
    let below : a.status < 3 = omega (arith, z) in
    let d = verdicts_of words r program before a ask on given below in
    let u = unsafe_part r.limits d.meant a d.verdicts z in (
      u.fails.id,
      one_of_replay again s program second after (replayed_answer u.fails.id) b asked refl
          (report_once again after (replayed_answer u.fails.id) b (replay_answer again r s program second before after a on asked d u h) gives),
    )

-- ---- with the flag or without

check_by : (m : Bool) (words again : List (List ℕ)) (r s : Settings) (program second : List ℕ) (before after : Texts) (a b : Answer) → r.modular ≡ m → Ask words r (Verify program) →
    Ask again s (Check program second) → Reports words before a → a.status ≡ 0 → IsHandedOver program second r s before after a → Reports again after b → b ≡ accepted_answer
check_by true words again r s program second before after a b m = check_accepts_parts words again r s program second before after a b m
check_by false words again r s program second before after a b m = check_accepts words again r s program second before after a b m

pub verify_is_accepted : (words again : List (List ℕ)) (r s : Settings) (program second : List ℕ) (before after : Texts) (a b : Answer) → Ask words r (Verify program) →
    Ask again s (Check program second) → Reports words before a → a.status ≡ 0 → IsHandedOver program second r s before after a → Reports again after b → b ≡ accepted_answer
verify_is_accepted words again r s program second before after a b = check_by r.modular words again r s program second before after a b refl

replay_by : (m : Bool) (words again : List (List ℕ)) (r s : Settings) (program second : List ℕ) (before after : Texts) (a b : Answer) → r.modular ≡ m → Ask words r (Verify program) →
    Ask again s (Replay program second) → Reports words before a → a.status ≡ 1 → IsHandedOver program second r s before after a → Reports again after b →
    RefusesEarlier r before a ⊎ ((id : AssertId) × (b ≡ replayed_answer id))
replay_by true words again r s program second before after a b m = λ ask asked given z h gives.
    inr (replay_replays_parts words again r s program second before after a b m ask asked given z h gives)
replay_by false words again r s program second before after a b m = replay_replays words again r s program second before after a b m

pub verify_is_replayed : (words again : List (List ℕ)) (r s : Settings) (program second : List ℕ) (before after : Texts) (a b : Answer) → Ask words r (Verify program) →
    Ask again s (Replay program second) → Reports words before a → a.status ≡ 1 → IsHandedOver program second r s before after a → Reports again after b →
    RefusesEarlier r before a ⊎ ((id : AssertId) × (b ≡ replayed_answer id))
verify_is_replayed words again r s program second before after a b = replay_by r.modular words again r s program second before after a b refl
