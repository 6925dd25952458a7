-- What is answered by parts: which answers have the status 0, which begin as `accepted` does, and that none is that of faulty words.
use Rattle.std.proofs.Common.{◌≡◌, ◌⊎◌, ℕ, suc, ◌+◌, ◌<◌, List, [], ◌∷◌, ◌++◌, length, Bool, true, false, Option, None, Some, ap, refl, sym, ◌∙◌, arith, inl, inr}
use Rattle.std.specs.Prelude.{codes, nat_eq, Contains, if◌then◌else◌}
use Rattle.std.specs.Option.{option_or, option_map}
use Rattle.std.proofs.lemmas.Option.{none-some, same_Some}
use Rattle.std.proofs.lemmas.Bool.{eqb-true}
use Rattle.outer_io.specs.Texts.{text_named}
use Rattle.boogie_tree.specs.declared.span.Span.{Span}
use Rattle.typed_tree.specs.TypedTree.{TypedProgram}
use Rattle.lowered_graph.specs.Items.{ItemFault, TooWide, TooBig}
use Rattle.letter_acts.specs.Invariant.{Graph}
use Rattle.lowered_graph.specs.Lowered.{lowered}
use Rattle.modular_cut.specs.Parts.{PlainPart, parts_of}
use Rattle.race_rounds.specs.declared.limits.Limits.{Limits}
use Rattle.automizer_top.specs.CommandLine.{Replay, Settings}
use Rattle.text_reports.specs.TypeRefusals.{rule_line}
use Rattle.text_reports.specs.LoweringRefusals.{lowering_refusal}
use Rattle.automizer_top.specs.PartTexts.{part_line, text_behind, front_lines, front_text, rest_text}
use Rattle.text_reports.specs.ReportTexts.{Answer, answer, accepted_answer}
use Rattle.automizer_top.specs.Report.{Ask, refused, of_typed, IsTypedText, second_too_long, of_second, ReportsFailure, no_failure, replayed, stopped}
use Rattle.automizer_top.specs.Parts.{free, of_parts, part_unlowered, parts_lowered, ReportsParts, all_safe, one_is_not, ReportsVerifyParts, RejectsPart, no_part_annotation, part_rejected, no_part_line, wrong_part, right_part, ChecksParts, ReportsPartProofs, no_modular_line, of_part_proofs, ReportsCheckParts, part_in, ReportsPartFailure, no_part, no_part_failure, of_part_failure, ReportsReplayParts}
use Rattle.automizer_top.specs.PartClaims.{PartFails}
use Rattle.text_reports.proofs.RefusalLaws.{typed_is_not_zero, too_long_is_not_zero, IsAccepted, second_letter, typed_begins, too_long_begins, failure_begins}

abbrev status_of : Answer → ℕ
status_of a = a.status

one_not_zero : (a : Answer) → a.status ≡ 1 → a.status ≡ 0 → ⊥
one_not_zero a e f = omega (arith, e, f)

three_not_zero : (a : Answer) → a.status ≡ 3 → a.status ≡ 0 → ⊥
three_not_zero a e f = omega (arith, e, f)

-- ---- annotations

rejects_is_one : (g : Graph) (before : ℕ) (text : List ℕ) (a : Answer) → RejectsPart g before text a → a.status ≡ 1
rejects_is_one g before text a (no_part_annotation line wrong is) = ap status_of is
rejects_is_one g before text a (part_rejected coarse w line cause s r is) = ap status_of is

checks_zero : (ps : List PlainPart) (before : ℕ) (left : List ℕ) (a : Answer) → ChecksParts ps before left a → a.status ≡ 0 → a ≡ accepted_answer
checks_zero [] before [] a is z = is
checks_zero [] before (b ∷ bs) a is z = absurd (one_not_zero a (ap status_of is) z)
checks_zero (p ∷ ps) before left a (no_part_line none is) z = absurd (one_not_zero a (ap status_of is) z)
checks_zero (p ∷ ps) before left a (wrong_part text e r) z = absurd (one_not_zero a (rejects_is_one (lowered p.program) (before + 1) (front_text text) a r) z)
checks_zero (p ∷ ps) before left a (right_part text e h r) z = checks_zero ps (before + 1 + length (front_lines text)) (rest_text text) a r z

proofs_zero : (ps : List PlainPart) (text : List ℕ) (a : Answer) → ReportsPartProofs ps text a → a.status ≡ 0 → a ≡ accepted_answer
proofs_zero ps text a (no_modular_line none is) z = absurd (one_not_zero a (ap status_of is) z)
proofs_zero ps text a (of_part_proofs left e r) z = checks_zero ps 1 left a r z

free_is_three : (at : Span) (a : Answer) → a ≡ answer (rule_line (codes "Free") at) 3 → a.status ≡ 3
free_is_three at a is = ap status_of is

unlowered_is_three : (f : ItemFault) (a : Answer) → a ≡ answer (lowering_refusal f) 3 → a.status ≡ 3
unlowered_is_three f a is = ap status_of is

pub check_parts_zero : (entry text : List ℕ) (second : Option (List ℕ)) (a : Answer) → ReportsCheckParts entry text second a → a.status ≡ 0 → IsAccepted entry text a
check_parts_zero entry text second a (refused r) z = absurd (typed_is_not_zero entry text a r z)
check_parts_zero entry text second a (of_typed t w (free at first is)) z = absurd (three_not_zero a (free_is_three at a is) z)
check_parts_zero entry text second a (of_typed t w (of_parts none (part_unlowered f first is))) z = absurd (three_not_zero a (unlowered_is_three f a is) z)
check_parts_zero entry text second a (of_typed t w (of_parts none (parts_lowered lowers (second_too_long x e past is)))) z = absurd (too_long_is_not_zero a is z)
check_parts_zero entry text second a (of_typed t w (of_parts none (parts_lowered lowers (of_second x e l r)))) z =
    record { meant = t; typed = w; is = proofs_zero (parts_of t) x a r z }

-- ---- verdicts

pub verify_parts_zero : (entry : List ℕ) (l : Limits) (text : List ℕ) (a : Answer) → ReportsVerifyParts entry l text a → a.status ≡ 0 → (t : TypedProgram) × IsTypedText entry text t
verify_parts_zero entry l text a (refused r) z = absurd (typed_is_not_zero entry text a r z)
verify_parts_zero entry l text a (of_typed t w (free at first is)) z = absurd (three_not_zero a (free_is_three at a is) z)
verify_parts_zero entry l text a (of_typed t w (of_parts none (part_unlowered f first is))) z = absurd (three_not_zero a (unlowered_is_three f a is) z)
verify_parts_zero entry l text a (of_typed t w (of_parts none (parts_lowered lowers r))) z = (t, w)

-- ---- failures

behind_more : (b x : ℕ) (bs xs rest : List ℕ) (t : Bool) → nat_eq b x ≡ t → (if t then text_behind bs xs else None) ≡ Some rest → (text_behind bs xs ≡ Some rest → xs ≡ bs ++ rest) → x ∷ xs ≡ (b ∷ bs) ++ rest
behind_more b x bs xs rest true same h more = λ i. sym (eqb-true b x same) i ∷ more h i
behind_more b x bs xs rest false same h more = absurd (none-some rest h)

-- a text that begins with a line is that line and what stands behind it
pub behind_is : (line text rest : List ℕ) → text_behind line text ≡ Some rest → text ≡ line ++ rest
behind_is [] text rest e = same_Some text rest e
behind_is (b ∷ bs) [] rest e = absurd (none-some rest e)
behind_is (b ∷ bs) (x ∷ xs) rest e = behind_more b x bs xs rest (nat_eq b x) refl e (behind_is bs xs rest)

either_is : (p q : PlainPart) (rest : List ℕ) (o : Option (List ℕ)) (m : Option (PlainPart × List ℕ)) → option_or (option_map (λ rest. (p, rest)) o) m ≡ Some (q, rest) →
    (m ≡ Some (q, rest)) ⊎ ((p ≡ q) × (o ≡ Some rest))
either_is p q rest None m e = inl e
either_is p q rest (Some x) m e =
    let same : (p, x) ≡ (q, rest) = same_Some (p, x) (q, rest) e in
    inr (ap (λ (y : PlainPart × List ℕ). y.0) same, ap (λ (y : PlainPart × List ℕ). Some y.1) same)

abbrev pub IsNamed : List PlainPart → List ℕ → PlainPart → List ℕ → Type 0
IsNamed ps text q rest = Contains ps q × (text ≡ part_line q.name ++ rest)

named_here : (p q : PlainPart) (ps : List PlainPart) (text rest : List ℕ) → (part_in ps text ≡ Some (q, rest)) ⊎ ((p ≡ q) × (text_behind (part_line p.name) text ≡ Some rest)) →
    (part_in ps text ≡ Some (q, rest) → IsNamed ps text q rest) → IsNamed (p ∷ ps) text q rest
named_here p q ps text rest (inl h) more =
    let n = more h in
    let k : ℕ = n.0.0 in
    let l : k < length ps = n.0.1 in
    ((suc k, omega (arith, l), n.0.2), n.1)
named_here p q ps text rest (inr h) more = ((0, omega arith, h.0), behind_is (part_line p.name) text rest h.1 ∙ ap (λ (r : PlainPart). part_line r.name ++ rest) h.0)

-- the part that a text names is one of them, and the text is its line and the rest
pub part_in_is : (ps : List PlainPart) (text : List ℕ) (q : PlainPart) (rest : List ℕ) → part_in ps text ≡ Some (q, rest) → IsNamed ps text q rest
part_in_is [] text q rest e = absurd (none-some (q, rest) e)
part_in_is (p ∷ ps) text q rest e = named_here p q ps text rest (either_is p q rest (text_behind (part_line p.name) text) (part_in ps text) e) (part_in_is ps text q rest)

fails_part : (words : List (List ℕ)) (texts : List (List ℕ × List ℕ)) (s : Settings) (program second text x : List ℕ) (t : TypedProgram) (p : PlainPart) (rest : List ℕ) (a : Answer) → s.modular ≡ true →
    Ask words s (Replay program second) → text_named program texts ≡ Some text → IsTypedText s.entry text t → text_named second texts ≡ Some x → part_in (parts_of t) x ≡ Some (p, rest) →
    ReportsFailure p.program rest a → a.status ≡ 0 → PartFails words texts
fails_part words texts s program second text x t p rest a m asked found typed e named (no_failure line fault is) z = absurd (one_not_zero a (ap status_of is) z)
fails_part words texts s program second text x t p rest a m asked found typed e named (replayed f id h r is) z =
    let parts = part_in_is (parts_of t) x p rest named in (
      program,
      second,
      text,
      rest,
      t,
      p,
      f,
      id,
      record {
        settings = s;
        asked = asked;
        modular = m;
        found = found;
        typed = typed;
        is_part = parts.0;
        told = e ∙ ap (λ (y : List ℕ). Some y) parts.1;
        read = h;
        replays = r;
      },
    )
fails_part words texts s program second text x t p rest a m asked found typed e named (stopped f step cause h k is) z = absurd (one_not_zero a (ap status_of is) z)

fails_among : (words : List (List ℕ)) (texts : List (List ℕ × List ℕ)) (s : Settings) (program second text x : List ℕ) (t : TypedProgram) (a : Answer) → s.modular ≡ true →
    Ask words s (Replay program second) → text_named program texts ≡ Some text → IsTypedText s.entry text t → text_named second texts ≡ Some x →
    ReportsPartFailure (parts_of t) x a → a.status ≡ 0 → PartFails words texts
fails_among words texts s program second text x t a m asked found typed e (no_part none is) z = absurd (one_not_zero a (ap status_of is) z)
fails_among words texts s program second text x t a m asked found typed e (no_part_failure p rest line named fault is) z = absurd (one_not_zero a (ap status_of is) z)
fails_among words texts s program second text x t a m asked found typed e (of_part_failure p rest f named h r) z =
    fails_part words texts s program second text x t p rest a m asked found typed e named r z

pub replay_parts_zero : (words : List (List ℕ)) (texts : List (List ℕ × List ℕ)) (s : Settings) (program second text : List ℕ) (a : Answer) → s.modular ≡ true → Ask words s (Replay program second) →
    text_named program texts ≡ Some text → ReportsReplayParts s.entry text (text_named second texts) a → a.status ≡ 0 → PartFails words texts
replay_parts_zero words texts s program second text a m asked found (refused r) z = absurd (typed_is_not_zero s.entry text a r z)
replay_parts_zero words texts s program second text a m asked found (of_typed t w (free at first is)) z = absurd (three_not_zero a (free_is_three at a is) z)
replay_parts_zero words texts s program second text a m asked found (of_typed t w (of_parts none (second_too_long x e past is))) z = absurd (too_long_is_not_zero a is z)
replay_parts_zero words texts s program second text a m asked found (of_typed t w (of_parts none (of_second x e l r))) z =
    fails_among words texts s program second text x t a m asked found w e r z

-- ---- the second letter

e_not_c : (a : Answer) → second_letter a ≡ 101 → second_letter a ≡ 99 → ⊥
e_not_c a e f = omega (arith, e, f)

o_not_c : (a : Answer) → second_letter a ≡ 111 → second_letter a ≡ 99 → ⊥
o_not_c a e f = omega (arith, e, f)

a_not_c : (a : Answer) → second_letter a ≡ 97 → second_letter a ≡ 99 → ⊥
a_not_c a e f = omega (arith, e, f)

free_begins : (at : Span) (a : Answer) → a ≡ answer (rule_line (codes "Free") at) 3 → second_letter a ≡ 99 → ⊥
free_begins at a is begin = e_not_c a (ap second_letter is) begin

unlowered_begins : (f : ItemFault) (a : Answer) → a ≡ answer (lowering_refusal f) 3 → second_letter a ≡ 99 → ⊥
unlowered_begins (TooWide at) a is begin = e_not_c a (ap second_letter is) begin
unlowered_begins (TooBig at) a is begin = e_not_c a (ap second_letter is) begin

rejects_begins : (g : Graph) (before : ℕ) (text : List ℕ) (a : Answer) → RejectsPart g before text a → second_letter a ≡ 99 → ⊥
rejects_begins g before text a (no_part_annotation line wrong is) begin = e_not_c a (ap second_letter is) begin
rejects_begins g before text a (part_rejected coarse w line cause s r is) begin = e_not_c a (ap second_letter is) begin

checks_begins : (ps : List PlainPart) (before : ℕ) (left : List ℕ) (a : Answer) → ChecksParts ps before left a → second_letter a ≡ 99 → a ≡ accepted_answer
checks_begins [] before [] a is begin = is
checks_begins [] before (b ∷ bs) a is begin = absurd (e_not_c a (ap second_letter is) begin)
checks_begins (p ∷ ps) before left a (no_part_line none is) begin = absurd (e_not_c a (ap second_letter is) begin)
checks_begins (p ∷ ps) before left a (wrong_part text e r) begin = absurd (rejects_begins (lowered p.program) (before + 1) (front_text text) a r begin)
checks_begins (p ∷ ps) before left a (right_part text e h r) begin = checks_begins ps (before + 1 + length (front_lines text)) (rest_text text) a r begin

proofs_begins : (ps : List PlainPart) (text : List ℕ) (a : Answer) → ReportsPartProofs ps text a → second_letter a ≡ 99 → a ≡ accepted_answer
proofs_begins ps text a (no_modular_line none is) begin = absurd (e_not_c a (ap second_letter is) begin)
proofs_begins ps text a (of_part_proofs left e r) begin = checks_begins ps 1 left a r begin

pub check_parts_begins : (entry text : List ℕ) (second : Option (List ℕ)) (a : Answer) → ReportsCheckParts entry text second a → second_letter a ≡ 99 → IsAccepted entry text a
check_parts_begins entry text second a (refused r) begin = absurd (typed_begins entry text a r begin)
check_parts_begins entry text second a (of_typed t w (free at first is)) begin = absurd (free_begins at a is begin)
check_parts_begins entry text second a (of_typed t w (of_parts none (part_unlowered f first is))) begin = absurd (unlowered_begins f a is begin)
check_parts_begins entry text second a (of_typed t w (of_parts none (parts_lowered lowers (second_too_long x e past is)))) begin = absurd (too_long_begins a is begin)
check_parts_begins entry text second a (of_typed t w (of_parts none (parts_lowered lowers (of_second x e l r)))) begin =
    record { meant = t; typed = w; is = proofs_begins (parts_of t) x a r begin }

parts_begin : (l : Limits) (ps : List PlainPart) (a : Answer) → ReportsParts l ps a → second_letter a ≡ 99 → ⊥
parts_begin l ps a (all_safe bs h is) begin = o_not_c a (ap second_letter is) begin
parts_begin l ps a (one_is_not before after p bs b same h v other is) begin = a_not_c a (ap second_letter is) begin

pub verify_parts_begins : (entry : List ℕ) (l : Limits) (text : List ℕ) (a : Answer) → ReportsVerifyParts entry l text a → second_letter a ≡ 99 → ⊥
verify_parts_begins entry l text a (refused r) begin = typed_begins entry text a r begin
verify_parts_begins entry l text a (of_typed t w (free at first is)) begin = free_begins at a is begin
verify_parts_begins entry l text a (of_typed t w (of_parts none (part_unlowered f first is))) begin = unlowered_begins f a is begin
verify_parts_begins entry l text a (of_typed t w (of_parts none (parts_lowered lowers (r, few)))) begin = parts_begin l (parts_of t) a r begin

part_failure_begins : (ps : List PlainPart) (text : List ℕ) (a : Answer) → ReportsPartFailure ps text a → second_letter a ≡ 99 → ⊥
part_failure_begins ps text a (no_part none is) begin = e_not_c a (ap second_letter is) begin
part_failure_begins ps text a (no_part_failure p rest line named fault is) begin = e_not_c a (ap second_letter is) begin
part_failure_begins ps text a (of_part_failure p rest f named h r) begin = failure_begins p.program rest a r begin

pub replay_parts_begins : (entry text : List ℕ) (second : Option (List ℕ)) (a : Answer) → ReportsReplayParts entry text second a → second_letter a ≡ 99 → ⊥
replay_parts_begins entry text second a (refused r) begin = typed_begins entry text a r begin
replay_parts_begins entry text second a (of_typed t w (free at first is)) begin = free_begins at a is begin
replay_parts_begins entry text second a (of_typed t w (of_parts none (second_too_long x e past is))) begin = too_long_begins a is begin
replay_parts_begins entry text second a (of_typed t w (of_parts none (of_second x e l r))) begin = part_failure_begins (parts_of t) x a r begin
