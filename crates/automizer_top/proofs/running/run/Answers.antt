use Rattle.std.proofs.Common.{inr, ap, ◌≡◌, ◌++◌, ◌∙◌, Some, List, ℕ, map, sym, subst}
use Rattle.std.specs.Prelude.{IfSome}
use Rattle.std.specs.String.{string_bytes}
use Rattle.outer_io.specs.Texts.{GainsFront}
use Rattle.race_core.specs.Races.{Race}
use Rattle.itp_automaton.specs.Certified.{Certificate}
use Rattle.automizer_top.specs.Ties.Answers.{answered}
use Rattle.automizer_top.proofs.AnsweringLaws.{where_ok, closes_given, took_front, closes_at_front}
use Rattle.automizer_top.proofs.ClosedLaws.{is_not_five, is_not_six}
use Rattle.automizer_top.proofs.ReportLaws.{known_of, nothing_is_safe, front_is_safe, whole_is_safe, check_is_accepted, zero_is_safe}
use Rattle.automizer_top.proofs.running.run.Goals as goal

pub returns-in-Err-Fault-clause-accepted_text_is_safe : goal.returns-in-Err-Fault-clause-accepted_text_is_safe
returns-in-Err-Fault-clause-accepted_text_is_safe g c =
    nothing_is_safe (map string_bytes c.args.words.now) (g.H.Shelf.texts c.args.shelf.now) (g.K.Sink.taken c.args.sink.now)

pub returns-in-Err-Memory-clause-accepted_text_is_safe : goal.returns-in-Err-Memory-clause-accepted_text_is_safe
returns-in-Err-Memory-clause-accepted_text_is_safe g c =
    nothing_is_safe (map string_bytes c.args.words.now) (g.H.Shelf.texts c.args.shelf.now) (g.K.Sink.taken c.args.sink.now)

pub returns-in_default-clause-accepted_text_is_safe : goal.returns-in_default-clause-accepted_text_is_safe
returns-in_default-clause-accepted_text_is_safe g c =
    nothing_is_safe (map string_bytes c.args.words.now) (g.H.Shelf.texts c.args.shelf.now) (g.K.Sink.taken c.args.sink.now)

pub returns-in-Ok-write_all-clause-accepted_is_safe : goal.returns-in-Ok-write_all-clause-accepted_is_safe
returns-in-Ok-write_all-clause-accepted_is_safe g c =
    λ z. zero_is_safe (map string_bytes c.args.words.now) (g.H.Shelf.texts c.args.shelf.now) (answered c.in-Ok.answer) c.in-Ok.ensures.reported
    (known_of (map string_bytes c.args.words.now) (g.H.Shelf.texts c.args.shelf.now) (answered c.in-Ok.answer) c.in-Ok.ensures.accepted c.in-Ok.ensures.verified c.in-Ok.ensures.built c.in-Ok.ensures.ranked)
    (sym c.status-status.ensures ∙ z)

pub returns-in-Ok-write_all-clause-accepted_text_is_safe : goal.returns-in-Ok-write_all-clause-accepted_text_is_safe
returns-in-Ok-write_all-clause-accepted_text_is_safe g c =
    let bytes : c.deref.result.now ≡ (answered c.in-Ok.answer).bytes = c.deref.ensures.value ∙ c.in-Ok-output.ensures.text in
    whole_is_safe (map string_bytes c.args.words.now) (g.H.Shelf.texts c.args.shelf.now) (g.K.Sink.taken c.args.sink.now) (g.K.Sink.taken c.write_all.new.sink) (answered c.in-Ok.answer)
    c.in-Ok.ensures.reported
    (known_of (map string_bytes c.args.words.now) (g.H.Shelf.texts c.args.shelf.now) (answered c.in-Ok.answer) c.in-Ok.ensures.accepted c.in-Ok.ensures.verified c.in-Ok.ensures.built c.in-Ok.ensures.ranked)
    (subst (λ (bs : List ℕ). IfSome (g.K.Sink.taken c.args.sink.now) (λ before. g.K.Sink.taken c.write_all.new.sink ≡ Some (before ++ bs))) bytes c.in-Ok-write_all.ensures.whole)

pub returns-clause-accepted_text_is_safe : goal.returns-clause-accepted_text_is_safe
returns-clause-accepted_text_is_safe g c =
    let bytes : c.deref.result.now ≡ (answered c.in-Ok.answer).bytes = c.deref.ensures.value ∙ c.in-Ok-output.ensures.text in
    front_is_safe (map string_bytes c.args.words.now) (g.H.Shelf.texts c.args.shelf.now) (g.K.Sink.taken c.args.sink.now) (g.K.Sink.taken c.write_all.new.sink) (answered c.in-Ok.answer)
    c.in-Ok.ensures.reported
    (known_of (map string_bytes c.args.words.now) (g.H.Shelf.texts c.args.shelf.now) (answered c.in-Ok.answer) c.in-Ok.ensures.accepted c.in-Ok.ensures.verified c.in-Ok.ensures.built c.in-Ok.ensures.ranked)
    (subst (λ (bs : List ℕ). IfSome (g.K.Sink.taken c.args.sink.now) (λ before. GainsFront bs before (g.K.Sink.taken c.write_all.new.sink))) bytes c.in-Err.ensures.front)

-- words that ask for a check

pub returns-in-Err-Fault-clause-checked_is_safe : goal.returns-in-Err-Fault-clause-checked_is_safe
returns-in-Err-Fault-clause-checked_is_safe g c =
    check_is_accepted (map string_bytes c.args.words.now) (g.H.Shelf.texts c.args.shelf.now) (g.K.Sink.taken c.args.sink.now) (g.K.Sink.taken c.args.sink.now)
    (nothing_is_safe (map string_bytes c.args.words.now) (g.H.Shelf.texts c.args.shelf.now) (g.K.Sink.taken c.args.sink.now))

pub returns-in-Err-Memory-clause-checked_is_safe : goal.returns-in-Err-Memory-clause-checked_is_safe
returns-in-Err-Memory-clause-checked_is_safe g c =
    check_is_accepted (map string_bytes c.args.words.now) (g.H.Shelf.texts c.args.shelf.now) (g.K.Sink.taken c.args.sink.now) (g.K.Sink.taken c.args.sink.now)
    (nothing_is_safe (map string_bytes c.args.words.now) (g.H.Shelf.texts c.args.shelf.now) (g.K.Sink.taken c.args.sink.now))

pub returns-in_default-clause-checked_is_safe : goal.returns-in_default-clause-checked_is_safe
returns-in_default-clause-checked_is_safe g c =
    check_is_accepted (map string_bytes c.args.words.now) (g.H.Shelf.texts c.args.shelf.now) (g.K.Sink.taken c.args.sink.now) (g.K.Sink.taken c.args.sink.now)
    (nothing_is_safe (map string_bytes c.args.words.now) (g.H.Shelf.texts c.args.shelf.now) (g.K.Sink.taken c.args.sink.now))

pub returns-then-is_err-clause-checked_is_safe : goal.returns-then-is_err-clause-checked_is_safe
returns-then-is_err-clause-checked_is_safe g c =
    check_is_accepted (map string_bytes c.args.words.now) (g.H.Shelf.texts c.args.shelf.now) (g.K.Sink.taken c.args.sink.now) (g.K.Sink.taken c.args.sink.now)
    (nothing_is_safe (map string_bytes c.args.words.now) (g.H.Shelf.texts c.args.shelf.now) (g.K.Sink.taken c.args.sink.now))

pub returns-in-Ok-write_all-clause-checked_is_safe : goal.returns-in-Ok-write_all-clause-checked_is_safe
returns-in-Ok-write_all-clause-checked_is_safe g c =
    let bytes : c.deref.result.now ≡ (answered c.in-Ok.answer).bytes = c.deref.ensures.value ∙ c.in-Ok-output.ensures.text in
    check_is_accepted (map string_bytes c.args.words.now) (g.H.Shelf.texts c.args.shelf.now) (g.K.Sink.taken c.args.sink.now) (g.K.Sink.taken c.write_all.new.sink)
    (whole_is_safe (map string_bytes c.args.words.now) (g.H.Shelf.texts c.args.shelf.now) (g.K.Sink.taken c.args.sink.now) (g.K.Sink.taken c.write_all.new.sink) (answered c.in-Ok.answer)
    c.in-Ok.ensures.reported
    (known_of (map string_bytes c.args.words.now) (g.H.Shelf.texts c.args.shelf.now) (answered c.in-Ok.answer) c.in-Ok.ensures.accepted c.in-Ok.ensures.verified c.in-Ok.ensures.built c.in-Ok.ensures.ranked)
    (subst (λ (bs : List ℕ). IfSome (g.K.Sink.taken c.args.sink.now) (λ before. g.K.Sink.taken c.write_all.new.sink ≡ Some (before ++ bs))) bytes c.in-Ok-write_all.ensures.whole))

pub returns-clause-checked_is_safe : goal.returns-clause-checked_is_safe
returns-clause-checked_is_safe g c =
    let bytes : c.deref.result.now ≡ (answered c.in-Ok.answer).bytes = c.deref.ensures.value ∙ c.in-Ok-output.ensures.text in
    check_is_accepted (map string_bytes c.args.words.now) (g.H.Shelf.texts c.args.shelf.now) (g.K.Sink.taken c.args.sink.now) (g.K.Sink.taken c.write_all.new.sink)
    (front_is_safe (map string_bytes c.args.words.now) (g.H.Shelf.texts c.args.shelf.now) (g.K.Sink.taken c.args.sink.now) (g.K.Sink.taken c.write_all.new.sink) (answered c.in-Ok.answer)
    c.in-Ok.ensures.reported
    (known_of (map string_bytes c.args.words.now) (g.H.Shelf.texts c.args.shelf.now) (answered c.in-Ok.answer) c.in-Ok.ensures.accepted c.in-Ok.ensures.verified c.in-Ok.ensures.built c.in-Ok.ensures.ranked)
    (subst (λ (bs : List ℕ). IfSome (g.K.Sink.taken c.args.sink.now) (λ before. GainsFront bs before (g.K.Sink.taken c.write_all.new.sink))) bytes c.in-Err.ensures.front))

pub returns-in-Ok-write_all-clause-device : goal.returns-in-Ok-write_all-clause-device
returns-in-Ok-write_all-clause-device g c = λ e. absurd (is_not_five c.in-Ok.answer c.status-status.result c.status-status.ensures e)

pub returns-in-Ok-write_all-clause-front : goal.returns-in-Ok-write_all-clause-front
returns-in-Ok-write_all-clause-front g c = λ e. absurd (is_not_five c.in-Ok.answer c.status-status.result c.status-status.ensures e)

pub returns-in-Ok-write_all-clause-closed_at_fault : goal.returns-in-Ok-write_all-clause-closed_at_fault
returns-in-Ok-write_all-clause-closed_at_fault g c = λ e. absurd (is_not_five c.in-Ok.answer c.status-status.result c.status-status.ensures e)

pub returns-in-Ok-write_all-clause-out_of_memory : goal.returns-in-Ok-write_all-clause-out_of_memory
returns-in-Ok-write_all-clause-out_of_memory g c = λ e. absurd (is_not_six c.in-Ok.answer c.status-status.result c.status-status.ensures e)

pub returns-in-Ok-write_all-clause-closes_nothing : goal.returns-in-Ok-write_all-clause-closes_nothing
returns-in-Ok-write_all-clause-closes_nothing g c = λ e. absurd (is_not_six c.in-Ok.answer c.status-status.result c.status-status.ensures e)

pub returns-in-Ok-write_all-clause-usage : goal.returns-in-Ok-write_all-clause-usage
returns-in-Ok-write_all-clause-usage g c = (
  λ e. c.in-Ok.ensures.usage.0 (sym c.status-status.ensures ∙ e),
  λ none device memory. c.status-status.ensures ∙ c.in-Ok.ensures.usage.1 none,
)

-- ---- the answer that was given

pub returns-in-Ok-write_all-clause-report : goal.returns-in-Ok-write_all-clause-report
returns-in-Ok-write_all-clause-report g c = λ s k z.
    let bytes : c.deref.result.now ≡ (answered c.in-Ok.answer).bytes = c.deref.ensures.value ∙ c.in-Ok-output.ensures.text in
    closes_given (map string_bytes c.args.words.now) (answered c.in-Ok.answer) (g.H.Shelf.texts c.args.shelf.now) (g.K.Sink.taken c.args.sink.now) (g.K.Sink.taken c.write_all.new.sink)
    c.status-status.result c.args.closed.now.items c.close.new.closed.items c.in-Ok.ensures.reported c.status-status.ensures
    (subst (λ (bs : List ℕ). IfSome (g.K.Sink.taken c.args.sink.now) (λ before. g.K.Sink.taken c.write_all.new.sink ≡ Some (before ++ bs))) bytes c.in-Ok-write_all.ensures.whole)
    (where_ok _ c.close.result c.if-is_err.ensures.value c.close.ensures.gained ∙ ap (λ (rs : List (Race Certificate)). c.args.closed.now.items ++ rs) c.in-Ok-output.ensures.races)

pub returns-clause-front : goal.returns-clause-front
returns-clause-front g c = λ z.
    let bytes : c.deref.result.now ≡ (answered c.in-Ok.answer).bytes = c.deref.ensures.value ∙ c.in-Ok-output.ensures.text in
    took_front (map string_bytes c.args.words.now) (answered c.in-Ok.answer) (g.H.Shelf.texts c.args.shelf.now) (g.K.Sink.taken c.args.sink.now) (g.K.Sink.taken c.write_all.new.sink)
    c.in-Ok.ensures.reported
    (subst (λ (bs : List ℕ). IfSome (g.K.Sink.taken c.args.sink.now) (λ before. GainsFront bs before (g.K.Sink.taken c.write_all.new.sink))) bytes c.in-Err.ensures.front)

pub returns-clause-closed_at_fault : goal.returns-clause-closed_at_fault
returns-clause-closed_at_fault g c = λ z.
    let bytes : c.deref.result.now ≡ (answered c.in-Ok.answer).bytes = c.deref.ensures.value ∙ c.in-Ok-output.ensures.text in
    inr (closes_at_front (map string_bytes c.args.words.now) (answered c.in-Ok.answer) (g.H.Shelf.texts c.args.shelf.now) (g.K.Sink.taken c.args.sink.now) (g.K.Sink.taken c.write_all.new.sink)
    c.args.closed.now.items c.close.new.closed.items c.in-Ok.ensures.reported
    (subst (λ (bs : List ℕ). IfSome (g.K.Sink.taken c.args.sink.now) (λ before. GainsFront bs before (g.K.Sink.taken c.write_all.new.sink))) bytes c.in-Err.ensures.front)
    (where_ok _ c.close.result c.if-is_err.ensures.value c.close.ensures.gained ∙ ap (λ (rs : List (Race Certificate)). c.args.closed.now.items ++ rs) c.in-Ok-output.ensures.races))

pub returns-then-is_err-clause-accepted_text_is_safe :
    goal.returns-then-is_err-clause-accepted_text_is_safe
returns-then-is_err-clause-accepted_text_is_safe g c =
    nothing_is_safe (map string_bytes c.args.words.now) (g.H.Shelf.texts c.args.shelf.now) (g.K.Sink.taken c.args.sink.now)
