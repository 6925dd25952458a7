use Rattle.std.proofs.Common.{◌≡◌, ◌++◌, ◌∙◌, Some, List, ℕ, map, sym, subst}
use Rattle.std.specs.Prelude.{IfSome}
use Rattle.std.specs.String.{string_bytes}
use Rattle.outer_io.specs.Texts.{GainsFront}
use Rattle.explain_top.specs.Ties.Views.{answered}
use Rattle.explain_top.proofs.RunLaws.{answer_given, took_front}
use Rattle.explain_top.proofs.running.run.Goals as goal

pub returns-in-Ok-write_all-clause-report : goal.returns-in-Ok-write_all-clause-report
returns-in-Ok-write_all-clause-report g c = λ s k z.
    let bytes : c.deref.result.now ≡ (answered c.in-Ok.answer).bytes = c.deref.ensures.value ∙ c.in-Ok-text.ensures in
    answer_given (map string_bytes c.args.words.now) (answered c.in-Ok.answer) (g.H.Shelf.texts c.args.shelf.now) (g.K.Sink.taken c.args.sink.now) (g.K.Sink.taken c.write_all.new.sink)
    c.status-status.result c.in-Ok.ensures.reported c.status-status.ensures
    (subst (λ (bs : List ℕ). IfSome (g.K.Sink.taken c.args.sink.now) (λ before. g.K.Sink.taken c.write_all.new.sink ≡ Some (before ++ bs))) bytes c.in-Ok-write_all.ensures.whole)

pub returns-clause-front : goal.returns-clause-front
returns-clause-front g c = λ z.
    let bytes : c.deref.result.now ≡ (answered c.in-Ok.answer).bytes = c.deref.ensures.value ∙ c.in-Ok-text.ensures in
    took_front (map string_bytes c.args.words.now) (answered c.in-Ok.answer) (g.H.Shelf.texts c.args.shelf.now) (g.K.Sink.taken c.args.sink.now) (g.K.Sink.taken c.write_all.new.sink)
    c.in-Ok.ensures.reported
    (subst (λ (bs : List ℕ). IfSome (g.K.Sink.taken c.args.sink.now) (λ before. GainsFront bs before (g.K.Sink.taken c.write_all.new.sink))) bytes c.in-Err.ensures.front)

pub returns-in-Ok-write_all-clause-explained_is_safe : goal.returns-in-Ok-write_all-clause-explained_is_safe
returns-in-Ok-write_all-clause-explained_is_safe g c = λ zero. c.in-Ok.ensures.safe (sym c.status-status.ensures ∙ zero)

pub returns-in-Ok-write_all-clause-told_fails : goal.returns-in-Ok-write_all-clause-told_fails
returns-in-Ok-write_all-clause-told_fails g c = λ zero. c.in-Ok.ensures.fails (sym c.status-status.ensures ∙ zero)

pub returns-in-Ok-write_all-clause-told_trace : goal.returns-in-Ok-write_all-clause-told_trace
returns-in-Ok-write_all-clause-told_trace g c = λ zero. c.in-Ok.ensures.traced (sym c.status-status.ensures ∙ zero)
