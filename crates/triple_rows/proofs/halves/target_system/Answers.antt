use Rattle.std.proofs.Common.{◌≡◌, true, slice_get, sym, subst}
use Rattle.letter_acts.specs.Invariant.{alphabet_of}
use Rattle.triple_rows.specs.declared.triples.Scoped.{Scoped}
use Rattle.triple_rows.specs.Triples.{InsideAgrees, CallAgrees, BackAgrees, Agrees}
use Rattle.triple_rows.proofs.HalfLaws.{inside_true, call_true, back_true}
use Rattle.triple_rows.proofs.halves.target_system.Goals as goal

pub inside_system-requires : goal.inside_system-requires
inside_system-requires c =
    let al = alphabet_of c.args.icfg.now in
    let w = c.in-Inside in
    subst (λ (x : Scoped). InsideAgrees al (slice_get al.acts w.letter) x w.to) (sym c.in_ok-before-in-Inside.ensures)
    (inside_true al (slice_get al.acts w.letter) w.from w.to (subst (Agrees al) w.is c.requires))

pub call_system-requires : goal.call_system-requires
call_system-requires c =
    let al = alphabet_of c.args.icfg.now in
    let w = c.in-Call in
    subst (λ (x : Scoped). CallAgrees al (slice_get al.acts w.letter) x w.to) (sym c.in_ok-before-in-Call.ensures)
    (call_true al (slice_get al.acts w.letter) w.from w.to (subst (Agrees al) w.is c.requires))
