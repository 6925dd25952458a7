use Rattle.std.proofs.Common.{◌≡◌, Err, slice_get, sym, subst}
use Rattle.std.specs.Prelude.{IfOk, OnOk}
use Rattle.lin_rows.specs.declared.types.RowFault.TheVariants.{Past}
use Rattle.letter_acts.specs.Invariant.{alphabet_of}
use Rattle.triple_rows.specs.declared.triples.Triple.{Triple}
use Rattle.triple_rows.specs.Systems.{PlainFits, IsSystem}
use Rattle.triple_rows.specs.Triples.{Agrees}
use Rattle.triple_rows.specs.Halves.{said_before}
use Rattle.triple_rows.proofs.HalfLaws.{inside_scoped, call_scoped, back_scoped}
use Rattle.triple_rows.proofs.halves.source_system.Goals as goal

pub said_once-requires : goal.said_once-requires
said_once-requires c =
    let al = alphabet_of c.args.icfg.now in
    let w = c.in-Inside in
    inside_scoped al (slice_get al.acts w.letter) w.from w.to (subst (Agrees al) w.is c.requires)

pub said_once-requires-in-Call : goal.said_once-requires-in-Call
said_once-requires-in-Call c =
    let al = alphabet_of c.args.icfg.now in
    let w = c.in-Call in
    call_scoped al (slice_get al.acts w.letter) w.from w.to (subst (Agrees al) w.is c.requires)

pub said_twice-requires-clause-exit : goal.said_twice-requires-clause-exit
said_twice-requires-clause-exit c =
    let al = alphabet_of c.args.icfg.now in
    let w = c.in-Back in
    (back_scoped al (slice_get al.acts w.letter) w.exit w.before w.to (subst (Agrees al) w.is c.requires)).0

pub said_twice-requires-clause-before : goal.said_twice-requires-clause-before
said_twice-requires-clause-before c =
    let al = alphabet_of c.args.icfg.now in
    let w = c.in-Back in
    (back_scoped al (slice_get al.acts w.letter) w.exit w.before w.to (subst (Agrees al) w.is c.requires)).1
