-- The system of a triple is its two halves at once.
use Rattle.std.proofs.Common.{◌≡◌, ◌∙◌, ℕ, ◌+◌, true, List, [], ◌∷◌, ◌++◌, length, Option, None, Some, slice_get, zero-add, sym, ap, subst}
use Rattle.std.specs.Prelude.{map}
use Rattle.lin_rows.specs.Rows.{LinearRow}
use Rattle.letter_acts.specs.Frames.{Columns, globals_of, olds_of}
use Rattle.letter_acts.specs.Acts.{PlainAct, inside_act, call_act, back_act, Alphabet, frame_of}
use Rattle.triple_rows.specs.declared.triples.Scoped.{Scoped}
use Rattle.triple_rows.specs.declared.triples.Triple.{Triple}
use Rattle.triple_rows.specs.declared.triples.Triple.TheVariants.{Inside, Call, Back}
use Rattle.triple_rows.specs.Predicates.{Formula, truth, formula_of}
use Rattle.triple_rows.specs.Systems.{PlainSystem, both_systems, all_systems, only_rows, said, denied, after_column}
use Rattle.letter_acts.specs.FrameRows.Rows.{equal_row, bounds, types_of, types_at}
use Rattle.triple_rows.specs.Ties.Drafts.{return_ties}
use Rattle.triple_rows.specs.Triples.{IsScoped, truth_of, InsideAgrees, CallAgrees, BackAgrees, ReturnAgrees, Agrees, inside_system_of, call_system_of, back_system_of, return_system_of, system_of}
use Rattle.triple_rows.specs.Halves.{said_before, said_after}
use Rattle.triple_rows.proofs.BuildingLaws.{return_ends}
use Rattle.triple_rows.proofs.AddingLaws.{both_none, both_assoc}

-- ---- what stands behind the sources

abbrev inside_rest : Columns → List ℕ → List LinearRow → Formula → PlainSystem
inside_rest frame written rows to = all_systems (
    only_rows rows ∷
    denied (after_column 0 (length frame) written) to ∷
    only_rows (bounds 0 (types_of frame)) ∷
    only_rows (bounds (length frame) (types_at frame written)) ∷
    [])

abbrev call_rest : Columns → Columns → List LinearRow → Formula → PlainSystem
call_rest caller callee rows to = all_systems (
    only_rows (map (λ c. equal_row (length caller + c) c) (globals_of callee)) ∷
    only_rows (map (λ o. equal_row (length caller + o.0) o.1) (olds_of callee)) ∷
    only_rows rows ∷
    denied (λ c. length caller + c) to ∷
    only_rows (bounds 0 (types_of caller)) ∷
    only_rows (bounds (length caller) (types_of callee)) ∷
    [])

abbrev return_rest : Columns → Columns → List LinearRow → List ℕ → Formula → PlainSystem
return_rest caller callee rows targets to = all_systems (return_ties caller callee rows targets ++ return_ends caller callee targets to)

-- what holds before, and a rest behind nothing
behind_none : (a b : PlainSystem) → both_systems a b ≡ both_systems a (both_systems (only_rows []) b)
behind_none a b = ap (both_systems a) (sym (both_none b))

inside_halves : (al : Alphabet) (o : Option PlainAct) (from to : Scoped) → InsideAgrees al o from to →
    inside_system_of al o (formula_of from.pred) (formula_of to.pred) ≡
    both_systems (said (λ c. c) (formula_of from.pred)) (inside_system_of al o (truth true) (formula_of to.pred))
inside_halves al None from to h = absurd h
inside_halves al (Some (inside_act p written helpers rows)) from to h =
    behind_none (said (λ c. c) (formula_of from.pred)) (inside_rest (frame_of al p) written rows (formula_of to.pred))
inside_halves al (Some (call_act caller callee helpers rows)) from to h = absurd h
inside_halves al (Some (back_act c targets)) from to h = absurd h

call_halves : (al : Alphabet) (o : Option PlainAct) (from to : Scoped) → CallAgrees al o from to →
    call_system_of al o (formula_of from.pred) (formula_of to.pred) ≡
    both_systems (said (λ c. c) (formula_of from.pred)) (call_system_of al o (truth true) (formula_of to.pred))
call_halves al None from to h = absurd h
call_halves al (Some (inside_act p written helpers rows)) from to h = absurd h
call_halves al (Some (call_act caller callee helpers rows)) from to h =
    behind_none (said (λ c. c) (formula_of from.pred)) (call_rest (frame_of al caller) (frame_of al callee) rows (formula_of to.pred))
call_halves al (Some (back_act c targets)) from to h = absurd h

return_halves : (al : Alphabet) (targets : List ℕ) (o : Option PlainAct) (exit before to : Scoped) → ReturnAgrees al o exit before to →
    return_system_of al targets o (formula_of exit.pred) (formula_of before.pred) (formula_of to.pred) ≡
    both_systems (both_systems (said (λ c. c) (formula_of exit.pred)) (said (λ c. length (frame_of al exit.proc) + c) (formula_of before.pred)))
    (return_system_of al targets o (truth true) (truth true) (formula_of to.pred))
return_halves al targets None exit before to h = absurd h
return_halves al targets (Some (inside_act p written helpers rows)) exit before to h = absurd h
return_halves al targets (Some (call_act caller callee helpers rows)) exit before to h =
    let e : PlainSystem = said (λ c. c) (formula_of exit.pred) in
    let b : ℕ → PlainSystem = λ p. said (λ c. length (frame_of al p) + c) (formula_of before.pred) in
    let r : PlainSystem = return_rest (frame_of al caller) (frame_of al callee) rows targets (formula_of to.pred) in
    let rest : PlainSystem = both_systems (only_rows []) (both_systems (only_rows []) r) in
    ap (λ (s : PlainSystem). both_systems e (both_systems (b callee) s)) (sym (both_none r) ∙ sym (both_none (both_systems (only_rows []) r))) ∙
    sym (both_assoc e (b callee) rest) ∙ ap (λ (p : ℕ). both_systems (both_systems e (b p)) rest) (sym h.0.proc)
return_halves al targets (Some (back_act c more)) exit before to h = absurd h

back_halves : (al : Alphabet) (o : Option PlainAct) (exit before to : Scoped) → BackAgrees al o exit before to →
    back_system_of al o (formula_of exit.pred) (formula_of before.pred) (formula_of to.pred) ≡
    both_systems (both_systems (said (λ c. c) (formula_of exit.pred)) (said (λ c. length (frame_of al exit.proc) + c) (formula_of before.pred)))
    (back_system_of al o (truth true) (truth true) (formula_of to.pred))
back_halves al None exit before to h = absurd h
back_halves al (Some (inside_act p written helpers rows)) exit before to h = absurd h
back_halves al (Some (call_act caller callee helpers rows)) exit before to h = absurd h
back_halves al (Some (back_act c targets)) exit before to h = return_halves al targets (slice_get al.acts c) exit before to h

-- what the sources say, and the rest
pub system_in_halves : (al : Alphabet) (t : Triple) → Agrees al t → system_of al t ≡ both_systems (said_before al t) (said_after al t)
system_in_halves al (Inside from letter to) h = inside_halves al (slice_get al.acts letter) from to h
system_in_halves al (Call from letter to) h = call_halves al (slice_get al.acts letter) from to h
system_in_halves al (Back exit before letter to) h = back_halves al (slice_get al.acts letter) exit before to h

-- ---- true sources agree where sources do

true_scoped : (al : Alphabet) (p : ℕ) (s : Scoped) → IsScoped al p s → IsScoped al p (truth_of s.proc true)
true_scoped al p s h = record { proc = h.proc; exists = h.exists; over = tt }

-- it is of the procedure of its own number
pub own_scoped : (al : Alphabet) (p : ℕ) (s : Scoped) → IsScoped al p s → IsScoped al s.proc s
own_scoped al p s h = subst (λ (q : ℕ). IsScoped al q s) (sym h.proc) h

pub inside_true : (al : Alphabet) (o : Option PlainAct) (from to : Scoped) → InsideAgrees al o from to → InsideAgrees al o (truth_of from.proc true) to
inside_true al None from to h = absurd h
inside_true al (Some (inside_act p written helpers rows)) from to h = (true_scoped al p from h.0, h.1)
inside_true al (Some (call_act caller callee helpers rows)) from to h = absurd h
inside_true al (Some (back_act c targets)) from to h = absurd h

pub call_true : (al : Alphabet) (o : Option PlainAct) (from to : Scoped) → CallAgrees al o from to → CallAgrees al o (truth_of from.proc true) to
call_true al None from to h = absurd h
call_true al (Some (inside_act p written helpers rows)) from to h = absurd h
call_true al (Some (call_act caller callee helpers rows)) from to h = (true_scoped al caller from h.0, h.1)
call_true al (Some (back_act c targets)) from to h = absurd h

return_true : (al : Alphabet) (o : Option PlainAct) (exit before to : Scoped) → ReturnAgrees al o exit before to →
    ReturnAgrees al o (truth_of exit.proc true) (truth_of before.proc true) to
return_true al None exit before to h = absurd h
return_true al (Some (inside_act p written helpers rows)) exit before to h = absurd h
return_true al (Some (call_act caller callee helpers rows)) exit before to h = (true_scoped al callee exit h.0, true_scoped al caller before h.1, h.2)
return_true al (Some (back_act c targets)) exit before to h = absurd h

pub back_true : (al : Alphabet) (o : Option PlainAct) (exit before to : Scoped) → BackAgrees al o exit before to →
    BackAgrees al o (truth_of exit.proc true) (truth_of before.proc true) to
back_true al None exit before to h = absurd h
back_true al (Some (inside_act p written helpers rows)) exit before to h = absurd h
back_true al (Some (call_act caller callee helpers rows)) exit before to h = absurd h
back_true al (Some (back_act c targets)) exit before to h = return_true al (slice_get al.acts c) exit before to h

-- ---- the sources are of their own procedures

pub inside_scoped : (al : Alphabet) (o : Option PlainAct) (from to : Scoped) → InsideAgrees al o from to → IsScoped al from.proc from
inside_scoped al None from to h = absurd h
inside_scoped al (Some (inside_act p written helpers rows)) from to h = own_scoped al p from h.0
inside_scoped al (Some (call_act caller callee helpers rows)) from to h = absurd h
inside_scoped al (Some (back_act c targets)) from to h = absurd h

pub call_scoped : (al : Alphabet) (o : Option PlainAct) (from to : Scoped) → CallAgrees al o from to → IsScoped al from.proc from
call_scoped al None from to h = absurd h
call_scoped al (Some (inside_act p written helpers rows)) from to h = absurd h
call_scoped al (Some (call_act caller callee helpers rows)) from to h = own_scoped al caller from h.0
call_scoped al (Some (back_act c targets)) from to h = absurd h

return_scoped : (al : Alphabet) (o : Option PlainAct) (exit before to : Scoped) → ReturnAgrees al o exit before to → IsScoped al exit.proc exit × IsScoped al before.proc before
return_scoped al None exit before to h = absurd h
return_scoped al (Some (inside_act p written helpers rows)) exit before to h = absurd h
return_scoped al (Some (call_act caller callee helpers rows)) exit before to h = (own_scoped al callee exit h.0, own_scoped al caller before h.1)
return_scoped al (Some (back_act c targets)) exit before to h = absurd h

pub back_scoped : (al : Alphabet) (o : Option PlainAct) (exit before to : Scoped) → BackAgrees al o exit before to → IsScoped al exit.proc exit × IsScoped al before.proc before
back_scoped al None exit before to h = absurd h
back_scoped al (Some (inside_act p written helpers rows)) exit before to h = absurd h
back_scoped al (Some (call_act caller callee helpers rows)) exit before to h = absurd h
back_scoped al (Some (back_act c targets)) exit before to h = return_scoped al (slice_get al.acts c) exit before to h

-- ---- columns that stand from a number on

pub said_from_zero : (f : Formula) → said (λ c. 0 + c) f ≡ said (λ c. c) f
said_from_zero f = let e : (λ (c : ℕ). 0 + c) ≡ (λ c. c) = λ i c. zero-add c i in ap (λ (to : ℕ → ℕ). said to f) e

pub said_behind : (n : ℕ) (frame columns : Columns) (f : Formula) → n ≡ length columns → columns ≡ frame → said (λ c. n + c) f ≡ said (λ c. length frame + c) f
said_behind n frame columns f e h = ap (λ (m : ℕ). said (λ c. m + c) f) (e ∙ ap (λ (cs : Columns). length cs) h)
