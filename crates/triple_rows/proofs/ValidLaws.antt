-- No point meets the system of a triple exactly where the triple is valid; a refuted triple is valid.
use Rattle.std.proofs.Common.{◌≡◌, ◌↔◌, ◌∙◌, ℕ, ℤ, List, Option, None, Some, slice_get, refl, sym}
use Rattle.lin_rows.specs.declared.systems.System.{System}
use Rattle.lin_rows.specs.Systems.{Meets}
use Rattle.letter_acts.specs.Frames.{IsFrame}
use Rattle.letter_acts.specs.Acts.{PlainAct, inside_act, call_act, back_act, frame_of}
use Rattle.letter_acts.specs.Meaning.{Situation, ActInside, ActCalls, ActReturns, ReturnsFrom}
use Rattle.letter_acts.specs.Invariant.{Graph, alphabet_of, IsGraph, IsActed, BackIsActedFrom}
use Rattle.letter_acts.proofs.ReadingLemmas.{inside_read, call_read, back_read}
use Rattle.letter_acts.proofs.KnownLemmas.{frames_laid_out}
use Rattle.farkas_check.specs.Nodes.{PlainNode}
use Rattle.farkas_check.proofs.Sound.{refuted}
use Rattle.triple_rows.specs.declared.triples.Scoped.{Scoped}
use Rattle.triple_rows.specs.declared.triples.Triple.{Triple}
use Rattle.triple_rows.specs.declared.triples.Triple.TheVariants.{Inside, Call, Back}
use Rattle.triple_rows.specs.Predicates.{formula_of, SpellsPredicate}
use Rattle.triple_rows.specs.Systems.{PlainMeets, IsSystem}
use Rattle.triple_rows.specs.Triples.{ScopedHolds, IsValid, InsideAgrees, CallAgrees, ReturnAgrees, BackAgrees, Agrees, HasTarget, inside_system_of, call_system_of, return_system_of, back_system_of, system_of, IsRefuted}
use Rattle.triple_rows.proofs.ListLaws.{all_at}
use Rattle.triple_rows.proofs.SaidLaws.{spelled_inequalities}
use Rattle.triple_rows.proofs.InsideLaws.{inside_exact}
use Rattle.triple_rows.proofs.CallLaws.{call_exact}
use Rattle.triple_rows.proofs.BackLaws.{back_exact}
use Rattle.triple_rows.proofs.PlainLaws.{system_met}
use Rattle.triple_rows.proofs.KnownLaws.{inside_is_read, call_is_read, back_is_read}

-- an act that is there keeps what acts keep
abbrev Keeps : Graph → Option PlainAct → Type 0
Keeps g o = (a : PlainAct) → o ≡ Some a → IsActed (alphabet_of g) a

keeps : (g : Graph) → IsGraph g → (n : ℕ) → Keeps g (slice_get g.acts n)
keeps g h n a e = all_at (IsActed (alphabet_of g)) g.acts n a e h.acts

inside_case : (g : Graph) → (from to : Scoped) (o : Option PlainAct) → Keeps g o → SpellsPredicate to.pred → InsideAgrees (alphabet_of g) o from to →
    ((point : ℕ → ℤ) → PlainMeets point (inside_system_of (alphabet_of g) o (formula_of from.pred) (formula_of to.pred)) → ⊥) ↔
    ((s t : Situation) → ActInside (alphabet_of g) o s t → ScopedHolds from s → ScopedHolds to t)
inside_case g from to None k q a = absurd a
inside_case g from to (Some (inside_act p written helpers rows)) k q a =
    let al = alphabet_of g in
    let acted = k (inside_act p written helpers rows) refl in
    let e = inside_exact (frame_of al p) written helpers rows (formula_of from.pred) (formula_of to.pred)
    (inside_is_read al p written helpers rows (formula_of from.pred) (formula_of to.pred) acted a.0.over a.1.over (spelled_inequalities to.pred q)) in (
      λ none s t l h. (l.1.0 ∙ sym a.1.proc, e.0 none s.values t.values ((inside_read al p written helpers rows s.values t.values acted).0 l.2) h.1),
      λ valid. e.1 (λ s t r h.
          let x : Situation = record { proc = p; values = s } in
          let y : Situation = record { proc = p; values = t } in
          (valid x y ((refl, a.0.exists), (refl, a.0.exists), (inside_read al p written helpers rows s t acted).1 r) (sym a.0.proc, h)).1),
    )
inside_case g from to (Some (call_act caller callee helpers rows)) k q a = absurd a
inside_case g from to (Some (back_act c targets)) k q a = absurd a

call_case : (g : Graph) → IsGraph g → (from to : Scoped) (o : Option PlainAct) → Keeps g o → SpellsPredicate to.pred → CallAgrees (alphabet_of g) o from to →
    ((point : ℕ → ℤ) → PlainMeets point (call_system_of (alphabet_of g) o (formula_of from.pred) (formula_of to.pred)) → ⊥) ↔
    ((s t : Situation) → ActCalls (alphabet_of g) o s t → ScopedHolds from s → ScopedHolds to t)
call_case g i from to None k q a = absurd a
call_case g i from to (Some (inside_act p written helpers rows)) k q a = absurd a
call_case g i from to (Some (call_act caller callee helpers rows)) k q a =
    let al = alphabet_of g in
    let acted = k (call_act caller callee helpers rows) refl in
    let laid = frames_laid_out g i in
    let fr : IsFrame laid.0 (frame_of al caller) = laid.1 caller a.0.exists in
    let fe : IsFrame laid.0 (frame_of al callee) = laid.1 callee a.1.exists in
    let e = call_exact (frame_of al caller) (frame_of al callee) helpers rows (formula_of from.pred) (formula_of to.pred)
    (call_is_read laid.0 (frame_of al caller) (frame_of al callee) helpers rows (formula_of from.pred) (formula_of to.pred) fr fe acted.may_name a.0.over a.1.over
    (spelled_inequalities to.pred q)) in (
      λ none s t l h. (l.1.0 ∙ sym a.1.proc, e.0 none s.values t.values ((call_read laid.0 (frame_of al caller) (frame_of al callee) helpers rows s.values t.values fr fe).0 l.2) h.1),
      λ valid. e.1 (λ s t r h.
          let x : Situation = record { proc = caller; values = s } in
          let y : Situation = record { proc = callee; values = t } in
          (valid x y ((refl, a.0.exists), (refl, a.1.exists), (call_read laid.0 (frame_of al caller) (frame_of al callee) helpers rows s t fr fe).1 r) (sym a.0.proc, h)).1),
    )
call_case g i from to (Some (back_act c targets)) k q a = absurd a

return_case : (g : Graph) → IsGraph g → (exit before to : Scoped) (targets : List ℕ) (o : Option PlainAct) → Keeps g o → BackIsActedFrom (alphabet_of g) targets o →
    SpellsPredicate to.pred → ReturnAgrees (alphabet_of g) o exit before to →
    ((point : ℕ → ℤ) → PlainMeets point (return_system_of (alphabet_of g) targets o (formula_of exit.pred) (formula_of before.pred) (formula_of to.pred)) → ⊥) ↔
    ((x b t : Situation) → ReturnsFrom (alphabet_of g) targets o x b t → ScopedHolds exit x → ScopedHolds before b → ScopedHolds to t)
return_case g i exit before to targets None k m q a = absurd a
return_case g i exit before to targets (Some (inside_act p written helpers rows)) k m q a = absurd a
return_case g i exit before to targets (Some (call_act caller callee helpers rows)) k m q a =
    let al = alphabet_of g in
    let acted = k (call_act caller callee helpers rows) refl in
    let laid = frames_laid_out g i in
    let fr : IsFrame laid.0 (frame_of al caller) = laid.1 caller a.1.exists in
    let fe : IsFrame laid.0 (frame_of al callee) = laid.1 callee a.0.exists in
    let e = back_exact (frame_of al caller) (frame_of al callee) helpers rows targets (formula_of exit.pred) (formula_of before.pred) (formula_of to.pred)
    (back_is_read laid.0 (frame_of al caller) (frame_of al callee) helpers rows targets (formula_of exit.pred) (formula_of before.pred) (formula_of to.pred)
    fr fe m acted.may_name a.0.over a.1.over a.2.over) (spelled_inequalities to.pred q) in (
      λ none x b t l hx hb. (
        l.2.0 ∙ sym a.2.proc,
        e.0 none x.values b.values t.values
            ((back_read laid.0 (frame_of al caller) (frame_of al callee) helpers rows targets x.values b.values t.values fr fe m).0 l.3) hx.1 hb.1,
      ),
      λ valid. e.1 (λ x b t r hx hb.
          let u : Situation = record { proc = callee; values = x } in
          let v : Situation = record { proc = caller; values = b } in
          let w : Situation = record { proc = caller; values = t } in
          (valid u v w (
            (refl, a.0.exists),
            (refl, a.1.exists),
            (refl, a.1.exists),
            (back_read laid.0 (frame_of al caller) (frame_of al callee) helpers rows targets x b t fr fe m).1 r,
          ) (sym a.0.proc, hx) (sym a.1.proc, hb)).1),
    )
return_case g i exit before to targets (Some (back_act c more)) k m q a = absurd a

back_case : (g : Graph) → IsGraph g → (exit before to : Scoped) (o : Option PlainAct) → Keeps g o → SpellsPredicate to.pred → BackAgrees (alphabet_of g) o exit before to →
    ((point : ℕ → ℤ) → PlainMeets point (back_system_of (alphabet_of g) o (formula_of exit.pred) (formula_of before.pred) (formula_of to.pred)) → ⊥) ↔
    ((x b t : Situation) → ActReturns (alphabet_of g) o x b t → ScopedHolds exit x → ScopedHolds before b → ScopedHolds to t)
back_case g i exit before to None k q a = absurd a
back_case g i exit before to (Some (inside_act p written helpers rows)) k q a = absurd a
back_case g i exit before to (Some (call_act caller callee helpers rows)) k q a = absurd a
back_case g i exit before to (Some (back_act c targets)) k q a =
    return_case g i exit before to targets (slice_get g.acts c) (keeps g i c) (k (back_act c targets) refl) q a

plain_exact : (g : Graph) → IsGraph g → (triple : Triple) → HasTarget triple → Agrees (alphabet_of g) triple →
    ((point : ℕ → ℤ) → PlainMeets point (system_of (alphabet_of g) triple) → ⊥) ↔ IsValid (alphabet_of g) triple
plain_exact g h (Inside from letter to) q a = inside_case g from to (slice_get g.acts letter) (keeps g h letter) q a
plain_exact g h (Call from letter to) q a = call_case g h from to (slice_get g.acts letter) (keeps g h letter) q a
plain_exact g h (Back exit before letter to) q a = back_case g h exit before to (slice_get g.acts letter) (keeps g h letter) q a

-- no point meets the system exactly where the triple is valid
pub system_exact : (g : Graph) (triple : Triple) (s : System) → IsGraph g → HasTarget triple → Agrees (alphabet_of g) triple → IsSystem (system_of (alphabet_of g) triple) s →
    ((point : ℕ → ℤ) → Meets point s → ⊥) ↔ IsValid (alphabet_of g) triple
system_exact g triple s h q a i =
    let e = plain_exact g h triple q a in (
      λ none. e.0 (λ point m. none point ((system_met point (system_of (alphabet_of g) triple) s i).1 m)),
      λ valid point m. e.1 valid point ((system_met point (system_of (alphabet_of g) triple) s i).0 m),
    )

-- a refuted triple is valid
pub refuted_valid : (g : Graph) (triple : Triple) (nodes : List PlainNode) → IsGraph g → HasTarget triple → Agrees (alphabet_of g) triple →
    IsRefuted (alphabet_of g) triple nodes → IsValid (alphabet_of g) triple
refuted_valid g triple nodes h q a r =
    (system_exact g triple r.system h q a r.is_system).0 (λ point m. refuted nodes r.system point r.refutes m)
