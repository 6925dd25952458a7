-- Certified automata of given predicates and proofs.
use Rattle.std.proofs.Common.{◌≡◌, ◌↔◌, ◌∙◌, ℕ, ◌<◌, true, false, List, [], ◌∷◌, length, Option, None, Some, Result, Ok, Err, sym, ap, subst, inl, inr, arith}
use Rattle.std.specs.Prelude.{slice_get, IsSome, IfSome, IfOk}
use Rattle.std.specs.List.{AllByRecursion}
use Rattle.nwa_base.specs.Members.{Member}
use Rattle.std.proofs.lemmas.List.{length-map}
use Rattle.letter_acts.specs.declared.frames.Frame.{Frame}
use Rattle.letter_acts.specs.Frames.{Columns}
use Rattle.letter_acts.specs.Acts.{PlainAct, inside_act, call_act, back_act, Alphabet, plain_frames}
use Rattle.letter_acts.specs.Invariant.{Graph, alphabet_of}
use Rattle.triple_rows.specs.declared.triples.Scoped.{Scoped}
use Rattle.triple_rows.specs.declared.triples.Triple.{Triple}
use Rattle.triple_rows.specs.declared.triples.Triple.TheVariants as triples
use Rattle.triple_rows.specs.Triples.{InsideAgrees, CallAgrees, BackAgrees, ReturnAgrees, Agrees, truth_of}
use Rattle.triple_rows.specs.Proofs.{PlainProof}
use Rattle.hoare_check.specs.Decided.{IsProofFor}
use Rattle.itp_automaton.specs.Certified.{Certificate}
use Rattle.itp_automaton.specs.Making.{named_in, IsStateFor, NameStatesFor, AreStates, HasStates}
use Rattle.itp_automaton.specs.Settling.{NamesStates}
use Rattle.itp_automaton.specs.Ties.Edges.{IsBuilt}

-- the predicate's procedure exists
abbrev Exists : Alphabet → Scoped → Type 0
Exists al s = s.proc < length al.frames

exists_so : (al : Alphabet) (s : Scoped) (p : ℕ) → s.proc ≡ p → p < length al.frames → Exists al s
exists_so al s p e lt = omega arith

inside_exist : (al : Alphabet) (o : Option PlainAct) (before after : Scoped) → InsideAgrees al o before after → Exists al before × Exists al after
inside_exist al None before after h = absurd h
inside_exist al (Some (inside_act p written helpers rows)) before after h = (exists_so al before p h.0.proc h.0.exists, exists_so al after p h.1.proc h.1.exists)
inside_exist al (Some (call_act caller callee helpers rows)) before after h = absurd h
inside_exist al (Some (back_act c targets)) before after h = absurd h

call_exist : (al : Alphabet) (o : Option PlainAct) (before after : Scoped) → CallAgrees al o before after → Exists al before × Exists al after
call_exist al None before after h = absurd h
call_exist al (Some (inside_act p written helpers rows)) before after h = absurd h
call_exist al (Some (call_act caller callee helpers rows)) before after h = (exists_so al before caller h.0.proc h.0.exists, exists_so al after callee h.1.proc h.1.exists)
call_exist al (Some (back_act c targets)) before after h = absurd h

return_exist : (al : Alphabet) (o : Option PlainAct) (exit before after : Scoped) → ReturnAgrees al o exit before after → Exists al exit × Exists al before × Exists al after
return_exist al None exit before after h = absurd h
return_exist al (Some (inside_act p written helpers rows)) exit before after h = absurd h
return_exist al (Some (call_act caller callee helpers rows)) exit before after h =
    (exists_so al exit callee h.0.proc h.0.exists, exists_so al before caller h.1.proc h.1.exists, exists_so al after caller h.2.proc h.2.exists)
return_exist al (Some (back_act c targets)) exit before after h = absurd h

back_exist : (al : Alphabet) (o : Option PlainAct) (exit before after : Scoped) → BackAgrees al o exit before after → Exists al exit × Exists al before × Exists al after
back_exist al None exit before after h = absurd h
back_exist al (Some (inside_act p written helpers rows)) exit before after h = absurd h
back_exist al (Some (call_act caller callee helpers rows)) exit before after h = absurd h
back_exist al (Some (back_act c targets)) exit before after h = return_exist al (slice_get al.acts c) exit before after h

-- the procedures of the predicates that a triple names exist
named_exist : (al : Alphabet) (t : Triple) → Agrees al t → AllByRecursion (Exists al) (named_in t)
named_exist al (triples.Inside before letter after) h = let k = inside_exist al (slice_get al.acts letter) before after h in (k.0, (k.1, tt))
named_exist al (triples.Call before letter after) h = let k = call_exist al (slice_get al.acts letter) before after h in (k.0, (k.1, tt))
named_exist al (triples.Back exit before letter after) h = let k = back_exist al (slice_get al.acts letter) exit before after h in (k.0, (k.1, (k.2, tt)))

module _ (g : Graph) (preds states : List Scoped) (h : AreStates (length g.frames) preds states) where
  state_is : (s : Scoped) → Exists (alphabet_of g) s → IsStateFor preds s → Member states s
  state_is s e (inl b) = subst (λ (x : Scoped). Member states x) (sym b.1) (h.truths s.proc b.0 e)
  state_is s e (inr m) = h.given s m

  states_are : (l : List Scoped) → AllByRecursion (Exists (alphabet_of g)) l → AllByRecursion (IsStateFor preds) l → AllByRecursion (Member states) l
  states_are [] e k = tt
  states_are (s ∷ l) e k = (state_is s e.0 k.0, states_are l e.1 k.1)

  preds_are : (l : List Scoped) → AllByRecursion (Member states) l → AllByRecursion (IsStateFor preds) l
  preds_are [] k = tt
  preds_are (s ∷ l) k = (h.only s k.0, preds_are l k.1)

  -- the proofs name states exactly where they name true, false and predicates of the list
  pub named_alike : (proofs : List PlainProof) → AllByRecursion (IsProofFor (alphabet_of g)) proofs →
      AllByRecursion (λ p. NamesStates states p.triple) proofs ↔ NameStatesFor preds proofs
  named_alike [] f = (λ k. tt, λ k. tt)
  named_alike (p ∷ ps) f =
      let rest = named_alike ps f.1 in (
        λ k. (preds_are (named_in p.triple) k.0, rest.0 k.1),
        λ k. (states_are (named_in p.triple) (named_exist (alphabet_of g) p.triple f.0.agrees) k.0, rest.1 k.1),
      )

  pub built_states : (proofs : List PlainProof) (c : Certificate) → c.preds ≡ states → IsBuilt g states proofs c.automaton → HasStates g preds c
  built_states proofs c e k = record {
    states = subst (λ (l : List Scoped). AreStates (length g.frames) preds l) (sym e) h;
    start = λ p place. subst (λ (l : List Scoped). slice_get l c.automaton.start ≡ Some (truth_of p true)) (sym e) (k.begun.start p place);
    finals = λ q p at. k.begun.finals q p (subst (λ (l : List Scoped). slice_get l q ≡ Some (truth_of p false)) e at);
  }

-- a fact of the value of an `Ok` by others
pub found_so : {E : Type 0} (r : Result (Option Certificate) E) (P Q : Type 0) → P ↔ Q → IfOk r (λ o. IsSome o ↔ P) → IfOk r (λ o. IsSome o ↔ Q)
found_so (Ok o) P Q e h = (λ s. e.0 (h.0 s), λ q. h.1 (e.1 q))
found_so (Err x) P Q e h = tt

pub some_so : {E : Type 0} (r : Result (Option Certificate) E) (P Q R : Certificate → Type 0) → ((c : Certificate) → P c → Q c → R c) →
    IfOk r (λ o. IfSome o P) → IfOk r (λ o. IfSome o Q) → IfOk r (λ o. IfSome o R)
some_so (Ok (Some c)) P Q R f h k = f c h k
some_so (Ok None) P Q R f h k = tt
some_so (Err x) P Q R f h k = tt

-- as many frames as there are lists of columns
pub frame_count : (frames : List Frame) (columns : List Columns) → plain_frames frames ≡ columns → length frames ≡ length columns
frame_count frames columns e = sym (length-map frames (λ (f : Frame). f.columns.items)) ∙ ap length e
