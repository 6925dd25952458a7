-- The candidates by a letter are the choices that agree with it, and what is made of their proofs.
use Rattle.std.proofs.Common.{◌≡◌, ◌∙◌, ◌⊎◌, ℕ, zero, suc, ◌<◌, Bool, true, false, List, [], ◌∷◌, length, Option, None, Some, refl, sym, ap, subst, inl, inr}
use Rattle.std.specs.Prelude.{slice_get, IsSome}
use Rattle.std.specs.List.{AllByRecursion}
use Rattle.std.specs.Option.{option_map}
use Rattle.lin_rows.specs.Rows.{LinearRow}
use Rattle.nwa_base.specs.Members.{Member, SameMembers}
use Rattle.nwa_base.proofs.MemberLemmas.{member_front, member_rest, member_split}
use Rattle.letter_acts.specs.Acts.{PlainAct, inside_act, call_act, back_act}
use Rattle.letter_acts.specs.Invariant.{Graph, alphabet_of}
use Rattle.triple_rows.specs.declared.triples.Scoped.{Scoped}
use Rattle.triple_rows.specs.declared.triples.Triple.{Triple}
use Rattle.triple_rows.specs.declared.triples.Triple.TheVariants as triples
use Rattle.triple_rows.specs.Triples.{truth_of, Agrees, InsideAgrees, CallAgrees, ReturnAgrees, BackAgrees}
use Rattle.triple_rows.specs.Proofs.{PlainProof}
use Rattle.hoare_check.specs.Decided.{RefutesUncut}
use Rattle.proof_form.specs.declared.numerals.Numeral.{Numeral}
use Rattle.proof_form.specs.Lines.{inside_triple, call_triple, back_triple}
use Rattle.proof_form.specs.Annotations.{Content}
use Rattle.proof_names.specs.declared.outlines.Listed.{Listed}
use Rattle.proof_names.specs.Options.{both}
use Rattle.proof_names.specs.Naming.{scoped_at, inside_at, call_at, return_at, back_at, triple_at}
use Rattle.itp_automaton.specs.Certified.{Certificate}
use Rattle.itp_automaton.specs.Making.{named_in, IsStateFor, NameStatesFor, HasStates, HasEdge, HasEdges}
use Rattle.itp_automaton.specs.Settling.{letter_in}
use Rattle.itp_automaton.proofs.EdgeLaws.{place_below}
use Rattle.itp_automaton.proofs.StateLaws.{place_of}
use Rattle.proof_reuse.specs.Found.{found_preds}
use Rattle.proof_reuse.specs.Candidates.{MayStandFor, StandsFor, IsTruthOf, RenewsLine, IsTrueThroughout, KeepsFalse, BeginsTrue, IsCandidate}
use Rattle.proof_reuse.specs.Ties.Choices.{Taken, IsTakenFrom, numbers_in, pair_choices, begun_pairs, call_pair_choices, three_choices, inside_listed, call_listed, back_listed, act_choices, return_choices, choices_by, IsPicked, ArePicked, AreCandidatesBy}
use Rattle.proof_reuse.specs.Ties.Numbers.{AreFound}
use Rattle.proof_reuse.specs.Ties.Settling.{IsSettling}
use Rattle.proof_reuse.proofs.ChoiceLaws.{here_listed, listed_here, image_there, origin_of}
use Rattle.proof_reuse.proofs.CandidateLaws.{source_state, target_state, IsTriedPair, pair_tried, tried_pair, IsTriedThree, three_tried, tried_three, InsideLine, CallLine, BackLine, inside_line, line_inside, call_line, line_call, back_line, line_back}

-- ---- where a candidate comes from

module _ (g : Graph) (old : Content) where
  abbrev Origin : Triple → Type 0
  Origin t = RenewsLine g old t ⊎ (IsTrueThroughout t ⊎ (KeepsFalse t ⊎ BeginsTrue g old t))

  module _ (preds : List Scoped) (numbers : List (Option ℕ)) (found : AreFound g old.preds preds numbers) where
    inside_origin : (s e : Scoped) (l : ℕ) → IsTriedPair g old preds numbers found (InsideLine old.triples) s e → Origin (triples.Inside s l e)
    inside_origin s e l (inl h) = inl (inside_triple h.0 h.2.0 h.1 h.2.1, h.2.2, (h.3, h.4))
    inside_origin s e l (inr (inl t)) = inr (inl (t.0, (t.1, tt)))
    inside_origin s e l (inr (inr t)) = inr (inr (inl (t.0, t.1)))

    origin_inside : (s e : Scoped) (l : ℕ) → Origin (triples.Inside s l e) → IsTriedPair g old preds numbers found (InsideLine old.triples) s e
    origin_inside s e l (inl (inside_triple q k r proof, m, h)) = inl (q, r, (k, proof, m), h.0, h.1)
    origin_inside s e l (inl (call_triple q k r proof, m, h)) = absurd h
    origin_inside s e l (inl (back_triple x b k r proof, m, h)) = absurd h
    origin_inside s e l (inr (inl t)) = inr (inl (t.0, t.1.0))
    origin_inside s e l (inr (inr (inl t))) = inr (inr (t.0, t.1))
    origin_inside s e l (inr (inr (inr none))) = absurd none

    call_origin : (s e : Scoped) (l : ℕ) → IsTriedPair g old preds numbers found (CallLine old.triples) s e → Origin (triples.Call s l e)
    call_origin s e l (inl h) = inl (call_triple h.0 h.2.0 h.1 h.2.1, h.2.2, (h.3, h.4))
    call_origin s e l (inr (inl t)) = inr (inl (t.0, (t.1, tt)))
    call_origin s e l (inr (inr t)) = inr (inr (inl (t.0, t.1)))

    -- but for a call that begins with true
    origin_call : (s e : Scoped) (l : ℕ) → Origin (triples.Call s l e) → IsTriedPair g old preds numbers found (CallLine old.triples) s e ⊎ BeginsTrue g old (triples.Call s l e)
    origin_call s e l (inl (inside_triple q k r proof, m, h)) = absurd h
    origin_call s e l (inl (call_triple q k r proof, m, h)) = inl (inl (q, r, (k, proof, m), h.0, h.1))
    origin_call s e l (inl (back_triple x b k r proof, m, h)) = absurd h
    origin_call s e l (inr (inl t)) = inl (inr (inl (t.0, t.1.0)))
    origin_call s e l (inr (inr (inl t))) = inl (inr (inr (t.0, t.1)))
    origin_call s e l (inr (inr (inr t))) = inr t

    back_origin : (x b e : Scoped) (l : ℕ) → IsTriedThree g old preds numbers found (BackLine old.triples) x b e → Origin (triples.Back x b l e)
    back_origin x b e l (inl h) = inl (back_triple h.0 h.1 h.3.0 h.2 h.3.1, h.3.2, (h.4, (h.5, h.6)))
    back_origin x b e l (inr (inl t)) = inr (inl (t.0, (t.1, (t.2, tt))))
    back_origin x b e l (inr (inr (inl t))) = inr (inr (inl (inl (t.0, t.1), t.2)))
    back_origin x b e l (inr (inr (inr t))) = inr (inr (inl (inr (t.0, t.1), t.2)))

    origin_back : (x b e : Scoped) (l : ℕ) → Origin (triples.Back x b l e) → IsTriedThree g old preds numbers found (BackLine old.triples) x b e
    origin_back x b e l (inl (inside_triple q k r proof, m, h)) = absurd h
    origin_back x b e l (inl (call_triple q k r proof, m, h)) = absurd h
    origin_back x b e l (inl (back_triple i j k r proof, m, h)) = inl (i, j, r, (k, proof, m), h.0, h.1.0, h.1.1)
    origin_back x b e l (inr (inl t)) = inr (inl (t.0, t.1.0, t.1.1.0))
    origin_back x b e l (inr (inr (inl (inl t, f)))) = inr (inr (inl (t.0, t.1, f)))
    origin_back x b e l (inr (inr (inl (inr t, f)))) = inr (inr (inr (t.0, t.1, f)))
    origin_back x b e l (inr (inr (inr none))) = absurd none

-- ---- triples by their numbers

pair_is : {X Y : Type 0} (o : Option X) (u : Option Y) (F : X × Y → Triple) (t : Triple) → option_map F (both o u) ≡ Some t → (x : X) × (y : Y) × (o ≡ Some x) × (u ≡ Some y) × (F (x, y) ≡ t)
pair_is None u F t e = absurd (let f : None ≡ Some t = e in cc)
pair_is (Some x) None F t e = absurd (let f : None ≡ Some t = e in cc)
pair_is (Some x) (Some y) F t e = (x, y, refl, refl, (let f : F (x, y) ≡ t = cc in f))

three_is : {X Y Z : Type 0} (o : Option X) (u : Option Y) (v : Option Z) (F : X × (Y × Z) → Triple) (t : Triple) → option_map F (both o (both u v)) ≡ Some t →
    (x : X) × (y : Y) × (z : Z) × (o ≡ Some x) × (u ≡ Some y) × (v ≡ Some z) × (F (x, (y, z)) ≡ t)
three_is None u v F t e = absurd (let f : None ≡ Some t = e in cc)
three_is (Some x) None v F t e = absurd (let f : None ≡ Some t = e in cc)
three_is (Some x) (Some y) None F t e = absurd (let f : None ≡ Some t = e in cc)
three_is (Some x) (Some y) (Some z) F t e = (x, y, z, refl, refl, refl, (let f : F (x, (y, z)) ≡ t = cc in f))

-- what number 0 stands for in a procedure is true there
begun_is : (p : ℕ) (w : Scoped) → w.proc ≡ p → Some (truth_of p true) ≡ Some w → IsTruthOf true w
begun_is p w e f = let g : truth_of p true ≡ w = cc in sym g ∙ ap (λ (q : ℕ). truth_of q true) (sym e)

module _ (g : Graph) (old : Content) (t : Taken) (h : IsTakenFrom g old t) where
  abbrev P : ℕ → Option Scoped
  P = slice_get t.preds

  -- ---- each choice is a candidate

  inside_sound : (l p : ℕ) (written : List ℕ) (helpers : ℕ) (rows : List LinearRow) (c : ℕ × ℕ) (x : Triple) → slice_get g.acts l ≡ Some (inside_act p written helpers rows) →
      Member (pair_choices t.preds t.insides p p) c → triple_at g.acts P (inside_listed l c) ≡ Some x → Agrees (alphabet_of g) x → IsCandidate g old x
  inside_sound l p written helpers rows c x a m e agrees =
      let k = pair_is (scoped_at P p c.0) (scoped_at P p c.1) (λ z. triples.Inside z.0 l z.1) x (sym (ap (inside_at P c.0 l c.1) a) ∙ e) in
      let s = k.0 in
      let w = k.1 in
      let i : Agrees (alphabet_of g) (triples.Inside s l w) = subst (Agrees (alphabet_of g)) (sym k.4) agrees in
      let j = subst (λ (o : Option PlainAct). InsideAgrees (alphabet_of g) o s w) a i in
      let tried = pair_tried g old t.preds h.numbers h.found t.insides (InsideLine old.triples) p p s w j.0.proc j.1.proc
      (λ y n. inside_line h.numbers old.triples y (h.insides.there y n)) c m k.2 k.3 in
      subst (IsCandidate g old) k.4 (record { agrees = i; origin = inside_origin g old t.preds h.numbers h.found s w l tried })

  -- a choice of a call is one of the pairs, or a predicate with true
  call_from : (caller callee : ℕ) (c : ℕ × ℕ) (s w : Scoped) (l : ℕ) → s.proc ≡ caller → w.proc ≡ callee → scoped_at P caller c.0 ≡ Some s → scoped_at P callee c.1 ≡ Some w →
      Member (pair_choices t.preds t.calls caller callee) c ⊎ Member (begun_pairs t.preds caller) c → Origin g old (triples.Call s l w)
  call_from caller callee c s w l e f a b (inl m) =
      call_origin g old t.preds h.numbers h.found s w l
      (pair_tried g old t.preds h.numbers h.found t.calls (CallLine old.triples) caller callee s w e f (λ y n. call_line h.numbers old.triples y (h.calls.there y n)) c m a b)
  call_from caller callee c s w l e f a b (inr m) =
      let r = origin_of (λ (k : ℕ). (k, 0)) (numbers_in t.preds caller) c m in
      let first : r.0 ≡ c.0 = ap (λ (x : ℕ × ℕ). x.0) r.2 in
      let second : 0 ≡ c.1 = ap (λ (x : ℕ × ℕ). x.1) r.2 in
      let there : Member t.preds s = here_listed t.preds caller r.0 s r.1 (ap (scoped_at P caller) first ∙ a) in
      let truth : Some (truth_of callee true) ≡ Some w = ap (scoped_at P callee) second ∙ b in
      inr (inr (inr (h.found.same.there s there, begun_is callee w f truth)))

  call_sound : (l caller callee helpers : ℕ) (rows : List LinearRow) (c : ℕ × ℕ) (x : Triple) → slice_get g.acts l ≡ Some (call_act caller callee helpers rows) →
      Member (call_pair_choices t.preds t.calls caller callee) c → triple_at g.acts P (call_listed l c) ≡ Some x → Agrees (alphabet_of g) x → IsCandidate g old x
  call_sound l caller callee helpers rows c x a m e agrees =
      let k = pair_is (scoped_at P caller c.0) (scoped_at P callee c.1) (λ z. triples.Call z.0 l z.1) x (sym (ap (call_at P c.0 l c.1) a) ∙ e) in
      let s = k.0 in
      let w = k.1 in
      let i : Agrees (alphabet_of g) (triples.Call s l w) = subst (Agrees (alphabet_of g)) (sym k.4) agrees in
      let j = subst (λ (o : Option PlainAct). CallAgrees (alphabet_of g) o s w) a i in
      let origin = call_from caller callee c s w l j.0.proc j.1.proc k.2 k.3 (member_split (pair_choices t.preds t.calls caller callee) (begun_pairs t.preds caller) c m) in
      subst (IsCandidate g old) k.4 (record { agrees = i; origin = origin })

  back_sound : (l d : ℕ) (targets : List ℕ) (caller callee helpers : ℕ) (rows : List LinearRow) (c : ℕ × ℕ × ℕ) (x : Triple) → slice_get g.acts l ≡ Some (back_act d targets) →
      slice_get g.acts d ≡ Some (call_act caller callee helpers rows) → Member (three_choices t.preds t.backs callee caller) c →
      triple_at g.acts P (back_listed l c) ≡ Some x → Agrees (alphabet_of g) x → IsCandidate g old x
  back_sound l d targets caller callee helpers rows c x a b m e agrees =
      let k = three_is (scoped_at P callee c.0) (scoped_at P caller c.1) (scoped_at P caller c.2) (λ z. triples.Back z.0 z.1.0 l z.1.1) x
      (sym (ap (return_at P c.0 c.1 l c.2) b) ∙ sym (ap (back_at g.acts P c.0 c.1 l c.2) a) ∙ e) in
      let y = k.0 in
      let s = k.1 in
      let w = k.2 in
      let i : Agrees (alphabet_of g) (triples.Back y s l w) = subst (Agrees (alphabet_of g)) (sym k.6) agrees in
      let j = subst (λ (o : Option PlainAct). ReturnAgrees (alphabet_of g) o y s w) b (subst (λ (o : Option PlainAct). BackAgrees (alphabet_of g) o y s w) a i) in
      let tried = three_tried g old t.preds h.numbers h.found t.backs (BackLine old.triples) callee caller y s w j.0.proc j.1.proc j.2.proc
      (λ z n. back_line h.numbers old.triples z (h.backs.there z n)) c m k.3 k.4 k.5 in
      subst (IsCandidate g old) k.6 (record { agrees = i; origin = back_origin g old t.preds h.numbers h.found y s w l tried })

  return_sound : (l d : ℕ) (targets : List ℕ) (o : Option PlainAct) (y : Listed) (x : Triple) → slice_get g.acts l ≡ Some (back_act d targets) → slice_get g.acts d ≡ o →
      Member (return_choices t l o) y → triple_at g.acts P y ≡ Some x → Agrees (alphabet_of g) x → IsCandidate g old x
  return_sound l d targets None y x a b m e agrees = absurd m
  return_sound l d targets (Some (inside_act p written helpers rows)) y x a b m e agrees = absurd m
  return_sound l d targets (Some (call_act caller callee helpers rows)) y x a b m e agrees =
      let r = origin_of (back_listed l) (three_choices t.preds t.backs callee caller) y m in
      back_sound l d targets caller callee helpers rows r.0 x a b r.1 (ap (triple_at g.acts P) r.2 ∙ e) agrees
  return_sound l d targets (Some (back_act k more)) y x a b m e agrees = absurd m

  act_sound : (l : ℕ) (o : Option PlainAct) (y : Listed) (x : Triple) → slice_get g.acts l ≡ o → Member (act_choices g.acts t l o) y → triple_at g.acts P y ≡ Some x →
      Agrees (alphabet_of g) x → IsCandidate g old x
  act_sound l None y x a m e agrees = absurd m
  act_sound l (Some (inside_act p written helpers rows)) y x a m e agrees =
      let r = origin_of (inside_listed l) (pair_choices t.preds t.insides p p) y m in
      inside_sound l p written helpers rows r.0 x a r.1 (ap (triple_at g.acts P) r.2 ∙ e) agrees
  act_sound l (Some (call_act caller callee helpers rows)) y x a m e agrees =
      let r = origin_of (call_listed l) (call_pair_choices t.preds t.calls caller callee) y m in
      call_sound l caller callee helpers rows r.0 x a r.1 (ap (triple_at g.acts P) r.2 ∙ e) agrees
  act_sound l (Some (back_act d targets)) y x a m e agrees = return_sound l d targets (slice_get g.acts d) y x a refl m e agrees

  -- ---- each candidate is a choice

  record IsChosen (l : ℕ) (o : Option PlainAct) (x : Triple) : Type 0 where
    listed : Listed
    there : Member (act_choices g.acts t l o) listed
    reads : slice_get g.acts l ≡ o → triple_at g.acts P listed ≡ Some x

  inside_chosen : (l : ℕ) (o : Option PlainAct) (s w : Scoped) → InsideAgrees (alphabet_of g) o s w → IsTriedPair g old t.preds h.numbers h.found (InsideLine old.triples) s w →
      IsChosen l o (triples.Inside s l w)
  inside_chosen l None s w a r = absurd a
  inside_chosen l (Some (inside_act p written helpers rows)) s w a r =
      let k = tried_pair g old t.preds h.numbers h.found t.insides (InsideLine old.triples) p p s w a.0.proc a.1.proc
      (λ i j y n e f. h.insides.back y (line_inside h.numbers old.triples i j y n e f)) r in
      record {
        listed = inside_listed l k.0;
        there = image_there (inside_listed l) (pair_choices t.preds t.insides p p) k.0 k.1;
        reads = λ e. ap (inside_at P k.0.0 l k.0.1) e ∙ (rw (k.2, k.3) refl);
      }
  inside_chosen l (Some (call_act caller callee helpers rows)) s w a r = absurd a
  inside_chosen l (Some (back_act d targets)) s w a r = absurd a

  call_chosen : (l : ℕ) (o : Option PlainAct) (s w : Scoped) → CallAgrees (alphabet_of g) o s w → IsTriedPair g old t.preds h.numbers h.found (CallLine old.triples) s w →
      IsChosen l o (triples.Call s l w)
  call_chosen l None s w a r = absurd a
  call_chosen l (Some (inside_act p written helpers rows)) s w a r = absurd a
  call_chosen l (Some (call_act caller callee helpers rows)) s w a r =
      let k = tried_pair g old t.preds h.numbers h.found t.calls (CallLine old.triples) caller callee s w a.0.proc a.1.proc
      (λ i j y n e f. h.calls.back y (line_call h.numbers old.triples i j y n e f)) r in
      record {
        listed = call_listed l k.0;
        there = image_there (call_listed l) (call_pair_choices t.preds t.calls caller callee) k.0
            (member_front (pair_choices t.preds t.calls caller callee) (begun_pairs t.preds caller) k.0 k.1);
        reads = λ e. ap (call_at P k.0.0 l k.0.1) e ∙ (rw (k.2, k.3) refl);
      }
  call_chosen l (Some (back_act d targets)) s w a r = absurd a

  begun_chosen : (l : ℕ) (o : Option PlainAct) (s w : Scoped) → CallAgrees (alphabet_of g) o s w → BeginsTrue g old (triples.Call s l w) → IsChosen l o (triples.Call s l w)
  begun_chosen l None s w a r = absurd a
  begun_chosen l (Some (inside_act p written helpers rows)) s w a r = absurd a
  begun_chosen l (Some (call_act caller callee helpers rows)) s w a r =
      let q = place_of t.preds s (h.found.same.back s r.0) in
      let n : ℕ × ℕ = (suc (suc q.0), 0) in
      let there : Member (begun_pairs t.preds caller) n = image_there (λ (k : ℕ). (k, 0)) (numbers_in t.preds caller) (suc (suc q.0)) (listed_here t.preds caller q.0 s q.1 a.0.proc) in
      let target : truth_of callee true ≡ w = ap (λ (p : ℕ). truth_of p true) (sym a.1.proc) ∙ sym r.1 in
      record {
        listed = call_listed l n;
        there = image_there (call_listed l) (call_pair_choices t.preds t.calls caller callee) n
            (member_rest (pair_choices t.preds t.calls caller callee) (begun_pairs t.preds caller) n there);
        reads = λ e. ap (call_at P (suc (suc q.0)) l 0) e ∙ (rw q.1 (ap (λ (z : Scoped). Some (triples.Call s l z)) target));
      }
  begun_chosen l (Some (back_act d targets)) s w a r = absurd a

  called_chosen : (l : ℕ) (s w : Scoped) → CallAgrees (alphabet_of g) (slice_get g.acts l) s w →
      IsTriedPair g old t.preds h.numbers h.found (CallLine old.triples) s w ⊎ BeginsTrue g old (triples.Call s l w) → IsChosen l (slice_get g.acts l) (triples.Call s l w)
  called_chosen l s w a (inl r) = call_chosen l (slice_get g.acts l) s w a r
  called_chosen l s w a (inr r) = begun_chosen l (slice_get g.acts l) s w a r

  return_chosen : (l d : ℕ) (targets : List ℕ) (o : Option PlainAct) (x s w : Scoped) → ReturnAgrees (alphabet_of g) o x s w → IsTriedThree g old t.preds h.numbers h.found (BackLine old.triples) x s w →
      (y : Listed) × Member (return_choices t l o) y × (slice_get g.acts l ≡ Some (back_act d targets) → slice_get g.acts d ≡ o → triple_at g.acts P y ≡ Some (triples.Back x s l w))
  return_chosen l d targets None x s w a r = absurd a
  return_chosen l d targets (Some (inside_act p written helpers rows)) x s w a r = absurd a
  return_chosen l d targets (Some (call_act caller callee helpers rows)) x s w a r =
      let k = tried_three g old t.preds h.numbers h.found t.backs (BackLine old.triples) callee caller x s w a.0.proc a.1.proc a.2.proc
      (λ i j m y n e f u. h.backs.back y (line_back h.numbers old.triples i j m y n e f u)) r in (
        back_listed l k.0,
        image_there (back_listed l) (three_choices t.preds t.backs callee caller) k.0 k.1,
        λ e f. ap (back_at g.acts P k.0.0 k.0.1 l k.0.2) e ∙ ap (return_at P k.0.0 k.0.1 l k.0.2) f ∙ (rw (k.2, k.3, k.4) refl),
      )
  return_chosen l d targets (Some (back_act k more)) x s w a r = absurd a

  back_chosen : (l : ℕ) (o : Option PlainAct) (x s w : Scoped) → BackAgrees (alphabet_of g) o x s w → IsTriedThree g old t.preds h.numbers h.found (BackLine old.triples) x s w →
      IsChosen l o (triples.Back x s l w)
  back_chosen l None x s w a r = absurd a
  back_chosen l (Some (inside_act p written helpers rows)) x s w a r = absurd a
  back_chosen l (Some (call_act caller callee helpers rows)) x s w a r = absurd a
  back_chosen l (Some (back_act d targets)) x s w a r =
      let k = return_chosen l d targets (slice_get g.acts d) x s w a r in
      record { listed = k.0; there = k.1; reads = λ e. k.2 e refl }

  chosen : (x : Triple) → IsCandidate g old x → IsChosen (letter_in x) (slice_get g.acts (letter_in x)) x
  chosen (triples.Inside s l w) c = inside_chosen l (slice_get g.acts l) s w c.agrees (origin_inside g old t.preds h.numbers h.found s w l c.origin)
  chosen (triples.Call s l w) c = called_chosen l s w c.agrees (origin_call g old t.preds h.numbers h.found s w l c.origin)
  chosen (triples.Back x s l w) c = back_chosen l (slice_get g.acts l) x s w c.agrees (origin_back g old t.preds h.numbers h.found x s w l c.origin)

  all_if : (Q : Triple → Type 0) (R : Triple → Type 0) (xs : List Triple) → ((x : Triple) → R x → Q x) → AllByRecursion R xs → AllByRecursion Q xs
  all_if Q R [] f k = tt
  all_if Q R (x ∷ xs) f k = (f x k.0, all_if Q R xs f k.1)

  -- the choices by a letter that agree with it are the candidates by it
  pub picked_candidates : (l : ℕ) (listed : List Listed) (xs : List Triple) → SameMembers listed (choices_by g t l) → ArePicked g t.preds listed xs → AreCandidatesBy g old l xs
  picked_candidates l listed xs same picked = record {
    each = all_if (IsCandidate g old) (λ x. (y : Listed) × Member listed y × IsPicked g t.preds y x) xs
        (λ x k. act_sound l (slice_get g.acts l) k.0 x refl (same.there k.0 k.1) k.2.is k.2.agrees) picked.each;
    all = λ x c e.
        let k = chosen x c in
        let there : Member (choices_by g t l) k.listed = subst (λ (n : ℕ). Member (choices_by g t n) k.listed) e k.there in
        picked.all k.listed x (same.back k.listed there) (record { is = k.reads refl; agrees = c.agrees });
  }

-- ---- the automaton

-- the letter of a triple that agrees with it is one of the alphabet
inside_below : (g : Graph) (l : ℕ) (o : Option PlainAct) (s w : Scoped) → slice_get g.acts l ≡ o → InsideAgrees (alphabet_of g) o s w → l < length g.acts
inside_below g l None s w e a = absurd a
inside_below g l (Some x) s w e a = place_below g.acts l x e

call_below : (g : Graph) (l : ℕ) (o : Option PlainAct) (s w : Scoped) → slice_get g.acts l ≡ o → CallAgrees (alphabet_of g) o s w → l < length g.acts
call_below g l None s w e a = absurd a
call_below g l (Some x) s w e a = place_below g.acts l x e

back_below : (g : Graph) (l : ℕ) (o : Option PlainAct) (y s w : Scoped) → slice_get g.acts l ≡ o → BackAgrees (alphabet_of g) o y s w → l < length g.acts
back_below g l None y s w e a = absurd a
back_below g l (Some x) y s w e a = place_below g.acts l x e

agrees_below : (g : Graph) (x : Triple) → Agrees (alphabet_of g) x → letter_in x < length g.acts
agrees_below g (triples.Inside s l w) a = inside_below g l (slice_get g.acts l) s w refl a
agrees_below g (triples.Call s l w) a = call_below g l (slice_get g.acts l) s w refl a
agrees_below g (triples.Back y s l w) a = back_below g l (slice_get g.acts l) y s w refl a

module _ (g : Graph) (old : Content) (t : Taken) (h : IsTakenFrom g old t) where
  abbrev IsState : Scoped → Type 0
  IsState = IsStateFor t.preds

  truth_state : (b : Bool) (s : Scoped) → IsTruthOf b s → IsState s
  truth_state b s e = inl (b, e)

  source : (n : Numeral) (s : Scoped) → MayStandFor g old n s → IsState s
  source n s m = source_state g old t.preds h.numbers h.found n s m

  target : (n : Numeral) (s : Scoped) → StandsFor g old n s → IsState s
  target n s m = target_state g old t.preds h.numbers h.found n s m

  -- the predicates of a candidate are true, false or found
  named_by : (x : Triple) → RenewsLine g old x ⊎ (IsTrueThroughout x ⊎ (KeepsFalse x ⊎ BeginsTrue g old x)) → AllByRecursion IsState (named_in x)
  named_by (triples.Inside s l w) (inl (inside_triple q k r proof, m, i)) = (source q s i.0, (target r w i.1, tt))
  named_by (triples.Inside s l w) (inl (call_triple q k r proof, m, i)) = absurd i
  named_by (triples.Inside s l w) (inl (back_triple x b k r proof, m, i)) = absurd i
  named_by (triples.Inside s l w) (inr (inl i)) = (truth_state true s i.0, (truth_state true w i.1.0, tt))
  named_by (triples.Inside s l w) (inr (inr (inl i))) = (truth_state false s i.0, (truth_state false w i.1, tt))
  named_by (triples.Inside s l w) (inr (inr (inr none))) = absurd none
  named_by (triples.Call s l w) (inl (inside_triple q k r proof, m, i)) = absurd i
  named_by (triples.Call s l w) (inl (call_triple q k r proof, m, i)) = (source q s i.0, (target r w i.1, tt))
  named_by (triples.Call s l w) (inl (back_triple x b k r proof, m, i)) = absurd i
  named_by (triples.Call s l w) (inr (inl i)) = (truth_state true s i.0, (truth_state true w i.1.0, tt))
  named_by (triples.Call s l w) (inr (inr (inl i))) = (truth_state false s i.0, (truth_state false w i.1, tt))
  named_by (triples.Call s l w) (inr (inr (inr i))) = (inr (h.found.same.back s i.0), (truth_state true w i.1, tt))
  named_by (triples.Back y s l w) (inl (inside_triple q k r proof, m, i)) = absurd i
  named_by (triples.Back y s l w) (inl (call_triple q k r proof, m, i)) = absurd i
  named_by (triples.Back y s l w) (inl (back_triple x b k r proof, m, i)) = (source x y i.0, (source b s i.1.0, (target r w i.1.1, tt)))
  named_by (triples.Back y s l w) (inr (inl i)) = (truth_state true y i.0, (truth_state true s i.1.0, (truth_state true w i.1.1.0, tt)))
  named_by (triples.Back y s l w) (inr (inr (inl (inl i, f)))) = (truth_state false y i.0, (truth_state true s i.1, (truth_state false w f, tt)))
  named_by (triples.Back y s l w) (inr (inr (inl (inr i, f)))) = (truth_state true y i.0, (truth_state false s i.1, (truth_state false w f, tt)))
  named_by (triples.Back y s l w) (inr (inr (inr none))) = absurd none

  pub candidates_named : (proofs : List PlainProof) → AllByRecursion (λ p. IsCandidate g old p.triple) proofs → NameStatesFor t.preds proofs
  candidates_named [] k = tt
  candidates_named (p ∷ ps) k = (named_by p.triple k.0.origin, candidates_named ps k.1)

  pub states_found : (c : Certificate) → HasStates g t.preds c → HasStates g (found_preds g old) c
  states_found c k = record {
    states = record {
      once = k.states.once;
      truths = k.states.truths;
      given = λ s m. k.states.given s (h.found.same.back s m);
      only = λ s m. elim (k.states.only s m) [ inl b ↦ inl b | inr i ↦ inr (h.found.same.there s i) ];
    };
    start = k.start;
    finals = k.finals;
  }

  -- each candidate that Decide refutes is an edge
  pub settled_edges : (proofs : List PlainProof) (c : Certificate) → IsSettling g old (length g.acts) [] proofs → HasEdges (alphabet_of g) proofs c →
      (x : Triple) → IsCandidate g old x → RefutesUncut (alphabet_of g) x → HasEdge (alphabet_of g) c.preds c.automaton x
  settled_edges proofs c s k x d r = elim (s.due x d (agrees_below g x d.agrees)) [
    | inl settles ↦ let p = settles d.agrees r in subst (λ (y : Triple). HasEdge (alphabet_of g) c.preds c.automaton y) p.2 (k p.0 p.1)
    | inr none ↦ absurd none
  ]

-- a value that is there is not missing
pub not_missing : {X : Type 0} (o : Option X) → IsSome o → o ≡ None → ⊥
not_missing {X} None s e = let k : IsSome {T = X} None = s in cc
not_missing (Some x) s e = cc
