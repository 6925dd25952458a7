-- The letters of edges: their acts, where they lead, and that they write no old columns but from the start.
use Rattle.std.proofs.Common.{◌≡◌, ◌≢◌, ◌∙◌, ℕ, zero, suc, ◌+◌, List, [], ◌∷◌, Option, None, Some, refl, sym, subst, arith}
use Rattle.std.specs.Prelude.{slice_get, IsSome}
use Rattle.std.specs.List.{AllByRecursion}
use Rattle.std.proofs.lemmas.Bool.{false≢true}
use Rattle.nwa_base.specs.declared.letters.Kind.TheVariants as kinds
use Rattle.nwa_base.specs.declared.letters.Letter.{Letter}
use Rattle.nwa_base.specs.Members.{Member}
use Rattle.letter_acts.specs.Acts.{PlainAct, inside_act, call_act, back_act, Alphabet, frame_of, act_of}
use Rattle.letter_acts.specs.Invariant.{Graph, IsGraph, alphabet_of, IsPlaceOf, IsOld, HasBody, HaveBodies, InsideFollows, CallFollows, BackFollows, WritesNoOld}
use Rattle.letter_acts.specs.Known.{InsideKnown, CallKnown, BackKnown}
use Rattle.letter_acts.proofs.ListLemmas.{all_member}
use Rattle.letter_acts.proofs.KnownLemmas.{act_found, inside_edge_known, call_edge_known, back_edge_known}

-- a letter of the alphabet has the act of its number
act_is_found : (al : Alphabet) (a : Letter) (act : PlainAct) → IsSome (act_of al a) → slice_get al.acts a.id ≡ Some act → act_of al a ≡ Some act
act_is_found al a act s e = by_act (act_of al a) refl s
  where
    by_act : (o : Option PlainAct) → act_of al a ≡ o → IsSome o → act_of al a ≡ Some act
    by_act None i s = absurd (false≢true s)
    by_act (Some b) i s = i ∙ sym (act_found al a b i).0 ∙ e

pub record InsideEdge (g : Graph) (q : ℕ) (a : Letter) (e : ℕ) : Type 0 where
  pub known : InsideKnown g q a e
  pub act_is : act_of (alphabet_of g) a ≡ Some (inside_act known.proc known.written known.helpers known.rows)
  pub to : e ≢ 0
  pub olds : q ≢ 0 → AllByRecursion (λ c. IsOld (frame_of (alphabet_of g) known.proc) c → ⊥) known.written

pub inside_acts : (g : Graph) → IsGraph g → (q e : ℕ) (a : Letter) → Member g.automaton.insides (q, a, e) → InsideEdge g q a e
inside_acts g ok q e a m =
    let f = all_member (InsideFollows g) g.automaton.insides (q, a, e) m ok.edges.insides in
    let k = inside_edge_known g ok q e a m in
    let act : act_of (alphabet_of g) a ≡ Some (inside_act k.proc k.written k.helpers k.rows) =
    act_is_found (alphabet_of g) a (inside_act k.proc k.written k.helpers k.rows) f.letter k.act in
    record {
      known = k;
      act_is = act;
      to = f.to;
      olds = λ n. subst (λ (o : Option PlainAct). WritesNoOld (alphabet_of g) o) act (f.olds n);
    }

pub record CallEdge (g : Graph) (q : ℕ) (a : Letter) (e : ℕ) : Type 0 where
  pub known : CallKnown g q a e
  pub act_is : act_of (alphabet_of g) a ≡ Some (call_act known.caller known.callee known.helpers known.rows)
  pub to : e ≢ 0
  pub ends : IsPlaceOf g.place_procs known.callee e

-- the entry place of a procedure belongs to it
entry_place : (procs : List ℕ) (p n e : ℕ) (es xs : List (Option ℕ)) → HaveBodies procs p es xs → slice_get es n ≡ Some (Some e) → (m : ℕ) → m ≡ p + n → IsPlaceOf procs m e
entry_place procs p n e [] xs h i m k = absurd (cc)
entry_place procs p n e (o ∷ es) [] h i m k = absurd h
entry_place procs p zero e (o ∷ es) (x ∷ xs) h i m k =
    let f : o ≡ Some e = cc in
    let j : p ≡ m = omega (arith, k) in
    subst (λ (r : ℕ). IsPlaceOf procs r e) j (by_exit x (subst (λ (r : Option ℕ). HasBody procs p r x) f h.0))
  where
    by_exit : (x : Option ℕ) → HasBody procs p (Some e) x → IsPlaceOf procs p e
    by_exit None b = absurd b
    by_exit (Some z) b = b.0
entry_place procs p (suc n) e (o ∷ es) (x ∷ xs) h i m k = entry_place procs (suc p) n e es xs h.1 i m (omega (arith, k))

pub call_acts : (g : Graph) → IsGraph g → (q e : ℕ) (a : Letter) → Member g.automaton.calls (q, a, e) → CallEdge g q a e
call_acts g ok q e a m =
    let f = all_member (CallFollows g) g.automaton.calls (q, a, e) m ok.edges.calls in
    let k = call_edge_known g ok q e a m in
    record {
      known = k;
      act_is = act_is_found (alphabet_of g) a (call_act k.caller k.callee k.helpers k.rows) f.letter k.act;
      to = f.to;
      ends = entry_place g.place_procs 0 k.callee e g.entries g.exits ok.procedures.bodies k.enters k.callee (omega arith);
    }

pub record BackEdge (g : Graph) (q p : ℕ) (r : Letter) (e : ℕ) : Type 0 where
  pub known : BackKnown g q p r e
  pub act_is : act_of (alphabet_of g) r ≡ Some (back_act r.call known.targets)
  pub to : e ≢ 0
  pub exit : IsPlaceOf g.place_procs known.callee q

-- the exit place of a procedure belongs to it
exit_place : (procs : List ℕ) (p n e : ℕ) (es xs : List (Option ℕ)) → HaveBodies procs p es xs → slice_get xs n ≡ Some (Some e) → (m : ℕ) → m ≡ p + n → IsPlaceOf procs m e
exit_place procs p n e es [] h i m k = absurd (cc)
exit_place procs p n e [] (x ∷ xs) h i m k = absurd h
exit_place procs p zero e (o ∷ es) (x ∷ xs) h i m k =
    let f : x ≡ Some e = cc in
    let j : p ≡ m = omega (arith, k) in
    subst (λ (r : ℕ). IsPlaceOf procs r e) j (by_entry o (subst (λ (r : Option ℕ). HasBody procs p o r) f h.0))
  where
    by_entry : (o : Option ℕ) → HasBody procs p o (Some e) → IsPlaceOf procs p e
    by_entry None b = absurd b
    by_entry (Some z) b = b.1
exit_place procs p (suc n) e (o ∷ es) (x ∷ xs) h i m k = exit_place procs (suc p) n e es xs h.1 i m (omega (arith, k))

pub back_acts : (g : Graph) → IsGraph g → (q p e : ℕ) (r : Letter) → r.kind ≡ kinds.Back → Member g.automaton.backs (q, p, r, e) → BackEdge g q p r e
back_acts g ok q p e r kind m =
    let f = all_member (BackFollows g) g.automaton.backs (q, p, r, e) m ok.edges.backs in
    let k = back_edge_known g ok q p e r kind m in
    record {
      known = k;
      act_is = act_is_found (alphabet_of g) r (back_act r.call k.targets) f.letter k.act;
      to = f.to;
      exit = exit_place g.place_procs 0 k.callee q g.entries g.exits ok.procedures.bodies k.leaves k.callee (omega arith);
    }
