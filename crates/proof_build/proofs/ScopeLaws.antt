-- The nodes, steps and triples of an unwinding name what exists, in its scope.
use Rattle.std.proofs.Common.{◌≡◌, ◌∙◌, ℕ, zero, suc, ◌+◌, ◌<◌, List, [], ◌∷◌, ◌++◌, length, Option, None, Some, refl, sym, ap, subst, inl, inr, arith}
use Rattle.std.specs.Prelude.{map, slice_get, IsSomeAnd}
use Rattle.std.specs.List.{AllByRecursion}
use Rattle.std.specs.Option.{option_map}
use Rattle.nwa_base.specs.declared.letters.Kind.TheVariants as kinds
use Rattle.nwa_base.specs.declared.letters.Letter.{Letter}
use Rattle.nwa_base.specs.Members.{Member}
use Rattle.nwa_base.specs.Automata.{Automaton, IsAutomaton, IsBackEdge}
use Rattle.nwa_base.proofs.MemberLemmas.{member_split, member_from_map}
use Rattle.lin_rows.specs.Rows.{LinearRow}
use Rattle.letter_acts.specs.Acts.{PlainAct, inside_act, call_act, back_act}
use Rattle.letter_acts.specs.Invariant.{Graph, IsGraph, alphabet_of, IsPlaceOf, HasBody, HaveBodies}
use Rattle.letter_acts.specs.Known.{CallKnown, BackKnown}
use Rattle.letter_acts.proofs.KnownLemmas.{inside_edge_known, call_edge_known, back_edge_known}
use Rattle.triple_rows.specs.declared.triples.Scoped.{Scoped}
use Rattle.triple_rows.specs.declared.triples.Triple.{Triple}
use Rattle.triple_rows.specs.Triples.{Agrees, InsideAgrees, CallAgrees, BackAgrees, ReturnAgrees}
use Rattle.triple_rows.proofs.ListLaws.{within, something_at}
use Rattle.proof_names.specs.declared.outlines.Listed.{Listed}
use Rattle.proof_names.specs.declared.outlines.Listed.TheVariants.{Inside, Call, Back}
use Rattle.proof_names.specs.declared.outlines.NamedStep.{NamedStep}
use Rattle.proof_names.specs.Naming.{scoped_at, triple_at, IsPredOf, MayBegin, IsNodeIn, StepIsIn, ReturnIsIn, BackIsIn, IsInScope}
use Rattle.proof_names.specs.Outlines.{OutlineNode}
use Rattle.proof_names.specs.ProofSpell.Drafts as drafts
use Rattle.proof_names.specs.ProofSpell.Drafts.{PlainShown, MayBeShown, MayStand, MayBeSpelled}
use Rattle.proof_check.proofs.NamedLaws.{inside_two, call_two, back_three}
use Rattle.proof_build.specs.ProofUnwind.Unwindings.{node_at, node_place_in, entry_of, bare}
use Rattle.proof_build.specs.Unwindings.{Unwinding, step_of, back_of, steps_of, draft_of}
use Rattle.proof_build.specs.Unwound.{IsUnwound}
use Rattle.proof_build.proofs.WordLaws.{node_is, node_there, kept_everywhere}

pub all_of_member : {X : Type 0} (P : X → Type 0) (xs : List X) (x : X) → AllByRecursion P xs → Member xs x → P x
all_of_member P [] x h m = absurd m
all_of_member P (y ∷ xs) x h (inl e) = subst P e h.0
all_of_member P (y ∷ xs) x h (inr m) = all_of_member P xs x h.1 m

pub all_from_members : {X : Type 0} (P : X → Type 0) (xs : List X) → ((x : X) → Member xs x → P x) → AllByRecursion P xs
all_from_members P [] h = tt
all_from_members P (x ∷ xs) h = (h x (inl refl), all_from_members P xs (λ y m. h y (inr m)))

pub same_proc : (procs : List ℕ) (p q place : ℕ) → IsPlaceOf procs p place → IsPlaceOf procs q place → p ≡ q
same_proc procs p q place a b = cc

-- ---- the places of procedures with bodies

entry_belongs : (procs : List ℕ) (e : ℕ) (x : Option ℕ) (p : ℕ) → HasBody procs p (Some e) x → IsPlaceOf procs p e
entry_belongs procs e None p h = absurd h
entry_belongs procs e (Some x) p h = h.0

exit_belongs : (procs : List ℕ) (e : Option ℕ) (x p : ℕ) → HasBody procs p e (Some x) → IsPlaceOf procs p x
exit_belongs procs None x p h = absurd h
exit_belongs procs (Some e) x p h = h.1

entry_at : (procs : List ℕ) (p k q e : ℕ) (es xs : List (Option ℕ)) → q ≡ p + k → HaveBodies procs p es xs → slice_get es k ≡ Some (Some e) → IsPlaceOf procs q e
entry_at procs p k q e [] xs i h s = absurd (cc)
entry_at procs p k q e (o ∷ es) [] i h s = absurd h
entry_at procs p zero q e (o ∷ es) (x ∷ xs) i h s =
    let a : o ≡ Some e = cc in let b : p ≡ q = omega arith in
    entry_belongs procs e x q (subst (λ (n : ℕ). HasBody procs n (Some e) x) b (subst (λ (r : Option ℕ). HasBody procs p r x) a h.0))
entry_at procs p (suc k) q e (o ∷ es) (x ∷ xs) i h s = entry_at procs (suc p) k q e es xs (omega arith) h.1 s

exit_at : (procs : List ℕ) (p k q e : ℕ) (es xs : List (Option ℕ)) → q ≡ p + k → HaveBodies procs p es xs → slice_get xs k ≡ Some (Some e) → IsPlaceOf procs q e
exit_at procs p k q e [] [] i h s = absurd (cc)
exit_at procs p k q e [] (x ∷ xs) i h s = absurd h
exit_at procs p k q e (o ∷ es) [] i h s = absurd h
exit_at procs p zero q e (o ∷ es) (x ∷ xs) i h s =
    let a : x ≡ Some e = cc in let b : p ≡ q = omega arith in
    exit_belongs procs o e q (subst (λ (n : ℕ). HasBody procs n o (Some e)) b (subst (λ (r : Option ℕ). HasBody procs p o r) a h.0))
exit_at procs p (suc k) q e (o ∷ es) (x ∷ xs) i h s = exit_at procs (suc p) k q e es xs (omega arith) h.1 s

pub call_ends : (g : Graph) (q e : ℕ) (a : Letter) → IsGraph g → (k : CallKnown g q a e) → IsPlaceOf g.place_procs k.callee e
call_ends g q e a i k = entry_at g.place_procs 0 k.callee k.callee e g.entries g.exits (omega arith) i.procedures.bodies k.enters

pub back_leaves : (g : Graph) (q p e : ℕ) (r : Letter) → IsGraph g → (k : BackKnown g q p r e) → IsPlaceOf g.place_procs k.callee q
back_leaves g q p e r i k = exit_at g.place_procs 0 k.callee k.callee q g.entries g.exits (omega arith) i.procedures.bodies k.leaves

pub back_kind : (m : Automaton) (q p e : ℕ) (r : Letter) → IsAutomaton m → Member m.backs (q, p, r, e) → r.kind ≡ kinds.Back
back_kind m q p e r h e2 = (all_of_member (IsBackEdge m.states) m.backs (q, p, r, e) h.backs e2).letter

-- ---- targets of listed triples

-- a predicate that is there and is of the procedure
of_proc : (o : Option Scoped) (s : Scoped) (p : ℕ) → o ≡ Some s → s.proc ≡ p → IsSomeAnd o (λ x. x.proc ≡ p)
of_proc None s p e h = absurd (cc)
of_proc (Some x) s p e h = let k : x ≡ s = cc in ap (λ (y : Scoped). y.proc) k ∙ h

inside_target : (g : Graph) (preds : List Scoped) (q r l p : ℕ) (written : List ℕ) (helpers : ℕ) (rows : List LinearRow) (t : PlainShown) →
    slice_get g.acts l ≡ Some (inside_act p written helpers rows) → MayBeShown g preds t → t.listed ≡ Inside q l r → IsPredOf (slice_get preds) p r
inside_target g preds q r l p written helpers rows t act m e =
    let n : triple_at g.acts (slice_get preds) (Inside q l r) ≡ Some m.triple = subst (λ (x : Listed). triple_at g.acts (slice_get preds) x ≡ Some m.triple) e m.is in
    let w = inside_two (slice_get preds) q l r p written helpers rows (slice_get g.acts l) m.triple act n in
    let a : InsideAgrees (alphabet_of g) (slice_get g.acts l) w.one w.other = subst (λ (x : Triple). Agrees (alphabet_of g) x) (sym w.made) m.agrees in
    let b : InsideAgrees (alphabet_of g) (Some (inside_act p written helpers rows)) w.one w.other = subst (λ (o : Option PlainAct). InsideAgrees (alphabet_of g) o w.one w.other) act a in
    of_proc (scoped_at (slice_get preds) p r) w.other p w.second b.1.proc

call_target : (g : Graph) (preds : List Scoped) (q r l caller callee helpers : ℕ) (rows : List LinearRow) (t : PlainShown) →
    slice_get g.acts l ≡ Some (call_act caller callee helpers rows) → MayBeShown g preds t → t.listed ≡ Call q l r → IsPredOf (slice_get preds) callee r
call_target g preds q r l caller callee helpers rows t act m e =
    let n : triple_at g.acts (slice_get preds) (Call q l r) ≡ Some m.triple = subst (λ (x : Listed). triple_at g.acts (slice_get preds) x ≡ Some m.triple) e m.is in
    let w = call_two (slice_get preds) q l r caller callee helpers rows (slice_get g.acts l) m.triple act n in
    let a : CallAgrees (alphabet_of g) (slice_get g.acts l) w.one w.other = subst (λ (x : Triple). Agrees (alphabet_of g) x) (sym w.made) m.agrees in
    let b : CallAgrees (alphabet_of g) (Some (call_act caller callee helpers rows)) w.one w.other = subst (λ (o : Option PlainAct). CallAgrees (alphabet_of g) o w.one w.other) act a in
    of_proc (scoped_at (slice_get preds) callee r) w.other callee w.second b.1.proc

back_target : (g : Graph) (preds : List Scoped) (q b r l c caller callee helpers : ℕ) (targets : List ℕ) (rows : List LinearRow) (t : PlainShown) →
    slice_get g.acts l ≡ Some (back_act c targets) → slice_get g.acts c ≡ Some (call_act caller callee helpers rows) → MayBeShown g preds t → t.listed ≡ Back q b l r →
    IsPredOf (slice_get preds) caller r
back_target g preds q b r l c caller callee helpers targets rows t act call m e =
    let n : triple_at g.acts (slice_get preds) (Back q b l r) ≡ Some m.triple = subst (λ (x : Listed). triple_at g.acts (slice_get preds) x ≡ Some m.triple) e m.is in
    let w = back_three g.acts (slice_get preds) q b l r c targets caller callee helpers rows (slice_get g.acts l) m.triple act call n in
    let a : BackAgrees (alphabet_of g) (slice_get g.acts l) w.exit w.before w.to = subst (λ (x : Triple). Agrees (alphabet_of g) x) (sym w.made) m.agrees in
    let d : ReturnAgrees (alphabet_of g) (slice_get g.acts c) w.exit w.before w.to = subst (λ (o : Option PlainAct). BackAgrees (alphabet_of g) o w.exit w.before w.to) act a in
    let f : ReturnAgrees (alphabet_of g) (Some (call_act caller callee helpers rows)) w.exit w.before w.to =
    subst (λ (o : Option PlainAct). ReturnAgrees (alphabet_of g) o w.exit w.before w.to) call d in
    of_proc (scoped_at (slice_get preds) caller r) w.to caller w.third f.2.proc

-- ---- what each node keeps

-- the node's place and that of its entry node are of one procedure, of which its predicates are
record Stands (g : Graph) (preds : List Scoped) (nodes : List OutlineNode) (n : ℕ) : Type 0 where
  proc : ℕ
  exists : IsPlaceOf g.place_procs proc (node_place_in nodes n)
  scoped : AllByRecursion (IsPredOf (slice_get preds) proc) (node_at nodes n).preds
  there : entry_of nodes n < length nodes
  itself : entry_of nodes (entry_of nodes n) ≡ entry_of nodes n
  belongs : IsPlaceOf g.place_procs proc (node_place_in nodes (entry_of nodes n))
  begins : MayBegin g proc (node_place_in nodes (entry_of nodes n))

-- a node with the entry node of another one of its procedure
with_entry : (g : Graph) (preds : List Scoped) (nodes : List OutlineNode) (n k p : ℕ) → Stands g preds nodes n → entry_of nodes k ≡ entry_of nodes n → IsPlaceOf g.place_procs p (node_place_in nodes n) →
    IsPlaceOf g.place_procs p (node_place_in nodes k) → AllByRecursion (IsPredOf (slice_get preds) p) (node_at nodes k).preds → Stands g preds nodes k
with_entry g preds nodes n k p s e a b c =
    let q : s.proc ≡ p = same_proc g.place_procs s.proc p (node_place_in nodes n) s.exists a in
    let f : entry_of nodes n ≡ entry_of nodes k = sym e in
    record {
      proc = p;
      exists = b;
      scoped = c;
      there = subst (λ (x : ℕ). x < length nodes) f s.there;
      itself = subst (λ (x : ℕ). entry_of nodes x ≡ x) f s.itself;
      belongs = subst (λ (x : ℕ). IsPlaceOf g.place_procs p (node_place_in nodes x)) f (subst (λ (x : ℕ). IsPlaceOf g.place_procs x (node_place_in nodes (entry_of nodes n))) q s.belongs);
      begins = subst (λ (x : ℕ). MayBegin g p (node_place_in nodes x)) f (subst (λ (x : ℕ). MayBegin g x (node_place_in nodes (entry_of nodes n))) q s.begins);
    }

all_scoped : (preds : List Scoped) (p : ℕ) (rs : List ℕ) → ((r : ℕ) → Member rs r → IsPredOf (slice_get preds) p r) → AllByRecursion (IsPredOf (slice_get preds) p) rs
all_scoped preds p rs h = all_from_members (IsPredOf (slice_get preds) p) rs h

module _ (g : Graph) (bs : List Automaton) (u : Unwinding) (i : IsGraph g) (m : IsAutomaton g.automaton) (h : IsUnwound g bs u) where
  shown_of : (t : PlainShown) → Member u.triples t → MayBeShown g u.preds t
  shown_of t e = all_of_member (MayBeShown g u.preds) u.triples t h.triples e

  inside_stands : (n : ℕ) (a : Letter) (k : ℕ) → Member u.steps.insides (n, a, k) → Stands g u.preds u.nodes n → Stands g u.preds u.nodes k
  inside_stands n a k e s =
      let d = h.along.insides n a k e in
      let w = inside_edge_known g i (node_place_in u.nodes n) (node_place_in u.nodes k) a d.edge in
      with_entry g u.preds u.nodes n k w.proc s d.entry w.starts w.ends (all_scoped u.preds w.proc (node_at u.nodes k).preds
      (λ r f. let q = h.shown.insides n a k e r f in inside_target g u.preds q.0 r a.id w.proc w.written w.helpers w.rows q.1.0 w.act (shown_of q.1.0 q.1.1) q.1.2))

  call_stands : (n : ℕ) (a : Letter) (k : ℕ) → Member u.steps.calls (n, a, k) → Stands g u.preds u.nodes k
  call_stands n a k e =
      let d = h.along.calls n a k e in
      let w = call_edge_known g i (node_place_in u.nodes n) (node_place_in u.nodes k) a d.edge in
      let b : IsPlaceOf g.place_procs w.callee (node_place_in u.nodes k) = call_ends g (node_place_in u.nodes n) (node_place_in u.nodes k) a i w in
      let f : k ≡ entry_of u.nodes k = sym d.entry in
      record {
        proc = w.callee;
        exists = b;
        scoped = all_scoped u.preds w.callee (node_at u.nodes k).preds
            (λ r f. let q = h.shown.calls n a k e r f in call_target g u.preds q.0 r a.id w.caller w.callee w.helpers w.rows q.1.0 w.act (shown_of q.1.0 q.1.1) q.1.2);
        there = subst (λ (x : ℕ). x < length u.nodes) f d.to;
        itself = ap (entry_of u.nodes) d.entry;
        belongs = subst (λ (x : ℕ). IsPlaceOf g.place_procs w.callee (node_place_in u.nodes x)) f b;
        begins = subst (λ (x : ℕ). MayBegin g w.callee (node_place_in u.nodes x)) f (inr w.enters);
      }

  back_stands : (x c : ℕ) (r : Letter) (k : ℕ) → Member u.steps.backs (x, c, r, k) → Stands g u.preds u.nodes c → Stands g u.preds u.nodes k
  back_stands x c r k e s =
      let d = h.along.backs x c r k e in
      let w = back_edge_known g i (node_place_in u.nodes x) (node_place_in u.nodes c) (node_place_in u.nodes k) r (back_kind g.automaton (node_place_in u.nodes x) (node_place_in u.nodes c) (node_place_in u.nodes k) r m d.edge) d.edge in
      with_entry g u.preds u.nodes c k w.caller s d.entry w.before w.ends (all_scoped u.preds w.caller (node_at u.nodes k).preds
      (λ t f. let q = h.shown.backs x c r k e t f in
      back_target g u.preds q.0 q.1 t r.id r.call w.caller w.callee w.helpers w.targets w.rows q.2.0 w.act w.call (shown_of q.2.0 q.2.1) q.2.2))

  pub first_is : node_at u.nodes 0 ≡ bare
  first_is = node_is u.nodes 0 bare h.start

  first_stands : Stands g u.preds u.nodes 0
  first_stands =
      let l : 0 < length g.place_procs = (let a = m.start in let b = i.procedures.start in let c = i.procedures.place_procs in omega arith) in
      let p = something_at g.place_procs 0 l in
      let z : node_place_in u.nodes 0 ≡ 0 = ap (λ (x : OutlineNode). x.place) first_is in
      let f : entry_of u.nodes 0 ≡ 0 = ap (λ (x : OutlineNode). x.entry) first_is in
      let y : 0 ≡ entry_of u.nodes 0 = sym f in
      let b : IsPlaceOf g.place_procs p.0 (node_place_in u.nodes 0) = subst (λ (x : ℕ). IsPlaceOf g.place_procs p.0 x) (sym z) p.1 in
      record {
        proc = p.0;
        exists = b;
        scoped = subst (λ (x : OutlineNode). AllByRecursion (IsPredOf (slice_get u.preds) p.0) x.preds) (sym first_is) tt;
        there = subst (λ (x : ℕ). x < length u.nodes) y (within u.nodes 0 bare h.start);
        itself = ap (entry_of u.nodes) f;
        belongs = subst (λ (x : ℕ). IsPlaceOf g.place_procs p.0 (node_place_in u.nodes x)) y b;
        begins = subst (λ (x : ℕ). MayBegin g p.0 (node_place_in u.nodes x)) y (inl z);
      }

  stands : (n : ℕ) → n < length u.nodes → Stands g u.preds u.nodes n
  stands n l = kept_everywhere h.tree (Stands g u.preds u.nodes) (entry_of u.nodes n) n (record {
    insides = λ q a k e s. inside_stands q a k (h.part.insides q a k e) s;
    calls = λ q a k e s. call_stands q a k (h.part.calls q a k e);
    backs = λ x c r k e s t. back_stands x c r k (h.part.backs x c r k e) t;
  }) first_stands (h.reached n l)

  node_stands : (n : ℕ) (x : OutlineNode) → slice_get u.nodes n ≡ Some x → MayStand g u.preds u.nodes n x
  node_stands n x e =
      let l = within u.nodes n x e in
      let s = stands n l in
      let k : node_at u.nodes n ≡ x = node_is u.nodes n x e in
      subst (λ (y : OutlineNode). MayStand g u.preds u.nodes n y) k (record {
        proc = s.proc;
        exists = s.exists;
        ascend = h.ascend n l;
        scoped = s.scoped;
        entry = record { node = node_at u.nodes (entry_of u.nodes n); stands = node_there u.nodes (entry_of u.nodes n) s.there; itself = s.itself; belongs = s.belongs };
        begins = λ f. subst (λ (y : ℕ). MayBegin g s.proc (node_place_in u.nodes y)) f s.begins;
      })

  -- ---- steps

  node_in : (p n : ℕ) → n < length u.nodes → IsPlaceOf g.place_procs p (node_place_in u.nodes n) → IsNodeIn g (drafts.node_place u.nodes) p n
  node_in p n l b =
      let e : drafts.node_place u.nodes n ≡ Some (node_place_in u.nodes n) = ap (option_map (λ (x : OutlineNode). x.place)) (node_there u.nodes n l) in
      subst (λ (o : Option ℕ). IsSomeAnd o (IsPlaceOf g.place_procs p)) (sym e) b

  inside_in_scope : (n : ℕ) (a : Letter) (k : ℕ) → Member u.steps.insides (n, a, k) → IsInScope g (drafts.node_place u.nodes) (step_of (n, a, k))
  inside_in_scope n a k e =
      let d = h.along.insides n a k e in
      let w = inside_edge_known g i (node_place_in u.nodes n) (node_place_in u.nodes k) a d.edge in
      subst (λ (o : Option PlainAct). StepIsIn g (drafts.node_place u.nodes) n k o) (sym w.act) (node_in w.proc n d.from w.starts, node_in w.proc k d.to w.ends)

  call_in_scope : (n : ℕ) (a : Letter) (k : ℕ) → Member u.steps.calls (n, a, k) → IsInScope g (drafts.node_place u.nodes) (step_of (n, a, k))
  call_in_scope n a k e =
      let d = h.along.calls n a k e in
      let w = call_edge_known g i (node_place_in u.nodes n) (node_place_in u.nodes k) a d.edge in
      subst (λ (o : Option PlainAct). StepIsIn g (drafts.node_place u.nodes) n k o) (sym w.act)
      (node_in w.caller n d.from w.starts, node_in w.callee k d.to (call_ends g (node_place_in u.nodes n) (node_place_in u.nodes k) a i w))

  back_in_scope : (x c : ℕ) (r : Letter) (k : ℕ) → Member u.steps.backs (x, c, r, k) → IsInScope g (drafts.node_place u.nodes) (back_of (x, c, r, k))
  back_in_scope x c r k e =
      let d = h.along.backs x c r k e in
      let w = back_edge_known g i (node_place_in u.nodes x) (node_place_in u.nodes c) (node_place_in u.nodes k) r (back_kind g.automaton (node_place_in u.nodes x) (node_place_in u.nodes c) (node_place_in u.nodes k) r m d.edge) d.edge in
      subst (λ (o : Option PlainAct). BackIsIn g (drafts.node_place u.nodes) x c k o) (sym w.act)
      (subst (λ (o : Option PlainAct). ReturnIsIn g (drafts.node_place u.nodes) x c k o) (sym w.call)
      (node_in w.callee x d.exit (back_leaves g (node_place_in u.nodes x) (node_place_in u.nodes c) (node_place_in u.nodes k) r i w), node_in w.caller c d.before w.before, node_in w.caller k d.to w.ends))

  step_in_scope : (t : NamedStep) → Member (steps_of u.steps) t → IsInScope g (drafts.node_place u.nodes) t
  step_in_scope t e = elim (member_split (map step_of u.steps.insides) (map step_of u.steps.calls ++ map back_of u.steps.backs) t e) [
    | inl a ↦ let f = member_from_map step_of u.steps.insides t a in
        subst (λ (x : NamedStep). IsInScope g (drafts.node_place u.nodes) x) f.2 (inside_in_scope f.0.0 f.0.1 f.0.2 f.1)
    | inr b ↦ elim (member_split (map step_of u.steps.calls) (map back_of u.steps.backs) t b) [
      | inl a ↦ let f = member_from_map step_of u.steps.calls t a in
          subst (λ (x : NamedStep). IsInScope g (drafts.node_place u.nodes) x) f.2 (call_in_scope f.0.0 f.0.1 f.0.2 f.1)
      | inr a ↦ let f = member_from_map back_of u.steps.backs t a in
          subst (λ (x : NamedStep). IsInScope g (drafts.node_place u.nodes) x) f.2 (back_in_scope f.0.0 f.0.1 f.0.2 f.0.3 f.1)
    ]
  ]

  -- lines can say an unwinding
  pub may_be_spelled : MayBeSpelled g (draft_of u)
  may_be_spelled = record {
    preds = h.preds;
    triples = h.triples;
    nodes = node_stands;
    steps = all_from_members (IsInScope g (drafts.node_place u.nodes)) (steps_of u.steps) step_in_scope;
  }
