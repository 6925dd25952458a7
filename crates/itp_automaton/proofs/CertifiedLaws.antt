-- A run of the stack machine of a certified automaton stays in the predicates of its states.
use Rattle.std.proofs.Common.{◌≡◌, ◌∙◌, ℕ, List, [], ◌∷◌, Option, None, Some, sym, subst}
use Rattle.std.specs.Prelude.{Bool, true, false, slice_get, if◌then◌else◌}
use Rattle.nwa_base.specs.declared.letters.Kind.{Kind}
use Rattle.nwa_base.specs.declared.letters.Kind.TheVariants as kinds
use Rattle.nwa_base.specs.declared.letters.Letter.{Letter}
use Rattle.nwa_base.specs.Letters.{same_letter}
use Rattle.nwa_base.specs.Members.{Member}
use Rattle.nwa_base.specs.Acceptance.{Accepts}
use Rattle.lin_rows.specs.Points.{point_of}
use Rattle.letter_acts.specs.Acts.{PlainAct, inside_act, call_act, back_act, Alphabet, letter_of, named_act, act_of}
use Rattle.letter_acts.specs.Meaning.{Situation, ActInside, ActCalls, ActReturns, ReturnsFrom}
use Rattle.letter_acts.specs.Ways.{Leads, Goes}
use Rattle.letter_acts.specs.Feasible.{IsFeasible, machine}
use Rattle.letter_acts.proofs.MachineLemmas.{machine_runs}
use Rattle.triple_rows.specs.declared.triples.Scoped.{Scoped}
use Rattle.triple_rows.specs.Predicates.{Formula, formula_of, FormulaHolds}
use Rattle.triple_rows.specs.Triples.{ScopedHolds, InsideAgrees, CallAgrees, ReturnAgrees, BackAgrees}
use Rattle.itp_automaton.specs.Certified.{Certificate, IsTruthAt, IsCertified}

-- the predicate of the state holds of the situation's values
record Describes (c : Certificate) (x : ℕ × Situation) : Type 0 where
  pred : Scoped
  state : slice_get c.preds x.0 ≡ Some pred
  holds : FormulaHolds (point_of x.1.values) (formula_of pred.pred)

abbrev AreDescribed : Certificate → List (ℕ × Situation) → Type 0
AreDescribed c [] = Unit {0}
AreDescribed c (x ∷ stack) = Describes c x × AreDescribed c stack

-- the predicate of the state holds, whichever way it is named
so_holds : (c : Certificate) (x : ℕ × Situation) (p : Scoped) → Describes c x → slice_get c.preds x.0 ≡ Some p → FormulaHolds (point_of x.1.values) (formula_of p.pred)
so_holds c x p d e =
    let k : Some d.pred ≡ Some p = sym d.state ∙ e in
    let i : d.pred ≡ p = cc in
    subst (λ (y : Scoped). FormulaHolds (point_of x.1.values) (formula_of y.pred)) i d.holds

-- ---- acts of letters

inside_if : (al : Alphabet) (act : PlainAct) (b : Bool) (s t : Situation) → ActInside al (if b then Some act else None) s t → ActInside al (Some act) s t
inside_if al act true s t h = h
inside_if al act false s t h = absurd h

inside_named : (al : Alphabet) (a : Letter) (o : Option PlainAct) (s t : Situation) → ActInside al (named_act a o) s t → ActInside al o s t
inside_named al a None s t h = absurd h
inside_named al a (Some act) s t h = inside_if al act (same_letter a (letter_of a.id act)) s t h

calls_if : (al : Alphabet) (act : PlainAct) (b : Bool) (s t : Situation) → ActCalls al (if b then Some act else None) s t → ActCalls al (Some act) s t
calls_if al act true s t h = h
calls_if al act false s t h = absurd h

calls_named : (al : Alphabet) (a : Letter) (o : Option PlainAct) (s t : Situation) → ActCalls al (named_act a o) s t → ActCalls al o s t
calls_named al a None s t h = absurd h
calls_named al a (Some act) s t h = calls_if al act (same_letter a (letter_of a.id act)) s t h

returns_if : (al : Alphabet) (act : PlainAct) (b : Bool) (x p t : Situation) → ActReturns al (if b then Some act else None) x p t → ActReturns al (Some act) x p t
returns_if al act true x p t h = h
returns_if al act false x p t h = absurd h

returns_named : (al : Alphabet) (a : Letter) (o : Option PlainAct) (x p t : Situation) → ActReturns al (named_act a o) x p t → ActReturns al o x p t
returns_named al a None x p t h = absurd h
returns_named al a (Some act) x p t h = returns_if al act (same_letter a (letter_of a.id act)) x p t h

-- ---- the procedures of situations are those of the predicates

inside_in : (al : Alphabet) (o : Option PlainAct) (p q : Scoped) (s t : Situation) → InsideAgrees al o p q → ActInside al o s t → s.proc ≡ p.proc
inside_in al None p q s t a h = absurd h
inside_in al (Some (inside_act n written helpers rows)) p q s t a h = let i : s.proc ≡ n = h.0.0 in let e : p.proc ≡ n = a.0.proc in cc
inside_in al (Some (call_act caller callee helpers rows)) p q s t a h = absurd h
inside_in al (Some (back_act n targets)) p q s t a h = absurd h

calls_in : (al : Alphabet) (o : Option PlainAct) (p q : Scoped) (s t : Situation) → CallAgrees al o p q → ActCalls al o s t → s.proc ≡ p.proc
calls_in al None p q s t a h = absurd h
calls_in al (Some (inside_act n written helpers rows)) p q s t a h = absurd h
calls_in al (Some (call_act caller callee helpers rows)) p q s t a h = let i : s.proc ≡ caller = h.0.0 in let e : p.proc ≡ caller = a.0.proc in cc
calls_in al (Some (back_act n targets)) p q s t a h = absurd h

returned_in : (al : Alphabet) (targets : List ℕ) (o : Option PlainAct) (x p q : Scoped) (r s t : Situation) → ReturnAgrees al o x p q → ReturnsFrom al targets o r s t →
    (r.proc ≡ x.proc) × (s.proc ≡ p.proc)
returned_in al targets None x p q r s t a h = absurd h
returned_in al targets (Some (inside_act n written helpers rows)) x p q r s t a h = absurd h
returned_in al targets (Some (call_act caller callee helpers rows)) x p q r s t a h =
    let i : r.proc ≡ callee = h.0.0 in
    let e : x.proc ≡ callee = a.0.proc in
    let j : s.proc ≡ caller = h.1.0 in
    let f : p.proc ≡ caller = a.1.proc in
    (cc, cc)
returned_in al targets (Some (back_act n more)) x p q r s t a h = absurd h

returns_in : (al : Alphabet) (o : Option PlainAct) (x p q : Scoped) (r s t : Situation) → BackAgrees al o x p q → ActReturns al o r s t → (r.proc ≡ x.proc) × (s.proc ≡ p.proc)
returns_in al None x p q r s t a h = absurd h
returns_in al (Some (inside_act n written helpers rows)) x p q r s t a h = absurd h
returns_in al (Some (call_act caller callee helpers rows)) x p q r s t a h = absurd h
returns_in al (Some (back_act n targets)) x p q r s t a h = returned_in al targets (slice_get al.acts n) x p q r s t a h

-- ---- one letter on

inside_on : (al : Alphabet) (c : Certificate) → IsCertified al c → (a : Letter) (x y : ℕ × Situation) → Describes c x → Member c.automaton.insides (x.0, a, y.0) →
    ActInside al (act_of al a) x.1 y.1 → Describes c y
inside_on al c k a x y d edge act =
    let e = k.insides x.0 y.0 a edge in
    let h = inside_named al a (slice_get al.acts a.id) x.1 y.1 act in
    let source : ScopedHolds e.before x.1 = (inside_in al (slice_get al.acts a.id) e.before e.after x.1 y.1 e.proved.agrees h, so_holds c x e.before d e.source) in
    record { pred = e.after; state = e.target; holds = (e.proved.valid x.1 y.1 h source).1 }

calls_on : (al : Alphabet) (c : Certificate) → IsCertified al c → (a : Letter) (x y : ℕ × Situation) → Describes c x → Member c.automaton.calls (x.0, a, y.0) →
    ActCalls al (act_of al a) x.1 y.1 → Describes c y
calls_on al c k a x y d edge act =
    let e = k.calls x.0 y.0 a edge in
    let h = calls_named al a (slice_get al.acts a.id) x.1 y.1 act in
    let source : ScopedHolds e.before x.1 = (calls_in al (slice_get al.acts a.id) e.before e.after x.1 y.1 e.proved.agrees h, so_holds c x e.before d e.source) in
    record { pred = e.after; state = e.target; holds = (e.proved.valid x.1 y.1 h source).1 }

backs_on : (al : Alphabet) (c : Certificate) → IsCertified al c → (a : Letter) (x b y : ℕ × Situation) → Describes c x → Describes c b →
    Member c.automaton.backs (x.0, b.0, a, y.0) → ActReturns al (act_of al a) x.1 b.1 y.1 → Describes c y
backs_on al c k a x b y d caller edge act =
    let e = k.backs x.0 b.0 y.0 a edge in
    let h = returns_named al a (slice_get al.acts a.id) x.1 b.1 y.1 act in
    let procs = returns_in al (slice_get al.acts a.id) e.exit e.before e.after x.1 b.1 y.1 e.proved.agrees h in
    let exit : ScopedHolds e.exit x.1 = (procs.0, so_holds c x e.exit d e.source) in
    let before : ScopedHolds e.before b.1 = (procs.1, so_holds c b e.before caller e.caller) in
    record { pred = e.after; state = e.target; holds = (e.proved.valid x.1 b.1 y.1 h exit before).1 }

letter_on : (al : Alphabet) (c : Certificate) → IsCertified al c → (kind : Kind) (a : Letter) (stack : List (ℕ × Situation)) (x y : ℕ × Situation)
    (P : List (ℕ × Situation) → Type 0) → AreDescribed c stack → Describes c x → Leads (machine c.automaton al) kind a stack x y P →
    (after : List (ℕ × Situation)) × AreDescribed c after × Describes c y × P after
letter_on al c k kinds.Inside a stack x y P s d h = (stack, s, inside_on al c k a x y d h.0.0 h.0.1, h.1)
letter_on al c k kinds.Call a stack x y P s d h = (x ∷ stack, (d, s), calls_on al c k a x y d h.0.0 h.0.1, h.1)
letter_on al c k kinds.Back a [] x y P s d h = absurd h
letter_on al c k kinds.Back a (b ∷ stack) x y P s d h = (stack, s.1, backs_on al c k a x b y d s.0 h.0.0 h.0.1, h.1)

-- ---- words

never_false : (c : Certificate) (x : ℕ × Situation) → Describes c x → IsTruthAt c.preds x.0 false → ⊥
never_false c x d f = subst (λ (g : Formula). FormulaHolds (point_of x.1.values) g) f.2 (so_holds c x f.0 d f.1)

no_final : (al : Alphabet) (c : Certificate) → IsCertified al c → (w : List Letter) (stack after : List (ℕ × Situation)) (x last : ℕ × Situation) →
    AreDescribed c stack → Describes c x → Goes (machine c.automaton al) stack x w after last → Member c.automaton.finals last.0 → ⊥
no_final al c k [] stack after x last s d h e =
    never_false c last (subst (λ (y : ℕ × Situation). Describes c y) h.1 d) (k.finals last.0 e)
no_final al c k (a ∷ w) stack after x last s d h e =
    let r = letter_on al c k a.kind a stack x h.0 (λ l. Goes (machine c.automaton al) l h.0 w after last) s d h.1 in
    no_final al c k w r.0 after h.0 last r.1 r.2 r.3 e

-- no accepted word is feasible
pub infeasible : (al : Alphabet) (c : Certificate) → IsCertified al c → (w : List Letter) → Accepts c.automaton w → IsFeasible al w → ⊥
infeasible al c k w accepts feasible =
    let run = (machine_runs c.automaton al w).0 (accepts, feasible) in
    let begin : Describes c (c.automaton.start, run.first) = record {
      pred = k.start.0;
      state = k.start.1;
      holds = subst (λ (g : Formula). FormulaHolds (point_of run.first.values) g) (sym k.start.2) tt;
    } in
    no_final al c k w [] run.open_calls (c.automaton.start, run.first) run.last tt begin run.goes run.ends
