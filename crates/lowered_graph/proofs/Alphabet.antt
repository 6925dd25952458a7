-- The alphabet of a program's graph: its frames, and what its letters mean.
use Rattle.std.proofs.Common.{◌≡◌, ◌∙◌, ℕ, zero, suc, ◌+◌, ◌<◌, ℤ, List, [], ◌∷◌, map, length, Option, Some, refl, sym, ap, subst, arith}
use Rattle.std.specs.Prelude.{slice_get, unwrap_or}
use Rattle.std.proofs.lemmas.Option.{slice_get_within}
use Rattle.lin_rows.specs.Rows.{LinearRow}
use Rattle.typed_tree.specs.TypedTree.{TypedProcedure, TypedProgram}
use Rattle.letter_acts.specs.Frames.{Columns}
use Rattle.letter_acts.specs.Acts.{PlainAct, inside_act, call_act, back_act, Alphabet, frame_of, letter_of, act_of}
use Rattle.letter_acts.specs.Meaning.{InsideLeads, CallLeads, BackLeads, Situation, ActInside, ActCalls, ActReturns, ReturnsFrom}
use Rattle.letter_acts.specs.Invariant.{alphabet_of}
use Rattle.lowered_graph.specs.LoweredSteps.ProgramFrames.{frame_at}
use Rattle.lowered_graph.specs.Lowered.{counted_procs, lowered}
use Rattle.lowered_graph.proofs.ActNumbers.{act_of_letter}

abbrev pub letters_of : TypedProgram → Alphabet
letters_of t = alphabet_of (lowered t)

-- ---- frames

pub counted_get : {X : Type 0} (f : ℕ × TypedProcedure → X) (k : ℕ) (qs : List TypedProcedure) (n : ℕ) (q : TypedProcedure) → slice_get qs n ≡ Some q → slice_get (map f (counted_procs k qs)) n ≡ Some (f (k + n, q))
counted_get f k [] n q e = absurd (cc)
counted_get f k (r ∷ qs) zero q e =
    let same : r ≡ q = cc in
    let here : k ≡ k + 0 = omega arith in
    ap (λ (x : TypedProcedure). Some (f (k, x))) same ∙ ap (λ (m : ℕ). Some (f (m, q))) here
counted_get f k (r ∷ qs) (suc n) q e =
    let next : suc k + n ≡ k + suc n = omega arith in
    counted_get f (suc k) qs n q e ∙ ap (λ (m : ℕ). Some (f (m, q))) next

frame_got : (t : TypedProgram) (n : ℕ) (q : TypedProcedure) → slice_get t.procs n ≡ Some q → slice_get (letters_of t).frames n ≡ Some (frame_at t n)
frame_got t n q e =
    let here : 0 + n ≡ n = omega arith in
    counted_get (λ q. frame_at t q.0) 0 t.procs n q e ∙ ap (λ (m : ℕ). Some (frame_at t m)) here

pub frame_is : (t : TypedProgram) (n : ℕ) (q : TypedProcedure) → slice_get t.procs n ≡ Some q → frame_of (letters_of t) n ≡ frame_at t n
frame_is t n q e = ap (λ (o : Option Columns). unwrap_or o []) (frame_got t n q e)

pub proc_exists : (t : TypedProgram) (n : ℕ) (q : TypedProcedure) → slice_get t.procs n ≡ Some q → n < length (letters_of t).frames
proc_exists t n q e = slice_get_within (letters_of t).frames n (frame_at t n) (frame_got t n q e)

-- ---- what letters mean

abbrev pub situation : ℕ → List ℤ → Situation
situation n values = record { proc = n; values = values }

pub inside_means : (t : TypedProgram) (n id : ℕ) (q : TypedProcedure) (written : List ℕ) (helpers : ℕ) (rows : List LinearRow) (s u : List ℤ) → slice_get t.procs n ≡ Some q →
    slice_get (letters_of t).acts id ≡ Some (inside_act n written helpers rows) → InsideLeads (frame_at t n) written helpers rows s u →
    ActInside (letters_of t) (act_of (letters_of t) (letter_of id (inside_act n written helpers rows))) (situation n s) (situation n u)
inside_means t n id q written helpers rows s u e k h =
    let act : PlainAct = inside_act n written helpers rows in
    let led : InsideLeads (frame_of (letters_of t) n) written helpers rows s u = subst (λ (f : Columns). InsideLeads f written helpers rows s u) (sym (frame_is t n q e)) h in
    subst (λ (o : Option PlainAct). ActInside (letters_of t) o (situation n s) (situation n u)) (sym (act_of_letter (letters_of t) id act k))
    ((refl, proc_exists t n q e), (refl, proc_exists t n q e), led)

pub call_means : (t : TypedProgram) (n f id : ℕ) (q r : TypedProcedure) (helpers : ℕ) (rows : List LinearRow) (s u : List ℤ) → slice_get t.procs n ≡ Some q → slice_get t.procs f ≡ Some r →
    slice_get (letters_of t).acts id ≡ Some (call_act n f helpers rows) → CallLeads (frame_at t n) (frame_at t f) helpers rows s u →
    ActCalls (letters_of t) (act_of (letters_of t) (letter_of id (call_act n f helpers rows))) (situation n s) (situation f u)
call_means t n f id q r helpers rows s u e i k h =
    let act : PlainAct = call_act n f helpers rows in
    let led : CallLeads (frame_of (letters_of t) n) (frame_at t f) helpers rows s u = subst (λ (c : Columns). CallLeads c (frame_at t f) helpers rows s u) (sym (frame_is t n q e)) h in
    let both : CallLeads (frame_of (letters_of t) n) (frame_of (letters_of t) f) helpers rows s u = subst (λ (c : Columns). CallLeads (frame_of (letters_of t) n) c helpers rows s u) (sym (frame_is t f r i)) led in
    subst (λ (o : Option PlainAct). ActCalls (letters_of t) o (situation n s) (situation f u)) (sym (act_of_letter (letters_of t) id act k))
    ((refl, proc_exists t n q e), (refl, proc_exists t f r i), both)

pub back_means : (t : TypedProgram) (n f id back : ℕ) (q r : TypedProcedure) (helpers : ℕ) (rows : List LinearRow) (targets : List ℕ) (x s u : List ℤ) → slice_get t.procs n ≡ Some q → slice_get t.procs f ≡ Some r →
    slice_get (letters_of t).acts id ≡ Some (call_act n f helpers rows) → slice_get (letters_of t).acts back ≡ Some (back_act id targets) → BackLeads (frame_at t n) (frame_at t f) helpers rows targets x s u →
    ActReturns (letters_of t) (act_of (letters_of t) (letter_of back (back_act id targets))) (situation f x) (situation n s) (situation n u)
back_means t n f id back q r helpers rows targets x s u e i k j h =
    let led : BackLeads (frame_of (letters_of t) n) (frame_at t f) helpers rows targets x s u = subst (λ (c : Columns). BackLeads c (frame_at t f) helpers rows targets x s u) (sym (frame_is t n q e)) h in
    let both : BackLeads (frame_of (letters_of t) n) (frame_of (letters_of t) f) helpers rows targets x s u = subst (λ (c : Columns). BackLeads (frame_of (letters_of t) n) c helpers rows targets x s u) (sym (frame_is t f r i)) led in
    let returns : ReturnsFrom (letters_of t) targets (Some (call_act n f helpers rows)) (situation f x) (situation n s) (situation n u) =
    ((refl, proc_exists t f r i), (refl, proc_exists t n q e), (refl, proc_exists t n q e), both) in
    let named : ReturnsFrom (letters_of t) targets (slice_get (letters_of t).acts id) (situation f x) (situation n s) (situation n u) =
    subst (λ (o : Option PlainAct). ReturnsFrom (letters_of t) targets o (situation f x) (situation n s) (situation n u)) (sym k) returns in
    subst (λ (o : Option PlainAct). ActReturns (letters_of t) o (situation f x) (situation n s) (situation n u)) (sym (act_of_letter (letters_of t) back (back_act id targets) j)) named

-- ---- and back

pub inside_meant : (t : TypedProgram) (n : ℕ) (q : TypedProcedure) (written : List ℕ) (helpers : ℕ) (rows : List LinearRow) (s u : Situation) → slice_get t.procs n ≡ Some q →
    ActInside (letters_of t) (Some (inside_act n written helpers rows)) s u → (s.proc ≡ n) × (u.proc ≡ n) × InsideLeads (frame_at t n) written helpers rows s.values u.values
inside_meant t n q written helpers rows s u e h = (h.0.0, h.1.0, subst (λ (f : Columns). InsideLeads f written helpers rows s.values u.values) (frame_is t n q e) h.2)

pub call_meant : (t : TypedProgram) (n f : ℕ) (q r : TypedProcedure) (helpers : ℕ) (rows : List LinearRow) (s u : Situation) → slice_get t.procs n ≡ Some q → slice_get t.procs f ≡ Some r →
    ActCalls (letters_of t) (Some (call_act n f helpers rows)) s u → (s.proc ≡ n) × (u.proc ≡ f) × CallLeads (frame_at t n) (frame_at t f) helpers rows s.values u.values
call_meant t n f q r helpers rows s u e i h =
    let led : CallLeads (frame_at t n) (frame_of (letters_of t) f) helpers rows s.values u.values = subst (λ (c : Columns). CallLeads c (frame_of (letters_of t) f) helpers rows s.values u.values) (frame_is t n q e) h.2 in
    (h.0.0, h.1.0, subst (λ (c : Columns). CallLeads (frame_at t n) c helpers rows s.values u.values) (frame_is t f r i) led)

pub back_meant : (t : TypedProgram) (n f : ℕ) (q r : TypedProcedure) (helpers : ℕ) (rows : List LinearRow) (targets : List ℕ) (x s u : Situation) → slice_get t.procs n ≡ Some q → slice_get t.procs f ≡ Some r →
    ReturnsFrom (letters_of t) targets (Some (call_act n f helpers rows)) x s u →
    (x.proc ≡ f) × (s.proc ≡ n) × (u.proc ≡ n) × BackLeads (frame_at t n) (frame_at t f) helpers rows targets x.values s.values u.values
back_meant t n f q r helpers rows targets x s u e i h =
    let led : BackLeads (frame_at t n) (frame_of (letters_of t) f) helpers rows targets x.values s.values u.values =
    subst (λ (c : Columns). BackLeads c (frame_of (letters_of t) f) helpers rows targets x.values s.values u.values) (frame_is t n q e) h.3 in
    (h.0.0, h.1.0, h.2.0, subst (λ (c : Columns). BackLeads (frame_at t n) c helpers rows targets x.values s.values u.values) (frame_is t f r i) led)
