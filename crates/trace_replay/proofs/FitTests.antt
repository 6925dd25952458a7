-- Whether the values that a step reads fit can be told.
use Rattle.std.proofs.Common.{◌^◌, ◌<◌, ℤ, Bool, true, false, ◌⊎◌, inl, inr, List, [], ◌∷◌, Option, None, Some, slice_get, neg_ℤ, unsigned_abs, arith}
use Rattle.std.proofs.lemmas.Bool.{cases_lt}
use Rattle.math_facts.specs.Fits.{Fits}
use Rattle.boogie_tree.specs.declared.tree.Column.{Column}
use Rattle.boogie_tree.specs.declared.tree.Column.TheVariants as columns
use Rattle.typed_tree.specs.TypedTree.{TypedExpression, Lit, Truth, Var, Old, Not, Neg, Bin, TypedProgram}
use Rattle.typed_tree.specs.Values.{State, member, column_value, at_entry, value, operation_value, PartsFit}
use Rattle.boogie_run.specs.BoogiePoints.Actions.{Action, Check, Suppose, Demand, Write, Guess, Test, Pick, Jump, Enter, Keep, Grant, Finish, Leave, action_at}
use Rattle.boogie_run.specs.Configurations.{Config, state_of}
use Rattle.boogie_run.specs.Steps.{passed_state, granted_state}
use Rattle.boogie_run.specs.Fitting.{AllFit, ArgumentFits, PassedColumnFits, PassedPartsFit, ActionFits, is_choosing, Unless, NextFits}

-- it holds, or it does not
abbrev pub Either : Type 0 → Type 0
Either P = P ⊎ (P → ⊥)

both : {P Q : Type 0} → Either P → Either Q → Either (P × Q)
both (inl p) (inl q) = inl (p, q)
both (inl p) (inr n) = inr (λ h. n h.1)
both (inr n) q = inr (λ h. n h.0)

all_three : {P Q R : Type 0} → Either P → Either Q → Either R → Either (P × Q × R)
all_three (inl p) (inl q) (inl r) = inl (p, q, r)
all_three (inl p) (inl q) (inr n) = inr (λ h. n h.2)
all_three (inl p) (inr n) r = inr (λ h. n h.1)
all_three (inr n) q r = inr (λ h. n h.0)

fits_or_not : (z : ℤ) → Either (Fits z)
fits_or_not z = elim (cases_lt (unsigned_abs z) (2 ^ 127)) [ inl less ↦ inl less | inr more ↦ inr (λ (less : unsigned_abs z < 2 ^ 127). omega arith) ]

parts_fit_or_not : (s : State) (e : TypedExpression) → Either (PartsFit s e)
parts_fit_or_not s (Lit at n) = fits_or_not n
parts_fit_or_not s (Truth at b) = inl tt
parts_fit_or_not s (Var at c) = fits_or_not (column_value s c)
parts_fit_or_not s (Old at e) = parts_fit_or_not (at_entry s) e
parts_fit_or_not s (Not at e) = parts_fit_or_not s e
parts_fit_or_not s (Neg at e) = both (parts_fit_or_not s e) (fits_or_not (neg_ℤ (value s e)))
parts_fit_or_not s (Bin at op a b) = all_three (parts_fit_or_not s a) (parts_fit_or_not s b) (fits_or_not (operation_value op (value s a) (value s b)))

all_fit_or_not : (s : State) (es : List TypedExpression) → Either (AllFit s es)
all_fit_or_not s [] = inl tt
all_fit_or_not s (e ∷ es) = both (parts_fit_or_not s e) (all_fit_or_not s es)

argument_fits_or_not : (s : State) (e : Option TypedExpression) → Either (ArgumentFits s e)
argument_fits_or_not s None = inl tt
argument_fits_or_not s (Some e) = parts_fit_or_not s e

passed_column_fits_or_not : (s : State) (args : List TypedExpression) (p : State) (c : Column) → Either (PassedColumnFits s args p c)
passed_column_fits_or_not s args p (columns.Global n) = fits_or_not (member p.globals n)
passed_column_fits_or_not s args p (columns.Old n) = fits_or_not (member p.old n)
passed_column_fits_or_not s args p (columns.Local n) = argument_fits_or_not s (slice_get args n)

passed_parts_fit_or_not : (s : State) (args : List TypedExpression) (p : State) (e : TypedExpression) → Either (PassedPartsFit s args p e)
passed_parts_fit_or_not s args p (Lit at n) = fits_or_not n
passed_parts_fit_or_not s args p (Truth at b) = inl tt
passed_parts_fit_or_not s args p (Var at c) = passed_column_fits_or_not s args p c
passed_parts_fit_or_not s args p (Old at e) = passed_parts_fit_or_not s args (at_entry p) e
passed_parts_fit_or_not s args p (Not at e) = passed_parts_fit_or_not s args p e
passed_parts_fit_or_not s args p (Neg at e) = both (passed_parts_fit_or_not s args p e) (fits_or_not (neg_ℤ (value p e)))
passed_parts_fit_or_not s args p (Bin at op a b) =
    all_three (passed_parts_fit_or_not s args p a) (passed_parts_fit_or_not s args p b) (fits_or_not (operation_value op (value p a) (value p b)))

action_fits_or_not : (t : TypedProgram) (c : Config) (a : Action) → Either (ActionFits t c a)
action_fits_or_not t c (Check id at e next) = parts_fit_or_not (state_of c) e
action_fits_or_not t c (Suppose e next) = parts_fit_or_not (state_of c) e
action_fits_or_not t c (Demand id at e args next) = passed_parts_fit_or_not (state_of c) args (passed_state (state_of c) args) e
action_fits_or_not t c (Write cs es next) = all_fit_or_not (state_of c) es
action_fits_or_not t c (Guess x next) = inl tt
action_fits_or_not t c (Test e hit miss) = parts_fit_or_not (state_of c) e
action_fits_or_not t c (Pick ways) = inl tt
action_fits_or_not t c (Jump next) = inl tt
action_fits_or_not t c (Enter f args) = all_fit_or_not (state_of c) args
action_fits_or_not t c (Keep f args x next) = all_fit_or_not (state_of c) args
action_fits_or_not t c (Grant f args e next) = both (all_fit_or_not (state_of c) args) (parts_fit_or_not (granted_state t c f args) e)
action_fits_or_not t c (Finish f args targets next) = all_fit_or_not (state_of c) args
action_fits_or_not t c Leave = inl tt

unless : (b : Bool) (P : Type 0) → Either P → Either (Unless b P)
unless true P p = inl tt
unless false P p = p

-- so it is of the next step of a configuration
pub next_fits_or_not : (t : TypedProgram) (c : Config) → Either (NextFits t c)
next_fits_or_not t c =
    unless (is_choosing t c) (ActionFits t c (action_at t c.top.proc c.top.point)) (action_fits_or_not t c (action_at t c.top.proc c.top.point))
