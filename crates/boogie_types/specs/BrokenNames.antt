-- Which rule on names a program breaks, and where.
use Rattle.std.specs.Prelude.{◌≡◌, ℕ, true, false, ◌&&◌, List, ◌∷◌, ◌++◌, map, Option, None, Some, Contains}
use Rattle.std.specs.Option.{is_none}
use Rattle.std.specs.Str.{bytes_eq}
use Rattle.boogie_tree.specs.declared.span.Span.{Span}
use Rattle.boogie_tree.specs.declared.tree.Name.{Name}
use Rattle.boogie_tree.specs.declared.tree.Op.{Op}
use Rattle.boogie_tree.specs.Tree.{Expression, Var, Old, Not, Neg, Bin, Guard, Cond, Invariant, Statement, Assert, Assume, Havoc, Assign, Call, If, While, Break, Goto, Label, Block, Then, Requires, Ensures, Procedure, ProcedureBody, Declaration}
use Rattle.typed_tree.specs.declared.fault.TypeFault.{TypeFault}
use Rattle.typed_tree.specs.declared.fault.TypeFault.TheVariants as fault
use Rattle.typed_tree.specs.TypedTree.{TypedProgram}
use Rattle.typed_tree.specs.Scope.{Scope, axiom_scope, requires_scope, body_scope}
use Rattle.typed_tree.specs.TypingRules.Rules.{keeps_typing}
use Rattle.typed_tree.specs.TypingRules.BrokenTyping.{IsProgramBroken}
use Rattle.boogie_types.specs.Meanings.{column_of, number_from, variable_info}
use Rattle.boogie_types.specs.Naming.{NamingPlace, label_number, levels, procedure_number, in_loop, label_of}
use Rattle.boogie_types.specs.Sorted.{declared_globals, global_names, axioms_of, procedures_of, implementations_of, first_named, body_of, declared_locals, variable_names, labels_if_any, modified_in}
use Rattle.boogie_types.specs.Resolved.{are_sets, are_implementations, repeats, modified_number, body_place, named_program, entry_number}

-- a name of an expression that means nothing there
pub data IsUnknownIn (s : Scope) : Expression → TypeFault → Type 0 where
  unknown : (at : Span) (x : Name) → column_of s x.text ≡ None → IsUnknownIn s (Var at x) (fault.Unknown at)
  in_old : (at : Span) (e : Expression) (f : TypeFault) → IsUnknownIn s e f → IsUnknownIn s (Old at e) f
  in_not : (at : Span) (e : Expression) (f : TypeFault) → IsUnknownIn s e f → IsUnknownIn s (Not at e) f
  in_neg : (at : Span) (e : Expression) (f : TypeFault) → IsUnknownIn s e f → IsUnknownIn s (Neg at e) f
  in_left : (at : Span) (op : Op) (a b : Expression) (f : TypeFault) → IsUnknownIn s a f → IsUnknownIn s (Bin at op a b) f
  in_right : (at : Span) (op : Op) (a b : Expression) (f : TypeFault) → IsUnknownIn s b f → IsUnknownIn s (Bin at op a b) f

-- one of these expressions has such a name
pub data AreUnknownIn (s : Scope) : List Expression → TypeFault → Type 0 where
  one_of : (es : List Expression) (e : Expression) (f : TypeFault) → Contains es e → IsUnknownIn s e f → AreUnknownIn s es f

-- a name of the list before it is the same
abbrev pub IsSecond : List Name → Name → Type 0
IsSecond xs x =
    (before : List Name) × (after : List Name) × (y : Name)
    × (xs ≡ before ++ (x ∷ after)) × Contains before y × (bytes_eq x.text y.text ≡ true)

-- a name of a list of targets that means nothing there, or stands there a second time
pub data IsTargetWrong (s : Scope) : List Name → TypeFault → Type 0 where
  unknown_target : (xs : List Name) (x : Name) → Contains xs x → column_of s x.text ≡ None → IsTargetWrong s xs (fault.Unknown x.span)
  second_target : (xs : List Name) (x : Name) → IsSecond xs x → IsTargetWrong s xs (fault.Twice x.span)

pub data IsGuardUnknown (s : Scope) : Guard → TypeFault → Type 0 where
  in_guard : (e : Expression) (f : TypeFault) → IsUnknownIn s e f → IsGuardUnknown s (Cond e) f

mutual
  -- a name of a statement, or of one inside it, that means nothing there
  pub data IsMisnamed : NamingPlace → Option (List ℕ) → Statement → TypeFault → Type 0 where
    asserted : (p : NamingPlace) (before : Option (List ℕ)) (at : Span) (e : Expression) (f : TypeFault) → IsUnknownIn p.scope e f → IsMisnamed p before (Assert at e) f
    assumed : (p : NamingPlace) (before : Option (List ℕ)) (at : Span) (e : Expression) (f : TypeFault) → IsUnknownIn p.scope e f → IsMisnamed p before (Assume at e) f
    chosen : (p : NamingPlace) (before : Option (List ℕ)) (at : Span) (xs : List Name) (f : TypeFault) → IsTargetWrong p.scope xs f → IsMisnamed p before (Havoc at xs) f
    assigned : (p : NamingPlace) (before : Option (List ℕ)) (at : Span) (xs : List Name) (es : List Expression) (f : TypeFault) → IsTargetWrong p.scope xs f → IsMisnamed p before (Assign at xs es) f
    valued : (p : NamingPlace) (before : Option (List ℕ)) (at : Span) (xs : List Name) (es : List Expression) (f : TypeFault) → AreUnknownIn p.scope es f → IsMisnamed p before (Assign at xs es) f
    unknown_callee : (p : NamingPlace) (before : Option (List ℕ)) (at : Span) (xs : List Name) (g : Name) (es : List Expression) → procedure_number p g ≡ None → IsMisnamed p before (Call at xs g es) (fault.Unknown g.span)
    returned : (p : NamingPlace) (before : Option (List ℕ)) (at : Span) (xs : List Name) (g : Name) (es : List Expression) (f : TypeFault) → IsTargetWrong p.scope xs f → IsMisnamed p before (Call at xs g es) f
    passed : (p : NamingPlace) (before : Option (List ℕ)) (at : Span) (xs : List Name) (g : Name) (es : List Expression) (f : TypeFault) → AreUnknownIn p.scope es f → IsMisnamed p before (Call at xs g es) f
    branched : (p : NamingPlace) (before : Option (List ℕ)) (at : Span) (g : Guard) (a b : Block) (f : TypeFault) → IsGuardUnknown p.scope g f → IsMisnamed p before (If at g a b) f
    in_then : (p : NamingPlace) (before : Option (List ℕ)) (at : Span) (g : Guard) (a b : Block) (f : TypeFault) → IsMisnamedIn p None a f → IsMisnamed p before (If at g a b) f
    in_else : (p : NamingPlace) (before : Option (List ℕ)) (at : Span) (g : Guard) (a b : Block) (f : TypeFault) → IsMisnamedIn p None b f → IsMisnamed p before (If at g a b) f
    looping : (p : NamingPlace) (before : Option (List ℕ)) (at : Span) (g : Guard) (is : List Invariant) (b : Block) (f : TypeFault) → IsGuardUnknown p.scope g f → IsMisnamed p before (While at g is b) f
    in_invariant : (p : NamingPlace) (before : Option (List ℕ)) (at : Span) (g : Guard) (is : List Invariant) (b : Block) (i : Invariant) (f : TypeFault) → Contains is i → IsUnknownIn p.scope i.cond f → IsMisnamed p before (While at g is b) f
    in_loop_body : (p : NamingPlace) (before : Option (List ℕ)) (at : Span) (g : Guard) (is : List Invariant) (b : Block) (f : TypeFault) → IsMisnamedIn (in_loop p before) None b f → IsMisnamed p before (While at g is b) f
    no_such_loop : (p : NamingPlace) (before : Option (List ℕ)) (at : Span) (x : Name) → levels p (Some x) ≡ None → IsMisnamed p before (Break at (Some x)) (fault.BadGoto x.span)
    no_such_label : (p : NamingPlace) (before : Option (List ℕ)) (at : Span) (xs : List Name) (x : Name) → Contains xs x → label_number p x ≡ None → IsMisnamed p before (Goto at xs) (fault.BadGoto x.span)
    unlisted_label : (p : NamingPlace) (before : Option (List ℕ)) (x : Name) → label_number p x ≡ None → IsMisnamed p before (Label x) (fault.BadGoto x.span)

  -- of a list whose first statement the label stands directly before
  pub data IsMisnamedIn : NamingPlace → Option (List ℕ) → Block → TypeFault → Type 0 where
    first : (p : NamingPlace) (before : Option (List ℕ)) (s : Statement) (b : Block) (f : TypeFault) → IsMisnamed p before s f → IsMisnamedIn p before (Then s b) f
    later : (p : NamingPlace) (before : Option (List ℕ)) (s : Statement) (b : Block) (f : TypeFault) → IsMisnamedIn p (label_of s) b f → IsMisnamedIn p before (Then s b) f

-- a name of a procedure's specifications or body that means nothing there, or a constant in a modifies list
pub data IsProcedureMisnamed (ds : List Declaration) (p : Procedure) : TypeFault → Type 0 where
  unknown_modified : (x : Name) → Contains (modified_in p.specs) x → number_from 0 x.text (declared_globals ds) ≡ None → IsProcedureMisnamed ds p (fault.Unknown x.span)
  constant_modified : (x : Name) (n : ℕ) → Contains (modified_in p.specs) x → number_from 0 x.text (declared_globals ds) ≡ Some n → modified_number (declared_globals ds) x.text ≡ None → IsProcedureMisnamed ds p (fault.NotAssignable x.span)
  required : (i : Invariant) (f : TypeFault) → Contains p.specs (Requires i) → IsUnknownIn (requires_scope (declared_globals ds) (map (variable_info true) p.params)) i.cond f → IsProcedureMisnamed ds p f
  ensured : (i : Invariant) (f : TypeFault) → Contains p.specs (Ensures i) → IsUnknownIn (body_scope (declared_globals ds) (declared_locals p None)) i.cond f → IsProcedureMisnamed ds p f
  in_body : (b : ProcedureBody) (f : TypeFault) → body_of ds p ≡ Some b → IsMisnamedIn (body_place ds p b) None b.stmts f → IsProcedureMisnamed ds p f

-- A rule is broken, and the fault names it and where.
pub data IsRuleBroken (ds : List Declaration) : TypeFault → Type 0 where
  second_global : (x : Name) → IsSecond (global_names ds) x → IsRuleBroken ds (fault.Twice x.span)
  second_procedure : (x : Name) → IsSecond (map (λ p. p.name) (procedures_of ds)) x → IsRuleBroken ds (fault.Twice x.span)
  second_variable : (p : Procedure) (x : Name) → Contains (procedures_of ds) p → IsSecond (variable_names p (body_of ds p)) x → IsRuleBroken ds (fault.Twice x.span)
  second_label : (p : Procedure) (x : Name) → Contains (procedures_of ds) p → IsSecond (labels_if_any (body_of ds p)) x → IsRuleBroken ds (fault.Twice x.span)
  second_implementation : (x : Name) → IsSecond (map (λ i. i.name) (implementations_of ds)) x → IsRuleBroken ds (fault.Twice x.span)
  second_body : (i p : Procedure) → Contains (implementations_of ds) i → first_named i.name.text (procedures_of ds) ≡ Some p → is_none p.body ≡ false → IsRuleBroken ds (fault.Twice i.name.span)
  unknown_implemented : (i : Procedure) → Contains (implementations_of ds) i → first_named i.name.text (procedures_of ds) ≡ None → IsRuleBroken ds (fault.Unknown i.name.span)
  not_repeated : (i p : Procedure) → Contains (implementations_of ds) i → first_named i.name.text (procedures_of ds) ≡ Some p → repeats i p ≡ false → IsRuleBroken ds (fault.Mismatch i.name.span)
  in_axiom : (e : Expression) (f : TypeFault) → Contains (axioms_of ds) e → IsUnknownIn (axiom_scope (declared_globals ds)) e f → IsRuleBroken ds f
  in_procedure : (p : Procedure) (f : TypeFault) → Contains (procedures_of ds) p → IsProcedureMisnamed ds p f → IsRuleBroken ds f
  in_typing : (t : TypedProgram) (f : TypeFault) → named_program ds ≡ Some t → IsProgramBroken t f → IsRuleBroken ds f

-- No rule is broken but that on the entry: the program with its names replaced keeps the typing rules.
pub data IsOtherwiseRight (ds : List Declaration) : Type 0 where
  right : (t : TypedProgram) → are_sets ds && are_implementations ds ≡ true → named_program ds ≡ Some t → keeps_typing t ≡ true → IsOtherwiseRight ds

-- the entry is no procedure with a body
pub data HasNoEntry (ds : List Declaration) (entry : List ℕ) : Type 0 where
  unknown_entry : entry_number ds entry ≡ None → HasNoEntry ds entry
  no_body : (p : Procedure) → first_named entry (procedures_of ds) ≡ Some p → body_of ds p ≡ None → HasNoEntry ds entry

-- The fault is right: its rule is broken where it says. That on the entry comes only where no other is broken.
abbrev pub IsTypeFault : List Declaration → List ℕ → TypeFault → Type 0
IsTypeFault ds entry fault.NoEntry = IsOtherwiseRight ds × HasNoEntry ds entry
IsTypeFault ds entry fault.Memory = Unit {0}
IsTypeFault ds entry f = IsRuleBroken ds f
