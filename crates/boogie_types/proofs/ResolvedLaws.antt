-- The typed program that a program is, and the faults where it is none.
use Rattle.std.proofs.Common.{◌≡◌, ℕ, ◌+◌, Bool, true, false, cond, ◌&&◌, ◌⊎◌, inl, inr, ⊎_elim, List, [], ◌∷◌, Option, None, Some, Result, Ok, Err, IfErr, slice_get, refl, ap, sym, ◌∙◌}
use Rattle.std.specs.Option.{option_and_then}
use Rattle.std.specs.Result.{IsErr}
use Rattle.std.specs.List.{position_from}
use Rattle.std.specs.Str.{bytes_eq}
use Rattle.std.proofs.lemmas.Bool.{and_parts, and_from, false≢true}
use Rattle.std.proofs.lemmas.Option.{cond_some}
use Rattle.boogie_tree.specs.Tree.{Procedure, ProcedureBody, Declaration}
use Rattle.typed_tree.specs.declared.fault.TypeFault.{TypeFault}
use Rattle.typed_tree.specs.declared.fault.TypeFault.TheVariants as fault
use Rattle.typed_tree.specs.TypedTree.{TypedProgram}
use Rattle.typed_tree.specs.TypingRules.Rules.{meets, keeps_typing}
use Rattle.typed_tree.specs.TypingRules.Shape.{has_shape}
use Rattle.typed_tree.specs.TypingRules.ValidProgram.{has_entry, is_typed}
use Rattle.typed_tree.proofs.TypingRules.BrokenLaws.{program_refuted}
use Rattle.boogie_types.specs.BrokenNames.{right, HasNoEntry, unknown_entry, no_body, IsTypeFault}
use Rattle.boogie_types.specs.Ties.DeclarationFaults.{IsRefused}
use Rattle.boogie_types.specs.Ties.Numbers.{IsMemoryFault}
use Rattle.boogie_types.specs.Ties.Replaced.{IsReplaced, from_entry, if_entry}
use Rattle.boogie_types.specs.Resolved.{are_named, are_sets, are_implementations, named_program, entry_number, if_typed, resolved_program}
use Rattle.boogie_types.specs.Sorted.{procedures_of, first_named, body_of}
use Rattle.boogie_types.proofs.Shape.{named_has_shape}
use Rattle.boogie_types.proofs.Excluded.{entry_is_first, has_entry_kept, type_faults_exclude}

module _ (ds : List Declaration) (entry : List ℕ) where
  pub refused_is_fault : (f : TypeFault) → IsRefused ds f → IsTypeFault ds entry f
  refused_is_fault (fault.Unknown s) h = h
  refused_is_fault (fault.Twice s) h = h
  refused_is_fault (fault.Mismatch s) h = h
  refused_is_fault (fault.NotAssignable s) h = h
  refused_is_fault (fault.NotModified s) h = h
  refused_is_fault fault.NoEntry h = absurd h
  refused_is_fault (fault.ZeroDivisor s) h = h
  refused_is_fault (fault.NonLinear s) h = h
  refused_is_fault (fault.BadGoto s) h = h
  refused_is_fault (fault.TooBig s) h = h
  refused_is_fault fault.Memory h = tt

  pub memory_is_fault : (f : TypeFault) → IsMemoryFault f → IsTypeFault ds entry f
  memory_is_fault (fault.Unknown s) h = absurd h
  memory_is_fault (fault.Twice s) h = absurd h
  memory_is_fault (fault.Mismatch s) h = absurd h
  memory_is_fault (fault.NotAssignable s) h = absurd h
  memory_is_fault (fault.NotModified s) h = absurd h
  memory_is_fault fault.NoEntry h = absurd h
  memory_is_fault (fault.ZeroDivisor s) h = absurd h
  memory_is_fault (fault.NonLinear s) h = absurd h
  memory_is_fault (fault.BadGoto s) h = absurd h
  memory_is_fault (fault.TooBig s) h = absurd h
  memory_is_fault fault.Memory h = tt

-- ---- the entry

-- there is no number where there is no procedure of that name
unnumbered : (name : List ℕ) (i : ℕ) (ps : List Procedure) → first_named name ps ≡ None → position_from (λ p. bytes_eq name p.name.text) i ps ≡ None
unnumbered name i [] e = refl
unnumbered name i (p ∷ ps) e = by_head (bytes_eq name p.name.text) e (unnumbered name (i + 1) ps)
  where
    by_head : (b : Bool) → cond b (Some p) (first_named name ps) ≡ None →
        (first_named name ps ≡ None → position_from (λ q. bytes_eq name q.name.text) (i + 1) ps ≡ None) →
        cond b (Some i) (position_from (λ q. bytes_eq name q.name.text) (i + 1) ps) ≡ None
    by_head true h rest = absurd (false≢true (let x : false ≡ true = cc in x))
    by_head false h rest = rest h

bodiless : (ds : List Declaration) (entry : List ℕ) (n : ℕ) (o : Option Procedure) → slice_get (procedures_of ds) n ≡ o → entry_number ds entry ≡ Some n →
    meets (λ p. meets (λ (b : ProcedureBody). true) (body_of ds p)) o ≡ false → HasNoEntry ds entry
bodiless ds entry n None g e h =
    unknown_entry (unnumbered entry 0 (procedures_of ds) (sym (entry_is_first ds entry n e) ∙ g))
bodiless ds entry n (Some p) g e h = no_body p (sym (entry_is_first ds entry n e) ∙ g) (gone (body_of ds p) h)
  where
    gone : (b : Option ProcedureBody) → meets (λ (c : ProcedureBody). true) b ≡ false → b ≡ None
    gone None k = refl
    gone (Some c) k = absurd (false≢true (sym k))

no_entry : (ds : List Declaration) (entry : List ℕ) (t : TypedProgram) → named_program ds ≡ Some t → (o : Option ℕ) → entry_number ds entry ≡ o →
    if_entry t o ≡ None → HasNoEntry ds entry
no_entry ds entry t d None e h = unknown_entry e
no_entry ds entry t d (Some n) e h =
    bodiless ds entry n (slice_get (procedures_of ds) n) refl e (sym (has_entry_kept ds t n d) ∙ refused (has_entry (from_entry t n)) h)
  where
    refused : (b : Bool) → cond b (Some n) None ≡ None → b ≡ false
    refused true k = absurd (false≢true (let x : false ≡ true = cc in x))
    refused false k = refl

pub no_entry_is_fault : (ds : List Declaration) (entry : List ℕ) (t : TypedProgram) → IsReplaced ds t → keeps_typing t ≡ true →
    if_entry t (entry_number ds entry) ≡ None → IsTypeFault ds entry fault.NoEntry
no_entry_is_fault ds entry t r k h = (right t r.sorted r.named k, no_entry ds entry t r.named (entry_number ds entry) refl h)

-- what is known of an entry that was found
pub entry_found : (t : TypedProgram) (o : Option ℕ) (n : ℕ) → if_entry t o ≡ Some n → (o ≡ Some n) × (has_entry (from_entry t n) ≡ true)
entry_found t None n h = cc
entry_found t (Some m) n h =
    let p = cond_some (has_entry (from_entry t m)) m n h in
    (ap (λ (k : ℕ). Some k) p.1, ap (λ (k : ℕ). has_entry (from_entry t k)) (sym p.1) ∙ p.0)

-- ---- the typed program

module _ (ds : List Declaration) (entry : List ℕ) (t : TypedProgram) (n : ℕ) (named : are_named ds ≡ true) (r : IsReplaced ds t) (k : keeps_typing t ≡ true)
    (found : if_entry t (entry_number ds entry) ≡ Some n) where
  pub typed_from_entry : is_typed (from_entry t n) ≡ true
  typed_from_entry =
      let sets = and_parts (are_sets ds) (are_implementations ds) r.sorted in
      let u : TypedProgram = from_entry t n in
      and_from (has_shape u) (keeps_typing u && has_entry u) (named_has_shape ds t named sets.0 r.named)
      (and_from (keeps_typing u) (has_entry u) k (entry_found t (entry_number ds entry) n found).1)

  pub resolved_from_entry : resolved_program ds entry ≡ Some (from_entry t n)
  resolved_from_entry =
      ap (λ (b : Bool). cond b (option_and_then (λ u. option_and_then (if_typed u) (entry_number ds entry)) (named_program ds)) None) r.sorted
      ∙ ap (λ (o : Option TypedProgram). option_and_then (λ u. option_and_then (if_typed u) (entry_number ds entry)) o) r.named
      ∙ ap (λ (o : Option ℕ). option_and_then (if_typed t) o) (entry_found t (entry_number ds entry) n found).0
      ∙ ap (λ (b : Bool). cond b (Some (from_entry t n)) None) typed_from_entry

-- ---- refusals

memory_or_other : (f : TypeFault) → (f ≡ fault.Memory) ⊎ (f ≡ fault.Memory → ⊥)
memory_or_other (fault.Unknown s) = inr (λ e. cc)
memory_or_other (fault.Twice s) = inr (λ e. cc)
memory_or_other (fault.Mismatch s) = inr (λ e. cc)
memory_or_other (fault.NotAssignable s) = inr (λ e. cc)
memory_or_other (fault.NotModified s) = inr (λ e. cc)
memory_or_other fault.NoEntry = inr (λ e. cc)
memory_or_other (fault.ZeroDivisor s) = inr (λ e. cc)
memory_or_other (fault.NonLinear s) = inr (λ e. cc)
memory_or_other (fault.BadGoto s) = inr (λ e. cc)
memory_or_other (fault.TooBig s) = inr (λ e. cc)
memory_or_other fault.Memory = inl refl

-- a right fault other than want of memory leaves no typed program
pub faults_exclude : {T : Type 0} (ds : List Declaration) (entry : List ℕ) (r : Result T TypeFault) → IfErr r (λ f. IsTypeFault ds entry f) → IsErr r →
    (r ≡ Err fault.Memory) ⊎ (resolved_program ds entry ≡ None)
faults_exclude ds entry (Ok x) h e = absurd (false≢true e)
faults_exclude {T} ds entry (Err f) h e =
    ⊎_elim
    (λ (m : f ≡ fault.Memory). inl (ap (λ (g : TypeFault). Err g) m))
    (λ (other : f ≡ fault.Memory → ⊥). inr (type_faults_exclude ds entry f program_refuted other h))
    (memory_or_other f)
