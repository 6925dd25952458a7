-- What is known of a program from what the code answers.
use Rattle.std.proofs.Common.{◌≡◌, true, false, ◌⊎◌, inl, inr, ap, sym, subst, Result, Ok, Err, IfErr}
use Rattle.std.specs.Result.{IsOk, IsErr}
use Rattle.std.proofs.lemmas.Bool.{false≢true}
use Rattle.typed_tree.specs.declared.fault.TypeFault.{TypeFault}
use Rattle.typed_tree.specs.declared.fault.TypeFault.TheVariants as fault
use Rattle.typed_tree.specs.TypedTree.{TypedProgram}
use Rattle.typed_tree.specs.TypingRules.Rules.{keeps_typing}
use Rattle.typed_tree.specs.TypingRules.BrokenTyping.{IsProgramBroken, IsTypingFault}
use Rattle.typed_tree.specs.TypingRules.Ties.Judged.{Judges}
use Rattle.typed_tree.proofs.TypingRules.BrokenLaws.{program_refuted}

pub kept_of : {T : Type 0} (r : Result T TypeFault) (t : TypedProgram) → Judges r (keeps_typing t) (IsProgramBroken t) → IsOk r → keeps_typing t ≡ true
kept_of (Ok x) t h i = h
kept_of (Err f) t h i = absurd (false≢true i)

broken_fault : (t : TypedProgram) (f : TypeFault) → IsProgramBroken t f → IsTypingFault t f
broken_fault t (fault.Unknown at) h = h
broken_fault t (fault.Twice at) h = h
broken_fault t (fault.Mismatch at) h = h
broken_fault t (fault.NotAssignable at) h = h
broken_fault t (fault.NotModified at) h = h
broken_fault t fault.NoEntry h = h
broken_fault t (fault.ZeroDivisor at) h = h
broken_fault t (fault.NonLinear at) h = h
broken_fault t (fault.BadGoto at) h = h
broken_fault t (fault.TooBig at) h = h
broken_fault t fault.Memory h = tt

pub fault_of : {T : Type 0} (r : Result T TypeFault) (t : TypedProgram) → Judges r (keeps_typing t) (IsProgramBroken t) → IfErr r (λ f. IsTypingFault t f)
fault_of (Ok x) t h = tt
fault_of (Err f) t (inl m) = subst (λ (g : TypeFault). IsTypingFault t g) (sym m) tt
fault_of (Err f) t (inr b) = broken_fault t f b

pub only_of : {T : Type 0} (r : Result T TypeFault) (t : TypedProgram) → Judges r (keeps_typing t) (IsProgramBroken t) → IsErr r →
    (r ≡ Err fault.Memory) ⊎ (keeps_typing t ≡ false)
only_of (Ok x) t h i = absurd (false≢true i)
only_of (Err f) t (inl m) i = inl (ap (λ (g : TypeFault). Err g) m)
only_of (Err f) t (inr b) i = inr (program_refuted t f b)
