-- Sound steps, by the numbers of their nodes.
use Rattle.std.specs.Prelude.{◌<◌, ℕ, List, length, slice_get}
use Rattle.nwa_base.specs.declared.letters.Letter.{Letter}
use Rattle.nwa_base.specs.Members.{Member}
use Rattle.letter_acts.specs.Invariant.{Graph}
use Rattle.proof_names.specs.declared.outlines.Listed.TheVariants.{Inside, Call, Back}
use Rattle.proof_names.specs.declared.outlines.NamedStep.{NamedStep}
use Rattle.proof_names.specs.declared.outlines.NamedStep.TheVariants as steps
use Rattle.proof_names.specs.Outlines.{OutlineNode, Sketch}
use Rattle.proof_check.specs.Steps.{IsNode, Lists, InsideIsSound, CallIsSound, BackIsSound, StepIsSound, ReturnIsSound}
use Rattle.proof_check.specs.Ties.Plans.{IsOfNode}

-- predicate r is the target of a listed triple of the inside letter whose source is true or in node n
abbrev pub InsideGives : Sketch → ℕ → ℕ → ℕ → Type 0
InsideGives s l n r = (q : ℕ) × Lists s.triples (Inside q l r) × IsOfNode s.nodes q n

-- the same of a call letter
abbrev pub CallGives : Sketch → ℕ → ℕ → ℕ → Type 0
CallGives s l n r = (q : ℕ) × Lists s.triples (Call q l r) × IsOfNode s.nodes q n

-- the same of a return letter, with a source in the exit x and one in node c before the call
abbrev pub BackGives : Sketch → ℕ → ℕ → ℕ → ℕ → Type 0
BackGives s l x c r = (a : ℕ) × (b : ℕ) × Lists s.triples (Back a b l r) × IsOfNode s.nodes a x × IsOfNode s.nodes b c

-- each of the predicates is the target of such a triple
abbrev pub InsideIsShown : Sketch → ℕ → ℕ → List ℕ → Type 0
InsideIsShown s l n preds = (r : ℕ) → Member preds r → InsideGives s l n r

abbrev pub CallIsShown : Sketch → ℕ → ℕ → List ℕ → Type 0
CallIsShown s l n preds = (r : ℕ) → Member preds r → CallGives s l n r

abbrev pub BackIsShown : Sketch → ℕ → ℕ → ℕ → List ℕ → Type 0
BackIsShown s l x c preds = (r : ℕ) → Member preds r → BackGives s l x c r

-- the nodes of the step or back exist
abbrev pub StepExists : Sketch → NamedStep → Type 0
StepExists s (steps.Step n l m) = (n < length s.nodes) × (m < length s.nodes)
StepExists s (steps.Back x c l m) = (x < length s.nodes) × (c < length s.nodes) × (m < length s.nodes)

-- the step from node n by the letter to node m is sound, as one by an inside letter
abbrev pub InsideIsSoundAt : Graph → Sketch → ℕ → Letter → ℕ → Type 0
InsideIsSoundAt g s n a m = (before end : OutlineNode) → IsNode s n before → IsNode s m end → InsideIsSound g s a before end

-- the same as one by a call letter
abbrev pub CallIsSoundAt : Graph → Sketch → ℕ → Letter → ℕ → Type 0
CallIsSoundAt g s n a m = (before end : OutlineNode) → IsNode s n before → IsNode s m end → CallIsSound g s a before m end

-- the back from the exit x, with node c before the call, by the return letter to node m is sound
abbrev pub BackIsSoundAt : Graph → Sketch → ℕ → ℕ → Letter → ℕ → Type 0
BackIsSoundAt g s x c a m =
    (exit before end : OutlineNode) → IsNode s x exit → IsNode s c before → IsNode s m end → BackIsSound g s a exit c before end

-- the step from node n by letter l to node m is sound, by its letter's act
abbrev pub StepIsSoundAt : Graph → Sketch → ℕ → ℕ → ℕ → Type 0
StepIsSoundAt g s n l m = (before end : OutlineNode) → IsNode s n before → IsNode s m end → StepIsSound g s l before m end (slice_get g.acts l)

-- the same of a back
abbrev pub ReturnIsSoundAt : Graph → Sketch → ℕ → ℕ → ℕ → ℕ → Type 0
ReturnIsSoundAt g s x c l m =
    (exit before end : OutlineNode) → IsNode s x exit → IsNode s c before → IsNode s m end → ReturnIsSound g s l exit c before end (slice_get g.acts l)
