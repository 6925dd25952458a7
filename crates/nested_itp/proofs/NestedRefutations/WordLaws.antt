-- What is known along an accepted word: which versions its letters name, and which the frames have.
use Rattle.std.proofs.Common.{◌≡◌, ◌⊎◌, inl, inr, ℕ, ◌<◌, ◌≤◌, List, [], ◌∷◌, length, drop, refl, sym, ap, subst, arith, Option, None, Some}
use Rattle.std.specs.Prelude.{slice_get}
use Rattle.nwa_base.specs.declared.letters.Kind.{Kind}
use Rattle.nwa_base.specs.declared.letters.Kind.TheVariants as kinds
use Rattle.nwa_base.specs.declared.letters.Letter.{Letter}
use Rattle.nwa_base.specs.Members.{Member}
use Rattle.boogie_tree.specs.declared.tree.VarInfo.{VarInfo}
use Rattle.letter_acts.specs.Frames.{globals_from, globals_of}
use Rattle.letter_acts.specs.Acts.{PlainAct, inside_act, call_act, back_act, Alphabet, frame_of, act_of, kind_of}
use Rattle.letter_acts.specs.Invariant.{Graph, IsGraph, alphabet_of}
use Rattle.letter_acts.proofs.KnownLemmas.{frames_laid_out, act_found}
use Rattle.path_rows.specs.Versions.{PathStage, part_of, return_part, back_part}
use Rattle.path_rows.specs.Stages.{GoesOnBy, BackFitsFrom, FitsBefore}
use Rattle.path_rows.specs.Drafts.{CanGoOn}
use Rattle.path_rows.proofs.LayoutLemmas.{laid_out}
use Rattle.path_rows.proofs.GoingLemmas.{Acts, acts_of, inside_goes, call_goes, back_goes, goes_first, goes_next}
use Rattle.nested_itp.proofs.NestedRefutations.LiveLaws.{Known, StepBy, LetterSteps, WordNames, inside_comes, entered_known, back_comes}

-- each frame begins with so many constants and globals
abbrev pub HaveGlobals : Graph → ℕ → Type 0
HaveGlobals g globals = (p : ℕ) → p < length g.frames → length (globals_of (frame_of (alphabet_of g) p)) ≡ globals

pub global_count : (g : Graph) → IsGraph g → (n : ℕ) × HaveGlobals g n
global_count g ok =
    let lay = frames_laid_out g ok in
    (count lay.0, λ p l. (laid_out lay.0 (frame_of (alphabet_of g) p) (lay.1 p l)).global_count)
  where
    count : List VarInfo → ℕ
    count globals = length (globals_from 0 globals)

act_kind : (g : Graph) (a : Letter) (act : PlainAct) → act_of (alphabet_of g) a ≡ Some act → a.kind ≡ kind_of act
act_kind g a act e = ap (λ (b : Letter). b.kind) (act_found (alphabet_of g) a act e).1

-- of a return, whose call has this act
return_steps : (al : Alphabet) (globals : ℕ) (targets : List ℕ) (p : PathStage) (o : Option PlainAct) → ((q : ℕ) → q < length al.frames → length (globals_of (frame_of al q)) ≡ globals) →
    FitsBefore al targets o p.here p.saved → (p.made ≤ (return_part al targets o p).after.made) × StepBy globals kinds.Back p (return_part al targets o p).after
return_steps al globals targets p o have fits = by_saved p.saved refl fits
  where
    by_act : (v : List ℕ) (saved : List (List ℕ)) → p.saved ≡ v ∷ saved → (o : Option PlainAct) → BackFitsFrom al targets o p.here v →
        (p.made ≤ (return_part al targets o p).after.made) × StepBy globals kinds.Back p (return_part al targets o p).after
    by_act v saved e None f = absurd f
    by_act v saved e (Some (inside_act q written helpers rows)) f = absurd f
    by_act v saved e (Some (back_act c more)) f = absurd f
    by_act v saved e (Some (call_act caller callee helpers rows)) f =
        subst (λ (l : List (List ℕ)). (p.made ≤ (back_part (frame_of al caller) (frame_of al callee) targets p.made p.here l).after.made) ×
        StepBy globals kinds.Back p (back_part (frame_of al caller) (frame_of al callee) targets p.made p.here l).after) (sym e) (
          omega arith,
          (
            v,
            e,
            λ x m. known (subst (λ (n : ℕ). Member p.here x ⊎ Member (drop n v) x) (have caller f.0)
                (back_comes (frame_of al caller) (frame_of al callee) targets p.here v f.2.results_in x m)),
          ),
        )
      where
        known : {x : ℕ} → Member p.here x ⊎ Member (drop globals v) x → Known p p.made x ⊎ Member (drop globals v) x
        known (inl m) = inl (inr m)
        known (inr m) = inr m

    by_saved : (saved : List (List ℕ)) → p.saved ≡ saved → FitsBefore al targets o p.here saved → (p.made ≤ (return_part al targets o p).after.made) × StepBy globals kinds.Back p (return_part al targets o p).after
    by_saved [] e f = absurd f
    by_saved (v ∷ saved) e f = by_act v saved e o f

letter_steps : (g : Graph) → IsGraph g → (globals : ℕ) → HaveGlobals g globals → (a : Letter) (p : PathStage) → GoesOnBy g a p → LetterSteps (alphabet_of g) globals a.kind (act_of (alphabet_of g) a) p
letter_steps g ok globals have a p go =
    let k : Acts g a = acts_of g ok a p go in
    subst (λ (o : Option PlainAct). LetterSteps (alphabet_of g) globals a.kind o p) (sym k.is)
    (subst (λ (d : Kind). LetterSteps (alphabet_of g) globals d (Some k.act) p) (sym (act_kind g a k.act k.is)) (by_act k.act k.there))
  where
    by_act : (act : PlainAct) → slice_get g.acts a.id ≡ Some act → LetterSteps (alphabet_of g) globals (kind_of act) (Some act) p
    by_act (inside_act q written helpers rows) e =
        let f = inside_goes g ok a p q written helpers rows go e in
        (f.fits.named.within, omega arith, (refl, λ x m. inside_comes (frame_of (alphabet_of g) q) written helpers rows p x m))
    by_act (call_act caller callee helpers rows) e =
        let f = call_goes g ok a p caller callee helpers rows go e in
        ((f.fits.named.within, f.fits.variables, f.fits.variable_count), omega arith, (refl, λ x m. entered_known (frame_of (alphabet_of g) callee) helpers p x m))
    by_act (back_act c targets) e =
        let f = back_goes g ok a p c targets go e in
        let s = return_steps (alphabet_of g) globals targets p (slice_get g.acts c) have f.ready in
        (tt, s.0, s.1)

pub word_names : (g : Graph) → IsGraph g → (globals : ℕ) → HaveGlobals g globals → (p : PathStage) (w : List Letter) → CanGoOn g p w → WordNames (alphabet_of g) globals p w
word_names g ok globals have p [] h = tt
word_names g ok globals have p (a ∷ w) h =
    (letter_steps g ok globals have a p (goes_first g p a w h), word_names g ok globals have (part_of (alphabet_of g) a p).after w (goes_next g ok p a w h))
