-- The rows of a word hold at a point that leads by each letter to the next.
use Rattle.std.proofs.Common.{◌≡◌, ℕ, zero, suc, ℤ, List, [], ◌∷◌, Option, None, Some, refl, subst}
use Rattle.std.specs.Prelude.{slice_get}
use Rattle.std.specs.List.{AllByRecursion}
use Rattle.lin_rows.specs.Rows.{Holds}
use Rattle.nwa_base.specs.declared.letters.Letter.{Letter}
use Rattle.letter_acts.specs.Frames.{Columns}
use Rattle.letter_acts.specs.Acts.{PlainAct, inside_act, call_act, back_act, Alphabet, frame_of, act_of}
use Rattle.letter_acts.specs.Invariant.{Graph, IsGraph, alphabet_of, IsActed, CallIsActed}
use Rattle.letter_acts.proofs.KnownLemmas.{act_found, frames_laid_out}
use Rattle.path_rows.specs.Versions.{PathStage, part_rows, part_of, act_part, return_part, back_part}
use Rattle.path_rows.specs.Paths.{path_along}
use Rattle.path_rows.specs.Solutions.{ActObeyed, ObeyedAlong}
use Rattle.path_rows.proofs.ListLemmas.{all_joined}
use Rattle.path_rows.proofs.InsideLaws.{inside_said}
use Rattle.path_rows.proofs.CallLaws.{call_said}

pub all_get : {X : Type 0} (P : X → Type 0) (xs : List X) (i : ℕ) (x : X) → slice_get xs i ≡ Some x → AllByRecursion P xs → P x
all_get P [] i x e h = absurd (cc)
all_get P (y ∷ ys) zero x e h = let k : y ≡ x = cc in subst P k h.0
all_get P (y ∷ ys) (suc i) x e h = all_get P ys i x e h.1

-- what a letter's act keeps
pub acted : (g : Graph) → IsGraph g → (a : Letter) (act : PlainAct) → act_of (alphabet_of g) a ≡ Some act → IsActed (alphabet_of g) act
acted g ok a act e = all_get (IsActed (alphabet_of g)) g.acts a.id act (act_found (alphabet_of g) a act e).0 ok.acts

-- a return has no rows
no_back_rows : (point : ℕ → ℤ) (caller callee : Columns) (targets : List ℕ) (made : ℕ) (here : List ℕ) (saved : List (List ℕ)) →
    AllByRecursion (Holds point) (part_rows (back_part caller callee targets made here saved))
no_back_rows point caller callee targets made here [] = tt
no_back_rows point caller callee targets made here (v ∷ saved) = tt

no_return_rows : (point : ℕ → ℤ) (al : Alphabet) (targets : List ℕ) (o : Option PlainAct) (p : PathStage) → AllByRecursion (Holds point) (part_rows (return_part al targets o p))
no_return_rows point al targets None p = tt
no_return_rows point al targets (Some (inside_act q written helpers rows)) p = tt
no_return_rows point al targets (Some (call_act caller callee helpers rows)) p = no_back_rows point (frame_of al caller) (frame_of al callee) targets p.made p.here p.saved
no_return_rows point al targets (Some (back_act c more)) p = tt

act_said : (g : Graph) → IsGraph g → (point : ℕ → ℤ) (a : Letter) (p : PathStage) (o : Option PlainAct) → act_of (alphabet_of g) a ≡ o → ActObeyed point (alphabet_of g) o p →
    AllByRecursion (Holds point) (part_rows (act_part (alphabet_of g) o p))
act_said g ok point a p None e h = absurd h
act_said g ok point a p (Some (inside_act q written helpers rows)) e h =
    inside_said point (alphabet_of g) q written helpers rows p (acted g ok a (inside_act q written helpers rows) e) h
act_said g ok point a p (Some (call_act caller callee helpers rows)) e h =
    let k : CallIsActed (alphabet_of g) caller callee helpers rows = acted g ok a (call_act caller callee helpers rows) e in
    let lay = frames_laid_out g ok in
    call_said point lay.0 (alphabet_of g) caller callee helpers rows p k (lay.1 caller k.caller_exists) (lay.1 callee k.callee_exists) h
act_said g ok point a p (Some (back_act c targets)) e h = no_return_rows point (alphabet_of g) targets (slice_get g.acts c) p

pub said : (g : Graph) → IsGraph g → (point : ℕ → ℤ) (w : List Letter) (n : ℕ) (p : PathStage) → ObeyedAlong point (alphabet_of g) p w →
    AllByRecursion (Holds point) (path_along (alphabet_of g) n p w).rows
said g ok point [] n p h = tt
said g ok point (a ∷ w) n p h =
    let al = alphabet_of g in
    (all_joined (Holds point) (part_rows (part_of al a p)) (path_along al (suc n) (part_of al a p).after w).rows).1
    (act_said g ok point a p (act_of al a) refl h.0, said g ok point w (suc n) (part_of al a p).after h.1)
