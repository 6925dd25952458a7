-- Frames that share their globals: those of the first one.
use Rattle.std.proofs.Common.{◌≡◌, ◌↔◌, ◌∙◌, ℕ, List, [], ◌∷◌, Some, slice_get, take, sym, ap, subst}
use Rattle.std.specs.List.{AllByRecursion, prefix_len}
use Rattle.boogie_tree.specs.declared.tree.VarInfo.{VarInfo}
use Rattle.letter_acts.specs.declared.frames.Frame.{Frame}
use Rattle.letter_acts.specs.Frames.{Columns, IsFrame, is_global}
use Rattle.letter_acts.specs.Acts.{plain_frames}
use Rattle.letter_acts.specs.Invariant.{AreFrames}
use Rattle.letter_acts.specs.Checks.{infos}
use Rattle.letter_acts.proofs.LayoutLemmas.{heads_are}

globals_known : (globals : List VarInfo) (frames : List Frame) (first : Frame) → Some first ≡ slice_get frames 0 → AllByRecursion (IsFrame globals) (plain_frames frames) →
    infos (take (prefix_len is_global first.columns.items) first.columns.items) ≡ globals
globals_known globals [] first e h = absurd (cc e)
globals_known globals (f ∷ fs) first e h =
    let same : f ≡ first = cc e in
    heads_are globals first.columns.items (subst (λ (x : Frame). IsFrame globals x.columns.items) same h.0)

pub frames_share : (frames : List Frame) (first : Frame) (heads : Columns) (Q : Type 0) → Some first ≡ slice_get frames 0 →
    heads ≡ take (prefix_len is_global first.columns.items) first.columns.items →
    (Q ↔ AllByRecursion (IsFrame (infos heads)) (plain_frames frames)) → Q ↔ AreFrames (plain_frames frames)
frames_share frames first heads Q e k h = (
  λ q. record { globals = infos heads; laid_out = h.0 q },
  λ f. h.1 (subst (λ (gs : List VarInfo). AllByRecursion (IsFrame gs) (plain_frames frames)) (sym (ap infos k ∙ globals_known f.globals frames first e f.laid_out)) f.laid_out),
)

pub heads_slice : (n : ℕ) (columns items : Columns) → n ≡ prefix_len is_global columns → columns ≡ items → take n columns ≡ take (prefix_len is_global items) items
heads_slice n columns items e k = ap (λ m. take m columns) e ∙ ap (λ xs. take (prefix_len is_global xs) xs) k
