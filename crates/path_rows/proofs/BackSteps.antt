-- Drafts that read a return: the versions before its call are those that were saved last.
use Rattle.std.proofs.Common.{◌≡◌, ◌∙◌, ℕ, ◌+◌, List, [], ◌∷◌, ◌++◌, length, Option, None, Some, refl, sym, ap, subst, arith}
use Rattle.std.specs.Prelude.{map, reverse}
use Rattle.std.specs.Global.{Vec}
use Rattle.lin_rows.specs.Rows.{LinearRow}
use Rattle.letter_acts.specs.Acts.{PlainAct, inside_act, call_act, back_act, Alphabet}
use Rattle.path_rows.specs.declared.parts.Made.{Made}
use Rattle.path_rows.specs.declared.drafts.Draft.{Draft}
use Rattle.path_rows.specs.Versions.{PathStage, rowless_part, return_part}
use Rattle.path_rows.specs.Stages.{BackFitsFrom, returned_from, FitsBefore}
use Rattle.path_rows.specs.Paths.{repeated}
use Rattle.path_rows.specs.Drafts.{Added, Reads, stage_of}
use Rattle.path_rows.proofs.LoopLemmas.{same_stage, saved_pushed}

-- the versions of the frames that wait, the innermost first
abbrev pub innermost_first : List (Vec ℕ) → List (List ℕ)
innermost_first saved = reverse (map (λ (v : Vec ℕ). v.items) saved)

pub fits_last : (al : Alphabet) (targets : List ℕ) (o : Option PlainAct) (exit : List ℕ) (old saved : List (Vec ℕ)) (before : Vec ℕ) → old ≡ saved ++ before ∷ [] →
    FitsBefore al targets o exit (innermost_first old) → BackFitsFrom al targets o exit before.items
fits_last al targets o exit old saved before e h = subst (FitsBefore al targets o exit) (saved_pushed saved old before e) h

-- what the return makes
back_makes : (al : Alphabet) (targets : List ℕ) (o : Option PlainAct) (made : ℕ) (here before : List ℕ) (rest : List (List ℕ)) → BackFitsFrom al targets o here before →
    rowless_part (record { made = made; here = returned_from al targets o here before; saved = rest }) ≡ return_part al targets o (record { made = made; here = here; saved = before ∷ rest })
back_makes al targets None made here before rest f = absurd f
back_makes al targets (Some (inside_act q written helpers rows)) made here before rest f = absurd f
back_makes al targets (Some (call_act caller callee helpers rows)) made here before rest f = refl
back_makes al targets (Some (back_act c more)) made here before rest f = absurd f

pub back_reads : (al : Alphabet) (targets : List ℕ) (o : Option PlainAct) (number : ℕ) (old new : Draft) (saved : Vec (Vec ℕ)) (before : Vec ℕ) (m : Made) → old.saved.items ≡ saved.items ++ before ∷ [] →
    BackFitsFrom al targets o old.here.items before.items → m.rows.items ≡ [] → m.columns ≡ 0 → m.here.items ≡ returned_from al targets o old.here.items before.items →
    Added m.rows.items m.columns m.here.items number (record old { saved = saved }) new → Reads (return_part al targets o (stage_of old)) number old new
back_reads al targets o number old new saved before m e f rows columns here a =
    let rest : List (List ℕ) = innermost_first saved.items in
    let after : PathStage = record { made = old.made; here = returned_from al targets o old.here.items before.items; saved = rest } in
    let whole : rowless_part after ≡ return_part al targets o (stage_of old) =
    back_makes al targets o old.made old.here.items before.items rest f ∙
    ap (λ (l : List (List ℕ)). return_part al targets o (record { made = old.made; here = old.here.items; saved = l })) (sym (saved_pushed saved.items old.saved.items before e)) in
    subst (λ p. Reads p number old new) whole (record {
      stage = same_stage (stage_of new) after (a.made ∙ ap (λ (n : ℕ). old.made + n) columns ∙ (let z : old.made + 0 ≡ old.made = omega arith in z)) (a.here ∙ here) (ap innermost_first a.saved);
      rows = a.rows ∙ ap (λ (l : List LinearRow). old.rows.items ++ l) rows;
      row_at = a.row_at ∙ ap (λ (l : List LinearRow). old.row_at.items ++ repeated number (length l)) rows;
      column_at = a.column_at ∙ ap (λ (n : ℕ). old.column_at.items ++ repeated number n) columns;
      states = a.states;
    })
