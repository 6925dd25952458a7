-- Lists of values that may be missing, along a loop.
use Rattle.std.proofs.Common.{◌≡◌, List, [], ◌∷◌, ◌++◌, Option, None, Some, refl, sym, ap, ◌∙◌, append_assoc}
use Rattle.std.proofs.lemmas.List.{append-nil}
use Rattle.std.specs.Option.{option_map}
use Rattle.explained_proof.specs.RowExpressions.Options.{in_front}
use Rattle.explained_proof.specs.RowExpressions.Rows.{both_said}
use Rattle.boogie_tree.specs.Tree.{Expression}

-- What a whole list is: none, where the rest is none, else what is there in front of the rest.
pub record Gathers {X : Type 0} (whole : Option (List X)) (so_far : List X) (rest : Option (List X)) : Type 0 where
  pub same : whole ≡ option_map (λ xs. so_far ++ xs) rest

pub gather_begins : {X : Type 0} (w : Option (List X)) → Gathers w [] w
gather_begins None = record { same = refl }
gather_begins (Some xs) = record { same = refl }

-- one more is there
pub gather_more : {X : Type 0} (w : Option (List X)) (so_far : List X) (x : X) (r : Option (List X)) → Gathers w so_far (in_front (Some x) r) → Gathers w (so_far ++ x ∷ []) r
gather_more w so_far x None s = record { same = s.same }
gather_more w so_far x (Some xs) s = record { same = s.same ∙ ap Some (sym (append_assoc so_far (x ∷ []) xs)) }

-- one is missing
pub gather_stops : {X : Type 0} (w : Option (List X)) (so_far : List X) (r : Option (List X)) → Gathers w so_far (in_front None r) → w ≡ None
gather_stops w so_far r s = s.same

pub gather_ends : {X : Type 0} (w : Option (List X)) (so_far : List X) → Gathers w so_far (Some []) → w ≡ Some so_far
gather_ends w so_far s = s.same ∙ ap Some (append-nil so_far)

-- several more are there
pub gather_all : (w : Option (List Expression)) (so_far es : List Expression) (r : Option (List Expression)) → Gathers w so_far (both_said (Some es) r) → Gathers w (so_far ++ es) r
gather_all w so_far es None s = record { same = s.same }
gather_all w so_far es (Some xs) s = record { same = s.same ∙ ap Some (sym (append_assoc so_far es xs)) }

pub gather_none : (w : Option (List Expression)) (so_far : List Expression) (r : Option (List Expression)) → Gathers w so_far (both_said None r) → w ≡ None
gather_none w so_far r s = s.same
