-- What a chain is worth, in one row and cut into groups.
use Rattle.std.proofs.Common.{◌≡◌, ◌∙◌, ℕ, zero, suc, ◌≤◌, ℤ, Bool, true, false, List, [], ◌∷◌, ◌++◌, length, take, drop, Option, None, Some, refl, sym, ap, arith, length-drop}
use Rattle.std.specs.Prelude.{nat_le, if◌then◌else◌}
use Rattle.std.specs.Option.{option_map}
use Rattle.std.proofs.lemmas.List.{take-append-drop}
use Rattle.boogie_tree.specs.declared.tree.Op.{Op}
use Rattle.boogie_tree.specs.Tree.{Expression}
use Rattle.explained_proof.specs.BuiltExpressions.Building.{operation, row_of, added, in_groups, chained_within}
use Rattle.explained_proof.specs.BuiltExpressions.Laws.{ChainsAreRows}

-- what two worths make, where they are there
abbrev pub both : {X : Type 0} → (X → X → X) → Option X → Option X → Option X
both made None o = o
both made (Some x) None = Some x
both made (Some x) (Some y) = Some (made x y)

-- what operands in a row are worth
abbrev pub row_worth : {X : Type 0} → (Expression → X) → Op → List Expression → Option X
row_worth worth op es = option_map worth (row_of op es)

module _ (X : Type 0) (worth : Expression → X) (op : Op) (made : X → X → X) (step : (a b : Expression) → worth (operation op a b) ≡ made (worth a) (worth b))
    (joins : (x y z : X) → made (made x y) z ≡ made x (made y z)) where
  both-assoc : (a b c : Option X) → both made (both made a b) c ≡ both made a (both made b c)
  both-assoc None b c = refl
  both-assoc (Some x) None c = refl
  both-assoc (Some x) (Some y) None = refl
  both-assoc (Some x) (Some y) (Some z) = ap Some (joins x y z)

  pub row_first : (e : Expression) (es : List Expression) → row_worth worth op (e ∷ es) ≡ both made (Some (worth e)) (row_worth worth op es)
  row_first e [] = refl
  row_first e (g ∷ es) =
      row_first (operation op e g) es ∙ ap (λ x. both made (Some x) (row_worth worth op es)) (step e g) ∙
      both-assoc (Some (worth e)) (Some (worth g)) (row_worth worth op es) ∙ ap (both made (Some (worth e))) (sym (row_first g es))

  row_append : (es gs : List Expression) → row_worth worth op (es ++ gs) ≡ both made (row_worth worth op es) (row_worth worth op gs)
  row_append [] gs = refl
  row_append (e ∷ es) gs =
      row_first e (es ++ gs) ∙ ap (both made (Some (worth e))) (row_append es gs) ∙
      sym (both-assoc (Some (worth e)) (row_worth worth op es) (row_worth worth op gs)) ∙ ap (λ o. both made o (row_worth worth op gs)) (sym (row_first e es))

  added_worth : (o : Option Expression) (es : List Expression) → row_worth worth op (added o es) ≡ both made (option_map worth o) (row_worth worth op es)
  added_worth None es = refl
  added_worth (Some e) es = row_first e es

  groups_worth : (n : ℕ) (es : List Expression) → length es ≤ n → row_worth worth op (in_groups n op es) ≡ row_worth worth op es
  unfolding in_groups
  groups_worth zero [] h = refl
  groups_worth zero (e ∷ es) h = absurd (omega (arith, h))
  groups_worth (suc n) [] h = refl
  groups_worth (suc n) (e ∷ es) h =
      added_worth (row_of op (take 16 (e ∷ es))) (in_groups n op (drop 16 (e ∷ es))) ∙
      ap (both made (row_worth worth op (take 16 (e ∷ es)))) (groups_worth n (drop 16 (e ∷ es)) (omega (arith, length-drop 16 (e ∷ es), h))) ∙
      sym (row_append (take 16 (e ∷ es)) (drop 16 (e ∷ es))) ∙ ap (row_worth worth op) (take-append-drop 16 (e ∷ es))

  chosen_worth : (n : ℕ) (es : List Expression) (b : Bool) → ((gs : List Expression) → option_map worth (chained_within n op gs) ≡ row_worth worth op gs) →
      option_map worth (if b then row_of op es else chained_within n op (in_groups (length es) op es)) ≡ row_worth worth op es
  chosen_worth n es true deeper = refl
  chosen_worth n es false deeper = deeper (in_groups (length es) op es) ∙ groups_worth (length es) es (omega arith)

  pub within_worth : (n : ℕ) (es : List Expression) → option_map worth (chained_within n op es) ≡ row_worth worth op es
  unfolding chained_within
  within_worth zero es = refl
  within_worth (suc n) es = chosen_worth n es (nat_le (length es) 16) (within_worth n)

pub chains_worth : ChainsAreRows
chains_worth worth op made step joins es = within_worth ℤ worth op made step joins (length es) es
