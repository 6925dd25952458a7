-- What one step of the search does to the goals that wait, and what is shown of one value.
use Rattle.std.proofs.Common.{◌≡◌, ℕ, suc, ◌+◌, ℤ, Bool, List, [], ◌∷◌, ◌++◌, Result, Ok, Err, length, reverse, refl, sym, ap, ◌∙◌, subst, arith}
use Rattle.std.specs.Prelude.{IsTrue, IfOk}
use Rattle.std.specs.declared.alloc.AllocError.{AllocError}
use Rattle.std.proofs.lemmas.List.{reverse-append, map-append, length-append}
use Rattle.lin_rows.specs.Rows.{LinearRow}
use Rattle.farkas_check.specs.declared.refutations.Node.TheVariants.{Cut}
use Rattle.farkas_check.specs.Nodes.{cut, plain, plain_nodes}
use Rattle.farkas_check.specs.Walks.{goal_at_hand, goals_left}
use Rattle.farkas_check.specs.Refutes.{at_most, above, with_row}
use Rattle.fm_elim.specs.Worth.{IsSolvable}
use Rattle.int_decide.specs.declared.search.Search.{Search}
use Rattle.int_decide.specs.Ties.Picking.{IsApart}
use Rattle.int_decide.specs.Ties.Searching.{Task, tasks, standing_of, IsPaired, after_broken, after_groups, whole_groups, StepFits, Opens, Goes}
use Rattle.int_decide.specs.Ties.Alike.{StandsAfter, GoesOn}

-- ---- a goal is cut

module _ (left c : ℕ) (k : ℤ) (old new : Search) (nodes : new.nodes.items ≡ old.nodes.items ++ Cut c k ∷ [])
    (walk : goals_left new.walk ≡ with_row (goal_at_hand old.walk) (at_most c k) ∷ with_row (goal_at_hand old.walk) (above c k) ∷ goals_left old.walk)
    (lefts : new.lefts.items ≡ (old.lefts.items ++ left ∷ []) ++ left ∷ []) where
  pub cut_stands : new.gap ≡ old.gap → standing_of new ≡ after_broken (suc left) (goal_at_hand old.walk) (standing_of old) c k
  cut_stands gap =
      let n : plain_nodes new.nodes.items ≡ plain_nodes old.nodes.items ++ cut c k ∷ [] = ap plain_nodes nodes ∙ map-append plain old.nodes.items (Cut c k ∷ []) in
      let l : reverse new.lefts.items ≡ left ∷ left ∷ reverse old.lefts.items =
      ap reverse lefts ∙ reverse-append (old.lefts.items ++ left ∷ []) (left ∷ []) ∙ ap (λ (xs : List ℕ). left ∷ xs) (reverse-append old.lefts.items (left ∷ [])) in
      λ i. record { gap = gap i; nodes = n i; tasks = tasks (l i) (walk i) }

  pub cut_paired : IsPaired old → IsPaired new
  cut_paired p =
      let a : length new.lefts.items ≡ length (old.lefts.items ++ left ∷ []) + length (left ∷ []) = ap length lefts ∙ length-append (old.lefts.items ++ left ∷ []) (left ∷ []) in
      let b : length (old.lefts.items ++ left ∷ []) ≡ length old.lefts.items + length (left ∷ []) = length-append old.lefts.items (left ∷ []) in
      let o : length (left ∷ []) ≡ 1 = refl in
      let w : length (goals_left new.walk) ≡ suc (suc (length (goals_left old.walk))) = ap length walk in
      let q : length old.lefts.items ≡ length (goals_left old.walk) = p in
      omega arith

-- ---- a group is opened

pub opens_goes : (n : ℕ) (t : Task) (old new : Search) → Opens t old new → StepFits n t.goal × Goes n t old new
opens_goes n t old new o = (
  λ e. let k : [] ≡ o.members ∷ o.groups = sym e ∙ o.taken in absurd (cc),
  record {
    no_point = ap (whole_groups n t.goal.rows) o.taken;
    worth = λ e. let k : [] ≡ o.members ∷ o.groups = sym e ∙ o.taken in absurd (cc);
    stands = o.stands ∙ sym (ap (after_groups n t (standing_of old)) o.taken);
    paired = o.paired;
  },
)

pub opens_goes_on : (n : ℕ) (t : Task) (old new : Search) → Opens t old new → GoesOn n t old new
opens_goes_on n t old new o = record {
  stands = subst (λ gs. StandsAfter n t (standing_of old) (standing_of new) gs) (sym o.taken) o.stands;
  paired = o.paired;
}

-- ---- a value that is not whole

pub apart_found : (rows mid : List LinearRow) (c : ℕ) (k : ℤ) (result : Result Bool AllocError) → mid ≡ rows → (IsSolvable (rows ++ at_most c k ∷ []) → ⊥) →
    IfOk result (λ yes. IsTrue yes → IsSolvable (mid ++ above c k ∷ []) → ⊥) → IfOk result (λ yes. IsTrue yes → IsApart rows c k)
apart_found rows mid c k (Ok b) e n h = λ t. record {
  not_below = n;
  not_above = λ s. h t (subst (λ (rs : List LinearRow). IsSolvable (rs ++ above c k ∷ [])) (sym e) s);
}
apart_found rows mid c k (Err f) e n h = tt
