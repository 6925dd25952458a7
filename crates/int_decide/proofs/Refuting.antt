-- Refutations put together: the nodes of one goal in front of those of others, a leaf, a cut and cases.
use Rattle.std.proofs.Common.{◌≡◌, ◌≤◌, ℕ, suc, true, ℤ, List, [], ◌∷◌, ◌++◌, length, map, append_assoc, refl, sym, ap, subst, arith}
use Rattle.std.proofs.lemmas.List.{append-nil}
use Rattle.lin_rows.specs.declared.systems.System.{System}
use Rattle.lin_rows.specs.Rows.{LinearRow}
use Rattle.farkas_check.specs.Nodes.{PlainNode, leaf, cut, cases, is_tree}
use Rattle.farkas_check.specs.Refutes.{Goal, at_most, above, with_row, goal_with_member, goal_of, CasesRefute, Refute, Refutes}
use Rattle.farkas_check.specs.Trees.{Trees, leaf_tree, cut_tree, cases_tree, no_tree, one_more, tree_count, prefixes_of, cuts_on_branch, most_cuts}
use Rattle.farkas_check.proofs.TreeLaws.{is_tree_is}
use Rattle.fm_elim.specs.Worth.{Combines}
use Rattle.int_decide.specs.Numbers.{CasesFit, LeavesFit}
use Rattle.int_decide.specs.Worth.{IsTreeOf}

-- The list refutes the goals, in order, in front of any other nodes and goals, if its own numbers fit.
pub record RefuteFirst (ns : List PlainNode) (goals : List Goal) : Type 0 where
  pub fits : (rest : List PlainNode) (gs : List Goal) → LeavesFit (ns ++ rest) (goals ++ gs) → LeavesFit rest gs
  pub refutes : (rest : List PlainNode) (gs : List Goal) → LeavesFit (ns ++ rest) (goals ++ gs) → Refute rest gs → Refute (ns ++ rest) (goals ++ gs)

-- ---- what is refuted

pub none_first : RefuteFirst [] []
none_first = record { fits = λ rest gs h. h; refutes = λ rest gs h r. r }

-- one goal more in front
pub joined_first : (ns ms : List PlainNode) (g : Goal) (hs : List Goal) → RefuteFirst ns (g ∷ []) → RefuteFirst ms hs → RefuteFirst (ns ++ ms) (g ∷ hs)
joined_first ns ms g hs a b = record {
  fits = λ rest gs h.
      b.fits rest gs (a.fits (ms ++ rest) (hs ++ gs) (subst (λ (l : List PlainNode). LeavesFit l (g ∷ (hs ++ gs))) (append_assoc ns ms rest) h));
  refutes = λ rest gs h r.
      let k : LeavesFit (ns ++ (ms ++ rest)) (g ∷ (hs ++ gs)) = subst (λ (l : List PlainNode). LeavesFit l (g ∷ (hs ++ gs))) (append_assoc ns ms rest) h in
      subst (λ (l : List PlainNode). Refute l (g ∷ (hs ++ gs))) (sym (append_assoc ns ms rest))
      (a.refutes (ms ++ rest) (hs ++ gs) k (b.refutes rest gs (a.fits (ms ++ rest) (hs ++ gs) k) r));
}

pub leaf_first : (parts : List (ℕ × ℤ)) (g : Goal) → Combines g.rows parts → RefuteFirst (leaf parts ∷ []) (g ∷ [])
leaf_first parts g c = record {
  fits = λ rest gs h. h.1;
  refutes = λ rest gs h r. (
    record {
      ascends = c.ascends;
      each = c.each;
      multipliers_fit = h.0.multipliers_fit;
      columns_fit = h.0.columns_fit;
      bound_fits = h.0.bound_fits;
      columns_vanish = c.columns_vanish;
      bound_negative = c.bound_negative;
    },
    r,
  );
}

pub cut_first : (c : ℕ) (k : ℤ) (ns : List PlainNode) (g : Goal) → RefuteFirst ns (with_row g (at_most c k) ∷ with_row g (above c k) ∷ []) →
    RefuteFirst (cut c k ∷ ns) (g ∷ [])
cut_first c k ns g a = record {
  fits = λ rest gs h. a.fits rest gs h.2;
  refutes = λ rest gs h r. (h.0, h.1, a.refutes rest gs h.2 r);
}

pub cases_first : (ns : List PlainNode) (rows : List LinearRow) (members : List System) (groups : List (List System)) →
    RefuteFirst ns (map (goal_with_member (record { rows = rows; groups = groups })) members) →
    RefuteFirst (cases (length members) ∷ ns) (record { rows = rows; groups = members ∷ groups } ∷ [])
cases_first ns rows members groups a = record {
  fits = λ rest gs h. a.fits rest gs h;
  refutes = λ rest gs h r. (refl, a.refutes rest gs h r);
}

-- alone
pub refutes_alone : (ns : List PlainNode) (s : System) → RefuteFirst ns (goal_of s ∷ []) → LeavesFit ns (goal_of s ∷ []) → Refutes ns s
refutes_alone ns s a h =
    subst (λ (l : List PlainNode). Refute l (goal_of s ∷ [])) (append-nil ns)
    (a.refutes [] [] (subst (λ (l : List PlainNode). LeavesFit l (goal_of s ∷ [])) (sym (append-nil ns)) h) tt)

-- ---- which trees

-- the list is the prefix lists of so many trees, with d cuts on a branch at most
pub record AreTreesOf (d count : ℕ) (ns : List PlainNode) : Type 0 where
  pub trees : Trees
  pub counted : tree_count trees ≡ count
  pub prefixes : prefixes_of trees ≡ ns
  pub few_cuts : most_cuts trees ≤ d

pub leaf_is_tree : (d : ℕ) (parts : List (ℕ × ℤ)) → IsTreeOf d (leaf parts ∷ [])
leaf_is_tree d parts = record { tree = leaf_tree parts; prefix = refl; few_cuts = omega arith }

pub cut_is_tree : (d c : ℕ) (k : ℤ) (ns ms : List PlainNode) → IsTreeOf d ns → IsTreeOf d ms → IsTreeOf (suc d) (cut c k ∷ (ns ++ ms))
cut_is_tree d c k ns ms a b = record {
  tree = cut_tree c k a.tree b.tree;
  prefix = λ i. cut c k ∷ (a.prefix i ++ b.prefix i);
  few_cuts = let p : cuts_on_branch a.tree ≤ d = a.few_cuts in let q : cuts_on_branch b.tree ≤ d = b.few_cuts in omega arith;
}

pub no_trees : (d : ℕ) → AreTreesOf d 0 []
no_trees d = record { trees = no_tree; counted = refl; prefixes = refl; few_cuts = omega arith }

pub one_more_tree : (d count : ℕ) (ns ms : List PlainNode) → IsTreeOf d ns → AreTreesOf d count ms → AreTreesOf d (suc count) (ns ++ ms)
one_more_tree d count ns ms a b = record {
  trees = one_more a.tree b.trees;
  counted = ap (λ (n : ℕ). suc n) b.counted;
  prefixes = λ i. a.prefix i ++ b.prefixes i;
  few_cuts = let p : cuts_on_branch a.tree ≤ d = a.few_cuts in let q : most_cuts b.trees ≤ d = b.few_cuts in omega arith;
}

pub cases_are_tree : (d count : ℕ) (ns : List PlainNode) → AreTreesOf d count ns → IsTreeOf d (cases count ∷ ns)
cases_are_tree d count ns a = record {
  tree = cases_tree a.trees;
  prefix = λ i. cases (a.counted i) ∷ a.prefixes i;
  few_cuts = a.few_cuts;
}

-- ---- what refutes has numbers that fit

cases_fit : (refute fit : List Goal → Type 0) (n : ℕ) (rows : List LinearRow) (groups : List (List System)) → ((goals : List Goal) → refute goals → fit goals) →
    CasesRefute refute n rows groups → CasesFit fit rows groups
cases_fit refute fit n rows [] f r = tt
cases_fit refute fit n rows (members ∷ groups) f r = f (map (goal_with_member (record { rows = rows; groups = groups })) members) r.1

pub refuted_fits : (ns : List PlainNode) (gs : List Goal) → Refute ns gs → LeavesFit ns gs
refuted_fits [] gs r = tt
refuted_fits (n ∷ ns) [] r = tt
refuted_fits (leaf parts ∷ ns) (g ∷ gs) r = (record { multipliers_fit = r.0.multipliers_fit; columns_fit = r.0.columns_fit; bound_fits = r.0.bound_fits }, refuted_fits ns gs r.1)
refuted_fits (cut c k ∷ ns) (g ∷ gs) r = (r.0, r.1, refuted_fits ns (with_row g (at_most c k) ∷ with_row g (above c k) ∷ gs) r.2)
refuted_fits (cases n ∷ ns) (g ∷ gs) r =
    cases_fit (λ goals. Refute ns (goals ++ gs)) (λ goals. LeavesFit ns (goals ++ gs)) n g.rows g.groups (λ goals k. refuted_fits ns (goals ++ gs) k) r

-- a prefix list of a tree is counted as one
pub tree_is_counted : (d : ℕ) (ns : List PlainNode) → IsTreeOf d ns → is_tree ns ≡ true
tree_is_counted d ns t = (is_tree_is ns).1 (t.tree, t.prefix)
